use Rattle.std.proofs.Common.{◌≡◌, ℕ, Bool, true}
use Rattle.std.specs.Prelude.{◌==◌}
use Rattle.std.specs.List.{list_any}
use Rattle.quic_queue.specs.SendOrder.{Tells}
use Rattle.std.specs.HashSet.{contains}
use Rattle.quic_streams.proofs.pending.any_other.Given as goal

abbrev pub invariant-loop-id : goal.invariant-loop-id
invariant-loop-id g l =
    goal.F-IsAlwaysCallable g l.test × ((id : ℕ) → list_any (λ k. id == k) l.id-iterator ≡ true → contains ◌==◌ l.fn.ids id ≡ true)
    × ((p : ℕ → Bool) → Tells (goal.F-post g l.fn.test) p → (id : ℕ) → contains ◌==◌ l.fn.ids id ≡ true → p id ≡ true → list_any (λ k. id == k) l.id-iterator ≡ true)
