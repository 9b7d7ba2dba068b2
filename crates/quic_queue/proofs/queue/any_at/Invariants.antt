use Rattle.std.proofs.Common.{◌≡◌, ℕ, Bool}
use Rattle.std.specs.List.{list_any}
use Rattle.quic_queue.specs.SendOrder.{ids_of, Tells}
use Rattle.quic_queue.specs.Levels.{entries_of}
use Rattle.quic_queue.proofs.queue.any_at.Given as goal

abbrev pub invariant-loop-ids : goal.invariant-loop-ids
invariant-loop-ids g l =
    goal.F-IsAlwaysCallable g l.test × (goal.iterator-loop-ids g).can_next l.ids-iterator × (goal.iterator-loop-ids g).is_finite l.ids-iterator
    × ((p : ℕ → Bool) → Tells (goal.F-post g l.fn.test) p → list_any p (ids_of (entries_of l.ids-iterator)) ≡ list_any p (ids_of (entries_of l.fn.levels.entries)))
