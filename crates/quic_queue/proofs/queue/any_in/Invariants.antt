use Rattle.std.proofs.Common.{◌≡◌, ℕ, Bool}
use Rattle.std.specs.List.{list_any}
use Rattle.std.specs.VecDeque.Iter.{deque_iter_rest}
use Rattle.quic_queue.specs.SendOrder.{Tells}
use Rattle.quic_queue.proofs.queue.any_in.Given as goal

abbrev pub invariant-loop-id : goal.invariant-loop-id
invariant-loop-id g l =
    goal.F-IsAlwaysCallable g l.test × ((p : ℕ → Bool) → Tells (goal.F-post g l.fn.test) p → list_any p (deque_iter_rest l.id-iterator) ≡ list_any p l.fn.ids.items)
