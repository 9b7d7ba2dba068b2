use Rattle.std.proofs.Common.{◌≡◌}
use Rattle.quic_queue.specs.Levels.{entries_of}
use Rattle.quic_queue.proofs.queue.first_of_all.Given as goal

abbrev pub invariant-loop-priority : goal.invariant-loop-priority
invariant-loop-priority l =
    (goal.iterator-loop-priority).can_next l.priority-iterator ×
    (goal.iterator-loop-priority).is_finite l.priority-iterator × (entries_of l.priority-iterator ≡ entries_of l.fn.levels.entries)
