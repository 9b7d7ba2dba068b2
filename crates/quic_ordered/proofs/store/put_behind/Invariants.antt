use Rattle.std.proofs.Common.{◌≡◌, ◌++◌, ◌+◌, ◌≤◌, length}
use Rattle.quic_ordered.proofs.store.put_behind.Given as goal

abbrev pub invariant-loop-piece : goal.invariant-loop-piece
invariant-loop-piece l = record {
  same : l.row.runs ++ l.rest.runs ≡ l.initial.row.runs ++ l.initial.rest.runs;
  room : length l.row.runs + length l.rest.runs ≤ l.row.room;
}

abbrev pub decreases-loop-piece : goal.decreases-loop-piece
decreases-loop-piece l = length l.rest.runs
