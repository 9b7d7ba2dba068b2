use Rattle.std.proofs.Common.{◌≡◌, ◌+◌, ◌≤◌, ◌++◌, length}
use Rattle.quic_ordered.proofs.row.PieceRow.split_off.Given as goal

abbrev pub invariant-loop-self : goal.invariant-loop-self
invariant-loop-self l = record {
  same : l.self.runs ++ l.rest.runs ≡ l.initial.self.runs;
  from : l.kept ≤ length l.self.runs;
  room : l.self.room ≡ l.initial.self.room;
  fits : length l.self.runs + length l.rest.runs ≤ l.kept + l.rest.room;
}

abbrev pub decreases-loop-self : goal.decreases-loop-self
decreases-loop-self l = length l.self.runs
