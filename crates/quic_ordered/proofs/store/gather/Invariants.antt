use Rattle.std.proofs.Common.{◌≡◌, ◌++◌, ◌+◌, ◌≤◌, length}
use Rattle.std.specs.Map.{values_of}
use Rattle.quic_ordered.specs.Rows.{IsStore}
use Rattle.quic_ordered.proofs.store.gather.Given as goal

abbrev pub invariant-loop-piece : goal.invariant-loop-piece
invariant-loop-piece l = record {
  store : IsStore l.gaps l.row.runs;
  same : values_of l.gaps ++ l.row.runs ≡ values_of l.initial.gaps ++ l.initial.row.runs;
  room : length l.gaps + length l.row.runs ≤ l.row.room;
}

abbrev pub decreases-loop-piece : goal.decreases-loop-piece
decreases-loop-piece l = length l.gaps
