use Rattle.std.proofs.Common.{◌≤◌, ◌-◌, take, length}
use Rattle.quic_ordered.proofs.Keeping.{AreTidyTo}
use Rattle.quic_ordered.proofs.row.PieceRow.count_tidy.Given as goal

abbrev pub invariant-loop-index : goal.invariant-loop-index
invariant-loop-index l = record {
  fits : l.index ≤ length l.self-inside.pieces.items;
  kept : AreTidyTo l.floor (take l.index l.self-inside.pieces.items);
}

abbrev pub decreases-loop-index : goal.decreases-loop-index
decreases-loop-index l = length l.self-inside.pieces.items - l.index
