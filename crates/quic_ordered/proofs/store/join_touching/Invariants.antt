use Rattle.std.proofs.Common.{◌≡◌, ◌+◌, ◌≤◌, List, length}
use Rattle.quic_assembler.specs.Piece.{PieceView}
use Rattle.quic_ordered.specs.Rows.{IsGathered}
use Rattle.quic_ordered.proofs.store.join_touching.Given as goal

abbrev pub invariant-loop-piece : goal.invariant-loop-piece
invariant-loop-piece l = record {
  gathered : (all : List PieceView) → IsGathered all l.initial.out.runs l.initial.row.runs → IsGathered all l.out.runs l.row.runs;
  room : l.out.room ≡ l.initial.out.room;
  fits : length l.out.runs + length l.row.runs ≤ l.out.room;
}

abbrev pub decreases-loop-piece : goal.decreases-loop-piece
decreases-loop-piece l = length l.row.runs
