use Rattle.std.proofs.Common.{ℕ, List, drop}
use Rattle.quic_assembler.specs.Piece.{PieceView}
use Rattle.quic_ordered.specs.Entries.{IsPlaced}
use Rattle.quic_ordered.specs.Rows.{RiseByKey}
use Rattle.quic_ordered.proofs.placing.take_out.Given as goal

abbrev pub invariant-loop-offset : goal.invariant-loop-offset
invariant-loop-offset l = record {
  rises : RiseByKey l.pieces;
  placed : (es : List (ℕ × PieceView)) → IsPlaced l.offsets es l.initial.pieces → IsPlaced (drop l.offset-index l.offsets) es l.pieces;
}
