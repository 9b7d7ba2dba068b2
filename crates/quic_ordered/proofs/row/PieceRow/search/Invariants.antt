use Rattle.std.proofs.Common.{ℕ, ◌≤◌, ◌<◌, ◌-◌, length}
use Rattle.std.specs.Prelude.{slice_index_or}
use Rattle.quic_assembler.specs.Piece.{PieceView}
use Rattle.quic_ordered.proofs.row.PieceRow.search.Given as goal

abbrev pub invariant-loop-low : goal.invariant-loop-low
invariant-loop-low l = record {
  rises : l.low ≤ l.high;
  fits : l.high ≤ length l.self-inside.pieces.items;
  below : (k : ℕ) (d : PieceView) → k < l.low → (slice_index_or l.self-inside.pieces.items k d).offset ≤ l.offset;
  above : (k : ℕ) (d : PieceView) → l.high ≤ k → k < length l.self-inside.pieces.items → l.offset < (slice_index_or l.self-inside.pieces.items k d).offset;
}

abbrev pub decreases-loop-low : goal.decreases-loop-low
decreases-loop-low l = l.high - l.low
