use Rattle.std.proofs.Common.{ℕ, ◌≡◌, ◌+◌, min, drop}
use Rattle.std.specs.Prelude.{nat_lt}
use Rattle.quic_ranges.specs.Runs.{contains}
use Rattle.quic_assembler.specs.Piece.{bit, cover_count}
use Rattle.quic_assembler.proofs.pieces.Pieces.offsets.Given as goal

abbrev pub invariant-loop-piece : goal.invariant-loop-piece
invariant-loop-piece l = (at : ℕ) → min 1 (bit (contains l.set at) + cover_count at (drop l.piece-index l.piece-items)) ≡ min 1 (bit (nat_lt at l.floor) + cover_count at l.piece-items)
