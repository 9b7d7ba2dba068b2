use Rattle.std.proofs.Common.{ℕ, ◌≡◌, ◌+◌, ◌-◌, min, drop, length}
use Rattle.quic_ranges.specs.Runs.{contains}
use Rattle.quic_assembler.specs.Piece.{bit, cover_count}
use Rattle.quic_ordered.proofs.row.PieceRow.add_offsets.Given as goal

abbrev pub invariant-loop-index : goal.invariant-loop-index
invariant-loop-index l = (at : ℕ) → min 1 (bit (contains l.set at) + cover_count at (drop l.index l.self-inside.pieces.items)) ≡ min 1 (bit (contains l.initial.set at) + cover_count at l.self-inside.pieces.items)

abbrev pub decreases-loop-index : goal.decreases-loop-index
decreases-loop-index l = length l.self-inside.pieces.items - l.index
