use Rattle.std.proofs.Common.{ℕ, ◌≤◌, ◌≡◌, List, length}
use Rattle.quic_assembler.specs.Piece.{PieceView}
use Rattle.quic_ordered.specs.Entries.{IsPieceMap, SpansAll, IsJoining}
use Rattle.quic_ordered.proofs.gaps.absorb.Given as goal

abbrev pub invariant-loop-from : goal.invariant-loop-from
invariant-loop-from l = record {
  joins : (es : List (ℕ × PieceView)) → IsPieceMap es → SpansAll es l.new l.start l.end → IsJoining es l.new l.start l.end l.initial.pieces l.initial.base → IsJoining es l.new l.start l.end l.pieces l.base;
  pieces : length l.pieces ≤ length l.initial.pieces;
  memory : l.base.allocation_size ≡ l.initial.base.allocation_size;
  len : length l.base.bytes ≡ length l.initial.base.bytes;
}

abbrev pub decreases-loop-from : goal.decreases-loop-from
decreases-loop-from l = length l.pieces
