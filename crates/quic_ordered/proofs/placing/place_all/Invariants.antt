use Rattle.std.proofs.Common.{ℕ, ◌≤◌, ◌++◌, length}
use Rattle.std.specs.Map.{values_of}
use Rattle.std.specs.List.{All}
use Rattle.std.specs.List.Sorted.{IsPermutation}
use Rattle.quic_assembler.specs.Piece.{IsSome, cover_count}
use Rattle.quic_ordered.specs.Entries.{IsPieceMap, IsPlaced}
use Rattle.quic_ordered.specs.Rows.{RiseByKey}
use Rattle.quic_ordered.proofs.placing.place_all.Given as goal

abbrev pub invariant-loop-piece : goal.invariant-loop-piece
invariant-loop-piece l = record {
  rises : RiseByKey l.pieces;
  apart : IsPieceMap l.pieces;
  some : All IsSome l.parts.items;
  once : (at : ℕ) → cover_count at (l.parts.items ++ values_of l.initial.pieces) ≤ 1;
  all : IsPermutation (l.initial.parts.items ++ values_of l.initial.pieces) (l.parts.items ++ values_of l.pieces);
  placed : IsPlaced l.offsets.items l.initial.pieces l.pieces;
}

abbrev pub decreases-loop-piece : goal.decreases-loop-piece
decreases-loop-piece l = length l.parts.items
