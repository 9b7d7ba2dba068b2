use Rattle.std.proofs.Common.{◌≡◌, ◌≤◌, ◌+◌, ◌++◌, length}
use Rattle.std.specs.List.{All}
use Rattle.std.specs.List.Sorted.{IsPermutation}
use Rattle.std.specs.Vec.Iter.{into_iter_items}
use Rattle.quic_assembler.specs.Piece.{IsSome}
use Rattle.quic_assembler.proofs.pieces.Pieces.put_all.Given as goal

abbrev pub invariant-loop-piece : goal.invariant-loop-piece
invariant-loop-piece l = record {
  some : All IsSome (into_iter_items l.piece-iterator);
  put : IsPermutation (l.fn.pieces.items ++ l.initial.self.runs) (into_iter_items l.piece-iterator ++ l.self.runs);
  length_is : length l.self.runs + length (into_iter_items l.piece-iterator) ≡ length l.initial.self.runs + length l.fn.pieces.items;
  room : l.initial.self.room ≤ l.self.room;
}
