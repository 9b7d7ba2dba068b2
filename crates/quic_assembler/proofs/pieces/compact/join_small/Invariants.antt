use Rattle.std.proofs.Common.{◌≤◌, ◌+◌, ◌∷◌, [], reverse, length}
use Rattle.std.specs.List.{All}
use Rattle.quic_assembler.specs.Piece.{IsSome}
use Rattle.quic_assembler.specs.Compact.{is_joined, parts_where, slots, HasSeen, IsTight}
use Rattle.quic_assembler.proofs.pieces.compact.join_small.Given as goal

abbrev pub invariant-loop-piece : goal.invariant-loop-piece
invariant-loop-piece l = record {
  seen : HasSeen (is_joined l.least) (reverse l.pieces) (reverse l.left) (l.initial.joined ∷ []) (l.joined ∷ l.copies.items) l.end;
  tight : All IsTight (l.joined ∷ l.copies.items);
  some : All IsSome l.copies.items;
  slots : slots l.joined l.copies.items + length (parts_where (is_joined l.least) l.end (reverse l.left)) ≤ length (parts_where (is_joined l.least) 0 (reverse l.pieces));
}

abbrev pub decreases-loop-piece : goal.decreases-loop-piece
decreases-loop-piece l = length l.left
