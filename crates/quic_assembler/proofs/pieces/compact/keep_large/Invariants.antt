use Rattle.std.proofs.Common.{◌≡◌, ◌≤◌, ◌+◌, reverse, length, vec_len}
use Rattle.std.specs.List.{All}
use Rattle.quic_assembler.specs.Compact.{stays, parts_where, HasSeen, IsTight}
use Rattle.quic_assembler.proofs.pieces.compact.keep_large.Given as goal

abbrev pub invariant-loop-piece : goal.invariant-loop-piece
invariant-loop-piece l = record {
  seen : HasSeen (stays l.least) (reverse l.fn.pieces.items) (reverse l.pieces.items) l.initial.out.runs l.out.runs l.end;
  tight : All IsTight l.out.runs;
  length_is : length l.out.runs + length (parts_where (stays l.least) l.end (reverse l.pieces.items)) ≡ length l.initial.out.runs + length (parts_where (stays l.least) 0 (reverse l.fn.pieces.items));
  room : l.initial.out.room ≤ l.out.room;
}

abbrev pub decreases-loop-piece : goal.decreases-loop-piece
decreases-loop-piece l = vec_len l.pieces
