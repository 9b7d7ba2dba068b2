use Rattle.std.proofs.Common.{◌≡◌, ◌+◌, ◌-◌, ◌≤◌}
use Rattle.std.specs.VecDeque.{deque_len, deque_capacity}
use Rattle.quic_sending.specs.Buffer.{total_length, uncovered}
use Rattle.quic_sending.specs.Pieces.{contents, IsLaidOut}
use Rattle.quic_sending.proofs.piece_queue.drop_covered.Given as goal

abbrev pub invariant-loop-front : goal.invariant-loop-front
invariant-loop-front l =
    record {
      same : uncovered (l.prefix - l.gone) (contents l.pieces.items) ≡ uncovered (l.prefix - l.initial.gone) (contents l.initial.pieces.items);
      laid_out : IsLaidOut l.gone l.pieces.items;
      lengths : l.gone + total_length (contents l.pieces.items) ≡ l.initial.gone + total_length (contents l.initial.pieces.items);
      below : l.gone ≤ l.prefix;
      shorter : deque_len l.pieces ≤ deque_len l.initial.pieces;
      capacity : deque_capacity l.pieces ≡ deque_capacity l.initial.pieces;
    }

abbrev pub decreases-loop-front : goal.decreases-loop-front
decreases-loop-front l = deque_len l.pieces
