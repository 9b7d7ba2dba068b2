use Rattle.std.proofs.Common.{◌≡◌, ◌≤◌}
use Rattle.std.specs.VecDeque.{deque_len, deque_capacity}
use Rattle.quic_datagrams.specs.Queue.{total_cost, newest_within}
use Rattle.quic_datagrams.proofs.datagrams.drop_oldest.Given as goal

abbrev pub invariant-loop-size : goal.invariant-loop-size
invariant-loop-size l =
    record {
      same : newest_within l.room l.queue.items ≡ newest_within l.room l.initial.queue.items;
      size : l.size ≡ total_cost l.queue.items;
      len : deque_len l.queue ≤ deque_len l.initial.queue;
      capacity : deque_capacity l.queue ≡ deque_capacity l.initial.queue;
    }

abbrev pub decreases-loop-size : goal.decreases-loop-size
decreases-loop-size l = deque_len l.queue
