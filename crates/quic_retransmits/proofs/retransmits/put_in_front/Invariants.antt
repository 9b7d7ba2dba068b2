use Rattle.std.proofs.Common.{◌≡◌, ◌+◌, ◌≤◌, ◌++◌}
use Rattle.std.specs.VecDeque.{deque_len, deque_capacity}
use Rattle.quic_retransmits.proofs.retransmits.put_in_front.Given as goal

abbrev pub invariant-loop-last : goal.invariant-loop-last
invariant-loop-last l =
    record {
      all : l.front.items ++ l.queue.items ≡ l.initial.front.items ++ l.initial.queue.items;
      room : deque_len l.queue + deque_len l.front ≤ deque_capacity l.queue;
    }

abbrev pub decreases-loop-last : goal.decreases-loop-last
decreases-loop-last l = deque_len l.front
