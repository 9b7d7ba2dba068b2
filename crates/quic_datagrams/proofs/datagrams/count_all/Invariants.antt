use Rattle.std.proofs.Common.{◌≡◌, ◌+◌}
use Rattle.std.specs.VecDeque.Iter.{deque_iter_rest}
use Rattle.quic_datagrams.specs.Queue.{total_cost}
use Rattle.quic_datagrams.proofs.datagrams.count_all.Given as goal

abbrev pub invariant-loop-datagram : goal.invariant-loop-datagram
invariant-loop-datagram l = l.size + total_cost (deque_iter_rest l.datagram-iterator) ≡ total_cost l.queue.items
