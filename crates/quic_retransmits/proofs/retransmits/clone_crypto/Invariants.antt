use Rattle.std.proofs.Common.{◌≡◌, ◌++◌}
use Rattle.std.specs.VecDeque.Iter.{deque_iter_rest}
use Rattle.quic_retransmits.proofs.retransmits.clone_crypto.Given as goal

abbrev pub invariant-loop-frame : goal.invariant-loop-frame
invariant-loop-frame l = l.copy.items ++ deque_iter_rest l.frame-iterator ≡ l.queue.items
