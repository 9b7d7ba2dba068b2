use Rattle.quic_pair.specs.Shown.{pair_view}
use Rattle.quic_pair.proofs.Deliveries.{Delivered}
use Rattle.quic_pair.proofs.pair.Pair.deliver_frames.Given as goal

abbrev pub invariant-loop-next : goal.invariant-loop-next
invariant-loop-next l = Delivered (pair_view l.fn.self) l.payload l.most l.next (pair_view l.self)
