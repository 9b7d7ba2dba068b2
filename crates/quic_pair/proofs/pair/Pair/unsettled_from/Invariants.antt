use Rattle.quic_pair.specs.Shown.{pair_view}
use Rattle.quic_exchange.specs.Settling.{AreSettledIn}
use Rattle.quic_pair.proofs.pair.Pair.unsettled_from.Given as goal

abbrev pub invariant-loop-number : goal.invariant-loop-number
invariant-loop-number l = AreSettledIn l.fn.from l.number (pair_view l.fn.self).sent
