use Rattle.quic_outgoing.specs.Seen.{senders}
use Rattle.quic_outgoing.specs.Senders.{first_limit}
use Rattle.quic_outgoing.proofs.SenderMaps.{senders-same}
use Rattle.quic_outgoing.proofs.entries.SendEntries.reserve.Goals as goal

pub returns-clause-halves : goal.returns-clause-halves
unfolding senders
returns-clause-halves c = senders-same (first_limit c.args.self.now.side c.args.self.now.first) _ _ c.reserve.ensures.entries.2
