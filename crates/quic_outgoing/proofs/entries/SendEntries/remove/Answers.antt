use Rattle.quic_outgoing.specs.Seen.{senders}
use Rattle.quic_outgoing.specs.Senders.{first_limit}
use Rattle.quic_outgoing.proofs.SenderMaps.{senders-put}
use Rattle.quic_outgoing.proofs.entries.SendEntries.remove.Goals as goal

pub returns-clause-halves : goal.returns-clause-halves
unfolding senders
returns-clause-halves c = senders-put (first_limit c.args.self.now.side c.args.self.now.first) _ _ c.args.id _ c.remove-entry.ensures.updates.0
