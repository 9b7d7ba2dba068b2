use Rattle.quic_outgoing.specs.Seen.{senders}
use Rattle.quic_outgoing.specs.Senders.{first_limit}
use Rattle.quic_outgoing.proofs.SenderMaps.{senders-put}
use Rattle.quic_retransmits.proofs.Sets.{OnOk-here}
use Rattle.quic_outgoing.proofs.entries.SendEntries.permit.Goals as goal

pub returns-clause-halves : goal.returns-clause-halves
unfolding senders
returns-clause-halves c = senders-put (first_limit c.args.self.now.side c.args.self.now.first) _ _ c.args.id _ (OnOk-here _ (c.insert.ensures.succeeds c.requires) c.insert.ensures.updates).0
