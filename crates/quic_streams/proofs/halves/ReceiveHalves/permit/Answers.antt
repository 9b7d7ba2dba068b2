use Rattle.quic_streams.specs.Held.{halves_view}
use Rattle.quic_streams.proofs.HeldMaps.{held-put}
use Rattle.quic_retransmits.proofs.Sets.{OnOk-here}
use Rattle.quic_streams.proofs.halves.ReceiveHalves.permit.Goals as goal

pub returns-clause-held : goal.returns-clause-held
unfolding halves_view
returns-clause-held c = held-put c.args.self.now.window _ _ c.args.id _ (OnOk-here _ (c.insert.ensures.succeeds c.requires) c.insert.ensures.updates).0
