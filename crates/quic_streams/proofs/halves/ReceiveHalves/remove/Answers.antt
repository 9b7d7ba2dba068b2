use Rattle.quic_streams.specs.Held.{halves_view}
use Rattle.quic_streams.proofs.HeldMaps.{held-put}
use Rattle.quic_streams.proofs.halves.ReceiveHalves.remove.Goals as goal

pub returns-clause-held : goal.returns-clause-held
unfolding halves_view
returns-clause-held c = held-put c.args.self.now.window _ _ c.args.id _ c.remove-entry.ensures.updates.0
