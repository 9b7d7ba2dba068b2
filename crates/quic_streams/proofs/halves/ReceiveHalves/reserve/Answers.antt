use Rattle.quic_streams.specs.Held.{halves_view}
use Rattle.quic_streams.proofs.HeldMaps.{held-same}
use Rattle.quic_streams.proofs.halves.ReceiveHalves.reserve.Goals as goal

pub returns-clause-held : goal.returns-clause-held
unfolding halves_view
returns-clause-held c = held-same c.args.self.now.window _ _ c.reserve.ensures.entries.2
