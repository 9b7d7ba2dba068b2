use Rattle.std.specs.HashMap.{get}
use Rattle.std.specs.Prelude.{◌==◌}
use Rattle.quic_outgoing.specs.Seen.{senders}
use Rattle.quic_outgoing.specs.Senders.{raised_by}
use Rattle.quic_outgoing.proofs.SenderMaps.{raised-at}
use Rattle.quic_outgoing.proofs.entries.SendEntries.raise_first.Goals as goal

pub returns-clause-halves : goal.returns-clause-halves
unfolding senders raised_by
returns-clause-halves c = rw c.joined-self.ensures (λ i. λ q. raised-at c.args.self.now.side c.args.self.now.first c.args.limits q (get ◌==◌ c.args.self.now.entries q) i)
