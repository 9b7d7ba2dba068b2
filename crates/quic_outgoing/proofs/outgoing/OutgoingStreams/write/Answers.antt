use Rattle.quic_retransmits.specs.Pending.{pending_view}
use Rattle.quic_outgoing.specs.Shown.{outgoing_view}
use Rattle.quic_outgoing.specs.History.{Writing}
use Rattle.quic_outgoing.proofs.Histories.{continues}
use Rattle.quic_outgoing.proofs.outgoing.OutgoingStreams.write.Goals as goal

pub returns-clause-from : goal.returns-clause-from
returns-clause-from g c = continues (outgoing_view c.args.self.now) (Writing c.args.id (g.S.BytesSource.lists c.args.source.now) c.write_source.result) (outgoing_view c.write_source.new.self)
    (pending_view c.args.pending.now, g.S.BytesSource.lists c.write_source.new.source, pending_view c.write_source.new.pending, c.write_source.ensures.writes)
