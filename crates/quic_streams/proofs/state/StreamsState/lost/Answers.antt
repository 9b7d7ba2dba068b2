use Rattle.quic_retransmits.specs.Pending.{pending_view}
use Rattle.quic_streams.specs.Shown.{streams_view}
use Rattle.quic_streams.specs.Sent.{sent_view, report_view}
use Rattle.quic_streams.proofs.PayloadReports.{from-losses}
use Rattle.quic_streams.proofs.state.StreamsState.lost.Goals as goal

pub returns-clause-from : goal.returns-clause-from
returns-clause-from c = λ m h f.
    from-losses m h (streams_view c.args.self.now) (streams_view c.take_lost.new.self) (pending_view c.args.pending.now) (pending_view c.take_lost.new.pending) (sent_view c.args.sent)
    (report_view c.take_lost.result) f c.take_lost.ensures
