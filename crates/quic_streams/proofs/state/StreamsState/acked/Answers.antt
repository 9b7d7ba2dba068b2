use Rattle.quic_streams.specs.Shown.{streams_view}
use Rattle.quic_streams.specs.Sent.{sent_view, report_view}
use Rattle.quic_streams.proofs.PayloadReports.{from-acks}
use Rattle.quic_streams.proofs.state.StreamsState.acked.Goals as goal

pub returns-clause-from : goal.returns-clause-from
returns-clause-from c = λ m h f.
    from-acks m h (streams_view c.args.self.now) (streams_view c.take_acked.new.self) (sent_view c.args.sent) (report_view c.take_acked.result) f c.take_acked.ensures
