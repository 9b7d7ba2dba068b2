use Rattle.quic_streams.specs.Shown.{streams_view}
use Rattle.quic_history.specs.History.{ReceivedReset}
use Rattle.quic_history.proofs.Histories.{next}
use Rattle.quic_streams.proofs.state.StreamsState.received_reset.Goals as goal

pub returns-clause-from : goal.returns-clause-from
returns-clause-from c = λ m h f.
    let e = ReceivedReset c.args.frame.id c.args.frame.error_code c.args.frame.final_offset c.receive_reset.result in
    next m h (streams_view c.args.self.now) e (streams_view c.receive_reset.new.self) tt f c.receive_reset.ensures
