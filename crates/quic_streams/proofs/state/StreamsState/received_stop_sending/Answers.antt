use Rattle.quic_streams.specs.Shown.{streams_view}
use Rattle.quic_history.specs.History.{Sending}
use Rattle.quic_history.specs.SendEvents.{StoppedOwn}
use Rattle.quic_history.proofs.Histories.{next}
use Rattle.quic_streams.proofs.state.StreamsState.received_stop_sending.Goals as goal

pub returns-clause-from : goal.returns-clause-from
returns-clause-from c = λ m h f.
    let e = Sending (StoppedOwn c.args.id c.args.error_code c.stop_sending.result) in
    next m h (streams_view c.args.self.now) e (streams_view c.stop_sending.new.self) tt f c.stop_sending.ensures
