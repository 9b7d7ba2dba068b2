use Rattle.quic_streams.specs.Shown.{streams_view}
use Rattle.quic_history.specs.History.{Received}
use Rattle.quic_history.proofs.Histories.{next}
use Rattle.quic_streams.proofs.state.StreamsState.received.Goals as goal

pub returns-clause-from : goal.returns-clause-from
returns-clause-from c = λ m h f.
    let e = Received c.args.frame.id c.args.frame.offset c.args.frame.bytes c.args.frame.fin c.receive_frame.result in
    next m h (streams_view c.args.self.now) e (streams_view c.receive_frame.new.self) tt f c.receive_frame.ensures.receives
