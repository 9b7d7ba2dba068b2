use Rattle.quic_streams.specs.Shown.{streams_view}
use Rattle.quic_history.specs.History.{Sending}
use Rattle.quic_history.specs.SendEvents.{AckedOwn}
use Rattle.quic_history.proofs.Histories.{next}
use Rattle.quic_streams.proofs.state.StreamsState.received_ack_of.Goals as goal

pub returns-clause-from : goal.returns-clause-from
returns-clause-from c = λ m h f.
    let e = Sending (AckedOwn c.args.frame.id c.args.frame.offsets c.args.frame.fin c.take_ack.result) in
    next m h (streams_view c.args.self.now) e (streams_view c.take_ack.new.self) tt f c.take_ack.ensures.acks
