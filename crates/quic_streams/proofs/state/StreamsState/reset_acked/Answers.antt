use Rattle.quic_streams.specs.Shown.{streams_view}
use Rattle.quic_history.specs.History.{Sending}
use Rattle.quic_history.specs.SendEvents.{ResetAckedOwn}
use Rattle.quic_history.proofs.Histories.{next}
use Rattle.quic_streams.proofs.state.StreamsState.reset_acked.Goals as goal

pub returns-clause-from : goal.returns-clause-from
returns-clause-from c = λ m h f.
    let e = Sending (ResetAckedOwn c.args.id c.take_reset_ack.result) in
    next m h (streams_view c.args.self.now) e (streams_view c.take_reset_ack.new.self) tt f c.take_reset_ack.ensures.acks
