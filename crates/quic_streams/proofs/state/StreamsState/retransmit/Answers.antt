use Rattle.quic_streams.specs.Shown.{streams_view}
use Rattle.quic_history.specs.History.{Sending}
use Rattle.quic_history.specs.SendEvents.{LostOwn}
use Rattle.quic_history.proofs.Histories.{next}
use Rattle.quic_streams.proofs.state.StreamsState.retransmit.Goals as goal

pub returns-clause-from : goal.returns-clause-from
returns-clause-from c = λ m h f.
    let e = Sending (LostOwn c.args.frame.id c.args.frame.offsets c.args.frame.fin c.take_loss.result) in
    next m h (streams_view c.args.self.now) e (streams_view c.take_loss.new.self) tt f c.take_loss.ensures.loses
