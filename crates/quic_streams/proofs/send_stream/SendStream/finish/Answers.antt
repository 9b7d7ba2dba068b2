use Rattle.quic_history.specs.SendEvents.{FinishedOwn}
use Rattle.quic_streams.specs.Shown.{streams_view}
use Rattle.quic_history.specs.History.{Sending}
use Rattle.quic_history.proofs.Histories.{next}
use Rattle.quic_streams.proofs.send_stream.SendStream.finish.Goals as goal

pub returns-clause-from : goal.returns-clause-from
returns-clause-from c = λ m h f.
    next m h (streams_view c.args.self.now.state.now) (Sending (FinishedOwn c.args.self.now.id c.finish.result)) (streams_view c.finish.new.self) tt f c.finish.ensures.finishes
