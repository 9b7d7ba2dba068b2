use Rattle.quic_streams.specs.Shown.{streams_view}
use Rattle.quic_history.specs.History.{Sending}
use Rattle.quic_history.specs.SendEvents.{Polled}
use Rattle.quic_history.proofs.Histories.{next}
use Rattle.quic_streams.proofs.state.StreamsState.poll.Goals as goal

pub returns-clause-from : goal.returns-clause-from
returns-clause-from c = λ m h f.
    let e = Sending (Polled c.poll_next.result) in
    next m h (streams_view c.args.self.now) e (streams_view c.poll_next.new.self) tt f c.poll_next.ensures
