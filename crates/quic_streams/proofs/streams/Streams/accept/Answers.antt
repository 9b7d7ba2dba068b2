use Rattle.quic_streams.specs.Shown.{streams_view}
use Rattle.quic_history.specs.History.{Accepted}
use Rattle.quic_history.proofs.Histories.{next}
use Rattle.quic_streams.proofs.streams.Streams.accept.Goals as goal

pub returns-clause-from : goal.returns-clause-from
returns-clause-from c = λ m h f.
    next m h (streams_view c.args.self.now.state.now) (Accepted c.args.dir c.accept.result) (streams_view c.accept.new.self) tt f
    (c.accept.ensures.accepted, c.accept.ensures.id)
