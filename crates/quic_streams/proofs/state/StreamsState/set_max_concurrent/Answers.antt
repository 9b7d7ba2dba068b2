use Rattle.quic_streams.specs.Shown.{streams_view}
use Rattle.quic_history.specs.History.{SetConcurrent}
use Rattle.quic_history.proofs.Histories.{next}
use Rattle.quic_streams.proofs.state.StreamsState.set_max_concurrent.Goals as goal

pub returns-clause-from : goal.returns-clause-from
returns-clause-from c = λ m h f.
    let e = SetConcurrent c.args.dir c.args.count c.set_concurrent.result in
    next m h (streams_view c.args.self.now) e (streams_view c.set_concurrent.new.self) tt f c.set_concurrent.ensures.sets
