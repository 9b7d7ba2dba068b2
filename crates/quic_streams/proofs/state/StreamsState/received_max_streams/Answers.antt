use Rattle.quic_streams.specs.Shown.{streams_view}
use Rattle.quic_history.specs.History.{Sending}
use Rattle.quic_history.specs.SendEvents.{RaisedCount}
use Rattle.quic_history.proofs.Histories.{next}
use Rattle.quic_streams.proofs.state.StreamsState.received_max_streams.Goals as goal

pub returns-clause-from : goal.returns-clause-from
returns-clause-from c = λ m h f.
    let e = Sending (RaisedCount c.args.dir c.args.count c.raise_count.result) in
    next m h (streams_view c.args.self.now) e (streams_view c.raise_count.new.self) tt f c.raise_count.ensures
