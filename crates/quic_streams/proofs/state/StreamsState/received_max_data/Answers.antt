use Rattle.std.proofs.Common.{ap}
use Rattle.quic_outgoing.specs.Shown.{outgoing_view}
use Rattle.quic_streams.specs.Shown.{streams_view}
use Rattle.quic_history.specs.History.{Sending}
use Rattle.quic_history.specs.SendEvents.{RaisedData}
use Rattle.quic_history.specs.Sends.{with_out}
use Rattle.quic_history.proofs.Histories.{next}
use Rattle.quic_streams.proofs.state.StreamsState.received_max_data.Goals as goal

pub returns-clause-from : goal.returns-clause-from
unfolding streams_view
returns-clause-from c = λ m h f.
    let u = streams_view c.args.self.now in
    let v = with_out u (outgoing_view c.raise_data.new.self) in
    next m h u (Sending (RaisedData c.args.limit)) v tt f (ap (with_out u) c.raise_data.ensures.limit)
