use Rattle.std.proofs.Common.{ap}
use Rattle.quic_streams.specs.Shown.{streams_view}
use Rattle.quic_history.specs.History.{Resized}
use Rattle.quic_history.proofs.Histories.{next}
use Rattle.quic_streams.proofs.state.StreamsState.set_receive_window.Goals as goal

pub returns-clause-from : goal.returns-clause-from
unfolding streams_view
returns-clause-from c = λ m h f.
    let u = streams_view c.args.self.now in
    let v = record u { credit = c.set_receive_window.new.self } in
    let e = Resized c.args.receive_window c.set_receive_window.result in
    next m h u e v tt f (ap (λ k. record u { credit = k }) c.set_receive_window.ensures.credit, c.set_receive_window.ensures.raised)
