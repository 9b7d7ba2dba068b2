use Rattle.std.proofs.Common.{ap}
use Rattle.quic_streams.specs.Shown.{streams_view}
use Rattle.quic_history.specs.History.{AddedCredits}
use Rattle.quic_history.proofs.Histories.{next}
use Rattle.quic_streams.proofs.state.StreamsState.add_read_credits.Goals as goal

pub returns-clause-from : goal.returns-clause-from
unfolding streams_view
returns-clause-from c = λ m h f.
    let u = streams_view c.args.self.now in
    let v = record u { credit = c.add.new.self } in
    let e = AddedCredits c.args.credits (record { 0 = c.add.result }) in
    next m h u e v tt f (ap (λ k. record u { credit = k }) c.add.ensures.credit, c.add.ensures.due)
