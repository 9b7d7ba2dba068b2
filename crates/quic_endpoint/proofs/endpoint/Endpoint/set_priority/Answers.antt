use Rattle.std.proofs.lemmas.Int.{to_z-of_z}
use Rattle.quic_streams.specs.Shown.{streams_view}
use Rattle.quic_history.specs.History.{Sending}
use Rattle.quic_history.specs.SendEvents.{SetOwnPriority}
use Rattle.quic_history.proofs.Histories.{next}
use Rattle.quic_endpoint.specs.Shown.{endpoint_view}
use Rattle.quic_endpoint.proofs.endpoint.Endpoint.set_priority.Goals as goal

pub returns-clause-from : goal.returns-clause-from
unfolding endpoint_view
returns-clause-from c = λ m h f.
    let step = simp (to_z-of_z, c.ranges.priority) at (rw (c.new.ensures.state, c.new.ensures.id) at c.set_priority.ensures.sets) in
    next m h (streams_view c.args.self.now.streams) (Sending (SetOwnPriority c.args.id c.args.priority c.set_priority.result)) (streams_view c.set_priority.new.self.state.now) tt f step
