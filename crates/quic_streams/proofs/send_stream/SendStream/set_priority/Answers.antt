use Rattle.std.proofs.lemmas.Int.{to_z-of_z}
use Rattle.quic_streams.specs.Shown.{streams_view}
use Rattle.quic_history.specs.History.{Sending}
use Rattle.quic_history.specs.SendEvents.{SetOwnPriority}
use Rattle.quic_history.proofs.Histories.{next}
use Rattle.quic_streams.proofs.send_stream.SendStream.set_priority.Goals as goal

pub returns-clause-from : goal.returns-clause-from
returns-clause-from c = λ m h f.
    let step = simp (to_z-of_z, c.ranges.priority) at c.set_priority.ensures.sets in
    next m h (streams_view c.args.self.now.state.now) (Sending (SetOwnPriority c.args.self.now.id c.args.priority c.set_priority.result)) (streams_view c.set_priority.new.self) tt f step
