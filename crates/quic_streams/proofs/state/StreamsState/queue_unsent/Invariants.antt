use Rattle.quic_outgoing.specs.Shown.{outgoing_view}
use Rattle.quic_streams.proofs.Unsent.{QueuedBy}
use Rattle.quic_streams.proofs.state.StreamsState.queue_unsent.Given as goal

abbrev pub invariant-loop-index : goal.invariant-loop-index
invariant-loop-index l = QueuedBy (outgoing_view l.self.outgoing) (outgoing_view l.self.outgoing).side l.dir l.index l.fn.queue l.queue
