use Rattle.std.proofs.Common.{take}
use Rattle.quic_streams.specs.Settling.{EachInOrder, AcksResetOf}
use Rattle.quic_streams.specs.Shown.{streams_view}
use Rattle.quic_streams.proofs.state.StreamsState.ack_resets.Given as goal

abbrev pub invariant-loop-index : goal.invariant-loop-index
invariant-loop-index l = EachInOrder AcksResetOf (streams_view l.fn.self) (take l.index l.resets) (streams_view l.self)
