use Rattle.std.proofs.Common.{take}
use Rattle.quic_streams.specs.Settling.{EachInOrder, AcksMeta}
use Rattle.quic_streams.specs.Shown.{streams_view}
use Rattle.quic_streams.proofs.state.StreamsState.ack_frames.Given as goal

abbrev pub invariant-loop-index : goal.invariant-loop-index
invariant-loop-index l = EachInOrder AcksMeta (streams_view l.fn.self) (take l.index l.frames) (streams_view l.self)
