use Rattle.std.proofs.Common.{◌≡◌, ◌≤◌, ◌+◌, ◌++◌, take, length}
use Rattle.std.specs.Prelude.{map}
use Rattle.std.specs.VecDeque.{deque_len, deque_capacity}
use Rattle.quic_wire.specs.declared.event.StreamEvent.TheVariants as stream_event
use Rattle.quic_streams.specs.Shown.{streams_view}
use Rattle.quic_streams.proofs.state.StreamsState.tell_each.Given as goal

abbrev pub invariant-loop-index : goal.invariant-loop-index
invariant-loop-index l = record {
  told : streams_view l.self ≡ record (streams_view l.fn.self) { events = (streams_view l.fn.self).events ++ map stream_event.Writable (take l.index l.ids) };
  room : deque_len l.self.events + length l.ids ≤ deque_capacity l.self.events + l.index;
}
