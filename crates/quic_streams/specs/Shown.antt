-- An end as contracts see it.
use Rattle.std.specs.Prelude.{None}
use Rattle.quic_outgoing.specs.Shown.{outgoing_view}
use Rattle.quic_history.specs.World.{World}
use Rattle.quic_streams.specs.Held.{halves_view}
use Rattle.quic_streams.specs.declared.state.StreamsState.{StreamsState}

unfoldable pub streams_view : StreamsState → World
streams_view s = record {
  credit = s.credit;
  bi = s.bi;
  uni = s.uni;
  out = outgoing_view s.outgoing;
  queue = record s.queue { reserved = None };
  receive = halves_view s.receive;
  window = s.receive.window;
  events = s.events.items;
  send_streams = s.send_streams;
  adjusted = s.adjusted;
}
