use Rattle.std.proofs.Common.{◌≡◌, ◌+◌, ◌≤◌}
use Rattle.quic_outgoing.specs.Outgoing.{with_more_streams}
use Rattle.quic_outgoing.specs.Shown.{outgoing_view, permit_room}
use Rattle.quic_outgoing.proofs.outgoing.OutgoingStreams.permit_each.Given as goal

abbrev pub invariant-loop-offset : goal.invariant-loop-offset
invariant-loop-offset l = record {
  streams : outgoing_view l.self ≡ with_more_streams (outgoing_view l.fn.self) l.first l.offset;
  room : l.count ≤ l.offset + permit_room l.self;
}
