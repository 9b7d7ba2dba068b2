use Rattle.std.proofs.Common.{◌≡◌, ◌+◌, ◌≤◌, Some}
use Rattle.quic_receiving.specs.Half.{new_half}
use Rattle.quic_streams.specs.Held.{halves_view, room}
use Rattle.quic_history.specs.Halves.{with_more}
use Rattle.quic_streams.proofs.halves.ReceiveHalves.permit_more.Given as goal

abbrev pub invariant-loop-offset : goal.invariant-loop-offset
invariant-loop-offset l = record {
  held : halves_view l.self ≡ with_more (halves_view l.fn.self) l.initiator l.dir l.first l.offset (Some (new_half l.fn.self.window));
  window : l.self.window ≡ l.fn.self.window;
  room : l.count ≤ l.offset + room l.self;
}
