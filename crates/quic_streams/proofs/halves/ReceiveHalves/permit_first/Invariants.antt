use Rattle.std.proofs.Common.{◌≡◌, ◌+◌, ◌≤◌, Some}
use Rattle.quic_receiving.specs.Half.{new_half}
use Rattle.quic_streams.specs.Held.{halves_view, room}
use Rattle.quic_history.specs.Halves.{with_first}
use Rattle.quic_streams.proofs.halves.ReceiveHalves.permit_first.Given as goal

abbrev pub invariant-loop-index : goal.invariant-loop-index
invariant-loop-index l = record {
  held : halves_view l.self ≡ with_first (halves_view l.fn.self) l.initiator l.dir l.index (Some (new_half l.fn.self.window));
  window : l.self.window ≡ l.fn.self.window;
  room : l.count ≤ l.index + room l.self;
}
