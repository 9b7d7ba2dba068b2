-- How many bytes a stream takes now.
use Rattle.std.specs.Prelude.{ℕ, Bool, Result, Ok, if◌then◌else◌}
use Rattle.quic_sending.specs.declared.send.ClosedStream.{ClosedStream}
use Rattle.quic_outgoing.specs.Rooms.{send_room}
use Rattle.quic_history.specs.World.{World}

-- how many bytes one write on a stream takes at most: none on a connection that is closed
abbrev pub room_of : World → ℕ → Bool → Result ℕ ClosedStream
room_of w id closed = if closed then Ok 0 else send_room w.out (w.out.halves id)
