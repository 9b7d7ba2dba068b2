-- How many bytes a stream takes now.
use Rattle.std.specs.Prelude.{ℕ, Option, Some, None, Result, Ok, Err, if◌then◌else◌}
use Rattle.quic_limits.specs.SendingCredit.{writable}
use Rattle.quic_sending.specs.declared.send.Send.{Send}
use Rattle.quic_sending.specs.declared.send.ClosedStream.{ClosedStream}
use Rattle.quic_sending.specs.Sending.{permitted, is_ready}
use Rattle.quic_outgoing.specs.Outgoing.{Outgoing, is_stuck}

-- of a send side that is open: what all limits leave, and nothing if the peer stopped the stream
abbrev pub open_room : Send → ℕ → Option ℕ → ℕ
open_room s most None = permitted s most
open_room s most (Some code) = 0

-- of a stream, while so many bytes may be written on all streams
abbrev pub room_of_half : ℕ → Option Send → Result ℕ ClosedStream
room_of_half most None = Err (record {})
room_of_half most (Some s) = if is_ready s.state then Ok (open_room s most s.stop_reason) else Err (record {})

-- how many bytes one write takes at most now. While nothing may be written on any stream, each send side has room for nothing,
-- also one that is finished or reset: a write is blocked
abbrev pub send_room : Outgoing → Option Send → Result ℕ ClosedStream
send_room u None = Err (record {})
send_room u (Some s) = if is_stuck u then Ok 0 else room_of_half (writable u.budget) (Some s)
