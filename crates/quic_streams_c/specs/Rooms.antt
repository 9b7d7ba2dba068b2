-- The room of a stream, as C has it.
use Rattle.std.specs.Prelude.{ℕ, ℤ, true, false, negsuc, ◌≡◌, Result, Err}
use Rattle.quic_sending.specs.declared.send.ClosedStream.{ClosedStream}
use Rattle.quic_history.specs.Acknowledged.{was_given}
use Rattle.quic_streams.specs.Connection.{is_shut}
use Rattle.quic_session.specs.declared.session.Session.{Session}
use Rattle.quic_session.specs.Rooms.{room_of}
use Rattle.quic_session.specs.Sessions.{end_of}
use Rattle.quic_streams_c.specs.Answers.{TellsNumber, closed_code}
use Rattle.quic_streams_c.specs.Calls.{WithNumber}
use Rattle.quic_streams_c.specs.Numbers.{small}

-- how many bytes one write on a stream takes at most now, if it was given
pub record SessionTellsRoom (s : Session) (id : ℕ) (answer : Result ℕ ClosedStream) : Type 0 where
  pub told : was_given (end_of s).streams id ≡ true → answer ≡ room_of (end_of s).streams id (is_shut s.conn)
  pub unknown : was_given (end_of s).streams id ≡ false → answer ≡ Err (record {})

-- qs_stream_send_room
abbrev pub TellsRoomRaw : Session → ℕ → ℤ → ℕ → ℕ → Type 0
TellsRoomRaw s id code was now = WithNumber (small id) ((code ≡ negsuc 2) × (now ≡ was)) (λ i.
    (answer : Result ℕ ClosedStream) × SessionTellsRoom s i answer × TellsNumber closed_code answer code was now)
