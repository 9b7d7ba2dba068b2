-- What frames say is true of the end that wrote them.
use Rattle.std.specs.Prelude.{ℕ, ◌≡◌, ◌+◌, ◌≤◌, true, List, length, Some}
use Rattle.quic_wire.specs.declared.frame.Frame.{Frame}
use Rattle.quic_wire.specs.declared.frame.Frame.TheVariants as frames
use Rattle.quic_wire.specs.declared.frame.Stream.{Stream}
use Rattle.quic_assembler.specs.Piece.{IsByteAt}
use Rattle.quic_sending.specs.Buffer.{total_length}
use Rattle.quic_history.specs.World.{remote_of}
use Rattle.quic_history.specs.History.{greatest_limit}
use Rattle.quic_link.specs.Endpoints.{LinkedEnd, sent_on, came_on, written_on, WasStoppedWith}

-- bytes from an offset on are those of a whole at their places
abbrev pub AreBytesOf : ℕ → List ℕ → List ℕ → Type 0
AreBytesOf offset bytes whole = (at byte : ℕ) → IsByteAt offset bytes at byte → IsByteAt 0 whole at byte

-- how many bytes were written on a stream
abbrev pub amount_on : LinkedEnd → ℕ → ℕ
amount_on x q = total_length (sent_on x q).cuts

-- a STREAM frame carries what was written at its place, and ends the stream only where it was ended, at its last byte
pub record IsTrueData (x : LinkedEnd) (s : Stream) : Type 0 where
  pub bytes : AreBytesOf s.offset s.bytes (written_on x s.id)
  pub within : s.offset + length s.bytes ≤ amount_on x s.id
  pub finished : s.fin ≡ true → (sent_on x s.id).finished ≡ true
  pub ends : s.fin ≡ true → s.offset + length s.bytes ≡ amount_on x s.id

-- a frame is true of the end that wrote it (RFC 9000 sections 4.1, 4.5, 4.6 and 19): a reset and a stop were asked for
-- with their codes, and a final size is what was written; a limit is not above the one that is enforced, which on a stream
-- is what was read and the window; and what is said to be used up is not above the limit that was given. No frame of
-- another kind is written
abbrev pub IsFrameTrue : LinkedEnd → Frame → Type 0
IsFrameTrue x (frames.Stream s) = IsTrueData x s
IsFrameTrue x (frames.ResetStream f) = ((sent_on x f.id).reset ≡ Some f.error_code) × (f.final_offset ≡ amount_on x f.id)
IsFrameTrue x (frames.StopSending f) = WasStoppedWith x.calls f.id f.error_code
IsFrameTrue x (frames.MaxData limit) = limit ≤ x.world.credit.local_max_data
IsFrameTrue x (frames.MaxStreamData id limit) = (limit ≤ (came_on x id).announced) × (limit ≤ (came_on x id).read + x.made.window)
IsFrameTrue x (frames.MaxStreams d count) = count ≤ (remote_of x.world d).max_remote
IsFrameTrue x (frames.DataBlocked limit) = limit ≤ greatest_limit x.calls
IsFrameTrue x (frames.StreamDataBlocked id limit) = limit ≤ (sent_on x id).limit
IsFrameTrue x _ = ⊥
