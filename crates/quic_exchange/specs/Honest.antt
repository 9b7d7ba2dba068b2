-- What every frame between two ends says is true.
use Rattle.std.specs.Prelude.{ℕ, ◌≡◌, ◌+◌, ◌≤◌, max, true, List, [], ◌∷◌, length, slice_get, Option, Some, None}
use Rattle.quic_wire.specs.Frames.{AreFrames}
use Rattle.quic_wire.specs.declared.frame.Frame.{Frame}
use Rattle.quic_wire.specs.declared.frame.Frame.TheVariants as frames
use Rattle.quic_wire.specs.declared.frame.Stream.{Stream}
use Rattle.quic_history.specs.World.{remote_of}
use Rattle.quic_history.specs.History.{ReadChunk}
use Rattle.quic_endpoint.specs.Ends.{EndState}
use Rattle.quic_link.specs.Endpoints.{IsOneOf}
use Rattle.quic_link.specs.Truths.{AreBytesOf}
use Rattle.quic_steps.specs.declared.steps.End.{End}
use Rattle.quic_steps.specs.declared.steps.End.TheVariants.{A, B}
use Rattle.quic_exchange.specs.declared.early.EarlyLimits.{EarlyLimits}
use Rattle.quic_exchange.specs.Sent.{Sent}
use Rattle.quic_exchange.specs.State.{PairState, peer, the_end}
use Rattle.quic_exchange.specs.History.{Past, Flow}

-- a STREAM frame carries what was written at its place, and ends the stream only where it was ended, at its last byte
-- (RFC 9000 sections 4.5 and 19.8)
pub record IsHonestData (f : Flow) (s : Stream) : Type 0 where
  pub bytes : AreBytesOf s.offset s.bytes f.written
  pub within : s.offset + length s.bytes ≤ length f.written
  pub finished : s.fin ≡ true → f.finished ≡ true
  pub ends : s.fin ≡ true → s.offset + length s.bytes ≡ length f.written

-- how many bytes some chunks have
abbrev pub amount_given : List ReadChunk → ℕ
amount_given [] = 0
amount_given (c ∷ cs) = amount_given cs + length c.bytes

-- the most that an end permits on a stream, of which it knows this: what its reads gave and the window (RFC 9000 section 4.1)
abbrev pub greatest_permitted : Flow → EndState → ℕ
greatest_permitted f e = amount_given f.given + e.streams.window

-- what it does while it is not decided whether the server takes what the client sends early: the client may go by what it
-- remembers of the server too (RFC 9000 section 7.4.1)
abbrev pub remembered_data : Option EarlyLimits → ℕ
remembered_data None = 0
remembered_data (Some k) = k.remembered.initial_max_data

abbrev pub remembered_window : Option EarlyLimits → ℕ
remembered_window None = 0
remembered_window (Some k) = max k.remembered.initial_max_stream_data_uni (max k.remembered.initial_max_stream_data_bidi_local k.remembered.initial_max_stream_data_bidi_remote)

-- the most that may be sent to an end in all
abbrev pub most_to : PairState → End → ℕ
most_to v A = v.a.streams.credit.local_max_data
most_to v B = max v.b.streams.credit.local_max_data (remembered_data v.waits)

-- and on a stream, of which it knows this
abbrev pub most_on : Flow → PairState → End → ℕ
most_on f v A = greatest_permitted f v.a
most_on f v B = amount_given f.given + max v.b.streams.window (remembered_window v.waits)

-- a frame of an end is true: a reset and a stop were asked for with their codes, and a final size is what was written; the
-- limits of MAX_DATA, MAX_STREAM_DATA and MAX_STREAMS are not above those that are enforced, and those of DATA_BLOCKED and
-- STREAM_DATA_BLOCKED not above those that the other end enforces, or was remembered to (RFC 9000 sections 4.1, 4.5, 4.6, 19.4, 19.5 and 19.9 to
-- 19.13). No frame of another kind is sent
abbrev pub IsHonestFrame : Past → PairState → End → Frame → Type 0
IsHonestFrame p v who (frames.Stream s) = IsHonestData (p.flow who s.id) s
IsHonestFrame p v who (frames.ResetStream f) = IsOneOf f.error_code (p.flow who f.id).resets × (f.final_offset ≡ length (p.flow who f.id).written)
IsHonestFrame p v who (frames.StopSending f) = IsOneOf f.error_code (p.flow (peer who) f.id).stops
IsHonestFrame p v who (frames.MaxData limit) = limit ≤ (the_end v who).streams.credit.local_max_data
IsHonestFrame p v who (frames.MaxStreams dir count) = count ≤ (remote_of (the_end v who).streams dir).max_remote
IsHonestFrame p v who (frames.MaxStreamData id limit) = limit ≤ greatest_permitted (p.flow (peer who) id) (the_end v who)
IsHonestFrame p v who (frames.DataBlocked limit) = limit ≤ most_to v (peer who)
IsHonestFrame p v who (frames.StreamDataBlocked id limit) = limit ≤ most_on (p.flow who id) v (peer who)
IsHonestFrame p v who _ = ⊥

-- the bytes of a payload spell its frames, and each of them is true
pub record IsHonestPayload (p : Past) (v : PairState) (s : Sent) : Type 0 where
  pub all : List Frame
  pub spelled : AreFrames s.text.bytes all
  pub honest : (frame : Frame) → IsOneOf frame all → IsHonestFrame p v s.writer frame

-- so does every payload that did not leave
abbrev pub AreHonest : Past → PairState → Type 0
AreHonest p v = (number : ℕ) (s : Sent) → slice_get v.sent number ≡ Some s → IsHonestPayload p v s
