-- What was kept may be read.
use Rattle.std.specs.Prelude.{ℕ, Bool, true, false, ◌≡◌, ◌<◌, ◌≤◌, ◌⊎◌, List, [], ◌∷◌, length, slice_get, Some, Ok}
use Rattle.quic_values.specs.declared.ids.Side.{Side}
use Rattle.quic_values.specs.declared.ids.Side.TheVariants.{Client, Server}
use Rattle.quic_values.specs.declared.ids.Dir.TheVariants.{Uni}
use Rattle.quic_values.specs.Ids.{initiator_of, dir_of}
use Rattle.quic_wire.specs.declared.frame.Frame.TheVariants as frames
use Rattle.quic_wire.specs.declared.frame.ResetStream.{ResetStream}
use Rattle.quic_wire.specs.declared.frame.StopSending.{StopSending}
use Rattle.quic_wire.specs.declared.event.StreamEvent.TheVariants as stream_event
use Rattle.quic_assembler.specs.declared.chunk.Chunk.{Chunk}
use Rattle.quic_receiving.specs.Data.{is_in_slices, IsAllGiven}
use Rattle.quic_history.specs.History.{slices}
use Rattle.quic_link.specs.Endpoints.{IsOneOf}
use Rattle.quic_link.specs.Promises.{given_in_order}
use Rattle.quic_steps.specs.declared.steps.End.{End}
use Rattle.quic_steps.specs.declared.steps.End.TheVariants.{A, B}
use Rattle.quic_steps.specs.declared.steps.Step.{Step}
use Rattle.quic_steps.specs.declared.steps.Step.TheVariants as steps
use Rattle.quic_steps.specs.declared.steps.Reply.TheVariants.{Read, Closed, Illegal, Code, Stopped, Event}
use Rattle.quic_steps.specs.declared.steps.Last.{Last}
use Rattle.quic_steps.specs.declared.steps.Last.TheVariants as last
use Rattle.quic_exchange.specs.Sent.{Sent}
use Rattle.quic_exchange.specs.Payloads.{IsFrameAt}
use Rattle.quic_exchange.specs.Replies.{Answer}
use Rattle.quic_exchange.specs.State.{peer}
use Rattle.quic_exchange.specs.History.{Past, Flow, FramePlace, past_read}
use Rattle.quic_exchange.specs.Headline.{SomeStream, HasOffset, HasEnd}

-- nothing is left to read of what an end sends on a stream: in order, the byte behind those that were given was not kept,
-- and as bytes come, each that was kept was given; and the end was not kept, or not every byte was given
pub record HasNothingLeft (f : Flow) (who : End) (id : ℕ) (kept : List FramePlace) (sent : List Sent) (ordered : Bool) : Type 0 where
  pub next : ordered ≡ true → SomeStream sent who id kept (HasOffset (length (given_in_order f.given))) → ⊥
  pub any : ordered ≡ false → (at : ℕ) → SomeStream sent who id kept (HasOffset at) → is_in_slices (slices f.given) at ≡ true
  pub end : SomeStream sent who id kept HasEnd → IsAllGiven (slices f.given) (length f.written) → ⊥

-- which side of the connection an end is
abbrev pub side_of : End → Side
side_of A = Client
side_of B = Server

-- the stream is one that the end only sends on (RFC 9000 section 2.1)
abbrev pub OnlySends : End → ℕ → Type 0
OnlySends who id = (initiator_of id ≡ side_of who) × (dir_of id ≡ Uni)

-- one of some places has a RESET_STREAM frame of an end on a stream, with a code
pub record SomeReset (sent : List Sent) (who : End) (id code : ℕ) (places : List FramePlace) : Type 0 where
  pub at : FramePlace
  pub listed : IsOneOf at places
  pub payload : Sent
  pub is : slice_get sent at.0 ≡ Some payload
  pub writer : payload.writer ≡ who
  pub frame : ResetStream
  pub there : IsFrameAt payload.text.bytes at.1 (frames.ResetStream frame)
  pub on : frame.id ≡ id
  pub with_code : frame.error_code ≡ code

-- one of some places has a STOP_SENDING frame of an end on a stream, with a code
pub record SomeStop (sent : List Sent) (who : End) (id code : ℕ) (places : List FramePlace) : Type 0 where
  pub at : FramePlace
  pub listed : IsOneOf at places
  pub payload : Sent
  pub is : slice_get sent at.0 ≡ Some payload
  pub writer : payload.writer ≡ who
  pub frame : StopSending
  pub there : IsFrameAt payload.text.bytes at.1 (frames.StopSending frame)
  pub on : frame.id ≡ id
  pub with_code : frame.error_code ≡ code

-- what an end sends on a stream is read no more: its end was told, or its reader stopped it, or a RESET_STREAM frame came
abbrev pub IsFlowOver : Past → List Sent → End → ℕ → Type 0
IsFlowOver p sent who id = ((p.flow who id).ended ≡ true) ⊎ (((code : ℕ) × IsOneOf code (p.flow who id).stops) ⊎ ((code : ℕ) × SomeReset sent who id code p.accepted))

-- no chunk has more bytes than were asked for, and each has some where any were
abbrev pub AreCut : ℕ → List Chunk → Type 0
AreCut most [] = Unit {0}
AreCut most (c ∷ cs) = (length c.bytes ≤ most) × (0 < most → 0 < length c.bytes) × AreCut most cs

-- reads are blocked only where nothing is left, told a reset only once a frame with its code was accepted, and end with no answer only
-- once as many gave a chunk as were asked for
abbrev pub EndsReads : Past → List Sent → End → ℕ → Bool → ℕ → ℕ → Last → Type 0
EndsReads p sent who id ordered times count last.Blocked = HasNothingLeft (p.flow (peer who) id) (peer who) id p.kept sent ordered
EndsReads p sent who id ordered times count (last.Reset code) = SomeReset sent (peer who) id code p.accepted
EndsReads p sent who id ordered times count last.More = count ≡ times
EndsReads p sent who id ordered times count _ = Unit {0}

-- a stream is closed to an end only where that end sends on it alone, or it is over, and an ordered read is refused only
-- after one that was not
abbrev pub ReadsTrue : Past → List Sent → End → ℕ → Bool → ℕ → ℕ → Answer → Type 0
ReadsTrue p sent who id ordered most times (Ok (Read chunks last transmit)) = AreCut most chunks.items × EndsReads p sent who id ordered times (length chunks.items) last
ReadsTrue p sent who id ordered most times (Ok Closed) = OnlySends who id ⊎ IsFlowOver p sent (peer who) id
ReadsTrue p sent who id ordered most times (Ok Illegal) = (ordered ≡ true) × ((p.flow (peer who) id).unordered ≡ true)
ReadsTrue p sent who id ordered most times _ = Unit {0}

-- the code of a reset is told only once a frame with it was accepted
abbrev pub CodeTrue : Past → List Sent → End → ℕ → Answer → Type 0
CodeTrue p sent who id (Ok (Code code)) = SomeReset sent (peer who) id code p.accepted
CodeTrue p sent who id _ = Unit {0}

-- so is that of a stop, to a call of its writer
abbrev pub StopTrue : Past → List Sent → End → ℕ → Answer → Type 0
StopTrue p sent who id (Ok (Stopped code)) = SomeStop sent (peer who) id code p.accepted
StopTrue p sent who id _ = Unit {0}

-- and by an event
abbrev pub EventTrue : Past → List Sent → End → Answer → Type 0
EventTrue p sent who (Ok (Event (stream_event.Stopped id code))) = SomeStop sent (peer who) id code p.accepted
EventTrue p sent who _ = Unit {0}

-- a read withholds nothing that was kept, and a reset or a stop that is told came; what other steps may withhold is not said
-- here
abbrev pub WithholdsNothing : Past → List Sent → Step → Answer → Type 0
WithholdsNothing p sent (steps.Read who id ordered most times) reply = ReadsTrue (past_read p who id ordered reply) sent who id ordered most times reply
WithholdsNothing p sent (steps.ReceivedReset who id) reply = CodeTrue p sent who id reply
WithholdsNothing p sent (steps.Write who id bytes) reply = StopTrue p sent who id reply
WithholdsNothing p sent (steps.WriteChunks who id chunks) reply = StopTrue p sent who id reply
WithholdsNothing p sent (steps.Finish who id) reply = StopTrue p sent who id reply
WithholdsNothing p sent (steps.Poll who) reply = EventTrue p sent who reply
WithholdsNothing p sent _ reply = Unit {0}
