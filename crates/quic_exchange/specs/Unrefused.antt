-- No frame that was sent is refused, but for too many pieces.
use Rattle.std.specs.Prelude.{ℕ, ◌≡◌, ◌<◌, ◌+◌, false, List, [], ◌∷◌, length, slice_get, None, Some, Ok}
use Rattle.quic_wire.specs.declared.frame.Frame.{Frame}
use Rattle.quic_wire.specs.declared.frame.Stream.{Stream}
use Rattle.quic_wire.specs.Frames.{AreFrames}
use Rattle.quic_wire.specs.declared.error.TransportError.{TransportError}
use Rattle.quic_wire.specs.declared.error.ReceiveError.{ReceiveError}
use Rattle.quic_wire.specs.declared.error.ReceiveError.TheVariants as receive_error
use Rattle.quic_wire.specs.Codes.{INTERNAL_ERROR}
use Rattle.quic_link.specs.Endpoints.{IsOneOf}
use Rattle.quic_link.specs.Promises.{IsCrowded, IsWelcome}
use Rattle.quic_steps.specs.declared.steps.End.{End}
use Rattle.quic_steps.specs.declared.steps.Step.{Step}
use Rattle.quic_steps.specs.declared.steps.Step.TheVariants as steps
use Rattle.quic_steps.specs.declared.steps.Reply.TheVariants.{Fault}
use Rattle.quic_exchange.specs.Sent.{Sent}
use Rattle.quic_exchange.specs.Replies.{Answer}
use Rattle.quic_exchange.specs.State.{PairState, peer, the_end}
use Rattle.quic_exchange.specs.History.{Past, FramePlace}
use Rattle.quic_exchange.specs.Headline.{IsStreamFrom}

-- the STREAM frames of an end on a stream that stand at some places, in their order; at each other place a payload was sent,
-- and no such frame stands there
pub data StreamsAt (sent : List Sent) (who : End) (id : ℕ) : List FramePlace → List Stream → Type 0 where
  none : StreamsAt sent who id [] []
  on : {places : List FramePlace} {streams : List Stream} (at : FramePlace) (s : Stream) → StreamsAt sent who id places streams → IsStreamFrom sent who at s → s.id ≡ id → StreamsAt sent who id (at ∷ places) (s ∷ streams)
  beside : {places : List FramePlace} {streams : List Stream} (at : FramePlace) (payload : Sent) → StreamsAt sent who id places streams → slice_get sent at.0 ≡ Some payload → ((s : Stream) → IsStreamFrom sent who at s → s.id ≡ id → ⊥) → StreamsAt sent who id (at ∷ places) streams

-- a STREAM frame brought too many pieces: the error is INTERNAL_ERROR, behind it more than 1024 pieces of its stream are
-- held, and where that was never read as bytes come, more than 1024 frames of it were kept, with this one
pub record BringsTooMany (p : Past) (sent : List Sent) (at : FramePlace) (error : TransportError) (after : PairState) : Type 0 where
  pub code : error.code ≡ INTERNAL_ERROR
  pub writer : End
  pub stream : Stream
  pub sent_as : IsStreamFrom sent writer at stream
  pub held : IsCrowded (the_end after (peer writer)).streams stream.id
  pub kept : List Stream
  pub are_kept : StreamsAt sent writer stream.id p.kept kept
  pub many : (p.flow writer stream.id).unordered ≡ false → 1024 < length kept + 1

-- a STREAM frame stands at a place
abbrev pub BringsData : List Sent → FramePlace → Type 0
BringsData sent at = (writer : End) × (stream : Stream) × IsStreamFrom sent writer at stream

-- why a frame at a place may be refused: for that, or, once its data was kept, for lack of memory to compact it. Lack of
-- memory before that is no fault of the frame
abbrev pub MayRefuse : Past → List Sent → FramePlace → ReceiveError → PairState → Type 0
MayRefuse p sent at (receive_error.Transport error) after = BringsTooMany p sent at error after
MayRefuse p sent at receive_error.CompactionMemory after = BringsData sent at
MayRefuse p sent at receive_error.OutOfMemory after = ⊥

-- what a delivery is answered: a fault is one of these
abbrev pub AnswersDelivery : Past → List Sent → FramePlace → Answer → PairState → Type 0
AnswersDelivery p sent at (Ok (Fault fault)) after = MayRefuse p sent at fault after
AnswersDelivery p sent at _ after = Unit {0}

-- no step refuses a frame for another reason
abbrev pub RefusesNoFrame : Past → List Sent → Step → Answer → PairState → Type 0
RefusesNoFrame p sent (steps.Deliver number index) reply after = AnswersDelivery p sent (number, index) reply after
RefusesNoFrame p sent _ reply after = Unit {0}

-- the bytes of a payload spell its frames, and the other end takes each of them: it knows the stream, its writer may send the frame on
-- it, and no limit is passed (RFC 9000 sections 4.1, 4.5, 4.6, 19.4, 19.5, 19.8, 19.10, 19.11 and 19.13)
pub record IsWelcomePayload (v : PairState) (s : Sent) : Type 0 where
  pub all : List Frame
  pub spelled : AreFrames s.text.bytes all
  pub welcome : (frame : Frame) → IsOneOf frame all → IsWelcome (the_end v (peer s.writer)).streams frame

-- so it is with every payload, once it is decided what becomes of what the client sent early
abbrev pub AreAllWelcome : PairState → Type 0
AreAllWelcome v = v.waits ≡ None → (number : ℕ) (s : Sent) → slice_get v.sent number ≡ Some s → IsWelcomePayload v s
