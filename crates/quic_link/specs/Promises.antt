-- What holds between two ends, whatever is lost, repeated or reordered.
use Rattle.std.specs.Prelude.{◌↔◌, ℕ, Bool, Result, true, ◌⊎◌, ◌==◌, ◌&&◌, is_some, ◌≡◌, ◌+◌, ◌^◌, ◌≤◌, ◌<◌, List, [], ◌∷◌, ◌++◌, length, if◌then◌else◌, false, Some, None, Ok, Err}
use Rattle.quic_wire.specs.declared.frame.Frame.{Frame}
use Rattle.quic_wire.specs.declared.frame.Frame.TheVariants as frames
use Rattle.quic_wire.specs.declared.error.ReceiveError.{ReceiveError}
use Rattle.quic_wire.specs.declared.error.ReceiveError.TheVariants as receive_error
use Rattle.quic_wire.specs.Codes.{INTERNAL_ERROR}
use Rattle.quic_wire.specs.declared.event.StreamEvent.{StreamEvent}
use Rattle.quic_wire.specs.declared.event.StreamEvent.TheVariants as stream_event
use Rattle.quic_assembler.specs.Piece.{lies, IsByteAt}
use Rattle.quic_assembler.specs.Reassembly.{Holds, IsHeld, piece_count}
use Rattle.quic_receiving.specs.Data.{Carries, is_in_slices, IsAllGiven}
use Rattle.quic_receiving.specs.Half.{Half, Taken, verdict, reset_verdict, is_all}
use Rattle.quic_receiving.specs.declared.transmit.ShouldTransmit.{ShouldTransmit}
use Rattle.quic_values.specs.Ids.{dir_of, index_of}
use Rattle.quic_values.specs.declared.ids.Dir.TheVariants.{Bi}
use Rattle.quic_history.specs.World.{World, is_own, remote_of, id_refusal}
use Rattle.quic_history.specs.Sends.{sending_refusal}
use Rattle.quic_receiving.specs.declared.errors.ReadError.TheVariants as read_error
use Rattle.quic_receiving.specs.declared.errors.ReadableError.TheVariants as readable_error
use Rattle.quic_sending.specs.declared.send.WriteError.TheVariants as write_error
use Rattle.quic_sending.specs.declared.send.FinishError.TheVariants as finish_error
use Rattle.quic_history.specs.SendEvents.{RaisedCount, RaisedLimit, WroteOwn, FinishedOwn, Polled}
use Rattle.quic_history.specs.History.{Event, Received, ReceivedReset, Began, Gave, ToldReset, Sending, From, Trace, ReadChunk, slices, EachOnce, is_frame_kept, greatest_limit}
use Rattle.quic_link.specs.Endpoints.{LinkedEnd, IsOneOf, MayAct, sent_on, came_on, written_on, WasStoppedWith, WasAskedFor, WasGiven, GaveId}
use Rattle.quic_link.specs.Truths.{AreBytesOf, IsFrameTrue, amount_on}

-- a STREAM frame with the byte at an offset was answered Ok
pub record CameAt (calls : List Event) (id at : ℕ) : Type 0 where
  pub offset : ℕ
  pub bytes : List ℕ
  pub fin : Bool
  pub transmit : ShouldTransmit
  pub is : IsOneOf (Received id offset bytes fin (Ok transmit)) calls
  pub has : lies offset (offset + length bytes) at ≡ true

-- one with the end was
pub record EndCame (calls : List Event) (id : ℕ) : Type 0 where
  pub offset : ℕ
  pub bytes : List ℕ
  pub transmit : ShouldTransmit
  pub is : IsOneOf (Received id offset bytes true (Ok transmit)) calls

-- all that x wrote on a stream came to y: it was finished, and frames with every byte and with the end were answered Ok
pub record CameWhole (x y : LinkedEnd) (q : ℕ) : Type 0 where
  pub finished : (sent_on x q).finished ≡ true
  pub bytes : (at : ℕ) → at < amount_on x q → CameAt y.calls q at
  pub end : EndCame y.calls q

-- what the application is told of a stream is true: where it is finished all of it came, and a stop was asked for
abbrev pub IsTrueEvent : LinkedEnd → LinkedEnd → StreamEvent → Type 0
IsTrueEvent x y (stream_event.Finished id) = CameWhole x y id
IsTrueEvent x y (stream_event.Stopped id code) = WasStoppedWith y.calls id code
IsTrueEvent x y _ = Unit {0}

-- an end takes STREAM_DATA_BLOCKED of a stream: one that it opened goes both ways (section 19.13), and one of its peer is within the
-- limit that it enforces (section 4.6)
pub record TakesBlocked (w : World) (id : ℕ) : Type 0 where
  pub both_ways : is_own w id ≡ true → dir_of id ≡ Bi
  pub within : is_own w id ≡ false → index_of id < (remote_of w (dir_of id)).max_remote

-- an end does not refuse a frame: it knows the stream, on which the peer may send the frame, and its half, where one is held, takes
-- the frame (RFC 9000 sections 4.1, 4.5, 4.6, 19.8, 19.4, 19.5, 19.10, 19.11 and 19.13)
abbrev pub IsWelcome : World → Frame → Type 0
IsWelcome w (frames.Stream s) = (id_refusal w s.id ≡ None)
    × ((h : Half) → w.receive s.id ≡ Some h → h.reset ≡ None → verdict h s.offset (length s.bytes) s.fin w.credit.data_recvd w.credit.local_max_data ≡ Taken)
IsWelcome w (frames.ResetStream f) = (id_refusal w f.id ≡ None)
    × ((h : Half) → w.receive f.id ≡ Some h → reset_verdict h f.final_offset w.credit.data_recvd w.credit.local_max_data ≡ Taken)
IsWelcome w (frames.StopSending f) = sending_refusal w f.id ≡ None
IsWelcome w (frames.MaxStreamData id limit) = sending_refusal w id ≡ None
IsWelcome w (frames.MaxStreams d count) = count ≤ 2 ^ 60
IsWelcome w (frames.StreamDataBlocked id limit) = TakesBlocked w id
IsWelcome w _ = Unit {0}

-- no frame that x ever wrote is refused by y now
abbrev pub AreWelcome : LinkedEnd → LinkedEnd → Type 0
AreWelcome x y = (g : Frame) → IsOneOf g x.wrote → IsWelcome y.world g

-- too many pieces are held of a stream
pub record IsCrowded (w : World) (id : ℕ) : Type 0 where
  pub half : Half
  pub held : w.receive id ≡ Some half
  pub many : 1024 < piece_count half.buffer

-- a call is answered no transport error, but that a STREAM frame brought too many pieces
abbrev pub IsUnrefused : Event → World → Type 0
IsUnrefused (Received id offset bytes fin (Err (receive_error.Transport error))) v = (error.code ≡ INTERNAL_ERROR) × IsCrowded v id
IsUnrefused (ReceivedReset id code final (Err (receive_error.Transport error))) v = ⊥
IsUnrefused (Sending (RaisedCount dir count (Err (receive_error.Transport error)))) v = ⊥
IsUnrefused (Sending (RaisedLimit id limit (Err (receive_error.Transport error)))) v = ⊥
IsUnrefused _ v = Unit {0}

-- so no call of y may be answered otherwise
abbrev pub RefusesNone : LinkedEnd → LinkedEnd → Type 0
RefusesNone x y = (e : Event) (v : World) → MayAct y x e v → IsUnrefused e v

-- the bytes of the chunks that were read in order, joined; the newest chunk is the first of the list
abbrev pub given_in_order : List ReadChunk → List ℕ
given_in_order [] = []
given_in_order (c ∷ cs) = if c.ordered then given_in_order cs ++ c.bytes else given_in_order cs

-- what y was told of a stream is true of x, and what x was told of y
pub record TellsTruth (x y : LinkedEnd) (q : ℕ) : Type 0 where
  -- ordered reads gave a beginning of what was written
  pub beginning : AreBytesOf 0 (given_in_order (came_on y q).given) (written_on x q)
  -- each byte that was given is what was written at its place
  pub slices_written : (at byte : ℕ) → Carries (slices (came_on y q).given) at byte → IsByteAt 0 (written_on x q) at byte
  -- and is given once
  pub once : EachOnce (slices (came_on y q).given)
  -- where a read told the end, the stream was finished, and every byte of it given
  pub finished : (came_on y q).ended ≡ true → (sent_on x q).finished ≡ true
  pub all : (came_on y q).ended ≡ true → IsAllGiven (slices (came_on y q).given) (amount_on x q)
  -- the code of a reset that came is that of a reset, and the code of a stop that of a stop
  pub reset : (code : ℕ) → (came_on y q).reset ≡ Some code → (sent_on x q).reset ≡ Some code
  pub stopped : (code : ℕ) → (sent_on x q).stopped ≡ Some code → WasStoppedWith y.calls q code
  -- where the half of a stream that was not reset is freed, all of it came
  pub delivered : (sent_on x q).freed ≡ true → (sent_on x q).reset ≡ None → CameWhole x y q

-- a STREAM frame with the byte at an offset was kept
pub record KeptAt (calls : List Event) (id at : ℕ) : Type 0 where
  pub offset : ℕ
  pub bytes : List ℕ
  pub fin : Bool
  pub answer : Result ShouldTransmit ReceiveError
  pub is : IsOneOf (Received id offset bytes fin answer) calls
  pub kept : is_frame_kept answer ≡ true
  pub has : lies offset (offset + length bytes) at ≡ true

-- one with the end was
pub record EndKept (calls : List Event) (id : ℕ) : Type 0 where
  pub offset : ℕ
  pub bytes : List ℕ
  pub answer : Result ShouldTransmit ReceiveError
  pub is : IsOneOf (Received id offset bytes true answer) calls
  pub kept : is_frame_kept answer ≡ true

-- nothing that was kept is withheld from reads
pub record IsReadable (x y : LinkedEnd) (q : ℕ) (h : Half) : Type 0 where
  -- in order, the next byte is there
  pub next : h.buffer.ordered ≡ true → KeptAt y.calls q h.buffer.bytes_read → IsHeld (Holds h.buffer) h.buffer.bytes_read
  -- as bytes come, each that was not given
  pub any : (at : ℕ) → KeptAt y.calls q at → is_in_slices (slices (came_on y q).given) at ≡ false → IsHeld (Holds h.buffer) at
  -- where every byte was given and the end was kept, reads tell the end
  pub end : EndKept y.calls q → IsAllGiven (slices (came_on y q).given) (amount_on x q) → is_all h.size h.buffer.bytes_read ≡ true

-- so on each stream that its reader did not stop, and of which no reset came
abbrev pub AreReadable : LinkedEnd → LinkedEnd → Type 0
AreReadable x y = (q : ℕ) (h : Half) → y.world.receive q ≡ Some h → h.stopped ≡ false → h.reset ≡ None → IsReadable x y q h

-- how many frames of a stream a call kept, and all calls
abbrev pub frames_kept : Event → ℕ → ℕ
frames_kept (Received id offset bytes fin answer) q = if (q == id) && is_frame_kept answer then 1 else 0
frames_kept _ q = 0

abbrev pub kept_count : List Event → ℕ → ℕ
kept_count [] q = 0
kept_count (e ∷ h) q = kept_count h q + frames_kept e q

-- a reader of a stream was opened that reads bytes as they come
abbrev pub WasReadUnordered : List Event → ℕ → Type 0
WasReadUnordered calls id = IsOneOf (Began id false (Ok tt)) calls

-- why a stream is read no more: its end was told, or it was stopped, or a reset came
abbrev pub IsOver : Trace → Type 0
IsOver t = (t.ended ≡ true) ⊎ ((t.stopped ≡ true) ⊎ (is_some t.reset ≡ true))

-- there is nothing to read on a stream: in order, the next byte was not kept, and as bytes come, none that was not given;
-- and the end was not kept, or not every byte was given
pub record HasNothingToRead (x y : LinkedEnd) (q : ℕ) (ordered : Bool) : Type 0 where
  pub next : ordered ≡ true → KeptAt x.calls q (came_on x q).read → ⊥
  pub any : ordered ≡ false → (at : ℕ) → KeptAt x.calls q at → is_in_slices (slices (came_on x q).given) at ≡ false → ⊥
  pub end : EndKept x.calls q → IsAllGiven (slices (came_on x q).given) (amount_on y q) → ⊥

-- what x is answered is true: reads are blocked only where there is nothing to read; an end, a reset and a stop are those
-- of y; a stream that x receives on is closed only where it is over; an ordered read is refused only after an unordered
-- one; and there are too many pieces on a stream that was read in order only where more than 1024 of its frames were kept
abbrev pub IsTrueAnswer : LinkedEnd → LinkedEnd → Event → Type 0
IsTrueAnswer x y (Gave id most ordered (Ok None)) = ((sent_on y id).finished ≡ true) × IsAllGiven (slices (came_on x id).given) (amount_on y id)
IsTrueAnswer x y (Gave id most ordered (Err read_error.Blocked)) = HasNothingToRead x y id ordered
IsTrueAnswer x y (Gave id most ordered (Err (read_error.Reset code))) = (sent_on y id).reset ≡ Some code
IsTrueAnswer x y (ToldReset id (Ok (Some code))) = (sent_on y id).reset ≡ Some code
IsTrueAnswer x y (Began id ordered (Err readable_error.ClosedStream)) = id_refusal x.world id ≡ None → IsOver (came_on x id)
IsTrueAnswer x y (Began id ordered (Err readable_error.IllegalOrderedRead)) = (ordered ≡ true) × WasReadUnordered x.calls id
IsTrueAnswer x y (Received id offset bytes fin (Err (receive_error.Transport error))) = (WasReadUnordered x.calls id → ⊥) → 1024 < kept_count x.calls id + 1
IsTrueAnswer x y (Sending (WroteOwn id lists closed (Err (write_error.Stopped code)))) = WasStoppedWith y.calls id code
IsTrueAnswer x y (Sending (FinishedOwn id (Err (finish_error.Stopped code)))) = WasStoppedWith y.calls id code
IsTrueAnswer x y (Sending (Polled (Some g))) = IsTrueEvent x y g
IsTrueAnswer x y _ = Unit {0}

abbrev pub AnswersTrue : LinkedEnd → LinkedEnd → Type 0
AnswersTrue x y = (e : Event) (v : World) → MayAct x y e v → IsTrueAnswer x y e

-- the limits that x was given are those that y enforces, or lower: on a stream what was read and the window
pub record IsPermitted (x y : LinkedEnd) : Type 0 where
  pub all : greatest_limit x.calls ≤ y.world.credit.local_max_data
  pub each : (q : ℕ) → (sent_on x q).limit ≤ (came_on y q).read + y.made.window

-- what holds of two ends as x sends and y receives: x may come from its calls, and its application was given what `open`
-- and `accept` answered; every frame that x wrote is true of it, was asked for, and is welcome; no call is refused; what
-- is told and answered is true, what was kept may be read, and the limits of x are within those of y
pub record Promises (x y : LinkedEnd) : Type 0 where
  pub comes : From x.made x.calls x.world
  pub given : (id : ℕ) → WasGiven x.world id ↔ GaveId x.calls id
  pub frames_true : (g : Frame) → IsOneOf g x.wrote → IsFrameTrue x g
  pub frames_asked : (g : Frame) → IsOneOf g x.wrote → WasAskedFor x g
  pub welcome : AreWelcome x y
  pub unrefused : RefusesNone x y
  pub truth : (q : ℕ) → TellsTruth x y q
  pub readable : AreReadable x y
  pub answers : AnswersTrue x y
  pub limits : IsPermitted x y
