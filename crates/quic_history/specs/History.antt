-- The history of one end of a connection: the calls on its streams with their answers, the newest first; and what it
-- says of the end.
use Rattle.std.specs.Prelude.{◌↔◌, ℕ, Bool, true, false, not, ◌≡◌, ◌+◌, ◌-◌, ◌^◌, ◌==◌, ◌≤◌, ◌<◌, ◌&&◌, ◌||◌, max, min, if◌then◌else◌, nat_eq, nat_lt, List, [], ◌∷◌, length, Option, Some, None, is_some, unwrap_or, Result, Ok, Err, ◌⊎◌, ◌++◌, is_none}
use Rattle.std.specs.List.{list_any}
use Rattle.quic_values.specs.declared.ids.Side.{Side}
use Rattle.quic_values.specs.declared.ids.Dir.{Dir}
use Rattle.quic_values.specs.declared.ids.Dir.TheVariants.{Bi, Uni}
use Rattle.quic_values.specs.Ids.{stream_id, other_side}
use Rattle.quic_limits.specs.Remote.{Remote}
use Rattle.quic_receiving.specs.Counted.{number}
use Rattle.quic_assembler.specs.declared.chunk.Chunk.{Chunk}
use Rattle.quic_wire.specs.declared.error.ReceiveError.{ReceiveError}
use Rattle.quic_wire.specs.declared.error.ReceiveError.TheVariants as receive_error
use Rattle.quic_wire.specs.Codes.{INTERNAL_ERROR}
use Rattle.quic_limits.specs.Credit.{Credit, is_max_data_due}
use Rattle.quic_assembler.specs.Piece.{lies}
use Rattle.quic_receiving.specs.Data.{Slice, Carries, is_in_slices, IsData, IsAllGiven}
use Rattle.quic_receiving.specs.Half.{Half}
use Rattle.quic_receiving.specs.declared.transmit.ShouldTransmit.{ShouldTransmit}
use Rattle.quic_receiving.specs.declared.errors.ReadError.{ReadError}
use Rattle.quic_receiving.specs.declared.errors.ReadError.TheVariants as read_error
use Rattle.quic_receiving.specs.declared.errors.ReadableError.{ReadableError}
use Rattle.quic_sending.specs.declared.errors.HandleError.{HandleError}
use Rattle.quic_history.specs.declared.progress.Progress.{Progress}
use Rattle.quic_history.specs.declared.progress.Progress.TheVariants as progress
use Rattle.quic_history.specs.declared.progress.LastAnswer.{LastAnswer}
use Rattle.quic_history.specs.declared.progress.LastAnswer.TheVariants as last_answer
use Rattle.quic_retransmits.specs.Pending.{Pending}
use Rattle.quic_values.specs.declared.memory.OutOfMemory.{OutOfMemory}
use Rattle.quic_history.specs.World.{World, Made, IsUnusedCredit, IsUnusedRemote, count_of, start, id_refusal, remote_of, sends, with_credit, with_receive_window}
use Rattle.quic_history.specs.Used.{used_halves}
use Rattle.quic_outgoing.specs.History.{count_in, given_for}
use Rattle.quic_history.specs.SendTotals.{SendTotals, send_totals, own_total}
use Rattle.quic_history.specs.declared.control.ControlKind.{ControlKind}
use Rattle.quic_history.specs.Control.{SettlesEntry}
use Rattle.quic_wire.specs.declared.frame.Frame.{Frame}
use Rattle.quic_wire.specs.declared.frame.Frame.TheVariants as frames
use Rattle.quic_history.specs.SendEvents.{SendEvent, SendStep, GaveLimits, RaisedData, RaisedCount, RaisedLimit, StoppedOwn, SetWindow, OpenedOwn, WroteOwn, FinishedOwn, ResetOwn, Polled, AckedOwn, LostOwn, ResetAckedOwn, TookTurn}
use Rattle.quic_flows.specs.Flow.{SendMove, WasWritten, WasFinished, WasGivenUp, WasAskedToStop, WasPermitted, SendFlow, new_flow, front_of, retained, WasCarried, WasAcked, WasLost, WasResetAcked}
use Rattle.quic_outgoing.specs.declared.limits.PeerLimits.{PeerLimits}
use Rattle.quic_outgoing.specs.declared.entries.FirstLimits.{FirstLimits}
use Rattle.quic_outgoing.specs.Senders.{no_limits, first_limit}
use Rattle.quic_outgoing.specs.Outgoing.{first_ids, first_of}
use Rattle.quic_history.specs.Flows.{SendTale, has_send_side, send_moved, with_first_limits, with_limits_in, AllFlows, room_on, refusal_told, wakes, told_if, TakesQueued, ends_by, AreInQueue}
use Rattle.quic_wire.specs.declared.event.StreamEvent.{StreamEvent}
use Rattle.quic_wire.specs.declared.event.StreamEvent.TheVariants as stream_event
use Rattle.quic_sending.specs.Buffer.{total_length}
use Rattle.quic_sending.specs.declared.send.Written.{Written}
use Rattle.quic_sending.specs.declared.send.WriteError.{WriteError}
use Rattle.quic_sending.specs.declared.send.WriteError.TheVariants as write_error
use Rattle.quic_history.specs.Writes.{WritesOwn}
use Rattle.quic_values.specs.declared.ids.Side.TheVariants.{Client}
use Rattle.quic_outgoing.specs.Senders.{is_local}
use Rattle.quic_outgoing.specs.Early.{NoneAcked}
use Rattle.quic_history.specs.Early.{IsEarly, with_rejection, SendsAgain, JointMove, WereDropped, WereUnsent, with_joint_move, begins_anew}
use Rattle.quic_history.specs.Permitting.{SetsConcurrent, with_accepted, acceptable, with_count_of}
use Rattle.quic_history.specs.Receiving.{Receives, ReceivesReset}
use Rattle.quic_history.specs.Reading.{Begins, ReadsHalf, Stops, TellsReset, bytes_in}

-- a call and its answer
pub data Event : Type 0 where
  -- a STREAM frame was handed in
  Received : (id offset : ℕ) → (bytes : List ℕ) → (fin : Bool) → (answer : Result ShouldTransmit ReceiveError) → Event
  -- a RESET_STREAM frame was handed in
  ReceivedReset : (id code final : ℕ) → (answer : Result ShouldTransmit ReceiveError) → Event
  -- the caller consumed bytes elsewhere
  AddedCredits : (count : ℕ) → (answer : ShouldTransmit) → Event
  -- a reader was asked for
  Began : (id : ℕ) → (ordered : Bool) → (answer : Result (Unit {0}) ReadableError) → Event
  -- a reader that may go on, in order or not, was asked for at most so many bytes
  Gave : (id most : ℕ) → (ordered : Bool) → (answer : Result (Option Chunk) ReadError) → Event
  -- a reader that gave so many bytes was ended
  Ended : (id count : ℕ) → Event
  -- a stream was stopped
  Stopped : (id code : ℕ) → (answer : Result (Unit {0}) HandleError) → Event
  -- the code of a reset was asked for
  ToldReset : (id : ℕ) → (answer : Result (Option ℕ) HandleError) → Event
  -- the receive window was set
  Resized : (window : ℕ) → (answer : Bool) → Event
  -- it was set how many streams of a direction the peer is to be able to use at a time
  SetConcurrent : (dir : Dir) → (count : ℕ) → (answer : Result (Unit {0}) OutOfMemory) → Event
  -- the next stream that the peer opened was asked for
  Accepted : (dir : Dir) → (answer : Option ℕ) → Event
  -- an entry of what is pending was written as a frame, or dropped
  LeftPending : (kind : ControlKind) → (frame : Option Frame) → Event
  -- a call on the sending side
  Sending : SendEvent → Event
  -- an early start was rejected
  Rejected : Event
  -- all that an early start sent was asked to be sent again
  SentAgain : (answer : Result (Unit {0}) OutOfMemory) → Event

-- an answer of a reader that may go on is a call; what it told at the end it tells again, and that is none
abbrev pub with_next : Progress → ℕ → ℕ → Bool → Result (Option Chunk) ReadError → List Event → List Event
with_next progress.Readable id most ordered answer h = Gave id most ordered answer ∷ h
with_next (progress.Reset code) id most ordered answer h = h
with_next progress.Finished id most ordered answer h = h

-- reads that gave these chunks, one after another
abbrev pub with_chunks : ℕ → ℕ → Bool → List Chunk → List Event → List Event
with_chunks id most ordered [] h = h
with_chunks id most ordered (c ∷ cs) h = with_chunks id most ordered cs (Gave id most ordered (Ok (Some c)) ∷ h)

-- and the one that gave none, if one more was asked for
abbrev pub with_last : ℕ → ℕ → Bool → LastAnswer → List Event → List Event
with_last id most ordered last_answer.Blocked h = Gave id most ordered (Err read_error.Blocked) ∷ h
with_last id most ordered last_answer.Ended h = Gave id most ordered (Ok None) ∷ h
with_last id most ordered (last_answer.Reset code) h = Gave id most ordered (Err (read_error.Reset code)) ∷ h
with_last id most ordered last_answer.Memory h = Gave id most ordered (Err read_error.OutOfMemory) ∷ h
with_last id most ordered last_answer.More h = h

-- a reader was opened, gave these chunks, and was ended
abbrev pub with_reads : ℕ → ℕ → Bool → List Chunk → LastAnswer → List Event → List Event
with_reads id most ordered chunks last h =
    Ended id (bytes_in chunks) ∷ with_last id most ordered last (with_chunks id most ordered chunks (Began id ordered (Ok tt) ∷ h))

-- what one call may do
abbrev pub Step : World → Event → World → Type 0
Step u (Received id offset bytes fin answer) v = Receives u id offset bytes fin answer v
Step u (ReceivedReset id code final answer) v = ReceivesReset u id code final answer v
Step u (AddedCredits count answer) v = (v ≡ with_credit u count) × (answer.0 ≡ is_max_data_due v.credit)
Step u (Began id ordered answer) v = Begins u id ordered answer v
Step u (Gave id most ordered answer) v = ReadsHalf u id most ordered answer v
Step u (Ended id count) v = v ≡ with_credit u count
Step u (Stopped id code answer) v = (p : Pending) × (q : Pending) × Stops u id code p answer v q
Step u (ToldReset id answer) v = (p : Pending) × (q : Pending) × TellsReset u id p answer v q
Step u (Resized window answer) v = (v ≡ with_receive_window u window) × (answer ≡ nat_lt u.credit.receive_window window)
Step u (SetConcurrent dir count answer) v = SetsConcurrent u dir count answer v
Step u (Accepted dir answer) v = (v ≡ with_accepted u dir) × (answer ≡ acceptable u dir)
Step u (LeftPending kind frame) v = (p : Pending) × (q : Pending) × SettlesEntry kind u p frame v q
Step u (Sending e) v = SendStep u e v
Step u Rejected v = IsEarly u × (v ≡ with_rejection u)
Step u (SentAgain answer) v = NoneAcked u.out.side u.out.halves × SendsAgain u answer v

-- what a call did to the sending sides of all streams at once, if it did something to them
abbrev pub joint_move_of : Event → Option JointMove
joint_move_of Rejected = Some WereDropped
joint_move_of (SentAgain (Ok x)) = Some WereUnsent
joint_move_of _ = None

-- the calls since the last early start that was rejected
abbrev pub with_call : Event → List Event → List Event
with_call e h = if begins_anew (joint_move_of e) then [] else e ∷ h

abbrev pub since : List Event → List Event
since [] = []
since (e ∷ h) = with_call e (since h)

-- how many bytes the reader gave that was opened last, and is not ended
abbrev pub with_given : Event → ℕ → ℕ
with_given (Began id ordered answer) n = 0
with_given (Gave id most ordered (Ok (Some chunk))) n = n + length chunk.bytes
with_given (Ended id count) n = 0
with_given _ n = n

abbrev pub given : List Event → ℕ
given [] = 0
given (e ∷ h) = with_given e (given h)

-- a call fits the calls before: a reader is ended with what it gave
abbrev pub Fits : List Event → Event → Type 0
Fits h (Ended id count) = count ≡ given h
Fits h _ = Unit {0}

-- how an end begins
pub record IsStart (m : Made) (v : World) : Type 0 where
  pub uni : IsUnusedRemote m.uni
  pub bi : IsUnusedRemote m.bi
  pub credit : IsUnusedCredit m.credit
  pub is : v ≡ start m

-- what every call leaves: which end it is, the first limit of a stream, and that the limit of the connection does not fall
pub record Goes (u v : World) : Type 0 where
  pub side : v.out.side ≡ u.out.side
  pub window : v.window ≡ u.window
  pub limit : u.credit.local_max_data ≤ v.credit.local_max_data

-- the calls, one after another, may lead there
abbrev pub IsRun : Made → List Event → World → Type 0
IsRun m [] v = IsStart m v
IsRun m (e ∷ h) v = (u : World) × IsRun m h u × Fits h e × Step u e v × Goes u v

-- bytes that a read gave, and whether in order
pub record ReadChunk : Type 0 where
  pub offset : ℕ
  pub bytes : List ℕ
  pub ordered : Bool

abbrev pub slices : List ReadChunk → List Slice
slices [] = []
slices (c ∷ cs) = record { offset = c.offset; bytes = c.bytes } ∷ slices cs

-- what the calls tell of one stream
pub record Trace : Type 0 where
  -- the highest offset received, which after a reset is the final size
  pub high : ℕ
  -- how many bytes reads gave
  pub read : ℕ
  -- whether the final size is known
  pub sized : Bool
  -- whether the application stopped it
  pub stopped : Bool
  -- the code with which the peer reset it
  pub reset : Option ℕ
  -- whether its receive half was freed
  pub gone : Bool
  -- whether a read told the end
  pub ended : Bool
  -- the greatest limit of it that MAX_STREAM_DATA announced, 0 where none did
  pub announced : ℕ
  -- the frames that were kept, the last first
  pub kept : List Slice
  -- the chunks that reads gave, the last first
  pub given : List ReadChunk

abbrev pub untouched : Trace
untouched = record { high = 0; read = 0; sized = false; stopped = false; reset = None; gone = false; ended = false; announced = 0; kept = []; given = [] }

-- whether frames on a stream are dropped
abbrev pub is_closed : Trace → Bool
is_closed t = is_some t.reset || t.gone

-- whether a frame was kept: it was taken, or there were too many pieces, or no memory to compact them
abbrev pub is_frame_kept : Result ShouldTransmit ReceiveError → Bool
is_frame_kept (Ok transmit) = true
is_frame_kept (Err (receive_error.Transport error)) = error.code == INTERNAL_ERROR
is_frame_kept (Err receive_error.CompactionMemory) = true
is_frame_kept (Err receive_error.OutOfMemory) = false

-- a STREAM frame was kept. The end of a stopped stream frees it
abbrev pub with_kept_frame : ℕ → List ℕ → Bool → Trace → Trace
with_kept_frame offset bytes fin t = if is_closed t then t else record t {
  high = max t.high (offset + length bytes);
  sized = t.sized || fin;
  gone = t.stopped && fin;
  kept = record { offset = offset; bytes = bytes } ∷ t.kept;
}

-- a RESET_STREAM with a code and a final size was taken. That of a stopped stream frees it
abbrev pub with_reset : ℕ → ℕ → Trace → Trace
with_reset code final t = if is_closed t then t else record t { high = final; sized = true; reset = Some code; gone = t.stopped }

-- a read answered so. The end and a reset free the stream
abbrev pub with_read : Bool → Result (Option Chunk) ReadError → Trace → Trace
with_read ordered (Ok (Some chunk)) t =
    record t { read = t.read + length chunk.bytes; given = record { offset = chunk.offset; bytes = chunk.bytes; ordered = ordered } ∷ t.given }
with_read ordered (Ok None) t = record t { gone = true; ended = true }
with_read ordered (Err read_error.Blocked) t = t
with_read ordered (Err (read_error.Reset code)) t = record t { gone = true }
with_read ordered (Err read_error.OutOfMemory) t = t

-- a stop frees a stream of which the final size is known
abbrev pub with_stop : Trace → Trace
with_stop t = record t { stopped = true; gone = t.sized }

-- what a call did to one stream
pub data Move : Type 0 where
  -- a STREAM frame was handed in, and answered so
  Framed : (offset : ℕ) → (bytes : List ℕ) → (fin : Bool) → (answer : Result ShouldTransmit ReceiveError) → Move
  -- a RESET_STREAM was taken
  WasReset : (code final : ℕ) → Move
  -- a read was answered so
  WasRead : (ordered : Bool) → (answer : Result (Option Chunk) ReadError) → Move
  -- it was stopped
  WasStopped : Move
  -- the code of its reset was told, which frees it
  WasTold : Move
  -- MAX_STREAM_DATA announced a limit of it
  WasAnnounced : (limit : ℕ) → Move

abbrev pub with_move : Move → Trace → Trace
with_move (Framed offset bytes fin answer) t = if is_frame_kept answer then with_kept_frame offset bytes fin t else t
with_move (WasReset code final) t = with_reset code final t
with_move (WasRead ordered answer) t = with_read ordered answer t
with_move WasStopped t = with_stop t
with_move WasTold t = record t { gone = true }
with_move (WasAnnounced limit) t = record t { announced = max t.announced limit }

-- the stream that a call touched, and what it did to it. Other calls, and those that were refused, touch none
abbrev pub move_of : Event → Option (ℕ × Move)
move_of (Received id offset bytes fin answer) = Some (id, Framed offset bytes fin answer)
move_of (ReceivedReset id code final (Ok transmit)) = Some (id, WasReset code final)
move_of (Gave id most ordered answer) = Some (id, WasRead ordered answer)
move_of (Stopped id code (Ok u)) = Some (id, WasStopped)
move_of (ToldReset id (Ok (Some code))) = Some (id, WasTold)
move_of (LeftPending kind (Some (frames.MaxStreamData id limit))) = Some (id, WasAnnounced limit)
move_of _ = None

abbrev pub moved : Option (ℕ × Move) → ℕ → Trace → Trace
moved None q t = t
moved (Some m) q t = if q == m.0 then with_move m.1 t else t

-- and where an early start was rejected, nothing is told any more of the streams that a client opens
abbrev pub told_still : Event → ℕ → Trace → Trace
told_still e q t = if begins_anew (joint_move_of e) && is_local Client q then untouched else t

abbrev pub trace : List Event → ℕ → Trace
trace [] q = untouched
trace (e ∷ h) q = moved (move_of e) q (told_still e q (trace h q))

-- the streams that calls touched, each once
abbrev pub with_stream : ℕ → List ℕ → List ℕ
with_stream id ids = if list_any (nat_eq id) ids then ids else id ∷ ids

abbrev pub with_streams : Option (ℕ × Move) → List ℕ → List ℕ
with_streams None ids = ids
with_streams (Some m) ids = with_stream m.0 ids

abbrev pub streams : List Event → List ℕ
streams [] = []
streams (e ∷ h) = with_streams (move_of e) (streams h)

-- the sum of a function over a list
abbrev pub total_over : (ℕ → ℕ) → List ℕ → ℕ
total_over f [] = 0
total_over f (x ∷ xs) = f x + total_over f xs

-- the sum of the highest offsets received, over all streams
abbrev pub received : List Event → ℕ
received h = total_over (λ q. (trace h q).high) (streams h)

-- how many bytes a frame that ends there gives credit for: on a stopped stream those above the highest offset
abbrev pub frame_credit : Trace → ℕ → ℕ
frame_credit t end = if is_closed t then 0 else (if t.stopped then end - t.high else 0)

-- how many bytes a reset gives credit for: those up to the final size that gave none yet
abbrev pub reset_credit : Trace → ℕ → ℕ
reset_credit t final = if is_closed t then 0 else final - (if t.stopped then t.high else t.read)

-- how many bytes a stop gives credit for: those that were not read, and none after a reset, which gave it
abbrev pub stop_gives : Trace → ℕ
stop_gives t = if is_some t.reset then 0 else t.high - t.read

-- how many bytes what was done to a stream gives credit for
abbrev pub move_gives : Move → Trace → ℕ
move_gives (Framed offset bytes fin answer) t = if is_frame_kept answer then frame_credit t (offset + length bytes) else 0
move_gives (WasReset code final) t = reset_credit t final
move_gives (WasRead ordered answer) t = 0
move_gives WasStopped t = stop_gives t
move_gives WasTold t = 0
move_gives (WasAnnounced limit) t = 0

-- how many bytes that were consumed a call hands in
abbrev pub handed_in : Event → ℕ
handed_in (AddedCredits count answer) = count
handed_in (Ended id count) = count
handed_in _ = 0

abbrev pub given_back : Option (ℕ × Move) → (ℕ → Trace) → ℕ → ℕ
given_back None f n = n
given_back (Some m) f n = move_gives m.1 (f m.0)

-- how many bytes a call gives credit for: what it did to a stream, or else what was handed in
abbrev pub consumed_by : List Event → Event → ℕ
consumed_by h e = given_back (move_of e) (trace h) (handed_in e)

-- the bytes whose credit was given back, each once
abbrev pub consumed : List Event → ℕ
consumed [] = 0
consumed (e ∷ h) = consumed h + consumed_by h e

-- the receive window that a call set
abbrev pub window_set : Event → Option ℕ
window_set (Resized window answer) = Some window
window_set _ = None

-- the receive window that was set last, if not that of the first credit
abbrev pub last_window : Credit → List Event → ℕ
last_window c [] = c.receive_window
last_window c (e ∷ h) = unwrap_or (window_set e) (last_window c h)

-- what is taken off a window is owed, up to the greatest number of 64 bits
abbrev pub with_owed : Option ℕ → ℕ → ℕ → ℕ
with_owed None w n = n
with_owed (Some window) w n = min (n + (w - window)) (2 ^ 64 - 1)

-- how many bytes that are consumed give no credit: what the first credit owes, and as many as were taken off the window,
-- and each that is consumed is one less
abbrev pub debt : Credit → List Event → ℕ
debt c [] = c.shrink_debt
debt c (e ∷ h) = with_owed (window_set e) (last_window c h) (debt c h - consumed_by h e)

-- the credit of a connection with such a window, of which so many bytes were consumed, with such a debt, and so many came
pub record CreditFrom (window used owed came : ℕ) (c : Credit) : Type 0 where
  pub receive_window : c.receive_window ≡ window
  pub debt : c.shrink_debt ≡ owed
  pub debt_fits : c.shrink_debt < 2 ^ 64
  -- the limit is the window, what was consumed and the debt, up to the greatest number of 64 bits
  pub limit : c.local_max_data ≡ min (window + used + owed) (2 ^ 64 - 1)
  pub received : c.data_recvd ≡ came
  pub permitted : came ≤ c.local_max_data
  -- what was received and not consumed is at most the window and the debt
  pub unread : came - used ≤ window + owed

-- a receive half is as the calls tell of its stream, which began with a limit
pub record HalfFrom (first : ℕ) (t : Trace) (h : Half) : Type 0 where
  pub high : h.end ≡ t.high
  pub read : h.buffer.bytes_read ≡ t.read
  pub sized : is_some h.size ≡ t.sized
  pub stopped : h.stopped ≡ t.stopped
  pub reset : h.reset ≡ t.reset
  pub there : t.gone ≡ false
  -- a final size that is known is the highest offset
  pub final : (size : ℕ) → h.size ≡ Some size → h.end ≡ size
  -- what is held lies below the highest offset
  pub within : h.buffer.highest ≤ h.end
  -- its limit is the greatest that was announced, or the first
  pub limit : h.sent_max ≡ max first t.announced
  -- while it is neither stopped nor reset, it holds what came in kept frames and was not given
  pub holds : t.stopped ≡ false → t.reset ≡ None → IsData t.kept (slices t.given) h.buffer

-- a stream whose frames are refused has no receive half, and nothing was told of it. Another has one until it is freed
abbrev pub StreamFrom : ℕ → Trace → Option ℕ → Option Half → Type 0
StreamFrom first t None (Some h) = HalfFrom first t h
StreamFrom first t None None = t.gone ≡ true
StreamFrom first t (Some error) (Some h) = ⊥
StreamFrom first t (Some error) None = t ≡ untouched

-- whether a stream of the peer is wholly freed: its receive half is gone, and no send half is held
abbrev pub is_freed : (ℕ → Trace) → Side → (ℕ → Bool) → Dir → ℕ → Bool
is_freed f side sends Uni index = (f (stream_id (other_side side) Uni index)).gone
is_freed f side sends Bi index = (f (stream_id (other_side side) Bi index)).gone && not (sends (stream_id (other_side side) Bi index))

-- as many streams as the peer is to be able to use at a time, and one more for each that is wholly freed, up to 2^60
abbrev pub room_for : (ℕ → Bool) → Remote → ℕ
room_for over r = min (r.max_concurrent + number over r.max_remote) (2 ^ 60)

-- the streams of the peer of one direction, of which these indices are wholly freed (RFC 9000 section 4.6). It is to be
-- able to use so many at a time, and might open so many before the last call
pub record RemoteFrom (at_once before : ℕ) (over : ℕ → Bool) (r : Remote) : Type 0 where
  pub concurrent : r.max_concurrent ≡ at_once
  -- the peer may use those that are not
  pub allocated : r.allocated + number over r.max_remote ≡ r.max_remote
  -- it may open as many as there was ever room for: what it might before is never taken back
  pub permitted : r.max_remote ≡ max before (room_for over r)
  -- it opened no more than it may
  pub opened : r.next_remote ≤ r.max_remote
  -- and the application accepted no more than that
  pub accepted : r.next_reported ≤ r.next_remote

-- what was given came, and each byte of it once
abbrev pub EachOnce : List Slice → Type 0
EachOnce [] = Unit {0}
EachOnce (s ∷ ss) = ((at : ℕ) → lies s.offset (s.offset + length s.bytes) at ≡ true → is_in_slices ss at ≡ false) × EachOnce ss

pub record GivenSo (t : Trace) : Type 0 where
  pub came : (at byte : ℕ) → Carries (slices t.given) at byte → Carries t.kept at byte
  pub once : EachOnce (slices t.given)

-- where a read told the end, the half was freed, the final size was known, and each byte below it was given
pub record EndsSo (t : Trace) : Type 0 where
  pub freed : t.ended ≡ true → t.gone ≡ true
  pub sized : t.ended ≡ true → t.sized ≡ true
  pub all : t.ended ≡ true → IsAllGiven (slices t.given) t.high

-- what a history says of the end that it led to, which began with a credit
pub record Facts (begun : Credit) (h : List Event) (v : World) : Type 0 where
  pub credit : CreditFrom (last_window begun h) (consumed h) (debt begun h) (received h) v.credit
  pub streams : (q : ℕ) → StreamFrom v.window (trace h q) (id_refusal v q) (v.receive q)

-- of a stream that is neither stopped nor reset, as many bytes were read as a known final size tells, where reads tell the end, exactly where each byte below it was given
abbrev pub TellsEnds : List Event → World → Type 0
TellsEnds h v = (q : ℕ) (half : Half) → v.receive q ≡ Some half → half.stopped ≡ false → half.reset ≡ None → (size : ℕ) → half.size ≡ Some size
    → (half.buffer.bytes_read ≡ size) ↔ IsAllGiven (slices (trace h q).given) size

-- how many bytes a write took
abbrev pub taken_by : Event → ℕ
taken_by (Sending (WroteOwn id lists closed (Ok written))) = written.bytes
taken_by _ = 0

-- how many bytes all writes took
abbrev pub taken_in_all : List Event → ℕ
taken_in_all [] = 0
taken_in_all (e ∷ h) = taken_in_all h + taken_by e

-- the limit of the connection that a call gave, 0 where it gave none
abbrev pub limit_by : Event → ℕ
limit_by (Sending (GaveLimits limits (Ok x))) = limits.initial_max_data
limit_by (Sending (RaisedData limit)) = limit
limit_by _ = 0

-- the greatest limit of the connection that was given
abbrev pub greatest_limit : List Event → ℕ
greatest_limit [] = 0
greatest_limit (e ∷ h) = max (greatest_limit h) (limit_by e)

-- the count of streams of a direction that a call gave, 0 where it gave none; there are 2^60 streams at most
abbrev pub count_by : Event → Dir → ℕ
count_by (Sending (GaveLimits limits (Ok x))) d = min (count_in limits d) (2 ^ 60)
count_by (Sending (RaisedCount dir count (Ok x))) d = min (given_for dir d count) (2 ^ 60)
count_by _ d = 0

-- the greatest count of streams of a direction that was given
abbrev pub greatest_count : List Event → Dir → ℕ
greatest_count [] d = 0
greatest_count (e ∷ h) d = max (greatest_count h d) (count_by e d)

-- how many streams of a direction a call opened
abbrev pub opens_by : Event → Dir → ℕ
opens_by (Sending (OpenedOwn dir closed (Ok (Some id)))) d = given_for dir d 1
opens_by _ d = 0

-- how many streams of a direction were opened
abbrev pub opened_in_all : List Event → Dir → ℕ
opened_in_all [] d = 0
opened_in_all (e ∷ h) d = opened_in_all h d + opens_by e d

-- what an end sent and opened, and what it might: the bytes that writes took are counted, and are no more than the
-- greatest limit that was given; so of the streams that it opened, of each direction
pub record SentSo (h : List Event) (a : SendTotals) : Type 0 where
  pub taken : a.data_sent ≡ taken_in_all h
  pub limit : a.max_data ≡ greatest_limit h
  pub within : taken_in_all h ≤ greatest_limit h
  pub opened : (d : Dir) → (own_total a d).opened ≡ opened_in_all h d
  pub counted : (d : Dir) → (own_total a d).limit ≡ greatest_count h d
  pub few : (d : Dir) → opened_in_all h d ≤ greatest_count h d

-- how many streams of each direction the peer is to be able to use at a time, once a call was made
abbrev pub with_count_set : Event → (Dir → ℕ) → Dir → ℕ
with_count_set (SetConcurrent dir count (Ok u)) f = with_count_of dir count f
with_count_set _ f = f

-- and after all calls
abbrev pub counts : (Dir → ℕ) → List Event → Dir → ℕ
counts f [] = f
counts f (e ∷ h) = with_count_set e (counts f h)

-- how many streams the peer might open before the last call, or at the start
abbrev pub before : (m : Made) (h : List Event) (v : World) → IsRun m h v → Dir → ℕ
before m [] v run d = (remote_of (start m) d).max_remote
before m (e ∷ h) v run d = (remote_of run.0 d).max_remote

-- how many streams the peer may open, now
abbrev pub PermitsNow : (m : Made) (h : List Event) (v : World) → IsRun m h v → Type 0
PermitsNow m h v run = (d : Dir) → RemoteFrom (counts (count_of m) h d) (before m h v run d) (is_freed (trace h) v.out.side (sends v) d) (remote_of v d)

-- and so after each call
abbrev pub EverPermits : (m : Made) (h : List Event) (v : World) → IsRun m h v → Type 0
EverPermits m [] v run = PermitsNow m [] v run
EverPermits m (e ∷ h) v run = PermitsNow m (e ∷ h) v run × EverPermits m h run.0 run.1

-- the stream on whose sending side a call did something, and what. Other calls, and those that were refused, did nothing
abbrev pub send_move_of : Event → Option (ℕ × SendMove)
send_move_of (Sending (RaisedLimit id limit (Ok x))) = Some (id, WasPermitted limit)
send_move_of (Sending (StoppedOwn id code (Ok x))) = Some (id, WasAskedToStop code)
send_move_of (Sending (WroteOwn id lists closed (Ok written))) = Some (id, WasWritten (front_of written.bytes lists))
send_move_of (Sending (FinishedOwn id (Ok x))) = Some (id, WasFinished)
send_move_of (Sending (ResetOwn id code (Ok x))) = Some (id, WasGivenUp code)
send_move_of (Sending (AckedOwn id offsets fin (Ok x))) = Some (id, WasAcked offsets.start offsets.end fin)
send_move_of (Sending (LostOwn id offsets fin (Ok x))) = Some (id, WasLost offsets.start offsets.end fin)
send_move_of (Sending (ResetAckedOwn id (Ok x))) = Some (id, WasResetAcked)
send_move_of (Sending (TookTurn most fair (Some frame))) = Some (frame.id, WasCarried frame.offsets.start frame.offsets.end frame.fin)
send_move_of _ = None

-- the peer's transport parameters that a call handed in
abbrev pub limits_in : Event → Option PeerLimits
limits_in (Sending (GaveLimits limits (Ok x))) = Some limits
limits_in _ = None

-- the limits that streams begin with: of each the greatest that was handed in
abbrev pub limits_given : List Event → FirstLimits
limits_given [] = no_limits
limits_given (e ∷ h) = with_limits_in (limits_in e) (limits_given h)

-- the send window that a call set
abbrev pub send_window_in : Event → Option ℕ
send_window_in (Sending (SetWindow window)) = Some window
send_window_in _ = None

-- the send window that was set last, if not the first
abbrev pub last_send_window : ℕ → List Event → ℕ
last_send_window w [] = w
last_send_window w (e ∷ h) = unwrap_or (send_window_in e) (last_send_window w h)

-- what is told of the sending side of a stream once one more call was made
abbrev pub flow_after : Side → Event → List Event → SendTale → ℕ → SendFlow
flow_after side e h tale q = with_first_limits (limits_in e) side q (send_moved (send_move_of e) (has_send_side side (opened_in_all (since h)) tale.may_open) q (with_joint_move (joint_move_of e) side q (tale.flow q)))

-- whether the bidirectional stream of the peer with an index is over on both sides
abbrev pub is_over : Side → List Event → (ℕ → SendFlow) → ℕ → Bool
is_over side h f index = (trace h (stream_id (other_side side) Bi index)).gone && (f (stream_id (other_side side) Bi index)).freed

-- the peer may open as many bidirectional streams as it is to be able to use at a time, and one more for each that is over,
-- up to 2^60, and is never to open fewer
abbrev pub may_open_after : Made → Event → List Event → SendTale → ℕ
may_open_after m e h tale = max tale.may_open (min (counts (count_of m) (e ∷ h) Bi + number (is_over m.side (e ∷ h) (flow_after m.side e h tale)) tale.may_open) (2 ^ 60))

-- what the calls tell of the sending sides
abbrev pub send_tale : Made → List Event → SendTale
send_tale m [] = record { flow = λ q. new_flow 0; may_open = m.bi.max_remote }
send_tale m (e ∷ h) = record { flow = flow_after m.side e h (send_tale m h); may_open = may_open_after m e h (send_tale m h) }

-- what they tell of that of one stream
abbrev pub flow : Made → List Event → ℕ → SendFlow
flow m h q = (send_tale m h).flow q

-- the streams on whose sending side something was done, each once
abbrev pub with_moved_stream : Option (ℕ × SendMove) → List ℕ → List ℕ
with_moved_stream None ids = ids
with_moved_stream (Some m) ids = with_stream m.0 ids

abbrev pub moved_streams : List Event → List ℕ
moved_streams [] = []
moved_streams (e ∷ h) = with_moved_stream (send_move_of e) (moved_streams h)

-- how many written bytes are retained, of all streams
abbrev pub retained_in_all : Made → List Event → ℕ
retained_in_all m h = total_over (λ q. retained (flow m h q)) (moved_streams h)

-- what a history says of the sending sides
pub record FlowsSo (m : Made) (h : List Event) (v : World) : Type 0 where
  pub flows : AllFlows (flow m h) v.out v.bi.max_remote
  pub first : v.out.first ≡ limits_given (since h)
  pub may_open : v.bi.max_remote ≡ (send_tale m h).may_open
  pub send_window : v.out.budget.send_window ≡ last_send_window m.send_window h
  -- what counts as retained is what is retained of all streams
  pub retained : v.out.budget.buffered_data ≡ retained_in_all m h

-- how many bytes the limit of the connection leaves
abbrev pub room_in_connection : List Event → ℕ
room_in_connection h = greatest_limit (since h) - taken_in_all (since h)

-- how many the send window leaves
abbrev pub room_in_window : Made → List Event → ℕ
room_in_window m h = last_send_window m.send_window h - retained_in_all m h

-- how many may be written on a stream, as far as the connection, the window and the stream go
abbrev pub write_room : Made → List Event → ℕ → ℕ
write_room m h id = min (min (room_in_connection h) (room_in_window m h)) (room_on (flow m h id))

-- whether a stream is open on its sending side
abbrev pub is_sent_on : Made → List Event → ℕ → Bool
is_sent_on m h id = has_send_side m.side (opened_in_all (since h)) (send_tale m h).may_open id && not (flow m h id).freed

-- why nothing is written on a stream, if it is not for lack of memory
abbrev pub why_not : Made → List Event → ℕ → Option WriteError
why_not m h id = refusal_told (is_sent_on m h id) (min (room_in_connection h) (room_in_window m h)) (flow m h id)

-- what a write of these lists may answer: it takes the least of what is offered and of the three rooms, or gives its
-- reason. On a connection that is closed it is blocked
abbrev pub WritesSo : Made → List Event → ℕ → List (List ℕ) → Bool → Result Written WriteError → Type 0
WritesSo m h id lists closed (Ok written) = (closed ≡ false) × (why_not m h id ≡ None) × (written.bytes ≡ min (total_length lists) (write_room m h id))
WritesSo m h id lists closed (Err write_error.Blocked) = (closed ≡ true) ⊎ (why_not m h id ≡ Some write_error.Blocked)
WritesSo m h id lists closed (Err (write_error.Stopped code)) = (closed ≡ false) × (why_not m h id ≡ Some (write_error.Stopped code))
WritesSo m h id lists closed (Err write_error.ClosedStream) = (closed ≡ false) × (why_not m h id ≡ Some write_error.ClosedStream)
WritesSo m h id lists closed (Err write_error.OutOfMemory) = closed ≡ false

-- and so does the next one
abbrev pub TellsWrites : Made → List Event → World → Type 0
TellsWrites m h v = (id : ℕ) (lists : List (List ℕ)) (closed : Bool) (p : Pending) (answer : Result Written WriteError) (w : World) (left : List (List ℕ)) (q : Pending)
    → WritesOwn v id lists closed p answer w left q → WritesSo m h id lists closed answer

-- the streams that this end opened, bidirectional ones first, in the order in which it opened them
abbrev pub opened_ids : Side → List Event → List ℕ
opened_ids side h = first_ids side Bi (opened_in_all h Bi) ++ first_ids side Uni (opened_in_all h Uni)

-- how many bytes the limit of the connection leaves with that of the peer's transport parameters
abbrev pub room_with : PeerLimits → List Event → ℕ
room_with limits h = max (greatest_limit (since h)) limits.initial_max_data - taken_in_all (since h)

-- of some streams those are told, in their order, that the peer's transport parameters let be written on that were
-- written up to their limits, where the connection leaves room
abbrev pub told_of_limits : Made → List Event → PeerLimits → List ℕ → List StreamEvent
told_of_limits m h limits [] = []
told_of_limits m h limits (id ∷ ids) =
    told_if (is_sent_on m h id && (wakes (first_limit m.side (first_of limits) id) (flow m h id) && not (min (room_with limits h) (room_in_window m h) == 0))) (stream_event.Writable id)
    ++ told_of_limits m h limits ids

-- what a call queues to be told: that more streams may be opened, that a stream was stopped, that it may be written on,
-- that it is finished
abbrev pub told_by : Made → List Event → Event → List StreamEvent
told_by m h (Sending (GaveLimits limits (Ok x))) = told_of_limits m h limits (opened_ids m.side (since h))
told_by m h (Sending (RaisedCount dir count (Ok x))) = told_if (nat_lt (greatest_count (since h) dir) count) (stream_event.Available dir)
told_by m h (Sending (StoppedOwn id code (Ok x))) = told_if (is_sent_on m h id && is_none (flow m h id).stopped) (stream_event.Stopped id code)
told_by m h (Sending (RaisedLimit id limit (Ok x))) =
    told_if (is_sent_on m h id && (wakes limit (flow m h id) && not (min (room_in_connection h) (room_in_window m h) == 0))) (stream_event.Writable id)
told_by m h (Sending (AckedOwn id offsets fin (Ok x))) = told_if (is_sent_on m h id && ends_by offsets.start offsets.end fin (flow m h id)) (stream_event.Finished id)
told_by m h _ = []

-- what is queued to be told before and after a call; a frame of the peer may add that a stream may be read
abbrev pub QueuesSo : Made → List Event → Event → List StreamEvent → List StreamEvent → Type 0
QueuesSo m h (Sending (Polled answer)) before after = TakesQueued before answer after
QueuesSo m h (Received id offset bytes fin (Ok transmit)) before after = (after ≡ before) ⊎ (after ≡ before ++ stream_event.Readable id ∷ [])
QueuesSo m h (ReceivedReset id code final (Ok transmit)) before after = (after ≡ before) ⊎ (after ≡ before ++ stream_event.Readable id ∷ [])
QueuesSo m h e before after = after ≡ before ++ told_by m h e

-- what may be queued to be told after all calls
abbrev pub AreQueued : Made → List Event → List StreamEvent → Type 0
AreQueued m [] events = events ≡ []
AreQueued m (e ∷ h) events = (before : List StreamEvent) × AreQueued m h before × QueuesSo m h e before events

-- an end may come from what it was made with, and from a history
pub record From (m : Made) (h : List Event) (v : World) : Type 0 where
  pub run : IsRun m h v
  pub side : v.out.side ≡ m.side
  pub window : v.window ≡ m.window
  pub facts : Facts m.credit h v
  pub given : (q : ℕ) → GivenSo (trace h q)
  pub ends : (q : ℕ) → EndsSo (trace h q)
  pub tells : TellsEnds h v
  pub remotes : EverPermits m h v run
  pub sent : SentSo (since h) (send_totals v.out)
  pub sends : FlowsSo m h v
  pub writes : TellsWrites m h v
  pub queued : AreQueued m h v.events
  pub rest : AreInQueue (flow m h) v.queue
  pub used : v.send_streams ≡ used_halves v

-- whether a call tells that the peer answered: by data or a reset on some stream, or by an acknowledgement
abbrev pub tells_answer : Event → Bool
tells_answer (Received id offset bytes fin answer) = true
tells_answer (ReceivedReset id code final answer) = true
tells_answer (Gave id most ordered (Ok None)) = true
tells_answer (Gave id most ordered (Err (read_error.Reset code))) = true
tells_answer (ToldReset id (Ok (Some code))) = true
tells_answer (Sending (AckedOwn id offsets fin answer)) = true
tells_answer (Sending (ResetAckedOwn id answer)) = true
tells_answer _ = false

-- no call does
abbrev pub IsUnanswered : List Event → Type 0
IsUnanswered [] = Unit {0}
IsUnanswered (e ∷ h) = (tells_answer e ≡ false) × IsUnanswered h
