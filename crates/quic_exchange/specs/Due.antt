-- What is due is asked for, what may be written is taken, and what is to be sent leaves: of each step, by the two ends as
-- they stand before it and behind it.
use Rattle.std.specs.Prelude.{ℕ, Bool, true, false, ◌≡◌, ◌⊎◌, ◌<◌, ◌≤◌, ◌+◌, min, List, [], ◌++◌, length, slice_get, Option, None, Some, Ok, Err}
use Rattle.std.specs.List.{concat}
use Rattle.quic_values.specs.declared.ids.Dir.{Dir}
use Rattle.quic_wire.specs.declared.frame.Frame.{Frame}
use Rattle.quic_wire.specs.declared.frame.Frame.TheVariants as frames
use Rattle.quic_wire.specs.Frames.{AreFrames}
use Rattle.quic_sending.specs.declared.send.Send.{Send}
use Rattle.quic_sending.specs.Sending.{permitted}
use Rattle.quic_limits.specs.Credit.{Credit, is_max_data_due, max_data_of}
use Rattle.quic_limits.specs.Remote.{is_max_streams_due}
use Rattle.quic_limits.specs.SendingCredit.{writable}
use Rattle.quic_outgoing.specs.Outgoing.{Outgoing, own_of}
use Rattle.quic_queue.specs.SendOrder.{line}
use Rattle.quic_receiving.specs.Half.{Half}
use Rattle.quic_retransmits.specs.Pending.{Pending, nothing}
use Rattle.quic_retransmits.specs.Settling.{noted_in, max_streams_in}
use Rattle.quic_streams.specs.declared.settling.SentPayload.{SentPayload}
use Rattle.quic_history.specs.Control.{HasNoneOf, kind_bound, reset_frame, window_frame, data_blocked_frame, stream_blocked_frame}
use Rattle.quic_history.specs.declared.control.ControlKind.{ControlKind}
use Rattle.quic_history.specs.Early.{SendsAgain}
use Rattle.quic_history.specs.Halves.{is_due_in}
use Rattle.quic_history.specs.World.{World, remote_of}
use Rattle.quic_link.specs.Endpoints.{IsOneOf}
use Rattle.quic_endpoint.specs.Ends.{EndState}
use Rattle.quic_steps.specs.declared.steps.Last.{Last}
use Rattle.quic_steps.specs.declared.steps.Last.TheVariants as last
use Rattle.quic_steps.specs.declared.steps.PayloadPart.{PayloadPart}
use Rattle.quic_steps.specs.declared.steps.PayloadPart.TheVariants.{Control, Streams}
use Rattle.quic_steps.specs.declared.steps.Step.{Step}
use Rattle.quic_steps.specs.declared.steps.Step.TheVariants as steps
use Rattle.quic_steps.specs.declared.steps.Reply.TheVariants.{Done, Nothing, Wrote, WroteChunks, Blocked, Read, Expanded, Payload}
use Rattle.quic_exchange.specs.Sent.{Sent}
use Rattle.quic_exchange.specs.Payloads.{is_control, noted_of}
use Rattle.quic_exchange.specs.Replies.{Answer}
use Rattle.quic_exchange.specs.State.{PairState, peer, the_end}
use Rattle.quic_exchange.specs.Steps.{HasPayload}

-- ---- what stands in what an end is to send

-- MAX_STREAMS, where it is due (RFC 9000 sections 4.6 and 19.11)
pub record AsksStreams (e : EndState) : Type 0 where
  pub bi : is_max_streams_due e.streams.bi ≡ true → e.pending.max_streams_bi ≡ true
  pub uni : is_max_streams_due e.streams.uni ≡ true → e.pending.max_streams_uni ≡ true

-- MAX_DATA, where it is due (sections 4.2 and 19.9)
abbrev pub AsksData : EndState → Type 0
AsksData e = is_max_data_due e.streams.credit ≡ true → e.pending.max_data ≡ true

-- MAX_STREAM_DATA of a stream, where it is due (sections 4.2 and 19.10)
abbrev pub AsksWindow : EndState → ℕ → Type 0
AsksWindow e id = is_due_in e.streams.window (e.streams.receive id) ≡ true → e.pending.max_stream_data id ≡ true

-- all that another list of what is to be sent says of streams
pub record AsksAllOf (b a : Pending) : Type 0 where
  pub max_data : b.max_data ≡ true → a.max_data ≡ true
  pub data_blocked : b.data_blocked ≡ true → a.data_blocked ≡ true
  pub max_streams_bi : b.max_streams_bi ≡ true → a.max_streams_bi ≡ true
  pub max_streams_uni : b.max_streams_uni ≡ true → a.max_streams_uni ≡ true
  pub max_stream_data : (id : ℕ) → b.max_stream_data id ≡ true → a.max_stream_data id ≡ true
  pub stream_data_blocked : (id : ℕ) → b.stream_data_blocked id ≡ true → a.stream_data_blocked id ≡ true
  pub reset_stream : (id code : ℕ) → IsOneOf (id, code) b.reset_stream → IsOneOf (id, code) a.reset_stream
  pub stop_sending : (id code : ℕ) → IsOneOf (record { id = id; error_code = code }) b.stop_sending → IsOneOf (record { id = id; error_code = code }) a.stop_sending

-- ---- calls of the application

-- no stream is opened only where as many were as the peer permits
abbrev pub OpensAll : Outgoing → Dir → Answer → Type 0
OpensAll u dir (Ok Nothing) = (own_of u dir).limit ≤ (own_of u dir).opened
OpensAll u dir _ = Unit {0}

-- how many bytes may be written on a stream: what the limit of the connection, the send window and the limit of the stream
-- leave, whichever is least (sections 4.1 and 4.2)
pub record LeavesRoom (u : Outgoing) (id room : ℕ) : Type 0 where
  pub half : Send
  pub is_held : u.halves id ≡ Some half
  pub room_is : room ≡ permitted half (writable u.budget)

-- as many bytes are written as may be, and none only where none may
abbrev pub WritesAll : Outgoing → ℕ → ℕ → Answer → Type 0
WritesAll u id count (Ok (Wrote bytes)) = (room : ℕ) × LeavesRoom u id room × (bytes ≡ min room count)
WritesAll u id count (Ok (WroteChunks written)) = (room : ℕ) × LeavesRoom u id room × (written.bytes ≡ min room count)
WritesAll u id count (Ok Blocked) = LeavesRoom u id 0
WritesAll u id count _ = Unit {0}

-- a reset is to be sent, with its code
abbrev pub AsksForReset : ℕ → ℕ → Answer → EndState → Type 0
AsksForReset id code (Ok Done) f = IsOneOf (id, code) f.pending.reset_stream
AsksForReset id code _ f = Unit {0}

-- a stop is, unless a RESET_STREAM came, and so are limits that are due
pub record AsksStop (e : EndState) (id code : ℕ) (f : EndState) : Type 0 where
  pub stop : (h : Half) → e.streams.receive id ≡ Some h → h.reset ≡ None → IsOneOf (record { id = id; error_code = code }) f.pending.stop_sending
  pub limit : AsksData f

abbrev pub AsksStopIf : EndState → ℕ → ℕ → Answer → EndState → Type 0
AsksStopIf e id code (Ok Done) f = AsksStop e id code f
AsksStopIf e id code _ f = Unit {0}

-- limits that are due are, after a read: that of its stream too, where its reader goes on
abbrev pub AsksWindowIf : Last → EndState → ℕ → Type 0
AsksWindowIf last.Ended f id = Unit {0}
AsksWindowIf (last.Reset code) f id = Unit {0}
AsksWindowIf _ f id = AsksWindow f id

abbrev pub AsksAfterRead : ℕ → Answer → EndState → Type 0
AsksAfterRead id (Ok (Read chunks last transmit)) f = AsksWindowIf last f id × AsksData f
AsksAfterRead id _ f = Unit {0}

-- counts of streams that are due are, whatever the answer is, unless the step was refused or memory ran out
abbrev pub AsksStreamsIf : Answer → EndState → Type 0
AsksStreamsIf (Ok reply) f = AsksStreams f
AsksStreamsIf (Err error) f = Unit {0}

-- a larger receive window is told
abbrev pub AsksLarger : Answer → EndState → Type 0
AsksLarger (Ok (Expanded larger)) f = larger ≡ true → f.pending.max_data ≡ true
AsksLarger _ f = Unit {0}

-- ---- payloads

-- a control frame that an endpoint is to send: a RESET_STREAM of a stream with its code, a STOP_SENDING of one, MAX_DATA,
-- a MAX_STREAM_DATA of a stream, a MAX_STREAMS of a direction, DATA_BLOCKED, or a STREAM_DATA_BLOCKED of a stream
pub data ControlEntry : Type 0 where
  ResetStream : (id code : ℕ) → ControlEntry
  StopSending : (id code : ℕ) → ControlEntry
  MaxData : ControlEntry
  MaxStreamData : (id : ℕ) → ControlEntry
  MaxStreams : Dir → ControlEntry
  DataBlocked : ControlEntry
  StreamDataBlocked : (id : ℕ) → ControlEntry

-- it is pending
abbrev pub IsPending : Pending → ControlEntry → Type 0
IsPending p (ResetStream id code) = IsOneOf (id, code) p.reset_stream
IsPending p (StopSending id code) = IsOneOf (record { id = id; error_code = code }) p.stop_sending
IsPending p MaxData = p.max_data ≡ true
IsPending p (MaxStreamData id) = p.max_stream_data id ≡ true
IsPending p (MaxStreams dir) = max_streams_in p dir ≡ true
IsPending p DataBlocked = p.data_blocked ≡ true
IsPending p (StreamDataBlocked id) = p.stream_data_blocked id ≡ true

-- the frame that it is sent as, with the limits that are enforced. It is of no use any more if the send side of its stream is
-- freed, if no more data may arrive on the stream or its reader stopped it, or if the limit was raised that blocked
abbrev pub frame_of : World → ControlEntry → Option Frame
frame_of u (ResetStream id code) = reset_frame id code (u.out.halves id)
frame_of u (StopSending id code) = Some (frames.StopSending (record { id = id; error_code = code }))
frame_of u MaxData = Some (frames.MaxData (max_data_of u.credit))
frame_of u (MaxStreamData id) = window_frame u.window id (u.receive id)
frame_of u (MaxStreams dir) = Some (frames.MaxStreams dir (remote_of u dir).max_remote)
frame_of u DataBlocked = data_blocked_frame u
frame_of u (StreamDataBlocked id) = stream_blocked_frame id (u.out.halves id)

-- a frame is one of those that bytes spell, if there is one
abbrev pub IsSpelledIn : List ℕ → Option Frame → Type 0
IsSpelledIn bytes None = Unit {0}
IsSpelledIn bytes (Some frame) = (all : List Frame) × AreFrames bytes all × IsOneOf frame all

-- each control frame that was pending is so still, is in the payload, or is of no use any more
abbrev pub LosesNone : EndState → List ℕ → EndState → Type 0
LosesNone e bytes f = (entry : ControlEntry) → IsPending e.pending entry → IsPending f.pending entry ⊎ IsSpelledIn bytes (frame_of e.streams entry)

abbrev pub LosesNoneIf : EndState → Answer → EndState → Type 0
LosesNoneIf e (Ok (Payload number bytes)) f = LosesNone e bytes.items f
LosesNoneIf e _ f = Unit {0}

-- these bytes are spellings of frames beside STREAM, or of STREAM frames
pub record AreSpellingsOf (control : Bool) (bytes : List ℕ) : Type 0 where
  pub all : List Frame
  pub spelled : AreFrames bytes all
  pub kind : (frame : Frame) → IsOneOf frame all → is_control frame ≡ control

-- a payload is within its size, and full: first come frames beside STREAM, of whose kinds none is left, or the longest frame
-- of the kind does not fit behind them; then STREAM frames, and no stream is left in the send queue, or the longest beginning
-- of a STREAM frame does not fit behind those
pub record IsFull (most : ℕ) (bytes : List ℕ) (f : EndState) : Type 0 where
  pub front : List ℕ
  pub behind : List ℕ
  pub is : bytes ≡ front ++ behind
  pub control : AreSpellingsOf true front
  pub streams_are : AreSpellingsOf false behind
  pub within : length bytes ≤ most
  pub kinds : (kind : ControlKind) → HasNoneOf kind f.pending ⊎ (most ≤ length front + kind_bound kind)
  pub streams : (line f.streams.queue ≡ []) ⊎ (most ≤ length bytes + 25)

-- one of control frames alone is within its size, and of each of their kinds none is left, or the longest frame of the kind does
-- not fit behind it
pub record IsFullOfControl (most : ℕ) (bytes : List ℕ) (f : EndState) : Type 0 where
  pub control : AreSpellingsOf true bytes
  pub within : length bytes ≤ most
  pub kinds : (kind : ControlKind) → HasNoneOf kind f.pending ⊎ (most ≤ length bytes + kind_bound kind)

-- one of STREAM frames alone is, and no stream is left in the send queue, or the longest beginning of a STREAM frame does not fit
-- behind it
pub record IsFullOfStreams (most : ℕ) (bytes : List ℕ) (f : EndState) : Type 0 where
  pub streams_are : AreSpellingsOf false bytes
  pub within : length bytes ≤ most
  pub streams : (line f.streams.queue ≡ []) ⊎ (most ≤ length bytes + 25)

abbrev pub IsFullOf : PayloadPart → ℕ → List ℕ → EndState → Type 0
IsFullOf Control most bytes f = IsFullOfControl most bytes f
IsFullOf Streams most bytes f = IsFullOfStreams most bytes f

abbrev pub IsFullOfIf : PayloadPart → ℕ → Answer → EndState → Type 0
IsFullOfIf part most (Ok (Payload number bytes)) f = IsFullOf part most bytes.items f
IsFullOfIf part most _ f = Unit {0}

abbrev pub IsFullIf : ℕ → Answer → EndState → Type 0
IsFullIf most (Ok (Payload number bytes)) f = IsFull most bytes.items f
IsFullIf most _ f = Unit {0}

-- bytes were consumed: the limit of the connection grew by them, or they paid what it owes since its window was made smaller
abbrev pub HasConsumed : Credit → Credit → Type 0
HasConsumed c d = (c.local_max_data < d.local_max_data) ⊎ (d.shrink_debt < c.shrink_debt)

-- the end that a frame was handed to is to send counts that are due, and its limit where that is due, if the frame consumed
-- bytes
pub record AsksAfterFrame (e f : EndState) : Type 0 where
  pub counts : AsksStreams f
  pub limit : HasConsumed e.streams.credit f.streams.credit → AsksData f

-- what was noted of the frames of a payload that was lost is to be sent again: of those that its bytes spell
abbrev pub AsksAgain : List ℕ → EndState → Type 0
AsksAgain bytes f = (all : List Frame) → AreFrames bytes all → AsksAllOf (noted_of nothing all) f.pending

-- so is what was noted of each of some payloads of which something is unreported, once all is to be sent again
abbrev pub AsksAllAgain : List Sent → Answer → EndState → Type 0
AsksAllAgain sent (Ok reply) f = (number : ℕ) (s : Sent) (rest : SentPayload) → slice_get sent number ≡ Some s → s.unsettled.rest ≡ Some rest → AsksAllOf (noted_in rest.control) f.pending
AsksAllAgain sent (Err error) f = Unit {0}

-- all that the client sent on its streams is to be sent again, once the server asked it to begin again
abbrev pub SendsAllAgain : World → Answer → World → Type 0
SendsAllAgain u (Ok reply) v = SendsAgain u (Ok tt) v
SendsAllAgain u (Err error) v = Unit {0}

-- something holds of the writer of a payload, if a step on it was served
abbrev pub OnWriter : PairState → ℕ → (Sent → Type 0) → Answer → Type 0
OnWriter old number Holds (Ok reply) = (payload : HasPayload old number) → Holds payload.sent
OnWriter old number Holds (Err error) = Unit {0}

-- ---- all steps

-- lack of memory aside, a step withholds nothing that was due
abbrev pub AsksFor : PairState → Step → Answer → PairState → Type 0
AsksFor old (steps.Open who dir) reply new = OpensAll (the_end old who).streams.out dir reply
AsksFor old (steps.Write who id bytes) reply new = WritesAll (the_end old who).streams.out id (length bytes) reply
AsksFor old (steps.WriteChunks who id chunks) reply new = WritesAll (the_end old who).streams.out id (length (concat chunks)) reply
AsksFor old (steps.Reset who id code) reply new = AsksForReset id code reply (the_end new who)
AsksFor old (steps.Stop who id code) reply new = AsksStopIf (the_end old who) id code reply (the_end new who) × AsksStreamsIf reply (the_end new who)
AsksFor old (steps.Read who id ordered most times) reply new = AsksAfterRead id reply (the_end new who) × AsksStreamsIf reply (the_end new who)
AsksFor old (steps.ReceivedReset who id) reply new = AsksStreamsIf reply (the_end new who)
AsksFor old (steps.SetReceiveWindow who window) reply new = AsksLarger reply (the_end new who)
AsksFor old (steps.SetMaxConcurrent who dir count) reply new = AsksStreamsIf reply (the_end new who)
AsksFor old (steps.Emit who most fair) reply new = IsFullIf most reply (the_end new who) × LosesNoneIf (the_end old who) reply (the_end new who)
AsksFor old (steps.EmitPart who most fair part) reply new = IsFullOfIf part most reply (the_end new who) × LosesNoneIf (the_end old who) reply (the_end new who)
AsksFor old (steps.Deliver number index) reply new = OnWriter old number (λ s. AsksAfterFrame (the_end old (peer s.writer)) (the_end new (peer s.writer))) reply
AsksFor old (steps.Lose number) reply new = OnWriter old number (λ s. AsksAgain s.text.bytes (the_end new s.writer)) reply
AsksFor old (steps.Ack number) reply new = OnWriter old number (λ s. AsksStreams (the_end new s.writer)) reply
AsksFor old steps.Retry reply new = AsksAllAgain old.sent reply new.a × SendsAllAgain old.a.streams reply new.a.streams
AsksFor old _ reply new = Unit {0}
