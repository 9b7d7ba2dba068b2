-- What frames and payloads of the peer do to a session.
use Rattle.std.specs.Prelude.{ℕ, ◌≡◌, ◌==◌, ◌⊎◌, ◌&&◌, ◌<◌, ◌≤◌, ◌+◌, if◌then◌else◌, nat_le, not, false, Option, Some, None, List, [], ◌∷◌, ◌++◌, length, drop, map, IsSomeAnd, Result, Ok, Err}
use Rattle.quic_values.specs.declared.ids.Dir.{Dir}
use Rattle.quic_values.specs.declared.ids.Dir.TheVariants.{Bi, Uni}
use Rattle.quic_values.specs.Ids.{dir_of, index_of}
use Rattle.quic_wire.specs.declared.frame.Datagram.{Datagram}
use Rattle.quic_wire.specs.declared.frame.Frame.{Frame}
use Rattle.quic_wire.specs.declared.frame.Frame.TheVariants as frames
use Rattle.quic_wire.specs.declared.error.ReceiveError.{ReceiveError}
use Rattle.quic_wire.specs.declared.error.ReceiveError.TheVariants as receive_error
use Rattle.quic_wire.specs.Codes.{STREAM_LIMIT_ERROR, STREAM_STATE_ERROR}
use Rattle.quic_wire.specs.Frames.{AreFrames}
use Rattle.quic_receiving.specs.declared.transmit.ShouldTransmit.{ShouldTransmit}
use Rattle.quic_datagrams.specs.Queue.{cost, total_cost, with_newest, IsReceiveRefusal}
use Rattle.quic_history.specs.Sends.{sending_refusal}
use Rattle.quic_history.specs.World.{World, Made, is_own, remote_of}
use Rattle.quic_history.specs.History.{Event, From}
use Rattle.quic_endpoint.specs.Receiving.{ReceivesAt, AccountsFrame, event_of, with_call_made}
use Rattle.quic_session.specs.declared.session.Session.{Session}
use Rattle.quic_session.specs.declared.receiving.Received.{Received}
use Rattle.quic_session.specs.declared.receiving.PayloadError.{PayloadError}
use Rattle.quic_session.specs.declared.receiving.PayloadError.TheVariants as payload_error
use Rattle.quic_session.specs.Sessions.{Datagrams, end_of, datagrams_view}
use Rattle.quic_session.specs.Users.{users_view}
use Rattle.quic_session.specs.Counts.{counts_of, with_frame_counted}
use Rattle.quic_session.specs.Closing.{touched_by_frame}

-- a datagram was queued: the oldest went until it fits, and that one came is to be told where none waited
pub record QueuesDatagram (d : Datagrams) (datagram : Datagram) (e : Datagrams) : Type 0 where
  pub queued : IsSomeAnd d.limits.receive (λ w. (cost datagram ≤ w) × (e.state ≡ record d.state { incoming = with_newest w d.state.incoming datagram }) × (total_cost e.state.incoming ≤ w))
  pub others : e ≡ record d { state = e.state; told_received = d.told_received && not (length d.state.incoming == 0) }

-- what came of a received datagram (RFC 9221 section 3)
abbrev pub KeepsDatagram : Datagrams → Datagram → Result ShouldTransmit ReceiveError → Datagrams → Type 0
KeepsDatagram d datagram (Ok transmit) e = (transmit.0 ≡ false) × QueuesDatagram d datagram e
KeepsDatagram d datagram (Err error) e = IsReceiveRefusal d.limits.receive datagram error × (e ≡ d)

-- a frame is no datagram
abbrev pub IsNoDatagram : Frame → Type 0
IsNoDatagram frame = (d : Datagram) → frame ≡ frames.Datagram d → ⊥

-- what came of a datagram
pub record ReceivesDatagram (s : Session) (frame : Frame) (answer : Result ShouldTransmit ReceiveError) (t : Session) : Type 0 where
  pub datagram : Datagram
  pub is : frame ≡ frames.Datagram datagram
  pub keeps : KeepsDatagram (datagrams_view s) datagram answer (datagrams_view t)
  pub end : end_of t ≡ end_of s
  pub users : t.users ≡ s.users
  pub counts : counts_of t ≡ counts_of s

-- the code with which the connection is to be closed for STREAM_DATA_BLOCKED: STREAM_STATE_ERROR for a stream on which only
-- this endpoint sends (RFC 9000 section 19.13), STREAM_LIMIT_ERROR for one of the peer beyond the limit that was advertised
-- (section 4.6)
abbrev pub blocked_refusal : World → ℕ → Option ℕ
blocked_refusal w id = if is_own w id
    then own_refusal (dir_of id)
    else (if nat_le (remote_of w (dir_of id)).max_remote (index_of id) then Some STREAM_LIMIT_ERROR else None)
  where
    own_refusal : Dir → Option ℕ
    own_refusal Uni = Some STREAM_STATE_ERROR
    own_refusal Bi = None

-- the code with which the connection is to be closed for a frame that names a stream on which the peer may not send it, if it
-- is one that the streams do not check. STOP_SENDING: STREAM_STATE_ERROR for a stream on which only the peer sends, and for
-- one of this endpoint that is not open (section 19.5), STREAM_LIMIT_ERROR beyond the limit (section 4.6)
abbrev pub direction_refusal : World → Frame → Option ℕ
direction_refusal w (frames.StopSending f) = sending_refusal w f.id
direction_refusal w (frames.StreamDataBlocked id offset) = blocked_refusal w id
direction_refusal w _ = None

-- an answer by which the connection is to be closed with a code
abbrev pub ClosesWith : ℕ → Result ShouldTransmit ReceiveError → Type 0
ClosesWith code (Err (receive_error.Transport error)) = error.code ≡ code
ClosesWith code _ = ⊥

-- a misdirected frame was refused
pub record RefusesMisdirected (s : Session) (frame : Frame) (answer : Result ShouldTransmit ReceiveError) (t : Session) : Type 0 where
  pub code : ℕ
  pub misdirected : direction_refusal (end_of s).streams frame ≡ Some code
  pub error : ClosesWith code answer
  pub same : t ≡ s

-- what came of another frame that was in a payload of so many bytes
pub record ReceivesOther (s : Session) (frame : Frame) (size : ℕ) (answer : Result ShouldTransmit ReceiveError) (t : Session) : Type 0 where
  pub other : IsNoDatagram frame
  pub directed : direction_refusal (end_of s).streams frame ≡ None
  pub receives : ReceivesAt (end_of s) frame answer (end_of t)
  pub accounts : AccountsFrame (end_of s).streams frame size answer (end_of t).streams
  pub datagrams : datagrams_view t ≡ datagrams_view s
  pub users : users_view t.users ≡ touched_by_frame frame (users_view s.users)
  pub counts : counts_of t ≡ counts_of s

-- what came of a frame that was counted
abbrev pub ProcessesFrame : Session → Frame → ℕ → Result ShouldTransmit ReceiveError → Session → Type 0
ProcessesFrame s frame size answer t = ReceivesDatagram s frame answer t ⊎ RefusesMisdirected s frame answer t ⊎ ReceivesOther s frame size answer t

-- what came of a frame. It is counted first, so also one that is rejected is
abbrev pub ReceivesFrame : Session → Frame → ℕ → Result ShouldTransmit ReceiveError → Session → Type 0
ReceivesFrame s frame size answer t = ProcessesFrame (with_frame_counted s frame) frame size answer t

-- the call of the streams that a frame is. They refuse no STOP_SENDING with an error of the connection: one that is refused
-- so was misdirected, and is none
abbrev pub call_of : Frame → Result ShouldTransmit ReceiveError → Option Event
call_of (frames.StopSending f) (Err (receive_error.Transport error)) = None
call_of frame answer = event_of frame answer

-- nothing changed beside the end, the datagrams, and what was counted
abbrev pub ReceivesOnly : Session → Session → Type 0
ReceivesOnly s t = (t.conn ≡ s.conn) × (t.unsettled ≡ s.unsettled)

-- a frame that was handed in, with its answer
pub record FrameCall : Type 0 where
  pub frame : Frame
  pub answer : Result ShouldTransmit ReceiveError

-- the result for the payload. A frame that could not be compacted for lack of memory is buffered and raised no event, so it
-- counts as not processed: when it is processed again, the event follows
abbrev pub payload_answer : Result ShouldTransmit ReceiveError → Result (Unit {0}) PayloadError
payload_answer (Ok transmit) = Ok tt
payload_answer (Err (receive_error.Transport error)) = Err (payload_error.Transport error)
payload_answer (Err receive_error.OutOfMemory) = Err payload_error.OutOfMemory
payload_answer (Err receive_error.CompactionMemory) = Err payload_error.OutOfMemory

-- frames of a payload of so many bytes were taken, one after another
pub data TakesFrames (size : ℕ) (s : Session) : List FrameCall → Session → Type 0 where
  none : TakesFrames size s [] s
  more : {calls : List FrameCall} {t u : Session} → TakesFrames size s calls t → (call : FrameCall) → ReceivesFrame t call.frame size call.answer u → payload_answer call.answer ≡ Ok tt
      → TakesFrames size s (calls ++ call ∷ []) u

-- a trace, with the calls of the streams that the frames are, one after another
abbrev pub with_frames : List FrameCall → List Event → List Event
with_frames [] h = h
with_frames (c ∷ cs) h = with_frames cs (with_call_made (call_of c.frame c.answer) h)

-- whatever trace came before, it goes on with these calls
abbrev pub GoesOnWithCalls : List FrameCall → Session → Session → Type 0
GoesOnWithCalls calls s t = (m : Made) (h : List Event) → From m h (end_of s).streams → From m (with_frames calls h) (end_of t).streams

-- all frames from a place on were taken
pub record TakesAll (size first : ℕ) (all : List Frame) (s : Session) (r : Received) (t : Session) : Type 0 where
  pub calls : List FrameCall
  pub frames : drop first all ≡ map (λ c. c.frame) calls
  pub takes : TakesFrames size s calls t
  pub from : GoesOnWithCalls calls s t
  pub next : r.next ≡ length all
  pub answer : r.answer ≡ Ok tt

-- or those before one that was refused
pub record StopsAtRefused (size first : ℕ) (all : List Frame) (s : Session) (r : Received) (t : Session) : Type 0 where
  pub calls : List FrameCall
  pub between : Session
  pub takes : TakesFrames size s calls between
  pub refused : FrameCall
  pub rest : List Frame
  pub frames : drop first all ≡ map (λ c. c.frame) calls ++ refused.frame ∷ rest
  pub receives : ReceivesFrame between refused.frame size refused.answer t
  pub from : GoesOnWithCalls (calls ++ refused ∷ []) s t
  pub error : PayloadError
  pub why : payload_answer refused.answer ≡ Err error
  pub answer : r.answer ≡ Err error
  pub next : r.next ≡ first + length calls

-- the frames of a payload were handed in, from a place on
abbrev pub ReceivesFrames : ℕ → ℕ → List Frame → Session → Received → Session → Type 0
ReceivesFrames size first all s r t = TakesAll size first all s r t ⊎ StopsAtRefused size first all s r t

-- a payload was read, and its frames were handed in
pub record ReadsPayload (s : Session) (payload : List ℕ) (first : ℕ) (r : Received) (t : Session) : Type 0 where
  pub all : List Frame
  pub spelled : AreFrames payload all
  pub receives : ReceivesFrames (length payload) first all s r t

-- it was not: it has no frames, or memory ran out
pub record ReadsNoPayload (s : Session) (payload : List ℕ) (first : ℕ) (r : Received) (t : Session) : Type 0 where
  pub same : t ≡ s
  pub next : r.next ≡ first
  pub why : (r.answer ≡ Err payload_error.OutOfMemory) ⊎ ((r.answer ≡ Err payload_error.Malformed) × ((all : List Frame) → AreFrames payload all → ⊥))

-- what came of a whole payload (RFC 9000 section 12.4)
abbrev pub ReceivesPayload : Session → List ℕ → ℕ → Received → Session → Type 0
ReceivesPayload s payload first r t = ReadsPayload s payload first r t ⊎ ReadsNoPayload s payload first r t

-- what came of the frame at a place, where those below another are passed over
pub record PassesOverFrame (at first : ℕ) (s : Session) (r : Result (Unit {0}) PayloadError) (t : Session) : Type 0 where
  pub below : at < first
  pub done : r ≡ Ok tt
  pub same : t ≡ s

pub record TakesOne (at first : ℕ) (s : Session) (frame : Frame) (size : ℕ) (r : Result (Unit {0}) PayloadError) (t : Session) : Type 0 where
  pub above : first ≤ at
  pub answer : Result ShouldTransmit ReceiveError
  pub receives : ReceivesFrame s frame size answer t
  pub from : GoesOnWithCalls (record { frame = frame; answer = answer } ∷ []) s t
  pub answers : r ≡ payload_answer answer

abbrev pub ReceivesFrom : ℕ → ℕ → Session → Frame → ℕ → Result (Unit {0}) PayloadError → Session → Type 0
ReceivesFrom at first s frame size r t = PassesOverFrame at first s r t ⊎ TakesOne at first s frame size r t
