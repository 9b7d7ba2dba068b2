-- Two ends of a connection and the network between them: what each may do, by what the other wrote and answered.
use Rattle.std.specs.Prelude.{ℕ, Bool, ◌≡◌, ◌<◌, ◌≤◌, ◌+◌, ◌^◌, ◌⊎◌, if◌then◌else◌, List, [], ◌∷◌, ◌++◌, length, Some, Ok}
use Rattle.std.specs.List.{concat}
use Rattle.std.specs.declared.ops.Range.{Range}
use Rattle.quic_values.specs.declared.ids.Dir.{Dir}
use Rattle.quic_values.specs.Ids.{other_side, dir_of, index_of}
use Rattle.quic_wire.specs.declared.frame.Frame.{Frame}
use Rattle.quic_wire.specs.declared.frame.Frame.TheVariants as frames
use Rattle.quic_receiving.specs.declared.transmit.ShouldTransmit.{ShouldTransmit}
use Rattle.quic_flows.specs.Flow.{SendFlow}
use Rattle.quic_outgoing.specs.declared.limits.PeerLimits.{PeerLimits}
use Rattle.quic_outgoing.specs.Outgoing.{own_of}
use Rattle.quic_writing.specs.Appended.{frame_with}
use Rattle.quic_history.specs.World.{World, Made, is_own, remote_of}
use Rattle.quic_history.specs.SendEvents.{SendEvent, GaveLimits, RaisedData, RaisedCount, RaisedLimit, StoppedOwn, OpenedOwn, WroteOwn, FinishedOwn, AckedOwn, LostOwn, TookTurn}
use Rattle.quic_history.specs.History.{Event, Received, ReceivedReset, Stopped, Accepted, LeftPending, Sending, Rejected, Step, Fits, IsStart, Trace, trace, flow}

-- made: what the end was made with
-- calls: the calls on it with their answers, the newest first
-- world: its value
-- wrote: the frames that it wrote, the newest first
pub record LinkedEnd : Type 0 where
  pub made : Made
  pub calls : List Event
  pub world : World
  pub wrote : List Frame

-- x stands in a list
abbrev pub IsOneOf : {X : Type 0} → X → List X → Type 0
IsOneOf x [] = ⊥
IsOneOf x (y ∷ ys) = (x ≡ y) ⊎ IsOneOf x ys

-- what the calls tell of the sending side of a stream
abbrev pub sent_on : LinkedEnd → ℕ → SendFlow
sent_on x q = flow x.made x.calls q

-- what they tell of its receiving side
abbrev pub came_on : LinkedEnd → ℕ → Trace
came_on x q = trace x.calls q

-- the bytes that were written on a stream
abbrev pub written_on : LinkedEnd → ℕ → List ℕ
written_on x q = concat (sent_on x q).cuts

-- the frames that a call wrote
abbrev pub written_by : LinkedEnd → Event → List Frame
written_by x (LeftPending kind (Some frame)) = frame ∷ []
written_by x (Sending (TookTurn most fair (Some meta))) = frame_with (written_on x) meta ∷ []
written_by x _ = []

-- an id that was given: that of a stream that the end opened, or that its application accepted
abbrev pub WasGiven : World → ℕ → Type 0
WasGiven w id = index_of id < (if is_own w id then (own_of w.out (dir_of id)).opened else (remote_of w (dir_of id)).next_reported)

-- `open` or `accept` answered it
abbrev pub GaveId : List Event → ℕ → Type 0
GaveId calls id = ((d : Dir) × (closed : Bool) × IsOneOf (Sending (OpenedOwn d closed (Ok (Some id)))) calls) ⊎ ((d : Dir) × IsOneOf (Accepted d (Some id)) calls)

-- a STREAM frame with these offsets, with the end or not, was answered Ok
pub record WasAccepted (calls : List Event) (id : ℕ) (offsets : Range ℕ) (fin : Bool) : Type 0 where
  pub bytes : List ℕ
  pub transmit : ShouldTransmit
  pub is : IsOneOf (Received id offsets.start bytes fin (Ok transmit)) calls
  pub behind : offsets.end ≡ offsets.start + length bytes

-- such a frame was written
pub record WasWrittenAs (wrote : List Frame) (id : ℕ) (offsets : Range ℕ) (fin : Bool) : Type 0 where
  pub bytes : List ℕ
  pub is : IsOneOf (frames.Stream (record { id = id; offset = offsets.start; fin = fin; bytes = bytes })) wrote
  pub behind : offsets.end ≡ offsets.start + length bytes

-- the stream was stopped with a code
abbrev pub WasStoppedWith : List Event → ℕ → ℕ → Type 0
WasStoppedWith calls id code = IsOneOf (Stopped id code (Ok tt)) calls

-- a frame that is written of what is pending was asked for, on a stream that the application was given
abbrev pub WasAskedFor : LinkedEnd → Frame → Type 0
WasAskedFor x (frames.ResetStream f) = ((sent_on x f.id).reset ≡ Some f.error_code) × WasGiven x.world f.id
WasAskedFor x (frames.StopSending f) = WasStoppedWith x.calls f.id f.error_code × WasGiven x.world f.id
WasAskedFor x (frames.MaxStreamData id limit) = WasGiven x.world id
WasAskedFor x _ = Unit {0}

-- what the transport parameters of an end say
abbrev pub limits_of : Made → PeerLimits
limits_of m = record {
  initial_max_data = m.credit.local_max_data;
  initial_max_streams_bidi = m.bi.max_remote;
  initial_max_streams_uni = m.uni.max_remote;
  initial_max_stream_data_uni = m.window;
  initial_max_stream_data_bidi_local = m.window;
  initial_max_stream_data_bidi_remote = m.window;
}

-- no limit is above that of others
pub record LimitsWithin (limits most : PeerLimits) : Type 0 where
  pub of_connection : limits.initial_max_data ≤ most.initial_max_data
  pub streams_bidi : limits.initial_max_streams_bidi ≤ most.initial_max_streams_bidi
  pub streams_uni : limits.initial_max_streams_uni ≤ most.initial_max_streams_uni
  pub of_uni : limits.initial_max_stream_data_uni ≤ most.initial_max_stream_data_uni
  pub of_bidi_local : limits.initial_max_stream_data_bidi_local ≤ most.initial_max_stream_data_bidi_local
  pub of_bidi_remote : limits.initial_max_stream_data_bidi_remote ≤ most.initial_max_stream_data_bidi_remote

-- what end x is told on its sending side comes from end y: limits within those of y, as a client remembers them of an
-- earlier connection (RFC 9000 section 7.4.1), frames that y wrote, a frame that it accepted. A frame that was lost was
-- written. A write takes bytes, and an end is taken, of streams that the application was given
abbrev pub IsHonestSending : LinkedEnd → LinkedEnd → SendEvent → Type 0
IsHonestSending x y (GaveLimits limits (Ok u)) = LimitsWithin limits (limits_of y.made)
IsHonestSending x y (RaisedData limit) = IsOneOf (frames.MaxData limit) y.wrote
IsHonestSending x y (RaisedCount dir count answer) = IsOneOf (frames.MaxStreams dir count) y.wrote
IsHonestSending x y (RaisedLimit id limit answer) = IsOneOf (frames.MaxStreamData id limit) y.wrote
IsHonestSending x y (StoppedOwn id code answer) = IsOneOf (frames.StopSending (record { id = id; error_code = code })) y.wrote
IsHonestSending x y (WroteOwn id lists closed (Ok written)) = WasGiven x.world id
IsHonestSending x y (FinishedOwn id (Ok u)) = WasGiven x.world id
IsHonestSending x y (AckedOwn id offsets fin answer) = WasAccepted y.calls id offsets fin
IsHonestSending x y (LostOwn id offsets fin answer) = WasWrittenAs x.wrote id offsets fin
IsHonestSending x y _ = Unit {0}

-- what end x is told comes from end y. All that it sent early may be sent again; an early start that is rejected is not
-- among these calls
abbrev pub IsHonest : LinkedEnd → LinkedEnd → Event → Type 0
IsHonest x y (Received id offset bytes fin answer) = IsOneOf (frames.Stream (record { id = id; offset = offset; fin = fin; bytes = bytes })) y.wrote
IsHonest x y (ReceivedReset id code final answer) = IsOneOf (frames.ResetStream (record { id = id; error_code = code; final_offset = final })) y.wrote
IsHonest x y (LeftPending kind (Some frame)) = WasAskedFor x frame
IsHonest x y (Sending e) = IsHonestSending x y e
IsHonest x y Rejected = ⊥
IsHonest x y _ = Unit {0}

-- end x may be called so, with end y beside it, and have the value v then
pub record MayAct (x y : LinkedEnd) (e : Event) (v : World) : Type 0 where
  pub fits : Fits x.calls e
  pub honest : IsHonest x y e
  pub step : Step x.world e v

-- the end once it was
abbrev pub acted : LinkedEnd → Event → World → LinkedEnd
acted x e v = record { made = x.made; calls = e ∷ x.calls; world = v; wrote = written_by x e ++ x.wrote }

-- an end that was just made
pub record IsNewEnd (x : LinkedEnd) : Type 0 where
  pub start : IsStart x.made x.world
  pub calls : x.calls ≡ []
  pub wrote : x.wrote ≡ []
  pub small : x.made.window < 2 ^ 62

-- two ends may have come so far, by calls in any order: each frame that one of them wrote comes to the other as often as
-- may be, at any time, or never
pub data Linked : LinkedEnd → LinkedEnd → Type 0 where
  begun : {x y : LinkedEnd} → IsNewEnd x → IsNewEnd y → y.made.side ≡ other_side x.made.side → Linked x y
  first_acts : {x y : LinkedEnd} (e : Event) (v : World) → Linked x y → MayAct x y e v → Linked (acted x e v) y
  second_acts : {x y : LinkedEnd} (e : Event) (v : World) → Linked x y → MayAct y x e v → Linked x (acted y e v)
