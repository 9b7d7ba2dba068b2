-- The history of the sending side: the calls on it with their answers, the newest first, and what it says of what may be
-- sent.
use Rattle.std.specs.Prelude.{◌≡◌, ℕ, ℤ, ◌+◌, ◌≤◌, ◌^◌, Bool, true, false, if◌then◌else◌, max, min, List, [], ◌∷◌, Option, Some, None, Result, Ok}
use Rattle.std.specs.declared.ops.Range.{Range}
use Rattle.quic_values.specs.declared.ids.Side.{Side}
use Rattle.quic_values.specs.declared.ids.Dir.{Dir}
use Rattle.quic_values.specs.declared.ids.Dir.TheVariants.{Bi, Uni}
use Rattle.quic_values.specs.declared.memory.OutOfMemory.{OutOfMemory}
use Rattle.quic_wire.specs.declared.error.TransportError.{TransportError}
use Rattle.quic_limits.specs.SendingCredit.{with_limit, with_window}
use Rattle.quic_sending.specs.declared.send.WriteError.{WriteError}
use Rattle.quic_sending.specs.declared.send.FinishError.{FinishError}
use Rattle.quic_sending.specs.declared.errors.HandleError.{HandleError}
use Rattle.quic_retransmits.specs.Pending.{Pending}
use Rattle.quic_outgoing.specs.declared.limits.PeerLimits.{PeerLimits}
use Rattle.quic_outgoing.specs.declared.writing.Wrote.{Wrote}
use Rattle.quic_outgoing.specs.Outgoing.{Outgoing, no_streams, with_send_half, fresh_sender, own_of, with_more_streams}
use Rattle.quic_outgoing.specs.Calls.{OpensStream, RaisesStreams, RaisesStream, StopsSending, FinishesStream, ResetsStream, SetsPriority, PollsWritable}
use Rattle.quic_outgoing.specs.Params.{GivesParams}
use Rattle.quic_outgoing.specs.Writing.{WritesOn}
use Rattle.quic_outgoing.specs.declared.transmitting.WrittenFrame.{WrittenFrame}
use Rattle.quic_outgoing.specs.Transmitting.{Transmits}
use Rattle.quic_outgoing.specs.Early.{after_rejection, with_all_unsent}
use Rattle.quic_outgoing.specs.Acknowledging.{AcksStream, LosesOnStream, is_given_up, without_given_up}

-- a call and its answer
pub data Call : Type 0 where
  Permitted : (id : ℕ) → Call
  PermittedMore : (first count : ℕ) → Call
  Removed : (id : ℕ) → Call
  GaveParams : (params : PeerLimits) → (answer : Result (Unit {0}) OutOfMemory) → Call
  Opened : (dir : Dir) → (answer : Result (Option ℕ) OutOfMemory) → Call
  GaveData : (limit : ℕ) → Call
  GaveStreams : (dir : Dir) → (count : ℕ) → (answer : Result Bool TransportError) → Call
  GaveStream : (id limit : ℕ) → (answer : Result Bool OutOfMemory) → Call
  WasStopped : (id code : ℕ) → (answer : Result Bool OutOfMemory) → Call
  Writing : (id : ℕ) → (lists : List (List ℕ)) → (answer : Result Wrote WriteError) → Call
  Finished : (id : ℕ) → (answer : Result (Option ℤ) FinishError) → Call
  Reset : (id code : ℕ) → (answer : Result (Unit {0}) HandleError) → Call
  SetPriority : (id : ℕ) → (priority : ℤ) → (answer : Result (Unit {0}) HandleError) → Call
  Polled : (answer : Option ℕ) → Call
  Transmitted : (id most : ℕ) → (answer : Result WrittenFrame OutOfMemory) → Call
  SetWindow : (window : ℕ) → Call
  AckedFrame : (id : ℕ) → (offsets : Range ℕ) → (fin : Bool) → (answer : Result Bool OutOfMemory) → Call
  LostFrame : (id : ℕ) → (offsets : Range ℕ) → (fin : Bool) → (answer : Result (Option ℤ) OutOfMemory) → Call
  ResetAcked : (id : ℕ) → (answer : Bool) → Call
  RejectedEarly : Call
  Unsent : Call

-- what one call may do; a write and a reset also with what was to be sent before, and after, and a frame with the bytes
-- of the payload before, and after
abbrev pub DoesCall : Outgoing → Call → Outgoing → Type 0
DoesCall u (Permitted id) v = v ≡ with_send_half u id (Some (fresh_sender u id))
DoesCall u (PermittedMore first count) v = v ≡ with_more_streams u first count
DoesCall u (Removed id) v = v ≡ with_send_half u id None
DoesCall u (GaveParams params answer) v = GivesParams u params answer v
DoesCall u (Opened dir answer) v = OpensStream u dir answer v
DoesCall u (GaveData limit) v = v ≡ record u { budget = with_limit u.budget limit }
DoesCall u (GaveStreams dir count answer) v = RaisesStreams u dir count answer v
DoesCall u (GaveStream id limit answer) v = RaisesStream u id limit answer v
DoesCall u (WasStopped id code answer) v = StopsSending u id code answer v
DoesCall u (Writing id lists answer) v = (p : Pending) × (left : List (List ℕ)) × (q : Pending) × WritesOn u id lists p answer v left q
DoesCall u (Finished id answer) v = FinishesStream u id answer v
DoesCall u (Reset id code answer) v = (p : Pending) × (q : Pending) × ResetsStream u id code p answer v q
DoesCall u (SetPriority id priority answer) v = SetsPriority u id priority answer v
DoesCall u (Polled answer) v = PollsWritable u answer v
DoesCall u (Transmitted id most answer) v = (bytes : List ℕ) × (payload : List ℕ) × Transmits u id most bytes answer v payload
DoesCall u (SetWindow window) v = v ≡ record u { budget = with_window u.budget window }
DoesCall u (AckedFrame id offsets fin answer) v = AcksStream u id offsets fin answer v
DoesCall u (LostFrame id offsets fin answer) v = LosesOnStream u id offsets fin answer v
DoesCall u (ResetAcked id answer) v = (answer ≡ is_given_up (u.halves id)) × (v ≡ without_given_up u id)
DoesCall u RejectedEarly v = v ≡ after_rejection u
DoesCall u Unsent v = v ≡ with_all_unsent u

-- the calls, one after another from no streams on, may lead there
abbrev pub AreCalls : Side → ℕ → List Call → Outgoing → Type 0
AreCalls side window [] v = v ≡ no_streams side window
AreCalls side window (e ∷ h) v = (u : Outgoing) × AreCalls side window h u × DoesCall u e v

-- whether an early start was rejected by a call
abbrev pub is_rejection : Call → Bool
is_rejection RejectedEarly = true
is_rejection _ = false

-- the calls since the last one that did
abbrev pub calls_since : List Call → List Call
calls_since [] = []
calls_since (e ∷ h) = if is_rejection e then [] else e ∷ calls_since h

-- how many bytes writes took
abbrev pub bytes_by : Call → ℕ
bytes_by (Writing id lists (Ok wrote)) = wrote.written.bytes
bytes_by _ = 0

abbrev pub bytes_written : List Call → ℕ
bytes_written [] = 0
bytes_written (e ∷ h) = bytes_written h + bytes_by e

-- the limit of the connection that a call gave, 0 where it gave none
abbrev pub data_limit_of : Call → ℕ
data_limit_of (GaveParams params (Ok x)) = params.initial_max_data
data_limit_of (GaveData limit) = limit
data_limit_of _ = 0

-- the greatest that was given
abbrev pub data_limit : List Call → ℕ
data_limit [] = 0
data_limit (e ∷ h) = max (data_limit h) (data_limit_of e)

-- the count of streams of a direction that a call gave, 0 where it gave none
abbrev pub count_in : PeerLimits → Dir → ℕ
count_in p Bi = p.initial_max_streams_bidi
count_in p Uni = p.initial_max_streams_uni

abbrev pub given_for : Dir → Dir → ℕ → ℕ
given_for Bi Bi n = n
given_for Bi Uni n = 0
given_for Uni Bi n = 0
given_for Uni Uni n = n

abbrev pub count_given_by : Call → Dir → ℕ
count_given_by (GaveParams params (Ok x)) dir = min (count_in params dir) (2 ^ 60)
count_given_by (GaveStreams d count (Ok rose)) dir = given_for d dir count
count_given_by _ dir = 0

-- the greatest that was given
abbrev pub stream_count : List Call → Dir → ℕ
stream_count [] dir = 0
stream_count (e ∷ h) dir = max (stream_count h dir) (count_given_by e dir)

-- how many streams of a direction `open` gave
abbrev pub opened_by : Call → Dir → ℕ
opened_by (Opened d (Ok (Some id))) dir = given_for d dir 1
opened_by _ dir = 0

abbrev pub streams_opened : List Call → Dir → ℕ
streams_opened [] dir = 0
streams_opened (e ∷ h) dir = streams_opened h dir + opened_by e dir

-- what the calls say of what may be sent
pub record TellsBudget (side : Side) (h : List Call) (v : Outgoing) : Type 0 where
  pub is_side : v.side ≡ side
  pub written : v.budget.data_sent ≡ bytes_written h
  pub limit : v.budget.max_data ≡ data_limit h
  pub within : bytes_written h ≤ data_limit h
  pub opened : (dir : Dir) → (own_of v dir).opened ≡ streams_opened h dir
  pub counted : (dir : Dir) → (own_of v dir).limit ≡ stream_count h dir
  pub few : (dir : Dir) → streams_opened h dir ≤ stream_count h dir

-- the sending side may come from these calls, and what those since the last rejection say of it
pub record ComesFrom (side : Side) (window : ℕ) (h : List Call) (v : Outgoing) : Type 0 where
  pub run : AreCalls side window h v
  pub tells : TellsBudget side (calls_since h) v

-- whatever calls came before, this one comes behind them
abbrev pub Continues : Outgoing → Call → Outgoing → Type 0
Continues u e v = (side : Side) (window : ℕ) (h : List Call) → ComesFrom side window h u → ComesFrom side window (e ∷ h) v
