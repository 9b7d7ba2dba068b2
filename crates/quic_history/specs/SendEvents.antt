-- The calls on the sending side of an end, and what each may do.
use Rattle.std.specs.Prelude.{ℕ, ℤ, Bool, ◌≡◌, List, Option, Result}
use Rattle.std.specs.declared.ops.Range.{Range}
use Rattle.quic_values.specs.declared.memory.OutOfMemory.{OutOfMemory}
use Rattle.quic_values.specs.declared.ids.Dir.{Dir}
use Rattle.quic_wire.specs.declared.event.StreamEvent.{StreamEvent}
use Rattle.quic_wire.specs.declared.error.ReceiveError.{ReceiveError}
use Rattle.quic_limits.specs.SendingCredit.{with_limit, with_window}
use Rattle.quic_sending.specs.declared.send.Written.{Written}
use Rattle.quic_sending.specs.declared.send.WriteError.{WriteError}
use Rattle.quic_sending.specs.declared.send.FinishError.{FinishError}
use Rattle.quic_sending.specs.declared.errors.HandleError.{HandleError}
use Rattle.quic_retransmits.specs.Pending.{Pending}
use Rattle.quic_outgoing.specs.declared.limits.PeerLimits.{PeerLimits}
use Rattle.quic_history.specs.World.{World}
use Rattle.quic_history.specs.Sends.{with_out, TakesParams, OpensOwn, RaisesCount, RaisesLimit, StopsOwn, TellsNext}
use Rattle.quic_history.specs.Writes.{WritesOwn, FinishesOwn, ResetsOwn, SetsOwnPriority}
use Rattle.quic_wire.specs.declared.frame.StreamMeta.{StreamMeta}
use Rattle.quic_history.specs.Carrying.{TakesItsTurn}
use Rattle.quic_history.specs.Acknowledged.{AcksOwn, LosesOwn, AcksReset}

-- a call on the sending side and its answer
pub data SendEvent : Type 0 where
  -- the peer's transport parameters were handed in
  GaveLimits : (limits : PeerLimits) → (answer : Result (Unit {0}) OutOfMemory) → SendEvent
  -- a stream was asked for, on a connection that was closed or not
  OpenedOwn : (dir : Dir) → (closed : Bool) → (answer : Result (Option ℕ) OutOfMemory) → SendEvent
  -- MAX_DATA was handed in
  RaisedData : (limit : ℕ) → SendEvent
  -- MAX_STREAMS was handed in
  RaisedCount : (dir : Dir) → (count : ℕ) → (answer : Result (Unit {0}) ReceiveError) → SendEvent
  -- MAX_STREAM_DATA was handed in
  RaisedLimit : (id limit : ℕ) → (answer : Result (Unit {0}) ReceiveError) → SendEvent
  -- STOP_SENDING was handed in
  StoppedOwn : (id code : ℕ) → (answer : Result (Unit {0}) OutOfMemory) → SendEvent
  -- the send window was set
  SetWindow : (window : ℕ) → SendEvent
  -- bytes were written, on a connection that was closed or not
  WroteOwn : (id : ℕ) → (lists : List (List ℕ)) → (closed : Bool) → (answer : Result Written WriteError) → SendEvent
  -- a stream was ended
  FinishedOwn : (id : ℕ) → (answer : Result (Unit {0}) FinishError) → SendEvent
  -- a stream was given up
  ResetOwn : (id code : ℕ) → (answer : Result (Unit {0}) HandleError) → SendEvent
  -- a stream was given a priority
  SetOwnPriority : (id : ℕ) → (priority : ℤ) → (answer : Result (Unit {0}) HandleError) → SendEvent
  -- it was reported that a STREAM frame with these offsets, and with the end or not, was acknowledged
  AckedOwn : (id : ℕ) → (offsets : Range ℕ) → (fin : Bool) → (answer : Result (Unit {0}) OutOfMemory) → SendEvent
  -- that such a frame was lost
  LostOwn : (id : ℕ) → (offsets : Range ℕ) → (fin : Bool) → (answer : Result (Unit {0}) OutOfMemory) → SendEvent
  -- that the RESET_STREAM of a stream was acknowledged
  ResetAckedOwn : (id : ℕ) → (answer : Result (Unit {0}) OutOfMemory) → SendEvent
  -- the first stream in the send queue had its turn in a payload of at most so many bytes, with a frame or without one
  TookTurn : (most : ℕ) → (fair : Bool) → (frame : Option StreamMeta) → SendEvent
  -- the application asked what it is to be told
  Polled : (answer : Option StreamEvent) → SendEvent

-- what one of these calls may do
abbrev pub SendStep : World → SendEvent → World → Type 0
SendStep u (GaveLimits limits answer) v = TakesParams u limits answer v
SendStep u (OpenedOwn dir closed answer) v = OpensOwn u dir closed answer v
SendStep u (RaisedData limit) v = v ≡ with_out u (record u.out { budget = with_limit u.out.budget limit })
SendStep u (RaisedCount dir count answer) v = RaisesCount u dir count answer v
SendStep u (RaisedLimit id limit answer) v = RaisesLimit u id limit answer v
SendStep u (StoppedOwn id code answer) v = StopsOwn u id code answer v
SendStep u (SetWindow window) v = v ≡ with_out u (record u.out { budget = with_window u.out.budget window })
SendStep u (Polled answer) v = TellsNext u answer v
SendStep u (WroteOwn id lists closed answer) v = (p : Pending) × (q : Pending) × (left : List (List ℕ)) × WritesOwn u id lists closed p answer v left q
SendStep u (FinishedOwn id answer) v = FinishesOwn u id answer v
SendStep u (ResetOwn id code answer) v = (p : Pending) × (q : Pending) × ResetsOwn u id code p answer v q
SendStep u (SetOwnPriority id priority answer) v = SetsOwnPriority u id priority answer v
SendStep u (AckedOwn id offsets fin answer) v = AcksOwn u id offsets fin answer v
SendStep u (LostOwn id offsets fin answer) v = LosesOwn u id offsets fin answer v
SendStep u (ResetAckedOwn id answer) v = AcksReset u id answer v
SendStep u (TookTurn most fair frame) v = TakesItsTurn most fair u frame v
