-- An end of a connection with its pending control frames, and what the calls of its application do to it.
use Rattle.std.specs.Prelude.{ℕ, ℤ, Bool, true, false, ◌≡◌, ◌||◌, List, Option, Result, Ok, Err, is_ok}
use Rattle.quic_values.specs.declared.memory.OutOfMemory.{OutOfMemory}
use Rattle.quic_values.specs.declared.ids.Dir.{Dir}
use Rattle.quic_assembler.specs.declared.chunk.Chunk.{Chunk}
use Rattle.quic_sending.specs.declared.send.Written.{Written}
use Rattle.quic_sending.specs.declared.send.WriteError.{WriteError}
use Rattle.quic_sending.specs.declared.send.FinishError.{FinishError}
use Rattle.quic_sending.specs.declared.errors.HandleError.{HandleError}
use Rattle.quic_sending.specs.declared.errors.HandleError.TheVariants as handle_error
use Rattle.quic_receiving.specs.declared.errors.ReadableError.{ReadableError}
use Rattle.quic_receiving.specs.declared.errors.ReadableError.TheVariants as readable_error
use Rattle.quic_retransmits.specs.Pending.{Pending}
use Rattle.quic_history.specs.declared.progress.LastAnswer.{LastAnswer}
use Rattle.quic_history.specs.World.{World, with_receive_window}
use Rattle.quic_history.specs.Sends.{OpensOwn}
use Rattle.quic_history.specs.Writes.{WritesOwn, FinishesOwn, ResetsOwn, SetsOwnPriority}
use Rattle.quic_history.specs.Receiving.{with_max_streams}
use Rattle.quic_history.specs.Reading.{ReadsSome, Begins, Stops, TellsReset}
use Rattle.quic_history.specs.Permitting.{SetsConcurrent}

-- streams: the streams of the end
-- pending: the control frames that it has to send
pub record EndState : Type 0 where
  pub streams : World
  pub pending : Pending

-- another state of the streams, and the same to be sent
abbrev pub with_world : EndState → World → EndState
with_world e w = record e { streams = w }

-- MAX_STREAMS is queued where it is due
abbrev pub with_counts_told : EndState → EndState
with_counts_told e = record e { pending = with_max_streams e.streams e.pending }

-- MAX_DATA is queued, if that was asked for
abbrev pub with_limit_told : Bool → EndState → EndState
with_limit_told due e = record e { pending = record e.pending { max_data = e.pending.max_data || due } }

-- the same, unless memory ran out
abbrev pub with_counts_told_if : Bool → EndState → EndState
with_counts_told_if true e = with_counts_told e
with_counts_told_if false e = e

-- whether a call was not refused for lack of memory
abbrev pub is_handled : {A : Type 0} → Result A HandleError → Bool
is_handled (Ok a) = true
is_handled (Err handle_error.ClosedStream) = true
is_handled (Err handle_error.OutOfMemory) = false

-- whether a refusal is not for lack of memory
abbrev pub not_for_memory : ReadableError → Bool
not_for_memory readable_error.ClosedStream = true
not_for_memory readable_error.IllegalOrderedRead = true
not_for_memory readable_error.OutOfMemory = false

-- what came of opening a stream
abbrev pub OpensAt : EndState → Dir → Result (Option ℕ) OutOfMemory → EndState → Type 0
OpensAt e dir answer f = OpensOwn e.streams dir false answer f.streams × (f.pending ≡ e.pending)

-- of a write of these lists
abbrev pub WritesAt : EndState → ℕ → List (List ℕ) → Result Written WriteError → EndState → Type 0
WritesAt e id lists answer f = (left : List (List ℕ)) × WritesOwn e.streams id lists false e.pending answer f.streams left f.pending

-- of ending a stream
abbrev pub FinishesAt : EndState → ℕ → Result (Unit {0}) FinishError → EndState → Type 0
FinishesAt e id answer f = FinishesOwn e.streams id answer f.streams × (f.pending ≡ e.pending)

-- of giving a stream up
abbrev pub ResetsAt : EndState → ℕ → ℕ → Result (Unit {0}) HandleError → EndState → Type 0
ResetsAt e id code answer f = ResetsOwn e.streams id code e.pending answer f.streams f.pending

-- of giving it a priority
abbrev pub SetsPriorityAt : EndState → ℕ → ℤ → Result (Unit {0}) HandleError → EndState → Type 0
SetsPriorityAt e id priority answer f = SetsOwnPriority e.streams id priority answer f.streams × (f.pending ≡ e.pending)

-- of stopping one, after which the counts of streams are told
pub record StopsReading (e : EndState) (id code : ℕ) (answer : Result (Unit {0}) HandleError) (f : EndState) : Type 0 where
  pub stopped : EndState
  pub stops : Stops e.streams id code e.pending answer stopped.streams stopped.pending
  pub is : f ≡ with_counts_told_if (is_handled answer) stopped

-- of asking for the code of a reset
pub record TellsResetAt (e : EndState) (id : ℕ) (answer : Result (Option ℕ) HandleError) (f : EndState) : Type 0 where
  pub asked : EndState
  pub tells : TellsReset e.streams id e.pending answer asked.streams asked.pending
  pub is : f ≡ with_counts_told_if (is_handled answer) asked

-- of reading: what was given, why no more, and whether a frame was queued
pub record ReadsAt (e : EndState) (id most times : ℕ) (ordered : Bool) (chunks : List Chunk) (last : LastAnswer) (transmit : Bool) (f : EndState) : Type 0 where
  pub read : EndState
  pub reads : ReadsSome e.streams id most times ordered e.pending chunks last transmit read.streams read.pending
  pub is : f ≡ with_counts_told read

-- of a read that was refused
pub record RefusesRead (e : EndState) (id : ℕ) (ordered : Bool) (error : ReadableError) (f : EndState) : Type 0 where
  pub asked : EndState
  pub begins : Begins e.streams id ordered (Err error) asked.streams
  pub pending : asked.pending ≡ e.pending
  pub is : f ≡ with_counts_told_if (not_for_memory error) asked

-- of setting the receive window, after which MAX_DATA is queued where it is larger
abbrev pub with_window_set : EndState → ℕ → Bool → EndState
with_window_set e window larger = with_limit_told larger (with_world e (with_receive_window e.streams window))

-- of setting how many streams the peer is to be able to use at a time
pub record SetsConcurrentAt (e : EndState) (dir : Dir) (count : ℕ) (answer : Result (Unit {0}) OutOfMemory) (f : EndState) : Type 0 where
  pub set : EndState
  pub sets : SetsConcurrent e.streams dir count answer set.streams
  pub pending : set.pending ≡ e.pending
  pub is : f ≡ with_counts_told_if (is_ok answer) set
