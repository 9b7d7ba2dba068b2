-- What a step does to the end that takes it.
use Rattle.std.specs.Prelude.{ℕ, ℤ, Bool, true, false, nat_lt, ◌≡◌, ◌⊎◌, List, Option, Result, Ok, Err}
use Rattle.quic_values.specs.declared.memory.OutOfMemory.{OutOfMemory}
use Rattle.quic_values.specs.declared.ids.Dir.{Dir}
use Rattle.quic_wire.specs.declared.event.StreamEvent.{StreamEvent}
use Rattle.quic_sending.specs.declared.send.Written.{Written}
use Rattle.quic_sending.specs.declared.send.WriteError.{WriteError}
use Rattle.quic_sending.specs.declared.send.FinishError.{FinishError}
use Rattle.quic_sending.specs.declared.errors.HandleError.{HandleError}
use Rattle.quic_receiving.specs.declared.errors.ReadableError.{ReadableError}
use Rattle.quic_streams.specs.declared.batches.ReadSome.{ReadSome}
use Rattle.quic_history.specs.Sends.{TellsNext, with_out}
use Rattle.quic_history.specs.Permitting.{with_accepted, acceptable}
use Rattle.quic_history.specs.Acknowledged.{was_given}
use Rattle.quic_limits.specs.SendingCredit.{with_window}
use Rattle.quic_endpoint.specs.Ends.{EndState, with_world, with_window_set, OpensAt, WritesAt, FinishesAt, ResetsAt, SetsPriorityAt, StopsReading, TellsResetAt, ReadsAt, RefusesRead, SetsConcurrentAt}
use Rattle.quic_steps.specs.declared.steps.PairError.TheVariants.{UnknownId}
use Rattle.quic_steps.specs.declared.steps.Reply.TheVariants.{Done, Expanded}
use Rattle.quic_exchange.specs.Replies.{Answer, wants_memory, accepted_reply, opened_reply, written_reply, chunks_reply, finished_reply, handled_reply, code_reply, read_reply, event_reply, done_reply}

-- a stream is opened
pub record Opens (e : EndState) (dir : Dir) (reply : Answer) (f : EndState) : Type 0 where
  pub answer : Result (Option ℕ) OutOfMemory
  pub opens : OpensAt e dir answer f
  pub reply_is : reply ≡ opened_reply answer

-- one of the peer is accepted
pub record Accepts (e : EndState) (dir : Dir) (reply : Answer) (f : EndState) : Type 0 where
  pub reply_is : reply ≡ accepted_reply (acceptable e.streams dir)
  pub is : f ≡ with_world e (with_accepted e.streams dir)

-- a step on a stream that the application was given; no other is known
abbrev pub OnGiven : EndState → ℕ → Answer → EndState → Type 0 → Type 0
OnGiven e id reply f Does = ((was_given e.streams id ≡ true) × Does) ⊎ ((was_given e.streams id ≡ false) × (reply ≡ Err UnknownId) × (f ≡ e))

-- bytes are written, which stand in these lists
pub record Writes (e : EndState) (id : ℕ) (lists : List (List ℕ)) (reply : Answer) (f : EndState) : Type 0 where
  pub answer : Result Written WriteError
  pub writes : WritesAt e id lists answer f
  pub reply_is : reply ≡ written_reply answer

-- chunks are written, which have these lists as their bytes
pub record WritesChunks (e : EndState) (id : ℕ) (lists : List (List ℕ)) (reply : Answer) (f : EndState) : Type 0 where
  pub answer : Result Written WriteError
  pub writes : WritesAt e id lists answer f
  pub reply_is : reply ≡ chunks_reply answer

-- or memory ran out before
abbrev pub WritesChunksOrNone : EndState → ℕ → List (List ℕ) → Answer → EndState → Type 0
WritesChunksOrNone e id lists reply f = WritesChunks e id lists reply f ⊎ ((reply ≡ wants_memory) × (f ≡ e))

-- a stream is ended
pub record Finishes (e : EndState) (id : ℕ) (reply : Answer) (f : EndState) : Type 0 where
  pub answer : Result (Unit {0}) FinishError
  pub finishes : FinishesAt e id answer f
  pub reply_is : reply ≡ finished_reply answer

-- a stream is given up, with a code
pub record ResetsOn (e : EndState) (id code : ℕ) (reply : Answer) (f : EndState) : Type 0 where
  pub answer : Result (Unit {0}) HandleError
  pub resets : ResetsAt e id code answer f
  pub reply_is : reply ≡ handled_reply answer

-- its sender is asked to stop, with a code
pub record StopsOn (e : EndState) (id code : ℕ) (reply : Answer) (f : EndState) : Type 0 where
  pub answer : Result (Unit {0}) HandleError
  pub stops : StopsReading e id code answer f
  pub reply_is : reply ≡ handled_reply answer

-- it is queued at another priority from now on
pub record SetsPriorityOn (e : EndState) (id : ℕ) (priority : ℤ) (reply : Answer) (f : EndState) : Type 0 where
  pub answer : Result (Unit {0}) HandleError
  pub sets : SetsPriorityAt e id priority answer f
  pub reply_is : reply ≡ handled_reply answer

-- the code of a reset that came is asked for
pub record AsksReset (e : EndState) (id : ℕ) (reply : Answer) (f : EndState) : Type 0 where
  pub answer : Result (Option ℕ) HandleError
  pub tells : TellsResetAt e id answer f
  pub reply_is : reply ≡ code_reply answer

-- a stream is read, or its reader was refused
abbrev pub ReadsSo : EndState → ℕ → Bool → ℕ → ℕ → Result ReadSome ReadableError → EndState → Type 0
ReadsSo e id ordered most times (Ok r) f = ReadsAt e id most times ordered r.chunks.items r.last r.transmit.0 f
ReadsSo e id ordered most times (Err error) f = RefusesRead e id ordered error f

-- a reader is opened, read up to so many times, and ended
pub record ReadsOn (e : EndState) (id : ℕ) (ordered : Bool) (most times : ℕ) (reply : Answer) (f : EndState) : Type 0 where
  pub answer : Result ReadSome ReadableError
  pub reads : ReadsSo e id ordered most times answer f
  pub reply_is : reply ≡ read_reply answer

-- another number of bytes is kept until they are acknowledged
abbrev pub SetsSendWindow : EndState → ℕ → Answer → EndState → Type 0
SetsSendWindow e window reply f = (reply ≡ Ok Done) × (f ≡ with_world e (with_out e.streams (record e.streams.out { budget = with_window e.streams.out.budget window })))

-- another number of bytes of all streams may be unread
pub record SetsReceiveWindow (e : EndState) (window : ℕ) (reply : Answer) (f : EndState) : Type 0 where
  pub larger : Bool
  pub is : f ≡ with_window_set e window larger
  pub larger_is : larger ≡ nat_lt e.streams.credit.receive_window window
  pub reply_is : reply ≡ Ok (Expanded larger)

-- the peer may have another number of streams of a direction at once
pub record SetsMaxConcurrent (e : EndState) (dir : Dir) (count : ℕ) (reply : Answer) (f : EndState) : Type 0 where
  pub answer : Result (Unit {0}) OutOfMemory
  pub sets : SetsConcurrentAt e dir count answer f
  pub reply_is : reply ≡ done_reply answer

-- what the application is to be told next
pub record Polls (e : EndState) (reply : Answer) (f : EndState) : Type 0 where
  pub event : Option StreamEvent
  pub polls : TellsNext e.streams event f.streams
  pub pending : f.pending ≡ e.pending
  pub reply_is : reply ≡ event_reply event
