-- What calls of `next` on a reader do, of any lengths and in any number.
use Rattle.std.specs.Prelude.{ℕ, ◌≡◌, ◌+◌, Bool, List, [], ◌∷◌, Option, Result, Ok}
use Rattle.quic_assembler.specs.declared.chunk.Chunk.{Chunk}
use Rattle.quic_receiving.specs.declared.errors.ReadError.{ReadError}
use Rattle.quic_retransmits.specs.Pending.{Pending}
use Rattle.quic_history.specs.declared.progress.Progress.{Progress}
use Rattle.quic_history.specs.declared.progress.Progress.TheVariants as progress
use Rattle.quic_history.specs.World.{World, Made, with_credit}
use Rattle.quic_history.specs.Reading.{Begins, Nexts, progress_after, given_by, pending_after, is_transmit_due}
use Rattle.quic_history.specs.History.{Event, Began, Ended, From, with_next}

-- a call of `next`: how many bytes were asked for at most, and the answer
pub record NextCall : Type 0 where
  pub most : ℕ
  pub answer : Result (Option Chunk) ReadError

-- where a reader is after calls, of which the last one comes first
abbrev pub progress_behind : List NextCall → Progress
progress_behind [] = progress.Readable
progress_behind (c ∷ cs) = progress_after c.answer

-- how many bytes they gave
abbrev pub bytes_given : List NextCall → ℕ
bytes_given [] = 0
bytes_given (c ∷ cs) = bytes_given cs + given_by c.answer

-- a reader that was opened made these calls, each by its exact step
abbrev pub MakesCalls : World → ℕ → Bool → List NextCall → World → Type 0
MakesCalls w id ordered [] v = v ≡ w
MakesCalls w id ordered (c ∷ cs) v = (u : World) × MakesCalls w id ordered cs u × Nexts (progress_behind cs) u id c.most ordered c.answer v

-- the same of a reader that is there then and gave so many bytes, where something is true of the calls
pub record Visits (w : World) (id : ℕ) (ordered : Bool) (v : World) (behind : Progress) (read : ℕ) (Is : List NextCall → Type 0) : Type 0 where
  pub calls : List NextCall
  pub is : Is calls
  pub makes : MakesCalls w id ordered calls v
  pub progress_is : behind ≡ progress_behind calls
  pub read_is : read ≡ bytes_given calls

-- the history with those calls
abbrev pub with_calls : ℕ → Bool → List NextCall → List Event → List Event
with_calls id ordered [] h = h
with_calls id ordered (c ∷ cs) h = with_next (progress_behind cs) id c.most ordered c.answer (with_calls id ordered cs h)

-- and with the opening and the end of the reader
abbrev pub with_reader : ℕ → Bool → List NextCall → List Event → List Event
with_reader id ordered calls h = Ended id (bytes_given calls) ∷ with_calls id ordered calls (Began id ordered (Ok tt) ∷ h)

-- a stream was opened for reads, calls were made of its reader of which something is true, and the reader was ended
pub record ReadsWith (w : World) (id : ℕ) (ordered : Bool) (p : Pending) (Is : List NextCall → Type 0) (transmit : Bool) (v : World) (q : Pending) : Type 0 where
  pub calls : List NextCall
  pub is : Is calls
  pub opened : World
  pub read : World
  pub begins : Begins w id ordered (Ok tt) opened
  pub makes : MakesCalls opened id ordered calls read
  pub state : v ≡ with_credit read (bytes_given calls)
  pub pending : q ≡ pending_after (progress_behind calls) read id (bytes_given calls) p
  pub transmits : transmit ≡ is_transmit_due (progress_behind calls) read id (bytes_given calls)
  pub from : (m : Made) (h : List Event) → From m h w → From m (with_reader id ordered calls h) v
