-- What several reads of a half do.
use Rattle.std.specs.Prelude.{ℕ, ◌≡◌, ◌&&◌, ◌||◌, not, Bool, true, false, List, [], ◌∷◌, length, Option, Some, None, Result, Ok, Err}
use Rattle.quic_assembler.specs.declared.chunk.Chunk.{Chunk}
use Rattle.quic_limits.specs.Credit.{credited, is_max_data_due}
use Rattle.quic_limits.specs.Remote.{is_max_streams_due}
use Rattle.quic_receiving.specs.Half.{Half}
use Rattle.quic_receiving.specs.Calls.{Reads}
use Rattle.quic_receiving.specs.declared.errors.ReadError.{ReadError}
use Rattle.quic_receiving.specs.declared.errors.ReadError.TheVariants as read_error
use Rattle.quic_history.specs.declared.progress.LastAnswer.{LastAnswer}
use Rattle.quic_history.specs.declared.progress.LastAnswer.TheVariants as last_answer
use Rattle.quic_history.specs.declared.progress.Progress.TheVariants as progress
use Rattle.quic_history.specs.Halves.{Halves, with_half, is_due_in}
use Rattle.quic_history.specs.Reading.{IsCountOf, is_ended, is_reading, progress_of}
use Rattle.quic_history.specs.Receiving.{with_max_streams}
use Rattle.quic_history.specs.World.{World}
use Rattle.quic_retransmits.specs.Pending.{Pending}
use Rattle.quic_retransmits.specs.Queueing.{with_id}
use Rattle.quic_streams.specs.InPlace.{AsksHalf}

-- reads of a half, one after another, gave these chunks
abbrev pub GivesOn : Half → ℕ → List Chunk → Half → Type 0
GivesOn h most [] k = k ≡ h
GivesOn h most (c ∷ cs) k = (u : Half) × Reads h most (Ok (Some c)) u × GivesOn u most cs k

-- and the next, if one more was asked for, gave none
abbrev pub LastOn : Half → ℕ → LastAnswer → Half → Type 0
LastOn h most last_answer.Blocked k = Reads h most (Err read_error.Blocked) k
LastOn h most last_answer.Ended k = Reads h most (Ok None) k
LastOn h most (last_answer.Reset code) k = Reads h most (Err (read_error.Reset code)) k
LastOn h most last_answer.Memory k = Reads h most (Err read_error.OutOfMemory) k
LastOn h most last_answer.More k = k ≡ h

-- a half was asked for a mode, and gave chunks, at most so many
pub record ReadsSomeOn (h : Half) (most times : ℕ) (ordered : Bool) (chunks : List Chunk) (last : LastAnswer) (k : Half) : Type 0 where
  pub opened : Half
  pub read : Half
  pub asks : AsksHalf h ordered (Ok tt) opened
  pub reading : is_reading progress.Readable (Some opened) ordered 0 ≡ true
  pub gives : GivesOn opened most chunks read
  pub last_reads : LastOn read most last k
  pub count : IsCountOf times last (length chunks)

-- the half at an id did
pub record ReadsSomeIn (f : Halves) (id most times : ℕ) (ordered : Bool) (chunks : List Chunk) (last : LastAnswer) (g : Halves) : Type 0 where
  pub old : Half
  pub new : Half
  pub half : f id ≡ Some old
  pub reads : ReadsSomeOn old most times ordered chunks last new
  pub is : g ≡ with_half f id (Some new)

-- whether MAX_STREAM_DATA is worth a frame behind that
abbrev pub is_due_after : LastAnswer → ℕ → Option Half → Bool
is_due_after last window o = not (is_ended (progress_of last)) && is_due_in window o

-- what is queued with credit for so many bytes
abbrev pub credit_queued : Bool → World → ℕ → ℕ → Pending → Pending
credit_queued due w id read p = record (with_max_streams w p) {
  max_stream_data = with_id p.max_stream_data id due;
  max_data = p.max_data || is_max_data_due (credited w.credit read);
}

-- whether something was
abbrev pub is_credit_queued : Bool → World → ℕ → Bool
is_credit_queued due w read = (is_max_streams_due w.bi || is_max_streams_due w.uni) || (due || is_max_data_due (credited w.credit read))
