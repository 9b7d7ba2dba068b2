-- What reads of a stream do.
use Rattle.std.specs.Prelude.{◌+◌, ◌<◌, ℕ, Bool, true, false, not, ◌≡◌, ◌==◌, ◌&&◌, ◌||◌, ◌⊎◌, nat_le, if◌then◌else◌, length, List, [], ◌∷◌, ◌++◌, Option, Some, None, is_none, is_some, Result, Ok, Err}
use Rattle.quic_assembler.specs.declared.chunk.Chunk.{Chunk}
use Rattle.quic_assembler.specs.declared.errors.EnsureError.{EnsureError}
use Rattle.quic_assembler.specs.declared.errors.EnsureError.TheVariants as ensure_error
use Rattle.quic_wire.specs.declared.frame.StopSending.{StopSending}
use Rattle.quic_limits.specs.Credit.{credited, is_max_data_due}
use Rattle.quic_limits.specs.Remote.{is_max_streams_due}
use Rattle.quic_receiving.specs.Half.{Half, stop_credit}
use Rattle.quic_receiving.specs.Calls.{Orders, Reads, Clears}
use Rattle.quic_receiving.specs.declared.errors.ReadError.{ReadError}
use Rattle.quic_receiving.specs.declared.errors.ReadError.TheVariants as read_error
use Rattle.quic_receiving.specs.declared.errors.ReadableError.{ReadableError}
use Rattle.quic_receiving.specs.declared.errors.ReadableError.TheVariants as readable_error
use Rattle.quic_sending.specs.declared.errors.HandleError.{HandleError}
use Rattle.quic_sending.specs.declared.errors.HandleError.TheVariants as handle_error
use Rattle.quic_history.specs.declared.progress.Progress.{Progress}
use Rattle.quic_history.specs.declared.progress.Progress.TheVariants as progress
use Rattle.quic_history.specs.declared.progress.LastAnswer.{LastAnswer}
use Rattle.quic_history.specs.declared.progress.LastAnswer.TheVariants as last_answer
use Rattle.quic_history.specs.Halves.{is_due_in}
use Rattle.quic_retransmits.specs.Pending.{Pending}
use Rattle.quic_retransmits.specs.Queueing.{with_id, with_stop_sending}
use Rattle.quic_history.specs.Receiving.{with_max_streams}
use Rattle.quic_history.specs.World.{World, with_freed, with_credit, with_receive}

abbrev pub is_mode : Bool → Bool → Bool
is_mode true ordered = ordered
is_mode false ordered = not ordered

-- a reader that may go on reads a half that is not stopped, in its mode, of which it counts no more than was read
abbrev pub is_reading : Progress → Option Half → Bool → ℕ → Bool
is_reading progress.Readable None ordered read = false
is_reading progress.Readable (Some h) ordered read = not h.stopped && (is_mode h.buffer.ordered ordered && nat_le read h.buffer.bytes_read)
is_reading (progress.Reset code) o ordered read = true
is_reading progress.Finished o ordered read = true

-- how many places a reader may still take up
abbrev pub needed : Progress → ℕ
needed progress.Readable = 1
needed (progress.Reset code) = 0
needed progress.Finished = 0

-- no stream is there to be read
abbrev pub IsClosed : Option Half → Type 0
IsClosed None = Unit {0}
IsClosed (Some h) = h.stopped ≡ true

-- a half was asked for a mode
pub record Asks (w : World) (id : ℕ) (ordered : Bool) (answer : Result (Unit {0}) EnsureError) (v : World) : Type 0 where
  pub old : Half
  pub new : Half
  pub half : w.receive id ≡ Some old
  pub running : old.stopped ≡ false
  pub orders : Orders old ordered answer new
  pub is : v ≡ with_receive w id (Some new)

-- what came of opening a stream for reads
abbrev pub Begins : World → ℕ → Bool → Result (Unit {0}) ReadableError → World → Type 0
Begins w id ordered (Ok u) v = Asks w id ordered (Ok u) v
Begins w id ordered (Err readable_error.ClosedStream) v = IsClosed (w.receive id) × (v ≡ w)
Begins w id ordered (Err readable_error.IllegalOrderedRead) v = Asks w id ordered (Err ensure_error.IllegalOrderedRead) v
Begins w id ordered (Err readable_error.OutOfMemory) v = (v ≡ w) ⊎ Asks w id ordered (Err ensure_error.OutOfMemory) v

-- the state once a read answered so and left the half h
abbrev pub after_read : World → ℕ → Half → Result (Option Chunk) ReadError → World
after_read w id h (Ok (Some chunk)) = with_receive w id (Some h)
after_read w id h (Ok None) = with_freed w id
after_read w id h (Err read_error.Blocked) = with_receive w id (Some h)
after_read w id h (Err (read_error.Reset code)) = with_freed w id
after_read w id h (Err read_error.OutOfMemory) = with_receive w id (Some h)

-- a half was read, in its mode
pub record ReadsHalf (w : World) (id most : ℕ) (ordered : Bool) (result : Result (Option Chunk) ReadError) (v : World) : Type 0 where
  pub old : Half
  pub new : Half
  pub half : w.receive id ≡ Some old
  pub mode : old.buffer.ordered ≡ ordered
  pub running : old.stopped ≡ false
  pub reads : Reads old most result new
  pub is : v ≡ after_read w id new result

-- where a reader is then
abbrev pub progress_after : Result (Option Chunk) ReadError → Progress
progress_after (Ok (Some chunk)) = progress.Readable
progress_after (Ok None) = progress.Finished
progress_after (Err read_error.Blocked) = progress.Readable
progress_after (Err (read_error.Reset code)) = progress.Reset code
progress_after (Err read_error.OutOfMemory) = progress.Readable

-- whether nothing more comes, and the half is freed
abbrev pub is_ended : Progress → Bool
is_ended progress.Readable = false
is_ended (progress.Reset code) = true
is_ended progress.Finished = true

-- how many bytes an answer gives
abbrev pub given_by : Result (Option Chunk) ReadError → ℕ
given_by (Ok (Some chunk)) = length chunk.bytes
given_by (Ok None) = 0
given_by (Err e) = 0

-- what was told at the end
abbrev pub IsLastAnswer : Progress → Result (Option Chunk) ReadError → Type 0
IsLastAnswer progress.Readable result = ⊥
IsLastAnswer (progress.Reset code) result = result ≡ Err (read_error.Reset code)
IsLastAnswer progress.Finished result = result ≡ Ok None

-- a reader gave its next answer. What it told at the end it tells again
abbrev pub Nexts : Progress → World → ℕ → ℕ → Bool → Result (Option Chunk) ReadError → World → Type 0
Nexts progress.Readable w id most ordered result v = ReadsHalf w id most ordered result v
Nexts (progress.Reset code) w id most ordered result v = (result ≡ Err (read_error.Reset code)) × (v ≡ w)
Nexts progress.Finished w id most ordered result v = (result ≡ Ok None) × (v ≡ w)

-- where a reader is after several reads
abbrev pub progress_of : LastAnswer → Progress
progress_of last_answer.Blocked = progress.Readable
progress_of last_answer.Ended = progress.Finished
progress_of (last_answer.Reset code) = progress.Reset code
progress_of last_answer.Memory = progress.Readable
progress_of last_answer.More = progress.Readable

-- an answer without a chunk ends several reads so
abbrev pub IsLastOf : Result (Option Chunk) ReadError → LastAnswer → Type 0
IsLastOf (Ok (Some chunk)) last = ⊥
IsLastOf (Ok None) last = last ≡ last_answer.Ended
IsLastOf (Err read_error.Blocked) last = last ≡ last_answer.Blocked
IsLastOf (Err (read_error.Reset code)) last = last ≡ last_answer.Reset code
IsLastOf (Err read_error.OutOfMemory) last = last ≡ last_answer.Memory

-- reads of a half, one after another, gave these chunks
abbrev pub GivesChunks : World → ℕ → ℕ → Bool → List Chunk → World → Type 0
GivesChunks w id most ordered [] v = v ≡ w
GivesChunks w id most ordered (c ∷ cs) v = (u : World) × ReadsHalf w id most ordered (Ok (Some c)) u × GivesChunks u id most ordered cs v

-- and the next, if one more was asked for, gave none
abbrev pub LastReads : World → ℕ → ℕ → Bool → LastAnswer → World → Type 0
LastReads w id most ordered last_answer.Blocked v = ReadsHalf w id most ordered (Err read_error.Blocked) v
LastReads w id most ordered last_answer.Ended v = ReadsHalf w id most ordered (Ok None) v
LastReads w id most ordered (last_answer.Reset code) v = ReadsHalf w id most ordered (Err (read_error.Reset code)) v
LastReads w id most ordered last_answer.Memory v = ReadsHalf w id most ordered (Err read_error.OutOfMemory) v
LastReads w id most ordered last_answer.More v = v ≡ w

-- how many chunks there are where so many were asked for
abbrev pub IsCountOf : ℕ → LastAnswer → ℕ → Type 0
IsCountOf times last_answer.Blocked n = n < times
IsCountOf times last_answer.Ended n = n < times
IsCountOf times (last_answer.Reset code) n = n < times
IsCountOf times last_answer.Memory n = n < times
IsCountOf times last_answer.More n = n ≡ times

-- how many bytes there are in all
abbrev pub bytes_in : List Chunk → ℕ
bytes_in [] = 0
bytes_in (c ∷ cs) = length c.bytes + bytes_in cs

-- MAX_STREAM_DATA is queued at the end of a reader
abbrev pub is_window_queued : Progress → World → Option Half → Bool
is_window_queued progress.Readable w o = is_due_in w.window o
is_window_queued (progress.Reset code) w o = false
is_window_queued progress.Finished w o = false

-- what is queued at the end of a reader that read so many bytes
abbrev pub pending_after : Progress → World → ℕ → ℕ → Pending → Pending
pending_after progress w id read p = record (with_max_streams w p) {
  max_stream_data = with_id p.max_stream_data id (is_window_queued progress w (w.receive id));
  max_data = p.max_data || is_max_data_due (credited w.credit read);
}

-- whether something was queued at the end of a reader
abbrev pub is_transmit_due : Progress → World → ℕ → ℕ → Bool
is_transmit_due progress w id read = (is_max_streams_due w.bi || is_max_streams_due w.uni)
    || (is_window_queued progress w (w.receive id) || is_max_data_due (credited w.credit read))

-- a stream was opened for reads, gave chunks, at most so many, and its reader was ended
pub record ReadsSome (w : World) (id most times : ℕ) (ordered : Bool) (p : Pending) (chunks : List Chunk) (last : LastAnswer) (transmit : Bool) (v : World) (q : Pending) : Type 0 where
  pub opened : World
  pub read : World
  pub ended : World
  pub begins : Begins w id ordered (Ok tt) opened
  pub gives : GivesChunks opened id most ordered chunks read
  pub last_reads : LastReads read id most ordered last ended
  pub count : IsCountOf times last (length chunks)
  pub is : v ≡ with_credit ended (bytes_in chunks)
  pub pending : q ≡ pending_after (progress_of last) ended id (bytes_in chunks) p
  pub transmits : transmit ≡ is_transmit_due (progress_of last) ended id (bytes_in chunks)

-- a stream was stopped: STOP_SENDING is queued unless it was reset, and MAX_DATA where it is due
abbrev pub pending_stopped : World → Half → ℕ → ℕ → Pending → Pending
pending_stopped v h id code p = record p {
  stop_sending = with_stop_sending p.stop_sending id code (is_none h.reset);
  max_data = p.max_data || is_max_data_due v.credit;
}

-- the state once a half was stopped, which made it h'
abbrev pub after_stop : World → ℕ → Half → Half → World
after_stop w id h h' = with_credit (if is_some h.size then with_freed w id else with_receive w id (Some h')) (stop_credit h)

-- what came of a stop
abbrev pub Stops : World → ℕ → ℕ → Pending → Result (Unit {0}) HandleError → World → Pending → Type 0
Stops w id code p (Ok u) v q = (h : Half) × (h' : Half) × (w.receive id ≡ Some h) × (h.stopped ≡ false)
    × Clears h.buffer h'.buffer × (h' ≡ record h { buffer = h'.buffer; stopped = true })
    × (v ≡ after_stop w id h h') × (q ≡ pending_stopped v h id code p)
Stops w id code p (Err handle_error.ClosedStream) v q = IsClosed (w.receive id) × (v ≡ w) × (q ≡ p)
Stops w id code p (Err handle_error.OutOfMemory) v q = (v ≡ w) × (q ≡ p)

-- what came of asking for the code of a reset
abbrev pub TellsReset : World → ℕ → Pending → Result (Option ℕ) HandleError → World → Pending → Type 0
TellsReset w id p (Ok (Some code)) v q = (h : Half) × (w.receive id ≡ Some h) × (h.stopped ≡ false) × (h.reset ≡ Some code)
    × (v ≡ with_freed w id) × (q ≡ with_max_streams v p)
TellsReset w id p (Ok None) v q = (h : Half) × (w.receive id ≡ Some h) × (h.stopped ≡ false) × (h.reset ≡ None) × (v ≡ w) × (q ≡ p)
TellsReset w id p (Err handle_error.ClosedStream) v q = IsClosed (w.receive id) × (v ≡ w) × (q ≡ p)
TellsReset w id p (Err handle_error.OutOfMemory) v q = (h : Half) × (w.receive id ≡ Some h) × (is_some h.reset ≡ true) × (v ≡ w) × (q ≡ p)
