-- What the calls on a receive half do.
use Rattle.std.specs.Prelude.{◌≡◌, ℕ, ◌+◌, ◌≤◌, ◌<◌, ◌⊎◌, Bool, true, false, not, ◌&&◌, ◌||◌, max, List, length, Option, Some, None, is_none, is_some, Result, Ok, Err}
use Rattle.quic_assembler.specs.Piece.{lies}
use Rattle.quic_assembler.specs.Reassembly.{Reassembly, Holds, IsDone, is_done, IsHeld, IsWithin, HoldsMore, Takes, Gives, SameHeld, HoldsNothing, IsStale, LeavesOrder, run_count, piece_count}
use Rattle.quic_assembler.specs.declared.Chunk.{Chunk}
use Rattle.quic_assembler.specs.declared.EnsureError.{EnsureError}
use Rattle.quic_assembler.specs.declared.EnsureError.TheVariants as ensure_error
use Rattle.quic_assembler.specs.declared.InsertError.{InsertError}
use Rattle.quic_assembler.specs.declared.InsertError.TheVariants as insert_error
use Rattle.quic_ordered.specs.Assembly.{IsJoined}
use Rattle.quic_ordered.specs.Rows.{GivesFirst}
use Rattle.quic_sending.specs.declared.ClosedStream.{ClosedStream}
use Rattle.quic_wire.specs.declared.TransportError.{TransportError}
use Rattle.quic_wire.specs.declared.ReceiveError.{ReceiveError}
use Rattle.quic_wire.specs.declared.ReceiveError.TheVariants as receive_error
use Rattle.quic_receiving.specs.declared.errors.ReadError.{ReadError}
use Rattle.quic_receiving.specs.declared.errors.ReadError.TheVariants as read_error
use Rattle.quic_receiving.specs.declared.transmit.ShouldTransmit.{ShouldTransmit}
use Rattle.quic_receiving.specs.Half.{Half, Refused, Taken, verdict, reset_verdict, counted_to, new_bytes, internal_error, stop_credit, is_all}

-- nothing came, and nothing was read
pub record IsEmpty (a : Reassembly) : Type 0 where
  pub nothing : HoldsNothing (Holds a)
  pub done : (at : ℕ) → is_done a at ≡ false
  pub bytes_read : a.bytes_read ≡ 0
  pub ordered : a.ordered ≡ true
  pub highest : a.highest ≡ 0
  pub pieces : piece_count a ≡ 0

-- a half to which nothing came
pub record IsFresh (limit : ℕ) (h : Half) : Type 0 where
  pub empty : IsEmpty h.buffer
  pub is : h ≡ record { buffer = h.buffer; size = None; reset = None; end = 0; sent_max = limit; stopped = false }

-- bytes that came at an offset are kept
pub record Inserted (old new : Reassembly) (offset : ℕ) (bytes : List ℕ) : Type 0 where
  pub takes : Takes (Holds old) (Holds new) (IsDone old) offset bytes
  pub done : (at : ℕ) → is_done new at ≡ (is_done old at || (not old.ordered && lies offset (offset + length bytes) at))
  pub bytes_read : new.bytes_read ≡ old.bytes_read
  pub ordered : new.ordered ≡ old.ordered
  pub highest : new.highest ≡ max old.highest (offset + length bytes)
  pub pieces : old.ordered ≡ true → piece_count new ≤ piece_count old + 1
  pub pieces_unordered : old.ordered ≡ false → piece_count new ≤ piece_count old + run_count (is_done old) offset (length bytes)
  pub stale : IsStale old offset bytes → piece_count new ≡ piece_count old

-- the bytes of a frame are kept, and its end counts
pub record KeepsBytes (old : Half) (offset : ℕ) (bytes : List ℕ) (fin : Bool) (new : Half) : Type 0 where
  pub running : old.stopped ≡ false
  pub inserted : Inserted old.buffer new.buffer offset bytes
  pub is : new ≡ record (counted_to old (offset + length bytes) fin) { buffer = new.buffer }

-- a frame was taken: of a stopped half only its end counts
pub record TakesFrame (old : Half) (offset : ℕ) (bytes : List ℕ) (fin : Bool) (new : Half) : Type 0 where
  pub stopped : old.stopped ≡ true → new ≡ counted_to old (offset + length bytes) fin
  pub running : old.stopped ≡ false → KeepsBytes old offset bytes fin new
  pub few : old.stopped ≡ false → IsStale old.buffer offset bytes ⊎ (piece_count new.buffer ≤ 2048)

-- what came of a STREAM frame
abbrev pub Ingests : Half → ℕ → List ℕ → Bool → ℕ → ℕ → Result (ℕ × Bool) ReceiveError → Half → Type 0
Ingests old offset bytes fin received max_data (Ok answer) new =
    (verdict old offset (length bytes) fin received max_data ≡ Taken)
    × (answer.0 ≡ new_bytes old.end (offset + length bytes))
    × (answer.1 ≡ (fin && old.stopped))
    × TakesFrame old offset bytes fin new
Ingests old offset bytes fin received max_data (Err (receive_error.Transport error)) new =
    ((verdict old offset (length bytes) fin received max_data ≡ Refused error.code) × (new ≡ old))
    ⊎ ((verdict old offset (length bytes) fin received max_data ≡ Taken) × (error.code ≡ internal_error)
    × (1024 < piece_count new.buffer) × (IsStale old.buffer offset bytes → ⊥) × KeepsBytes old offset bytes fin new)
Ingests old offset bytes fin received max_data (Err receive_error.CompactionMemory) new =
    (verdict old offset (length bytes) fin received max_data ≡ Taken)
    × (IsStale old.buffer offset bytes → ⊥) × KeepsBytes old offset bytes fin new
Ingests old offset bytes fin received max_data (Err receive_error.OutOfMemory) new =
    (verdict old offset (length bytes) fin received max_data ≡ Taken)
    × (old.stopped ≡ false) × (IsStale old.buffer offset bytes → ⊥) × (new ≡ old)

-- what the buffer answered, where a frame is taken
abbrev pub buffer_answer : Result (ℕ × Bool) ReceiveError → Result (Unit {0}) InsertError
buffer_answer (Ok answer) = Ok tt
buffer_answer (Err (receive_error.Transport error)) = Err insert_error.TooManyChunks
buffer_answer (Err receive_error.CompactionMemory) = Err insert_error.CompactionMemory
buffer_answer (Err receive_error.OutOfMemory) = Err insert_error.OutOfMemory

-- what is held is let go, and nothing else changes
pub record Clears (old new : Reassembly) : Type 0 where
  pub nothing : HoldsNothing (Holds new)
  pub done : (at : ℕ) → is_done new at ≡ is_done old at
  pub bytes_read : new.bytes_read ≡ old.bytes_read
  pub ordered : new.ordered ≡ old.ordered
  pub highest : new.highest ≡ old.highest
  pub pieces : piece_count new ≡ 0

-- what came of a stop: the credit, and whether STOP_SENDING is of use
abbrev pub StopsHalf : Half → Result (ℕ × ShouldTransmit) ClosedStream → Half → Type 0
StopsHalf old (Ok answer) new =
    (old.stopped ≡ false) × (answer.0 ≡ stop_credit old) × (answer.1.0 ≡ is_none old.reset)
    × Clears old.buffer new.buffer × (new ≡ record old { buffer = new.buffer; stopped = true })
StopsHalf old (Err error) new = (old.stopped ≡ true) × (new ≡ old)

-- what came of a RESET_STREAM: whether it is the first
abbrev pub Resets : Half → ℕ → ℕ → ℕ → ℕ → Result Bool TransportError → Half → Type 0
Resets old code final received max_data (Ok true) new =
    (reset_verdict old final received max_data ≡ Taken) × (old.reset ≡ None) × Clears old.buffer new.buffer
    × (new ≡ record old { buffer = new.buffer; size = Some final; reset = Some code; end = final })
Resets old code final received max_data (Ok false) new =
    (reset_verdict old final received max_data ≡ Taken) × (is_some old.reset ≡ true) × (new ≡ old)
Resets old code final received max_data (Err error) new =
    (reset_verdict old final received max_data ≡ Refused error.code) × (new ≡ old)

-- a chunk was returned: it was buffered, is no longer buffered, and counts as read. It is the start of the first segment,
-- and the other segments are as they were
pub record Given (old : Reassembly) (most : ℕ) (chunk : Chunk) (new : Reassembly) : Type 0 where
  pub first : GivesFirst most old.runs chunk.offset chunk.bytes new.runs
  pub gives : Gives (Holds old) (Holds new) chunk.offset chunk.bytes
  pub here : IsHeld (Holds old) chunk.offset
  pub limit : length chunk.bytes ≤ most
  pub some : 0 < most → 0 < length chunk.bytes
  pub start : old.ordered ≡ true → chunk.offset ≡ old.bytes_read
  pub lowest : (at : ℕ) → at < chunk.offset → IsHeld (Holds old) at → ⊥
  pub taken : (at : ℕ) → IsWithin chunk.offset chunk.bytes at → IsDone new at
  pub done : (at : ℕ) → old.ordered ≡ false → is_done new at ≡ is_done old at
  pub bytes_read : new.bytes_read ≡ old.bytes_read + length chunk.bytes
  pub ordered : new.ordered ≡ old.ordered
  pub highest : new.highest ≡ old.highest
  pub pieces : piece_count new ≤ piece_count old

-- the same bytes are held, and all else is as it was, but pieces that were wholly read before may be gone
pub record Rests (old new : Reassembly) : Type 0 where
  pub held : SameHeld (Holds old) (Holds new)
  pub done : (at : ℕ) → is_done new at ≡ is_done old at
  pub bytes_read : new.bytes_read ≡ old.bytes_read
  pub ordered : new.ordered ≡ old.ordered
  pub highest : new.highest ≡ old.highest
  pub pieces : piece_count new ≤ piece_count old

-- nothing is at hand: in ordered mode not the next byte, in unordered mode none
pub record HasNone (a : Reassembly) : Type 0 where
  pub next : a.ordered ≡ true → IsHeld (Holds a) a.bytes_read → ⊥
  pub any : a.ordered ≡ false → HoldsNothing (Holds a)

-- no chunk was returned: the segments are as they were
pub record Waits (old new : Half) : Type 0 where
  pub running : old.reset ≡ None
  pub same : new.buffer ≡ old.buffer
  pub rests : Rests old.buffer new.buffer
  pub is : new ≡ record old { buffer = new.buffer }

-- what a read gave
abbrev pub Reads : Half → ℕ → Result (Option Chunk) ReadError → Half → Type 0
Reads old most (Ok (Some chunk)) new =
    (old.reset ≡ None) × Given old.buffer most chunk new.buffer × (new ≡ record old { buffer = new.buffer })
Reads old most (Ok None) new = (is_all old.size old.buffer.bytes_read ≡ true) × HasNone old.buffer × Waits old new
Reads old most (Err read_error.Blocked) new = (is_all old.size old.buffer.bytes_read ≡ false) × HasNone old.buffer × Waits old new
Reads old most (Err (read_error.Reset code)) new = (old.reset ≡ Some code) × (new ≡ old)
Reads old most (Err read_error.OutOfMemory) new =
    HoldsMore (Holds old.buffer) old.buffer.ordered old.buffer.bytes_read most × Waits old new

-- reads are unordered from here on: segments that touch were joined
pub record Leaves (old new : Reassembly) : Type 0 where
  pub was_ordered : old.ordered ≡ true
  pub joined : IsJoined old.runs new.runs
  pub leaves : LeavesOrder old new
  pub pieces : piece_count new ≤ piece_count old

-- what came of asking for a mode. Only when memory runs out may the same bytes be buffered in other segments, and no more of
-- them: where later chunks end is then left open
abbrev pub Orders : Half → Bool → Result (Unit {0}) EnsureError → Half → Type 0
Orders old ordered (Ok u) new =
    ((ordered ≡ old.buffer.ordered) × (new ≡ old))
    ⊎ ((ordered ≡ false) × Leaves old.buffer new.buffer × (new ≡ record old { buffer = new.buffer }))
Orders old ordered (Err ensure_error.IllegalOrderedRead) new =
    (ordered ≡ true) × (old.buffer.ordered ≡ false) × Rests old.buffer new.buffer × (new ≡ record old { buffer = new.buffer })
    × (new.buffer ≡ old.buffer)
Orders old ordered (Err ensure_error.OutOfMemory) new =
    ((ordered ≡ true) × (old.buffer.ordered ≡ false) → ⊥) × Rests old.buffer new.buffer × (new ≡ record old { buffer = new.buffer })
