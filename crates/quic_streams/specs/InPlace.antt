-- What is done to a half where it lies.
use Rattle.std.specs.Prelude.{ℕ, ◌≡◌, ◌+◌, ◌-◌, ◌^◌, ◌<◌, ◌≤◌, ◌⊎◌, ◌&&◌, if◌then◌else◌, Bool, true, false, List, length, Option, Some, None, is_some, Result, Ok, Err}
use Rattle.std.specs.Global.{Box}
use Rattle.quic_assembler.specs.declared.chunk.Chunk.{Chunk}
use Rattle.quic_assembler.specs.declared.errors.EnsureError.{EnsureError}
use Rattle.quic_assembler.specs.declared.errors.EnsureError.TheVariants as ensure_error
use Rattle.quic_wire.specs.declared.error.ReceiveError.{ReceiveError}
use Rattle.quic_limits.specs.Credit.{is_max_data_due}
use Rattle.quic_ordered.specs.Assembly.{TellsPieces}
use Rattle.quic_receiving.specs.Half.{Half, Taken, verdict}
use Rattle.quic_receiving.specs.Calls.{Ingests, Orders, Reads, buffer_answer}
use Rattle.quic_receiving.specs.declared.errors.ReadError.{ReadError}
use Rattle.quic_receiving.specs.declared.errors.ReadableError.{ReadableError}
use Rattle.quic_receiving.specs.declared.errors.ReadableError.TheVariants as readable_error
use Rattle.quic_receiving.specs.declared.transmit.ShouldTransmit.{ShouldTransmit}
use Rattle.quic_history.specs.Halves.{Halves, with_half}
use Rattle.quic_history.specs.Reading.{IsClosed}
use Rattle.quic_history.specs.Receiving.{IsDropped}
use Rattle.quic_history.specs.World.{World, noticed, with_counted, with_credit, with_freed}
use Rattle.quic_streams.specs.declared.halves.Ingested.{Ingested}

-- the mode of the half of an entry: a new one is read in order
abbrev pub mode_of : Option (Box Half) → Bool
mode_of None = true
mode_of (Some b) = b.value.buffer.ordered

-- a half is there, in this mode
abbrev pub IsInMode : Option Half → Bool → Type 0
IsInMode None ordered = ⊥
IsInMode (Some h) ordered = h.buffer.ordered ≡ ordered

-- the half at an id was read, in its mode
pub record ReadsIn (f : Halves) (id most : ℕ) (ordered : Bool) (result : Result (Option Chunk) ReadError) (g : Halves) : Type 0 where
  pub old : Half
  pub new : Half
  pub half : f id ≡ Some old
  pub mode : old.buffer.ordered ≡ ordered
  pub reads : Reads old most result new
  pub stays : new.buffer.ordered ≡ ordered
  pub bound : new.buffer.bytes_read < 2 ^ 64
  pub is : g ≡ with_half f id (Some new)

-- what came of asking a half for a mode
abbrev pub AsksHalf : Half → Bool → Result (Unit {0}) ReadableError → Half → Type 0
AsksHalf old ordered (Ok u) new = (old.stopped ≡ false) × Orders old ordered (Ok u) new
AsksHalf old ordered (Err readable_error.ClosedStream) new = (old.stopped ≡ true) × (new ≡ old)
AsksHalf old ordered (Err readable_error.IllegalOrderedRead) new = (old.stopped ≡ false) × Orders old ordered (Err ensure_error.IllegalOrderedRead) new
AsksHalf old ordered (Err readable_error.OutOfMemory) new = (new ≡ old) ⊎ ((old.stopped ≡ false) × Orders old ordered (Err ensure_error.OutOfMemory) new)

-- the half at an id was asked for a mode
pub record OrdersIn (f : Halves) (id : ℕ) (ordered : Bool) (answer : Result (Unit {0}) EnsureError) (g : Halves) : Type 0 where
  pub old : Half
  pub new : Half
  pub half : f id ≡ Some old
  pub running : old.stopped ≡ false
  pub orders : Orders old ordered answer new
  pub is : g ≡ with_half f id (Some new)

-- what came of asking for the mode of the half at an id
abbrev pub AsksIn : Halves → ℕ → Bool → Result (Unit {0}) ReadableError → Halves → Type 0
AsksIn f id ordered (Ok u) g = OrdersIn f id ordered (Ok u) g
AsksIn f id ordered (Err readable_error.ClosedStream) g = IsClosed (f id) × (g ≡ f)
AsksIn f id ordered (Err readable_error.IllegalOrderedRead) g = OrdersIn f id ordered (Err ensure_error.IllegalOrderedRead) g
AsksIn f id ordered (Err readable_error.OutOfMemory) g = (g ≡ f) ⊎ OrdersIn f id ordered (Err ensure_error.OutOfMemory) g

-- a frame of a payload of `size` bytes reached a half that was not reset, where so many bytes of those that are permitted were
-- received
pub record IngestsHalf (old : Half) (offset : ℕ) (bytes : List ℕ) (fin : Bool) (size received permitted : ℕ) (taken : Ingested) (new : Half) : Type 0 where
  pub running : old.reset ≡ None
  pub ingests : Ingests old offset bytes fin received permitted taken.answer new
  pub grown : taken.grown ≡ new.end - old.end
  pub stopped : taken.stopped ≡ old.stopped
  pub grows : old.end ≤ new.end
  pub within : 0 < taken.grown → received + taken.grown ≤ permitted
  pub accounts : old.stopped ≡ false → verdict old offset (length bytes) fin received permitted ≡ Taken
      → TellsPieces old.buffer offset bytes size (buffer_answer taken.answer) new.buffer

-- what came of a frame on a half: it is dropped where the half was reset
abbrev pub IngestsOn : Half → ℕ → List ℕ → Bool → ℕ → ℕ → ℕ → Option Ingested → Half → Type 0
IngestsOn old offset bytes fin size received permitted None new = (is_some old.reset ≡ true) × (new ≡ old)
IngestsOn old offset bytes fin size received permitted (Some taken) new = IngestsHalf old offset bytes fin size received permitted taken new

-- a frame reached the half at an id
pub record TakesIn (f : Halves) (id offset : ℕ) (bytes : List ℕ) (fin : Bool) (size received permitted : ℕ) (taken : Ingested) (g : Halves) : Type 0 where
  pub old : Half
  pub new : Half
  pub half : f id ≡ Some old
  pub ingests : IngestsHalf old offset bytes fin size received permitted taken new
  pub is : g ≡ with_half f id (Some new)

-- what came of a frame on the half at an id
abbrev pub IngestsIn : Halves → ℕ → ℕ → List ℕ → Bool → ℕ → ℕ → ℕ → Option Ingested → Halves → Type 0
IngestsIn f id offset bytes fin size received permitted None g = IsDropped (f id) × (g ≡ f)
IngestsIn f id offset bytes fin size received permitted (Some taken) g = TakesIn f id offset bytes fin size received permitted taken g

-- n bytes of a stream count. They give credit at once where its half is stopped, which is freed if that closes it; else the application is told
abbrev pub after_bytes : World → ℕ → Bool → ℕ → Bool → World
after_bytes w id stopped n closed = let u = with_counted w n in
    if stopped
    then with_credit (if closed then with_freed u id else u) n
    else noticed u id true

-- what is told of a frame that reached a half
abbrev pub TellsFrame : World → ℕ → Bool → ℕ → Result (ℕ × Bool) ReceiveError → Result ShouldTransmit ReceiveError → World → Type 0
TellsFrame w id stopped n (Ok answer) (Ok transmit) v = (transmit.0 ≡ (stopped && is_max_data_due v.credit)) × (v ≡ after_bytes w id stopped n answer.1)
TellsFrame w id stopped n (Ok answer) (Err told) v = ⊥
TellsFrame w id stopped n (Err error) (Ok transmit) v = ⊥
TellsFrame w id stopped n (Err error) (Err told) v = (told ≡ error) × (v ≡ with_counted w n)

-- nothing but the receive halves changed
abbrev pub ChangesHalves : World → World → Type 0
ChangesHalves w v = v ≡ record w { receive = v.receive }
