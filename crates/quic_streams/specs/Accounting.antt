-- What a STREAM frame does with the pieces of the half that it reaches.
use Rattle.std.specs.Prelude.{ℕ, ◌≡◌, Bool, false, List, length, Some, None, Result, Ok, Err}
use Rattle.quic_assembler.specs.declared.errors.InsertError.{InsertError}
use Rattle.quic_assembler.specs.declared.errors.InsertError.TheVariants as insert_error
use Rattle.quic_ordered.specs.Assembly.{TellsPieces}
use Rattle.quic_wire.specs.declared.error.ReceiveError.{ReceiveError}
use Rattle.quic_wire.specs.declared.error.ReceiveError.TheVariants as receive_error
use Rattle.quic_receiving.specs.Half.{Half, Taken, verdict}
use Rattle.quic_receiving.specs.declared.transmit.ShouldTransmit.{ShouldTransmit}
use Rattle.quic_history.specs.World.{World, id_refusal}

-- what the buffer answered, where a frame is taken
abbrev pub buffered : Result ShouldTransmit ReceiveError → Result (Unit {0}) InsertError
buffered (Ok transmit) = Ok tt
buffered (Err (receive_error.Transport error)) = Err insert_error.TooManyChunks
buffered (Err receive_error.CompactionMemory) = Err insert_error.CompactionMemory
buffered (Err receive_error.OutOfMemory) = Err insert_error.OutOfMemory

-- a frame reaches a half that is neither stopped nor reset, and is within the limits
pub record IsWanted (w : World) (id offset : ℕ) (bytes : List ℕ) (fin : Bool) (h : Half) : Type 0 where
  pub known : id_refusal w id ≡ None
  pub half : w.receive id ≡ Some h
  pub running : h.reset ≡ None
  pub wanted : h.stopped ≡ false
  pub taken : verdict h offset (length bytes) fin w.credit.data_recvd w.credit.local_max_data ≡ Taken

-- its data keep so many bytes alive, whatever their own number
pub record TellsHalfPieces (id offset : ℕ) (bytes : List ℕ) (size : ℕ) (result : Result ShouldTransmit ReceiveError) (h : Half) (v : World) : Type 0 where
  pub new : Half
  pub half : v.receive id ≡ Some new
  pub pieces : TellsPieces h.buffer offset bytes size (buffered result) new.buffer

-- what a frame of a payload of so many bytes does with the pieces of its half
abbrev pub CountsPieces : World → ℕ → ℕ → List ℕ → Bool → ℕ → Result ShouldTransmit ReceiveError → World → Type 0
CountsPieces w id offset bytes fin size result v = (h : Half) → IsWanted w id offset bytes fin h → TellsHalfPieces id offset bytes size result h v
