-- A read that gives nothing.
use Rattle.std.proofs.Common.{◌≡◌, ℕ, Bool, Option, None, Result, Ok, Err, refl}
use Rattle.std.specs.Result.{IsErrAnd}
use Rattle.quic_assembler.specs.declared.Chunk.{Chunk}
use Rattle.quic_assembler.specs.Reassembly.{Reassembly, Holds, HoldsMore}
use Rattle.quic_receiving.specs.declared.errors.ReadError.{ReadError}
use Rattle.quic_receiving.specs.declared.errors.ReadError.TheVariants as read_error
use Rattle.quic_receiving.specs.Half.{Half}
use Rattle.quic_receiving.specs.Calls.{Rests, Waits, Reads}

pub waits : (old : Half) (buffer : Reassembly) → old.reset ≡ None → buffer ≡ old.buffer → Rests old.buffer buffer → Waits old (record old { buffer = buffer })
waits old buffer running same rests = record {
  running = running;
  same = same;
  rests = rests;
  is = refl;
}

pub no_memory : (old : Half) (most : ℕ) (r : Result (Option Chunk) ReadError) (new : Half)
    → IsErrAnd r (λ e. e ≡ read_error.OutOfMemory) → (ordered : Bool) → ordered ≡ old.buffer.ordered → HoldsMore (Holds old.buffer) ordered old.buffer.bytes_read most
    → Waits old new → Reads old most r new
no_memory old most (Ok o) new h ordered m l w = absurd h
no_memory old most (Err e) new h ordered m l w = rw h (rw m at l, w)
