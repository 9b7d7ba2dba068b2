-- A frame that is taken.
use Rattle.std.proofs.Common.{◌≡◌, ◌⊎◌, ℕ, ◌+◌, ◌≤◌, Bool, false, List, length, refl, sym, ◌∙◌}
use Rattle.std.proofs.lemmas.Bool.{false≢true}
use Rattle.quic_assembler.specs.Reassembly.{Reassembly, IsStale, piece_count}
use Rattle.quic_receiving.specs.Half.{Half, counted_to}
use Rattle.quic_receiving.specs.Calls.{Inserted, KeepsBytes, TakesFrame}

pub keeps : (old : Half) (buffer : Reassembly) (offset : ℕ) (bytes : List ℕ) (fin : Bool) (end : ℕ) (new : Half)
    → old.stopped ≡ false → end ≡ offset + length bytes → Inserted old.buffer buffer offset bytes
    → new ≡ counted_to (record old { buffer = buffer }) end fin → KeepsBytes old offset bytes fin new
keeps old buffer offset bytes fin end new running e inserted is = rw (is, e) (record {
  running = running;
  inserted = inserted;
  is = refl;
})

pub takes_frame : (old : Half) (buffer : Reassembly) (offset : ℕ) (bytes : List ℕ) (fin : Bool) (end : ℕ) (new : Half)
    → old.stopped ≡ false → end ≡ offset + length bytes → Inserted old.buffer buffer offset bytes
    → new ≡ counted_to (record old { buffer = buffer }) end fin
    → IsStale old.buffer offset bytes ⊎ (piece_count buffer ≤ 2048) → TakesFrame old offset bytes fin new
takes_frame old buffer offset bytes fin end new running e inserted is few = record {
  stopped = λ s. absurd (false≢true (sym running ∙ s));
  running = λ _. keeps old buffer offset bytes fin end new running e inserted is;
  few = λ _. rw is few;
}
