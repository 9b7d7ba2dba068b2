-- What a reader keeps after a read.
use Rattle.std.proofs.Common.{◌≡◌, ◌+◌, ◌≤◌, ℕ, Bool, true, false, not, nat_le, ◌&&◌, Option, Some, None, Result, Ok, Err, length, refl, ap, sym, ◌∙◌, arith}
use Rattle.std.proofs.lemmas.Bool.Decides.{nat_tests}
use Rattle.quic_assembler.specs.declared.chunk.Chunk.{Chunk}
use Rattle.quic_assembler.specs.Reassembly.{Reassembly, fresh}
use Rattle.quic_receiving.specs.Half.{Half, new_half}
use Rattle.quic_receiving.specs.Calls.{HasNone, Rests, Waits, Reads}
use Rattle.quic_receiving.specs.declared.errors.ReadError.{ReadError}
use Rattle.quic_receiving.specs.declared.errors.ReadError.TheVariants as read_error
use Rattle.quic_history.specs.declared.progress.Progress.{Progress}
use Rattle.quic_history.specs.declared.progress.Progress.TheVariants as progress
use Rattle.quic_history.specs.Reading.{is_mode, is_reading, needed, is_ended, IsLastAnswer, progress_after, given_by, ReadsHalf, Nexts}
use Rattle.quic_history.specs.World.{World}
use Rattle.quic_receiving.proofs.Data.{data-fresh}
use Rattle.quic_history.proofs.WorldSteps.{with_receive-back}

more : (read bytes n : ℕ) → nat_le (read + n) (bytes + n) ≡ nat_le read bytes
more read bytes n = grind (arith, nat_tests)

-- a half of which n more bytes were read
same_reader : (old new : Half) (ordered : Bool) (read n : ℕ) → new.stopped ≡ old.stopped → new.buffer.ordered ≡ old.buffer.ordered
    → new.buffer.bytes_read ≡ old.buffer.bytes_read + n → is_reading progress.Readable (Some old) ordered read ≡ true
    → is_reading progress.Readable (Some new) ordered (read + n) ≡ true
same_reader old new ordered read n stopped mode bytes h = rw (stopped, mode, bytes)
    (ap (λ t. not old.stopped && (is_mode old.buffer.ordered ordered && t)) (more read old.buffer.bytes_read n) ∙ h)

waited : (old new : Half) (ordered : Bool) (read : ℕ) → Waits old new → is_reading progress.Readable (Some old) ordered read ≡ true
    → is_reading progress.Readable (Some new) ordered (read + 0) ≡ true
waited old new ordered read w h = same_reader old new ordered read 0 (ap (λ x. x.stopped) w.is) w.rests.ordered (omega (arith, w.rests.bytes_read)) h

-- a reader that may go on still reads the half
pub reading-after : (old new : Half) (ordered : Bool) (read most : ℕ) (r : Result (Option Chunk) ReadError)
    → is_reading progress.Readable (Some old) ordered read ≡ true → Reads old most r new
    → is_reading (progress_after r) (Some new) ordered (read + given_by r) ≡ true
reading-after old new ordered read most (Ok (Some chunk)) h reads =
    same_reader old new ordered read (length chunk.bytes) (ap (λ x. x.stopped) reads.2) reads.1.ordered reads.1.bytes_read h
reading-after old new ordered read most (Ok None) h reads = refl
reading-after old new ordered read most (Err read_error.Blocked) h reads = waited old new ordered read reads.2 h
reading-after old new ordered read most (Err (read_error.Reset code)) h reads = refl
reading-after old new ordered read most (Err read_error.OutOfMemory) h reads = waited old new ordered read reads.1 h

rests-same : (a : Reassembly) → Rests a a
rests-same a = record {
  held = record { keeps = λ at byte h. h; origin = λ at byte h. h };
  done = λ at. refl;
  bytes_read = refl;
  ordered = refl;
  highest = refl;
  pieces = omega arith;
}

-- a reader that may go on reads a half in its mode
pub reader_mode : (h : Half) (ordered : Bool) (read : ℕ) → is_reading progress.Readable (Some h) ordered read ≡ true → h.buffer.ordered ≡ ordered
reader_mode h ordered read e = modes h.buffer.ordered ordered (not h.stopped) (nat_le read h.buffer.bytes_read) e
  where
    modes : (a b c d : Bool) → (c && (is_mode a b && d)) ≡ true → a ≡ b
    modes true true c d k = refl
    modes false false c d k = refl
    modes true false true d k = cc
    modes true false false d k = cc
    modes false true true d k = cc
    modes false true false d k = cc

none_fresh : HasNone fresh
none_fresh = record { next = λ o h. data-fresh.held 0 h.0 h.1; any = λ o at byte h. data-fresh.held at byte h }

-- a half to which nothing came gives nothing yet, whether it could be made or not
pub unmade : (w v : World) (id most window : ℕ) (ordered : Bool) (read : ℕ) → v ≡ w → w.receive id ≡ Some (new_half window)
    → is_reading progress.Readable (w.receive id) ordered read ≡ true → ReadsHalf w id most ordered (Err read_error.Blocked) v
unmade w v id most window ordered read same there reading = record {
  old = new_half window;
  new = new_half window;
  half = there;
  mode = reader_mode (new_half window) ordered read (ap (λ o. is_reading progress.Readable o ordered read) (sym there) ∙ reading);
  running = refl;
  reads = (refl, none_fresh, record { running = refl; same = refl; rests = rests-same (new_half window).buffer; is = refl });
  is = same ∙ sym (with_receive-back w id (Some (new_half window)) there);
}

pub goes_on : (p : Progress) (o : Option Half) (ordered : Bool) (read : ℕ) → is_ended p ≡ false → is_reading p o ordered read ≡ true
    → is_reading progress.Readable o ordered read ≡ true
goes_on progress.Readable o ordered read e h = h
goes_on (progress.Reset code) o ordered read e h = cc
goes_on progress.Finished o ordered read e h = cc

pub needs_one : (p : Progress) (n : ℕ) → is_ended p ≡ false → needed p ≤ n → 1 ≤ n
needs_one progress.Readable n e h = h
needs_one (progress.Reset code) n e h = cc
needs_one progress.Finished n e h = cc

pub needs_less : (p q : Progress) (n : ℕ) → is_ended p ≡ false → needed p ≤ n → needed q ≤ n
needs_less p progress.Readable n e h = needs_one p n e h
needs_less p (progress.Reset code) n e h = omega arith
needs_less p progress.Finished n e h = omega arith

pub nexts-read : (p : Progress) (w v : World) (id most : ℕ) (ordered : Bool) (r : Result (Option Chunk) ReadError) → is_ended p ≡ false → ReadsHalf w id most ordered r v → Nexts p w id most ordered r v
nexts-read progress.Readable w v id most ordered r e h = h
nexts-read (progress.Reset code) w v id most ordered r e h = cc
nexts-read progress.Finished w v id most ordered r e h = cc

pub nexts-last : (p : Progress) (w : World) (id most : ℕ) (ordered : Bool) (r : Result (Option Chunk) ReadError) → IsLastAnswer p r → Nexts p w id most ordered r w
nexts-last progress.Readable w id most ordered r h = absurd h
nexts-last (progress.Reset code) w id most ordered r h = (h, refl)
nexts-last progress.Finished w id most ordered r h = (h, refl)

pub progress-last : (p : Progress) (r : Result (Option Chunk) ReadError) → IsLastAnswer p r → p ≡ progress_after r
progress-last progress.Readable r h = absurd h
progress-last (progress.Reset code) r h = rw h refl
progress-last progress.Finished r h = rw h refl

pub given-last : (p : Progress) (r : Result (Option Chunk) ReadError) (read : ℕ) → IsLastAnswer p r → read ≡ read + given_by r
given-last progress.Readable r read h = absurd h
given-last (progress.Reset code) r read h = rw h (omega arith)
given-last progress.Finished r read h = rw h (omega arith)

-- a half that is read is not stopped
pub reader_runs : (h : Half) (ordered : Bool) (read : ℕ) → is_reading progress.Readable (Some h) ordered read ≡ true → h.stopped ≡ false
reader_runs h ordered read e = not_stopped h.stopped (is_mode h.buffer.ordered ordered && nat_le read h.buffer.bytes_read) e
  where
    not_stopped : (b c : Bool) → (not b && c) ≡ true → b ≡ false
    not_stopped true c k = cc
    not_stopped false c k = refl

pub ruleset next_steps = (goes_on, needs_one, needs_less, nexts-read, nexts-last, progress-last, given-last)
