-- What the promises of an assembler say of both modes together.
use Rattle.std.proofs.Common.{◌≡◌, ℕ, ◌+◌, ◌<◌, ◌≤◌, Bool, true, false, not, ◌&&◌, ◌||◌, List, length, max, refl, sym, ◌∙◌, arith}
use Rattle.quic_assembler.specs.Piece.{lies}
use Rattle.quic_assembler.specs.Reassembly.{Reassembly, Holds, IsDone, is_done, Takes, SameHeld, HoldsNothing, IsStale, run_count, piece_count}
use Rattle.quic_assembler.specs.Laws.{done_below}
use Rattle.quic_receiving.specs.Calls.{Inserted, Rests, Clears}

same_if_both : (a b : Bool) → (a ≡ true → b ≡ true) → (b ≡ true → a ≡ true) → b ≡ a
same_if_both true b f g = f refl
same_if_both false true f g = sym (g refl)
same_if_both false false f g = refl

false_unless : (b : Bool) → (b ≡ true → ⊥) → b ≡ false
false_unless true f = absurd (f refl)
false_unless false f = refl

by_mode : (ordered d d' l : Bool) → (ordered ≡ true → d' ≡ d) → (ordered ≡ false → d' ≡ (d || l)) → d' ≡ (d || (not ordered && l))
by_mode true true d' l f g = f refl
by_mode true false d' l f g = f refl
by_mode false d d' l f g = g refl

pub in_both_modes : (ordered : Bool) (P : Type 0) → (ordered ≡ true → P) → (ordered ≡ false → P) → P
in_both_modes true P f g = f refl
in_both_modes false P f g = g refl

-- where nothing was read in order, nothing is done
pub done-none : (a : Reassembly) → a.ordered ≡ true → a.bytes_read ≡ 0 → (at : ℕ) → is_done a at ≡ false
done-none a o r at = false_unless (is_done a at) (λ h. let l : at < a.bytes_read = (done_below a at o).0 h in absurd (omega arith))

-- in order as much is done as was read
done-ordered : (a b : Reassembly) → b.ordered ≡ a.ordered → b.bytes_read ≡ a.bytes_read → (at : ℕ) → a.ordered ≡ true → is_done b at ≡ is_done a at
done-ordered a b same read at o = same_if_both (is_done a at) (is_done b at)
    (λ h. let l : at < a.bytes_read = (done_below a at o).0 h in (done_below b at (same ∙ o)).1 (omega arith))
    (λ h. let l : at < b.bytes_read = (done_below b at (same ∙ o)).0 h in (done_below a at o).1 (omega arith))

pub done-rests : (a b : Reassembly) → b.ordered ≡ a.ordered → b.bytes_read ≡ a.bytes_read
    → ((at : ℕ) → a.ordered ≡ false → is_done b at ≡ is_done a at) → (at : ℕ) → is_done b at ≡ is_done a at
done-rests a b same read unordered at = in_both_modes a.ordered (is_done b at ≡ is_done a at) (done-ordered a b same read at) (unordered at)

pub done-inserted : (a b : Reassembly) (offset : ℕ) (bytes : List ℕ) → b.ordered ≡ a.ordered → b.bytes_read ≡ a.bytes_read
    → ((at : ℕ) → a.ordered ≡ false → is_done b at ≡ (is_done a at || lies offset (offset + length bytes) at))
    → (at : ℕ) → is_done b at ≡ (is_done a at || (not a.ordered && lies offset (offset + length bytes) at))
done-inserted a b offset bytes same read unordered at =
    by_mode a.ordered (is_done a at) (is_done b at) (lies offset (offset + length bytes) at) (done-ordered a b same read at) (unordered at)

pub inserted : (old new : Reassembly) (offset : ℕ) (bytes : List ℕ)
    → Takes (Holds old) (Holds new) (IsDone old) offset bytes
    → ((at : ℕ) → old.ordered ≡ false → is_done new at ≡ (is_done old at || lies offset (offset + length bytes) at))
    → new.bytes_read ≡ old.bytes_read
    → new.ordered ≡ old.ordered
    → new.highest ≡ max old.highest (offset + length bytes)
    → (old.ordered ≡ true → piece_count new ≤ piece_count old + 1)
    → (old.ordered ≡ false → piece_count new ≤ piece_count old + run_count (is_done old) offset (length bytes))
    → (IsStale old offset bytes → piece_count new ≡ piece_count old)
    → Inserted old new offset bytes
inserted old new offset bytes takes done read same high pieces pieces_unordered stale = record {
  takes = takes;
  done = done-inserted old new offset bytes same read done;
  bytes_read = read;
  ordered = same;
  highest = high;
  pieces = pieces;
  pieces_unordered = pieces_unordered;
  stale = stale;
}

pub rests : (old new : Reassembly) → SameHeld (Holds old) (Holds new) → ((at : ℕ) → old.ordered ≡ false → is_done new at ≡ is_done old at)
    → new.bytes_read ≡ old.bytes_read → new.ordered ≡ old.ordered → new.highest ≡ old.highest → piece_count new ≤ piece_count old → Rests old new
rests old new held done read same high pieces = record {
  held = held;
  done = done-rests old new same read done;
  bytes_read = read;
  ordered = same;
  highest = high;
  pieces = pieces;
}

pub clears : (old new : Reassembly) → HoldsNothing (Holds new) → ((at : ℕ) → is_done new at ≡ is_done old at) → new.bytes_read ≡ old.bytes_read
    → new.ordered ≡ old.ordered → new.highest ≡ old.highest → piece_count new ≡ 0 → Clears old new
clears old new nothing done read same high pieces = record {
  nothing = nothing;
  done = done;
  bytes_read = read;
  ordered = same;
  highest = high;
  pieces = pieces;
}
