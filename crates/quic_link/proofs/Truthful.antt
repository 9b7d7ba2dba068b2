-- What each end is told is true of the other, and what was kept may be read.
use Rattle.std.proofs.Common.{◌≡◌, ℕ, Bool, true, false, List, [], ◌∷◌, length, Option, Some, None, is_some, refl, sym, ap, ◌∙◌, subst, inl, inr, arith, ◌-◌, ◌≤◌, ◌<◌}
use Rattle.std.specs.Prelude.{◌++◌, ◌==◌, ◌||◌, slice_index, if◌then◌else◌}
use Rattle.std.proofs.lemmas.Bool.{cases_lt}
use Rattle.std.proofs.lemmas.Bool.Decides.{nat_tests}
use Rattle.std.proofs.lemmas.List.{get_or_append_left, get_or-append_right, length-append}
use Rattle.quic_assembler.specs.Piece.{IsByteAt}
use Rattle.quic_assembler.specs.Reassembly.{Reassembly, is_done}
use Rattle.quic_assembler.specs.Laws.{done_below}
use Rattle.quic_receiving.specs.Data.{Slice, Carries, is_in_slices, IsData, IsAllGiven}
use Rattle.quic_receiving.specs.Half.{is_all}
use Rattle.quic_history.specs.History.{ReadChunk, slices, HalfFrom, trace, is_closed}
use Rattle.quic_history.proofs.StreamSteps.{half-from, known-from}
use Rattle.quic_link.specs.Endpoints.{LinkedEnd, came_on, written_on}
use Rattle.quic_link.specs.Truths.{AreBytesOf, amount_on}
use Rattle.quic_link.specs.Promises.{given_in_order, TellsTruth, AreReadable}
use Rattle.quic_link.proofs.Readers.{InRows}
use Rattle.quic_link.proofs.Joint.{Agrees}

-- ---- chunks in a row

row_bytes : (cs : List ReadChunk) (whole : List ℕ) → InRows cs → ((at byte : ℕ) → Carries (slices cs) at byte → IsByteAt 0 whole at byte) → AreBytesOf 0 (given_in_order cs) whole
row_bytes [] whole r h = λ at byte k. absurd (let l = k.1 in omega arith)
row_bytes (c ∷ cs) whole r h = by_order c.ordered refl (row_bytes cs whole r.0 (λ at byte k. h at byte (inr k)))
  where
    joined : (xs : List ℕ) → c.offset ≡ length xs → AreBytesOf 0 xs whole → AreBytesOf 0 (xs ++ c.bytes) whole
    joined xs e before at byte k =
        let n = length-append xs c.bytes in
        let l = k.1 in
        elim (cases_lt at (length xs)) [
          | inl m ↦ (let i : at - 0 < length xs = omega arith in before at byte (k.0, omega arith, sym (get_or_append_left xs c.bytes 0 (at - 0) i) ∙ k.2))
          | inr m ↦ (let i : length xs ≡ c.offset = sym e in
              let j : c.offset ≤ at - 0 = omega arith in
              let same : (at - 0) - c.offset ≡ at - c.offset = omega arith in
              h at byte (inl (omega arith, omega arith, ap (λ p. slice_index c.bytes p) (sym same) ∙ sym (get_or-append_right xs c.bytes c.offset (at - 0) 0 i j) ∙ k.2)))
        ]

    by_order : (b : Bool) → c.ordered ≡ b → AreBytesOf 0 (given_in_order cs) whole → AreBytesOf 0 (if b then given_in_order cs ++ c.bytes else given_in_order cs) whole
    by_order true e before = joined (given_in_order cs) (r.1 e) before
    by_order false e before = before

pub truthful : (x y : LinkedEnd) → Agrees x y → Agrees y x → (q : ℕ) → TellsTruth x y q
truthful x y s r q =
    let f = r.comes in
    let fits = s.fits q in
    let given = f.given q in
    let ends = f.ends q in
    let acked = s.acked q in
    let so = r.reads.traces q in
    let bytes : (at byte : ℕ) → Carries (slices (came_on y q).given) at byte → IsByteAt 0 (written_on x q) at byte = λ at byte k. fits.kept at byte (given.came at byte k) in
    record {
      beginning = row_bytes (came_on y q).given (written_on x q) so.rows bytes;
      slices_written = bytes;
      once = given.once;
      finished = λ e. fits.ended (ends.sized e) (so.unreset e);
      all = λ e. let P : ℕ → Type 0 = λ n. IsAllGiven (slices (came_on y q).given) n in subst P (fits.whole (ends.sized e)) (ends.all e);
      reset = fits.reset;
      stopped = acked.stopped;
      delivered = λ e n. let w = acked.whole e n in record { finished = w.finished; bytes = λ at l. acked.came at (w.all at l); end = acked.end_came w.end_acked };
    }

-- ---- reads

given_below : (kept given : List Slice) (a : Reassembly) → IsData kept given a → a.ordered ≡ true → is_in_slices given a.bytes_read ≡ true → ⊥
given_below kept given a d o e =
    let n = d.done a.bytes_read in
    let done : is_done a a.bytes_read ≡ true = by_mode a.ordered o n ∙ e in
    let l = (done_below a a.bytes_read o).0 done in
    omega arith
  where
    by_mode : (b : Bool) → b ≡ true → is_done a a.bytes_read ≡ (if b then is_in_slices given a.bytes_read else is_in_slices kept a.bytes_read) → is_done a a.bytes_read ≡ is_in_slices given a.bytes_read
    by_mode true k h = h
    by_mode false k h = cc

or_false : (a b : Bool) → a ≡ false → b ≡ false → (a || b) ≡ false
or_false a b e k = rw (e, k) refl

true_false : (b : Bool) → b ≡ true → b ≡ false → ⊥
true_false b e k = let l = sym e ∙ k in cc

size_of_half : (o : Option ℕ) → is_some o ≡ true → (n : ℕ) × (o ≡ Some n)
size_of_half None e = cc
size_of_half (Some n) e = (n, refl)

all_read : (o : Option ℕ) (n k : ℕ) → o ≡ Some n → k ≡ n → is_all o k ≡ true
all_read None n k e i = cc
all_read (Some m) n k e i = let j : m ≡ n = cc in let l : (m == k) ≡ true = same_test m k (j ∙ sym i) in l
  where
    same_test : (a b : ℕ) → a ≡ b → (a == b) ≡ true
    same_test a b e = grind (arith, nat_tests)

pub readable : (x y : LinkedEnd) → Agrees x y → Agrees y x → AreReadable x y
readable x y s r q h at running unreset =
    let f = r.comes in
    let fits = s.fits q in
    let told : HalfFrom y.world.window (came_on y q) h = half-from (trace y.calls) y.world q h f.facts.streams (known-from (trace y.calls) y.world q h f.facts.streams at) at in
    let not_reset : (came_on y q).reset ≡ None = sym told.reset ∙ unreset in
    let held = told.holds (sym told.stopped ∙ running) not_reset in
    let open_now : is_closed (came_on y q) ≡ false = or_false (is_some (came_on y q).reset) (came_on y q).gone (ap (λ (o : Option ℕ). is_some o) not_reset) told.there in
    record {
      next = λ o k. elim (held.complete h.buffer.bytes_read (r.keeps.bytes q h.buffer.bytes_read k open_now)) [
        | inl given ↦ absurd (given_below (came_on y q).kept (slices (came_on y q).given) h.buffer held o given)
        | inr is ↦ is
      ];
      any = λ p k n. elim (held.complete p (r.keeps.bytes q p k open_now)) [ inl given ↦ absurd (true_false _ given n) | inr is ↦ is ];
      end = λ k all.
          let sized = r.keeps.ends q k open_now in
          let size = size_of_half h.size (told.sized ∙ sized) in
          let whole : size.0 ≡ amount_on x q = sym (told.final size.0 size.1) ∙ told.high ∙ fits.whole sized in
          let P : ℕ → Type 0 = λ n. IsAllGiven (slices (came_on y q).given) n in
          let read = (f.tells q h at running unreset size.0 size.1).1 (subst P (sym whole) all) in
          all_read h.size size.0 h.buffer.bytes_read size.1 read;
    }
