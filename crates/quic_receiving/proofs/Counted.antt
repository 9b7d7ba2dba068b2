-- What was read lies within what came, whatever is called.
use Rattle.std.proofs.Common.{◌≡◌, ◌⊎◌, inl, inr, ℕ, zero, suc, ◌+◌, ◌-◌, ◌<◌, ◌≤◌, Bool, true, false, not, ◌&&◌, cond, List, length, slice_index, min, refl, sym, ◌∙◌, ◌↔◌, Result, Ok, Err, OnOk, OnErr, arith}
use Rattle.std.proofs.lemmas.Bool.{cases_lt, false≢true}
use Rattle.std.proofs.lemmas.Bool.Decides.{nat_tests}
use Rattle.quic_assembler.specs.Piece.{lies}
use Rattle.quic_assembler.specs.Reassembly.{Reassembly, Holds, IsDone, is_done, IsHeld, IsWithin, KeepsOffsets, IsSameButHeld}
use Rattle.quic_assembler.specs.Laws.{done_below, held_or_not}
use Rattle.quic_assembler.specs.declared.Chunk.{Chunk}
use Rattle.quic_assembler.specs.declared.EnsureError.{EnsureError}
use Rattle.quic_assembler.specs.declared.EnsureError.TheVariants.{IllegalOrderedRead}
use Rattle.quic_receiving.specs.Counted.{number, is_first, is_held, is_gone, IsCounted}
use Rattle.quic_receiving.proofs.Buffers.{in_both_modes}
use Rattle.quic_receiving.specs.Calls.{IsEmpty, Inserted, Clears, Given, Rests}

left_of : (a b : Bool) → (a && b) ≡ true → a ≡ true
left_of true b h = refl
left_of false b h = h

right_of : (a b : Bool) → (a && b) ≡ true → b ≡ true
right_of true b h = h
right_of false b h = absurd (false≢true h)

number-le : (n : ℕ) (f g : ℕ → Bool) → ((at : ℕ) → f at ≡ true → g at ≡ true) → number f n ≤ number g n
unfolding number
number-le zero f g h = omega arith
number-le (suc n) f g h = omega (arith, number-le n f g h, bits (f n) (g n) (h n))
  where
    bits : (a b : Bool) → (a ≡ true → b ≡ true) → cond a 1 0 ≤ cond b 1 0
    bits true b h = rw (h refl) (omega arith)
    bits false b h = omega arith

number-more : (n m : ℕ) (f : ℕ → Bool) → n ≤ m → number f n ≤ number f m
unfolding number
number-more n zero f l = let e : n ≡ 0 = omega arith in rw e (omega arith)
number-more n (suc m) f l = elim (cases_lt m n) [
  | inl k ↦ let e : n ≡ suc m = omega arith in rw e (omega arith)
  | inr k ↦ omega (arith, number-more n m f k)
]

number-add : (n : ℕ) (f g h : ℕ → Bool) → ((at : ℕ) → f at ≡ true → h at ≡ true) → ((at : ℕ) → g at ≡ true → h at ≡ true)
    → ((at : ℕ) → f at ≡ true → g at ≡ true → ⊥) → number f n + number g n ≤ number h n
unfolding number
number-add zero f g h p q apart = omega arith
number-add (suc n) f g h p q apart = omega (arith, number-add n f g h p q apart, bits (f n) (g n) (h n) (p n) (q n) (apart n))
  where
    bits : (a b c : Bool) → (a ≡ true → c ≡ true) → (b ≡ true → c ≡ true) → (a ≡ true → b ≡ true → ⊥) → cond a 1 0 + cond b 1 0 ≤ cond c 1 0
    bits true true c p q apart = absurd (apart refl refl)
    bits true false c p q apart = rw (p refl) (omega arith)
    bits false true c p q apart = rw (q refl) (omega arith)
    bits false false c p q apart = omega arith

pub number-lies : (n low high : ℕ) → low ≤ high → number (lies low high) n ≡ min n high - low
unfolding number
number-lies zero low high l = omega arith
number-lies (suc n) low high l = let e = number-lies n low high l in grind (arith, nat_tests)

pub number-bound : (n : ℕ) (f : ℕ → Bool) → number f n ≤ n
unfolding number
number-bound zero f = omega arith
number-bound (suc n) f = omega (arith, number-bound n f, bits (f n))
  where
    bits : (a : Bool) → cond a 1 0 ≤ 1
    bits true = omega arith
    bits false = omega arith

first_true : {P Q : Type 0} (d : P ⊎ Q) → (P → ⊥) → is_first d ≡ false
first_true (inl p) n = absurd (n p)
first_true (inr q) n = refl

first_false : {P Q : Type 0} (d : P ⊎ Q) → is_first d ≡ false → Q
first_false (inl p) h = absurd (false≢true (sym h))
first_false (inr q) h = q

not_true : (b : Bool) → not b ≡ true → b ≡ false
not_true true h = absurd (false≢true h)
not_true false h = refl

gone : (a : Reassembly) (at : ℕ) → is_done a at ≡ true → (IsHeld (Holds a) at → ⊥) → is_gone a at ≡ true
unfolding is_gone is_held
gone a at done n = rw (done, first_true (held_or_not a at) n) refl

gone_done : (a : Reassembly) (at : ℕ) → is_gone a at ≡ true → is_done a at ≡ true
unfolding is_gone
gone_done a at h = left_of (is_done a at) (not (is_held a at)) h

gone_free : (a : Reassembly) (at : ℕ) → is_gone a at ≡ true → IsHeld (Holds a) at → ⊥
unfolding is_gone is_held
gone_free a at h = first_false (held_or_not a at) (not_true (is_held a at) (right_of (is_done a at) (not (is_held a at)) h))

-- nothing that is gone comes back, and nothing was read
counted-same : (a b : Reassembly) → b.bytes_read ≡ a.bytes_read → a.highest ≤ b.highest → ((at byte : ℕ) → Holds b at byte → at < b.highest)
    → ((at : ℕ) → is_gone a at ≡ true → is_gone b at ≡ true) → IsCounted a → IsCounted b
counted-same a b read high held more i = record {
  held = held;
  read = omega (arith, i.read, number-le a.highest (is_gone a) (is_gone b) more, number-more a.highest b.highest (is_gone b) high);
}

pub counted-empty : (a : Reassembly) → IsEmpty a → IsCounted a
counted-empty a e = record {
  held = λ at byte h. absurd (e.nothing at byte h);
  read = omega (arith, e.bytes_read);
}

pub counted-inserted : (a b : Reassembly) (offset : ℕ) (bytes : List ℕ) → Inserted a b offset bytes → IsCounted a → IsCounted b
counted-inserted a b offset bytes s i = counted-same a b s.bytes_read (omega (arith, s.highest))
    (λ at byte h. elim (s.takes.origin at byte h) [ inl k ↦ omega (arith, s.highest, i.held at byte k) | inr k ↦ omega (arith, s.highest, k.1) ])
    (λ at g. gone b at (s.done at ∙ rw (gone_done a at g) refl)
    (λ h. elim (s.takes.fresh at h.0 h.1) [ inl k ↦ gone_free a at g (h.0, k) | inr n ↦ n (gone_done a at g) ]))
    i

pub counted-rests : (a b : Reassembly) → Rests a b → IsCounted a → IsCounted b
counted-rests a b s i = counted-same a b s.bytes_read (omega (arith, s.highest))
    (λ at byte h. omega (arith, s.highest, i.held at byte (s.held.origin at byte h)))
    (λ at g. gone b at (s.done at ∙ gone_done a at g) (λ h. gone_free a at g (h.0, s.held.origin at h.0 h.1)))
    i

pub counted-clears : (a b : Reassembly) → Clears a b → IsCounted a → IsCounted b
counted-clears a b s i = counted-same a b s.bytes_read (omega (arith, s.highest))
    (λ at byte h. absurd (s.nothing at byte h))
    (λ at g. gone b at (s.done at ∙ gone_done a at g) (λ h. s.nothing at h.0 h.1))
    i

pub lies-low : (low high at : ℕ) → lies low high at ≡ true → low ≤ at
lies-low low high at h = grind (arith, nat_tests)

pub lies-high : (low high at : ℕ) → lies low high at ≡ true → at < high
lies-high low high at h = grind (arith, nat_tests)

-- each offset of a chunk that was given was held
pub given_held : (a b : Reassembly) (most : ℕ) (chunk : Chunk) → Given a most chunk b → (at : ℕ) → IsWithin chunk.offset chunk.bytes at → IsHeld (Holds a) at
given_held a b most chunk s at w = (slice_index chunk.bytes (at - chunk.offset), s.gives.given at (slice_index chunk.bytes (at - chunk.offset)) (w.0, w.1, refl))

-- so the chunk ends below the highest end, unless it is empty
pub given_end : (a b : Reassembly) (most : ℕ) (chunk : Chunk) → Given a most chunk b → IsCounted a → (chunk.offset + length chunk.bytes ≤ a.highest) ⊎ (length chunk.bytes ≡ 0)
given_end a b most chunk s i = elim (cases_lt 0 (length chunk.bytes)) [
  | inl l ↦
      let at : ℕ = chunk.offset + (length chunk.bytes - 1) in
      let h = given_held a b most chunk s at (omega arith, omega arith) in
      inl (let m : at < a.highest = i.held at h.0 h.1 in omega arith)
  | inr l ↦ inr (omega arith)
]

pub given_count : (n offset count : ℕ) → (offset + count ≤ n) ⊎ (count ≡ 0) → number (lies offset (offset + count)) n ≡ count
given_count n offset count (inl l) = omega (arith, number-lies n offset (offset + count) (omega arith))
given_count n offset count (inr e) = omega (arith, number-lies n offset (offset + count) (omega arith))

given_done : (a b : Reassembly) (most : ℕ) (chunk : Chunk) → Given a most chunk b → (at : ℕ) → is_done a at ≡ true → is_done b at ≡ true
given_done a b most chunk s at d = in_both_modes a.ordered (is_done b at ≡ true)
    (λ o. let l : at < a.bytes_read = (done_below a at o).0 d in (done_below b at (s.ordered ∙ o)).1 (omega (arith, s.bytes_read)))
    (λ u. s.done at u ∙ d)

pub counted-given : (a b : Reassembly) (most : ℕ) (chunk : Chunk) → Given a most chunk b → IsCounted a → IsCounted b
counted-given a b most chunk s i =
    let offset = chunk.offset in
    let count = length chunk.bytes in
    let taken = number-add a.highest (is_gone a) (lies offset (offset + count)) (is_gone b)
    (λ at g. gone b at (given_done a b most chunk s at (gone_done a at g)) (λ h. gone_free a at g (h.0, s.gives.origin at h.0 h.1)))
    (λ at l. let w : IsWithin chunk.offset chunk.bytes at = (lies-low offset (offset + count) at l, lies-high offset (offset + count) at l) in gone b at (s.taken at w) (s.gives.gone at w))
    (λ at g l. gone_free a at g (given_held a b most chunk s at (lies-low offset (offset + count) at l, lies-high offset (offset + count) at l))) in
    let all = given_count a.highest offset count (given_end a b most chunk s i) in
    record {
      held = λ at byte h. omega (arith, s.highest, i.held at byte (s.gives.origin at byte h));
      read = omega (arith, i.read, s.bytes_read, taken, all, number-more a.highest b.highest (is_gone b) (omega (arith, s.highest)));
    }

pub read-bound : (a : Reassembly) → IsCounted a → a.bytes_read ≤ a.highest
read-bound a i = omega (arith, i.read, number-bound a.highest (is_gone a))

done_after : (a b : Reassembly) (ordered : Bool) (r : Result (Unit {0}) EnsureError)
    → ((r ≡ Err IllegalOrderedRead) ↔ ((ordered ≡ true) × (a.ordered ≡ false)))
    → OnOk r (ordered ≡ a.ordered → b ≡ a)
    → OnOk r (ordered ≡ false → a.ordered ≡ true → (at : ℕ) → IsDone b at ↔ ((at < a.bytes_read) ⊎ IsHeld (Holds a) at))
    → OnErr r (IsSameButHeld a b)
    → (at : ℕ) → is_done a at ≡ true → is_done b at ≡ true
done_after a b ordered (Err e) refused same done err at d = err.done at ∙ d
done_after a b ordered (Ok u) refused same done err at d = in_both_modes ordered (is_done b at ≡ true)
    (λ o. in_both_modes a.ordered (is_done b at ≡ true) (λ p. rw (same (o ∙ sym p)) d) (λ p. let h = refused.1 (o, p) in cc))
    (λ o. in_both_modes a.ordered (is_done b at ≡ true) (λ p. (done o p at).1 (inl ((done_below a at p).0 d))) (λ p. rw (same (o ∙ sym p)) d))

pub counted-ordering : (a b : Reassembly) (ordered : Bool) (r : Result (Unit {0}) EnsureError)
    → ((r ≡ Err IllegalOrderedRead) ↔ ((ordered ≡ true) × (a.ordered ≡ false)))
    → OnOk r (ordered ≡ a.ordered → b ≡ a)
    → OnOk r (ordered ≡ false → a.ordered ≡ true → (at : ℕ) → IsDone b at ↔ ((at < a.bytes_read) ⊎ IsHeld (Holds a) at))
    → OnErr r (IsSameButHeld a b)
    → KeepsOffsets (Holds a) (Holds b) → b.bytes_read ≡ a.bytes_read → b.highest ≡ a.highest → IsCounted a → IsCounted b
counted-ordering a b ordered r refused same done err held read high i = counted-same a b read (omega (arith, high))
    (λ at byte h. omega (arith, high, i.held at byte (held.origin at byte h)))
    (λ at g. gone b at (done_after a b ordered r refused same done err at (gone_done a at g)) (λ h. gone_free a at g (h.0, held.origin at h.0 h.1)))
    i
