-- What a receive half holds follows from the frames that it kept and the chunks that it gave, whatever is called.
use Rattle.std.proofs.Common.{◌≡◌, ◌⊎◌, inl, inr, ℕ, zero, suc, ◌+◌, ◌-◌, ◌<◌, ◌≤◌, Bool, true, false, not, ◌&&◌, ◌||◌, cond, List, [], ◌∷◌, length, slice_index, refl, sym, ap, ◌∙◌, ◌↔◌, arith, if◌then◌else◌}
use Rattle.std.proofs.lemmas.Bool.{cases_lt, false≢true}
use Rattle.std.proofs.lemmas.Bool.Decides.{nat_tests}
use Rattle.quic_assembler.specs.Piece.{lies}
use Rattle.quic_assembler.specs.Reassembly.{Reassembly, Holds, is_done, IsHeld, IsWithin, fresh}
use Rattle.quic_assembler.specs.Laws.{done_below}
use Rattle.quic_assembler.specs.declared.Chunk.{Chunk}
use Rattle.quic_receiving.specs.Counted.{number}
use Rattle.quic_receiving.specs.Data.{Slice, Carries, is_in_slices, IsData, IsAllGiven}
use Rattle.quic_receiving.specs.Calls.{Inserted, Given, Rests, Leaves}
use Rattle.quic_receiving.proofs.Buffers.{in_both_modes}
use Rattle.quic_receiving.proofs.Counted.{number-bound, given_held, given_count, lies-low, lies-high}

or-left : (a b : Bool) → a ≡ true → (a || b) ≡ true
or-left a b h = rw h refl

or-right : (a b : Bool) → b ≡ true → (a || b) ≡ true
or-right true b h = refl
or-right false b h = h

or-split : (a b : Bool) → (a || b) ≡ true → (a ≡ true) ⊎ (b ≡ true)
or-split true b h = inl refl
or-split false b h = inr h

or-swap : (a b : Bool) → (a || b) ≡ (b || a)
or-swap true true = refl
or-swap true false = refl
or-swap false true = refl
or-swap false false = refl

same-bits : (a b : Bool) → (a ≡ true → b ≡ true) → (b ≡ true → a ≡ true) → a ≡ b
same-bits true b p q = sym (p refl)
same-bits false true p q = q refl
same-bits false false p q = refl

-- what is done is told by the mode
in-order : (m g k x : Bool) → m ≡ true → x ≡ g → x ≡ (if m then g else k)
in-order true g k x e h = h
in-order false g k x e h = absurd (false≢true e)

no-order : (m g k x : Bool) → m ≡ false → x ≡ k → x ≡ (if m then g else k)
no-order true g k x e h = absurd (false≢true (sym e))
no-order false g k x e h = h

of-order : (m g k x : Bool) → m ≡ true → x ≡ (if m then g else k) → x ≡ g
of-order true g k x e h = h
of-order false g k x e h = absurd (false≢true e)

of-no-order : (m g k x : Bool) → m ≡ false → x ≡ (if m then g else k) → x ≡ k
of-no-order true g k x e h = absurd (false≢true (sym e))
of-no-order false g k x e h = h

-- what an insert makes done
insert-order : (m x l : Bool) → m ≡ true → (x || (not m && l)) ≡ x
insert-order true true l e = refl
insert-order true false l e = refl
insert-order false x l e = absurd (false≢true e)

insert-no-order : (m x l : Bool) → m ≡ false → (x || (not m && l)) ≡ (l || x)
insert-no-order true x l e = absurd (false≢true (sym e))
insert-no-order false x l e = or-swap x l

lies-in : (low high at : ℕ) → low ≤ at → at < high → lies low high at ≡ true
lies-in low high at l h = grind (arith, nat_tests)

carried-in : (ss : List Slice) (at byte : ℕ) → Carries ss at byte → is_in_slices ss at ≡ true
carried-in [] at byte h = absurd h
carried-in (s ∷ ss) at byte (inl h) = or-left _ (is_in_slices ss at) (lies-in s.offset (s.offset + length s.bytes) at h.0 h.1)
carried-in (s ∷ ss) at byte (inr h) = or-right (lies s.offset (s.offset + length s.bytes) at) _ (carried-in ss at byte h)

pub in-carried : (ss : List Slice) (at : ℕ) → is_in_slices ss at ≡ true → (byte : ℕ) × Carries ss at byte
in-carried [] at h = absurd (false≢true h)
in-carried (s ∷ ss) at h = elim (or-split (lies s.offset (s.offset + length s.bytes) at) (is_in_slices ss at) h) [
  | inl l ↦ (slice_index s.bytes (at - s.offset), inl (lies-low s.offset (s.offset + length s.bytes) at l, lies-high s.offset (s.offset + length s.bytes) at l, refl))
  | inr k ↦ let c = in-carried ss at k in (c.0, inr c.1)
]

-- what was given came
given_came : (kept given : List Slice) (a : Reassembly) → IsData kept given a → (at : ℕ) → is_in_slices given at ≡ true → is_in_slices kept at ≡ true
given_came kept given a d at h = let c = in-carried given at h in carried-in kept at c.0 (d.came at c.0 c.1)

-- what is done came
done_came : (kept given : List Slice) (a : Reassembly) → IsData kept given a → (at : ℕ) → is_done a at ≡ true → is_in_slices kept at ≡ true
done_came kept given a d at h = in_both_modes a.ordered (is_in_slices kept at ≡ true)
    (λ o. given_came kept given a d at (sym (of-order a.ordered (is_in_slices given at) (is_in_slices kept at) (is_done a at) o (d.done at)) ∙ h))
    (λ u. sym (of-no-order a.ordered (is_in_slices given at) (is_in_slices kept at) (is_done a at) u (d.done at)) ∙ h)

-- what was given is done
given_done : (kept given : List Slice) (a : Reassembly) → IsData kept given a → (at : ℕ) → is_in_slices given at ≡ true → is_done a at ≡ true
given_done kept given a d at h = in_both_modes a.ordered (is_done a at ≡ true)
    (λ o. of-order a.ordered (is_in_slices given at) (is_in_slices kept at) (is_done a at) o (d.done at) ∙ h)
    (λ u. of-no-order a.ordered (is_in_slices given at) (is_in_slices kept at) (is_done a at) u (d.done at) ∙ given_came kept given a d at h)

number-none : (n : ℕ) → number (is_in_slices []) n ≡ 0
unfolding number
number-none zero = refl
number-none (suc n) = omega (arith, number-none n)

pub data-fresh : IsData [] [] fresh
unfolding Holds is_done
data-fresh = record {
  held = λ at byte h. absurd (omega (arith, h.1.2));
  came = λ at byte h. absurd h;
  complete = λ at h. absurd (false≢true h);
  once = λ at h. absurd (false≢true h);
  done = λ at. grind (arith, nat_tests);
  count = λ n l. number-none n;
  within = λ at h. absurd (false≢true h);
}

pub data-inserted : (kept given : List Slice) (a b : Reassembly) (offset : ℕ) (bytes : List ℕ) → Inserted a b offset bytes
    → IsData kept given a → IsData (record { offset = offset; bytes = bytes } ∷ kept) given b
data-inserted kept given a b offset bytes s d = record {
  held = λ at byte h. elim (s.takes.origin at byte h) [ inl k ↦ inr (d.held at byte k) | inr k ↦ inl k ];
  came = λ at byte h. inr (d.came at byte h);
  complete = λ at h. elim (or-split (lies offset (offset + length bytes) at) (is_in_slices kept at) h) [
    | inl l ↦ elim (s.takes.gains at (lies-low offset (offset + length bytes) at l, lies-high offset (offset + length bytes) at l)) [
      | inl k ↦ before at (d.complete at (done_came kept given a d at k))
      | inr k ↦ inr k
    ]
    | inr k ↦ before at (d.complete at k)
  ];
  once = λ at h k. elim (s.takes.fresh at k.0 k.1) [ inl o ↦ d.once at h (k.0, o) | inr n ↦ n (given_done kept given a d at h) ];
  done = λ at. in_both_modes a.ordered (is_done b at ≡ (if b.ordered then is_in_slices given at else (lies offset (offset + length bytes) at || is_in_slices kept at)))
      (λ o. in-order b.ordered (is_in_slices given at) (lies offset (offset + length bytes) at || is_in_slices kept at) (is_done b at) (s.ordered ∙ o) (s.done at ∙ insert-order a.ordered (is_done a at) (lies offset (offset + length bytes) at) o ∙ of-order a.ordered (is_in_slices given at) (is_in_slices kept at) (is_done a at) o (d.done at)))
      (λ u. no-order b.ordered (is_in_slices given at) (lies offset (offset + length bytes) at || is_in_slices kept at) (is_done b at) (s.ordered ∙ u) (s.done at ∙ insert-no-order a.ordered (is_done a at) (lies offset (offset + length bytes) at) u ∙ ap (λ x. lies offset (offset + length bytes) at || x) (of-no-order a.ordered (is_in_slices given at) (is_in_slices kept at) (is_done a at) u (d.done at))));
  count = λ n l. d.count n (omega (arith, s.highest)) ∙ sym s.bytes_read;
  within = λ at h. elim (or-split (lies offset (offset + length bytes) at) (is_in_slices kept at) h) [
    | inl l ↦ omega (arith, s.highest, lies-high offset (offset + length bytes) at l)
    | inr k ↦ omega (arith, s.highest, d.within at k)
  ];
}
  where
    before : (at : ℕ) → (is_in_slices given at ≡ true) ⊎ IsHeld (Holds a) at → (is_in_slices given at ≡ true) ⊎ IsHeld (Holds b) at
    before at (inl g) = inl g
    before at (inr k) = inr (s.takes.keeps at k)

pub data-rests : (kept given : List Slice) (a b : Reassembly) → Rests a b → IsData kept given a → IsData kept given b
data-rests kept given a b s d = record {
  held = λ at byte h. d.held at byte (s.held.origin at byte h);
  came = d.came;
  complete = λ at h. elim (d.complete at h) [ inl g ↦ inl g | inr k ↦ inr (k.0, s.held.keeps at k.0 k.1) ];
  once = λ at h k. d.once at h (k.0, s.held.origin at k.0 k.1);
  done = λ at. s.done at ∙ d.done at ∙ ap (λ m. if m then is_in_slices given at else is_in_slices kept at) (sym s.ordered);
  count = λ n l. d.count n (omega (arith, s.highest)) ∙ sym s.bytes_read;
  within = λ at h. omega (arith, s.highest, d.within at h);
}

pub data-leaves : (kept given : List Slice) (a b : Reassembly) → Leaves a b → IsData kept given a → IsData kept given b
data-leaves kept given a b s d = record {
  held = λ at byte h. d.held at byte (s.leaves.held.origin at byte h);
  came = d.came;
  complete = λ at h. elim (d.complete at h) [ inl g ↦ inl g | inr k ↦ inr (s.leaves.held.keeps at k) ];
  once = λ at h k. d.once at h (k.0, s.leaves.held.origin at k.0 k.1);
  done = λ at. no-order b.ordered (is_in_slices given at) (is_in_slices kept at) (is_done b at) s.leaves.ordered (same-bits (is_done b at) (is_in_slices kept at) (forth at) (back at));
  count = λ n l. d.count n (omega (arith, s.leaves.highest)) ∙ sym s.leaves.bytes_read;
  within = λ at h. omega (arith, s.leaves.highest, d.within at h);
}
  where
    forth : (at : ℕ) → is_done b at ≡ true → is_in_slices kept at ≡ true
    forth at h = elim ((s.leaves.done at).0 h) [
      | inl l ↦ done_came kept given a d at ((done_below a at s.was_ordered).1 l)
      | inr k ↦ carried-in kept at k.0 (d.held at k.0 k.1)
    ]

    back : (at : ℕ) → is_in_slices kept at ≡ true → is_done b at ≡ true
    back at h = elim (d.complete at h) [
      | inl g ↦ (s.leaves.done at).1 (inl ((done_below a at s.was_ordered).0 (given_done kept given a d at g)))
      | inr k ↦ (s.leaves.done at).1 (inr k)
    ]

-- two sets without a common offset have as many offsets together as each for itself
number-or : (n : ℕ) (f g : ℕ → Bool) → ((at : ℕ) → f at ≡ true → g at ≡ true → ⊥) → number (λ at. f at || g at) n ≡ number f n + number g n
unfolding number
number-or zero f g apart = refl
number-or (suc n) f g apart = omega (arith, number-or n f g apart, bits (f n) (g n) (apart n))
  where
    bits : (a b : Bool) → (a ≡ true → b ≡ true → ⊥) → cond (a || b) 1 0 ≡ cond a 1 0 + cond b 1 0
    bits true true apart = absurd (apart refl refl)
    bits true false apart = refl
    bits false true apart = refl
    bits false false apart = refl

-- each offset of a chunk came
chunk_end : (kept given : List Slice) (a b : Reassembly) (most : ℕ) (chunk : Chunk) → Given a most chunk b → IsData kept given a
    → (chunk.offset + length chunk.bytes ≤ a.highest) ⊎ (length chunk.bytes ≡ 0)
chunk_end kept given a b most chunk s d = elim (cases_lt 0 (length chunk.bytes)) [
  | inl l ↦
      let at : ℕ = chunk.offset + (length chunk.bytes - 1) in
      let h = given_held a b most chunk s at (omega arith, omega arith) in
      inl (let m : at < a.highest = d.within at (carried-in kept at h.0 (d.held at h.0 h.1)) in omega arith)
  | inr l ↦ inr (omega arith)
]

below : (n a offset count : ℕ) → (offset + count ≤ a) ⊎ (count ≡ 0) → a ≤ n → (offset + count ≤ n) ⊎ (count ≡ 0)
below n a offset count (inl l) m = inl (omega arith)
below n a offset count (inr e) m = inr e

pub data-given : (kept given : List Slice) (a b : Reassembly) (most : ℕ) (chunk : Chunk) → Given a most chunk b
    → IsData kept given a → IsData kept (record { offset = chunk.offset; bytes = chunk.bytes } ∷ given) b
data-given kept given a b most chunk s d = record {
  held = λ at byte h. d.held at byte (s.gives.origin at byte h);
  came = λ at byte h. elim h [ inl k ↦ d.held at byte (s.gives.given at byte k) | inr k ↦ d.came at byte k ];
  complete = λ at h. elim (d.complete at h) [
    | inl g ↦ inl (or-right (lies chunk.offset (chunk.offset + length chunk.bytes) at) (is_in_slices given at) g)
    | inr k ↦ elim (s.gives.keeps at k.0 k.1) [
      | inl w ↦ inl (or-left _ (is_in_slices given at) (lies-in chunk.offset (chunk.offset + length chunk.bytes) at w.0 w.1))
      | inr o ↦ inr (k.0, o)
    ]
  ];
  once = λ at h k. elim (or-split (lies chunk.offset (chunk.offset + length chunk.bytes) at) (is_in_slices given at) h) [
    | inl l ↦ s.gives.gone at (within_chunk at l) k
    | inr g ↦ d.once at g (k.0, s.gives.origin at k.0 k.1)
  ];
  done = λ at. in_both_modes a.ordered (is_done b at ≡ (if b.ordered then (lies chunk.offset (chunk.offset + length chunk.bytes) at || is_in_slices given at) else is_in_slices kept at))
      (λ o. in-order b.ordered (lies chunk.offset (chunk.offset + length chunk.bytes) at || is_in_slices given at) (is_in_slices kept at) (is_done b at) (s.ordered ∙ o) (same-bits (is_done b at) (lies chunk.offset (chunk.offset + length chunk.bytes) at || is_in_slices given at) (forth o at) (back o at)))
      (λ u. no-order b.ordered (lies chunk.offset (chunk.offset + length chunk.bytes) at || is_in_slices given at) (is_in_slices kept at) (is_done b at) (s.ordered ∙ u) (s.done at u ∙ of-no-order a.ordered (is_in_slices given at) (is_in_slices kept at) (is_done a at) u (d.done at)));
  count = λ n l. number-or n (lies chunk.offset (chunk.offset + length chunk.bytes)) (is_in_slices given) apart
      ∙ omega (
        arith,
        d.count n (omega (arith, s.highest)),
        s.bytes_read,
        given_count n chunk.offset (length chunk.bytes) (below n a.highest chunk.offset (length chunk.bytes) (chunk_end kept given a b most chunk s d) (omega (arith, s.highest))),
      );
  within = λ at h. omega (arith, s.highest, d.within at h);
}
  where
    within_chunk : (at : ℕ) → lies chunk.offset (chunk.offset + length chunk.bytes) at ≡ true → IsWithin chunk.offset chunk.bytes at
    within_chunk at l = (lies-low chunk.offset (chunk.offset + length chunk.bytes) at l, lies-high chunk.offset (chunk.offset + length chunk.bytes) at l)

    apart : (at : ℕ) → lies chunk.offset (chunk.offset + length chunk.bytes) at ≡ true → is_in_slices given at ≡ true → ⊥
    apart at l g = d.once at g (given_held a b most chunk s at (within_chunk at l))

    forth : a.ordered ≡ true → (at : ℕ) → is_done b at ≡ true → (lies chunk.offset (chunk.offset + length chunk.bytes) at || is_in_slices given at) ≡ true
    forth o at h = let l : at < b.bytes_read = (done_below b at (s.ordered ∙ o)).0 h in
        elim (cases_lt at a.bytes_read) [
          | inl m ↦ or-right (lies chunk.offset (chunk.offset + length chunk.bytes) at) (is_in_slices given at) (sym (of-order a.ordered (is_in_slices given at) (is_in_slices kept at) (is_done a at) o (d.done at)) ∙ (done_below a at o).1 m)
          | inr m ↦ or-left _ (is_in_slices given at) (lies-in chunk.offset (chunk.offset + length chunk.bytes) at (omega (arith, s.start o)) (omega (arith, s.start o, s.bytes_read)))
        ]

    back : a.ordered ≡ true → (at : ℕ) → (lies chunk.offset (chunk.offset + length chunk.bytes) at || is_in_slices given at) ≡ true → is_done b at ≡ true
    back o at h = (done_below b at (s.ordered ∙ o)).1 (elim (or-split (lies chunk.offset (chunk.offset + length chunk.bytes) at) (is_in_slices given at) h) [
      | inl l ↦ omega (arith, s.start o, s.bytes_read, lies-high chunk.offset (chunk.offset + length chunk.bytes) at l)
      | inr g ↦ omega (arith, s.bytes_read, (done_below a at o).0 (given_done kept given a d at g))
    ])

-- a set has all offsets below n exactly where it has n of them
pub number-all : (n : ℕ) (f : ℕ → Bool) → number f n ≡ n → (at : ℕ) → at < n → f at ≡ true
unfolding number
number-all zero f h at l = absurd (omega arith)
number-all (suc n) f h at l = elim (cases_lt at n) [
  | inl m ↦ number-all n f (omega (arith, h, number-bound n f, bit-bound (f n))) at m
  | inr m ↦ let e : at ≡ n = omega arith in rw e (bit-full (f n) (omega (arith, h, number-bound n f, bit-bound (f n))))
]
  where
    bit-bound : (b : Bool) → cond b 1 0 ≤ 1
    bit-bound true = omega arith
    bit-bound false = omega arith

    bit-full : (b : Bool) → 1 ≤ cond b 1 0 → b ≡ true
    bit-full true h = refl
    bit-full false h = absurd (omega (arith, h))

all-number : (n : ℕ) (f : ℕ → Bool) → ((at : ℕ) → at < n → f at ≡ true) → number f n ≡ n
unfolding number
all-number zero f h = refl
all-number (suc n) f h = omega (arith, all-number n f (λ at l. h at (omega arith)), bit-one (f n) (h n (omega arith)))
  where
    bit-one : (b : Bool) → b ≡ true → cond b 1 0 ≤ 1 × (1 ≤ cond b 1 0)
    bit-one true h = (omega arith, omega arith)
    bit-one false h = absurd (false≢true h)

-- as many bytes were read as the final size tells exactly where each byte below it was given
pub all_given : (kept given : List Slice) (a : Reassembly) (size : ℕ) → a.highest ≤ size → IsData kept given a → (a.bytes_read ≡ size) ↔ IsAllGiven given size
all_given kept given a size l d = (
  (λ e. number-all size (is_in_slices given) (d.count size l ∙ e)),
  (λ h. sym (d.count size l) ∙ all-number size (is_in_slices given) h),
)
