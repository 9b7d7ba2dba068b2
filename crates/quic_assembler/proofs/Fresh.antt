-- What of a run was not received.
use Rattle.std.proofs.Common.{◌≡◌, ℕ, ◌+◌, ◌-◌, ◌≤◌, ◌<◌, ◌⊎◌, inl, inr, refl, sym, ◌∙◌, ap, List, [], ◌∷◌, ◌++◌, length, take, drop, arith, zero, suc, Bool, true, false, min, sum_by, ◌*◌}
use Rattle.std.specs.Prelude.{◌&&◌, not}
use Rattle.std.proofs.lemmas.List.{length-append, length-drop, length-take, get_or-take, drop-drop}
use Rattle.std.proofs.lemmas.List.Elements.{All-push, All-nil}
use Rattle.std.proofs.lemmas.Bool.{cases_lt}
use Rattle.std.proofs.lemmas.Bool.Decides.{nat_tests}
use Rattle.std.proofs.lemmas.Grind.{common_steps}
use Rattle.quic_ranges.specs.Runs.{contains, Run as Range}
use Rattle.quic_assembler.specs.Compact.{with_run}
use Rattle.quic_assembler.specs.Piece.{PieceView, RunHolds, IsSome, KeepsAlive, run_length, run_allocation, HoldsSame, covers, cover_count, bit, lies, run_end, cut_at}
use Rattle.quic_assembler.specs.Reassembly.{IsCut, TakesFront, TakesFresh, NoneReceived, run_count, fresh_count, starts_run}
use Rattle.quic_assembler.proofs.Runs.{RunHolds-uncut, covers_from_holds}
use Rattle.quic_assembler.proofs.Counts.{Any-cons, Any-nil, Any-append, Any-permutation, Any-unpush, any_with_run, with_run_count, with_run_length, count-append, count_permuted, lies_in, lies_below, lies_above, count_of_any}
use Rattle.quic_assembler.proofs.Sums.{sums_alive, with_run_total, with_run_allocated}
use Rattle.std.specs.List.Sorted.{IsPermutation}
use Rattle.std.proofs.lemmas.List.Sorted.{IsPermutation-sym, length_permutation, sum_by-IsPermutation}
use Rattle.std.proofs.lemmas.List.Sums.{sum_by_push, sum_by-append}
use Rattle.std.proofs.Math.Nat.{add-mul}

-- how many longest runs there are, and how many offsets that are not done
no_start_done : (done : ℕ → Bool) (offset k : ℕ) → done k ≡ true → starts_run done offset k ≡ false
no_start_done done offset k d = rw d refl

no_start_within : (done : ℕ → Bool) (offset k : ℕ) → offset < k → done (k - 1) ≡ false → starts_run done offset k ≡ false
no_start_within done offset k l d = rw d (grind (arith, nat_tests))

run_count-skip : (done : ℕ → Bool) (offset m n : ℕ) → m ≤ n → ((k : ℕ) → offset + m ≤ k → k < offset + n → starts_run done offset k ≡ false) → run_count done offset n ≡ run_count done offset m
run_count-skip done offset m zero l h = let e : m ≡ 0 = omega arith in rw e refl
run_count-skip done offset m (suc n) l h = elim (cases_lt n m) [
  | inl k ↦ (let e : m ≡ suc n = omega arith in rw e refl)
  | inr k ↦ rw (h (offset + n) (omega arith) (omega arith)) (omega (arith, run_count-skip done offset m n k (λ j a b. h j a (omega arith))))
]

run_count-done : (done : ℕ → Bool) (offset m n : ℕ) → m ≤ n → ((k : ℕ) → offset + m ≤ k → k < offset + n → done k ≡ true) → run_count done offset n ≡ run_count done offset m
run_count-done done offset m n l h = run_count-skip done offset m n l (λ k a b. no_start_done done offset k (h k a b))

run_count-one : (done : ℕ → Bool) (offset m n : ℕ) → m < n → starts_run done offset (offset + m) ≡ true → ((k : ℕ) → offset + m ≤ k → k < offset + n → done k ≡ false) → run_count done offset n ≡ run_count done offset m + 1
run_count-one done offset m n l s h =
    let one : run_count done offset (suc m) ≡ run_count done offset m + 1 = rw s refl in
    omega (arith, one, run_count-skip done offset (suc m) n (omega arith) (λ k a b. no_start_within done offset k (omega arith) (h (k - 1) (omega arith) (omega arith))))

fresh_count-done : (done : ℕ → Bool) (offset m n : ℕ) → m ≤ n → ((k : ℕ) → offset + m ≤ k → k < offset + n → done k ≡ true) → fresh_count done offset n ≡ fresh_count done offset m
fresh_count-done done offset m zero l h = let e : m ≡ 0 = omega arith in rw e refl
fresh_count-done done offset m (suc n) l h = elim (cases_lt n m) [
  | inl k ↦ (let e : m ≡ suc n = omega arith in rw e refl)
  | inr k ↦ rw (h (offset + n) (omega arith) (omega arith)) (omega (arith, fresh_count-done done offset m n k (λ j a b. h j a (omega arith))))
]

fresh_count-all : (done : ℕ → Bool) (offset m n : ℕ) → m ≤ n → ((k : ℕ) → offset + m ≤ k → k < offset + n → done k ≡ false) → fresh_count done offset n ≡ fresh_count done offset m + (n - m)
fresh_count-all done offset m zero l h = let e : m ≡ 0 = omega arith in rw e (omega arith)
fresh_count-all done offset m (suc n) l h = elim (cases_lt n m) [
  | inl k ↦ (let e : m ≡ suc n = omega arith in rw e (omega arith))
  | inr k ↦ rw (h (offset + n) (omega arith) (omega arith)) (omega (arith, fresh_count-all done offset m n k (λ j a b. h j a (omega arith))))
]

pub starts_here : (done : ℕ → Bool) (offset at : ℕ) → done at ≡ false → (at ≡ offset) ⊎ (done (at - 1) ≡ true) → starts_run done offset at ≡ true
starts_here done offset at d (inl e) = rw (d, e) (grind (arith, nat_tests))
starts_here done offset at d (inr e) = rw (d, e) (grind (arith, nat_tests))

-- the tests of an offset in a range
pub fresh_bit : (low high at : ℕ) (b : Bool) → b ≡ false → bit (lies low high at && not b) ≡ bit (lies low high at)
fresh_bit low high at b e = rw e (grind (arith, nat_tests))

pub old_bit : (low high at : ℕ) (b : Bool) → b ≡ true → bit (lies low high at && not b) ≡ 0
old_bit low high at b e = rw e (grind (arith, nat_tests))

same_test : (low r end at : ℕ) (b : Bool) → at < r → at < end → bit (lies low r at && not b) ≡ bit (lies low end at && not b)
same_test low r end at b l m = grind (arith, nat_tests)

same_bit : (at a b c d : ℕ) → a ≡ b → c ≡ d → bit (lies a c at) ≡ bit (lies b d at)
same_bit at a b c d e f = rw (e, f) refl

pub outside_bit : (low high at : ℕ) (b : Bool) → bit (lies low high at) ≡ 0 → bit (lies low high at && not b) ≡ 0
outside_bit low high at b e = grind (arith, nat_tests)

pub bit_of_fresh : (t b : Bool) → 0 < bit (t && not b) → (0 < bit t) × (b ≡ false)
bit_of_fresh true true h = absurd (omega arith)
bit_of_fresh true false h = (omega arith, refl)
bit_of_fresh false b h = absurd (omega arith)

-- a front that was split off
lies_none : (low high at : ℕ) → high ≤ low → bit (lies low high at) ≡ 0
lies_none low high at l = elim (cases_lt at low) [ inl m ↦ lies_below low high at m | inr m ↦ lies_above low high at (omega arith) ]

pub fronts_none : (start : ℕ) (rest : PieceView) (fronts : List PieceView) → rest.offset ≡ start → TakesFront start rest rest fronts fronts
fronts_none start rest fronts e = record {
  same = record { offset = omega arith; bytes = (let z : start - rest.offset ≡ 0 = omega arith in rw z refl) };
  count = λ at. omega (arith, lies_none rest.offset start at (omega arith));
  origin = λ at byte h. inl h;
  pieces = omega arith;
  total = omega arith;
  memory = λ m. m;
  alive = refl;
  sound = λ s. s;
}

front_holds : (at byte offset n : ℕ) (bytes : List ℕ) → n ≤ length bytes → RunHolds at byte (record { offset = offset; bytes = take n bytes; allocation_size = 0; compact = true; sequence = 0 }) → RunHolds at byte (record { offset = offset; bytes = bytes; allocation_size = 0; compact = true; sequence = 0 })
front_holds at byte offset n bytes l h = grind (arith, common_steps, get_or-take, length-take)

pub fronts_split : (start : ℕ) (rest mid front : PieceView) (fronts next : List PieceView) → rest.offset < start → start ≤ run_end rest → HoldsSame (cut_at start rest) mid → front.offset ≡ rest.offset → front.bytes ≡ take (start - rest.offset) rest.bytes → front.allocation_size ≡ rest.allocation_size → mid.allocation_size ≡ rest.allocation_size → next ≡ fronts ++ front ∷ [] → TakesFront start rest mid fronts next
fronts_split start rest mid front fronts next l m s o b f g e =
    let len : length front.bytes ≡ start - rest.offset = rw (b, length-take) (omega arith) in
    let stop : run_end front ≡ start = omega arith in
    record {
      same = s;
      count = λ at. rw e (omega (arith, count-append at fronts (front ∷ []), same_bit at front.offset rest.offset (run_end front) start o stop));
      origin = λ at byte h. elim (Any-unpush (RunHolds at byte) fronts front (rw e at h)) [
        | inl a ↦ inl a
        | inr p ↦ inr (front_holds at byte rest.offset (start - rest.offset) rest.bytes (omega arith) (rw (o, b) at p))
      ];
      pieces = rw (e, length-append) (omega arith);
      total = rw e (omega (arith, len, sum_by_push run_length fronts front));
      memory = λ all. rw e (All-push (KeepsAlive rest.allocation_size) fronts front all f);
      alive = g;
      sound = λ all. rw e (All-push IsSome fronts front all (omega arith));
    }

-- a range that was received is cut out
rest_end : (received : List Range) (whole rest : PieceView) (fronts : List PieceView) → IsCut received whole rest fronts → run_end rest ≡ run_end whole
rest_end received whole rest fronts c = rw (c.same.bytes, length-drop) (omega (arith, c.from, c.to))

rest_bytes : (end : ℕ) (whole rest mid next : PieceView) (start : ℕ) → whole.offset ≤ rest.offset → rest.offset ≤ start → start ≤ end → HoldsSame (cut_at rest.offset whole) rest → HoldsSame (cut_at start rest) mid → next ≡ cut_at end mid → (next.offset ≡ end) × (next.bytes ≡ drop (end - whole.offset) whole.bytes)
rest_bytes end whole rest mid next start a b d r m e =
    let n : (rest.offset - whole.offset) + ((start - rest.offset) + (end - mid.offset)) ≡ end - whole.offset = omega (arith, m.offset) in
    ((rw e (omega (arith, m.offset))), (rw (e, m.bytes, r.bytes) (rw (drop-drop, drop-drop) (ap (λ k. drop k whole.bytes) n))))

cut_count : (received : List Range) (low r start end at n : ℕ) → n ≡ bit (lies low r at && not (contains received at)) → low ≤ r → r ≤ start → start < end → ((k : ℕ) → r ≤ k → k < start → contains received k ≡ false) → ((k : ℕ) → start ≤ k → k < end → contains received k ≡ true) → n + bit (lies r start at) ≡ bit (lies low end at && not (contains received at))
cut_count received low r start end at n e a b d fresh old = elim (cases_lt at r) [
  | inl l ↦ omega (arith, lies_below r start at l, same_test low r end at (contains received at) l (omega arith))
  | inr l ↦ elim (cases_lt at start) [
    | inl m ↦ omega (arith, lies_in r start at l m, outside_bit low r at (contains received at) (lies_above low r at l), fresh_bit low end at (contains received at) (fresh at l m), lies_in low end at (omega arith) (omega arith))
    | inr m ↦ elim (cases_lt at end) [
      | inl k ↦ omega (arith, lies_above r start at m, outside_bit low r at (contains received at) (lies_above low r at l), old_bit low end at (contains received at) (old at m k))
      | inr k ↦ omega (arith, lies_above r start at m, outside_bit low r at (contains received at) (lies_above low r at l), outside_bit low end at (contains received at) (lies_above low end at k))
    ]
  ]
]

cut_pieces : (received : List Range) (low r start end : ℕ) → low ≤ r → r ≤ start → start < end → ((k : ℕ) → r ≤ k → k < start → contains received k ≡ false) → ((k : ℕ) → start ≤ k → k < end → contains received k ≡ true) → (r ≡ low) ⊎ (contains received (r - 1) ≡ true) → run_count (contains received) low (r - low) + min 1 (start - r) ≡ run_count (contains received) low (end - low)
cut_pieces received low r start end a b d fresh old s =
    let at : low + (r - low) ≡ r = omega arith in
    let skip = run_count-done (contains received) low (start - low) (end - low) (omega arith) (λ k l m. old k (omega arith) (omega arith)) in
    elim (cases_lt r start) [
      | inl l ↦ omega (arith, skip, run_count-one (contains received) low (r - low) (start - low) (omega arith) (rw at (starts_here (contains received) low r (fresh r (omega arith) l) s)) (λ k m n. fresh k (omega arith) (omega arith)))
      | inr l ↦ (let e : start ≡ r = omega arith in omega (arith, rw e at skip))
    ]

cut_fresh : (received : List Range) (low r start end : ℕ) → low ≤ r → r ≤ start → start < end → ((k : ℕ) → r ≤ k → k < start → contains received k ≡ false) → ((k : ℕ) → start ≤ k → k < end → contains received k ≡ true) → fresh_count (contains received) low (r - low) + (start - r) ≡ fresh_count (contains received) low (end - low)
cut_fresh received low r start end a b d fresh old =
    omega (arith, fresh_count-all (contains received) low (r - low) (start - low) (omega arith) (λ k l m. fresh k (omega arith) (omega arith)), fresh_count-done (contains received) low (start - low) (end - low) (omega arith) (λ k l m. old k (omega arith) (omega arith)))

pub cut_step : (received : List Range) (whole rest mid next : PieceView) (fronts more : List PieceView) (start end : ℕ) → IsCut received whole rest fronts → TakesFront start rest mid fronts more → next ≡ cut_at end mid → rest.offset ≤ start → start < end → end ≤ run_end rest → ((k : ℕ) → rest.offset ≤ k → k < start → contains received k ≡ false) → ((k : ℕ) → start ≤ k → k < end → contains received k ≡ true) → IsCut received whole next more
cut_step received whole rest mid next fronts more start end c f e l m n fresh old =
    let stop = rest_end received whole rest fronts c in
    let place = rest_bytes end whole rest mid next start c.from l (omega arith) c.same f.same e in
    record {
      from = omega (arith, place.0, c.from);
      to = omega (arith, place.0);
      same = record { offset = omega (arith, place.0, c.from); bytes = rw place.0 place.1 };
      sound = f.sound c.sound;
      count = λ at. rw place.0 (f.count at ∙ cut_count received whole.offset rest.offset start end at (cover_count at fronts) (c.count at) c.from l m fresh old);
      origin = λ at byte h. elim (f.origin at byte h) [
        | inl a ↦ c.origin at byte a
        | inr p ↦ RunHolds-uncut rest.offset at byte whole (rw (c.same.offset, c.same.bytes) at p)
      ];
      pieces = rw place.0 (omega (arith, f.pieces, c.pieces, cut_pieces received whole.offset rest.offset start end c.from l m fresh old c.starts));
      total = rw place.0 (omega (arith, f.total, c.total, cut_fresh received whole.offset rest.offset start end c.from l m fresh old));
      memory = rw c.alive at (f.memory (rw (← c.alive) at c.memory));
      alive = rw e (f.alive ∙ c.alive);
      starts = inr (rw place.0 (old (end - 1) (omega arith) (omega arith)));
    }

-- all that was received is cut out
pub cut_none : (received : List Range) (whole : PieceView) → IsCut received whole whole []
cut_none received whole = record {
  from = omega arith;
  to = omega arith;
  same = record { offset = omega arith; bytes = (let z : whole.offset - whole.offset ≡ 0 = omega arith in rw z refl) };
  sound = All-nil IsSome;
  count = λ at. sym (outside_bit whole.offset whole.offset at (contains received at) (lies_none whole.offset whole.offset at (omega arith)));
  origin = λ at byte h. absurd (Any-nil (RunHolds at byte) h);
  pieces = (let z : whole.offset - whole.offset ≡ 0 = omega arith in rw z refl);
  total = (let z : whole.offset - whole.offset ≡ 0 = omega arith in rw z refl);
  memory = All-nil (KeepsAlive whole.allocation_size);
  alive = refl;
  starts = inl refl;
}

rest_count : (received : List Range) (low r end at n m : ℕ) → n ≡ bit (lies low r at && not (contains received at)) → m ≡ bit (lies r end at) → low ≤ r → r ≤ end → ((k : ℕ) → r ≤ k → k < end → contains received k ≡ false) → m + n ≡ bit (lies low end at && not (contains received at))
rest_count received low r end at n m e f a b none = elim (cases_lt at r) [
  | inl l ↦ omega (arith, lies_below r end at l, same_test low r end at (contains received at) l (omega arith))
  | inr l ↦ elim (cases_lt at end) [
    | inl k ↦ omega (arith, lies_in r end at l k, outside_bit low r at (contains received at) (lies_above low r at l), fresh_bit low end at (contains received at) (none at l k), lies_in low end at (omega arith) k)
    | inr k ↦ omega (arith, lies_above r end at k, outside_bit low r at (contains received at) (lies_above low r at l), outside_bit low end at (contains received at) (lies_above low end at k))
  ]
]

rest_pieces : (received : List Range) (low r end : ℕ) → low ≤ r → r ≤ end → ((k : ℕ) → r ≤ k → k < end → contains received k ≡ false) → (r ≡ low) ⊎ (contains received (r - 1) ≡ true) → run_count (contains received) low (r - low) + min 1 (end - r) ≡ run_count (contains received) low (end - low)
rest_pieces received low r end a b none s =
    let at : low + (r - low) ≡ r = omega arith in
    elim (cases_lt r end) [
      | inl l ↦ omega (arith, run_count-one (contains received) low (r - low) (end - low) (omega arith) (rw at (starts_here (contains received) low r (none r (omega arith) l) s)) (λ k m n. none k (omega arith) (omega arith)))
      | inr l ↦ (let e : end ≡ r = omega arith in rw e (omega arith))
    ]

rest_fresh : (received : List Range) (low r end : ℕ) → low ≤ r → r ≤ end → ((k : ℕ) → r ≤ k → k < end → contains received k ≡ false) → fresh_count (contains received) low (r - low) + (end - r) ≡ fresh_count (contains received) low (end - low)
rest_fresh received low r end a b none = omega (arith, fresh_count-all (contains received) low (r - low) (end - low) (omega arith) (λ k l m. none k (omega arith) (omega arith)))

-- what is left of a run is held
sums_joined : (f : PieceView → ℕ) (fronts xs ms ys zs : List PieceView) → IsPermutation (fronts ++ xs) ms → IsPermutation zs ys → (sum_by f ms ≡ sum_by f fronts + sum_by f xs) × (sum_by f ys ≡ sum_by f zs)
sums_joined f fronts xs ms ys zs p q = (sum_by-IsPermutation f (fronts ++ xs) ms p ∙ sum_by-append f fronts xs, sum_by-IsPermutation f zs ys q)

pub takes_fresh : (received : List Range) (whole rest : PieceView) (fronts xs ms ys : List PieceView) → IsCut received whole rest fronts → NoneReceived received rest
    → IsPermutation (fronts ++ xs) ms → IsPermutation (with_run rest ms) ys → TakesFresh received whole xs ys
takes_fresh received whole rest fronts xs ms ys c none p q =
    let stop = rest_end received whole rest fronts c in
    let none' : (k : ℕ) → rest.offset ≤ k → k < run_end whole → contains received k ≡ false = λ k l m. none k l (omega arith) in
    let n : run_end whole - whole.offset ≡ length whole.bytes = omega arith in
    let len : length rest.bytes ≡ run_end whole - rest.offset = omega (arith, stop) in
    let count : length fronts + min 1 (length rest.bytes) ≡ run_count (contains received) whole.offset (length whole.bytes) = omega (arith, c.pieces, len, rw n at (rest_pieces received whole.offset rest.offset (run_end whole) c.from c.to none' c.starts)) in
    let lengths = sums_joined run_length fronts xs ms ys (with_run rest ms) p q in
    let sizes = sums_joined run_allocation fronts xs ms ys (with_run rest ms) p q in
    record {
      count = λ at. omega (arith, count_permuted at (fronts ++ xs) ms p, count-append at fronts xs, count_permuted at (with_run rest ms) ys q, with_run_count at rest ms, rest_count received whole.offset rest.offset (run_end whole) at (cover_count at fronts) (covers at rest) (c.count at) (same_bit at rest.offset rest.offset (run_end rest) (run_end whole) refl stop) c.from c.to none');
      origin = λ at byte h. elim (Any-cons _ _ _ (any_with_run _ _ _ (Any-permutation _ _ _ (IsPermutation-sym _ _ q) h))) [
        | inl d ↦ inr (RunHolds-uncut rest.offset at byte whole (rw (c.same.offset, c.same.bytes) at d), none at d.0 d.1)
        | inr a ↦ elim (Any-append _ fronts xs (Any-permutation _ _ _ (IsPermutation-sym _ _ p) a)) [
          | inl b ↦ inr (c.origin at byte b, (bit_of_fresh (lies whole.offset rest.offset at) (contains received at) (rw (← c.count at) (count_of_any at fronts (covers_from_holds at byte fronts b)))).1)
          | inr b ↦ inl b
        ]
      ];
      pieces = omega (arith, length_permutation _ _ p, length-append fronts xs, length_permutation _ _ q, with_run_length rest ms, count);
      total = omega (arith, lengths.0, lengths.1, with_run_total rest ms, c.total, len, rw n at (rest_fresh received whole.offset rest.offset (run_end whole) c.from c.to none'));
      allocated = rw (← count, add-mul) (omega (arith, sizes.0, sizes.1, with_run_allocated rest ms, sums_alive whole.allocation_size fronts c.memory, ap (λ k. min 1 (length rest.bytes) * k) c.alive));
    }
