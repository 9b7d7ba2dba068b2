-- What a list of runs holds, as the runs change.
use Rattle.std.proofs.Common.{[], ◌≡◌, ℕ, ◌+◌, ◌-◌, ◌≤◌, ◌<◌, inl, inr, refl, sym, ◌∙◌, List, ◌∷◌, length, get_or, drop, take, arith, min, max, ◌^◌}
use Rattle.std.specs.List.{Any, All}
use Rattle.std.specs.List.Sorted.{IsPermutation}
use Rattle.std.proofs.lemmas.List.{get_or-drop, length-drop, get_or-take, length-take}
use Rattle.std.proofs.lemmas.List.Sorted.{IsPermutation-sym, All-permutation}
use Rattle.std.proofs.lemmas.Bool.{cases_lt}
use Rattle.std.proofs.lemmas.List.Elements.{All-head, All-tail}
use Rattle.std.proofs.lemmas.List.{get_or_default}
use Rattle.std.proofs.lemmas.Grind.{common_steps}
use Rattle.quic_assembler.specs.Piece.{PieceView, IsSome, IsLowest, RunHolds, run_end, cut_at, advance_by, IsByteAt, KeepsFrom, TakesFrom, NoneHoldsAt, CoversMore, TakesSome, Covers, covers, cover_count, bit, lies}
use Rattle.quic_assembler.proofs.Counts.{Any-permutation, Any-here, Any-there, Any-cons, count_permuted, count_of_any, lies_in, lies_below, lies_above, bit-le-one}

-- a run that is cut holds what lies from the floor on
pub RunHolds-cut : (floor at byte : ℕ) (r : PieceView) → floor ≤ at → RunHolds at byte r → RunHolds at byte (cut_at floor r)
RunHolds-cut floor at byte r l h = grind (arith, common_steps, get_or-drop)

pub RunHolds-uncut : (floor at byte : ℕ) (r : PieceView) → RunHolds at byte (cut_at floor r) → RunHolds at byte r
RunHolds-uncut floor at byte r h = grind (arith, common_steps, get_or-drop)

-- what cutting and advancing leave covered
pub covers_cut_below : (floor at : ℕ) (r : PieceView) → at < floor → covers at (cut_at floor r) ≡ 0
covers_cut_below floor at r l = lies_below _ _ at (omega arith)

pub covers_cut : (floor at : ℕ) (r : PieceView) → floor ≤ at → floor ≤ run_end r → covers at (cut_at floor r) ≡ covers at r
covers_cut floor at r l e = elim (cases_lt at r.offset) [
  | inl m ↦ lies_below _ _ at (omega arith) ∙ sym (lies_below _ _ at m)
  | inr m ↦ elim (cases_lt at (run_end r)) [
    | inl n ↦ lies_in _ _ at (omega arith) (simp length-drop (omega arith)) ∙ sym (lies_in _ _ at m n)
    | inr n ↦ lies_above _ _ at (simp length-drop (omega arith)) ∙ sym (lies_above _ _ at n)
  ]
]

pub covers_cut_le : (floor at : ℕ) (r : PieceView) → floor ≤ run_end r → covers at (cut_at floor r) ≤ covers at r
covers_cut_le floor at r e = elim (cases_lt at floor) [
  | inl l ↦ omega (arith, covers_cut_below floor at r l)
  | inr l ↦ omega (arith, covers_cut floor at r l e)
]

-- a run of which the first bytes are given
covers_split : (floor n at : ℕ) (r : PieceView) → r.offset ≤ floor → floor ≤ run_end r → n ≤ run_end r - floor → covers at (advance_by n (cut_at floor r)) + bit (lies floor (floor + n) at) ≤ covers at r
covers_split floor n at r s e l = elim (cases_lt at floor) [
  | inl m ↦ omega (arith, lies_below (max floor r.offset + n) (run_end (advance_by n (cut_at floor r))) at (omega arith), lies_below floor (floor + n) at m)
  | inr m ↦ elim (cases_lt at (floor + n)) [
    | inl k ↦ omega (arith, lies_below (max floor r.offset + n) (run_end (advance_by n (cut_at floor r))) at (omega arith), lies_in floor (floor + n) at m k, lies_in r.offset (run_end r) at (omega arith) (omega arith))
    | inr k ↦ elim (cases_lt at (run_end r)) [
      | inl h ↦ omega (arith, bit-le-one (lies (max floor r.offset + n) (run_end (advance_by n (cut_at floor r))) at), lies_above floor (floor + n) at k, lies_in r.offset (run_end r) at (omega arith) h)
      | inr h ↦ omega (arith, lies_above (max floor r.offset + n) (run_end (advance_by n (cut_at floor r))) at (simp (length-drop) (omega arith)), lies_above floor (floor + n) at k)
    ]
  ]
]

count_one_less : (at : ℕ) (ys zs : List PieceView) (r : PieceView) → IsPermutation ys (r ∷ zs) → cover_count at ys ≡ covers at r + cover_count at zs
count_one_less at ys zs r h = sym (count_permuted at ys (r ∷ zs) h)

count_one_more : (at : ℕ) (zs ws : List PieceView) (r : PieceView) → IsPermutation (r ∷ zs) ws → cover_count at ws ≡ covers at r + cover_count at zs
count_one_more at zs ws r h = count_permuted at (r ∷ zs) ws h

-- a run that is popped, and that ends at or below the floor
pub KeepsFrom-refl : (floor : ℕ) (xs : List PieceView) → KeepsFrom floor xs xs
KeepsFrom-refl floor xs = record { keeps = λ at byte l a. a; origin = λ at byte a. a; count = λ at. omega arith }

pub KeepsFrom-popped : (floor : ℕ) (xs ys zs : List PieceView) (r : PieceView) → KeepsFrom floor xs ys → IsPermutation ys (r ∷ zs) → run_end r ≤ floor → KeepsFrom floor xs zs
KeepsFrom-popped floor xs ys zs r k h e = record {
  keeps = λ at byte l a. elim (Any-cons _ _ _ (Any-permutation _ _ _ h (k.keeps at byte l a))) [ inl p ↦ absurd (omega arith) | inr b ↦ b ];
  origin = λ at byte a. k.origin at byte (Any-permutation _ _ _ (IsPermutation-sym _ _ h) (Any-there _ _ _ a));
  count = λ at. omega (arith, k.count at, count_one_less at ys zs r h);
}

pub none_reaches : (xs : List PieceView) (floor : ℕ) → All (λ q. floor < q.offset) xs → NoneHoldsAt floor xs
none_reaches xs floor all = λ byte a.
    let l : floor < (get_or xs a.0 a.1).offset = all a.0 a.1 a.2 in
    absurd (omega (arith, rw a.3 at l, a.4))

-- the first run, cut and put back
pub KeepsFrom-cut : (floor : ℕ) (xs ys zs ws : List PieceView) (r : PieceView) → floor ≤ run_end r → KeepsFrom floor xs ys → IsPermutation ys (r ∷ zs) → IsPermutation (cut_at floor r ∷ zs) ws → KeepsFrom floor xs ws
KeepsFrom-cut floor xs ys zs ws r l k h g = record {
  keeps = λ at byte m a. elim (Any-cons _ _ _ (Any-permutation _ _ _ h (k.keeps at byte m a))) [
    | inl p ↦ Any-permutation _ _ _ g (Any-here _ _ _ (RunHolds-cut _ _ _ r m p))
    | inr b ↦ Any-permutation _ _ _ g (Any-there _ _ _ b)
  ];
  origin = λ at byte a. k.origin at byte (Any-permutation _ _ _ (IsPermutation-sym _ _ h) (elim (Any-cons _ _ _ (Any-permutation _ _ _ (IsPermutation-sym _ _ g) a)) [
    | inl p ↦ Any-here _ _ _ (RunHolds-uncut _ _ _ r p)
    | inr b ↦ Any-there _ _ _ b
  ]));
  count = λ at. omega (arith, k.count at, count_one_less at ys zs r h, count_one_more at zs ws (cut_at floor r) g, covers_cut_le floor at r l);
}

KeepsFrom-more : (floor more : ℕ) (xs ys : List PieceView) → floor ≤ more → KeepsFrom floor xs ys → KeepsFrom more xs ys
KeepsFrom-more floor more xs ys l k = record { keeps = λ at byte h a. k.keeps at byte (omega arith) a; origin = k.origin; count = k.count }

-- the front of the first run
given_by_front : (floor n at byte : ℕ) (r : PieceView) → r.offset ≤ floor → IsByteAt floor (take n (drop (floor - r.offset) r.bytes)) at byte → RunHolds at byte r
given_by_front floor n at byte r l h = grind (arith, common_steps, get_or-drop, get_or-take, length-take, length-drop)

RunHolds-advance : (n at byte : ℕ) (r : PieceView) → r.offset + n ≤ at → RunHolds at byte r → RunHolds at byte (advance_by n r)
RunHolds-advance n at byte r l h = grind (arith, common_steps, get_or-drop, length-drop)

RunHolds-unadvance : (n at byte : ℕ) (r : PieceView) → n ≤ length r.bytes → RunHolds at byte (advance_by n r) → RunHolds at byte r
RunHolds-unadvance n at byte r l h = grind (arith, common_steps, get_or-drop, length-drop)

-- what is taken of the first run, in part or whole
pub TakesFrom-part : (floor n : ℕ) (xs ys zs ws : List PieceView) (r : PieceView) → KeepsFrom floor xs ys → IsPermutation ys (r ∷ zs) → r.offset ≤ floor → n < length (cut_at floor r).bytes → IsPermutation (advance_by n (cut_at floor r) ∷ zs) ws → TakesFrom floor (take n (cut_at floor r).bytes) xs ws
TakesFrom-part floor n xs ys zs ws r k h s l g = record {
  given = λ at byte p. k.origin at byte (Any-permutation _ _ _ (IsPermutation-sym _ _ h) (Any-here _ _ _ (given_by_front floor n at byte r s p)));
  rest = record {
    keeps = λ at byte m a. elim (Any-cons _ _ _ (Any-permutation _ _ _ h (k.keeps at byte (omega arith) a))) [
      | inl p ↦ Any-permutation _ _ _ g (Any-here _ _ _ (RunHolds-advance n at byte (cut_at floor r) (omega (arith, length-take n (cut_at floor r).bytes)) (RunHolds-cut _ _ _ r (omega arith) p)))
      | inr b ↦ Any-permutation _ _ _ g (Any-there _ _ _ b)
    ];
    origin = λ at byte a. k.origin at byte (Any-permutation _ _ _ (IsPermutation-sym _ _ h) (elim (Any-cons _ _ _ (Any-permutation _ _ _ (IsPermutation-sym _ _ g) a)) [
      | inl p ↦ Any-here _ _ _ (RunHolds-uncut _ _ _ r (RunHolds-unadvance n at byte (cut_at floor r) (omega arith) p))
      | inr b ↦ Any-there _ _ _ b
    ]));
    count = λ at. omega (arith, k.count at, count_one_less at ys zs r h, count_one_more at zs ws (advance_by n (cut_at floor r)) g, covers_split floor n at r s (omega (arith, length-drop (floor - r.offset) r.bytes)) (omega (arith, length-drop (floor - r.offset) r.bytes)));
  };
  count = λ at.
      let taken : length (take n (cut_at floor r).bytes) ≡ n = simp length-take (omega arith) in
      rw taken (omega (arith, k.count at, count_one_less at ys zs r h, count_one_more at zs ws (advance_by n (cut_at floor r)) g, covers_split floor n at r s (omega (arith, length-drop (floor - r.offset) r.bytes)) (omega (arith, length-drop (floor - r.offset) r.bytes))));
}

lies_within : (low high at : ℕ) (r : PieceView) → r.offset ≤ low → high ≤ run_end r → bit (lies low high at) ≤ covers at r
lies_within low high at r s e = elim (cases_lt at low) [
  | inl m ↦ omega (arith, lies_below low high at m)
  | inr m ↦ elim (cases_lt at high) [
    | inl k ↦ omega (arith, lies_in low high at m k, lies_in r.offset (run_end r) at (omega arith) (omega arith))
    | inr k ↦ omega (arith, lies_above low high at k)
  ]
]

pub TakesFrom-whole : (floor n : ℕ) (xs ys zs : List PieceView) (r : PieceView) → KeepsFrom floor xs ys → IsPermutation ys (r ∷ zs) → r.offset ≤ floor → floor ≤ run_end r → length (cut_at floor r).bytes ≤ n → TakesFrom floor (take n (cut_at floor r).bytes) xs zs
TakesFrom-whole floor n xs ys zs r k h s f l =
    record {
      given = λ at byte p. k.origin at byte (Any-permutation _ _ _ (IsPermutation-sym _ _ h) (Any-here _ _ _ (given_by_front floor n at byte r s p)));
      rest = KeepsFrom-popped _ _ _ _ r (KeepsFrom-more floor _ xs ys (omega arith) k) h (omega (arith, length-take n (cut_at floor r).bytes, length-drop (floor - r.offset) r.bytes));
      count = λ at. omega (arith, k.count at, count_one_less at ys zs r h, lies_within floor (floor + length (take n (cut_at floor r).bytes)) at r s (simp (length-take, length-drop) (omega arith)));
    }

pub TakesSome-front : (floor most : ℕ) (bytes : List ℕ) (xs ys zs ws : List PieceView) (r : PieceView)
    → KeepsFrom floor xs ys → IsPermutation ys (r ∷ zs) → r.offset ≤ floor → floor < run_end r → run_end r < 2 ^ 62
    → bytes ≡ take most (cut_at floor r).bytes
    → (most < length (cut_at floor r).bytes → IsPermutation (advance_by most (cut_at floor r) ∷ zs) ws)
    → (length (cut_at floor r).bytes ≤ most → ws ≡ zs)
    → TakesSome floor most bytes xs ws
TakesSome-front floor most bytes xs ys zs ws r k h s f top e part whole =
    let len : length bytes ≡ min most (length r.bytes - (floor - r.offset)) = rw (e, length-take, length-drop) refl in
    record {
      limit = omega arith;
      some = λ l. omega arith;
      fits = omega arith;
      taken = rw e (elim (cases_lt most (length (cut_at floor r).bytes)) [
        | inl l ↦ TakesFrom-part floor most xs ys zs ws r k h s l (part l)
        | inr l ↦ rw (whole l) (TakesFrom-whole floor most xs ys zs r k h s (omega arith) l)
      ]);
      here = (get_or r.bytes (floor - r.offset) 0, k.origin _ _ (Any-permutation _ _ _ (IsPermutation-sym _ _ h) (Any-here _ _ _ (s, f, refl))));
    }

-- what lies below the floor is dropped, of runs that do not overlap
pub above_lowest : (floor at : ℕ) (xs : List PieceView) → All (λ q. floor ≤ q.offset) xs → at < floor → cover_count at xs ≡ 0
above_lowest floor at [] all l = refl
above_lowest floor at (x ∷ xs) all l = omega (arith, lies_below x.offset (run_end x) at (omega (arith, All-head (λ q. floor ≤ q.offset) x xs all)), above_lowest floor at xs (All-tail (λ q. floor ≤ q.offset) x xs all) l)

pub rest_above : (floor : ℕ) (zs : List PieceView) (r : PieceView) → ((at : ℕ) → covers at r + cover_count at zs ≤ 1) → r.offset ≤ floor → floor ≤ run_end r → All (λ q. r.offset ≤ q.offset) zs → All IsSome zs → All (λ q. floor ≤ q.offset) zs
rest_above floor zs r apart s e lowest some = λ k d l.
    let q = get_or zs k d in
    elim (cases_lt q.offset floor) [
      | inl m ↦ absurd (omega (arith, apart q.offset, lies_in r.offset (run_end r) q.offset (lowest k d l) (omega arith), count_of_any q.offset zs (k, q, l, get_or_default zs k q d l, (omega arith, omega (arith, some k d l)))))
      | inr m ↦ m
    ]

pub none_below : (floor : ℕ) (xs ys zs : List PieceView) {ws : List PieceView} (r : PieceView) → KeepsFrom floor xs ys → ((at : ℕ) → cover_count at xs ≤ 1) → IsPermutation ys (r ∷ zs) → IsPermutation (cut_at floor r ∷ zs) ws → r.offset ≤ floor → floor ≤ run_end r → IsLowest r ys → All IsSome zs → (at : ℕ) → at < floor → cover_count at ws ≡ 0
none_below floor xs ys zs {ws} r k apart h g s e lowest some at l =
    let tail = All-tail (λ q. r.offset ≤ q.offset) r zs (All-permutation (λ q. r.offset ≤ q.offset) ys (r ∷ zs) h lowest) in
    let above = rest_above floor zs r (λ a. omega (arith, apart a, k.count a, count_one_less a ys zs r h)) s e tail some in
    omega (arith, count_one_more at zs ws (cut_at floor r) g, covers_cut_below floor at r l, above_lowest floor at zs above l)

-- offsets that are covered, and bytes that are held
pub covers_from_holds : (at byte : ℕ) (xs : List PieceView) → Any (RunHolds at byte) xs → Any (Covers at) xs
covers_from_holds at byte xs (k, r, l, e, p) = (k, r, l, e, (p.0, p.1))

pub holds_from_covers : (at : ℕ) (xs : List PieceView) → Any (Covers at) xs → (byte : ℕ) × Any (RunHolds at byte) xs
holds_from_covers at xs (k, r, l, e, p) = (get_or r.bytes (at - r.offset) 0, (k, r, l, e, (p.0, p.1, refl)))

-- a run that reaches over the floor, and further than so many offsets
pub CoversMore-front : (floor most : ℕ) (xs ys zs : List PieceView) (r : PieceView) → KeepsFrom floor xs ys → IsPermutation ys (r ∷ zs) → r.offset ≤ floor → floor < run_end r → most < length (cut_at floor r).bytes → CoversMore floor most xs
CoversMore-front floor most xs ys zs r k h s f l = λ at m n.
    let in_run : at < run_end r = omega (arith, length-drop (floor - r.offset) r.bytes) in
    covers_from_holds at (get_or r.bytes (at - r.offset) 0) xs (k.origin at _ (Any-permutation _ _ _ (IsPermutation-sym _ _ h) (Any-here _ _ _ (omega arith, in_run, refl))))
