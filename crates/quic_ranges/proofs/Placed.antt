-- What places of the map say of the runs.
use Rattle.std.proofs.Common.{◌≡◌, ℕ, ◌+◌, ◌<◌, ◌≤◌, false, List, Option, None, [], ◌∷◌, length, drop, Some, None, refl, sym, ap, ◌∙◌, inl, inr, arith, zero, suc}
use Rattle.std.specs.Prelude.{slice_index_or, slice_set, insert, IfSome, IfNone}
use Rattle.std.specs.declared.ops.Range.{Range}
use Rattle.std.specs.List.{remove_range}
use Rattle.std.specs.BTreeMap.{insert_entry}
use Rattle.std.specs.Ordering.{nat_cmp}
use Rattle.std.proofs.lemmas.Bool.{cases_lt, cases_eq, cases_order}
use Rattle.std.proofs.lemmas.List.{get_or_default, take-append-drop}
use Rattle.block_map.specs.Sorted.{KeysRise, IsLastUpTo, IsFirstFrom, FitsAt}
use Rattle.block_map.proofs.Rising.{goes_behind}
use Rattle.block_map.proofs.Keyed.{rises_rest, lookup_here, lookup_none, insert_new, insert_old}
use Rattle.block_map.proofs.Found.{below_last}
use Rattle.block_map.proofs.Without.{keeps_all}
use Rattle.quic_ranges.specs.Runs.{Run, contains, AreRuns, IsRunOf, end_at, EndBefore, NoneBegins, IsLast, without}
use Rattle.quic_ranges.proofs.Entries.{joined, end_at-bounds, end_at-here, end_at-later, insert_before, insert_at, insert_after, without_keeps, without_drops}
use Rattle.quic_ranges.proofs.Order.{apart, inside, outside, gap}

-- the run at a place
abbrev pub StandsAt : List Run → ℕ → Run → Type 0
StandsAt rs at r = (d : Run) → r ≡ slice_index_or rs at d

pub key_is : (rs : List Run) (at : ℕ) (r : Run) → StandsAt rs at r → (d : Run) → (slice_index_or rs at d).0 ≡ r.0
key_is rs at r is d = ap (λ (x : Run). x.0) (sym (is d))

pub end_at-place : (rs : List Run) (at : ℕ) (r : Run) → KeysRise rs → at < length rs → StandsAt rs at r → end_at rs r.0 ≡ Some r.1
end_at-place rs at r rises fits is = lookup_here rs at r.0 r rises fits (key_is rs at r is) ∙ ap (λ (x : Run). Some x.1) (sym (is r))

pub none_begins : (rs : List Run) (from to : ℕ) → ((k : ℕ) (d : Run) → k < length rs → from ≤ (slice_index_or rs k d).0 → (slice_index_or rs k d).0 ≤ to → ⊥) → NoneBegins rs from to
none_begins rs from to out q low high = lookup_none rs q (λ i d lt same. out i d lt (omega (arith, low, same)) (omega (arith, high, same)))

-- a key up to that of the place
up_to_place : (rs : List Run) (at : ℕ) (r : Run) → KeysRise rs → at < length rs → StandsAt rs at r → (k : ℕ) (d : Run) → k ≤ at → (slice_index_or rs k d).0 ≤ r.0
up_to_place rs at r rises fits is k d le =
    let e = key_is rs at r is d in
    elim (cases_eq k at) [
      | inl same ↦ let s = ap (λ (i : ℕ). (slice_index_or rs i d).0) same in omega (arith, s, e)
      | inr ne ↦ let h = rises k at d d (omega (arith, le, ne)) fits in omega (arith, h, e)
    ]

pub is_last : (rs : List Run) (n at : ℕ) (r : Run) → KeysRise rs → IsLastUpTo rs n at → StandsAt rs at r → IsLast rs r.0 r.1 n
is_last rs n at r rises last is = record {
  found = end_at-place rs at r rises last.fits is;
  up_to = let u = last.up_to r in let e = key_is rs at r is r in omega (arith, u, e);
  last = none_begins rs (r.0 + 1) n (λ k d lt low high.
      elim (cases_lt at k) [
        | inl behind ↦ let h = last.above k d behind lt in absurd (omega (arith, h, high))
        | inr le ↦ let h = up_to_place rs at r rises last.fits is k d le in absurd (omega (arith, h, low))
      ]);
}

pub none_up_to : (rs : List Run) (n : ℕ) → ((k : ℕ) (d : Run) → k < length rs → n < (slice_index_or rs k d).0) → NoneBegins rs 0 n
none_up_to rs n above = none_begins rs 0 n (λ k d lt low high. let h = above k d lt in absurd (omega (arith, h, high)))

-- before the first run that begins from n on, none does
pub none_before : (rs : List Run) (n at k : ℕ) (r : Run) → KeysRise rs → IsFirstFrom rs n at → StandsAt rs at r → k < r.0 → NoneBegins rs n k
none_before rs n at k r rises first is lt = none_begins rs n k (λ i d less low high.
    elim (cases_lt i at) [
      | inl before ↦ let h = first.below i d before in absurd (omega (arith, h, low))
      | inr ge ↦ elim (cases_eq i at) [
        | inl same ↦ let s = ap (λ (j : ℕ). (slice_index_or rs j d).0) same in let e = key_is rs at r is d in absurd (omega (arith, s, e, lt, high))
        | inr ne ↦ let h = rises at i d d (omega (arith, ge, ne)) less in let e = key_is rs at r is d in absurd (omega (arith, h, e, lt, high))
      ]
    ])

-- ---- what a change at a place does

pub longer_at : (rs new : List Run) (at start end : ℕ) → KeysRise rs → at < length rs → ((d : Run) → (slice_index_or rs at d).0 ≡ start) → ((d : Run) → new ≡ slice_set rs at ((slice_index_or rs at d).0, end)) → new ≡ insert_entry nat_cmp rs start end
longer_at rs new at start end rises fits key set =
    let d : Run = (0, 0) in
    set d ∙ ap (λ (k : ℕ). slice_set rs at (k, end)) (key d) ∙ sym (insert_old rs at start end rises fits key)

pub put_at : (rs was new : List Run) (at place a b : ℕ) → KeysRise rs → IsLastUpTo rs b at → ((d : Run) → (slice_index_or rs at d).0 < a) → a < b → was ≡ rs → place ≡ at → new ≡ insert was (place + 1) (a, b) → new ≡ insert_entry nat_cmp rs a b
put_at rs was new at place a b rises last before some same there e =
    e
    ∙ ap (λ (xs : List Run). insert xs (place + 1) (a, b)) same
    ∙ ap (λ (k : ℕ). insert rs (k + 1) (a, b)) there
    ∙ sym (insert_new rs (at + 1) a b (goes_behind rs at a rises last.fits before (λ k d more less. let h = last.above k d more less in omega (arith, h, some))))

pub fits_first : (rs : List Run) (a at : ℕ) → KeysRise rs → IsFirstFrom rs a at → FitsAt rs at a
fits_first rs a at rises first = record {
  fits = first.fits;
  below = first.below;
  above = λ k d lt less. let h = rises at k d d lt less in let f = first.from d in omega (arith, h, f);
}

-- the first runs begin between two numbers, and those behind them do not
drops_front : (rs : List Run) (from to n : ℕ) → n ≤ length rs → ((k : ℕ) (d : Run) → k < n → (from ≤ (slice_index_or rs k d).0) × ((slice_index_or rs k d).0 ≤ to)) → ((k : ℕ) (d : Run) → n ≤ k → k < length rs → to < (slice_index_or rs k d).0) → without rs from to ≡ drop n rs
drops_front [] from to zero fits within above = refl
drops_front [] from to (suc n) fits within above = absurd (omega (arith, fits))
drops_front (r ∷ rs) from to zero fits within above = keeps_all (r ∷ rs) from to (λ k d lt low high. let h = above k d (omega arith) lt in absurd (omega (arith, h, high)))
drops_front (r ∷ rs) from to (suc n) fits within above =
    let h = within 0 r (omega arith) in
    without_drops r rs from to h.0 h.1
    ∙ drops_front rs from to n (omega (arith, fits)) (λ k d lt. within (suc k) d (omega (arith, lt))) (λ k d le lt. above (suc k) d (omega (arith, le)) (omega (arith, lt)))

over_first : (r : Run) (rs : List Run) (a b n : ℕ) → a ≤ r.0 → r.0 ≤ b → without rs (a + 1) b ≡ drop n rs → (a, b) ∷ drop n rs ≡ joined (r ∷ rs) a b
over_first r rs a b n low high e =
    elim (cases_eq a r.0) [
      | inl same ↦
          let p = insert_at a b r rs same in
          rw p (sym (without_keeps (r.0, b) rs (a + 1) b (λ x y. omega (arith, x, same)) ∙ ap (λ (t : List Run). (r.0, b) ∷ t) e ∙ ap (λ (k : ℕ). (k, b) ∷ drop n rs) (sym same)))
      | inr ne ↦
          let lt : a < r.0 = omega (arith, low, ne) in
          let p = insert_before a b r rs lt in
          rw p (sym (without_keeps (a, b) (r ∷ rs) (a + 1) b (λ x y. omega (arith, x)) ∙ ap (λ (t : List Run). (a, b) ∷ t) (without_drops r rs (a + 1) b (omega (arith, lt)) high ∙ e)))
    ]

-- one run over those from a place p up to a place q
pub over : (rs : List Run) (a b p q m n : ℕ) → suc p ≡ m → suc q ≡ n → KeysRise rs → IsFirstFrom rs a p → IsLastUpTo rs b q → p ≤ q → remove_range (slice_set rs p (a, b)) m n ≡ joined rs a b
over [] a b p q m n to_m to_n rises first last order = let f = first.fits in absurd (omega (arith, f))
over (r ∷ rs) a b p q zero n to_m to_n rises first last order = absurd (omega (arith, to_m))
over (r ∷ rs) a b p q m zero to_m to_n rises first last order = absurd (omega (arith, to_n))
over (r ∷ rs) a b (suc p) zero m n to_m to_n rises first last order = absurd (omega (arith, order))
over (r ∷ rs) a b zero q (suc m) (suc n) to_m to_n rises first last order =
    let z : 0 ≡ m = omega (arith, to_m) in
    let is : q ≡ n = omega (arith, to_n) in
    let low = first.from r in
    let f = last.fits in
    let high : r.0 ≤ b = elim (cases_eq 0 q) [
      | inl same ↦ let u = last.up_to r in let s = ap (λ (k : ℕ). (slice_index_or (r ∷ rs) k r).0) same in omega (arith, u, s)
      | inr ne ↦ let u = last.up_to r in let h = rises 0 q r r (omega (arith, ne)) last.fits in omega (arith, u, h)
    ] in
    let within : (k : ℕ) (d : Run) → k < n → (a + 1 ≤ (slice_index_or rs k d).0) × ((slice_index_or rs k d).0 ≤ b) = λ k d lt.
    let h = rises 0 (suc k) r d (omega arith) (omega (arith, f, lt, is)) in
    let u = last.up_to d in (
      omega (arith, h, low),
      elim (cases_eq (suc k) q) [
        | inl same ↦ let s = ap (λ (j : ℕ). (slice_index_or (r ∷ rs) j d).0) same in omega (arith, u, s)
        | inr ne ↦ let g = rises (suc k) q d d (omega (arith, lt, is, ne)) last.fits in omega (arith, u, g)
      ],
    ) in
    let e = drops_front rs (a + 1) b n (omega (arith, f, is)) within (λ k d le lt. last.above (suc k) d (omega (arith, le, is)) (omega (arith, lt))) in
    ap (λ (k : ℕ). remove_range ((a, b) ∷ rs) (suc k) (suc n)) (sym z) ∙ over_first r rs a b n low high e
over (r ∷ rs) a b (suc p) (suc q) (suc m) (suc n) to_m to_n rises first last order =
    let lt = first.below 0 r (omega arith) in
    let f = first.fits in
    let l = last.fits in
    let front : IsFirstFrom rs a p = record {
      fits = omega (arith, f);
      from = λ d. first.from d;
      below = λ k d less. first.below (suc k) d (omega (arith, less));
    } in
    let back : IsLastUpTo rs b q = record {
      fits = omega (arith, l);
      up_to = λ d. last.up_to d;
      above = λ k d more less. last.above (suc k) d (omega (arith, more)) (omega (arith, less));
    } in
    let rest = over rs a b p q m n (omega (arith, to_m)) (omega (arith, to_n)) (rises_rest r rs rises) front back (omega (arith, order)) in
    let i = insert_after a b r rs lt in
    rw i (ap (λ (t : List Run). r ∷ t) rest ∙ sym (without_keeps r (insert_entry nat_cmp rs a b) (a + 1) b (λ x y. omega (arith, x, lt))))

-- the last run up to n is the last up to its own end
pub last_by_end : (rs : List Run) (n at : ℕ) (r : Run) → AreRuns 0 rs → KeysRise rs → IsLastUpTo rs n at → StandsAt rs at r → IsLastUpTo rs r.1 at
last_by_end rs n at r runs rises last is = record {
  fits = last.fits;
  up_to = λ d. let e = key_is rs at r is d in let b = end_at-bounds 0 r.0 r.1 rs runs (end_at-place rs at r rises last.fits is) in omega (arith, e, b.1);
  above = λ k d lt less.
      let here = end_at-place rs at r rises last.fits is in
      let there = end_at-place rs k (slice_index_or rs k d) rises less (λ e. get_or_default rs k d e less) in
      let more = rises at k d d lt less in
      let e = key_is rs at r is d in
      elim (apart 0 r.0 r.1 (slice_index_or rs k d).0 (slice_index_or rs k d).1 rs runs here there) [
        | inl before ↦ absurd (omega (arith, before.0, more, e))
        | inr (inl same) ↦ absurd (omega (arith, same.0, more, e))
        | inr (inr after) ↦ after
      ];
}

-- behind the last run, none begins
pub none_past : (rs : List Run) (n k at : ℕ) → KeysRise rs → length rs ≡ at + 1 → ((d : Run) → (slice_index_or rs at d).0 < n) → NoneBegins rs n k
none_past rs n k at rises end before = none_begins rs n k (λ i d less low high. let h = below_last rs n at rises (omega (arith, end)) before i d (omega (arith, less, end)) in absurd (omega (arith, h, low)))

-- a place with a lower key lies before
pub places_less : (rs : List Run) (p q : ℕ) (r s : Run) → KeysRise rs → p < length rs → StandsAt rs p r → StandsAt rs q s → r.0 < s.0 → p < q
places_less rs p q r s rises fits first last lt =
    elim (cases_lt p q) [
      | inl less ↦ less
      | inr ge ↦
          let a = key_is rs p r first r in
          let b = key_is rs q s last r in
          elim (cases_eq q p) [
            | inl same ↦ let e = ap (λ (k : ℕ). (slice_index_or rs k r).0) same in absurd (omega (arith, a, b, e, lt))
            | inr ne ↦ let h = rises q p r r (omega (arith, ge, ne)) fits in absurd (omega (arith, a, b, h, lt))
          ]
    ]

pub places_same : (rs : List Run) (p q : ℕ) (r s : Run) → KeysRise rs → p ≤ q → q < length rs → StandsAt rs p r → StandsAt rs q s → s.0 ≤ r.0 → p ≡ q
places_same rs p q r s rises order fits first last le =
    elim (cases_eq p q) [
      | inl same ↦ same
      | inr ne ↦
          let a = key_is rs p r first r in
          let b = key_is rs q s last r in
          let h = rises p q r r (omega (arith, order, ne)) fits in
          absurd (omega (arith, a, b, h, le))
    ]

pub over_one : (rs : List Run) (a b p q : ℕ) → p ≡ q → KeysRise rs → IsFirstFrom rs a p → IsLastUpTo rs b q → slice_set rs p (a, b) ≡ joined rs a b
over_one rs a b p q same rises first last =
    sym (take-append-drop (p + 1) (slice_set rs p (a, b)))
    ∙ ap (λ (k : ℕ). remove_range (slice_set rs p (a, b)) (p + 1) (k + 1)) same
    ∙ over rs a b p q (p + 1) (q + 1) (omega arith) (omega arith) rises first last (omega (arith, same))

pub over_some : (rs was new : List Run) (a b p q next back : ℕ) → was ≡ slice_set rs p (a, b) → next ≡ p + 1 → back ≡ q → new ≡ remove_range was next (back + 1) → KeysRise rs → IsFirstFrom rs a p → IsLastUpTo rs b q → p ≤ q → new ≡ joined rs a b
over_some rs was new a b p q next back set from to e rises first last order =
    e
    ∙ ap (λ (xs : List Run). remove_range xs next (back + 1)) set
    ∙ ap (λ (k : ℕ). remove_range (slice_set rs p (a, b)) k (back + 1)) from
    ∙ ap (λ (k : ℕ). remove_range (slice_set rs p (a, b)) (p + 1) (k + 1)) to
    ∙ over rs a b p q (p + 1) (q + 1) (omega arith) (omega arith) rises first last order

-- ---- look-ups in the runs with one more

-- a new run changes no other
pub end_at-insert : (q a b : ℕ) (rs : List Run) → (q ≡ a → ⊥) → end_at (insert_entry nat_cmp rs a b) q ≡ end_at rs q
end_at-insert q a b [] ne = end_at-later (a, b) [] q ne
end_at-insert q a b (r ∷ rs) ne =
    elim (cases_order a r.0) [
      | inl same ↦ rw (insert_at a b r rs same, end_at-later (r.0, b) rs q (λ e. ne (omega (arith, e, same))), end_at-later r rs q (λ e. ne (omega (arith, e, same)))) refl
      | inr (inl before) ↦ rw (insert_before a b r rs before) (end_at-later (a, b) (r ∷ rs) q ne)
      | inr (inr behind) ↦ rw (insert_after a b r rs behind) (elim (cases_eq q r.0) [
        | inl same ↦ end_at-here r (insert_entry nat_cmp rs a b) q same ∙ sym (end_at-here r rs q same)
        | inr apart ↦ end_at-later r (insert_entry nat_cmp rs a b) q apart ∙ end_at-insert q a b rs ne ∙ sym (end_at-later r rs q apart)
      ])
    ]

pub none_begins-insert : (a b n : ℕ) (rs : List Run) → NoneBegins rs (a + 1) n → NoneBegins (insert_entry nat_cmp rs a b) (a + 1) n
none_begins-insert a b n rs none q low high = end_at-insert q a b rs (λ e. omega (arith, e, low)) ∙ none q low high

pub before_none : (rs : List Run) (n : ℕ) → NoneBegins rs 0 n → EndBefore rs n
before_none rs n none k v e lt = absurd (let h = none k (omega arith) (omega (arith, lt)) in cc)

-- ---- what is found from a number on

pub run_found : (rs : List Run) (o : Option (Range ℕ)) → AreRuns 0 rs → IfSome o (λ r. end_at rs r.start ≡ Some r.end) → IfSome o (λ r. IsRunOf rs r)
run_found rs None runs found = tt
run_found rs (Some r) runs found = record {
  some = (end_at-bounds 0 r.start r.end rs runs found).1;
  inside = λ n from to. inside 0 r.start r.end n rs runs found from to;
  end = outside 0 r.start r.end rs runs found;
}

pub gap_found : (rs : List Run) (n : ℕ) (o : Option (Range ℕ)) → AreRuns 0 rs → contains rs n ≡ false → IfSome o (λ r. (k : ℕ) → k < r.start → NoneBegins rs n k) → IfSome o (λ r. (k : ℕ) → n ≤ k → k < r.start → contains rs k ≡ false)
gap_found rs n None runs out first = tt
gap_found rs n (Some r) runs out first = λ k from to. gap 0 n k rs runs out from (first k to)

pub gap_none : (rs : List Run) (n : ℕ) (o : Option (Range ℕ)) → AreRuns 0 rs → contains rs n ≡ false → IfNone o ((k : ℕ) → NoneBegins rs n k) → IfNone o ((k : ℕ) → n ≤ k → contains rs k ≡ false)
gap_none rs n None runs out none = λ k from. gap 0 n k rs runs out from (none k)
gap_none rs n (Some r) runs out none = tt

pub for_none : {A X : Type 0} (o : Option A) → X → IfNone o X
for_none None x = x
for_none (Some r) x = tt
