-- Look-ups and changes by key, where the keys rise.
use Rattle.std.proofs.Common.{◌≡◌, ◌≢◌, ℕ, ◌<◌, true, false, refl, sym, ap, ◌∙◌, List, [], ◌∷◌, length, drop, Some, None, inl, inr, arith, zero, suc}
use Rattle.std.specs.Prelude.{slice_index_or, slice_set, insert}
use Rattle.std.specs.List.{remove_range}
use Rattle.std.specs.Map.{lookup, remove_entry}
use Rattle.std.specs.BTreeMap.{is_at, insert_entry}
use Rattle.std.specs.Ordering.{nat_cmp}
use Rattle.std.proofs.lemmas.Bool.{cases_lt, cases_eq}
use Rattle.std.proofs.lemmas.Bool.Decides.{nat_tests}
use Rattle.block_map.specs.Sorted.{KeyAndValue, KeysRise, GoesAt}

is_at-same : (k q : ℕ) → k ≡ q → is_at (nat_cmp k) q ≡ true
is_at-same k q e = grind (arith, nat_tests)

is_at-apart : (k q : ℕ) → (k ≡ q → ⊥) → is_at (nat_cmp k) q ≡ false
is_at-apart k q ne = grind (arith, nat_tests)

insert_before : (a b : ℕ) (r : KeyAndValue) (rs : List KeyAndValue) → a < r.0 → insert_entry nat_cmp (r ∷ rs) a b ≡ (a, b) ∷ r ∷ rs
insert_before a b r rs lt = grind (arith, nat_tests)

insert_at : (a b : ℕ) (r : KeyAndValue) (rs : List KeyAndValue) → r.0 ≡ a → insert_entry nat_cmp (r ∷ rs) a b ≡ (r.0, b) ∷ rs
insert_at a b r rs e = grind (arith, nat_tests)

insert_after : (a b : ℕ) (r : KeyAndValue) (rs : List KeyAndValue) → r.0 < a → insert_entry nat_cmp (r ∷ rs) a b ≡ r ∷ insert_entry nat_cmp rs a b
insert_after a b r rs lt = grind (arith, nat_tests)

pub rises_rest : (x : KeyAndValue) (xs : List KeyAndValue) → KeysRise (x ∷ xs) → KeysRise xs
rises_rest x xs r i j d e lt less = r (suc i) (suc j) d e (omega (arith, lt)) (omega (arith, less))

-- an entry that stands behind the first has a higher key
first_below : (x : KeyAndValue) (xs : List KeyAndValue) (at k : ℕ) → KeysRise (x ∷ xs) → at < length xs → ((d : KeyAndValue) → (slice_index_or xs at d).0 ≡ k) → x.0 < k
first_below x xs at k r fits is = let h = r 0 (suc at) x x (omega arith) (omega (arith, fits)) in let e = is x in omega (arith, h, e)

pub lookup_here : (xs : List KeyAndValue) (at k : ℕ) (d : KeyAndValue) → KeysRise xs → at < length xs → ((e : KeyAndValue) → (slice_index_or xs at e).0 ≡ k) → lookup (is_at (nat_cmp k)) xs ≡ Some (slice_index_or xs at d).1
lookup_here [] at k d r fits is = absurd (omega (arith, fits))
lookup_here (x ∷ xs) zero k d r fits is = rw (is_at-same k x.0 (sym (is x))) refl
lookup_here (x ∷ xs) (suc at) k d r fits is =
    let lt : x.0 < k = first_below x xs at k r (omega (arith, fits)) is in
    let ne : k ≢ x.0 = omega (arith, lt) in
    rw (is_at-apart k x.0 ne) (lookup_here xs at k d (rises_rest x xs r) (omega (arith, fits)) is)

pub lookup_none : (xs : List KeyAndValue) (k : ℕ) → ((i : ℕ) (d : KeyAndValue) → i < length xs → k ≢ (slice_index_or xs i d).0) → lookup (is_at (nat_cmp k)) xs ≡ None
lookup_none [] k none = refl
lookup_none (x ∷ xs) k none =
    let ne : k ≢ x.0 = none 0 x (omega arith) in
    rw (is_at-apart k x.0 ne) (lookup_none xs k (λ i d lt. none (suc i) d (omega (arith, lt))))

pub insert_new : (xs : List KeyAndValue) (at k v : ℕ) → GoesAt xs at k → insert_entry nat_cmp xs k v ≡ insert xs at (k, v)
insert_new [] zero k v goes = refl
insert_new [] (suc at) k v goes = let f = goes.fits in absurd (omega (arith, f))
insert_new (x ∷ xs) zero k v goes = let g = goes.above 0 x (omega arith) (omega arith) in insert_before k v x xs g
insert_new (x ∷ xs) (suc at) k v goes =
    let f = goes.fits in
    let g = goes.below 0 x (omega arith) in
    let rest : GoesAt xs at k = record {
      fits = omega (arith, f);
      below = λ i d lt. goes.below (suc i) d (omega (arith, lt));
      above = λ i d le less. goes.above (suc i) d (omega (arith, le)) (omega (arith, less));
    } in
    insert_after k v x xs g ∙ ap (λ (t : List KeyAndValue). x ∷ t) (insert_new xs at k v rest)

pub insert_old : (xs : List KeyAndValue) (at k v : ℕ) → KeysRise xs → at < length xs → ((e : KeyAndValue) → (slice_index_or xs at e).0 ≡ k) → insert_entry nat_cmp xs k v ≡ slice_set xs at (k, v)
insert_old [] at k v r fits is = absurd (omega (arith, fits))
insert_old (x ∷ xs) zero k v r fits is = insert_at k v x xs (is x) ∙ ap (λ (a : ℕ). (a, v) ∷ xs) (is x)
insert_old (x ∷ xs) (suc at) k v r fits is =
    let lt : x.0 < k = first_below x xs at k r (omega (arith, fits)) is in
    insert_after k v x xs lt ∙ ap (λ (t : List KeyAndValue). x ∷ t) (insert_old xs at k v (rises_rest x xs r) (omega (arith, fits)) is)

pub without_here : (xs : List KeyAndValue) (at next k : ℕ) → suc at ≡ next → KeysRise xs → at < length xs → ((e : KeyAndValue) → (slice_index_or xs at e).0 ≡ k) → remove_entry (is_at (nat_cmp k)) xs ≡ remove_range xs at next
without_here [] at next k is_next r fits is = absurd (omega (arith, fits))
without_here (x ∷ xs) at zero k is_next r fits is = absurd (omega (arith, is_next))
without_here (x ∷ xs) zero (suc next) k is_next r fits is =
    let z : 0 ≡ next = omega (arith, is_next) in
    rw (is_at-same k x.0 (sym (is x))) (ap (λ (n : ℕ). drop n xs) z)
without_here (x ∷ xs) (suc at) (suc next) k is_next r fits is =
    let lt : x.0 < k = first_below x xs at k r (omega (arith, fits)) is in
    let ne : k ≢ x.0 = omega (arith, lt) in
    rw (is_at-apart k x.0 ne) (ap (λ (t : List KeyAndValue). x ∷ t) (without_here xs at next k (omega (arith, is_next)) (rises_rest x xs r) (omega (arith, fits)) is))

-- where the last entry with a key up to n has another key, none has that key
pub none_here : (xs : List KeyAndValue) (n at : ℕ) → KeysRise xs → at < length xs → ((d : KeyAndValue) → (slice_index_or xs at d).0 < n) → ((k : ℕ) (d : KeyAndValue) → at < k → k < length xs → n < (slice_index_or xs k d).0) → (i : ℕ) (d : KeyAndValue) → i < length xs → n ≢ (slice_index_or xs i d).0
none_here xs n at r fits here above i d lt =
    elim (cases_lt at i) [
      | inl more ↦ let a = above i d more lt in omega (arith, a)
      | inr le ↦ elim (cases_eq i at) [
        | inl same ↦ let h = here d in let s = ap (λ (k : ℕ). (slice_index_or xs k d).0) same in omega (arith, h, s)
        | inr ne ↦ let h = here d in let q = r i at d d (omega (arith, le, ne)) fits in omega (arith, h, q)
      ]
    ]

-- what is not found is not taken out
pub without_unfound : (xs : List KeyAndValue) (k : ℕ) → lookup (is_at (nat_cmp k)) xs ≡ None → remove_entry (is_at (nat_cmp k)) xs ≡ xs
without_unfound [] k none = refl
without_unfound (x ∷ xs) k none =
    elim (cases_eq k x.0) [
      | inl same ↦ let h = rw (is_at-same k x.0 same) at none in absurd cc
      | inr ne ↦ let h = rw (is_at-apart k x.0 ne) at none in rw (is_at-apart k x.0 ne) (ap (λ (t : List KeyAndValue). x ∷ t) (without_unfound xs k h))
    ]
