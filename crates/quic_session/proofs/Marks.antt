-- Streams that are marked.
use Rattle.std.proofs.Common.{◌≡◌, ◌≢◌, ℕ, ◌+◌, ◌<◌, ◌≤◌, true, false, refl, sym, ap, List, [], ◌∷◌, length, Option, Some, None, inl, inr, arith, zero, suc}
use Rattle.std.specs.Prelude.{slice_index_or, slice_set, unwrap_or}
use Rattle.std.specs.Map.{lookup, set_value, remove_entry}
use Rattle.std.specs.BTreeMap.{is_at, insert_entry}
use Rattle.std.specs.Ordering.{nat_cmp}
use Rattle.std.proofs.lemmas.Bool.{cases_lt, cases_eq}
use Rattle.std.proofs.lemmas.Bool.Decides.{nat_tests}
use Rattle.block_map.specs.Sorted.{KeyAndValue, KeysRise}
use Rattle.block_map.proofs.Keyed.{rises_rest, lookup_none}
use Rattle.quic_session.specs.Marks.{mark_of, mark_count}
use Rattle.quic_session.specs.Users.{UsersView, at, with_touched}

pub mark-most : (n : ℕ) → mark_of n ≤ 1
mark-most zero = omega arith
mark-most (suc n) = omega arith

pub count-most : (xs : List KeyAndValue) → mark_count xs ≤ length xs
count-most [] = omega arith
count-most (x ∷ xs) = omega (arith, mark-most x.1, count-most xs)

-- one that is not marked leaves room
pub count-room : (xs : List KeyAndValue) (at : ℕ) → at < length xs → ((d : KeyAndValue) → (slice_index_or xs at d).1 ≡ 0) → mark_count xs + 1 ≤ length xs
count-room [] at fits is = absurd (omega (arith, fits))
count-room (x ∷ xs) zero fits is = omega (arith, ap mark_of (is x), count-most xs)
count-room (x ∷ xs) (suc at) fits is = omega (arith, mark-most x.1, count-room xs at (omega (arith, fits)) is)

-- another mark
pub count-set : (xs : List KeyAndValue) (at k v : ℕ) (d : KeyAndValue) → at < length xs → mark_count (slice_set xs at (k, v)) + mark_of (slice_index_or xs at d).1 ≡ mark_count xs + mark_of v
count-set [] at k v d fits = absurd (omega (arith, fits))
count-set (x ∷ xs) zero k v d fits = omega arith
count-set (x ∷ xs) (suc at) k v d fits = let rest = count-set xs at k v d (omega (arith, fits)) in omega (arith, rest)

pub length-set : (xs : List KeyAndValue) (at : ℕ) (x : KeyAndValue) → length (slice_set xs at x) ≡ length xs
length-set [] at x = refl
length-set (y ∷ ys) zero x = refl
length-set (y ∷ ys) (suc at) x = ap suc (length-set ys at x)

is_at-same : (k q : ℕ) → k ≡ q → is_at (nat_cmp k) q ≡ true
is_at-same k q e = grind (arith, nat_tests)

is_at-apart : (k q : ℕ) → (k ≡ q → ⊥) → is_at (nat_cmp k) q ≡ false
is_at-apart k q ne = grind (arith, nat_tests)

-- the place that has a key has the first entry with that key
pub set-here : (xs : List KeyAndValue) (at k v : ℕ) → KeysRise xs → at < length xs → ((e : KeyAndValue) → (slice_index_or xs at e).0 ≡ k) → slice_set xs at (k, v) ≡ set_value (is_at (nat_cmp k)) xs v
set-here [] at k v r fits is = absurd (omega (arith, fits))
set-here (x ∷ xs) zero k v r fits is = rw (is_at-same k x.0 (sym (is x))) (ap (λ (a : ℕ). (a, v) ∷ xs) (sym (is x)))
set-here (x ∷ xs) (suc at) k v r fits is =
    let lt = r 0 (suc at) x x (omega arith) (omega (arith, fits)) in
    let e = is x in
    let ne : k ≢ x.0 = omega (arith, lt, e) in
    rw (is_at-apart k x.0 ne) (ap (λ (t : List KeyAndValue). x ∷ t) (set-here xs at k v (rises_rest x xs r) (omega (arith, fits)) is))

insert_before : (a b : ℕ) (r : KeyAndValue) (rs : List KeyAndValue) → a < r.0 → insert_entry nat_cmp (r ∷ rs) a b ≡ (a, b) ∷ r ∷ rs
insert_before a b r rs lt = grind (arith, nat_tests)

insert_after : (a b : ℕ) (r : KeyAndValue) (rs : List KeyAndValue) → r.0 < a → insert_entry nat_cmp (r ∷ rs) a b ≡ r ∷ insert_entry nat_cmp rs a b
insert_after a b r rs lt = grind (arith, nat_tests)

-- a new one without a mark
pub record AddsOne (xs ys : List KeyAndValue) : Type 0 where
  pub count : mark_count ys ≡ mark_count xs
  pub length : length ys ≡ length xs + 1

adds-before : (x : KeyAndValue) (xs : List KeyAndValue) (k : ℕ) → AddsOne (x ∷ xs) ((k, 0) ∷ x ∷ xs)
adds-before x xs k = record { count = omega arith; length = omega arith }

adds-after : (x : KeyAndValue) (xs ys : List KeyAndValue) → AddsOne xs ys → AddsOne (x ∷ xs) (x ∷ ys)
adds-after x xs ys a = record { count = ap (λ n. mark_of x.1 + n) a.count; length = let l = a.length in omega (arith, l) }

pub adds-one : (xs : List KeyAndValue) (k : ℕ) → lookup (is_at (nat_cmp k)) xs ≡ None → AddsOne xs (insert_entry nat_cmp xs k 0)
adds-one [] k none = record { count = omega arith; length = omega arith }
adds-one (x ∷ xs) k none =
    elim (cases_lt k x.0) [
      | inl lt ↦ rw (insert_before k 0 x xs lt) (adds-before x xs k)
      | inr le ↦ elim (cases_eq k x.0) [
        | inl same ↦ let h = rw (is_at-same k x.0 same) at none in absurd cc
        | inr ne ↦ let h = rw (is_at-apart k x.0 ne) at none in
            let more : x.0 < k = omega (arith, le, ne) in
            rw (insert_after k 0 x xs more) (adds-after x xs (insert_entry nat_cmp xs k 0) (adds-one xs k h))
      ]
    ]

-- one without a mark is taken out
pub record TakesOne (xs ys : List KeyAndValue) : Type 0 where
  pub count : mark_count ys ≡ mark_count xs
  pub length : length ys ≤ length xs

pub takes-one : (xs : List KeyAndValue) (k : ℕ) → lookup (is_at (nat_cmp k)) xs ≡ Some 0 → TakesOne xs (remove_entry (is_at (nat_cmp k)) xs)
takes-one [] k some = absurd cc
takes-one (x ∷ xs) k some =
    elim (cases_eq k x.0) [
      | inl same ↦
          let h = rw (is_at-same k x.0 same) at some in
          let unmarked : x.1 ≡ 0 = ap (λ (o : Option ℕ). unwrap_or o 0) h in
          let none = ap mark_of unmarked in
          rw (is_at-same k x.0 same) (record { count = omega (arith, none); length = omega arith })
      | inr ne ↦
          let h = rw (is_at-apart k x.0 ne) at some in
          let rest = takes-one xs k h in
          let count = rest.count in
          let shorter = rest.length in
          rw (is_at-apart k x.0 ne) (record { count = omega (arith, count); length = omega (arith, shorter) })
    ]

-- a stream that stands in touched stays as it is
pub marked-stays : (id n : ℕ) (u : UsersView) → at u.streams id ≡ Some n → (n ≡ 0 → ⊥) → u ≡ with_touched id u
marked-stays id zero u found marked = absurd (marked refl)
marked-stays id (suc n) u found marked = rw found refl

-- what is not there is not marked anew
pub set-unfound : (xs : List KeyAndValue) (k v : ℕ) → lookup (is_at (nat_cmp k)) xs ≡ None → set_value (is_at (nat_cmp k)) xs v ≡ xs
set-unfound [] k v none = refl
set-unfound (x ∷ xs) k v none =
    elim (cases_eq k x.0) [
      | inl same ↦ let h = rw (is_at-same k x.0 same) at none in absurd cc
      | inr ne ↦ let h = rw (is_at-apart k x.0 ne) at none in rw (is_at-apart k x.0 ne) (ap (λ (t : List KeyAndValue). x ∷ t) (set-unfound xs k v h))
    ]

-- what was taken out is not there
pub gone : (xs : List KeyAndValue) (k : ℕ) → KeysRise xs → lookup (is_at (nat_cmp k)) (remove_entry (is_at (nat_cmp k)) xs) ≡ None
gone [] k r = refl
gone (x ∷ xs) k r =
    elim (cases_eq k x.0) [
      | inl same ↦ rw (is_at-same k x.0 same) (lookup_none xs k (λ i d fits. let lt = r 0 (suc i) x d (omega arith) (omega (arith, fits)) in omega (arith, lt, same)))
      | inr ne ↦ let h = gone xs k (rises_rest x xs r) in rw (is_at-apart k x.0 ne, is_at-apart k x.0 ne) h
    ]
