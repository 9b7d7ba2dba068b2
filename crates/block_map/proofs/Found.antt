-- What a search by key finds.
use Rattle.std.proofs.Common.{◌≡◌, ◌≢◌, ℕ, ◌+◌, ◌<◌, ap, inl, inr, List, length, arith}
use Rattle.std.specs.Prelude.{slice_index_or}
use Rattle.std.proofs.lemmas.Bool.{cases_eq}
use Rattle.block_map.specs.Sorted.{KeyAndValue, KeysRise, IsLastUpTo, IsFirstFrom}

-- keys up to the last one up to n are below n, where that is
pub below_last : (xs : List KeyAndValue) (n at : ℕ) → KeysRise xs → at < length xs → ((d : KeyAndValue) → (slice_index_or xs at d).0 < n) → (k : ℕ) (d : KeyAndValue) → k < at + 1 → (slice_index_or xs k d).0 < n
below_last xs n at rises fits here k d lt =
    elim (cases_eq k at) [
      | inl same ↦ let h = here d in let s = ap (λ (i : ℕ). (slice_index_or xs i d).0) same in omega (arith, h, s)
      | inr ne ↦ let h = here d in let r = rises k at d d (omega (arith, lt, ne)) fits in omega (arith, h, r)
    ]

pub first_start : (xs : List KeyAndValue) (n at : ℕ) → at ≡ 0 → 0 < length xs → ((k : ℕ) (d : KeyAndValue) → k < length xs → n < (slice_index_or xs k d).0) → IsFirstFrom xs n at
first_start xs n at is some above = record {
  fits = omega (arith, is, some);
  from = λ d. let h = above at d (omega (arith, is, some)) in omega (arith, h);
  below = λ k d lt. absurd (omega (arith, is, lt));
}

pub first_here : (xs : List KeyAndValue) (n at : ℕ) → KeysRise xs → at < length xs → ((d : KeyAndValue) → n ≡ (slice_index_or xs at d).0) → IsFirstFrom xs n at
first_here xs n at rises fits is = record {
  fits = fits;
  from = λ d. let h = is d in omega (arith, h);
  below = λ k d lt. let h = is d in let r = rises k at d d lt fits in omega (arith, h, r);
}

pub first_next : (xs : List KeyAndValue) (n at next : ℕ) → next ≡ at + 1 → next < length xs → KeysRise xs → IsLastUpTo xs n at → ((d : KeyAndValue) → (slice_index_or xs at d).0 < n) → IsFirstFrom xs n next
first_next xs n at next is fits rises last here = record {
  fits = fits;
  from = λ d. let h = last.above next d (omega (arith, is)) fits in omega (arith, h);
  below = λ k d lt. below_last xs n at rises last.fits here k d (omega (arith, is, lt));
}

-- below, where the entry there has not the key itself
pub below_here : (xs : List KeyAndValue) (n at key : ℕ) → IsLastUpTo xs n at → ((d : KeyAndValue) → key ≡ (slice_index_or xs at d).0) → key ≢ n → (d : KeyAndValue) → (slice_index_or xs at d).0 < n
below_here xs n at key last is ne d = let h = last.up_to d in let e = is d in omega (arith, h, e, ne)
