-- The keys between two numbers lie one behind another.
use Rattle.std.proofs.Common.{◌≡◌, ℕ, ◌≤◌, ◌<◌, refl, ap, ◌∙◌, inl, inr, List, [], ◌∷◌, length, drop, arith, zero, suc}
use Rattle.std.specs.Prelude.{slice_index_or}
use Rattle.std.specs.List.{remove_range}
use Rattle.std.proofs.lemmas.Bool.{cases_lt}
use Rattle.std.proofs.lemmas.Bool.Decides.{nat_tests}
use Rattle.block_map.specs.Sorted.{KeyAndValue, KeysRise, IsLastUpTo, IsFirstFrom, without_keys}
use Rattle.block_map.proofs.Keyed.{rises_rest}

keeps : (x : KeyAndValue) (xs : List KeyAndValue) (from to : ℕ) → (from ≤ x.0 → x.0 ≤ to → ⊥) → without_keys (x ∷ xs) from to ≡ x ∷ without_keys xs from to
keeps x xs from to out = grind (arith, nat_tests)

drops : (x : KeyAndValue) (xs : List KeyAndValue) (from to : ℕ) → from ≤ x.0 → x.0 ≤ to → without_keys (x ∷ xs) from to ≡ without_keys xs from to
drops x xs from to low high = grind (arith, nat_tests)

pub keeps_all : (xs : List KeyAndValue) (from to : ℕ) → ((k : ℕ) (d : KeyAndValue) → k < length xs → from ≤ (slice_index_or xs k d).0 → (slice_index_or xs k d).0 ≤ to → ⊥) → without_keys xs from to ≡ xs
keeps_all [] from to out = refl
keeps_all (x ∷ xs) from to out =
    keeps x xs from to (out 0 x (omega arith)) ∙ ap (λ (t : List KeyAndValue). x ∷ t) (keeps_all xs from to (λ k d lt. out (suc k) d (omega (arith, lt))))

drops_run : (xs : List KeyAndValue) (from to q n : ℕ) → suc q ≡ n → q < length xs → KeysRise xs → ((d : KeyAndValue) → from ≤ (slice_index_or xs 0 d).0) → ((d : KeyAndValue) → (slice_index_or xs q d).0 ≤ to) → ((k : ℕ) (d : KeyAndValue) → q < k → k < length xs → to < (slice_index_or xs k d).0) → without_keys xs from to ≡ drop n xs
drops_run [] from to q n is fits rises low high above = absurd (omega (arith, fits))
drops_run (x ∷ xs) from to q zero is fits rises low high above = absurd (omega (arith, is))
drops_run (x ∷ xs) from to zero (suc n) is fits rises low high above =
    let z : 0 ≡ n = omega (arith, is) in
    drops x xs from to (low x) (high x)
    ∙ keeps_all xs from to (λ k d lt f t. let h = above (suc k) d (omega arith) (omega (arith, lt)) in absurd (omega (arith, h, t)))
    ∙ ap (λ (k : ℕ). drop k xs) z
drops_run (x ∷ xs) from to (suc q) (suc n) is fits rises low high above =
    let a = low x in
    let b = high x in
    let r = rises 0 (suc q) x x (omega arith) (omega (arith, fits)) in
    drops x xs from to a (omega (arith, b, r))
    ∙ drops_run xs from to q n (omega (arith, is)) (omega (arith, fits)) (rises_rest x xs rises)
    (λ d. let s = rises 0 1 x d (omega arith) (omega (arith, fits)) in omega (arith, a, s))
    (λ d. high d)
    (λ k d lt less. above (suc k) d (omega (arith, lt)) (omega (arith, less)))

pub without_run : (xs : List KeyAndValue) (from to p q n : ℕ) → suc q ≡ n → p ≤ q → IsFirstFrom xs from p → IsLastUpTo xs to q → KeysRise xs → without_keys xs from to ≡ remove_range xs p n
without_run [] from to p q n is order first last rises = let f = first.fits in absurd (omega (arith, f))
without_run (x ∷ xs) from to zero q n is order first last rises =
    drops_run (x ∷ xs) from to q n is last.fits rises first.from last.up_to last.above
without_run (x ∷ xs) from to (suc p) zero n is order first last rises = absurd (omega (arith, order))
without_run (x ∷ xs) from to (suc p) (suc q) zero is order first last rises = absurd (omega (arith, is))
without_run (x ∷ xs) from to (suc p) (suc q) (suc n) is order first last rises =
    let below = first.below 0 x (omega arith) in
    let f = first.fits in
    let l = last.fits in
    let front : IsFirstFrom xs from p = record {
      fits = omega (arith, f);
      from = λ d. first.from d;
      below = λ k d lt. first.below (suc k) d (omega (arith, lt));
    } in
    let back : IsLastUpTo xs to q = record {
      fits = omega (arith, l);
      up_to = λ d. last.up_to d;
      above = λ k d lt less. last.above (suc k) d (omega (arith, lt)) (omega (arith, less));
    } in
    keeps x xs from to (λ low high. absurd (omega (arith, low, below)))
    ∙ ap (λ (t : List KeyAndValue). x ∷ t) (without_run xs from to p q n (omega (arith, is)) (omega (arith, order)) front back (rises_rest x xs rises))

-- where the first from one number on lies behind the last up to another, none lies between
pub none_between : (xs : List KeyAndValue) (from to p q : ℕ) → KeysRise xs → IsFirstFrom xs from p → IsLastUpTo xs to q → q < p → without_keys xs from to ≡ xs
none_between xs from to p q rises first last less =
    keeps_all xs from to (λ k d lt low high.
    elim (cases_lt k p) [
      | inl before ↦ let h = first.below k d before in absurd (omega (arith, h, low))
      | inr behind ↦ let h = last.above k d (omega (arith, behind, less)) lt in absurd (omega (arith, h, high))
    ])
