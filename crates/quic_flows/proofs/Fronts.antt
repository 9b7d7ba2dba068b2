-- The pieces that a write takes, and how long the acknowledged beginning is.
use Rattle.std.proofs.Common.{◌≡◌, ◌⊎◌, inl, inr, ℕ, zero, suc, Bool, true, false, List, [], ◌∷◌, refl, sym, ap, ◌∙◌, arith, ◌+◌, ◌-◌, ◌<◌, ◌≤◌, length, take, ◌++◌, length-take}
use Rattle.std.specs.Prelude.{◌==◌, ◌&&◌, min, nat_lt, if◌then◌else◌}
use Rattle.std.proofs.lemmas.Bool.Decides.{nat_tests}
use Rattle.std.proofs.lemmas.Bool.{cases_lt}
use Rattle.std.proofs.lemmas.List.{take_all}
use Rattle.std.specs.List.{concat}
use Rattle.quic_sending.specs.Buffer.{cut_of, total_length}
use Rattle.quic_sending.specs.Source.{AreFrontOf}
use Rattle.quic_sending.proofs.Fronts.{pieces_of, pieces-are, AreFrontOf-pieces_of}
use Rattle.quic_sending.proofs.Cuts.{length-concat}
use Rattle.quic_flows.specs.Flow.{front_of, passing}

front-is : (n : ℕ) (ls : List (List ℕ)) → front_of n ls ≡ pieces_of n ls
front-is n [] = refl
front-is n ([] ∷ ls) = front-is n ls
front-is n ((b ∷ bs) ∷ ls) = ap (λ xs. cut_of (take n (b ∷ bs)) ++ xs) (front-is (n - length (b ∷ bs)) ls)

-- the pieces that a write takes are the front of its lists
pub front-taken : (n : ℕ) (ls ps : List (List ℕ)) → AreFrontOf n ls ps → ps ≡ front_of n ls
front-taken n ls ps f = pieces-are n ls ps f ∙ sym (front-is n ls)

-- whether one more offset passes
one_more : (f : ℕ → Bool) (p n k : ℕ) (b : Bool) → f n ≡ b → k ≡ min n p → ((m : ℕ) → m < p → f m ≡ true) → f p ≡ false → (if (k == n) && b then suc n else k) ≡ min (suc n) p
one_more f p n k true e l below at = more (k == n) refl
  where
    not_there : n ≡ p → ⊥
    not_there q = let x : f n ≡ false = ap f q ∙ at in cc

    more : (c : Bool) → (k == n) ≡ c → (if c && true then suc n else k) ≡ min (suc n) p
    more true q = let r : k ≡ n = grind (arith, nat_tests) in by_end (nat_lt n p) refl r
      where
        by_end : (d : Bool) → nat_lt n p ≡ d → k ≡ n → suc n ≡ min (suc n) p
        by_end true s r = let t : n < p = grind (arith, nat_tests) in omega arith
        by_end false s r = let t : p ≤ n = grind (arith, nat_tests) in absurd (not_there (omega arith))
    more false q = let r : (k == n) ≡ false = q in grind (arith, nat_tests)
one_more f p n k false e l below at = less (nat_lt n p) refl (k == n)
  where
    less : (d : Bool) → nat_lt n p ≡ d → (c : Bool) → (if c && false then suc n else k) ≡ min (suc n) p
    less true s c = absurd (let t : n < p = grind (arith, nat_tests) in let x = below n t in cc)
    less false s true = let t : p ≤ n = grind (arith, nat_tests) in omega arith
    less false s false = let t : p ≤ n = grind (arith, nat_tests) in omega arith

-- all below p pass, and p does not
pub passing-is : (f : ℕ → Bool) (p n : ℕ) → ((m : ℕ) → m < p → f m ≡ true) → f p ≡ false → passing f n ≡ min n p
passing-is f p zero below at = omega arith
passing-is f p (suc n) below at = one_more f p n (passing f n) (f n) refl (passing-is f p n below at) below at

-- no more than there is
front_short : (n : ℕ) (p : List ℕ) (rest : ℕ) → take (min n (length p + rest)) p ≡ take n p
front_short n p rest = by_size (cases_lt n (length p + rest))
  where
    by_size : (n < length p + rest) ⊎ (length p + rest ≤ n) → take (min n (length p + rest)) p ≡ take n p
    by_size (inl l) = ap (λ k. take k p) (omega arith)
    by_size (inr l) = take_all (min n (length p + rest)) p (omega arith) ∙ sym (take_all n p (omega arith))

pub front-least : (n : ℕ) (ls : List (List ℕ)) → front_of (min n (total_length ls)) ls ≡ front_of n ls
front-least n [] = refl
front-least n ([] ∷ ls) = ap (λ k. front_of k ls) (omega arith) ∙ front-least n ls
front-least n ((b ∷ bs) ∷ ls) =
    let rest : min n (length (b ∷ bs) + total_length ls) - length (b ∷ bs) ≡ min (n - length (b ∷ bs)) (total_length ls) = omega arith in
    ap (λ xs. cut_of xs ++ front_of (min n (length (b ∷ bs) + total_length ls) - length (b ∷ bs)) ls) (front_short n (b ∷ bs) (total_length ls))
    ∙ ap (λ xs. cut_of (take n (b ∷ bs)) ++ xs) (ap (λ k. front_of k ls) rest ∙ front-least (n - length (b ∷ bs)) ls)

-- and so many bytes
pub front-length : (n : ℕ) (ls : List (List ℕ)) → total_length (front_of n ls) ≡ min n (total_length ls)
front-length n ls =
    let parts = AreFrontOf-pieces_of n ls in
    let all = length-take n (concat ls) in
    let whole = length-concat ls in
    let pieces = length-concat (pieces_of n ls) in
    let bytes = ap length parts.bytes in
    ap total_length (front-is n ls) ∙ omega arith
