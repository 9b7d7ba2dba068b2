-- What is left in the chunks of a caller once their first bytes were taken.
use Rattle.std.proofs.Common.{◌≡◌, ℕ, zero, suc, ◌+◌, ◌-◌, ◌<◌, ◌≤◌, List, [], ◌∷◌, ◌++◌, length, take, drop, replicate, refl, sym, ap, ◌∙◌, arith, min, ⊎_elim, length-drop}
use Rattle.std.proofs.lemmas.Bool.{cases_lt}
use Rattle.std.proofs.lemmas.Bool.Decides.{nat_tests}
use Rattle.std.proofs.lemmas.List.{drop_all, take-append-drop}
use Rattle.quic_sending.specs.Buffer.{total_length}
use Rattle.quic_sending.specs.Source.{rest_of, without_first}

rest_of-whole : (n b : ℕ) (bs : List ℕ) (ps : List (List ℕ)) → length (b ∷ bs) ≤ n → rest_of n ((b ∷ bs) ∷ ps) ≡ rest_of (n - length (b ∷ bs)) ps
rest_of-whole n b bs ps h = grind (arith, nat_tests)

rest_of-part : (n b : ℕ) (bs : List ℕ) (ps : List (List ℕ)) → n < length (b ∷ bs) → rest_of n ((b ∷ bs) ∷ ps) ≡ drop n (b ∷ bs) ∷ ps
rest_of-part n b bs ps h = grind (arith, nat_tests)

drop-nil : (n : ℕ) (p : List ℕ) → p ≡ [] → drop n p ≡ []
drop-nil n p e = let size = ap length e in drop_all n p (omega arith)

-- no list is added
rest_of-few : (n : ℕ) (ps : List (List ℕ)) → length (rest_of n ps) ≤ length ps
rest_of-few n [] = omega arith
rest_of-few n ([] ∷ ps) = omega (arith, rest_of-few n ps)
rest_of-few n ((b ∷ bs) ∷ ps) =
    ⊎_elim
    (λ c. rw (rest_of-part n b bs ps c) (omega arith))
    (λ c. rw (rest_of-whole n b bs ps c) (omega (arith, rest_of-few (n - length (b ∷ bs)) ps)))
    (cases_lt n (length (b ∷ bs)))

without_first-none : (n : ℕ) (ps : List (List ℕ)) → n ≡ 0 → without_first n ps ≡ ps
without_first-none n [] e = refl
without_first-none n (p ∷ ps) e =
    let more : n - length p ≡ 0 = omega arith in
    rw (without_first-none (n - length p) ps more, e) refl

without_first-all : (n : ℕ) (ps : List (List ℕ)) → total_length ps ≤ n → without_first n ps ≡ replicate (length ps) []
without_first-all n [] h = refl
without_first-all n (p ∷ ps) h = rw (drop_all n p (omega arith), without_first-all (n - length p) ps (omega arith)) refl

-- no more is taken than there is
pub without_first-min : (n : ℕ) (ps : List (List ℕ)) → without_first (min n (total_length ps)) ps ≡ without_first n ps
without_first-min n ps =
    ⊎_elim
    (λ c. let same : min n (total_length ps) ≡ n = omega arith in rw same refl)
    (λ c. without_first-all (min n (total_length ps)) ps (omega arith) ∙ sym (without_first-all n ps c))
    (cases_lt n (total_length ps))

-- empty lists in front of the rest
padded : (k n : ℕ) (ps : List (List ℕ)) → k + length (rest_of n ps) ≡ length ps → replicate k [] ++ rest_of n ps ≡ without_first n ps
padded zero n [] e = refl
padded (suc k) n [] e = absurd (omega arith)
padded zero n ([] ∷ ps) e = absurd (omega (arith, rest_of-few n ps))
padded (suc k) n ([] ∷ ps) e =
    let same : n - 0 ≡ n = omega arith in
    rw (drop-nil n [] refl) (ap (λ (x : List (List ℕ)). [] ∷ x) (padded k n ps (omega arith) ∙ ap (λ (m : ℕ). without_first m ps) (sym same)))
padded zero n ((b ∷ bs) ∷ ps) e =
    ⊎_elim
    (λ c. let none : n - length (b ∷ bs) ≡ 0 = omega arith in rw (rest_of-part n b bs ps c, without_first-none (n - length (b ∷ bs)) ps none) refl)
    (λ c. absurd (omega (arith, rest_of-few (n - length (b ∷ bs)) ps, ap length (rest_of-whole n b bs ps c))))
    (cases_lt n (length (b ∷ bs)))
padded (suc k) n ((b ∷ bs) ∷ ps) e =
    ⊎_elim
    (λ c. absurd (omega (arith, ap length (rest_of-part n b bs ps c))))
    (λ c.
    let whole = rest_of-whole n b bs ps c in
    let sizes = ap length whole in
    rw (whole, drop_all n (b ∷ bs) c) (ap (λ (x : List (List ℕ)). [] ∷ x) (padded k (n - length (b ∷ bs)) ps (omega arith))))
    (cases_lt n (length (b ∷ bs)))

-- chunks of which the first k were taken whole, and that are as many as at first
pub chunks_left : (k n : ℕ) (cs old : List (List ℕ)) → k ≤ length cs → take k cs ≡ replicate k [] → drop k cs ≡ rest_of n old → length cs ≡ length old → cs ≡ without_first n old
chunks_left k n cs old l t d e =
    let sizes = ap length d in
    let rest = length-drop k cs in
    sym (take-append-drop k cs) ∙ (rw (t, d) (padded k n old (omega arith)))

pub chunks_kept : (k : ℕ) (cs old : List (List ℕ)) → k ≤ length cs → drop k cs ≡ old → length cs ≡ length old → cs ≡ old
chunks_kept k cs old l d e =
    let sizes = ap length d in
    let rest = length-drop k cs in
    let none : k ≡ 0 = omega arith in
    rw none at d
