-- What is known of a set from one of its runs.
use Rattle.std.proofs.Common.{ap, ◌∙◌, ◌≡◌, ℕ, ◌+◌, ◌<◌, ◌≤◌, Bool, true, false, ◌||◌, ◌⊎◌, List, [], ◌∷◌, length, Option, Some, None, refl, sym, inl, inr, arith}
use Rattle.std.proofs.lemmas.Bool.{cases_lt, cases_Bool, or_parts}
use Rattle.std.proofs.lemmas.Bool.Decides.{nat_tests}
use Rattle.quic_ranges.specs.Runs.{Run, is_in, contains, AreRuns, end_at, EndBy, EndBefore, EndUpTo, NoneBegins, IsLast, IsRunOf, range_of}
use Rattle.quic_ranges.proofs.Entries.{some_later, end_at-bounds, contains_below, is_in_out, NoneBegins-head, NoneBegins-later}

pub is_in_true : (r : Run) (n : ℕ) → r.0 ≤ n → n < r.1 → is_in r n ≡ true
is_in_true r n low high = grind (arith, nat_tests)

pub is_in_bounds : (r : Run) (n : ℕ) → is_in r n ≡ true → (r.0 ≤ n) × (n < r.1)
is_in_bounds r n e = (grind (arith, nat_tests), grind (arith, nat_tests))

-- another run ends before a run begins, or begins after it ends
pub apart : (low s e k v : ℕ) (rs : List Run) → AreRuns low rs → end_at rs s ≡ Some e → end_at rs k ≡ Some v → ((k < s) × (v < s)) ⊎ (((k ≡ s) × (v ≡ e)) ⊎ (e < k))
apart low s e k v [] runs found other = absurd cc
apart low s e k v (r ∷ rs) runs found other =
    elim (some_later r rs s e found) [
      | inl here ↦ elim (some_later r rs k v other) [
        | inl same ↦ inr (inl (omega arith, omega arith))
        | inr later ↦ let h = end_at-bounds (r.1 + 1) k v rs runs.2 later.1 in inr (inr (omega arith))
      ]
      | inr there ↦
          let g = end_at-bounds (r.1 + 1) s e rs runs.2 there.1 in
          elim (some_later r rs k v other) [
            | inl same ↦ inl (omega arith, omega arith)
            | inr later ↦ apart (r.1 + 1) s e k v rs runs.2 there.1 later.1
          ]
    ]

pub inside : (low s e n : ℕ) (rs : List Run) → AreRuns low rs → end_at rs s ≡ Some e → s ≤ n → n < e → contains rs n ≡ true
inside low s e n [] runs found from to = absurd cc
inside low s e n (r ∷ rs) runs found from to =
    elim (some_later r rs s e found) [
      | inl here ↦ rw (is_in_true r n (omega arith) (omega arith)) refl
      | inr there ↦
          let g = end_at-bounds (r.1 + 1) s e rs runs.2 there.1 in
          rw (is_in_out r n (λ p q. omega arith)) (inside (r.1 + 1) s e n rs runs.2 there.1 from to)
    ]

pub outside : (low s e : ℕ) (rs : List Run) → AreRuns low rs → end_at rs s ≡ Some e → contains rs e ≡ false
outside low s e [] runs found = absurd cc
outside low s e (r ∷ rs) runs found =
    elim (some_later r rs s e found) [
      | inl here ↦ rw (is_in_out r e (λ p q. omega arith)) (contains_below (r.1 + 1) e rs runs.2 (omega arith))
      | inr there ↦
          let g = end_at-bounds (r.1 + 1) s e rs runs.2 there.1 in
          rw (is_in_out r e (λ p q. omega arith)) (outside (r.1 + 1) s e rs runs.2 there.1)
    ]

-- no run touches the start of another
pub touches_none : (low s e k : ℕ) (rs : List Run) → AreRuns low rs → end_at rs s ≡ Some e → k + 1 ≡ s → contains rs k ≡ false
touches_none low s e k [] runs found next = absurd cc
touches_none low s e k (r ∷ rs) runs found next =
    elim (some_later r rs s e found) [
      | inl here ↦ rw (is_in_out r k (λ p q. omega arith)) (contains_below (r.1 + 1) k rs runs.2 (omega arith))
      | inr there ↦
          let g = end_at-bounds (r.1 + 1) s e rs runs.2 there.1 in
          rw (is_in_out r k (λ p q. omega arith)) (touches_none (r.1 + 1) s e k rs runs.2 there.1 next)
    ]

none_some : (o : Option ℕ) (v : ℕ) → o ≡ None → o ≡ Some v → ⊥
none_some o v e f = cc

pub at_most_last : (s e n k v : ℕ) (rs : List Run) → AreRuns 0 rs → IsLast rs s e n → end_at rs k ≡ Some v → k ≤ n → ((k < s) × (v < s)) ⊎ ((k ≡ s) × (v ≡ e))
at_most_last s e n k v rs runs h other le =
    elim (apart 0 s e k v rs runs h.found other) [
      | inl before ↦ inl before
      | inr (inl same) ↦ inr same
      | inr (inr after) ↦ let b = end_at-bounds 0 s e rs runs h.found in absurd (none_some _ v (h.last k (omega arith) le) other)
    ]

pub EndBefore-start : (s e : ℕ) (rs : List Run) → AreRuns 0 rs → end_at rs s ≡ Some e → EndBefore rs s
EndBefore-start s e rs runs found k v other lt =
    let b = end_at-bounds 0 s e rs runs found in
    elim (apart 0 s e k v rs runs found other) [ inl before ↦ before.1 | inr (inl same) ↦ omega arith | inr (inr after) ↦ omega arith ]

pub EndBefore-past : (s e n : ℕ) (rs : List Run) → AreRuns 0 rs → IsLast rs s e n → e < n → EndBefore rs n
EndBefore-past s e n rs runs h past k v other lt =
    elim (at_most_last s e n k v rs runs h other (omega arith)) [ inl before ↦ let u = h.up_to in omega arith | inr same ↦ omega arith ]

pub EndBy-end : (s e n : ℕ) (rs : List Run) → AreRuns 0 rs → end_at rs s ≡ Some e → EndBy rs e
EndBy-end s e n rs runs found k v other le =
    let b = end_at-bounds 0 s e rs runs found in
    elim (apart 0 s e k v rs runs found other) [ inl before ↦ omega arith | inr (inl same) ↦ omega arith | inr (inr after) ↦ omega arith ]

pub EndBy-past : (s e n : ℕ) (rs : List Run) → AreRuns 0 rs → IsLast rs s e n → e ≤ n → EndBy rs n
EndBy-past s e n rs runs h past k v other le =
    elim (at_most_last s e n k v rs runs h other le) [ inl before ↦ let u = h.up_to in omega arith | inr same ↦ omega arith ]

-- a wider run, whose added ends are in the set
pub widened : (rs : List Run) (a b x y n : ℕ) → a ≤ x → y ≤ b → ((k : ℕ) → a ≤ k → k < x → contains rs k ≡ true) → ((k : ℕ) → y ≤ k → k < b → contains rs k ≡ true)
    → (contains rs n || is_in (a, b) n) ≡ (contains rs n || is_in (x, y) n)
widened rs a b x y n low high front back =
    elim (cases_Bool (contains rs n)) [
      | inl is ↦ rw is refl
      | inr not_in ↦ rw not_in (same_outside (is_in (a, b) n) (is_in (x, y) n)
          (λ e. let h = is_in_bounds (a, b) n e in
          is_in_true (x, y) n
          (elim (cases_lt n x) [ inl lt ↦ absurd (both (contains rs n) (front n h.0 lt) not_in) | inr le ↦ le ])
          (elim (cases_lt n y) [ inl lt ↦ lt | inr le ↦ absurd (both (contains rs n) (back n le h.1) not_in) ]))
          (λ e. let h = is_in_bounds (x, y) n e in is_in_true (a, b) n (omega arith) (omega arith)))
    ]
  where
    both : (t : Bool) → t ≡ true → t ≡ false → ⊥
    both t p q = cc

    same_outside : (p q : Bool) → (p ≡ true → q ≡ true) → (q ≡ true → p ≡ true) → p ≡ q
    same_outside true q f g = sym (f refl)
    same_outside false true f g = g refl
    same_outside false false f g = refl

-- a run of the set adds nothing to it
pub adds_nothing : (rs : List Run) (x y n : ℕ) → ((k : ℕ) → x ≤ k → k < y → contains rs k ≡ true) → contains rs n ≡ (contains rs n || is_in (x, y) n)
adds_nothing rs x y n all =
    elim (cases_Bool (is_in (x, y) n)) [
      | inl is ↦ let h = is_in_bounds (x, y) n is in rw (all n h.0 h.1) refl
      | inr not_in ↦ rw not_in (or_false (contains rs n))
    ]
  where
    or_false : (t : Bool) → t ≡ (t || false)
    or_false true = refl
    or_false false = refl

pub EndUpTo-last : (s e n : ℕ) (rs : List Run) → AreRuns 0 rs → IsLast rs s e n → (n ≤ s) ⊎ (e ≤ n) → EndUpTo rs n
EndUpTo-last s e n rs runs h past k v other lt =
    let u = h.up_to in
    elim (at_most_last s e n k v rs runs h other (omega arith)) [
      | inl before ↦ omega arith
      | inr same ↦ elim past [ inl le ↦ omega arith | inr le ↦ omega arith ]
    ]

-- the first of the runs
pub IsRunOf-first : (low : ℕ) (r : Run) (rs : List Run) → AreRuns low (r ∷ rs) → IsRunOf (r ∷ rs) (range_of r)
IsRunOf-first low r rs runs = record {
  some = runs.1;
  inside = λ n from to. rw (is_in_true r n from to) refl;
  end = rw (is_in_out r r.1 (λ p q. omega arith)) (contains_below (r.1 + 1) r.1 rs runs.2 (omega arith));
}

pub below_first : (low n : ℕ) (r : Run) (rs : List Run) → AreRuns low (r ∷ rs) → n < r.0 → contains (r ∷ rs) n ≡ false
below_first low n r rs runs lt = contains_below r.0 n (r ∷ rs) (omega arith, runs.1, runs.2) lt

pub lowest : (rs : List Run) (r : Run) → AreRuns 0 rs → (t : List Run) × (rs ≡ r ∷ t) → (contains rs r.0 ≡ true) × ((n : ℕ) → n < r.0 → contains rs n ≡ false)
lowest rs r runs f =
    let h : AreRuns 0 (r ∷ f.0) = rw f.1 at runs in
    rw f.1 ((IsRunOf-first 0 r f.0 h).inside r.0 (omega arith) h.1, λ n lt. below_first 0 n r f.0 h lt)

pub nothing_in : (rs : List Run) (n : ℕ) → rs ≡ [] → contains rs n ≡ false
nothing_in rs n e = rw e refl

pub empty_is : (t : Bool) (rs : List Run) → AreRuns 0 rs → (t ≡ false → 0 < length rs) → ((n : ℕ) → contains rs n ≡ false) → t ≡ true
empty_is true rs runs some none = refl
empty_is false [] runs some none = absurd (let h = some refl in omega (arith, h))
empty_is false (r ∷ rs) runs some none = absurd (let a = none r.0 in let b = (IsRunOf-first 0 r rs runs).inside r.0 (omega arith) runs.1 in cc)

-- where n is not in the set, and no run begins from n to k
pub gap : (low n k : ℕ) (rs : List Run) → AreRuns low rs → contains rs n ≡ false → n ≤ k → NoneBegins rs n k → contains rs k ≡ false
gap low n k [] runs out le none = refl
gap low n k (r ∷ rs) runs out le none =
    let parts = or_parts (is_in r n) (contains rs n) out in
    elim (cases_lt n r.0) [
      | inl lt ↦ below_first low k r rs runs (elim (cases_lt k r.0) [ inl more ↦ more | inr less ↦ absurd (NoneBegins-head r rs n k none (omega arith) less) ])
      | inr ge ↦ elim (cases_lt n r.1) [
        | inl within ↦ absurd (let a = is_in_true r n ge within in let b = parts.0 in cc)
        | inr past ↦ rw (is_in_out r k (λ p q. omega arith)) (gap (r.1 + 1) n k rs runs.2 parts.1 le (NoneBegins-later r rs n k none))
      ]
    ]

-- ---- runs that hold the same numbers are the same
abbrev run : ℕ → ℕ → Run
run a b = (a, b)

same_run : (r q : Run) → r.0 ≡ q.0 → r.1 ≡ q.1 → r ≡ q
same_run r q a b = ap (λ x. run x r.1) a ∙ ap (run q.0) b

same_start : (low : ℕ) (r q : Run) (rs qs : List Run) → AreRuns low (r ∷ rs) → AreRuns low (q ∷ qs) → ((n : ℕ) → contains (r ∷ rs) n ≡ contains (q ∷ qs) n) → r.0 ≤ q.0
same_start low r q rs qs runs others same =
    elim (cases_lt q.0 r.0) [
      | inr le ↦ le
      | inl lt ↦ absurd (let a = (IsRunOf-first low q qs others).inside q.0 (omega arith) others.1 in let b = below_first low q.0 r rs runs lt in let c = same q.0 in cc)
    ]

same_end : (low : ℕ) (r q : Run) (rs qs : List Run) → AreRuns low (r ∷ rs) → AreRuns low (q ∷ qs) → ((n : ℕ) → contains (r ∷ rs) n ≡ contains (q ∷ qs) n) → r.0 ≡ q.0 → r.1 ≤ q.1
same_end low r q rs qs runs others same start =
    elim (cases_lt q.1 r.1) [
      | inr le ↦ le
      | inl lt ↦ absurd (let o = others.1 in let a = (IsRunOf-first low r rs runs).inside q.1 (omega arith) lt in let b = (IsRunOf-first low q qs others).end in let c = same q.1 in cc)
    ]

pub same_runs : (low : ℕ) (rs qs : List Run) → AreRuns low rs → AreRuns low qs → ((n : ℕ) → contains rs n ≡ contains qs n) → rs ≡ qs
same_runs low [] [] runs others same = refl
same_runs low [] (q ∷ qs) runs others same = absurd (let a = (IsRunOf-first low q qs others).inside q.0 (omega arith) others.1 in let c = same q.0 in cc)
same_runs low (r ∷ rs) [] runs others same = absurd (let a = (IsRunOf-first low r rs runs).inside r.0 (omega arith) runs.1 in let c = same r.0 in cc)
same_runs low (r ∷ rs) (q ∷ qs) runs others same =
    let start : r.0 ≡ q.0 = omega (arith, same_start low r q rs qs runs others same, same_start low q r qs rs others runs (λ n. sym (same n))) in
    let end : r.1 ≡ q.1 = omega (arith, same_end low r q rs qs runs others same start, same_end low q r qs rs others runs (λ n. sym (same n)) (sym start)) in
    let tails = same_runs (r.1 + 1) rs qs runs.2 (rw end others.2)
    (λ n. elim (cases_lt r.1 n) [
      | inl past ↦ let h = same n in rw (is_in_out r n (λ a b. omega arith), is_in_out q n (λ a b. omega arith)) at h
      | inr within ↦ contains_below (r.1 + 1) n rs runs.2 (omega arith) ∙ sym (contains_below (q.1 + 1) n qs others.2 (omega arith))
    ]) in
    ap (λ (x : Run). x ∷ rs) (same_run r q start end) ∙ ap (λ (t : List Run). q ∷ t) tails
