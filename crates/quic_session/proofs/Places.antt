-- Places of payloads.
use Rattle.std.proofs.Common.{◌≡◌, ◌≢◌, ℕ, ◌+◌, ◌-◌, ◌<◌, ◌≤◌, ◌⊎◌, inl, inr, Bool, true, false, cond, zero, suc, List, [], ◌∷◌, ◌++◌, length, get_or, Option, Some, None, refl, sym, ap, ◌∙◌, arith}
use Rattle.std.specs.Prelude.{◌==◌, nat_lt, slice_set}
use Rattle.std.specs.List.{sum_by}
use Rattle.std.proofs.lemmas.List.{get_or_append_left, get_or_past, length_push, get_or-set_same, get_or-set_other}
use Rattle.std.proofs.lemmas.List.Sums.{sum_by-cons}
use Rattle.std.proofs.Math.Seq.{get_or-append_seam}
use Rattle.std.proofs.lemmas.Bool.Decides.{eqb_tells, leb_tells}
use Rattle.quic_streams.specs.declared.settling.SentPayload.{SentPayload}
use Rattle.quic_session.specs.Places.{held_at}
use Rattle.quic_session.specs.Tokens.{at_token}

abbrev pub Place : Type 0
Place = Option SentPayload

at-most : (p : Place) → held_at p ≤ 1
at-most (Some s) = omega arith
at-most None = omega arith

counted : (x : Place) (xs : List Place) → sum_by held_at (x ∷ xs) ≡ held_at x + sum_by held_at xs
counted x xs = sum_by-cons held_at x xs

-- there are no more payloads than places
pub held-most : (xs : List Place) → sum_by held_at xs ≤ length xs
held-most [] = omega arith
held-most (x ∷ xs) = omega (arith, counted x xs, at-most x, held-most xs)

-- and fewer where one has none
pub held-room : (xs : List Place) (i : ℕ) → i < length xs → get_or xs i None ≡ None → sum_by held_at xs + 1 ≤ length xs
held-room [] i h e = omega (arith, h)
held-room (x ∷ xs) zero h e = omega (arith, counted x xs, ap held_at e, held-most xs)
held-room (x ∷ xs) (suc i) h e = omega (arith, counted x xs, at-most x, held-room xs i (omega (arith, h)) e)

-- a place more stands for the next token
pub put-behind : (first next : ℕ) (xs : List Place) (x : Place) → next ≡ first + length xs → (q : ℕ) → at_token first (xs ++ x ∷ []) q ≡ cond (next == q) x (at_token first xs q)
put-behind first next xs x is q = by-order (leb_tells (suc q) first) (eqb_tells next q)
  where
    by-order : ((nat_lt q first ≡ true) × (suc q ≤ first)) ⊎ ((nat_lt q first ≡ false) × (first < suc q)) → (((next == q) ≡ true) × (next ≡ q)) ⊎ (((next == q) ≡ false) × (next ≢ q))
        → at_token first (xs ++ x ∷ []) q ≡ cond (next == q) x (at_token first xs q)
    by-order (inl b) (inl e) = absurd (omega (arith, is, b.1, e.1))
    by-order (inl b) (inr e) = ap (λ t. cond t None (get_or (xs ++ x ∷ []) (q - first) None)) b.0 ∙ sym (ap (λ t. cond t x (at_token first xs q)) e.0 ∙ ap (λ t. cond t None (get_or xs (q - first) None)) b.0)
    by-order (inr b) (inl e) =
        let at : q - first ≡ length xs = omega (arith, is, e.1) in
        ap (λ t. cond t None (get_or (xs ++ x ∷ []) (q - first) None)) b.0 ∙ ap (λ i. get_or (xs ++ x ∷ []) i None) at ∙ get_or-append_seam xs x [] None ∙ sym (ap (λ t. cond t x (at_token first xs q)) e.0)
    by-order (inr b) (inr e) =
        let same : get_or (xs ++ x ∷ []) (q - first) None ≡ get_or xs (q - first) None = by-place (leb_tells (suc (q - first)) (length xs)) in
        ap (λ t. cond t None (get_or (xs ++ x ∷ []) (q - first) None)) b.0 ∙ same ∙ sym (ap (λ t. cond t x (at_token first xs q)) e.0 ∙ ap (λ t. cond t None (get_or xs (q - first) None)) b.0)
      where
        by-place : ((nat_lt (q - first) (length xs) ≡ true) × (suc (q - first) ≤ length xs)) ⊎ ((nat_lt (q - first) (length xs) ≡ false) × (length xs < suc (q - first))) → get_or (xs ++ x ∷ []) (q - first) None ≡ get_or xs (q - first) None
        by-place (inl l) = get_or_append_left xs (x ∷ []) None (q - first) (omega (arith, l.1))
        by-place (inr l) =
            let away : q - first ≡ length xs → ⊥ = λ h. e.1 (omega (arith, is, h, b.1)) in
            let past : length xs + 1 ≤ q - first = omega (arith, l.1, away) in
            get_or_past (xs ++ x ∷ []) (q - first) None (omega (arith, past, length_push xs x)) ∙ sym (get_or_past xs (q - first) None (omega (arith, past)))

-- nothing stands under the next token, or a later one
pub none-behind : (first next : ℕ) (xs : List Place) → next ≡ first + length xs → (q : ℕ) → next ≤ q → at_token first xs q ≡ None
none-behind first next xs is q behind = by-order (leb_tells (suc q) first)
  where
    by-order : ((nat_lt q first ≡ true) × (suc q ≤ first)) ⊎ ((nat_lt q first ≡ false) × (first < suc q)) → at_token first xs q ≡ None
    by-order (inl b) = ap (λ t. cond t None (get_or xs (q - first) None)) b.0
    by-order (inr b) = ap (λ t. cond t None (get_or xs (q - first) None)) b.0 ∙ get_or_past xs (q - first) None (omega (arith, is, behind))

-- another payload stands in a place
pub put-place : (first : ℕ) (xs : List Place) (i : ℕ) (x : Place) → i < length xs → (q : ℕ) → at_token first (slice_set xs i x) q ≡ cond (first + i == q) x (at_token first xs q)
put-place first xs i x h q = by-order (leb_tells (suc q) first) (eqb_tells (first + i) q)
  where
    by-order : ((nat_lt q first ≡ true) × (suc q ≤ first)) ⊎ ((nat_lt q first ≡ false) × (first < suc q)) → (((first + i == q) ≡ true) × (first + i ≡ q)) ⊎ (((first + i == q) ≡ false) × (first + i ≢ q))
        → at_token first (slice_set xs i x) q ≡ cond (first + i == q) x (at_token first xs q)
    by-order (inl b) (inl e) = absurd (omega (arith, b.1, e.1))
    by-order (inl b) (inr e) = ap (λ t. cond t None (get_or (slice_set xs i x) (q - first) None)) b.0 ∙ sym (ap (λ t. cond t x (at_token first xs q)) e.0 ∙ ap (λ t. cond t None (get_or xs (q - first) None)) b.0)
    by-order (inr b) (inl e) =
        let at : q - first ≡ i = omega (arith, e.1) in
        ap (λ t. cond t None (get_or (slice_set xs i x) (q - first) None)) b.0 ∙ ap (λ k. get_or (slice_set xs i x) k None) at ∙ get_or-set_same xs i x None h ∙ sym (ap (λ t. cond t x (at_token first xs q)) e.0)
    by-order (inr b) (inr e) =
        let away : q - first ≢ i = λ k. e.1 (omega (arith, k, b.1)) in
        ap (λ t. cond t None (get_or (slice_set xs i x) (q - first) None)) b.0 ∙ get_or-set_other xs i (q - first) x None away
        ∙ sym (ap (λ t. cond t x (at_token first xs q)) e.0 ∙ ap (λ t. cond t None (get_or xs (q - first) None)) b.0)

-- what was there before does not matter
pub put-over : (t : Bool) (x y z : Place) → cond t x (cond t y z) ≡ cond t x z
put-over true x y z = refl
put-over false x y z = refl
