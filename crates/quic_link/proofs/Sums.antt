-- Sums over streams that stand once in a list.
use Rattle.std.proofs.Common.{◌≡◌, ℕ, Bool, true, false, ◌||◌, eqb, List, [], ◌∷◌, refl, sym, ap, ◌∙◌, arith, ◌+◌, ◌≤◌}
use Rattle.std.specs.Prelude.{nat_eq}
use Rattle.std.specs.List.{list_any}
use Rattle.quic_history.specs.History.{total_over}
use Rattle.quic_history.proofs.Totals.{by_cases, same, turned, IsOnce}

or_none : (b c : Bool) → (b || c) ≡ false → (b ≡ false) × (c ≡ false)
or_none true c h = absurd (cc)
or_none false c h = (refl, h)

-- each grows by nothing
pub total-most : (f g : ℕ → ℕ) (xs : List ℕ) → ((q : ℕ) → g q ≤ f q) → total_over g xs ≤ total_over f xs
total-most f g [] h = omega arith
total-most f g (x ∷ xs) h = omega (arith, h x, total-most f g xs h)

-- one that is not in the list may grow
total_outside : (f g : ℕ → ℕ) (k : ℕ) (xs : List ℕ) → list_any (nat_eq k) xs ≡ false → ((q : ℕ) → eqb q k ≡ false → g q ≤ f q) → total_over g xs ≤ total_over f xs
total_outside f g k [] absent h = omega arith
total_outside f g k (x ∷ xs) absent h =
    let parts = or_none (eqb k x) (list_any (nat_eq k) xs) absent in
    omega (arith, h x (turned k x parts.0), total_outside f g k xs parts.1 h)

-- one grows by n at most
pub total-grows : (f g : ℕ → ℕ) (k n : ℕ) (xs : List ℕ) → IsOnce xs → ((q : ℕ) → eqb q k ≡ false → g q ≤ f q) → g k ≤ f k + n → total_over g xs ≤ total_over f xs + n
total-grows f g k n [] once others here = omega arith
total-grows f g k n (x ∷ xs) once others here = by_cases (eqb k x)
    (λ t. let e : k ≡ x = same k x t in
    let here_x : g x ≤ f x + n = let a : g x ≡ g k = ap g (sym e) in let b : f x ≡ f k = ap f (sym e) in omega arith in
    let rest = total_outside f g x xs once.0 (λ q m. others q (ap (λ i. eqb q i) e ∙ m)) in
    omega arith)
    (λ m. let a = others x (turned k x m) in let rest = total-grows f g k n xs once.1 others here in omega arith)
