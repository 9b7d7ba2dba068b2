-- Sums over streams, each once.
use Rattle.std.proofs.Common.{◌≡◌, ℕ, Bool, true, false, ◌||◌, eqb, List, [], ◌∷◌, refl, arith, ◌+◌}
use Rattle.std.specs.Prelude.{nat_eq, if◌then◌else◌}
use Rattle.std.specs.List.{list_any}
use Rattle.std.proofs.lemmas.Bool.Decides.{nat_tests}
use Rattle.quic_history.specs.History.{total_over, with_stream}

or_true : (b c : Bool) → (b || c) ≡ true → b ≡ false → c ≡ true
or_true true c h n = absurd (cc)
or_true false c h n = h

or_false : (b c : Bool) → (b || c) ≡ false → (b ≡ false) × (c ≡ false)
or_false true c h = absurd (cc)
or_false false c h = (refl, h)

pub by_cases : (b : Bool) {P : Type 0} → (b ≡ true → P) → (b ≡ false → P) → P
by_cases true t f = t refl
by_cases false t f = f refl

pub same : (x y : ℕ) → eqb x y ≡ true → x ≡ y
same x y h = grind (arith, nat_tests)

pub turned : (x y : ℕ) → eqb x y ≡ false → eqb y x ≡ false
turned x y h = grind (arith, nat_tests)

-- each stands once in a list
abbrev pub IsOnce : List ℕ → Type 0
IsOnce [] = Unit {0}
IsOnce (x ∷ xs) = (list_any (nat_eq x) xs ≡ false) × IsOnce xs

once_if : (b : Bool) (id : ℕ) (ids : List ℕ) → list_any (nat_eq id) ids ≡ b → IsOnce ids → IsOnce (if b then ids else id ∷ ids)
once_if true id ids e o = o
once_if false id ids e o = (e, o)

pub once_with : (id : ℕ) (ids : List ℕ) → IsOnce ids → IsOnce (with_stream id ids)
once_with id ids o = once_if (list_any (nat_eq id) ids) id ids refl o

-- the stream is not among those
total_without : (f g : ℕ → ℕ) (k : ℕ) (xs : List ℕ) → list_any (nat_eq k) xs ≡ false → ((q : ℕ) → eqb q k ≡ false → g q ≡ f q) → total_over g xs ≡ total_over f xs
total_without f g k [] absent h = refl
total_without f g k (x ∷ xs) absent h =
    let parts = or_false (eqb k x) (list_any (nat_eq k) xs) absent in
    omega (arith, h x (turned k x parts.0), total_without f g k xs parts.1 h)

-- one stream of those changes
total_at_one : (f g : ℕ → ℕ) (k : ℕ) (xs : List ℕ) → IsOnce xs → list_any (nat_eq k) xs ≡ true → ((q : ℕ) → eqb q k ≡ false → g q ≡ f q)
    → total_over g xs + f k ≡ total_over f xs + g k
total_at_one f g k [] once is h = absurd (cc)
total_at_one f g k (x ∷ xs) once is h = by_cases (eqb k x)
    (λ t. let e = same k x t in rw e (omega (arith, total_without f g x xs once.0 (λ q n. h q (rw e n)))))
    (λ n. omega (arith, h x (turned k x n), total_at_one f g k xs once.1 (or_true (eqb k x) (list_any (nat_eq k) xs) is n) h))

total_if : (f g : ℕ → ℕ) (k : ℕ) (xs : List ℕ) (b : Bool) → list_any (nat_eq k) xs ≡ b → IsOnce xs → (list_any (nat_eq k) xs ≡ false → f k ≡ 0)
    → ((q : ℕ) → eqb q k ≡ false → g q ≡ f q) → total_over g (if b then xs else k ∷ xs) + f k ≡ total_over f xs + g k
total_if f g k xs true e once none h = total_at_one f g k xs once e h
total_if f g k xs false e once none h = omega (arith, none e, total_without f g k xs e h)

-- one stream changes, which is none of those only where it counted nothing
pub total_with : (f g : ℕ → ℕ) (k : ℕ) (xs : List ℕ) → IsOnce xs → (list_any (nat_eq k) xs ≡ false → f k ≡ 0) → ((q : ℕ) → eqb q k ≡ false → g q ≡ f q)
    → total_over g (with_stream k xs) + f k ≡ total_over f xs + g k
total_with f g k xs once none h = total_if f g k xs (list_any (nat_eq k) xs) refl once none h

-- no stream changes
pub total_same : (f g : ℕ → ℕ) (xs : List ℕ) → ((q : ℕ) → g q ≡ f q) → total_over g xs ≡ total_over f xs
total_same f g [] h = refl
total_same f g (x ∷ xs) h = omega (arith, h x, total_same f g xs h)
