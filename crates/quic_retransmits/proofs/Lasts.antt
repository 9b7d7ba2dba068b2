-- The last of a list.
use Rattle.std.proofs.Common.{◌≡◌, ◌-◌, ◌∙◌, ℕ, List, [], ◌∷◌, ◌++◌, length, sym, ap, Some, suc, arith}
use Rattle.std.specs.Prelude.{slice_get}

same-last : {T : Type 0} (a b : T) → Some a ≡ Some b → a ≡ b
same-last a b e = cc

split-at : {T : Type 0} (y : T) (ys : List T) (x : T) → Some x ≡ slice_get (y ∷ ys) (length ys) → (front : List T) × (y ∷ ys ≡ front ++ x ∷ [])
split-at y [] x e = ([], ap (λ z. z ∷ []) (same-last y x (sym e)))
split-at y (z ∷ zs) x e = let r = split-at z zs x e in (y ∷ r.0, ap (λ l. y ∷ l) r.1)

one-less : (n : ℕ) → suc n - 1 ≡ n
one-less n = omega arith

-- the item of the greatest place stands at the end
pub split_last : {T : Type 0} (xs : List T) (x : T) → Some x ≡ slice_get xs (length xs - 1) → (front : List T) × (xs ≡ front ++ x ∷ [])
split_last [] x e = cc
split_last (y ∷ ys) x e = split-at y ys x (e ∙ ap (slice_get (y ∷ ys)) (one-less (length ys)))
