-- The first and the last of a list.
use Rattle.std.proofs.Common.{◌≡◌, ℕ, ◌+◌, ◌<◌, refl, ap, List, [], ◌∷◌, ◌++◌, length, arith, zero, suc}
use Rattle.std.specs.Prelude.{slice_index_or, slice_get, Some, None}

pub first_of : {X : Type 0} (xs : List X) (x : X) → 0 < length xs → x ≡ slice_index_or xs 0 x → (first : X) × (rest : List X) × (xs ≡ first ∷ rest) × (x ≡ first)
first_of [] x lt e = absurd (omega arith)
first_of (y ∷ ys) x lt e = (y, ys, refl, e)

last_cons : {X : Type 0} (y : X) (ys : List X) (x : X) → ((others : List X) × (last : X) × (ys ≡ others ++ last ∷ []) × (x ≡ last)) → (others : List X) × (last : X) × (y ∷ ys ≡ others ++ last ∷ []) × (x ≡ last)
last_cons y ys x h = (y ∷ h.0, h.1, ap (λ zs. y ∷ zs) h.2, h.3)

pub last_at : {X : Type 0} (xs : List X) (n : ℕ) (x : X) → n + 1 ≡ length xs → x ≡ slice_index_or xs n x → (others : List X) × (last : X) × (xs ≡ others ++ last ∷ []) × (x ≡ last)
last_at [] n x l e = absurd (omega arith)
last_at (y ∷ []) zero x l e = ([], y, refl, e)
last_at (y ∷ []) (suc n) x l e = absurd (omega arith)
last_at (y ∷ (z ∷ zs)) zero x l e = absurd (omega arith)
last_at (y ∷ (z ∷ zs)) (suc n) x l e = last_cons y (z ∷ zs) x (last_at (z ∷ zs) n x (omega arith) e)

pub first_got : {X : Type 0} (xs : List X) (x : X) → slice_get xs 0 ≡ Some x → (rest : List X) × (xs ≡ x ∷ rest)
first_got [] x e = absurd (let f : None ≡ Some x = e in cc)
first_got (y ∷ ys) x e = (ys, let f : Some y ≡ Some x = e in cc)

pub last_got : {X : Type 0} (xs : List X) (n : ℕ) (x : X) → n + 1 ≡ length xs → slice_get xs n ≡ Some x → (others : List X) × (xs ≡ others ++ x ∷ [])
last_got [] n x l e = absurd (omega arith)
last_got (y ∷ []) zero x l e = ([], let f : Some y ≡ Some x = e in cc)
last_got (y ∷ []) (suc n) x l e = absurd (omega arith)
last_got (y ∷ (z ∷ zs)) zero x l e = absurd (omega arith)
last_got (y ∷ (z ∷ zs)) (suc n) x l e = let h = last_got (z ∷ zs) n x (omega arith) e in (y ∷ h.0, ap (λ ws. y ∷ ws) h.1)
