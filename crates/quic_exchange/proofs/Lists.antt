-- Beginnings of lists, one element longer, and elements at their places.
use Rattle.std.proofs.Common.{◌≡◌, ◌⊎◌, ℕ, Bool, true, false, zero, suc, List, [], ◌∷◌, ◌++◌, Some, refl, ap, sym, ◌∙◌, inl, inr, arith, length, ◌+◌, ◌<◌}
use Rattle.std.specs.Prelude.{take, drop, slice_get, slice_set, ◌==◌}
use Rattle.std.proofs.lemmas.Option.{none-some, same_Some}
use Rattle.quic_history.proofs.Traces.{itself}
use Rattle.quic_link.specs.Endpoints.{IsOneOf}
use Rattle.quic_link.proofs.Basics.{same_id}

pub take_next : {X : Type 0} (xs : List X) (n : ℕ) (x : X) → slice_get xs n ≡ Some x → take (suc n) xs ≡ take n xs ++ x ∷ []
take_next [] n x h = cc
take_next (y ∷ ys) zero x h = cc
take_next (y ∷ ys) (suc n) x h = ap (λ l. y ∷ l) (take_next ys n x h)

pub take_more : {X : Type 0} (xs : List X) (n : ℕ) (x : X) → slice_get xs n ≡ Some x → take (n + 1) xs ≡ take n xs ++ x ∷ []
take_more xs n x h = let e : n + 1 ≡ suc n = omega arith in rw e (take_next xs n x h)

-- an element with those before and behind it
pub parts_at : {X : Type 0} (xs : List X) (n : ℕ) (x : X) → slice_get xs n ≡ Some x → xs ≡ take n xs ++ x ∷ drop (suc n) xs
parts_at [] n x h = cc
parts_at (y ∷ ys) zero x h = cc
parts_at (y ∷ ys) (suc n) x h = ap (λ l. y ∷ l) (parts_at ys n x h)

-- what a list has it has with more behind it
pub slice_get-append_left : {X : Type 0} (xs ys : List X) (o : ℕ) (b : X) → slice_get xs o ≡ Some b → slice_get (xs ++ ys) o ≡ Some b
slice_get-append_left [] ys o b h = absurd (none-some b h)
slice_get-append_left (x ∷ xs) ys zero b h = h
slice_get-append_left (x ∷ xs) ys (suc o) b h = slice_get-append_left xs ys o b h

-- an element of a list with one more at its end
pub slice_get-push : {X : Type 0} (xs : List X) (x : X) (k : ℕ) (y : X) → slice_get (xs ++ x ∷ []) k ≡ Some y → (slice_get xs k ≡ Some y) ⊎ ((k ≡ length xs) × (y ≡ x))
slice_get-push [] x zero y h = inr (refl, sym (same_Some _ _ h))
slice_get-push [] x (suc k) y h = absurd (none-some y h)
slice_get-push (z ∷ xs) x zero y h = inl h
slice_get-push (z ∷ xs) x (suc k) y h =
    elim (slice_get-push xs x k y h) [ inl e ↦ inl e | inr e ↦ inr (ap suc e.0, e.1) ]

-- an element after a write was written, or was there
pub slice_get-slice_set : {X : Type 0} (xs : List X) (k i : ℕ) (y z : X) → slice_get (slice_set xs k y) i ≡ Some z → ((i ≡ k) × (z ≡ y)) ⊎ (slice_get xs i ≡ Some z)
slice_get-slice_set [] k i y z h = inr h
slice_get-slice_set (x ∷ xs) zero zero y z h = inl (refl, sym (same_Some _ _ h))
slice_get-slice_set (x ∷ xs) zero (suc i) y z h = inr h
slice_get-slice_set (x ∷ xs) (suc k) zero y z h = inr h
slice_get-slice_set (x ∷ xs) (suc k) (suc i) y z h =
    elim (slice_get-slice_set xs k i y z h) [ inl e ↦ inl (ap suc e.0, e.1) | inr e ↦ inr e ]

-- an element that was there is the one that is replaced, or is there still
pub slice_set-keeps : {X : Type 0} (xs : List X) (k i : ℕ) (y z : X) → slice_get xs i ≡ Some z → (i ≡ k) ⊎ (slice_get (slice_set xs k y) i ≡ Some z)
slice_set-keeps [] k i y z h = inr h
slice_set-keeps (x ∷ xs) zero zero y z h = inl refl
slice_set-keeps (x ∷ xs) zero (suc i) y z h = inr h
slice_set-keeps (x ∷ xs) (suc k) zero y z h = inr h
slice_set-keeps (x ∷ xs) (suc k) (suc i) y z h =
    elim (slice_set-keeps xs k i y z h) [ inl e ↦ inl (ap suc e) | inr e ↦ inr e ]

-- what is written is there
pub slice_get-set_same : {X : Type 0} (xs : List X) (k : ℕ) (x y : X) → slice_get xs k ≡ Some x → slice_get (slice_set xs k y) k ≡ Some y
slice_get-set_same [] k x y h = absurd (none-some x h)
slice_get-set_same (z ∷ xs) zero x y h = refl
slice_get-set_same (z ∷ xs) (suc k) x y h = slice_get-set_same xs k x y h

-- the last that is written at a place is there
pub slice_set-twice : {X : Type 0} (xs : List X) (k : ℕ) (x y : X) → slice_set (slice_set xs k x) k y ≡ slice_set xs k y
slice_set-twice [] k x y = refl
slice_set-twice (z ∷ xs) zero x y = refl
slice_set-twice (z ∷ xs) (suc k) x y = ap (λ l. z ∷ l) (slice_set-twice xs k x y)

pub slice_set-length : {X : Type 0} (xs : List X) (k : ℕ) (x : X) → length (slice_set xs k x) ≡ length xs
slice_set-length [] k x = refl
slice_set-length (y ∷ xs) zero x = refl
slice_set-length (y ∷ xs) (suc k) x = ap (λ n. suc n) (slice_set-length xs k x)

-- an element stands within
pub slice_get-within : {X : Type 0} (xs : List X) (k : ℕ) (x : X) → slice_get xs k ≡ Some x → k < length xs
slice_get-within [] k x h = absurd (none-some x h)
slice_get-within (y ∷ xs) zero x h = omega arith
slice_get-within (y ∷ xs) (suc k) x h = let b = slice_get-within xs k x h in omega (arith, b)

-- and a place within has an element
pub slice_get-there : {X : Type 0} (xs : List X) (k : ℕ) → k < length xs → (x : X) × (slice_get xs k ≡ Some x)
slice_get-there [] k h = absurd (omega (arith, h))
slice_get-there (y ∷ xs) zero h = (y, refl)
slice_get-there (y ∷ xs) (suc k) h = slice_get-there xs k (omega (arith, h))

-- an element of a list stands in one that goes on
pub one-of-first : {X : Type 0} (x : X) (xs ys : List X) → IsOneOf x xs → IsOneOf x (xs ++ ys)
one-of-first x [] ys h = absurd h
one-of-first x (z ∷ xs) ys (inl e) = inl e
one-of-first x (z ∷ xs) ys (inr h) = inr (one-of-first x xs ys h)

pub one-of-last : {X : Type 0} (x : X) (xs ys : List X) → IsOneOf x ys → IsOneOf x (xs ++ ys)
one-of-last x [] ys h = h
one-of-last x (z ∷ xs) ys h = inr (one-of-last x xs ys h)

pub one-of-dropped : {X : Type 0} (x : X) (n : ℕ) (xs : List X) → IsOneOf x (drop n xs) → IsOneOf x xs
one-of-dropped x zero xs h = h
one-of-dropped x (suc n) [] h = absurd h
one-of-dropped x (suc n) (z ∷ xs) h = inr (one-of-dropped x n xs h)

pub got-one : {X : Type 0} (xs : List X) (index : ℕ) (a : X) → slice_get xs index ≡ Some a → IsOneOf a xs
got-one [] index a h = absurd (none-some a h)
got-one (x ∷ xs) zero a h = inl (sym (same_Some _ _ h))
got-one (x ∷ xs) (suc index) a h = inr (got-one xs index a h)

-- one of a list has a place
pub place-of : {X : Type 0} (x : X) (xs : List X) → IsOneOf x xs → (index : ℕ) × (slice_get xs index ≡ Some x)
place-of x [] h = absurd h
place-of x (z ∷ xs) (inl e) = (0, ap Some (sym e))
place-of x (z ∷ xs) (inr h) = let k = place-of x xs h in (suc k.0, k.1)

-- a place of a list in which one element was written: it is that one's, or another
pub slice_get-split : {X : Type 0} (xs : List X) (k i : ℕ) (x y z : X) → slice_get xs k ≡ Some x → slice_get (slice_set xs k y) i ≡ Some z → ((i ≡ k) × (z ≡ y)) ⊎ (((i == k) ≡ false) × (slice_get xs i ≡ Some z))
slice_get-split xs k i x y z is got = split (i == k) refl
  where
    split : (b : Bool) → (i == k) ≡ b → ((i ≡ k) × (z ≡ y)) ⊎ (((i == k) ≡ false) × (slice_get xs i ≡ Some z))
    split true e =
        let here = same_id i k e in
        inl (here, same_Some z y (sym got ∙ ap (slice_get (slice_set xs k y)) here ∙ slice_get-set_same xs k x y is))
    split false e = elim (slice_get-slice_set xs k i y z got) [
      | inl h ↦ (let both : true ≡ false = sym (ap (λ n. n == k) h.0 ∙ itself k) ∙ e in cc)
      | inr there ↦ inr (e, there)
    ]

-- a place behind a list is none of it
pub apart : (n k : ℕ) → k < n → (n == k) ≡ false
apart n k h = split (n == k) refl
  where
    split : (b : Bool) → (n == k) ≡ b → (n == k) ≡ false
    split true e = let here = same_id n k e in absurd (omega (arith, here, h))
    split false e = e
