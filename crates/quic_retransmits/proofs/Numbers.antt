-- Lemmas on numbers that follow each other.
use Rattle.std.proofs.Common.{◌≡◌, ℕ, ◌+◌, ◌-◌, ◌<◌, List, [], ◌∷◌, ◌++◌, length, refl, arith, zero, suc, append_assoc}
use Rattle.quic_retransmits.specs.Pending.{numbers_from}

pub length-numbers_from : (start n : ℕ) → length (numbers_from start n) ≡ n
length-numbers_from start zero = refl
length-numbers_from start (suc n) = omega (arith, length-numbers_from (start + 1) n)

pub numbers_from-first : (start end : ℕ) → start < end → numbers_from start (end - start) ≡ start ∷ numbers_from (start + 1) (end - (start + 1))
numbers_from-first start end h =
    let one : end - start ≡ suc (end - (start + 1)) = omega arith in
    rw one refl

-- the first number moves from what is to come to what came
pub numbers_from-push : (came : List ℕ) (start end : ℕ) → start < end → (came ++ start ∷ []) ++ numbers_from (start + 1) (end - (start + 1)) ≡ came ++ numbers_from start (end - start)
numbers_from-push came start end h = rw (numbers_from-first start end h) (simp append_assoc)
