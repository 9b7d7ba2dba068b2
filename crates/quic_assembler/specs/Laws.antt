-- Laws of what contracts see of an assembler.
use Rattle.std.specs.List.{Any}
use Rattle.std.proofs.lemmas.Bool.{cases_lt}
use Rattle.std.proofs.lemmas.Bool.Decides.{nat_tests}
use Rattle.quic_assembler.specs.Piece.{PieceView, Covers, run_end}
use Rattle.std.specs.Prelude.{slice_index, nat_lt}
use Rattle.std.proofs.Common.{◌⊎◌, inl, inr, refl, List, [], ◌∷◌, ◌-◌, zero, suc, arith, ◌≡◌, ℕ, ◌≤◌, ◌<◌, ◌↔◌, true}
use Rattle.quic_assembler.specs.Reassembly.{IsHeld, Reassembly, floor, Holds, IsDone, is_done}

lt_of_test : (a b : ℕ) → nat_lt a b ≡ true → a < b
lt_of_test a b h = grind (arith, nat_tests)

test_of_lt : (a b : ℕ) → a < b → nat_lt a b ≡ true
test_of_lt a b h = grind (arith, nat_tests)

-- in ordered mode what was read is done, and nothing else
pub done_below : (a : Reassembly) (at : ℕ) → a.ordered ≡ true → IsDone a at ↔ (at < a.bytes_read)
unfolding is_done
done_below a at e = rw e (lt_of_test at a.bytes_read, test_of_lt at a.bytes_read)

pub held_above : (a : Reassembly) (at byte : ℕ) → a.ordered ≡ true → Holds a at byte → a.bytes_read ≤ at
unfolding Holds
held_above a at byte e h = rw e at h.0

-- whether a byte is held at an offset can be told
covers_or_not : (at : ℕ) (r : PieceView) → Covers at r ⊎ (Covers at r → ⊥)
covers_or_not at r = elim (cases_lt at r.offset) [
  | inl l ↦ inr (λ h. absurd (omega arith))
  | inr l ↦ elim (cases_lt at (run_end r)) [ inl m ↦ inl (l, m) | inr m ↦ inr (λ h. absurd (omega arith)) ]
]

neither : {X : Type 0} (P : X → Type 0) (x : X) (xs : List X) → (P x → ⊥) → (Any P xs → ⊥) → Any P (x ∷ xs) → ⊥
neither P x xs n m (zero, y, l, e, p) = n (rw e p)
neither P x xs n m (suc k, y, l, e, p) = m (k, y, omega arith, e, p)

any_or_not : {X : Type 0} (P : X → Type 0) → ((x : X) → P x ⊎ (P x → ⊥)) → (xs : List X) → Any P xs ⊎ (Any P xs → ⊥)
any_or_not P d [] = inr (λ h. absurd (omega (arith, h.2)))
any_or_not P d (x ∷ xs) = elim (d x) [
  | inl p ↦ inl (0, x, omega arith, refl, p)
  | inr n ↦ elim (any_or_not P d xs) [
    | inl a ↦ inl (suc a.0, a.1, omega arith, a.3, a.4)
    | inr m ↦ inr (neither P x xs n m)
  ]
]

pub held_or_not : (a : Reassembly) (at : ℕ) → IsHeld (Holds a) at ⊎ (IsHeld (Holds a) at → ⊥)
unfolding Holds
held_or_not a at = elim (cases_lt at (floor a)) [
  | inl l ↦ inr (λ h. absurd (omega (arith, h.1.0)))
  | inr l ↦ elim (any_or_not (Covers at) (covers_or_not at) a.runs) [
    | inl c ↦ inl (slice_index c.1.bytes (at - c.1.offset), (l, (c.0, c.1, c.2, c.3, (c.4.0, c.4.1, refl))))
    | inr n ↦ inr (λ h. n (h.1.1.0, h.1.1.1, h.1.1.2, h.1.1.3, (h.1.1.4.0, h.1.1.4.1)))
  ]
]
