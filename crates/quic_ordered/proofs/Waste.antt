-- Memory that is wasted is tested against two bounds, one after the other.
use Rattle.std.proofs.Common.{◌≡◌, ℕ, ◌-◌, ◌*◌, ◌/◌, ◌≤◌, ◌<◌, inl, inr, refl, sym, ◌∙◌, arith, true, false, max}
use Rattle.std.specs.Prelude.{nat_lt}
use Rattle.std.proofs.lemmas.Bool.{cases_lt}
use Rattle.std.proofs.lemmas.Bool.Decides.{nat_tests}
use Rattle.quic_assembler.specs.Piece.{Sums}
use Rattle.quic_assembler.specs.Reassembly.{is_wasteful, used}
use Rattle.quic_assembler.proofs.Whole.{wasteful_memory}

test_lt : (a b : ℕ) → a < b → nat_lt a b ≡ true
test_lt a b h = grind (arith, nat_tests)

test_ge : (a b : ℕ) → b ≤ a → nat_lt a b ≡ false
test_ge a b h = grind (arith, nat_tests)

above_first : (a b w : ℕ) → a < w → nat_lt b w ≡ nat_lt (max a b) w
above_first a b w h =
    elim (cases_lt b w) [
      | inl l ↦ test_lt b w l ∙ sym (test_lt (max a b) w (omega arith))
      | inr l ↦ test_ge b w l ∙ sym (test_ge (max a b) w (omega arith))
    ]

below_first : (a b w : ℕ) → w ≤ a → nat_lt a w ≡ nat_lt (max a b) w
below_first a b w h = test_ge a w h ∙ sym (test_ge (max a b) w (omega arith))

-- more is wasted than is always allowed
pub much_wasted : (s : Sums) (unread u w : ℕ) → s.pieces ≤ 2048 → u ≡ used s unread → w ≡ s.allocated - u → 32768 < w → nat_lt (u * 3 / 2) w ≡ is_wasteful s unread
much_wasted s unread u w few e g above = above_first 32768 (u * 3 / 2) w above ∙ wasteful_memory s unread u (max 32768 (u * 3 / 2)) w few e refl g

-- no more is wasted than is always allowed
pub little_wasted : (s : Sums) (unread u w : ℕ) → s.pieces ≤ 2048 → u ≡ used s unread → w ≡ s.allocated - u → w ≤ 32768 → nat_lt 32768 w ≡ is_wasteful s unread
little_wasted s unread u w few e g below = below_first 32768 (u * 3 / 2) w below ∙ wasteful_memory s unread u (max 32768 (u * 3 / 2)) w few e refl g
