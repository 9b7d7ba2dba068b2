-- A heap of runs with the sums of their lengths and allocation sizes.
use Rattle.std.proofs.Common.{◌≡◌, ℕ, ◌+◌, ◌-◌, ◌*◌, ◌^◌, ◌≤◌, sym, ◌∙◌, List, ◌∷◌, length, arith}
use Rattle.std.specs.List.{All}
use Rattle.std.specs.List.Sorted.{IsPermutation}
use Rattle.std.specs.BinaryHeap.{IsHeap, IsUpperBound}
use Rattle.std.specs.Ordering.{is_lt}
use Rattle.std.specs.Prelude.{false}
use Rattle.std.proofs.lemmas.List.Sorted.{sum_by_pushed, sum_by_popped, sum_by-IsPermutation, All-permutation, IsPermutation-sym}
use Rattle.std.proofs.lemmas.List.Sums.{sum_by-le}
use Rattle.std.proofs.lemmas.List.Elements.{All-cons, All-head, All-tail, All-weaker, All-from_recursion}
use Rattle.std.proofs.lemmas.Bool.Decides.{nat_tests}
use Rattle.quic_assembler.specs.Piece.{PieceView, IsSome, IsPieceSound, IsQueue, IsLowest, run_length, run_allocation, run_cmp}

pub queue_pushed : (total allocated more memory : ℕ) (xs ys : List PieceView) (r : PieceView) → IsQueue total allocated xs → IsPieceSound r → IsPermutation (r ∷ xs) ys → IsHeap run_cmp ys → more ≡ run_length r → memory ≡ run_allocation r → IsQueue (total + more) (allocated + memory) ys
queue_pushed total allocated more memory xs ys r q s p h e f = record {
  order = h;
  sound = All-permutation IsPieceSound (r ∷ xs) ys p (All-cons IsPieceSound r xs s q.sound);
  total_is = omega (arith, sum_by_pushed run_length r xs ys p, q.total_is);
  allocated_is = omega (arith, sum_by_pushed run_allocation r xs ys p, q.allocated_is);
}

pub queue_popped : (total allocated less memory : ℕ) (xs ys : List PieceView) (r : PieceView) → IsQueue total allocated xs → IsPermutation xs (r ∷ ys) → IsHeap run_cmp ys → less ≡ run_length r → memory ≡ run_allocation r → IsQueue (total - less) (allocated - memory) ys
queue_popped total allocated less memory xs ys r q p h e f = record {
  order = h;
  sound = All-tail IsPieceSound r ys (All-permutation IsPieceSound xs (r ∷ ys) p q.sound);
  total_is = omega (arith, sum_by_popped run_length r xs ys p, q.total_is);
  allocated_is = omega (arith, sum_by_popped run_allocation r xs ys p, q.allocated_is);
}

pub popped_sound : (total allocated : ℕ) (xs ys : List PieceView) (r : PieceView) → IsQueue total allocated xs → IsPermutation xs (r ∷ ys) → IsPieceSound r
popped_sound total allocated xs ys r q p = All-head IsPieceSound r ys (All-permutation IsPieceSound xs (r ∷ ys) p q.sound)

short : (r : PieceView) → IsPieceSound r → run_length r ≤ 2 ^ 62
short r s = omega (arith, s.below)

cheap : (r : PieceView) → IsPieceSound r → run_allocation r ≤ 2 ^ 64 - 1
cheap r s = omega (arith, s.allocation)

pub total_bound : (total allocated : ℕ) (xs : List PieceView) → IsQueue total allocated xs → total ≤ length xs * 2 ^ 62
total_bound total allocated xs q = rw q.total_is (sum_by-le run_length (2 ^ 62) xs (All-weaker IsPieceSound (λ r. run_length r ≤ 2 ^ 62) short xs q.sound))

pub allocated_bound : (total allocated : ℕ) (xs : List PieceView) → IsQueue total allocated xs → allocated ≤ length xs * (2 ^ 64 - 1)
allocated_bound total allocated xs q = rw q.allocated_is (sum_by-le run_allocation (2 ^ 64 - 1) xs (All-weaker IsPieceSound (λ r. run_allocation r ≤ 2 ^ 64 - 1) cheap xs q.sound))

-- the first of a heap starts lowest
pub run_cmp-offset : (a b : PieceView) → is_lt (run_cmp a b) ≡ false → a.offset ≤ b.offset
run_cmp-offset a b h = grind (arith, nat_tests)

pub lowest_first : (xs : List PieceView) (r : PieceView) → IsUpperBound run_cmp r xs → IsLowest r xs
lowest_first xs r up = All-weaker (λ q. is_lt (run_cmp r q) ≡ false) (λ q. r.offset ≤ q.offset) (run_cmp-offset r) xs (All-from_recursion _ xs up)

pub lowest_popped : (xs ys : List PieceView) (r : PieceView) → IsPermutation xs (r ∷ ys) → IsUpperBound run_cmp r ys → IsLowest r xs
lowest_popped xs ys r p up = All-permutation (λ q. r.offset ≤ q.offset) (r ∷ ys) xs (IsPermutation-sym _ _ p) (All-cons (λ q. r.offset ≤ q.offset) r ys (omega arith) (lowest_first ys r up))

pub sound_is_some : (xs : List PieceView) → All IsPieceSound xs → All IsSome xs
sound_is_some xs all = All-weaker IsPieceSound IsSome (λ r s. s.some) xs all

pub queue_permuted : (total allocated : ℕ) (xs ys : List PieceView) → IsQueue total allocated xs → IsPermutation xs ys → IsHeap run_cmp ys → IsQueue total allocated ys
queue_permuted total allocated xs ys q p h = record {
  order = h;
  sound = All-permutation IsPieceSound xs ys p q.sound;
  total_is = q.total_is ∙ sym (sum_by-IsPermutation run_length xs ys p);
  allocated_is = q.allocated_is ∙ sym (sum_by-IsPermutation run_allocation xs ys p);
}
