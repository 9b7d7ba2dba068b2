-- Sums of lengths and allocation sizes.
use Rattle.std.proofs.Common.{◌≡◌, ℕ, ◌+◌, ◌-◌, ◌*◌, ◌^◌, ◌≤◌, ◌<◌, refl, sym, ◌∙◌, List, [], ◌∷◌, ◌++◌, length, arith, Bool, true, false, cond, min, sum_by, take}
use Rattle.std.specs.Prelude.{nat_lt}
use Rattle.std.specs.List.{All}
use Rattle.std.specs.List.Sorted.{IsPermutation}
use Rattle.std.proofs.lemmas.List.Sorted.{length_permutation, sum_by-IsPermutation, sum_by_pushed, IsPermutation-refl, IsPermutation-pop_more}
use Rattle.std.proofs.lemmas.List.{length-drop, length-take}
use Rattle.std.proofs.lemmas.List.Sums.{sum_by-cons, sum_by-append}
use Rattle.std.proofs.lemmas.List.Elements.{All-head, All-tail, All-nil, All-push}
use Rattle.std.proofs.lemmas.Bool.Decides.{nat_tests}
use Rattle.std.proofs.Math.Nat.{suc-mul, zero-mul, one-mul}
use Rattle.quic_assembler.specs.Piece.{PieceView, IsPieceSound, KeepsAlive, cover_count, covers, run_end, run_length, run_allocation, Sums, sums_of, cut_at, advance_by, left_of, Sheds, ReadsOff, TakesOff}
use Rattle.quic_assembler.specs.Compact.{Compacts, IsTight, with_run}
use Rattle.quic_assembler.specs.Reassembly.{tally, covered, IsCompacted}
use Rattle.quic_assembler.proofs.Counts.{tally-add, tally-lies, tally-same, tally-none}

pub sums_permuted : (xs ys : List PieceView) → IsPermutation xs ys → sums_of ys ≡ sums_of xs
sums_permuted xs ys p = rw (length_permutation xs ys p, sum_by-IsPermutation run_length xs ys p, sum_by-IsPermutation run_allocation xs ys p) refl

pub sums_alive : (size : ℕ) (xs : List PieceView) → All (KeepsAlive size) xs → sum_by run_allocation xs ≡ length xs * size
sums_alive size [] all = rw zero-mul refl
sums_alive size (x ∷ xs) all = omega (arith, sum_by-cons run_allocation x xs, suc-mul (length xs) size, sums_alive size xs (All-tail (KeepsAlive size) x xs all), All-head (KeepsAlive size) x xs all)

pub sums_tight : (xs : List PieceView) → All IsTight xs → sum_by run_allocation xs ≡ sum_by run_length xs
sums_tight [] all = refl
sums_tight (x ∷ xs) all = omega (arith, sum_by-cons run_allocation x xs, sum_by-cons run_length x xs, sums_tight xs (All-tail IsTight x xs all), (All-head IsTight x xs all).allocation)

abbrev made : ℕ → ℕ → ℕ → Sums
made p t m = record { pieces = p; total = t; allocated = m }

pub sums_equal : (a b : Sums) → a.pieces ≡ b.pieces → a.total ≡ b.total → a.allocated ≡ b.allocated → a ≡ b
sums_equal a b p t m = let e : made a.pieces a.total a.allocated ≡ made b.pieces b.total b.allocated = rw (p, t, m) refl in e

pub sums_pushed : (xs ys : List PieceView) (r : PieceView) (s : Sums) → IsPermutation (r ∷ xs) ys → s.pieces ≡ length xs + 1 → s.total ≡ sum_by run_length xs + length r.bytes → s.allocated ≡ sum_by run_allocation xs + r.allocation_size → sums_of ys ≡ s
sums_pushed xs ys r s p e f g = sums_equal (sums_of ys) s (omega (arith, length_permutation _ _ p)) (omega (arith, sum_by_pushed run_length r xs ys p)) (omega (arith, sum_by_pushed run_allocation r xs ys p))

-- one run more, unless it is empty
with_run_total_at : (r : PieceView) (rs : List PieceView) (b : Bool) → nat_lt 0 (length r.bytes) ≡ b → sum_by run_length (cond b (r ∷ rs) rs) ≡ sum_by run_length rs + length r.bytes
with_run_total_at r rs true e = omega (arith, sum_by-cons run_length r rs)
with_run_total_at r rs false e = let z : length r.bytes ≡ 0 = grind (arith, nat_tests) in omega arith

pub with_run_total : (r : PieceView) (rs : List PieceView) → sum_by run_length (with_run r rs) ≡ sum_by run_length rs + length r.bytes
with_run_total r rs = with_run_total_at r rs (nat_lt 0 (length r.bytes)) refl

with_run_allocated_at : (r : PieceView) (rs : List PieceView) (b : Bool) → nat_lt 0 (length r.bytes) ≡ b → sum_by run_allocation (cond b (r ∷ rs) rs) ≡ sum_by run_allocation rs + min 1 (length r.bytes) * r.allocation_size
with_run_allocated_at r rs true e = let z : min 1 (length r.bytes) ≡ 1 = grind (arith, nat_tests) in rw (z, one-mul) (omega (arith, sum_by-cons run_allocation r rs))
with_run_allocated_at r rs false e = let z : min 1 (length r.bytes) ≡ 0 = grind (arith, nat_tests) in rw (z, zero-mul) (omega arith)

pub with_run_allocated : (r : PieceView) (rs : List PieceView) → sum_by run_allocation (with_run r rs) ≡ sum_by run_allocation rs + min 1 (length r.bytes) * r.allocation_size
with_run_allocated r rs = with_run_allocated_at r rs (nat_lt 0 (length r.bytes)) refl

-- the sum of the lengths is how often offsets are covered
pub total_tally : (xs : List PieceView) → All IsPieceSound xs → sum_by run_length xs ≡ tally (2 ^ 62) (λ at. cover_count at xs)
total_tally [] all = sym (tally-none (2 ^ 62))
total_tally (x ∷ xs) all =
    let here : ℕ → ℕ = λ at. covers at x in
    let rest : ℕ → ℕ = λ at. cover_count at xs in
    let sound = All-head IsPieceSound x xs all in
    omega (arith, sum_by-cons run_length x xs, tally-add (2 ^ 62) here rest, tally-lies (2 ^ 62) x.offset (run_end x) (omega arith), total_tally xs (All-tail IsPieceSound x xs all), sound.below)

pub compacted : (xs ys : List PieceView) → Compacts xs ys → All IsTight ys → All IsPieceSound ys → IsCompacted (covered xs) (sums_of ys)
unfolding covered
compacted xs ys c tight sound =
    let total : sum_by run_length ys ≡ tally (2 ^ 62) (λ at. min 1 (cover_count at xs)) = total_tally ys sound ∙ tally-same (2 ^ 62) (λ at. cover_count at ys) (λ at. min 1 (cover_count at xs)) c.count in
    record { total = total; allocated = sums_tight ys tight ∙ total }

-- a read takes off what it gives
left_total : (most : ℕ) (r : PieceView) (b : Bool) → nat_lt most (length r.bytes) ≡ b → sum_by run_length (cond b (advance_by most r ∷ []) []) + length (take most r.bytes) ≡ length r.bytes
left_total most r true e = let l : most < length r.bytes = grind (arith, nat_tests) in omega (arith, sum_by-cons run_length (advance_by most r) [], length-drop most r.bytes, length-take most r.bytes)
left_total most r false e = let l : length r.bytes ≤ most = grind (arith, nat_tests) in omega (arith, length-take most r.bytes)

left_allocated : (most : ℕ) (r : PieceView) (b : Bool) → sum_by run_allocation (cond b (advance_by most r ∷ []) []) ≤ r.allocation_size
left_allocated most r true = omega (arith, sum_by-cons run_allocation (advance_by most r) [])
left_allocated most r false = omega arith

parts_sum : (f : PieceView → ℕ) (xs gone mid rest left ys : List PieceView) (first : PieceView) → IsPermutation xs (gone ++ mid) → IsPermutation mid (first ∷ rest) → IsPermutation (left ++ rest) ys → (sum_by f gone + (f first + sum_by f rest) ≡ sum_by f xs) × (sum_by f ys ≡ sum_by f left + sum_by f rest)
parts_sum f xs gone mid rest left ys first p q r = (
  omega (arith, sum_by-IsPermutation f xs (gone ++ mid) p, sum_by-append f gone mid, sum_by-IsPermutation f mid (first ∷ rest) q, sum_by-cons f first rest),
  omega (arith, sum_by-IsPermutation f (left ++ rest) ys r, sum_by-append f left rest),
)

pub takes_off : (floor most : ℕ) (bytes : List ℕ) (xs ys : List PieceView) → ReadsOff floor most bytes xs ys → TakesOff (length bytes) (sums_of xs) (sums_of ys)
takes_off floor most bytes xs ys o =
    let cut = cut_at floor o.first in
    let lengths = parts_sum run_length xs o.sheds.gone o.mid o.rest (left_of most cut) ys o.first o.sheds.split o.popped o.left in
    let sizes = parts_sum run_allocation xs o.sheds.gone o.mid o.rest (left_of most cut) ys o.first o.sheds.split o.popped o.left in
    record {
      total = rw o.given (omega (arith, lengths.0, lengths.1, left_total most cut (nat_lt most (length cut.bytes)) refl, length-drop (floor - o.first.offset) o.first.bytes));
      allocated = omega (arith, sizes.0, sizes.1, left_allocated most cut (nat_lt most (length cut.bytes)));
    }

left_put_at : (most : ℕ) (r : PieceView) (rest ys : List PieceView) (b : Bool) → nat_lt most (length r.bytes) ≡ b → (most < length r.bytes → IsPermutation (advance_by most r ∷ rest) ys) → (length r.bytes ≤ most → ys ≡ rest) → IsPermutation (cond b (advance_by most r ∷ []) [] ++ rest) ys
left_put_at most r rest ys true e part whole = part (grind (arith, nat_tests))
left_put_at most r rest ys false e part whole = rw (whole (grind (arith, nat_tests))) (IsPermutation-refl rest)

pub reads_off : (floor most : ℕ) (bytes : List ℕ) (xs mid rest ys : List PieceView) (r : PieceView) → Sheds floor xs mid → IsPermutation mid (r ∷ rest) → bytes ≡ take most (cut_at floor r).bytes → (most < length (cut_at floor r).bytes → IsPermutation (advance_by most (cut_at floor r) ∷ rest) ys) → (length (cut_at floor r).bytes ≤ most → ys ≡ rest) → ReadsOff floor most bytes xs ys
reads_off floor most bytes xs mid rest ys r s p e part whole = record {
  mid = mid;
  first = r;
  rest = rest;
  sheds = s;
  popped = p;
  given = e;
  left = left_put_at most (cut_at floor r) rest ys (nat_lt most (length (cut_at floor r).bytes)) refl part whole;
}

pub sheds_none : (floor : ℕ) (xs : List PieceView) → Sheds floor xs xs
sheds_none floor xs = record { gone = []; stale = All-nil (λ g. run_end g ≤ floor); split = IsPermutation-refl xs }

pub sheds_more : (floor : ℕ) (xs ys zs : List PieceView) (r : PieceView) → Sheds floor xs ys → IsPermutation ys (r ∷ zs) → run_end r ≤ floor → Sheds floor xs zs
sheds_more floor xs ys zs r s p l = record {
  gone = s.gone ++ r ∷ [];
  stale = All-push (λ g. run_end g ≤ floor) s.gone r s.stale l;
  split = IsPermutation-pop_more xs s.gone ys zs r s.split p;
}
