-- Pieces were added, and all others stay.
use Rattle.std.proofs.Common.{inl, inr, ◌≡◌, ◌⊎◌, ℕ, sym, subst, List, [], ◌∷◌, ◌++◌}
use Rattle.std.specs.List.{All}
use Rattle.std.specs.List.Sorted.{IsPermutation}
use Rattle.std.proofs.lemmas.List.Elements.{All-nil, All-cons, All-tail, All-weaker, All-append}
use Rattle.std.proofs.lemmas.List.Sorted.{IsPermutation-refl, IsPermutation-sym, IsPermutation-append_comm, All-permutation}
use Rattle.quic_ranges.specs.Runs.{Run as Range}
use Rattle.quic_assembler.specs.Piece.{PieceView, KeepsAlive}
use Rattle.quic_assembler.specs.Reassembly.{IsCut}
use Rattle.quic_ordered.specs.Rows.{IsAmong, AddsOnly}
use Rattle.quic_ordered.proofs.Stores.{all_among}

all_right : (P : PieceView → Type 0) (xs ys : List PieceView) → All P (xs ++ ys) → All P ys
all_right P [] ys all = all
all_right P (x ∷ xs) ys all = all_right P xs ys (All-tail P x (xs ++ ys) all)

-- what was added, and what was held, in any order
pub adds_permuted : (size : ℕ) (parts xs ys : List PieceView) → All (KeepsAlive size) parts → IsPermutation (parts ++ xs) ys → AddsOnly size xs ys
adds_permuted size parts xs ys alive p =
    let P : PieceView → Type 0 = λ r. IsAmong xs r ⊎ KeepsAlive size r in
    record {
      stay = all_right (IsAmong ys) parts xs (All-permutation (IsAmong ys) ys (parts ++ xs) (IsPermutation-sym _ _ p) (all_among [] ys));
      alive = All-permutation P (parts ++ xs) ys p (All-append P parts xs (All-weaker (KeepsAlive size) P (λ r a. inr a) parts alive) (All-weaker (IsAmong xs) P (λ r a. inl a) xs (all_among [] xs)));
    }

-- the rest is put behind the fronts
pub adds_pushed : (received : List Range) (whole rest : PieceView) (fronts parts xs ys : List PieceView) → IsCut received whole rest fronts → parts ≡ fronts ++ rest ∷ [] → IsPermutation (parts ++ xs) ys → AddsOnly whole.allocation_size xs ys
adds_pushed received whole rest fronts parts xs ys c e p =
    let size = whole.allocation_size in
    let one = All-cons (KeepsAlive size) rest [] c.alive (All-nil (KeepsAlive size)) in
    adds_permuted size parts xs ys (subst (λ (zs : List PieceView). All (KeepsAlive size) zs) (sym e) (All-append (KeepsAlive size) fronts (rest ∷ []) c.memory one)) p

-- the rest alone comes behind all that is held
pub adds_behind : (received : List Range) (whole rest : PieceView) (fronts xs ys : List PieceView) → IsCut received whole rest fronts → ys ≡ xs ++ rest ∷ [] → AddsOnly whole.allocation_size xs ys
adds_behind received whole rest fronts xs ys c e =
    let size = whole.allocation_size in
    let one = All-cons (KeepsAlive size) rest [] c.alive (All-nil (KeepsAlive size)) in
    adds_permuted size (rest ∷ []) xs ys one (subst (λ (zs : List PieceView). IsPermutation ((rest ∷ []) ++ xs) zs) (sym e) (IsPermutation-append_comm (rest ∷ []) xs))

-- nothing came
pub adds_none : (size : ℕ) (xs : List PieceView) → AddsOnly size xs xs
adds_none size xs = adds_permuted size [] xs xs (All-nil (KeepsAlive size)) (IsPermutation-refl xs)
