use Rattle.std.proofs.Common.{ℕ, List, ◌≤◌, ◌∷◌, [], ◌++◌, subst, sym}
use Rattle.std.specs.List.{All}
use Rattle.std.specs.List.Sorted.{IsPermutation}
use Rattle.std.specs.Map.{values_of}
use Rattle.std.proofs.lemmas.List.Sorted.{IsPermutation-refl}
use Rattle.quic_assembler.specs.Piece.{PieceView, IsSome, cover_count}
use Rattle.quic_ordered.specs.Entries.{IsPlaced}
use Rattle.quic_ordered.proofs.Joining.{put_apart}
use Rattle.quic_ordered.proofs.Placed.{placed_none, free_of_count, absent_of_free, moved_permutes, once_permuted, once_less, some_less}
use Rattle.quic_ordered.proofs.placing.place_all.Goals as goal

pub loop-piece-init : goal.loop-piece-init
loop-piece-init c = record {
  rises = c.requires.rises;
  apart = c.requires.apart;
  some = c.requires.some;
  once = c.requires.once;
  all = IsPermutation-refl _;
  placed = subst (λ (os : List ℕ). IsPlaced os c.args.pieces.now c.args.pieces.now) (sym c.new-offsets.ensures.items) (placed_none c.args.pieces.now);
}

pub loop-piece-preserved : goal.loop-piece-preserved
loop-piece-preserved c =
    let inv = c.loop-piece.invariant in
    let p = c.in-Some.piece in
    let ps = c.pop.new.self.items in
    let e = rw c.in-Some.is at c.pop.ensures.items in
    let some = some_less ps p (subst (All IsSome) e inv.some) in
    let first : (at : ℕ) → cover_count at ((ps ++ p ∷ []) ++ values_of c.args.pieces.now) ≤ 1 = λ at. subst (λ (xs : List PieceView). cover_count at (xs ++ values_of c.args.pieces.now) ≤ 1) e (inv.once at) in
    let now : (at : ℕ) → cover_count at ((ps ++ p ∷ []) ++ values_of c.loop-piece.pieces) ≤ 1 = λ at. subst (λ (xs : List PieceView). cover_count at (xs ++ values_of c.loop-piece.pieces) ≤ 1) e (once_permuted at _ _ inv.all (c.requires.once at)) in
    let free = free_of_count ps p c.loop-piece.pieces inv.apart some.1 now in
    let free_first = free_of_count ps p c.args.pieces.now c.requires.apart some.1 first in
    let h = c.in_default-place.ensures in
    record {
      rises = h.rises;
      apart = put_apart _ _ p inv.apart some.1 free h.here h.others;
      some = some.0;
      once = λ at. once_less at ps (values_of c.args.pieces.now) p (first at);
      all = moved_permutes c.args.parts.items (values_of c.args.pieces.now) ps p c.loop-piece.pieces c.place.new.pieces
          (subst (λ (xs : List PieceView). IsPermutation (c.args.parts.items ++ values_of c.args.pieces.now) (xs ++ values_of c.loop-piece.pieces)) e inv.all) (absent_of_free p _ inv.apart some.1 free) h.entries;
      placed = h.placed c.args.pieces.now (absent_of_free p _ c.requires.apart some.1 free_first) inv.placed;
    }

pub returns-in-Err-clause-err : goal.returns-in-Err-clause-err
returns-in-Err-clause-err c =
    let inv = c.loop-piece.invariant in
    let p = c.in-Some.piece in
    let ps = c.pop.new.self.items in
    let e = rw c.in-Some.is at c.pop.ensures.items in
    let some = some_less ps p (subst (All IsSome) e inv.some) in
    let first : (at : ℕ) → cover_count at ((ps ++ p ∷ []) ++ values_of c.args.pieces.now) ≤ 1 = λ at. subst (λ (xs : List PieceView). cover_count at (xs ++ values_of c.args.pieces.now) ≤ 1) e (inv.once at) in
    let free = free_of_count ps p c.args.pieces.now c.requires.apart some.1 first in
    c.take_out.ensures.restores c.args.pieces.now c.requires.rises (rw (← c.as_slice.ensures.value) at (c.in-Err.ensures.placed c.args.pieces.now (absent_of_free p _ c.requires.apart some.1 free) inv.placed))
