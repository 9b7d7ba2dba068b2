use Rattle.quic_assembler.specs.Piece.{PieceView}
use Rattle.std.proofs.Common.{◌<◌, ◌≤◌, arith, refl}
use Rattle.std.proofs.lemmas.List.Sorted.{length_permutation}
use Rattle.std.proofs.lemmas.List.Elements.{All-weaker}
use Rattle.quic_assembler.proofs.Runs.{KeepsFrom-cut, none_below, above_lowest}
use Rattle.quic_assembler.proofs.pieces.Pieces.drop_below.Goals as goal

pub returns-then-reaches-clause-kept : goal.returns-then-reaches-clause-kept
returns-then-reaches-clause-kept c =
    let r = c.pop_first-piece.result in
    let ends = rw (← c.pop_first-piece.ensures.first) at (c.drop_stale.ensures.fresh r (omega (arith, length_permutation _ _ c.pop_first-piece.ensures.popped))) in
    KeepsFrom-cut _ _ _ _ _ r (omega arith) c.drop_stale.ensures.kept c.pop_first-piece.ensures.popped (rw c.cut_below.ensures.cut at c.put.ensures.put)

pub returns-then-reaches-clause-below : goal.returns-then-reaches-clause-below
returns-then-reaches-clause-below c = λ at l.
    let r = c.pop_first-piece.result in
    let ends = rw (← c.pop_first-piece.ensures.first) at (c.drop_stale.ensures.fresh r (omega (arith, length_permutation _ _ c.pop_first-piece.ensures.popped))) in
    let starts = rw (← c.pop_first-piece.ensures.first) at (c.if-reaches.ensures.yes r refl) in
    none_below _ _ _ _ r c.drop_stale.ensures.kept c.requires c.pop_first-piece.ensures.popped (rw c.cut_below.ensures.cut at c.put.ensures.put) starts (omega arith) c.pop_first-piece.ensures.lowest c.pop_first-piece.ensures.others at l

pub returns-then-reaches-clause-len : goal.returns-then-reaches-clause-len
returns-then-reaches-clause-len c = omega (arith, length_permutation _ _ c.put.ensures.put, length_permutation _ _ c.pop_first-piece.ensures.popped)

pub returns-else-reaches-clause-below : goal.returns-else-reaches-clause-below
returns-else-reaches-clause-below c = λ at l. above_lowest c.args.floor at _ (All-weaker (λ (q : PieceView). c.args.floor < q.offset) (λ (q : PieceView). c.args.floor ≤ q.offset) (λ q h. omega arith) _ (c.if-reaches.ensures.no refl)) l
