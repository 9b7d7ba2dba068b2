use Rattle.std.proofs.Common.{◌∙◌, ap, subst, length, List, arith}
use Rattle.quic_assembler.specs.Piece.{PieceView}
use Rattle.quic_ordered.specs.Rows.{IsGathered}
use Rattle.quic_ordered.proofs.Compacting.{gathered_step}
use Rattle.quic_ordered.proofs.Keeping.{joined_length}
use Rattle.quic_ordered.proofs.store.join_touching.Goals as goal

pub loop-piece-preserved : goal.loop-piece-preserved
loop-piece-preserved c =
    let e = rw c.in-Some.is at c.pop_front.ensures.popped in
    let n = ap (λ (xs : List PieceView). length xs) e in
    let l = joined_length _ _ _ c.in_default-join_last.ensures.joins in
    record {
      gathered = λ all g. gathered_step all _ _ _ c.in-Some.piece (subst (IsGathered all c.loop-piece.out.runs) e (c.loop-piece.invariant.gathered all g)) c.in_default-join_last.ensures.joins;
      room = c.in_default-join_last.ensures.room ∙ c.loop-piece.invariant.room;
      fits = omega (arith, n, l, c.loop-piece.invariant.fits, c.in_default-join_last.ensures.room);
    }
