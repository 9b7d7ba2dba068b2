use Rattle.std.proofs.Common.{arith, ◌≡◌, ◌*◌, ◌/◌, true, length, sym}
use Rattle.std.specs.Prelude.{nat_le}
use Rattle.std.proofs.lemmas.Bool.Decides.{nat_tests}
use Rattle.quic_assembler.specs.Piece.{PieceView}
use Rattle.quic_ordered.specs.Rows.{IsTidy}
use Rattle.quic_ordered.proofs.Keeping.{tidy_more}
use Rattle.quic_ordered.proofs.row.PieceRow.count_tidy.Goals as goal

tidy_of_test : (r : PieceView) → nat_le r.allocation_size (length r.bytes * 6 / 5) ≡ true → IsTidy r
tidy_of_test r h = grind (arith, nat_tests)

pub loop-index-preserved : goal.loop-index-preserved
loop-index-preserved c =
    let r = c.index-piece.result.now in
    let h = rw (← c.self.view_is) at c.requires in
    record {
      fits = omega arith;
      kept = rw c.end-floor.ensures.value
          (tidy_more c.self.inside.pieces.items c.loop-index.index c.loop-index.floor r h (omega arith) c.index-piece.ensures (omega (arith, c.offset.ensures.value)) (tidy_of_test r (sym c.if-not-is_little.ensures)) c.loop-index.invariant.kept);
    }
