use Rattle.std.proofs.Common.{arith}
use Rattle.quic_ordered.proofs.Places.{below_place, above_place}
use Rattle.quic_ordered.proofs.row.PieceRow.count_up_to.Goals as goal

pub returns-then-offset-2 : goal.returns-then-offset-2
returns-then-offset-2 c =
    let h = rw (← c.self.view_is) at c.requires in
    let o = c.offset-then-offset.ensures.value in
    rw (← c.self.view_is) (record {
      fits = omega arith;
      below = λ k d lt. absurd (omega (arith, lt));
      above = λ k d more fits. above_place c.self.inside.pieces.items 0 c.args.offset k c.index-then-offset.result.now d h (omega (arith, fits)) c.index-then-offset.ensures (omega (arith, o)) more fits;
    })

pub returns-then-offset : goal.returns-then-offset
returns-then-offset c =
    let h = rw (← c.self.view_is) at c.requires in
    let first = c.offset-then-offset.ensures.value in
    let second = c.offset.ensures.value in
    let some = c.len.ensures in
    rw (← c.self.view_is) (record {
      fits = omega (arith, some);
      below = λ k d lt. below_place c.self.inside.pieces.items 0 c.args.offset k c.index-then-offset.result.now d h (omega (arith, some)) c.index-then-offset.ensures (omega (arith, first)) lt;
      above = λ k d more fits. above_place c.self.inside.pieces.items 1 c.args.offset k c.index.result.now d h (omega (arith, some)) c.index.ensures (omega (arith, second)) more fits;
    })
