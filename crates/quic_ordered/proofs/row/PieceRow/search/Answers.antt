use Rattle.std.proofs.Common.{arith, ◌+◌, ◌-◌, ◌/◌}
use Rattle.quic_ordered.proofs.Places.{below_place, above_place}
use Rattle.quic_ordered.proofs.row.PieceRow.search.Goals as goal

pub loop-low-preserved-then-offset : goal.loop-low-preserved-then-offset
loop-low-preserved-then-offset c =
    let h = rw (← c.self.view_is) at c.requires in
    let m = c.loop-low.invariant.fits in
    let o = c.offset.ensures.value in
    record {
      rises = omega arith;
      fits = m;
      below = λ k d lt. below_place c.self.inside.pieces.items (c.loop-low.low + (c.loop-low.high - c.loop-low.low) / 2) c.args.offset k c.index.result.now d h (omega arith) c.index.ensures (omega arith) lt;
      above = c.loop-low.invariant.above;
    }

pub loop-low-preserved : goal.loop-low-preserved
loop-low-preserved c =
    let h = rw (← c.self.view_is) at c.requires in
    let m = c.loop-low.invariant.fits in
    let o = c.offset.ensures.value in
    record {
      rises = omega arith;
      fits = omega arith;
      below = c.loop-low.invariant.below;
      above = λ k d more fits. above_place c.self.inside.pieces.items (c.loop-low.low + (c.loop-low.high - c.loop-low.low) / 2) c.args.offset k c.index.result.now d h (omega arith) c.index.ensures (omega arith) more fits;
    }
