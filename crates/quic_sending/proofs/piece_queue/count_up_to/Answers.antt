use Rattle.std.proofs.Common.{arith}
use Rattle.quic_sending.proofs.Laid.{IsBetween-raise, IsBetween-lower}
use Rattle.quic_sending.proofs.piece_queue.count_up_to.Goals as goal

pub loop-low-preserved-then-index-offset : goal.loop-low-preserved-then-index-offset
loop-low-preserved-then-index-offset c =
    IsBetween-raise c.requires.0 _ _ c.loop-low.low c.loop-low.high _ c.index.result.now c.requires.1 c.loop-low.invariant (omega arith) c.index.ensures (omega arith)

pub loop-low-preserved : goal.loop-low-preserved
loop-low-preserved c =
    let within = c.loop-low.invariant.within in
    IsBetween-lower c.requires.0 _ _ c.loop-low.low c.loop-low.high _ c.index.result.now c.requires.1 c.loop-low.invariant (omega arith) (omega arith) c.index.ensures (omega arith)
