use Rattle.std.proofs.Common.{◌≡◌, length, arith}
use Rattle.quic_sending.proofs.Laid.{IsBetween-all, IsBetween-raise, IsBetween-lower}
use Rattle.quic_sending.proofs.piece_queue.bounds_at.Goals as goal

pub returns-then-offset-index : goal.returns-then-offset-index
returns-then-offset-index c =
    IsBetween-lower c.requires.0 _ _ 0 _ _ c.index.result.now c.requires.1 (IsBetween-all _ c.args.offset) (omega arith) (omega arith) c.index.ensures (omega arith)

pub returns-then-offset-index-2 : goal.returns-then-offset-index-2
returns-then-offset-index-2 c =
    let raised = IsBetween-raise c.requires.0 c.args.pieces.now.items c.args.offset 0 (length c.args.pieces.now.items) c.args.hint c.index.result.now c.requires.1 (IsBetween-all _ _) (omega arith) c.index.ensures (omega arith) in
    IsBetween-lower c.requires.0 _ _ _ _ _ c.index-then-next-len.result.now c.requires.1 raised (omega arith) (omega arith) c.index-then-next-len.ensures (omega arith)

pub returns : goal.returns
returns c =
    let size : c.len-len.result ≡ length c.args.pieces.now.items = omega arith in
    rw size (IsBetween-raise c.requires.0 _ _ 0 _ _ c.index.result.now c.requires.1 (IsBetween-all _ c.args.offset) (omega arith) c.index.ensures (omega arith))
