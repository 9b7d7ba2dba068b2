use Rattle.quic_sending.proofs.Laid.{AreFilled-contents}
use Rattle.quic_sending.proofs.piece_queue.PieceQueue.drop_covered.Goals as goal

pub returns-clause-filled : goal.returns-clause-filled
returns-clause-filled c = AreFilled-contents _ _ c.drop_covered.ensures.laid_out
