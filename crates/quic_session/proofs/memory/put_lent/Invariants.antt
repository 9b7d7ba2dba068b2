use Rattle.std.proofs.Common.{length}
use Rattle.quic_session.proofs.memory.put_lent.Given as goal

abbrev pub decreases-loop-piece : goal.decreases-loop-piece
decreases-loop-piece l = length l.lent.items
