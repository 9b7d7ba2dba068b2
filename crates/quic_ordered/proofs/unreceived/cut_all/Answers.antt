use Rattle.quic_assembler.proofs.Fresh.{cut_none}
use Rattle.quic_ordered.proofs.unreceived.cut_all.Goals as goal

pub loop-init : goal.loop-init
loop-init c = rw c.requires (cut_none _ _)
