use Rattle.quic_wire.proofs.Joins.{join}
use Rattle.quic_wire.proofs.laws.frames_join.Goals as goal

pub returns : goal.returns
returns c = join
