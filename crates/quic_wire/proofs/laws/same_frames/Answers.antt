use Rattle.quic_wire.proofs.Joins.{same}
use Rattle.quic_wire.proofs.laws.same_frames.Goals as goal

pub returns : goal.returns
returns c = same
