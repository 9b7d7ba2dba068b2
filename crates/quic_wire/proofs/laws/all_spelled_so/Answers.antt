use Rattle.quic_wire.proofs.Written.{frames_written}
use Rattle.quic_wire.proofs.laws.all_spelled_so.Goals as goal

pub returns : goal.returns
returns c = frames_written
