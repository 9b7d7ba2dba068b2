use Rattle.quic_wire.proofs.Written.{frame_written}
use Rattle.quic_wire.proofs.laws.spelled_so.Goals as goal

pub returns : goal.returns
returns c = frame_written
