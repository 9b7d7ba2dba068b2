use Rattle.quic_wire.proofs.Written.{frame_size, frame_long}
use Rattle.quic_wire.proofs.laws.size_bounds.Goals as goal

pub returns-clause-kept : goal.returns-clause-kept
returns-clause-kept c = frame_size

pub returns-clause-reached : goal.returns-clause-reached
returns-clause-reached c = frame_long
