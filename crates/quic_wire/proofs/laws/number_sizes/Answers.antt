use Rattle.quic_wire.proofs.Written.{shortest_length}
use Rattle.quic_wire.proofs.laws.number_sizes.Goals as goal

pub returns : goal.returns
returns c = shortest_length
