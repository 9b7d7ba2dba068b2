use Rattle.quic_wire.proofs.Written.{datagram_written, datagram_size}
use Rattle.quic_wire.proofs.frame.Datagram.encode.Goals as goal

pub returns-clause-spelled : goal.returns-clause-spelled
returns-clause-spelled c = λ rest ends. datagram_written c.args.self.now.bytes rest c.args.with_length c.requires ends

pub returns-clause-bound : goal.returns-clause-bound
returns-clause-bound c = datagram_size c.args.self.now c.args.with_length
