use Rattle.std.proofs.Common.{arith}
use Rattle.quic_wire.proofs.Written.{stream_written, stream_size}
use Rattle.quic_wire.proofs.frame.Stream.encode.Goals as goal

pub returns-clause-spelled : goal.returns-clause-spelled
returns-clause-spelled c = λ rest ends.
    let s = c.args.self.now in
    stream_written s.id s.offset s.fin c.args.with_length s.bytes rest (omega arith) c.requires.offset c.requires.len ends

pub returns-clause-bound : goal.returns-clause-bound
returns-clause-bound c = stream_size c.args.self.now c.args.with_length
