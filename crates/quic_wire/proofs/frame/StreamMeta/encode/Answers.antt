use Rattle.std.proofs.Common.{◌-◌, arith}
use Rattle.quic_wire.specs.Text.{asked}
use Rattle.quic_wire.proofs.Written.{meta_written, head_size}
use Rattle.quic_wire.proofs.frame.StreamMeta.encode.Goals as goal

pub returns-clause-spelled : goal.returns-clause-spelled
returns-clause-spelled c = λ content rest len ends.
    let m = c.args.self.now in
    meta_written m c.args.with_length content rest (omega arith) c.requires.offset (λ is. rw len (c.requires.len is)) ends len

pub returns-clause-bound : goal.returns-clause-bound
returns-clause-bound c =
    let m = c.args.self.now in
    head_size m.id m.offsets.start m.fin (asked c.args.with_length (m.offsets.end - m.offsets.start))
