use Rattle.std.proofs.Common.{ap, ◌∙◌, arith}
use Rattle.quic_values.specs.Numbers.{size_of}
use Rattle.quic_wire.proofs.Written.{datagram_length}
use Rattle.quic_wire.proofs.frame.Datagram.size.Goals as goal

pub returns-then-with_length : goal.returns-then-with_length
returns-then-with_length c =
    let is = c.size.ensures ∙ ap size_of (c.new.ensures ∙ c.len-len.ensures) in
    rw c.if-with_length.true (omega (arith, c.len-len.ensures, datagram_length c.args.self.now c.size.result is))
