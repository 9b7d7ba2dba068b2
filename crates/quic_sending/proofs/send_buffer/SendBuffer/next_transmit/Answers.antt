use Rattle.std.proofs.Common.{arith}
use Rattle.quic_sending.specs.Buffer.{IsSound}
use Rattle.quic_sending.proofs.Sound.{next_within}
use Rattle.quic_sending.proofs.send_buffer.SendBuffer.next_transmit.Goals as goal

pub returns-clause-within : goal.returns-clause-within
returns-clause-within c =
    let sound : IsSound c.args.self.now = rw (← c.self.view_is) c.self.invariant in
    let within = next_within c.args.self.now _ _ sound c.next_range-next.ensures.next in
    (within.0, c.cut_to_frame-end.ensures.within.0, omega (arith, within.2, c.cut_to_frame-end.ensures.within.1))
