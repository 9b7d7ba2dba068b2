use Rattle.std.proofs.Common.{refl}
use Rattle.quic_streams_c.proofs.datagrams.qs_datagram_send_space.Goals as goal

pub returns-in-None : goal.returns-in-None
returns-in-None c = rw c.in-None.ensures.taken (refl, c.take_out.ensures.closed, refl)

pub returns-in-Some : goal.returns-in-Some
returns-in-Some c = rw (c.in-Some.ensures.taken, c.holding.ensures) (refl, (refl, rw c.deref.ensures at c.datagram_send_space.ensures.space))
