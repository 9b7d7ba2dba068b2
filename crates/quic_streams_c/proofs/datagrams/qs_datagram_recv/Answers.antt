use Rattle.std.proofs.Common.{refl, subst, w32, to_z-of_z}
use Rattle.quic_session.specs.declared.session.Session.{Session}
use Rattle.quic_streams_c.specs.Datagrams.{TakesRaw}
use Rattle.quic_streams_c.proofs.datagrams.qs_datagram_recv.Goals as goal

pub returns-in-None : goal.returns-in-None
returns-in-None c = rw c.in-None.ensures.taken (refl, c.take_out.ensures.closed, (refl, refl))

pub returns-in-Some : goal.returns-in-Some
returns-in-Some c = rw (c.in-Some.ensures.taken, c.holding.ensures) (simp (to_z-of_z {w = w32} {z = c.receive-code.result} (record { sfits = c.receive-code.type_inv })) (subst (λ (s : Session). TakesRaw s c.args.out.now c.receive-code.result c.receive-code.new.session c.receive-code.new.out c.args.count.now c.receive-code.new.count) c.deref_mut.ensures.value c.receive-code.ensures))
