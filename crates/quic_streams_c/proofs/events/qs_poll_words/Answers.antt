use Rattle.std.proofs.Common.{refl, w32, to_z-of_z}
use Rattle.quic_streams_c.proofs.events.qs_poll_words.Goals as goal

pub returns-in-None : goal.returns-in-None
returns-in-None c = rw c.in-None.ensures.taken (refl, c.take_out.ensures.closed, refl)

pub returns-in-Some : goal.returns-in-Some
returns-in-Some c = rw (c.in-Some.ensures.taken, c.holding.ensures) (simp (to_z-of_z {w = w32} {z = c.poll-code.result} (record { sfits = c.poll-code.type_inv })) (rw c.deref_mut.ensures.value at c.poll-code.ensures))
