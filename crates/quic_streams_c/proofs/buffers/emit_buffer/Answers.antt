use Rattle.std.proofs.Common.{refl, w32, to_z-of_z}
use Rattle.quic_streams_c.proofs.buffers.emit_buffer.Goals as goal

pub returns-in-None : goal.returns-in-None
returns-in-None c = rw c.in-None.ensures.taken (refl, refl, c.take_buffer.ensures.closed, c.take_buffer.ensures.shows, refl)

pub returns-in-Some : goal.returns-in-Some
returns-in-Some c = rw (c.in-Some.ensures.taken, c.showing.ensures.holds) (simp (to_z-of_z {w = w32} {z = c.emit_held-code.result} (record { sfits = c.emit_held-code.type_inv })) (rw c.deref_mut.ensures.value at c.emit_held-code.ensures), c.showing.ensures.shows)
