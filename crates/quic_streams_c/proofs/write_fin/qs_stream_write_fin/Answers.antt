use Rattle.std.proofs.Common.{refl, w32, to_z-of_z}
use Rattle.quic_streams_c.proofs.write_fin.qs_stream_write_fin.Goals as goal

pub returns-in-None : goal.returns-in-None
returns-in-None c = rw c.in-None.ensures.taken (refl, c.take_out.ensures.closed, (refl, refl))

pub returns-in-Some : goal.returns-in-Some
returns-in-Some c = rw (c.in-Some.ensures.taken, c.holding.ensures) (simp (to_z-of_z {w = w32} {z = c.write_fin-code.result} (record { sfits = c.write_fin-code.type_inv })) (rw c.deref_mut.ensures.value at c.write_fin-code.ensures))
