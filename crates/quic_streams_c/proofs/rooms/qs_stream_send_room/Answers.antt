use Rattle.std.proofs.Common.{refl, w32, to_z-of_z}
use Rattle.quic_streams_c.proofs.rooms.qs_stream_send_room.Goals as goal

pub returns-in-None : goal.returns-in-None
returns-in-None c = rw c.in-None.ensures.taken (refl, c.take_out.ensures.closed, refl)

pub returns-in-Some : goal.returns-in-Some
returns-in-Some c = rw (c.in-Some.ensures.taken, c.holding.ensures) (refl, simp (to_z-of_z {w = w32} {z = c.tell_room-code.result} (record { sfits = c.tell_room-code.type_inv })) (rw c.deref.ensures at c.tell_room-code.ensures))
