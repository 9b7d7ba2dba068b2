use Rattle.std.proofs.Common.{refl, w32, to_z-of_z}
use Rattle.quic_streams_c.proofs.Calls.{number-refused, number-given}
use Rattle.quic_streams_c.proofs.application.tell_stop.Goals as goal

pub returns-in_default : goal.returns-in_default
returns-in_default c = number-refused c.stream_of.result _ _ _ c.stream_of.ensures c.in_default.not-Some (refl, refl)

pub returns : goal.returns
returns c = number-given c.in-Some.id _ _ _ c.in-Some.ensures (c.stopped.result, (c.stopped.ensures.told, c.stopped.ensures.unknown), simp (to_z-of_z {w = w32} {z = c.put_stop.result} (record { sfits = c.put_stop.type_inv })) c.put_stop.ensures)
