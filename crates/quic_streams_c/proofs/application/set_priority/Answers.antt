use Rattle.std.proofs.Common.{refl, w32, to_z-of_z}
use Rattle.quic_streams_c.proofs.Calls.{number-refused, number-given}
use Rattle.quic_streams_c.proofs.application.set_priority.Goals as goal

pub returns-in_default : goal.returns-in_default
returns-in_default c = number-refused c.stream_of.result _ _ _ c.stream_of.ensures c.in_default.not-Some (refl, refl)

pub returns : goal.returns
returns c = number-given c.in-Some.id _ _ _ c.in-Some.ensures (c.set_priority.result, (simp (to_z-of_z, c.ranges.priority) at c.set_priority.ensures.sets, c.set_priority.ensures.unknown, simp (to_z-of_z, c.ranges.priority) at c.set_priority.ensures.from, c.set_priority.ensures.beside), simp (to_z-of_z {w = w32} {z = c.tell_handled.result} (record { sfits = c.tell_handled.type_inv })) c.tell_handled.ensures)
