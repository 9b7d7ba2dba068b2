use Rattle.std.proofs.Common.{refl, w32, to_z-of_z}
use Rattle.quic_streams_c.proofs.Calls.{number-refused, number-given}
use Rattle.quic_streams_c.proofs.application.write.Goals as goal

pub returns-in_default : goal.returns-in_default
returns-in_default c = number-refused c.stream_of.result _ _ _ c.stream_of.ensures c.in_default.not-Some ((refl, refl), refl, refl)

pub returns : goal.returns
returns c =
    let w = c.write-answer.ensures in
    let tells = rw c.stopped_first.ensures at c.tell_write.ensures in
    number-given c.in-Some.id _ _ _ c.in-Some.ensures (c.write-answer.result, (w.writes, w.unknown, w.from, w.beside), simp (to_z-of_z {w = w32} {z = c.tell_write.result} (record { sfits = c.tell_write.type_inv })) tells)
