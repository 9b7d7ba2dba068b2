use Rattle.std.proofs.Common.{w32, to_z-of_z}
use Rattle.quic_streams_c.proofs.Calls.{number-given}
use Rattle.quic_streams_c.proofs.application.stop.Goals as goal

pub returns : goal.returns
returns c =
    number-given c.in-Some.id _ _ _ c.in-Some.ensures (number-given c.in-Some-small.app_code _ _ _ c.in-Some-small.ensures
    (c.stop.result, (c.stop.ensures.stops, c.stop.ensures.unknown, c.stop.ensures.from, c.stop.ensures.beside), simp (to_z-of_z {w = w32} {z = c.tell_handled.result} (record { sfits = c.tell_handled.type_inv })) c.tell_handled.ensures))
