use Rattle.std.proofs.Common.{w32, to_z-of_z}
use Rattle.quic_streams_c.proofs.Calls.{number-given}
use Rattle.quic_streams_c.proofs.application.reset.Goals as goal

pub returns : goal.returns
returns c =
    number-given c.in-Some.id _ _ _ c.in-Some.ensures (number-given c.in-Some-small.app_code _ _ _ c.in-Some-small.ensures
    (c.reset.result, (c.reset.ensures.resets, c.reset.ensures.unknown, c.reset.ensures.from, c.reset.ensures.beside), simp (to_z-of_z {w = w32} {z = c.tell_handled.result} (record { sfits = c.tell_handled.type_inv })) c.tell_handled.ensures))
