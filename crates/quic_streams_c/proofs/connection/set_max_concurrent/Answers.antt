use Rattle.std.proofs.Common.{w32, to_z-of_z}
use Rattle.quic_streams_c.proofs.Calls.{number-given}
use Rattle.quic_streams_c.proofs.connection.set_max_concurrent.Goals as goal

pub returns : goal.returns
returns c =
    let s = c.set_max_concurrent in
    number-given c.in-Some.dir _ _ _ c.in-Some.ensures (number-given c.in-Some-small.count _ _ _ c.in-Some-small.ensures
    (s.result, s.ensures.sets, s.ensures.from, s.ensures.beside, simp (to_z-of_z {w = w32} {z = c.tell_memory.result} (record { sfits = c.tell_memory.type_inv })) c.tell_memory.ensures))
