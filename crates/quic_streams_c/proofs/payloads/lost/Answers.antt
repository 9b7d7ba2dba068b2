use Rattle.std.proofs.Common.{w32, to_z-of_z}
use Rattle.quic_streams_c.proofs.payloads.lost.Goals as goal

pub returns : goal.returns
returns c = (c.lost.result, c.lost.ensures.loses, c.lost.ensures.others, (simp (to_z-of_z {w = w32} {z = c.tell_settled.result} (record { sfits = c.tell_settled.type_inv })) c.tell_settled.ensures))
