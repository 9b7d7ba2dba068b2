use Rattle.std.proofs.Common.{w32, to_z-of_z}
use Rattle.quic_streams_c.proofs.peer.hand.Goals as goal

pub returns : goal.returns
returns c = let r = c.receive_frame_within in record { answer = r.result; receives = r.ensures.receives; from = r.ensures.from; others = r.ensures.others; tells = (simp (to_z-of_z {w = w32} {z = c.tell_taken.result} (record { sfits = c.tell_taken.type_inv })) c.tell_taken.ensures) }
