use Rattle.std.proofs.Common.{refl, w32, to_z-of_z}
use Rattle.quic_streams_c.proofs.Calls.{number-refused, number-given}
use Rattle.quic_streams_c.proofs.buffers.emit_held.Goals as goal

pub returns-in_default : goal.returns-in_default
returns-in_default c = number-refused c.parts_of.result _ _ _ c.parts_of.ensures c.in_default.not-Some ((refl, refl), refl, refl)

pub returns : goal.returns
returns c = number-given c.in-Some.asked _ _ _ c.in-Some.ensures (record {
  answer = c.emit_buffer.result;
  emits = c.emit_buffer.ensures.emits;
  buffer = c.emit_buffer.ensures.buffer;
  from = c.emit_buffer.ensures.from;
  conn = c.emit_buffer.ensures.conn;
  tells = simp (to_z-of_z {w = w32} {z = c.tell_payload.result} (record { sfits = c.tell_payload.type_inv })) c.tell_payload.ensures;
})
