use Rattle.std.proofs.Common.{refl, w32, to_z-of_z}
use Rattle.quic_streams_c.proofs.Calls.{number-refused, number-given}
use Rattle.quic_streams_c.proofs.payloads.emit_lent.Goals as goal

pub returns-in_default : goal.returns-in_default
returns-in_default c = number-refused c.parts_of.result _ _ _ c.parts_of.ensures c.in_default.not-Some ((refl, refl), refl, refl)

pub returns : goal.returns
returns c = number-given c.in-Some.asked _ _ _ c.in-Some.ensures (record {
  answer = c.emit_lent-answer.result;
  emits = c.emit_lent-answer.ensures.emits;
  from = c.emit_lent-answer.ensures.from;
  conn = c.emit_lent-answer.ensures.conn;
  tells = simp (to_z-of_z {w = w32} {z = c.tell_lent.result} (record { sfits = c.tell_lent.type_inv })) c.tell_lent.ensures.tells;
  place = c.tell_lent.ensures.place;
})
