use Rattle.std.proofs.Common.{w32, to_z-of_z}
use Rattle.quic_streams_c.proofs.connection.send_early_again.Goals as goal

pub returns : goal.returns
returns c = let r = c.retransmit_all_for_0rtt in record {
  answer = r.result;
  sends = r.ensures.sends;
  unanswered = r.ensures.unanswered;
  unacked = r.ensures.unacked;
  refused = r.ensures.err;
  pending = r.ensures.pending;
  beside = r.ensures.beside;
  tells = (simp (to_z-of_z {w = w32} {z = c.tell_memory.result} (record { sfits = c.tell_memory.type_inv })) c.tell_memory.ensures);
}
