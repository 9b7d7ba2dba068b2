use Rattle.std.proofs.Common.{w32, to_z-of_z}
use Rattle.quic_streams_c.proofs.datagrams.send.Goals as goal

pub returns : goal.returns
returns c = let q = c.send_datagram.ensures in record {
  answer = c.send_datagram.result;
  permitted = q.permitted;
  queued = q.queued;
  refusal = q.refusal;
  err = q.err;
  others = q.others;
  end = q.end;
  tells = (simp (to_z-of_z {w = w32} {z = c.tell_queued.result} (record { sfits = c.tell_queued.type_inv })) c.tell_queued.ensures);
}
