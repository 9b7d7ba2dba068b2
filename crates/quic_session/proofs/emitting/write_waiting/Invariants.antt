use Rattle.std.proofs.Common.{◌≡◌, length}
use Rattle.quic_session.specs.Emitting.{SendsOldest}
use Rattle.quic_session.proofs.emitting.write_waiting.Given as goal

abbrev pub invariant-waiting : goal.invariant-waiting
invariant-waiting l = record {
  sends : SendsOldest l.max_size l.fn.datagrams.outgoing l.fn.bytes.items l.sent l.datagrams.outgoing l.bytes.items;
  same : l.datagrams ≡ record l.fn.datagrams { outgoing = l.datagrams.outgoing };
}

abbrev pub decreases-waiting : goal.decreases-waiting
decreases-waiting l = length l.datagrams.outgoing
