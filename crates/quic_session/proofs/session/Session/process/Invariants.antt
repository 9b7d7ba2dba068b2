use Rattle.std.proofs.Common.{◌≤◌, ◌-◌, length, drop}
use Rattle.quic_session.specs.Receiving.{ReceivesOnly}
use Rattle.quic_session.proofs.Processed.{Processed}
use Rattle.quic_session.proofs.session.Session.process.Given as goal

abbrev pub invariant-loop-length : goal.invariant-loop-length
invariant-loop-length l = record {
  on : l.fn.first ≤ l.next;
  within : l.next ≤ length l.payload;
  processed : Processed l.fn.self (drop l.fn.first l.payload) (drop l.next l.payload) l.self;
  others : ReceivesOnly l.fn.self l.self;
}

abbrev pub decreases-loop-length : goal.decreases-loop-length
decreases-loop-length l = length l.payload - l.next
