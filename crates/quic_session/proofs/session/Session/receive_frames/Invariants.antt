use Rattle.std.proofs.Common.{length}
use Rattle.quic_session.specs.Receiving.{ReceivesOnly}
use Rattle.quic_session.proofs.Taken.{Handed}
use Rattle.quic_session.proofs.session.Session.receive_frames.Given as goal

abbrev pub invariant-loop-frame : goal.invariant-loop-frame
invariant-loop-frame l = record {
  handed : Handed l.payload_len l.first l.fn.self l.fn.frames.items l.list.items l.next l.self;
  others : ReceivesOnly l.fn.self l.self;
}

abbrev pub decreases-loop-frame : goal.decreases-loop-frame
decreases-loop-frame l = length l.list.items
