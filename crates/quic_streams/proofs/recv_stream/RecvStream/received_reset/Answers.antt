use Rattle.quic_streams.specs.Shown.{streams_view}
use Rattle.quic_retransmits.specs.Pending.{pending_view}
use Rattle.quic_history.specs.History.{ToldReset}
use Rattle.quic_history.proofs.Histories.{next}
use Rattle.quic_streams.proofs.recv_stream.RecvStream.received_reset.Goals as goal

pub returns-clause-from : goal.returns-clause-from
returns-clause-from c = λ m h f.
    next m h (streams_view c.args.self.now.state.now) (ToldReset c.args.self.now.id c.tell_reset.result) (streams_view c.tell_reset.new.self) tt f
    (pending_view c.args.self.now.pending.now, pending_view c.tell_reset.new.pending, c.tell_reset.ensures)
