use Rattle.quic_history.specs.SendEvents.{WroteOwn}
use Rattle.quic_retransmits.specs.Pending.{pending_view}
use Rattle.quic_streams.specs.Connection.{is_shut}
use Rattle.quic_streams.specs.Shown.{streams_view}
use Rattle.quic_history.specs.History.{Sending}
use Rattle.quic_history.proofs.Histories.{next}
use Rattle.quic_streams.proofs.send_stream.SendStream.write_chunks.Goals as goal

pub returns-clause-from : goal.returns-clause-from
returns-clause-from c = λ m h f.
    next m h (streams_view c.args.self.now.state.now) (Sending (WroteOwn c.args.self.now.id c.args.chunks.now (is_shut c.args.self.now.conn) c.write_lists.result)) (streams_view c.write_lists.new.self) tt f
    (pending_view c.args.self.now.pending.now, pending_view c.write_lists.new.pending, c.write_lists.ensures.writes.0, c.write_lists.ensures.writes.1)
