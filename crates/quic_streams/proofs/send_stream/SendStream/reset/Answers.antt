use Rattle.quic_history.specs.SendEvents.{ResetOwn}
use Rattle.quic_retransmits.specs.Pending.{pending_view}
use Rattle.quic_streams.specs.Shown.{streams_view}
use Rattle.quic_history.specs.History.{Sending}
use Rattle.quic_history.proofs.Histories.{next}
use Rattle.quic_streams.proofs.send_stream.SendStream.reset.Goals as goal

pub returns-clause-from : goal.returns-clause-from
returns-clause-from c = λ m h f.
    next m h (streams_view c.args.self.now.state.now) (Sending (ResetOwn c.args.self.now.id c.args.error_code c.reset_sending.result)) (streams_view c.reset_sending.new.self) tt f
    (pending_view c.args.self.now.pending.now, pending_view c.reset_sending.new.pending, c.reset_sending.ensures.resets)
