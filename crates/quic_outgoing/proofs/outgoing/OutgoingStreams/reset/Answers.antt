use Rattle.quic_retransmits.specs.Pending.{pending_view}
use Rattle.quic_outgoing.specs.Shown.{outgoing_view}
use Rattle.quic_outgoing.specs.History.{Reset}
use Rattle.quic_outgoing.proofs.Histories.{continues}
use Rattle.quic_outgoing.proofs.outgoing.OutgoingStreams.reset.Goals as goal

pub returns-clause-from : goal.returns-clause-from
returns-clause-from c = continues (outgoing_view c.args.self.now) (Reset c.args.id c.args.error_code c.give_up.result) (outgoing_view c.give_up.new.self)
    (pending_view c.args.pending.now, pending_view c.give_up.new.pending, c.give_up.ensures.resets)
