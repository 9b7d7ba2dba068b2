use Rattle.quic_history.specs.History.{SentAgain}
use Rattle.quic_history.proofs.Histories.{next}
use Rattle.quic_history.proofs.Unanswered.{none-acked}
use Rattle.quic_streams.proofs.state.StreamsState.retransmit_all_for_0rtt.Goals as goal

pub returns-clause-from : goal.returns-clause-from
returns-clause-from c = λ m h none f. next m h _ (SentAgain c.send_again.result) _ tt f (none, c.send_again.ensures.sends none)

pub returns-clause-unanswered : goal.returns-clause-unanswered
returns-clause-unanswered c = λ m h quiet f.
    let none = none-acked m h _ quiet f in
    (c.send_again.ensures.sends none, next m h _ (SentAgain c.send_again.result) _ tt f (none, c.send_again.ensures.sends none))
