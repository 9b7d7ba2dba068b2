use Rattle.quic_history.specs.History.{Rejected}
use Rattle.quic_history.proofs.Histories.{next}
use Rattle.quic_history.proofs.Unanswered.{is-early}
use Rattle.quic_history.proofs.Renewed.{renewed, permits-no-less}
use Rattle.quic_streams.proofs.state.StreamsState.zero_rtt_rejected.Goals as goal

pub returns-clause-from : goal.returns-clause-from
returns-clause-from c = λ m h early f. next m h _ Rejected _ tt f (early, c.reject_early.ensures)

pub returns-clause-unanswered : goal.returns-clause-unanswered
returns-clause-unanswered c = λ m h client quiet f. next m h _ Rejected _ tt f (is-early m h _ client quiet f, c.reject_early.ensures)

pub returns-clause-anew : goal.returns-clause-anew
returns-clause-anew c = λ m h client own f. renewed m h _ _ client own f c.reject_early.ensures

pub returns-clause-permits : goal.returns-clause-permits
returns-clause-permits c = λ m h f. permits-no-less m h _ _ f c.reject_early.ensures
