-- Steps beside those that say what becomes of what a client sends early.
use Rattle.quic_exchange.specs.declared.phase.Phase.{Phase}
use Rattle.quic_exchange.specs.declared.phase.Phase.TheVariants as phase
use Rattle.quic_exchange.specs.Replies.{Answer}
use Rattle.quic_exchange.specs.State.{PairState}
use Rattle.quic_exchange.specs.Steps.{NextOrdinary, NextTaken}
use Rattle.quic_exchange.specs.Settling.{step_at}

-- the step of a phase is none of them
pub ordinary-at : (at : Phase) (old new : PairState) (reply : Answer) → NextTaken old (step_at at) reply new → NextOrdinary old (step_at at) reply new
ordinary-at (phase.Report payload quiet) old new reply n = n
ordinary-at (phase.ReportLost payload quiet) old new reply n = n
ordinary-at (phase.Accept who dir) old new reply n = n
ordinary-at (phase.Read who id ordered) old new reply n = n
ordinary-at (phase.Poll who) old new reply n = n
ordinary-at phase.EmitOfA old new reply n = n
ordinary-at (phase.EmitOfB first empty quiet) old new reply n = n
ordinary-at (phase.Deliver payload frame next quiet) old new reply n = n
ordinary-at (phase.Drop payload) old new reply n = n
