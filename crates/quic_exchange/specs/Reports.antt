-- Reports of payloads.
use Rattle.std.specs.Prelude.{◌≡◌, true, false, MatchBool}
use Rattle.quic_steps.specs.declared.steps.PairError.{PairError}
use Rattle.quic_steps.specs.declared.steps.PairError.TheVariants as refusals
use Rattle.quic_exchange.specs.Sent.{Sent}
use Rattle.quic_exchange.specs.declared.unsettled.Report.{Report}
use Rattle.quic_exchange.specs.Payloads.{SentText, AreAllAccepted, LacksAccepted}
use Rattle.quic_exchange.specs.Unsettled.{needs_acceptance, may_report}

-- a report of a kind may be served, as far as the marks of the payload's frames say
abbrev pub MayServe : Report → SentText → Type 0
MayServe kind text = MatchBool (needs_acceptance kind) (AreAllAccepted text) (Unit {0})

-- why a report of a payload is refused: it is settled for that report, or one of its frames was not accepted
abbrev pub RefusesReport : Report → Sent → PairError → Type 0
RefusesReport kind s refusals.AlreadySettled = may_report kind s.unsettled ≡ false
RefusesReport kind s refusals.NotAccepted = (may_report kind s.unsettled ≡ true) × (needs_acceptance kind ≡ true) × LacksAccepted s.text
RefusesReport kind s _ = ⊥
