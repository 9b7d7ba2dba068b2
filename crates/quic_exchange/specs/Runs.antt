-- Many steps, one after the other.
use Rattle.std.specs.Prelude.{[], ◌∷◌, ◌++◌, ◌≡◌, List}
use Rattle.quic_steps.specs.declared.steps.Step.{Step}
use Rattle.quic_exchange.specs.Sent.{Sent}
use Rattle.quic_exchange.specs.Replies.{Answer}
use Rattle.quic_exchange.specs.State.{PairState}
use Rattle.quic_exchange.specs.Steps.{Next}
use Rattle.quic_exchange.specs.History.{History}
use Rattle.quic_exchange.specs.From.{Beginning, PairFrom, begun, next}
use Rattle.quic_exchange.specs.Refused.{IsRefused}
use Rattle.quic_exchange.specs.Network.{ChangesNetwork}
use Rattle.quic_exchange.specs.Tale.{Sendings, Told, TellsOfPair}
use Rattle.quic_exchange.specs.Tale as tale
use Rattle.quic_exchange.specs.Withheld.{NotWithheld}

-- steps were taken one after the other, each with its reply, as `Goes` says of each; of each of them holds what `Each` says of the
-- steps of the run before it, of the pair before it, of the step and its reply, and of the pair behind it
pub data StepsBy (Goes : PairState → Step → Answer → PairState → Type 0) (Each : History → PairState → Step → Answer → PairState → Type 0) (old : PairState) : History → PairState → Type 0 where
  none : StepsBy Goes Each old [] old
  more : {taken : History} {between new : PairState} (step : Step) (reply : Answer) → StepsBy Goes Each old taken between → Goes between step reply new → Each taken between step reply new → StepsBy Goes Each old (taken ++ (step, reply) ∷ []) new

-- so they were, each as a step of a pair is
abbrev pub StepByStep : (History → PairState → Step → Answer → PairState → Type 0) → PairState → History → PairState → Type 0
StepByStep Each old taken new = StepsBy Next Each old taken new

-- nothing more is said of each
abbrev pub TakesSteps : PairState → History → PairState → Type 0
TakesSteps old taken new = StepByStep (λ before between step reply after. Unit {0}) old taken new

-- a refused step left the pair as it was
abbrev pub StaysIfRefused : History → PairState → Step → Answer → PairState → Type 0
StaysIfRefused before between step reply after = IsRefused reply → after ≡ between

-- a step changed the network as it may
abbrev pub NetworkOf : History → PairState → Step → Answer → PairState → Type 0
NetworkOf before between step reply after = ChangesNetwork between step reply after

-- the payloads behind each of the steps that led to a pair
abbrev pub sendings_of : {s : Beginning} {h : History} {v : PairState} → PairFrom s h v → Sendings h v.sent
sendings_of (begun new) = tale.none
sendings_of (next {h} {old} {new} step reply before taken) = tale.more step reply new.sent (sendings_of before)

-- a step withheld nothing on the sending side that was permitted, by the steps that led to the pair before it
abbrev pub PermitsAll : {s : Beginning} {h : History} {v : PairState} → PairFrom s h v → Step → Answer → List Sent → Type 0
PermitsAll {s} {h} {v} led step reply after = NotWithheld (Told s (sendings_of led)) (TellsOfPair s v.sent after step reply) step reply
