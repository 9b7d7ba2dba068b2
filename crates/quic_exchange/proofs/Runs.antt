-- Lemmas on many steps.
use Rattle.std.proofs.Common.{◌≡◌, List, [], ◌∷◌, ◌++◌, length, refl, ap, arith, append_assoc, append-nil}
use Rattle.std.specs.List.{zip}
use Rattle.quic_steps.specs.declared.steps.Step.{Step}
use Rattle.quic_exchange.specs.Replies.{Answer}
use Rattle.quic_exchange.specs.State.{PairState}
use Rattle.quic_exchange.specs.Steps.{Next}
use Rattle.quic_exchange.specs.History.{History}
use Rattle.quic_exchange.specs.From.{Beginning, PairFrom, next}
use Rattle.quic_exchange.specs.Promises.{HoldsOf, IsPromised, EachIsPromised}
use Rattle.quic_exchange.specs.Runs.{StepByStep, none, more, TakesSteps, StaysIfRefused, NetworkOf}
use Rattle.quic_exchange.proofs.Leads.{headline-led, honest-led, welcome-led, stays-led, refused-led, unrefused-led, readable-led, drains-led, asks-led, not-withheld-led}
use Rattle.quic_exchange.proofs.Network.{changes-network, network-led}

-- one more step and one more reply
zip-behind : {X Y : Type 0} (xs : List X) (ys : List Y) (x : X) (y : Y) → length ys ≡ length xs → zip (xs ++ x ∷ []) (ys ++ y ∷ []) ≡ zip xs ys ++ (x, y) ∷ []
zip-behind [] [] x y e = refl
zip-behind [] (k ∷ ys) x y e = absurd (omega arith)
zip-behind (k ∷ xs) [] x y e = absurd (omega arith)
zip-behind (j ∷ xs) (k ∷ ys) x y e = ap (λ r. (j, k) ∷ r) (zip-behind xs ys x y (omega arith))

-- a run goes on by one step
pub steps-more : {old between new : PairState} (taken : List Step) (replies longer : List Answer) (step : Step) (reply : Answer) → length replies ≡ length taken → longer ≡ replies ++ reply ∷ []
    → TakesSteps old (zip taken replies) between → Next between step reply new → TakesSteps old (zip (taken ++ step ∷ []) longer) new
steps-more taken replies longer step reply count e run n =
    rw (e, zip-behind taken replies step reply count) (more step reply run n tt)

-- the history goes on by the steps of a run
pub from-steps : {s : Beginning} {h : History} {old : PairState} {taken : History} {new : PairState} → PairFrom s h old → TakesSteps old taken new → PairFrom s (h ++ taken) new
from-steps {s} {h} {old} f none = rw (append-nil h) f
from-steps {s} {h} {old} f (more {taken} {between} {new} step reply run n each) =
    rw (← append_assoc h taken ((step, reply) ∷ [])) (next step reply (from-steps f run) n)

-- what is promised of a pair to which steps led
pub holds-led : {s : Beginning} {h : History} {v : PairState} → PairFrom s h v → HoldsOf s h v
holds-led f = record { from = f; headline = headline-led f; honest = honest-led f; returned = network-led f; welcome = welcome-led f }

-- of a step of it
pub promises-led : (s : Beginning) (h : History) (old new : PairState) (step : Step) (reply : Answer) → PairFrom s h old → Next old step reply new → IsPromised s h old step reply new
promises-led s h old new step reply f n = record {
  behind = holds-led (next step reply f n);
  refused = refused-led s h old new step reply f n;
  unrefused = unrefused-led s h old new step reply f n;
  readable = readable-led s h old new step reply f n;
  drained = drains-led s h old new step reply f n;
  due = asks-led s h old new step reply f n;
  not_withheld = λ led. not-withheld-led s h old new step reply led n;
}

-- and of each step of a run
pub each-promises : (s : Beginning) (h : History) (old : PairState) (taken : History) (new : PairState) → PairFrom s h old → TakesSteps old taken new → StepByStep (EachIsPromised s h) old taken new
each-promises s h old _ _ f none = none
each-promises s h old _ _ f (more {taken} {between} {new} step reply run n each) =
    more step reply (each-promises s h old taken between f run) n (promises-led s (h ++ taken) between new step reply (from-steps f run) n)

-- a refused step of a run left the pair as it was
pub each-stays : (old : PairState) (taken : History) (new : PairState) → TakesSteps old taken new → StepByStep StaysIfRefused old taken new
each-stays old _ _ none = none
each-stays old _ _ (more {taken} {between} {new} step reply run n each) =
    more step reply (each-stays old taken between run) n (λ r. stays-led between new step reply n r)

-- each step of a run changed the network as it may
pub each-network : (old : PairState) (taken : History) (new : PairState) → TakesSteps old taken new → StepByStep NetworkOf old taken new
each-network old _ _ none = none
each-network old _ _ (more {taken} {between} {new} step reply run n each) =
    more step reply (each-network old taken between run) n (changes-network between new step reply n)
