-- What the end of a settling completes, of a pair that is decided, whatever steps led to it.
use Rattle.std.proofs.Common.{◌≡◌, false, [], ◌∷◌, ◌++◌, Option, Some, None, Ok, Err, length, refl, sym, ap, ◌∙◌, subst}
use Rattle.std.specs.Prelude.{◌&&◌, MatchBool, is_some}
use Rattle.std.proofs.lemmas.Option.{none-some}
use Rattle.quic_steps.specs.declared.steps.End.{End}
use Rattle.quic_steps.specs.declared.steps.Step.{Step}
use Rattle.quic_steps.specs.declared.steps.Step.TheVariants as steps
use Rattle.quic_steps.specs.declared.steps.Reply.TheVariants.{Done}
use Rattle.quic_steps.specs.declared.steps.PairError.TheVariants.{LimitsBelow, Undecided, Decided, OutOfMemory as NoMemory}
use Rattle.quic_exchange.specs.declared.early.EarlyLimits.{EarlyLimits}
use Rattle.quic_exchange.specs.Replies.{Answer}
use Rattle.quic_exchange.specs.State.{PairState}
use Rattle.quic_exchange.specs.Steps.{NextTaken, Next, Accepted, Rejected, Retried, needs_decision}
use Rattle.quic_exchange.specs.History.{History, Past, after, past_from, past_of, nothing_yet}
use Rattle.quic_exchange.specs.From.{Beginning, PairFrom}
use Rattle.quic_exchange.specs.Runs.{TakesSteps, none, more, sendings_of}
use Rattle.quic_exchange.specs.Promises.{Completes}
use Rattle.quic_exchange.specs.Settling.{IsSettling, IsAllReported, AreIdle, AreSettledIn, LeavesNoRest}
use Rattle.quic_exchange.specs.Completed.{HaveArrived, HaveBeenRead, HaveBeenTold, AreAllAcked, AreStopsTold}
use Rattle.quic_exchange.specs.Tale.{Tales, Told}
use Rattle.quic_link.specs.Endpoints.{IsOneOf}
use Rattle.quic_exchange.proofs.Eras.{EraFrom, ToldIn}
use Rattle.quic_exchange.proofs.ToldOnce.{told-once}
use Rattle.quic_exchange.proofs.Settling.{GoesBy, ready-phases, idle-settled, all-reported, leaves-no-rest}
use Rattle.quic_exchange.proofs.Arrived.{have-arrived}
use Rattle.quic_exchange.proofs.Freed.{all-acked}
use Rattle.quic_exchange.proofs.Completing.{have-been-read}
use Rattle.quic_exchange.proofs.Finished.{have-been-told, stops-told}
use Rattle.quic_exchange.proofs.PolledOut.{HasNoEvents, polled-out}
use Rattle.quic_exchange.proofs.Beneath.{waits-stay}
use Rattle.quic_exchange.proofs.Wide.{as_linked, decided-same}
use Rattle.quic_exchange.proofs.Led.{EraAt, era-at, Led}
use Rattle.quic_exchange.proofs.LedSteps.{led-from}

-- ---- a pair that is decided stays so

decided_accepted : (old new : PairState) (reply : Answer) → Accepted old reply new → old.waits ≡ None → new.waits ≡ None
decided_accepted old new (Ok Done) k e = absurd (none-some k.limits (sym e ∙ k.waiting))
decided_accepted old new (Err NoMemory) k e = ap (λ (v : PairState). v.waits) k.is ∙ e
decided_accepted old new (Err LimitsBelow) k e = ap (λ (v : PairState). v.waits) k.is ∙ e
decided_accepted old new (Err Decided) k e = ap (λ (v : PairState). v.waits) k.1 ∙ e
decided_accepted old new _ k e = absurd k

decided_rejected : (old new : PairState) (reply : Answer) → Rejected old reply new → old.waits ≡ None → new.waits ≡ None
decided_rejected old new (Ok Done) k e = absurd (none-some k.limits (sym e ∙ k.waiting))
decided_rejected old new (Err Decided) k e = ap (λ (v : PairState). v.waits) k.1 ∙ e
decided_rejected old new _ k e = absurd k

decided_retried : (old new : PairState) (reply : Answer) → Retried old reply new → old.waits ≡ None → new.waits ≡ None
decided_retried old new (Ok Done) k e = absurd (none-some k.limits (sym e ∙ k.waiting))
decided_retried old new (Err NoMemory) k e = ap (λ (v : PairState). v.waits) k.1 ∙ e
decided_retried old new (Err Decided) k e = ap (λ (v : PairState). v.waits) k.1 ∙ e
decided_retried old new _ k e = absurd k

decided_taken : (old new : PairState) (step : Step) (reply : Answer) → NextTaken old step reply new → old.waits ≡ None → new.waits ≡ None
decided_taken old new steps.EarlyAccept reply k e = decided_accepted old new reply k e
decided_taken old new steps.EarlyReject reply k e = decided_rejected old new reply k e
decided_taken old new steps.Retry reply k e = decided_retried old new reply k e
decided_taken old new step reply k e = waits-stay old new step reply k ∙ e

-- there is nothing to be decided
pub none-waits : (w : Option EarlyLimits) → is_some w ≡ false → w ≡ None
none-waits None e = refl
none-waits (Some k) e = cc

-- each of its steps is taken
pub next-decided : (old new : PairState) (step : Step) (reply : Answer) → old.waits ≡ None → NextTaken old step reply new → Next old step reply new
next-decided old new step reply e k =
    let P : Option EarlyLimits → Type 0 = λ w. MatchBool (is_some w && needs_decision step) ((reply ≡ Err Undecided) × (new ≡ old)) (NextTaken old step reply new) in
    subst P (sym e) k

pub steps-decided : (old : PairState) (taken : History) (new : PairState) → old.waits ≡ None → GoesBy old taken new → TakesSteps old taken new × (new.waits ≡ None)
steps-decided old _ _ e none = (none, e)
steps-decided old _ _ e (more {taken} {between} {new} step reply run n each) =
    let k = steps-decided old taken between e run in
    (more step reply k.0 (next-decided between new step reply k.1 n) tt, decided_taken between new step reply n k.1)

-- ---- what is known

past_over : (p : Past) (h taken : History) → past_from p (h ++ taken) ≡ past_from (past_from p h) taken
past_over p [] taken = refl
past_over p (e ∷ h) taken = past_over (after p e.0 e.1) h taken

past_alike : (h k taken : History) → past_of h ≡ past_of k → past_of (h ++ taken) ≡ past_of (k ++ taken)
past_alike h k taken e = past_over nothing_yet h taken ∙ ap (λ p. past_from p taken) e ∙ sym (past_over nothing_yet k taken)

-- ---- the end of a settling

module _ (s : Beginning) (h : History) (old : PairState) (taken : History) (new : PairState) (f : PairFrom s h old) (before : old.waits ≡ None) (behind : new.waits ≡ None) (settling : IsSettling old taken new) where
  abbrev led : Led f
  led = led-from f

  at_old : EraAt led.a led.b led.taken old led.tales
  at_old = era-at (as_linked s old) old (decided-same s old before) led.at

  at_new : EraFrom led.a led.b (led.taken ++ taken) new
  at_new = (ready-phases led.a led.b led.taken old taken new settling.at at_old.era settling.follows).led

  known : past_of (h ++ taken) ≡ past_of (led.taken ++ taken)
  known = past_alike h led.taken taken led.past

  pub idle-led : AreIdle new
  idle-led = idle-settled led.a led.b led.taken old taken new at_old.era settling

  module _ (settled : AreSettledIn 0 (length new.sent) new.sent) where
    pub reported-led : IsAllReported (h ++ taken) new.sent
    reported-led number x got here =
        let P : Past → Type 0 = λ p. IsOneOf number p.settled in
        subst P (sym known) (all-reported led.a led.b (led.taken ++ taken) new at_new settled number x got here)

    pub arrived-led : HaveArrived (past_of (h ++ taken)) new.sent
    arrived-led = let P : Past → Type 0 = λ p. HaveArrived p new.sent in subst P (sym known) (have-arrived led.a led.b (led.taken ++ taken) new at_new idle-led settled)

    pub read-led : HaveBeenRead (past_of (h ++ taken))
    read-led =
        let P : Past → Type 0 = λ p. HaveBeenRead p in
        subst P (sym known) (have-been-read led.a led.b led.taken old taken new at_old.era settling (have-arrived led.a led.b (led.taken ++ taken) new at_new idle-led settled))

    pub told-led : HaveBeenTold (past_of (h ++ taken))
    told-led = let P : Past → Type 0 = λ p. HaveBeenTold p in subst P (sym known) (have-been-told led.a led.b led.taken old taken new at_new settling idle-led settled)

-- by whatever steps it may have come
module _ (s : Beginning) (h : History) (v : PairState) (f : PairFrom s h v) (decided : v.waits ≡ None) (idle : AreIdle v) where
  abbrev came : Led f
  came = led-from f

  at_end : EraAt came.a came.b came.taken v came.tales
  at_end = era-at (as_linked s v) v (decided-same s v decided) came.at

  told_so : (t : Tales) → Told s (sendings_of f) t → ToldIn at_end.era t
  told_so t k = let P : Tales → Type 0 = λ x. ToldIn at_end.era x in subst P (told-once s (sendings_of f) came.tales t came.told k) at_end.told

  pub no-rest-led : LeavesNoRest (Told s (sendings_of f))
  no-rest-led t k = leaves-no-rest came.a came.b came.taken v at_end.era idle t (told_so t k)

  pub acked-led : AreSettledIn 0 (length v.sent) v.sent → AreAllAcked (Told s (sendings_of f))
  acked-led settled t k = all-acked came.a came.b came.taken v at_end.era idle settled t (told_so t k)

  pub stops-led : ((who : End) → HasNoEvents v who) → AreStopsTold (Told s (sendings_of f)) (past_of h)
  stops-led empty =
      let P : Past → Type 0 = λ p. AreStopsTold (Told s (sendings_of f)) p in
      subst P (sym came.past) (λ t k. stops-told came.a came.b came.taken v at_end.era empty t (told_so t k))

-- all that a settling completes
pub completes-led : (s : Beginning) (h : History) (old : PairState) (taken : History) (new : PairState) → PairFrom s h old → old.waits ≡ None → new.waits ≡ None → IsSettling old taken new → AreSettledIn 0 (length new.sent) new.sent → Completes s (h ++ taken) new
completes-led s h old taken new f before behind settling settled =
    let idle = idle-led s h old taken new f before behind settling in
    record {
      reported = reported-led s h old taken new f before behind settling settled;
      idle = idle;
      sent = λ led. no-rest-led s (h ++ taken) new led behind idle;
      acked = λ led. acked-led s (h ++ taken) new led behind idle settled;
      arrived = arrived-led s h old taken new f before behind settling settled;
      read = read-led s h old taken new f before behind settling settled;
      told = told-led s h old taken new f before behind settling settled;
      stops = λ led. stops-led s (h ++ taken) new led behind idle (polled-out old taken new settling);
    }
