-- A pair that was kept so is kept so behind each step.
use Rattle.std.proofs.Common.{◌≡◌, ℕ, Bool, true, false, List, [], ◌∷◌, ◌++◌, Option, Some, None, Ok, Err, length, refl, sym, ap, ◌∙◌, subst}
use Rattle.std.specs.Prelude.{◌&&◌, ◌<◌, ◌^◌, MatchBool, is_some, slice_get}
use Rattle.std.proofs.lemmas.Option.{none-some, same_Some}
use Rattle.quic_values.specs.declared.ids.Side.TheVariants.{Client, Server}
use Rattle.quic_outgoing.specs.declared.limits.PeerLimits.{PeerLimits}
use Rattle.quic_retransmits.specs.Pending.{nothing}
use Rattle.quic_values.specs.Ids.{other_side}
use Rattle.quic_history.specs.World.{Made, World, PermitsNoLess, made_again, start}
use Rattle.quic_history.specs.Early.{with_rejection}
use Rattle.quic_history.specs.Sends.{with_params_given}
use Rattle.quic_history.specs.History.{IsStart}
use Rattle.quic_history.proofs.Unopened.{given-unopened}
use Rattle.quic_link.specs.Endpoints.{LimitsWithin, limits_of}
use Rattle.quic_link.proofs.Rooms.{within-same}
use Rattle.quic_endpoint.specs.Ends.{EndState}
use Rattle.quic_steps.specs.declared.steps.End.{End}
use Rattle.quic_steps.specs.declared.steps.End.TheVariants.{A, B}
use Rattle.quic_steps.specs.declared.steps.Step.{Step}
use Rattle.quic_steps.specs.declared.steps.Step.TheVariants as steps
use Rattle.quic_steps.specs.declared.steps.Reply.TheVariants.{Done}
use Rattle.quic_steps.specs.declared.steps.PairError.TheVariants.{LimitsBelow, Undecided, Decided, OutOfMemory as NoMemory}
use Rattle.quic_exchange.specs.declared.early.EarlyLimits.{EarlyLimits}
use Rattle.quic_exchange.specs.Sent.{Sent}
use Rattle.quic_exchange.specs.Replies.{Answer}
use Rattle.quic_exchange.specs.State.{PairState}
use Rattle.quic_exchange.specs.Gone.{IsGone}
use Rattle.quic_exchange.specs.Steps.{NextOrdinary, NextTaken, Next, Accepted, Rejected, Retried, AcceptsEarly, RejectsEarly, Retries, needs_decision}
use Rattle.quic_exchange.specs.History.{History, Past, after, past_of, waits_then, waits_from}
use Rattle.quic_exchange.specs.From.{Beginning, PairFrom, begun, next, made_of, end_begun, limits_of_a, limits_of_b, waits_of, waits_first, AreSoundLimits}
use Rattle.quic_exchange.specs.Tale.{Tales, TellsOfPair, StepTells, tale_begun, tale_anew, told_of, with_limits_given}
use Rattle.quic_exchange.proofs.Origins.{Origin, made_in, origin_of, made-so}
use Rattle.quic_exchange.proofs.Begun.{AreTwoEnds}
use Rattle.quic_exchange.proofs.OwnDoings.{DidOwn, AreUntaken, own-next, own-again, own-renewed, own-permits, untaken-left, spelled-seen}
use Rattle.quic_exchange.proofs.Eras.{begun as begun-era, changed, Changes, accepts, retries, tale_in, tales_in, tales_changed}
use Rattle.quic_exchange.proofs.Grown.{grown-from, past-after}
use Rattle.quic_exchange.proofs.ToldOnce.{told-in-once}
use Rattle.quic_exchange.proofs.Beneath.{waits-stay, linked-next, quiet-next, after-undecided, tells-undecided, waits-undecided}
use Rattle.quic_exchange.proofs.Wide.{wide_made, as_linked, decided-same, waiting-same, wide-same, limits-a, limits-b, start-b, within-permits}
use Rattle.quic_exchange.proofs.Led.{EraAt, era-at, EraOn, era-on, Led, IsEarlyPair, origin_b, led-begun, led-same, waits-more}

-- ---- steps beside those that say what becomes of what the client sends early

-- what is to be decided is so still
waits_ordinary : (old new : PairState) (w : Option EarlyLimits) (step : Step) (reply : Answer) → NextOrdinary old step reply new → waits_then w step reply ≡ w
waits_ordinary old new w steps.EarlyAccept reply n = absurd n
waits_ordinary old new w steps.EarlyReject reply n = absurd n
waits_ordinary old new w _ reply n = refl

pub tells-ordinary : (old new : PairState) (s : Beginning) (one more : List Sent) (step : Step) (reply : Answer) (t u : Tales) → NextOrdinary old step reply new → StepTells one more step reply t u → TellsOfPair s one more step reply t u
tells-ordinary old new s one more steps.EarlyAccept reply t u n k = absurd n
tells-ordinary old new s one more steps.EarlyReject reply t u n k = absurd n
tells-ordinary old new s one more steps.Retry reply t u n k = absurd n
tells-ordinary old new s one more _ reply t u n k = k

module _ (s : Beginning) (h : History) (old new : PairState) (f : PairFrom s h old) (l : Led f) (step : Step) (reply : Answer) (n : Next old step reply new) (o : NextOrdinary old step reply new) where
  past_on : past_of (h ++ (step, reply) ∷ []) ≡ past_of (l.taken ++ (step, reply) ∷ [])
  past_on = past-after h step reply ∙ ap (λ p. after p step reply) l.past ∙ sym (past-after l.taken step reply)

  waits_on : new.waits ≡ waits_from (waits_first s) (h ++ (step, reply) ∷ [])
  waits_on = waits-stay old new step reply o ∙ l.waits ∙ sym (waits-more s h step reply ∙ waits_ordinary old new (waits_from (waits_first s) h) step reply o)

  ordinary_decided : old.waits ≡ None → Led (next step reply f n)
  ordinary_decided e =
      let none : new.waits ≡ None = waits-stay old new step reply o ∙ e in
      let at = era-on (era-at (as_linked s old) old (decided-same s old e) l.at) step reply o in
      record {
        sound = l.sound;
        a = l.a;
        b = l.b;
        taken = l.taken ++ (step, reply) ∷ [];
        tales = at.tales;
        at = era-at new (as_linked s new) (sym (decided-same s new none)) at.at;
        past = past_on;
        waits = waits_on;
        early = λ k is. absurd (none-some k (sym none ∙ is));
        told = (l.tales, l.told, tells-ordinary old new s old.sent new.sent step reply l.tales at.tales o at.tells);
      }

  module _ (k : EarlyLimits) (e : old.waits ≡ Some k) (by : needs_decision step ≡ false) where
    abbrev wide : EndState
    wide = end_begun (wide_made s.b k.remembered) (limits_of_a s)

    abbrev i : IsEarlyPair s l.a l.b k (past_of l.taken) old
    i = l.early k e

    waiting : new.waits ≡ Some k
    waiting = waits-stay old new step reply o ∙ e

    at_old : EraAt l.a l.b l.taken (record old { b = wide }) l.tales
    at_old = era-at (as_linked s old) (record old { b = wide }) (waiting-same s old k e) l.at

    at_new : EraOn l.a l.b l.taken (record old { b = wide }) l.tales step reply (record new { b = wide })
    at_new = era-on at_old step reply (linked-next old new wide i.untaken step reply by o)

    still : IsEarlyPair s l.a l.b k (past_of (l.taken ++ (step, reply) ∷ [])) new
    still =
        let g = grown-from at_old.era in
        let spelled = spelled-seen (past_of l.taken) (record old { b = wide }) g.joined.first g.joined.second g.joined.seen i.untaken in
        let own = own-next (made_of Client s.a) refl old new i.own i.untaken spelled g.recounted.tales.told g.recounted.left step reply by o in
        let quiet = quiet-next (past_of l.taken) old new step reply by o in
        record {
          began = i.began;
          a_is = i.a_is;
          b_is = i.b_is;
          other = own.other ∙ i.other;
          own = own.did;
          untaken = own.untaken;
          accepted = ap (λ (p : Past). p.accepted) (past-after l.taken step reply) ∙ quiet.0 ∙ i.accepted;
          kept = ap (λ (p : Past). p.kept) (past-after l.taken step reply) ∙ quiet.1 ∙ i.kept;
        }

    ordinary_waiting : Led (next step reply f n)
    ordinary_waiting = record {
      sound = l.sound;
      a = l.a;
      b = l.b;
      taken = l.taken ++ (step, reply) ∷ [];
      tales = at_new.tales;
      at = era-at (record new { b = wide }) (as_linked s new) (sym (waiting-same s new k waiting)) at_new.at;
      past = past_on;
      waits = waits_on;
      early = λ j is. let P : EarlyLimits → Type 0 = λ x. IsEarlyPair s l.a l.b x (past_of (l.taken ++ (step, reply) ∷ [])) new in subst P (same_Some k j (sym waiting ∙ is)) still;
      told = (l.tales, l.told, tells-ordinary old new s old.sent new.sent step reply l.tales at_new.tales o at_new.tells);
    }

-- ---- an acceptance

module _ (s : Beginning) (h : History) (old new : PairState) (f : PairFrom s h old) (l : Led f) where
  -- the limits are those of the server
  others_are : (k : EarlyLimits) → old.waits ≡ Some k → k.others ≡ limits_of_b s
  others_are k e = by s.early refl
    where
      by : (o : Option PeerLimits) → s.early ≡ o → k.others ≡ limits_of_b s
      by None none = absurd (none-some k (sym (ap (waits_of (limits_of_b s)) none) ∙ (l.early k e).began))
      by (Some r) some =
          let first : EarlyLimits = record { remembered = r; others = limits_of_b s } in
          ap (λ (x : EarlyLimits). x.others) (sym (same_Some first k (sym (ap (waits_of (limits_of_b s)) some) ∙ (l.early k e).began)))

  led_accepts : (c : AcceptsEarly old new) (n : Next old steps.EarlyAccept (Ok Done) new) → Led (next steps.EarlyAccept (Ok Done) f n)
  led_accepts c n =
      let k = c.limits in
      let e = c.waiting in
      let i = l.early k e in
      let others = others_are k e in
      let W : PeerLimits → Type 0 = λ x. LimitsWithin k.remembered x in
      let within : LimitsWithin k.remembered (limits_of_b s) = subst W others c.within in
      let wide_is : wide_made s.b k.remembered ≡ made_of Server s.b = wide-same s.b k.remembered within in
      let b_old : end_begun (wide_made s.b k.remembered) (limits_of_a s) ≡ old.b = ap (λ (m : Made). end_begun m (limits_of_a s)) wide_is ∙ sym i.other in
      let same : as_linked s old ≡ old = waiting-same s old k e ∙ ap (λ (x : EndState). record old { b = x }) b_old in
      let at : EraAt l.a l.b l.taken old l.tales = era-at (as_linked s old) old same l.at in
      let none : new.waits ≡ None = ap (λ (v : PairState). v.waits) c.is in
      let H : Made → Type 0 = λ m. LimitsWithin k.others (limits_of m) in
      let b_made : made_in Server l.b ≡ made_of Server s.b = ap (made_in Server) i.b_is ∙ wide_is in
      let V : PeerLimits → Type 0 = λ x. LimitsWithin x (limits_of_b s) in
      let honest : LimitsWithin k.others (limits_of (made_in Server l.b)) = subst H (sym b_made) (subst V (sym others) (within-same (limits_of_b s))) in
      let F : PeerLimits → Type 0 = λ x. AreSoundLimits x in
      let few : AreSoundLimits k.others = subst F (sym others) (limits-b s l.sound) in
      let change : Changes l.b (past_of l.taken) old new steps.EarlyAccept = accepts c honest few in
      let t = tales_changed change l.tales in
      let T : PeerLimits → Type 0 = λ x. TellsOfPair s old.sent new.sent steps.EarlyAccept (Ok Done) l.tales (told_of A (with_limits_given Client x) l.tales) in
      record {
        sound = l.sound;
        a = l.a;
        b = l.b;
        taken = l.taken ++ (steps.EarlyAccept, Ok Done) ∷ [];
        tales = t;
        at = era-at new (as_linked s new) (sym (decided-same s new none)) (record { era = changed steps.EarlyAccept at.era change; told = (l.tales, at.told, refl) });
        past = past-after h steps.EarlyAccept (Ok Done) ∙ l.past ∙ sym (past-after l.taken steps.EarlyAccept (Ok Done));
        waits = none ∙ sym (waits-more s h steps.EarlyAccept (Ok Done));
        early = λ j is. absurd (none-some j (sym none ∙ is));
        told = (l.tales, l.told, subst T (sym others) refl);
      }

  -- ---- the client is to begin again

  led_retries : (c : Retries old new) (n : Next old steps.Retry (Ok Done) new) → Led (next steps.Retry (Ok Done) f n)
  led_retries c n =
      let k = c.limits in
      let e = c.waiting in
      let i = l.early k e in
      let wide : EndState = end_begun (wide_made s.b k.remembered) (limits_of_a s) in
      let was : PairState = record old { b = wide } in
      let then : PairState = record new { b = wide } in
      let at : EraAt l.a l.b l.taken was l.tales = era-at (as_linked s old) was (waiting-same s old k e) l.at in
      let waits : new.waits ≡ old.waits = ap (λ (v : PairState). v.waits) c.is in
      let waiting : new.waits ≡ Some k = waits ∙ e in
      let again : Retries was then = record { limits = k; waiting = e; streams = c.streams; again = c.again; sent = c.sent; left = c.left; is = ap (λ (v : PairState). record v { b = wide }) c.is } in
      let change : Changes l.b (past_of l.taken) was then steps.Retry = retries again (made_of Client s.a) i.own i.untaken i.accepted i.kept in
      let p = past-after l.taken steps.Retry (Ok Done) in
      let D : World → Type 0 = λ w. DidOwn (made_of Client s.a) w in
      let U : List Sent → Type 0 = λ x. AreUntaken x in
      let a_new : c.streams ≡ new.a.streams = sym (ap (λ (v : PairState). v.a.streams) c.is) in
      let sent_new : c.sent ≡ new.sent = sym (ap (λ (v : PairState). v.sent) c.is) in
      let still : IsEarlyPair s l.a l.b k (past_of (l.taken ++ (steps.Retry, Ok Done) ∷ [])) new = record {
        began = i.began;
        a_is = i.a_is;
        b_is = i.b_is;
        other = ap (λ (v : PairState). v.b) c.is ∙ i.other;
        own = subst D a_new (own-again (made_of Client s.a) old.a.streams c.streams i.own c.again);
        untaken = subst U sent_new (untaken-left old.sent c.sent c.left);
        accepted = ap (λ (x : Past). x.accepted) p ∙ i.accepted;
        kept = ap (λ (x : Past). x.kept) p ∙ i.kept;
      } in
      record {
        sound = l.sound;
        a = l.a;
        b = l.b;
        taken = l.taken ++ (steps.Retry, Ok Done) ∷ [];
        tales = tales_changed change l.tales;
        at = era-at then (as_linked s new) (sym (waiting-same s new k waiting)) (record { era = changed steps.Retry at.era change; told = (l.tales, at.told, refl) });
        past = past-after h steps.Retry (Ok Done) ∙ ap (λ (x : Past). after x steps.Retry (Ok Done)) l.past ∙ sym p;
        waits = waits ∙ l.waits ∙ sym (waits-more s h steps.Retry (Ok Done));
        early = λ j is. let P : EarlyLimits → Type 0 = λ x. IsEarlyPair s l.a l.b x (past_of (l.taken ++ (steps.Retry, Ok Done) ∷ [])) new in subst P (same_Some k j (sym waiting ∙ is)) still;
        told = (l.tales, l.told, refl);
      }

  -- ---- a rejection

  module _ (c : RejectsEarly old new) where
    abbrev limits : EarlyLimits
    limits = c.limits

    abbrev early : IsEarlyPair s l.a l.b c.limits (past_of l.taken) old
    early = l.early c.limits c.waiting

    abbrev anew : Made
    anew = made_again (with_rejection old.a.streams)

    permits : PermitsNoLess (made_of Client s.a) anew
    permits = own-permits (made_of Client s.a) old.a.streams early.own

    renewed : IsStart anew (with_rejection old.a.streams)
    renewed = own-renewed (made_of Client s.a) old.a.streams refl early.own

    abbrev a_anew : Origin
    a_anew = origin_of anew (limits_of_b s)

    a_made : made_in Client a_anew ≡ anew
    a_made = made-so Client anew (limits_of_b s) permits.side

    a_new : new.a ≡ end_begun (made_in Client a_anew) (limits_of_b s)
    a_new =
        ap (λ (v : PairState). v.a) c.is
        ∙ ap (λ (w : World). record { streams = with_params_given w c.limits.others; pending = nothing }) renewed.is
        ∙ ap (λ (w : World). record { streams = w; pending = nothing }) (given-unopened (start anew) c.limits.others refl refl)
        ∙ ap (end_begun anew) (others_are c.limits c.waiting)
        ∙ sym (ap (λ (m : Made). end_begun m (limits_of_b s)) a_made)

    two_anew : AreTwoEnds (made_in Client a_anew) (made_of Server s.b) (limits_of_b s) (limits_of_a s)
    two_anew =
        let P : Made → Type 0 = λ m. AreTwoEnds m (made_of Server s.b) (limits_of_b s) (limits_of_a s) in
        let Q : World → Type 0 = λ w. IsStart anew w in
        let window = permits.window in
        let small = l.sound.stream_a in
        subst P (sym a_made) (record {
          first = subst Q renewed.is renewed;
          second = start-b s l.sound;
          small_first = subst (λ n. n < 2 ^ 62) (sym window) small;
          small_second = l.sound.stream_b;
          sides = ap other_side (sym permits.side);
          within = within-same (limits_of_b s);
          others_within = within-permits (made_of Client s.a) anew permits;
        })

    abbrev was : PairState
    was = record old { b = end_begun (wide_made s.b c.limits.remembered) (limits_of_a s) }

    at_was : EraAt l.a l.b l.taken was l.tales
    at_was = era-at (as_linked s old) was (waiting-same s old c.limits c.waiting) l.at

    tales_was : (grown-from at_was.era).recounted.tales ≡ l.tales
    tales_was = told-in-once at_was.era _ l.tales (grown-from at_was.era).told at_was.told

    window_is : a_anew.send_window ≡ (l.tales.of A).send_window
    window_is =
        let k = (grown-from at_was.era).recounted.counted A in
        k.from.sends.send_window ∙ k.tells.window_is ∙ ap (λ (t : Tales). (t.of A).send_window) tales_was

    count_is : length new.sent ≡ l.tales.payloads
    count_is = ap (λ (v : PairState). length v.sent) c.is ∙ c.left.size ∙ sym (grown-from at_was.era).recounted.count ∙ ap (λ (t : Tales). t.payloads) tales_was

    tales_anew : tales_in a_anew (origin_b s) new.sent ≡ record l.tales { of = tale_anew s l.tales; told = λ number. 0 }
    tales_anew = λ k. record { of = λ end. of_is end k; payloads = count_is k; told = λ number. 0 }
      where
        of_is : (end : End) → tale_in a_anew (origin_b s) end ≡ tale_anew s l.tales end
        of_is A = ap (λ n. tale_begun Client n (limits_of_b s)) window_is
        of_is B = refl

    led_rejects : (n : Next old steps.EarlyReject (Ok Done) new) → Led (next steps.EarlyReject (Ok Done) f n)
    led_rejects n =
        let none : new.waits ≡ None = ap (λ (v : PairState). v.waits) c.is in
        let b_new : new.b ≡ end_begun (made_of Server s.b) (limits_of_a s) = ap (λ (v : PairState). v.b) c.is ∙ early.other in
        let sent_new : new.sent ≡ c.sent = ap (λ (v : PairState). v.sent) c.is in
        let G : List Sent → Type 0 = λ x. (number : ℕ) (p : Sent) → slice_get x number ≡ Some p → IsGone p in
        let at : EraAt a_anew (origin_b s) [] new (tales_in a_anew (origin_b s) new.sent) = record {
          era = begun-era (record { of_a = a_new; of_b = b_new; ends = two_anew; gone = subst G (sym sent_new) c.left.each; limits_a = limits-b s l.sound; limits_b = limits-a s l.sound });
          told = refl;
        } in
        record {
          sound = l.sound;
          a = a_anew;
          b = origin_b s;
          taken = [];
          tales = tales_in a_anew (origin_b s) new.sent;
          at = era-at new (as_linked s new) (sym (decided-same s new none)) at;
          past = past-after h steps.EarlyReject (Ok Done);
          waits = none ∙ sym (waits-more s h steps.EarlyReject (Ok Done));
          early = λ j is. absurd (none-some j (sym none ∙ is));
          told = (l.tales, l.told, tales_anew);
        }

-- ---- each step

tells_refused : (s : Beginning) (sent : List Sent) (step : Step) (t : Tales) → TellsOfPair s sent sent step (Err Undecided) t t
tells_refused s sent steps.EarlyAccept t = refl
tells_refused s sent steps.EarlyReject t = refl
tells_refused s sent steps.Retry t = refl
tells_refused s sent step t = tells-undecided sent step t

module _ (s : Beginning) (h : History) (old new : PairState) (f : PairFrom s h old) (l : Led f) where
  -- a step that is taken, where the client is to act while it is not decided
  led_ordinary : (step : Step) (reply : Answer) (n : Next old step reply new) → (is_some old.waits && needs_decision step) ≡ false → NextOrdinary old step reply new → Led (next step reply f n)
  led_ordinary step reply n free o = by old.waits refl
    where
      by : (w : Option EarlyLimits) → old.waits ≡ w → Led (next step reply f n)
      by None e = ordinary_decided s h old new f l step reply n o e
      by (Some k) e = ordinary_waiting s h old new f l step reply n o k e (ap (λ (w : Option EarlyLimits). is_some w && needs_decision step) (sym e) ∙ free)

  accepted : (reply : Answer) (n : Next old steps.EarlyAccept reply new) → Accepted old reply new → Led (next steps.EarlyAccept reply f n)
  accepted (Ok Done) n k = led_accepts s h old new f l k n
  accepted (Err NoMemory) n k = led-same f l steps.EarlyAccept (Err NoMemory) n k.is (λ p. refl) (λ w. refl) (λ t. refl)
  accepted (Err LimitsBelow) n k = led-same f l steps.EarlyAccept (Err LimitsBelow) n k.is (λ p. refl) (λ w. refl) (λ t. refl)
  accepted (Err Decided) n k = led-same f l steps.EarlyAccept (Err Decided) n k.1 (λ p. refl) (λ w. refl) (λ t. refl)
  accepted _ n k = absurd k

  rejected : (reply : Answer) (n : Next old steps.EarlyReject reply new) → Rejected old reply new → Led (next steps.EarlyReject reply f n)
  rejected (Ok Done) n k = led_rejects s h old new f l k n
  rejected (Err Decided) n k = led-same f l steps.EarlyReject (Err Decided) n k.1 (λ p. refl) (λ w. refl) (λ t. refl)
  rejected _ n k = absurd k

  retried : (reply : Answer) (n : Next old steps.Retry reply new) → Retried old reply new → Led (next steps.Retry reply f n)
  retried (Ok Done) n k = led_retries s h old new f l k n
  retried (Err NoMemory) n k = led-same f l steps.Retry (Err NoMemory) n k.1 (λ p. refl) (λ w. refl) (λ t. refl)
  retried (Err Decided) n k = led-same f l steps.Retry (Err Decided) n k.1 (λ p. refl) (λ w. refl) (λ t. refl)
  retried _ n k = absurd k

  led_taken : (step : Step) (reply : Answer) (n : Next old step reply new) → (is_some old.waits && needs_decision step) ≡ false → NextTaken old step reply new → Led (next step reply f n)
  led_taken steps.EarlyAccept reply n free k = accepted reply n k
  led_taken steps.EarlyReject reply n free k = rejected reply n k
  led_taken steps.Retry reply n free k = retried reply n k
  led_taken step reply n free k = led_ordinary step reply n free k

  led_next : (step : Step) (reply : Answer) (n : Next old step reply new) → Led (next step reply f n)
  led_next step reply n = by (is_some old.waits && needs_decision step) refl n
    where
      by : (b : Bool) → (is_some old.waits && needs_decision step) ≡ b → MatchBool b ((reply ≡ Err Undecided) × (new ≡ old)) (NextTaken old step reply new) → Led (next step reply f n)
      by true e k =
          let P : Answer → Type 0 = λ r. (m : Next old step r new) → Led (next step r f m) in
          subst P (sym k.0) (λ m. led-same f l step (Err Undecided) m k.1 (λ p. after-undecided p step) (λ w. waits-undecided w step) (λ t. tells_refused s old.sent step t)) n
      by false e k = led_taken step reply n e k

-- whatever steps led to a pair
pub led-from : {s : Beginning} {h : History} {v : PairState} (f : PairFrom s h v) → Led f
led-from {s} {h} {v} (begun n) = led-begun s v n
led-from {s} (next {h} {old} {new} step reply f n) = led_next s h old new f (led-from f) step reply n

-- an ordinary step that is taken is one beside the wide server too
pub ordinary-linked : {s : Beginning} {h : History} {old : PairState} (f : PairFrom s h old) (l : Led f) (new : PairState) (step : Step) (reply : Answer) → (is_some old.waits && needs_decision step) ≡ false → NextOrdinary old step reply new → NextOrdinary (as_linked s old) step reply (as_linked s new)
ordinary-linked {s} {h} {old} f l new step reply free o = by old.waits refl
  where
    both : (u w : PairState) → u ≡ as_linked s old → w ≡ as_linked s new → NextOrdinary u step reply w → NextOrdinary (as_linked s old) step reply (as_linked s new)
    both u w e d n =
        let P : PairState → Type 0 = λ x. NextOrdinary x step reply w in
        let Q : PairState → Type 0 = λ x. NextOrdinary (as_linked s old) step reply x in
        subst Q d (subst P e n)

    by : (w : Option EarlyLimits) → old.waits ≡ w → NextOrdinary (as_linked s old) step reply (as_linked s new)
    by None e = both old new (sym (decided-same s old e)) (sym (decided-same s new (waits-stay old new step reply o ∙ e))) o
    by (Some k) e =
        let wide : EndState = end_begun (wide_made s.b k.remembered) (limits_of_a s) in
        let waiting = waits-stay old new step reply o ∙ e in
        both (record old { b = wide }) (record new { b = wide }) (sym (waiting-same s old k e)) (sym (waiting-same s new k waiting))
        (linked-next old new wide (l.early k e).untaken step reply (ap (λ (w : Option EarlyLimits). is_some w && needs_decision step) (sym e) ∙ free) o)
