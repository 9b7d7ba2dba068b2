-- A client that sets nothing of what it permits before the server rejects what it sent early permits what it was made with.
use Rattle.std.proofs.Common.{◌≡◌, ℕ, Bool, true, false, [], ◌∷◌, ◌++◌, Option, Some, None, Ok, Err, refl, sym, ap, ◌∙◌, subst, inl, inr, arith, ◌≤◌, ◌<◌, ◌^◌}
use Rattle.std.specs.Prelude.{◌&&◌, MatchBool, is_some}
use Rattle.std.proofs.lemmas.Option.{none-some}
use Rattle.std.proofs.lemmas.List.{append_assoc}
use Rattle.quic_values.specs.declared.ids.Dir.TheVariants.{Bi, Uni}
use Rattle.quic_values.specs.declared.ids.Side.TheVariants.{Client}
use Rattle.quic_limits.specs.Credit.{Credit, new_credit, max_data_of}
use Rattle.quic_limits.specs.Remote.{Remote, new_remote}
use Rattle.quic_history.specs.World.{IsUnusedCredit, IsUnusedRemote, made_again, start}
use Rattle.quic_history.specs.Early.{with_rejection, announced_anew}
use Rattle.quic_history.specs.History.{IsStart}
use Rattle.quic_endpoint.specs.Ends.{EndState}
use Rattle.quic_steps.specs.declared.steps.End.TheVariants.{A}
use Rattle.quic_steps.specs.declared.steps.Step.{Step}
use Rattle.quic_steps.specs.declared.steps.Step.TheVariants as steps
use Rattle.quic_steps.specs.declared.steps.Reply.TheVariants.{Done}
use Rattle.quic_steps.specs.declared.steps.PairError.TheVariants.{LimitsBelow, Undecided, Decided, OutOfMemory as NoMemory}
use Rattle.quic_exchange.specs.declared.early.EarlyLimits.{EarlyLimits}
use Rattle.quic_exchange.specs.Replies.{Answer}
use Rattle.quic_exchange.specs.State.{PairState}
use Rattle.quic_exchange.specs.Steps.{NextOrdinary, NextTaken, Next, RejectsEarly, Retries, needs_decision}
use Rattle.quic_exchange.specs.History.{History, past_of}
use Rattle.quic_exchange.specs.From.{Beginning, PairFrom, begun, next, made_of, end_begun, limits_first, limits_of_a}
use Rattle.quic_exchange.proofs.OwnDoings.{own-bare, own-renewed, own-unacked, spelled-seen}
use Rattle.quic_exchange.proofs.Grown.{grown-from}
use Rattle.quic_exchange.proofs.Wide.{wide_made, as_linked, linked_at, waiting-same}
use Rattle.quic_exchange.proofs.Beneath.{waits-stay}
use Rattle.quic_exchange.proofs.Led.{EraAt, era-at}
use Rattle.quic_exchange.proofs.LedSteps.{led-from}
use Rattle.quic_progress.specs.Progress.{sets_permits, SetsNone, RejectsUnset}
use Rattle.quic_progress.proofs.Permissions.{IsWithin}
use Rattle.quic_progress.proofs.Plain.{KeepsCount, KeepsPermits, permits-then, permits-at, permits-beside, permits-next}
use Rattle.quic_progress.proofs.Course.{PermitsAsMade, RejectsAsMade, HasRejectedAsMade, kept-from}

false_true : false ≡ true → ⊥
false_true e = cc

-- the steps before the last set nothing, nor does that
sets_none_parts : (h : History) (step : Step) (reply : Answer) → SetsNone (h ++ (step, reply) ∷ []) → SetsNone h × (sets_permits step ≡ false)
sets_none_parts [] step reply none = (tt, none.0)
sets_none_parts (e ∷ h) step reply none = let k = sets_none_parts h step reply none.1 in ((none.0, k.0), k.1)

-- ---- while it is not decided

module _ {s : Beginning} {h : History} {old : PairState} (f : PairFrom s h old) (new : PairState) (before : (k : EarlyLimits) → old.waits ≡ Some k → KeepsPermits (start (made_of Client s.a)) old.a.streams) (k : EarlyLimits) (is : new.waits ≡ Some k) where
  stays : new ≡ old → KeepsPermits (start (made_of Client s.a)) new.a.streams
  stays e = permits-at (start (made_of Client s.a)) new.a.streams old.a.streams (ap (λ (v : PairState). v.a.streams) e) (before k (sym (ap (λ (v : PairState). v.waits) e) ∙ is))

  goes : (step : Step) (reply : Answer) → (is_some old.waits && needs_decision step) ≡ false → sets_permits step ≡ false → NextOrdinary old step reply new → KeepsPermits (start (made_of Client s.a)) new.a.streams
  goes step reply free sets o =
      let l = led-from f in
      let e : old.waits ≡ Some k = sym (waits-stay old new step reply o) ∙ is in
      let i = l.early k e in
      let was : PairState = record old { b = end_begun (wide_made s.b k.remembered) (limits_of_a s) } in
      let at : EraAt l.a l.b l.taken was l.tales = era-at (as_linked s old) was (waiting-same s old k e) l.at in
      let g = grown-from at.era in
      let spelled = spelled-seen (past_of l.taken) was g.joined.first g.joined.second g.joined.seen i.untaken in
      permits-then (start (made_of Client s.a)) old.a.streams new.a.streams (before k e)
      (permits-next old new (own-bare (made_of Client s.a) old.a.streams refl i.own) i.untaken spelled g.recounted.tales.told g.recounted.left step reply (ap (λ (w : Option EarlyLimits). is_some w && needs_decision step) (sym e) ∙ free) sets o)

  again : Retries old new → KeepsPermits (start (made_of Client s.a)) new.a.streams
  again x =
      let l = led-from f in
      let e : old.waits ≡ Some k = sym (ap (λ (v : PairState). v.waits) x.is) ∙ is in
      let i = l.early k e in
      let r = x.again (own-unacked (made_of Client s.a) old.a.streams i.own) in
      permits-then (start (made_of Client s.a)) old.a.streams new.a.streams (before k e)
      (permits-at old.a.streams new.a.streams x.streams (ap (λ (v : PairState). v.a.streams) x.is) (permits-at old.a.streams x.streams _ r.2 (permits-beside old.a.streams _ refl refl refl refl)))

  decided : {X : Type 0} → new.waits ≡ None → X
  decided none = absurd (none-some k (sym none ∙ is))

  taken : (step : Step) (reply : Answer) → (is_some old.waits && needs_decision step) ≡ false → sets_permits step ≡ false → NextTaken old step reply new → KeepsPermits (start (made_of Client s.a)) new.a.streams
  taken steps.EarlyAccept (Ok Done) free sets x = decided (ap (λ (v : PairState). v.waits) x.is)
  taken steps.EarlyAccept (Err NoMemory) free sets x = stays x.is
  taken steps.EarlyAccept (Err LimitsBelow) free sets x = stays x.is
  taken steps.EarlyAccept (Err Decided) free sets x = stays x.1
  taken steps.EarlyAccept _ free sets x = absurd x
  taken steps.EarlyReject (Ok Done) free sets x = decided (ap (λ (v : PairState). v.waits) x.is)
  taken steps.EarlyReject (Err Decided) free sets x = stays x.1
  taken steps.EarlyReject _ free sets x = absurd x
  taken steps.Retry (Ok Done) free sets x = again x
  taken steps.Retry (Err NoMemory) free sets x = stays x.1
  taken steps.Retry (Err Decided) free sets x = stays x.1
  taken steps.Retry _ free sets x = absurd x
  taken step reply free sets x = goes step reply free sets x

  any_step : (step : Step) (reply : Answer) → sets_permits step ≡ false → Next old step reply new → KeepsPermits (start (made_of Client s.a)) new.a.streams
  any_step step reply sets n = by (is_some old.waits && needs_decision step) refl n
    where
      by : (b : Bool) → (is_some old.waits && needs_decision step) ≡ b → MatchBool b ((reply ≡ Err Undecided) × (new ≡ old)) (NextTaken old step reply new) → KeepsPermits (start (made_of Client s.a)) new.a.streams
      by true w x = stays x.1
      by false w x = taken step reply w sets x

early_permits : {s : Beginning} {h : History} {v : PairState} (f : PairFrom s h v) → SetsNone h → (k : EarlyLimits) → v.waits ≡ Some k → KeepsPermits (start (made_of Client s.a)) v.a.streams
early_permits {s} {h} {v} (begun n) none k is =
    let P : EndState → Type 0 = λ e. KeepsPermits (start (made_of Client s.a)) e.streams in
    subst P (sym (ap (λ (x : PairState). x.a) n.is)) (permits-beside (start (made_of Client s.a)) (end_begun (made_of Client s.a) (limits_first s)).streams refl refl refl refl)
early_permits {s} (next {h} {old} {new} step reply f n) none k is =
    let parts = sets_none_parts h step reply none in
    any_step f new (early_permits f parts.0) k is step reply parts.1 n

-- ---- where it is rejected

credit_made : (c : Credit) (window : ℕ) → window < 2 ^ 62 → c.receive_window ≡ window → c.shrink_debt ≤ 0 → window ≤ c.sent_max_data → c.sent_max_data ≤ max_data_of c → IsUnusedCredit c → c ≡ new_credit window
credit_made c window large size less told within unused =
    let debt : c.shrink_debt ≡ 0 = omega (arith, less) in
    let limit = unused.limit in
    let local : c.local_max_data ≡ window = omega (arith, limit, size, debt, large) in
    let sent : c.sent_max_data ≡ window = omega (arith, told, within, local) in
    let received = unused.received in
    λ i. record { receive_window = size i; local_max_data = local i; sent_max_data = sent i; data_recvd = received i; shrink_debt = debt i }

remote_made : (r : Remote) (count : ℕ) → KeepsCount (new_remote count) r → IsUnusedRemote r → r ≡ new_remote count
remote_made r count k unused =
    let most = k.0 in
    let at_once = k.1 in
    let sent : r.sent_max_remote ≡ count = elim k.2 [ inl e ↦ e | inr e ↦ e ] in
    let allocated : r.allocated ≡ count = unused.allocated ∙ most in
    let following = unused.next in
    let reported = unused.reported in
    let opened = unused.told in
    λ i. record { max_remote = most i; sent_max_remote = sent i; allocated = allocated i; max_concurrent = at_once i; next_remote = following i; next_reported = reported i; opened = opened i }

a_linked : (s : Beginning) (v : PairState) → (as_linked s v).a ≡ v.a
unfolding as_linked
a_linked s v = by v.waits
  where
    by : (w : Option EarlyLimits) → (linked_at s w v).a ≡ v.a
    by None = refl
    by (Some k) = refl

as_made : {s : Beginning} {h : History} {old : PairState} (f : PairFrom s h old) (new : PairState) → RejectsEarly old new → SetsNone h → PermitsAsMade s old.a.streams
as_made {s} {h} {old} f new x none =
    let l = led-from f in
    let i = l.early x.limits x.waiting in
    let k = early_permits f none x.limits x.waiting in
    let renewed : IsStart (made_again (with_rejection old.a.streams)) (with_rejection old.a.streams) = own-renewed (made_of Client s.a) old.a.streams refl i.own in
    let kept = kept-from false f (λ on. absurd (false_true on)) l.tales l.told in
    let W : EndState → Type 0 = λ e. IsWithin e.streams in
    let within : IsWithin old.a.streams = subst W (a_linked s old) (kept.tracked.within A) in
    let adjusted : old.a.streams.adjusted ≡ false = k.adjusted in
    let P : Bool → Type 0 = λ b. IsUnusedRemote (announced_anew b old.a.streams.bi) in
    let Q : Bool → Type 0 = λ b. IsUnusedRemote (announced_anew b old.a.streams.uni) in
    record {
      credit = credit_made old.a.streams.credit s.a.receive_window l.sound.data_a k.size k.debt k.told within.whole renewed.credit;
      bi = remote_made old.a.streams.bi s.a.max_remote_bi (k.counts Bi) (subst P adjusted renewed.bi);
      uni = remote_made old.a.streams.uni s.a.max_remote_uni (k.counts Uni) (subst Q adjusted renewed.uni);
      adjusted = adjusted;
    }

-- what is so of a longer history, of this one
unset_before : (h : History) (step : Step) (reply : Answer) → RejectsUnset (h ++ (step, reply) ∷ []) → RejectsUnset h
unset_before h step reply unset before behind is = unset before (behind ++ (step, reply) ∷ []) (ap (λ l. l ++ (step, reply) ∷ []) is ∙ append_assoc before ((steps.EarlyReject, Ok Done) ∷ behind) ((step, reply) ∷ []))

abbrev Refused : Answer → Type 0
Refused reply = reply ≡ Err Undecided

-- a step that was served was not refused
served : (ok : Answer) → ok ≡ Ok Done → ok ≡ Err Undecided → ⊥
served ok e d = let z = sym e ∙ d in cc

rejects_here : {s : Beginning} {h : History} {old : PairState} (f : PairFrom s h old) (new : PairState) (step : Step) (reply : Answer) → Next old step reply new → RejectsUnset (h ++ (step, reply) ∷ []) → RejectsAsMade s old step reply
rejects_here {s} {h} {old} f new steps.EarlyReject (Ok Done) n unset = by (is_some old.waits && needs_decision steps.EarlyReject) n
  where
    by : (b : Bool) → MatchBool b ((Refused (Ok Done)) × (new ≡ old)) (NextTaken old steps.EarlyReject (Ok Done) new) → PermitsAsMade s old.a.streams
    by true x = absurd (served (Ok Done) refl x.0)
    by false x = as_made f new x (unset h [] refl)
rejects_here f new _ _ n unset = tt

-- whatever steps led to a pair
pub rejected-unset : {s : Beginning} {h : History} {v : PairState} (f : PairFrom s h v) → RejectsUnset h → HasRejectedAsMade f
rejected-unset (begun n) unset = tt
rejected-unset {s} (next {h} {old} {new} step reply f n) unset = (rejected-unset f (unset_before h step reply unset), rejects_here f new step reply n unset)
