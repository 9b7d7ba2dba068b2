-- At the end of a settling the writer of each stream that was finished, and not given up, was told so, and that of each that was stopped, and
-- is held, the code.
use Rattle.std.proofs.Common.{◌≡◌, ℕ, Bool, true, false, List, [], ◌++◌, length, Option, Some, None, Ok, refl, sym, ap, ◌∙◌, subst, inl, inr}
use Rattle.quic_wire.specs.declared.event.StreamEvent.{StreamEvent}
use Rattle.quic_wire.specs.declared.event.StreamEvent.TheVariants as stream_event
use Rattle.quic_sending.specs.declared.send.Send.{Send}
use Rattle.quic_flows.specs.Flow.{SendFlow, FlowAt, new_flow}
use Rattle.quic_outgoing.specs.Senders.{first_limit}
use Rattle.quic_history.specs.World.{World}
use Rattle.quic_history.specs.Flows.{has_side_in}
use Rattle.quic_history.specs.History.{flow}
use Rattle.quic_link.specs.Endpoints.{LinkedEnd, IsOneOf, sent_on}
use Rattle.quic_link.proofs.Joint.{agrees}
use Rattle.quic_exchange.proofs.Origins.{Origin}
use Rattle.quic_steps.specs.declared.steps.End.{End}
use Rattle.quic_steps.specs.declared.steps.End.TheVariants.{A, B}
use Rattle.quic_steps.specs.declared.steps.Reply.TheVariants.{Done}
use Rattle.quic_exchange.specs.State.{PairState, the_end}
use Rattle.quic_exchange.specs.History.{Past, History, past_of}
use Rattle.quic_exchange.proofs.Eras.{EraFrom, begun, next as next-step, changed, IsBegun, ToldIn, tales_in}
use Rattle.quic_exchange.specs.Settling.{AreIdle, AreSettledIn, IsSettling}
use Rattle.quic_exchange.specs.Completed.{IsUnreset, HaveBeenTold, AreStopsTold}
use Rattle.quic_exchange.proofs.Joined.{Seen}
use Rattle.quic_exchange.proofs.Flips.{seen-as}
use Rattle.quic_exchange.specs.Tale.{Tales}
use Rattle.quic_exchange.proofs.Grown.{grown-from, past-after, recounted-begun}
use Rattle.quic_exchange.proofs.ToldOnce.{told-in-once}
use Rattle.quic_exchange.proofs.Recounted.{made_at}
use Rattle.quic_exchange.proofs.Arrived.{IsAlike, alike}
use Rattle.quic_exchange.proofs.Freed.{all-acked}
use Rattle.quic_exchange.proofs.Notified.{Notified}
use Rattle.quic_exchange.proofs.NotifiedSteps.{AreNotified, notified-next, notified-changed}
use Rattle.quic_exchange.proofs.PolledOut.{HasNoEvents, polled-out}

-- ---- all steps

begins_so : (a b : Origin) (v : PairState) → IsBegun a b v → AreNotified (past_of []) v
begins_so a b v n who =
    let r = recounted-begun a b v n in
    let c = r.0.counted who in
    let fresh : (q : ℕ) → flow (made_at a b who) c.calls q ≡ ((tales_in a b v.sent).of who).flow q = λ q. c.tells.flow_is q ∙ ap (λ (t : Tales). (t.of who).flow q) r.1 in
    record {
      made = made_at a b who;
      calls = c.calls;
      by = record {
        from = c.from;
        tells = record {
          resets = λ q code d. absurd (unreset who q code (sym (ap (λ (x : SendFlow). x.reset) (fresh q)) ∙ d));
          told = λ q d. absurd (unfreed who q (sym (ap (λ (x : SendFlow). x.freed) (fresh q)) ∙ d));
          stops = λ q code d. absurd (unstopped who q code (sym (ap (λ (x : SendFlow). x.stopped) (fresh q)) ∙ d));
        };
      };
    }
  where
    unreset : (k : End) (q code : ℕ) → (((tales_in a b v.sent).of k).flow q).reset ≡ Some code → ⊥
    unreset A q code e = cc
    unreset B q code e = cc

    unstopped : (k : End) (q code : ℕ) → (((tales_in a b v.sent).of k).flow q).stopped ≡ Some code → ⊥
    unstopped A q code e = cc
    unstopped B q code e = cc

    unfreed : (k : End) (q : ℕ) → (((tales_in a b v.sent).of k).flow q).freed ≡ true → ⊥
    unfreed A q e = cc
    unfreed B q e = cc

pub notified-from : {a b : Origin} {h : History} {v : PairState} → EraFrom a b h v → AreNotified (past_of h) v
notified-from {a} {b} {h} {v} (begun n) = begins_so a b v n
notified-from {a} {b} (next-step {h} {old} {new} step reply f n) =
    let P : Past → Type 0 = λ p. AreNotified p new in
    subst P (sym (past-after h step reply)) (notified-next (past_of h) old new (notified-from f) step reply n)
notified-from {a} {b} (changed {h} {old} {new} step f c) =
    let P : Past → Type 0 = λ p. AreNotified p new in
    subst P (sym (past-after h step (Ok Done))) (notified-changed b (past_of h) old new (notified-from f) step c)

-- ---- the end of a settling

-- two histories of one end tell the same of a half that was freed
freed_alike : (first other : ℕ) (there : Bool) (half : Option Send) (f g : SendFlow) → FlowAt first f there half → FlowAt other g there half → f.freed ≡ true → g.freed ≡ true
freed_alike first other true (Some s) f g a b e = let both = sym a.there ∙ e in cc
freed_alike first other true None f g a b e = b
freed_alike first other false (Some s) f g a b e = absurd a
freed_alike first other false None f g a b e = absurd (unfreed (subst (λ (t : SendFlow). t.freed ≡ true) a e))
  where
    unfreed : (new_flow first).freed ≡ true → ⊥
    unfreed k = cc

no_code : (o : Option ℕ) → ((code : ℕ) → o ≡ Some code → ⊥) → o ≡ None
no_code None n = refl
no_code (Some code) n = absurd (n code refl)

-- what is told of a stream, as its half is
abbrev IsAt : World → ℕ → SendFlow → Type 0
IsAt w id t = FlowAt (first_limit w.out.side w.out.first id) t (has_side_in w.out w.bi.max_remote id) (w.out.halves id)

module _ (a b : Origin) (h : History) (v : PairState) (f : EraFrom a b h v) (idle : AreIdle v) (settled : AreSettledIn 0 (length v.sent) v.sent) (who : End) (id : ℕ) (unreset : IsUnreset ((past_of h).flow who id)) (ended : ((past_of h).flow who id).finished ≡ true) where
  abbrev here : World
  here = (the_end v who).streams

  notified : Notified here ((past_of h).flow who)
  notified = notified-from f who

  abbrev own : SendFlow
  own = flow notified.made notified.calls id

  own_at : IsAt here id own
  own_at = notified.by.from.sends.flows id

  own_unreset : own.reset ≡ None
  own_unreset = no_code own.reset (λ code e. unreset code (notified.by.tells.resets id code e))

  -- a half that is held is one of which all is acknowledged, so none is
  not_held : own.finished ≡ true → own.freed ≡ false → ⊥
  not_held finished held =
      let g = grown-from f in
      let c = g.recounted.counted who in
      let tale = (g.recounted.tales.of who).flow id in
      let tale_at : IsAt here id tale = subst (IsAt here id) (c.tells.flow_is id) (c.from.sends.flows id) in
      let k : IsAlike tale own = alike _ _ _ _ tale own tale_at own_at own_unreset held in
      let freed : tale.freed ≡ true = (all-acked a b h v f idle settled g.recounted.tales g.told who id k.reset).ended (k.finished ∙ finished) in
      let both = sym k.freed ∙ freed in
      cc

  module _ (x y : LinkedEnd) (s : Seen (past_of h) who v x y) where
    abbrev other : SendFlow
    other = sent_on x id

    other_at : IsAt here id other
    other_at = subst (λ (w : World). IsAt w id other) s.here.world (((agrees s.linked).0).comes.from.sends.flows id)

    finished_by : own.freed ≡ false → (c : Bool) → other.freed ≡ c → own.finished ≡ true
    finished_by held true e = let freed = freed_alike _ _ _ _ other own other_at own_at e in let both = sym held ∙ freed in cc
    finished_by held false e =
        let k : IsAlike other own = alike _ _ _ _ other own other_at own_at own_unreset held in
        sym k.finished ∙ s.sends.finished id ∙ ended

    freed_by : (c : Bool) → own.freed ≡ c → own.freed ≡ true
    freed_by true e = e
    freed_by false e = absurd (not_held (finished_by e other.freed refl) e)

  been_told : HasNoEvents v who → ((past_of h).flow who id).complete ≡ true
  been_told none =
      let freed = seen-as a b (past_of h) v who (grown-from f).joined (own.freed ≡ true) (λ x y side s. freed_by x y s own.freed refl) in
      elim (notified.by.tells.told id freed) [
        | inl given ↦ absurd (unreset given.0 given.1)
        | inr other ↦ elim other [ inl told ↦ told | inr queued ↦ absurd (subst (λ (es : List StreamEvent). IsOneOf (stream_event.Finished id) es) none queued) ]
      ]

pub have-been-told : (a b : Origin) (h : History) (old : PairState) (taken : History) (new : PairState) → EraFrom a b (h ++ taken) new → IsSettling old taken new → AreIdle new → AreSettledIn 0 (length new.sent) new.sent → HaveBeenTold (past_of (h ++ taken))
have-been-told a b h old taken new f s idle settled who id unreset ended = been_told a b (h ++ taken) new f idle settled who id unreset ended (polled-out old taken new s who)

-- ---- stops

-- two histories of one end tell the same stop of a half that is held
record StopsAlike (g : SendFlow) (code : ℕ) : Type 0 where
  stopped : g.stopped ≡ Some code
  held : g.freed ≡ false

stops_alike : (first other : ℕ) (there : Bool) (half : Option Send) (f g : SendFlow) (code : ℕ) → FlowAt first f there half → FlowAt other g there half → f.freed ≡ false → f.stopped ≡ Some code → StopsAlike g code
stops_alike first other true (Some s) f g code a b held e = record { stopped = sym b.stopped ∙ a.stopped ∙ e; held = b.there }
stops_alike first other true None f g code a b held e = let both = sym a ∙ held in cc
stops_alike first other false (Some s) f g code a b held e = absurd a
stops_alike first other false None f g code a b held e = absurd (unstopped (subst (λ (t : SendFlow). t.stopped ≡ Some code) a e))
  where
    unstopped : (new_flow first).stopped ≡ Some code → ⊥
    unstopped k = cc

pub stops-told : (a b : Origin) (h : History) (v : PairState) (f : EraFrom a b h v) → ((who : End) → HasNoEvents v who) → AreStopsTold (ToldIn f) (past_of h)
stops-told a b h v f none t told who id code e held =
    let g = grown-from f in
    let n = notified-from f who in
    let c = g.recounted.counted who in
    let same : flow (made_at a b who) c.calls id ≡ (t.of who).flow id = c.tells.flow_is id ∙ ap (λ (x : Tales). (x.of who).flow id) (told-in-once f g.recounted.tales t g.told told) in
    let tale_at : IsAt (the_end v who).streams id ((t.of who).flow id) = subst (IsAt (the_end v who).streams id) same (c.from.sends.flows id) in
    let k = stops_alike _ _ _ _ ((t.of who).flow id) (flow n.made n.calls id) code tale_at (n.by.from.sends.flows id) held e in
    elim (n.by.tells.stops id code k.stopped) [
      | inl freed ↦ (let both = sym k.held ∙ freed in cc)
      | inr other ↦ elim other [ inl is ↦ is | inr queued ↦ absurd (subst (λ (es : List StreamEvent). IsOneOf (stream_event.Stopped id code) es) (none who) queued) ]
    ]
