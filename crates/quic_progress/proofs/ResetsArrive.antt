-- Whatever steps led to a pair, a reset of each stream that was given up came, or waits; so once a settling ended, one arrived.
use Rattle.std.proofs.Common.{◌≡◌, ℕ, zero, suc, Bool, true, false, List, [], ◌∷◌, length, Option, Some, None, is_some, Ok, refl, sym, ap, ◌∙◌, subst, inl, inr, arith}
use Rattle.std.specs.Prelude.{◌||◌, is_none, slice_get, unwrap_or, if◌then◌else◌}
use Rattle.std.proofs.lemmas.Option.{none-some, same_Some}
use Rattle.quic_values.specs.declared.ids.Side.TheVariants.{Client}
use Rattle.quic_outgoing.specs.Senders.{is_local}
use Rattle.quic_outgoing.specs.declared.limits.PeerLimits.{PeerLimits}
use Rattle.quic_flows.specs.Flow.{SendFlow}
use Rattle.quic_retransmits.specs.Pending.{Pending, nothing, merged_if, thin_view}
use Rattle.quic_retransmits.specs.Settling.{noted_in}
use Rattle.quic_history.specs.Early.{with_unsent}
use Rattle.quic_history.specs.declared.control.ControlKind.TheVariants as kinds
use Rattle.quic_link.specs.Endpoints.{IsOneOf}
use Rattle.quic_streams.specs.declared.settling.SentPayload.{SentPayload}
use Rattle.quic_steps.specs.declared.steps.End.{End}
use Rattle.quic_steps.specs.declared.steps.End.TheVariants.{A, B}
use Rattle.quic_steps.specs.declared.steps.Step.{Step}
use Rattle.quic_steps.specs.declared.steps.Step.TheVariants as steps
use Rattle.quic_steps.specs.declared.steps.Reply.TheVariants.{Done}
use Rattle.quic_exchange.specs.Sent.{Sent}
use Rattle.quic_exchange.specs.Gone.{with_noted, with_all_noted, noted_at}
use Rattle.quic_exchange.specs.State.{PairState, the_end}
use Rattle.quic_exchange.specs.History.{History, Past, FramePlace, after, past_of}
use Rattle.quic_exchange.specs.Settling.{IsIdle, AreIdle, AreSettledIn}
use Rattle.quic_exchange.specs.Steps.{AcceptsEarly, Retries}
use Rattle.quic_exchange.specs.From.{Beginning, PairFrom}
use Rattle.quic_exchange.specs.Tale.{Tale, Tales, told_of, with_limits_given, with_unsent_told}
use Rattle.quic_exchange.proofs.Counted.{Counted}
use Rattle.quic_exchange.proofs.Flips.{seen-as}
use Rattle.quic_exchange.proofs.Left.{AreLeft}
use Rattle.quic_exchange.proofs.Lists.{slice_get-within, one-of-first, one-of-last}
use Rattle.quic_exchange.proofs.Marks.{marks-from}
use Rattle.quic_exchange.proofs.PayloadKnows.{StaySent, stay-sent}
use Rattle.quic_exchange.proofs.Recounted.{made_at}
use Rattle.quic_exchange.proofs.Origins.{Origin}
use Rattle.quic_exchange.proofs.OwnDoings.{AreUntaken}
use Rattle.quic_exchange.proofs.Eras.{EraFrom, begun, next, changed, Changes, accepts, retries, ToldIn, tales_in, tales_changed}
use Rattle.quic_exchange.proofs.Grown.{grown-from, past-after}
use Rattle.quic_exchange.proofs.ToldOnce.{told-in-once}
use Rattle.quic_progress.specs.Progress.{IsAgreed}
use Rattle.quic_progress.specs.Consumed.{HaveResetsArrived}
use Rattle.quic_progress.proofs.Tracked.{forth-same}
use Rattle.quic_progress.proofs.GivenUps.{StaysGivenUp, AllStay}
use Rattle.quic_progress.proofs.ResetsPend.{KeepsResets}
use Rattle.quic_progress.proofs.ResetsCome.{Comes, Waits, HasCome, comes-on, waits-forth}
use Rattle.quic_progress.proofs.ResetSteps.{comes-next}
use Rattle.quic_progress.proofs.Course.{agreed-waits, course-from}

-- ---- tales of one end that change, but not what is told of streams that were given up

abbrev NoneAt : End → ℕ → Type 0
NoneAt who id = ⊥

still : (f g : SendFlow) → g.reset ≡ f.reset → g.freed ≡ f.freed → StaysGivenUp ⊥ f g
still f g reset freed = record { kept = λ code e. reset ∙ e; back = λ code e. sym reset ∙ e; held = λ some e. inl (freed ∙ e) }

all_still : (t : Tales) (change : Tale → Tale) → ((q : ℕ) → StaysGivenUp ⊥ ((t.of A).flow q) ((change (t.of A)).flow q)) → AllStay NoneAt t (told_of A change t)
all_still t change k A q = k q
all_still t change k B q = still ((t.of B).flow q) ((t.of B).flow q) refl refl

all_given : (t : Tales) (limits : PeerLimits) → AllStay NoneAt t (told_of A (with_limits_given Client limits) t)
all_given t limits = all_still t (with_limits_given Client limits) (λ q. still ((t.of A).flow q) _ refl refl)

unsent_still : (b : Bool) (f : SendFlow) → StaysGivenUp ⊥ f (if b then with_unsent f else f)
unsent_still false f = still f f refl refl
unsent_still true f = by (is_none f.reset)
  where
    by : (b : Bool) → StaysGivenUp ⊥ f (if b then record f { carried = λ n. false; sent_up_to = 0; missing = λ n. false; end_due = f.end_due || f.finished } else f)
    by true = still f _ refl refl
    by false = still f f refl refl

all_unsent : (t : Tales) → AllStay NoneAt t (told_of A (with_unsent_told Client) t)
all_unsent t = all_still t (with_unsent_told Client) (λ q. unsent_still (is_local Client q) ((t.of A).flow q))

-- ---- what was noted of payloads is pending where all is to be sent again

more_pending : (z : ℕ × ℕ) (p : Pending) (o : Option Pending) → IsOneOf z p.reset_stream → IsOneOf z (merged_if p o).reset_stream
more_pending z p None i = i
more_pending z p (Some b) i = one-of-first z p.reset_stream b.reset_stream i

all_pending : (z : ℕ × ℕ) (p : Pending) (sent : List Sent) → IsOneOf z p.reset_stream → IsOneOf z (with_all_noted p sent).reset_stream
all_pending z p [] i = i
all_pending z p (s ∷ ss) i = all_pending z (with_noted p s.unsettled.rest) ss (more_pending z p (noted_at s.unsettled.rest) i)

noted_pending : (z : ℕ × ℕ) (p : Pending) (o : Option Pending) → IsOneOf z (unwrap_or o nothing).reset_stream → IsOneOf z (merged_if p o).reset_stream
noted_pending z p None i = absurd i
noted_pending z p (Some b) i = one-of-last z p.reset_stream b.reset_stream i

each_pending : (z : ℕ × ℕ) (sent : List Sent) (p : Pending) (number : ℕ) (s : Sent) (rest : SentPayload) → slice_get sent number ≡ Some s → s.unsettled.rest ≡ Some rest → IsOneOf z (noted_in rest.control).reset_stream → IsOneOf z (with_all_noted p sent).reset_stream
each_pending z [] p number s rest got is i = absurd (none-some s got)
each_pending z (t ∷ ts) p zero s rest got is i =
    let same : t.unsettled.rest ≡ Some rest = ap (λ (k : Sent). k.unsettled.rest) (same_Some t s got) ∙ is in
    let P : Option SentPayload → Type 0 = λ o. IsOneOf z (with_noted p o).reset_stream in
    all_pending z (with_noted p t.unsettled.rest) ts (subst P (sym same) (noted_pending z p (thin_view rest.control) i))
each_pending z (t ∷ ts) p (suc number) s rest got is i = each_pending z ts (with_noted p t.unsettled.rest) number s rest got is i

-- ---- how an era begins

comes_begun : (a b : Origin) (v : PairState) → Comes v (tales_in a b v.sent) (past_of [])
comes_begun a b v = record {
  given = λ who id code i. absurd i;
  comes = λ who id some. let k = sym (ap (λ (o : Option ℕ). is_some o) (none who id)) ∙ some in cc;
}
  where
    none : (who : End) (id : ℕ) → (((tales_in a b v.sent).of who).flow id).reset ≡ None
    none A id = refl
    none B id = refl

-- ---- the server accepts

comes_accepts : (old new : PairState) (p : Past) (t u : Tales) → Comes old t p → (x : AcceptsEarly old new) → u ≡ told_of A (with_limits_given Client x.limits.others) t → Comes new u p
comes_accepts old new p t u c x e =
    let Q : Tales → Type 0 = λ y. AllStay NoneAt t y in
    comes-on old new p p t u NoneAt c (subst Q (sym e) (all_given t x.limits.others)) (λ who id. refl) (subst (StaySent old.sent) (sym sents) (stay-sent old.sent)) (λ at i. i)
    (λ who id some held w. inr (waits-forth old new keeps (forth-same old.sent new.sent sents) who id w)) (λ who id a. absurd a)
  where
    sents : new.sent ≡ old.sent
    sents = ap (λ (v : PairState). v.sent) x.is

    keeps : (who : End) → KeepsResets (the_end old who).pending (the_end new who).pending
    keeps A y i = let P : Pending → Type 0 = λ p. IsOneOf y p.reset_stream in subst P (sym (ap (λ (v : PairState). v.a.pending) x.is)) i
    keeps B y i = let P : Pending → Type 0 = λ p. IsOneOf y p.reset_stream in subst P (sym (ap (λ (v : PairState). v.b.pending) x.is)) i

-- ---- the client is to begin again

some_code : (o : Option ℕ) → is_some o ≡ true → (code : ℕ) × (o ≡ Some code)
some_code None k = cc
some_code (Some code) k = (code, refl)

module _ (old new : PairState) (p : Past) (t u : Tales) (c : Comes old t p) (x : Retries old new) (untaken : AreUntaken old.sent) (none : p.accepted ≡ []) (e : u ≡ told_of A (with_unsent_told Client) t) where
  stays : AllStay NoneAt t u
  stays = let Q : Tales → Type 0 = λ y. AllStay NoneAt t y in subst Q (sym e) (all_unsent t)

  -- nothing was accepted
  none_come : (who : End) (id : ℕ) → HasCome id p old.sent who → ⊥
  none_come who id come = let P : List FramePlace → Type 0 = λ l. IsOneOf come.1.at l in subst P none come.1.listed

  -- a payload of which something is unreported is the client's
  of_a : (number : ℕ) (s : Sent) (rest : SentPayload) → slice_get old.sent number ≡ Some s → s.writer ≡ B → s.unsettled.rest ≡ Some rest → ⊥
  of_a number s rest is writer left = elim (untaken number s is) [
    | inl mine ↦ (let z = sym mine.writer ∙ writer in cc)
    | inr gone ↦ none-some rest (sym gone.rest ∙ left)
  ]

  waits_again : (who : End) (id : ℕ) → Waits id old who → Waits id new who
  waits_again A id w =
      let P : Pending → Type 0 = λ q. IsOneOf (id, w.0) q.reset_stream in (
        w.0,
        inl (subst P (sym (ap (λ (v : PairState). v.a.pending) x.is)) (elim w.1 [
          | inl pending ↦ all_pending (id, w.0) old.a.pending old.sent pending
          | inr n ↦ each_pending (id, w.0) old.sent old.a.pending n.number n.payload n.rest n.is n.rest_is n.noted
        ])),
      )
  waits_again B id w =
      let P : Pending → Type 0 = λ q. IsOneOf (id, w.0) q.reset_stream in (
        w.0,
        inl (elim w.1 [
          | inl pending ↦ subst P (sym (ap (λ (v : PairState). v.b.pending) x.is)) pending
          | inr n ↦ absurd (of_a n.number n.payload n.rest n.is n.writer n.rest_is)
        ]),
      )

  comes_retries : Comes new u (after p steps.Retry (Ok Done))
  comes_retries = record {
    given = λ who id code i.
        let b = some_code ((t.of who).flow id).reset (c.given who id code i) in
        ap (λ (o : Option ℕ). is_some o) ((stays who id).kept b.0 b.1);
    comes = λ who id some.
        let now = some_code ((u.of who).flow id).reset some in
        let had : is_some ((t.of who).flow id).reset ≡ true = ap (λ (o : Option ℕ). is_some o) ((stays who id).back now.0 now.1) in
        elim (c.comes who id had) [
          | inl come ↦ absurd (none_come who id come)
          | inr w ↦ elim ((stays who id).held had w.0) [ inl held ↦ inr (held, waits_again who id w.1) | inr a ↦ absurd a ]
        ];
  }

-- ---- whatever steps led to a pair

comes_changed : {b : Origin} (old new : PairState) (p : Past) (t u : Tales) → Comes old t p → (step : Step) (k : Changes b p old new step) → u ≡ tales_changed k t → Comes new u (after p step (Ok Done))
comes_changed old new p t u c step (accepts k within few) e = comes_accepts old new p t u c k e
comes_changed old new p t u c step (retries k m did mine accepted kept) e = comes_retries old new p t u c k mine accepted e

comes-from : {a b : Origin} {h : History} {v : PairState} (f : EraFrom a b h v) (t : Tales) → ToldIn f t → Comes v t (past_of h)
comes-from {a} {b} {h} {v} (begun n) t k = let P : Tales → Type 0 = λ x. Comes v x (past_of []) in subst P (sym k) (comes_begun a b v)
comes-from {a} {b} (next {h} {old} {new} step reply f n) u k =
    let g = grown-from f in
    let same = told-in-once f g.recounted.tales k.0 g.told k.1 in
    let C : Tales → Type 0 = λ x. (who : End) → Counted (made_at a b who) (the_end old who).streams (x.of who) in
    let L : Tales → Type 0 = λ x. AreLeft old.sent x.told in
    let P : Past → Type 0 = λ p. Comes new u p in
    subst P (sym (past-after h step reply)) (comes-next old new (past_of h) k.0 u (comes-from f k.0 k.1) (made_at a b) (subst C same g.recounted.counted) (marks-from f) (subst L same g.recounted.left)
    (λ number x is T to. seen-as a b (past_of h) old x.writer g.joined T (λ a b side seen. let i = seen.own number x is refl in to i.all i.spelled)) step reply n k.2)
comes-from (changed {h} {old} {new} step f c) u k =
    let P : Past → Type 0 = λ p. Comes new u p in
    subst P (sym (past-after h step (Ok Done))) (comes_changed old new (past_of h) k.0 u (comes-from f k.0 k.1) step c k.2)

-- once a settling ended none is pending, nor noted of a payload that is unreported
pub resets-arrive : (s : Beginning) (h : History) (v : PairState) (f : PairFrom s h v) → IsAgreed s v → AreIdle v → AreSettledIn 0 (length v.sent) v.sent → HaveResetsArrived (past_of h) v.sent
resets-arrive s h v f agreed idle settled who id code i =
    let e = course-from f (agreed-waits f agreed) in
    let g = grown-from e.era in
    let P : Past → Type 0 = λ p. Comes v g.recounted.tales p in
    let c = subst P (sym e.past) (comes-from e.era g.recounted.tales g.told) in
    elim (c.comes who id (c.given who id code i)) [
      | inl come ↦ come
      | inr x ↦ absurd (elim x.1.1 [
        | inl pending ↦ (let Q : List (ℕ × ℕ) → Type 0 = λ l. IsOneOf (id, x.1.0) l in subst Q ((idle_at who).kinds kinds.ResetStream) pending)
        | inr noted ↦ none-some noted.rest (sym (settled noted.number noted.payload (omega arith) (slice_get-within v.sent noted.number noted.payload noted.is) noted.is) ∙ noted.rest_is)
      ])
    ]
  where
    idle_at : (k : End) → IsIdle (the_end v k)
    idle_at A = idle.of_a
    idle_at B = idle.of_b
