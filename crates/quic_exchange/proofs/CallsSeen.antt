-- A pair as an end sees it, once that end was called.
use Rattle.std.proofs.Common.{◌≡◌, ℕ, Bool, false, eqb, List, ◌∷◌, Some, None, Ok, refl, sym, ap, ◌∙◌, subst, inl, inr}
use Rattle.std.specs.List.{concat}
use Rattle.quic_receiving.specs.declared.transmit.ShouldTransmit.{ShouldTransmit}
use Rattle.quic_retransmits.specs.Settling.{noted_in}
use Rattle.quic_flows.specs.Flow.{SendFlow}
use Rattle.quic_history.specs.World.{World}
use Rattle.quic_history.specs.SendEvents.{OpenedOwn, StoppedOwn}
use Rattle.quic_history.specs.History.{Event, Received, ReceivedReset, Began, Stopped, Accepted, Sending, Step, Trace, send_move_of, limits_in, move_of}
use Rattle.quic_link.specs.Endpoints.{LinkedEnd, MayAct, acted, IsOneOf, sent_on, came_on}
use Rattle.quic_link.specs.Asked.{AreAsked}
use Rattle.quic_link.proofs.Ends.{plain-call}
use Rattle.quic_link.proofs.Unsent.{flow-called}
use Rattle.quic_endpoint.specs.Ends.{EndState}
use Rattle.quic_steps.specs.declared.steps.End.{End}
use Rattle.quic_steps.specs.declared.steps.End.TheVariants.{A, B}
use Rattle.quic_exchange.specs.Sent.{Sent}
use Rattle.quic_exchange.specs.State.{PairState, peer, the_end, with_end}
use Rattle.quic_exchange.specs.History.{Past, Flow, FramePlace, with_flow, gives_id}
use Rattle.quic_exchange.specs.Headline.{SomeStream}
use Rattle.quic_exchange.proofs.Joined.{IsLike, Stands, ArePayloadsOf, Knows, Seen, Sees}
use Rattle.quic_exchange.proofs.KeptFrames.{KeptSent, HearsNothing, IsNoFrame, hears-none, hears-call, kept-as}
use Rattle.quic_exchange.proofs.Gives.{GivesNone, GaveNone, AreGiven, gave-none, given-still}
use Rattle.quic_exchange.proofs.CallsFlows.{Onward, onward-call, onward-none, accepted-still, FlowKnown, known-of, knows-from, AcceptsSent, SendsSame, ReadsSame, known-first, known-second, flow-changed, flow-kept, flow-kept-own}

-- ---- the pair

end_same : (v : PairState) (who : End) (e : EndState) → the_end (with_end v who e) who ≡ e
end_same v A e = refl
end_same v B e = refl

end_other : (v : PairState) (who : End) (e : EndState) → the_end (with_end v who e) (peer who) ≡ the_end v (peer who)
end_other v A e = refl
end_other v B e = refl

sent_same : (v : PairState) (who : End) (e : EndState) → (with_end v who e).sent ≡ v.sent
sent_same v A e = refl
sent_same v B e = refl

payloads_first : (sent : List Sent) (who : End) (x y z : LinkedEnd) → Onward x y z → ArePayloadsOf sent who x y → ArePayloadsOf sent who z y
payloads_first sent who x y z o s number payload at writer =
    let k = s number payload at writer in
    record { all = k.all; spelled = k.spelled; wrote = λ g h. o.wrote g (k.wrote g h); control = λ r h. o.asked (noted_in r.control) (k.control r h); accepted = k.accepted }

payloads_second : (sent : List Sent) (who : End) (x y z : LinkedEnd) → Onward x y z → ArePayloadsOf sent who y x → ArePayloadsOf sent who y z
payloads_second sent who x y z o s number payload at writer =
    let k = s number payload at writer in
    record { all = k.all; spelled = k.spelled; wrote = k.wrote; control = k.control; accepted = λ index stream a m. accepted-still x y z o stream.id _ stream.fin (k.accepted index stream a m) }

accepts_as : (p q : Past) (sent : List Sent) (who : End) (y z : LinkedEnd) → q.accepted ≡ p.accepted → AcceptsSent p sent who y
    → ((id offset : ℕ) (bytes : List ℕ) (fin : Bool) (transmit : ShouldTransmit) → IsOneOf (Received id offset bytes fin (Ok transmit)) z.calls → IsOneOf (Received id offset bytes fin (Ok transmit)) y.calls)
    → AcceptsSent q sent who z
accepts_as p q sent who y z e a r id offset bytes fin transmit h =
    let P : List FramePlace → Type 0 = λ l. SomeStream sent who id l (IsLike offset bytes fin) in
    subst P (sym e) (a id offset bytes fin transmit (r id offset bytes fin transmit h))

-- the end x was called and is z, which the pair has now
pub record Called (who : End) (old new : PairState) (x y z : LinkedEnd) : Type 0 where
  pub onward : Onward x y z
  pub quiet : HearsNothing x z
  pub end : EndState
  pub stands : Stands z end
  pub is : new ≡ with_end old who end

module _ (p : Past) (who : End) (old new : PairState) (x y z : LinkedEnd) (s : Seen p who old x y) (c : Called who old new x y z) where
  seen_with : (q : Past) → q.accepted ≡ p.accepted → q.kept ≡ p.kept → AreGiven z (q.ids who) → q.ids (peer who) ≡ p.ids (peer who) → ((id : ℕ) → FlowKnown (q.flow who id) z y id) → ((id : ℕ) → FlowKnown (q.flow (peer who) id) y z id) → Seen q who (with_end old who c.end) z y
  seen_with q e same given others first second =
      let P : EndState → Type 0 = λ k. Stands z k in
      let Q : EndState → Type 0 = λ k. Stands y k in
      let R : List Sent → Type 0 = λ l. ArePayloadsOf l who z y in
      let S : List Sent → Type 0 = λ l. ArePayloadsOf l (peer who) y z in
      let T : List Sent → Type 0 = λ l. Knows q l who z y in
      let U : List Sent → Type 0 = λ l. Knows q l (peer who) y z in
      let V : List Sent → Type 0 = λ l. KeptSent q l who y in
      let W : List Sent → Type 0 = λ l. KeptSent q l (peer who) z in
      let sent = sym (sent_same old who c.end) in
      record {
        linked = c.onward.linked;
        here = subst P (sym (end_same old who c.end)) c.stands;
        there = subst Q (sym (end_other old who c.end)) s.there;
        own = subst R sent (payloads_first old.sent who x y z c.onward s.own);
        others = subst S sent (payloads_second old.sent (peer who) x y z c.onward s.others);
        sends = subst T sent (knows-from q old.sent who z y given first (accepts_as p q old.sent who y y e s.sends.accepted (λ id offset bytes fin transmit h. h)));
        receives = subst U sent (knows-from q old.sent (peer who) y z (subst (AreGiven y) (sym others) s.receives.ids) second (accepts_as p q old.sent (peer who) x z e s.receives.accepted c.quiet.accepts));
        kept_there = subst V sent (kept-as p q old.sent who y y same e (hears-none y) s.kept_there);
        kept_here = subst W sent (kept-as p q old.sent (peer who) x z same e c.quiet s.kept_here);
      }

  pub sees-onward : (q : Past) → q.accepted ≡ p.accepted → q.kept ≡ p.kept → AreGiven z (q.ids who) → q.ids (peer who) ≡ p.ids (peer who) → ((id : ℕ) → FlowKnown (p.flow who id) x y id → FlowKnown (q.flow who id) z y id)
      → ((id : ℕ) → FlowKnown (p.flow (peer who) id) y x id → FlowKnown (q.flow (peer who) id) y z id) → Sees q who new x y
  sees-onward q e same given others first second =
      let P : PairState → Type 0 = λ v. Seen q who v z y in
      let kept = seen_with q e same given others (λ id. first id (known-of p old.sent who x y s.sends id)) (λ id. second id (known-of p old.sent (peer who) y x s.receives id)) in
      record { end = z; made = c.onward.made; seen = subst P (sym c.is) kept }

  -- no stream was given
  given_as : GaveNone x z → AreGiven z (p.ids who)
  given_as n = given-still x z (p.ids who) c.onward.calls n s.sends.ids

  -- nothing is known besides
  pub sees-same : GaveNone x z → ((q : ℕ) → SendsSame x z q) → ((q : ℕ) → ReadsSame x z q) → Sees p who new x y
  sees-same n a b = sees-onward p refl refl (given_as n) refl (λ q. known-first x y z c.onward q (p.flow who q) (a q)) (λ q. known-second x y z c.onward q (p.flow (peer who) q) (b q))

  -- more is known of what it sends on a stream
  pub sees-sent : GaveNone x z → (id : ℕ) (change : Flow → Flow) → ((q : ℕ) → eqb q id ≡ false → SendsSame x z q) → ((q : ℕ) → ReadsSame x z q)
      → (FlowKnown (p.flow who id) x y id → FlowKnown (change (p.flow who id)) z y id) → Sees (with_flow who id change p) who new x y
  sees-sent g id change others reads here =
      sees-onward (with_flow who id change p) refl refl (given_as g) refl
      (λ q k. let P : Flow → Type 0 = λ f. FlowKnown f z y q in
      let Q : ℕ → Type 0 = λ i. FlowKnown (p.flow who i) x y i → FlowKnown (change (p.flow who i)) z y i in
      flow-changed P who id change p q (λ e. let now : FlowKnown (p.flow who q) x y q → FlowKnown (change (p.flow who q)) z y q = subst Q (sym e) here in now k) (λ n. known-first x y z c.onward q (p.flow who q) (others q n) k))
      (λ q k. let P : Flow → Type 0 = λ f. FlowKnown f y z q in
      flow-kept P who id change p q (known-second x y z c.onward q (p.flow (peer who) q) (reads q) k))

  -- of what it receives
  pub sees-read : GaveNone x z → (id : ℕ) (change : Flow → Flow) → ((q : ℕ) → SendsSame x z q) → ((q : ℕ) → eqb q id ≡ false → ReadsSame x z q)
      → (FlowKnown (p.flow (peer who) id) y x id → FlowKnown (change (p.flow (peer who) id)) y z id) → Sees (with_flow (peer who) id change p) who new x y
  sees-read g id change sends others here =
      sees-onward (with_flow (peer who) id change p) refl refl (given_as g) refl
      (λ q k. let P : Flow → Type 0 = λ f. FlowKnown f z y q in
      flow-kept-own P who id change p q (known-first x y z c.onward q (p.flow who q) (sends q) k))
      (λ q k. let P : Flow → Type 0 = λ f. FlowKnown f y z q in
      let Q : ℕ → Type 0 = λ i. FlowKnown (p.flow (peer who) i) y x i → FlowKnown (change (p.flow (peer who) i)) y z i in
      flow-changed P (peer who) id change p q (λ e. let now : FlowKnown (p.flow (peer who) q) y x q → FlowKnown (change (p.flow (peer who) q)) y z q = subst Q (sym e) here in now k) (λ n. known-second x y z c.onward q (p.flow (peer who) q) (others q n) k))

-- ---- one call

-- neither is a frame handed in, nor a stream stopped or opened for reads
abbrev pub IsQuiet : Event → Type 0
IsQuiet (Received id offset bytes fin answer) = ⊥
IsQuiet (ReceivedReset id code final answer) = ⊥
IsQuiet (Stopped id code answer) = ⊥
IsQuiet (Began id ordered (Ok u)) = ⊥
IsQuiet (Sending (StoppedOwn id code answer)) = ⊥
IsQuiet _ = Unit {0}

-- and no stream given
abbrev pub IsSilent : Event → Type 0
IsSilent (Sending (OpenedOwn dir closed (Ok (Some id)))) = ⊥
IsSilent (Accepted dir (Some id)) = ⊥
IsSilent e = IsQuiet e

pub silent-quiet : (e : Event) → IsSilent e → IsQuiet e
silent-quiet (Sending (OpenedOwn dir closed (Ok (Some id)))) w = absurd w
silent-quiet (Accepted dir answer) w = tt
silent-quiet e w = w

pub silent-gives : (e : Event) → IsSilent e → GivesNone e
silent-gives (Sending (OpenedOwn dir closed (Ok (Some id)))) w = absurd w
silent-gives (Accepted dir (Some id)) w = absurd w
silent-gives _ w = tt

pub called-once : (who : End) (old new : PairState) (x y : LinkedEnd) (e : Event) (v : World) (f : EndState) → Onward x y (acted x e v) → f.streams ≡ v → AreAsked (acted x e v) f.pending → new ≡ with_end old who f
    → HearsNothing x (acted x e v) → Called who old new x y (acted x e v)
called-once who old new x y e v f o w k is quiet = record { onward = o; quiet = quiet; end = f; stands = record { world = sym w; pending = k }; is = is }

no_frame : (e : Event) → IsQuiet e → IsNoFrame e
no_frame (Received id offset bytes fin answer) w = w
no_frame (ReceivedReset id code final answer) w = w
no_frame (Sending (StoppedOwn id code answer)) w = w
no_frame _ w = tt

pub quiet-accepts : (x : LinkedEnd) (e : Event) (v : World) → IsQuiet e → HearsNothing x (acted x e v)
quiet-accepts x e v w = hears-call x e v (no_frame e w)

-- a call that moves nothing on a sending side
pub sends-same : (x y : LinkedEnd) (e : Event) (v : World) → MayAct x y e v → send_move_of e ≡ None → limits_in e ≡ None → (q : ℕ) → SendsSame x (acted x e v) q
sends-same x y e v a m l q =
    let f = sent_on x q in
    let P : SendFlow → Type 0 = λ t. (t.cuts ≡ f.cuts) × (t.finished ≡ f.finished) × (t.reset ≡ f.reset) in
    let k : P (sent_on (acted x e v) q) = flow-called P x.made e x.calls q (plain-call x y e a.honest) (λ t p. p) (rw (m, l) (refl, refl, refl)) in
    record { written = ap concat k.0; finished = k.1; reset = k.2 }

-- and one that moves nothing on a receiving side
pub reads-same : (x y : LinkedEnd) (e : Event) (v : World) → MayAct x y e v → move_of e ≡ None → IsQuiet e → (q : ℕ) → ReadsSame x (acted x e v) q
reads-same x y e v a m w q =
    let plain = plain-call x y e a.honest in
    let k : came_on (acted x e v) q ≡ came_on x q = rw (plain, m) refl in
    record {
      given = ap (λ (t : Trace). t.given) k;
      ended = ap (λ (t : Trace). t.ended) k;
      stops = λ code h. elim h [
        | inl i ↦ absurd (let P : Event → Type 0 = λ j. IsQuiet j in subst P (sym i) w)
        | inr old ↦ old
      ];
      modes = λ h. elim h [
        | inl i ↦ absurd (let P : Event → Type 0 = λ j. IsQuiet j in subst P (sym i) w)
        | inr old ↦ old
      ];
    }

-- a call that moves nothing
pub sees-quiet : (p : Past) (who : End) (old new : PairState) (x y : LinkedEnd) (f : EndState) (e : Event) (v : World) → Seen p who old x y → MayAct x y e v → send_move_of e ≡ None → limits_in e ≡ None → move_of e ≡ None → IsSilent e
    → f.streams ≡ v → AreAsked x f.pending → new ≡ with_end old who f → Sees p who new x y
sees-quiet p who old new x y f e v s a m l r w is asked now =
    let o = onward-call x y e v s.linked a in
    sees-same p who old new x y (acted x e v) s (called-once who old new x y e v f o is (o.asked f.pending asked) now (quiet-accepts x e v (silent-quiet e w))) (gave-none x e v (silent-gives e w)) (sends-same x y e v a m l) (reads-same x y e v a r (silent-quiet e w))

-- a call that gives a stream, and moves nothing
pub sees-given : (p : Past) (who : End) (id : ℕ) (old new : PairState) (x y : LinkedEnd) (f : EndState) (e : Event) (v : World) → Seen p who old x y → MayAct x y e v → send_move_of e ≡ None → limits_in e ≡ None → move_of e ≡ None → IsQuiet e
    → AreGiven (acted x e v) (id ∷ p.ids who) → f.streams ≡ v → AreAsked x f.pending → new ≡ with_end old who f → Sees (gives_id who id p) who new x y
sees-given p who id old new x y f e v s a m l r w given is asked now =
    let o = onward-call x y e v s.linked a in
    let z = acted x e v in
    let c = called-once who old new x y e v f o is (o.asked f.pending asked) now (quiet-accepts x e v w) in
    sees-onward p who old new x y z s c (gives_id who id p) refl refl (subst (AreGiven z) (sym (ids_here who id p)) given) (ids_there who id p)
    (λ q. known-first x y z o q (p.flow who q) (sends-same x y e v a m l q))
    (λ q. known-second x y z o q (p.flow (peer who) q) (reads-same x y e v a r w q))
  where
    ids_here : (k : End) (i : ℕ) (q : Past) → (gives_id k i q).ids k ≡ i ∷ q.ids k
    ids_here A i q = refl
    ids_here B i q = refl

    ids_there : (k : End) (i : ℕ) (q : Past) → (gives_id k i q).ids (peer k) ≡ q.ids (peer k)
    ids_there A i q = refl
    ids_there B i q = refl

-- no call, but more may be to be sent
pub sees-idle : (p : Past) (who : End) (old new : PairState) (x y : LinkedEnd) (f : EndState) → Seen p who old x y → f.streams ≡ (the_end old who).streams → AreAsked x f.pending → new ≡ with_end old who f → Sees p who new x y
sees-idle p who old new x y f s w asked now =
    let c : Called who old new x y x = record { onward = onward-none x y s.linked; quiet = hears-none x; end = f; stands = record { world = s.here.world ∙ sym w; pending = asked }; is = now } in
    sees-same p who old new x y x s c (λ id h. h) (λ q. record { written = refl; finished = refl; reset = refl }) (λ q. record { given = refl; ended = refl; stops = λ code h. h; modes = λ h. h })

-- and nothing
pub sees-stays : (p : Past) (who : End) (old new : PairState) (x y : LinkedEnd) (f : EndState) → Seen p who old x y → f ≡ the_end old who → new ≡ with_end old who f → Sees p who new x y
sees-stays p who old new x y f s e now =
    let P : EndState → Type 0 = λ k. AreAsked x k.pending in
    sees-idle p who old new x y f s (ap (λ (k : EndState). k.streams) e) (subst P (sym e) s.here.pending) now

-- what an end may do at the value of a pair
pub step-at : (u w v : World) (e : Event) → u ≡ w → Step w e v → Step u e v
step-at u w v e k s = let P : World → Type 0 = λ z. Step z e v in subst P (sym k) s
