-- A reset of each stream that was given up came, or one is pending, or noted of a payload that is unreported: each step keeps it.
use Rattle.std.proofs.Common.{◌≡◌, ◌⊎◌, ℕ, Bool, true, false, List, [], ◌∷◌, ◌++◌, length, Option, Some, None, is_some, Result, Ok, Err, refl, sym, ap, ◌∙◌, subst, inl, inr}
use Rattle.std.specs.Prelude.{map, slice_get, slice_set, unwrap_or}
use Rattle.std.specs.Option.{option_map}
use Rattle.std.proofs.lemmas.Option.{same_Some, none-some}
use Rattle.quic_values.specs.declared.memory.OutOfMemory.{OutOfMemory}
use Rattle.quic_wire.specs.declared.frame.Frame.{Frame}
use Rattle.quic_wire.specs.declared.frame.Frame.TheVariants as frames
use Rattle.quic_wire.specs.declared.frame.ResetStream.{ResetStream}
use Rattle.quic_wire.specs.declared.frame.StreamMeta.{StreamMeta}
use Rattle.quic_wire.specs.Frames.{AreFrames}
use Rattle.quic_wire.specs.declared.error.ReceiveError.{ReceiveError}
use Rattle.quic_sending.specs.declared.send.Send.{Send}
use Rattle.quic_receiving.specs.declared.transmit.ShouldTransmit.{ShouldTransmit}
use Rattle.quic_flows.specs.Flow.{SendFlow, FlowAt}
use Rattle.quic_retransmits.specs.Pending.{Pending, nothing, merged_if, thin_view}
use Rattle.quic_retransmits.specs.Settling.{noted_in}
use Rattle.quic_history.specs.World.{World, Made}
use Rattle.quic_history.specs.History.{flow}
use Rattle.quic_history.proofs.Totals.{same}
use Rattle.quic_streams.specs.declared.settling.SentPayload.{SentPayload}
use Rattle.quic_streams.specs.Settling.{SentView, LosesWhole}
use Rattle.quic_streams.specs.Sent.{sent_view, report_view}
use Rattle.quic_link.specs.Endpoints.{IsOneOf}
use Rattle.quic_endpoint.specs.Ends.{EndState}
use Rattle.quic_endpoint.specs.Emitting.{PayloadView, control_in}
use Rattle.quic_endpoint.specs.Reports.{LosesPayloadAt, AcksPayloadAt}
use Rattle.quic_steps.specs.declared.steps.End.{End}
use Rattle.quic_steps.specs.declared.steps.End.TheVariants.{A, B}
use Rattle.quic_exchange.specs.Sent.{Sent, Unsettled}
use Rattle.quic_exchange.specs.declared.unsettled.Report.{Report}
use Rattle.quic_exchange.specs.declared.unsettled.Report.TheVariants.{Lost, Acknowledged}
use Rattle.quic_exchange.specs.Unsettled.{unsettled_after}
use Rattle.quic_exchange.specs.Payloads.{metas_in, codes_in}
use Rattle.quic_exchange.specs.Replies.{Answer}
use Rattle.quic_exchange.specs.State.{PairState, the_end, with_end, with_sent}
use Rattle.quic_exchange.specs.Steps.{HandsOver, SentAfter, Reports}
use Rattle.quic_exchange.specs.History.{Past, FramePlace}
use Rattle.quic_exchange.specs.Readable.{SomeReset}
use Rattle.quic_exchange.specs.Tale.{Tale, Tales, WasPayload, Carried, GivenUp, parts_in}
use Rattle.quic_exchange.proofs.Emissions.{EmitsSome}
use Rattle.quic_exchange.proofs.Counted.{Counted}
use Rattle.quic_exchange.proofs.KeptPlaces.{reset-stays, reset-more}
use Rattle.quic_exchange.proofs.Left.{AreLeft, resets-among}
use Rattle.quic_exchange.proofs.Lists.{slice_get-append_left, slice_set-keeps, slice_get-set_same, slice_get-within, place-of, one-of-last}
use Rattle.quic_exchange.proofs.Marks.{AreMarkedSo}
use Rattle.quic_exchange.proofs.PayloadKnows.{StaySent}
use Rattle.quic_progress.proofs.Tracked.{Forth, forth-same, forth-marked}
use Rattle.quic_progress.proofs.GivenUps.{AllStay}
use Rattle.quic_progress.proofs.ResetsPend.{KeepsResets}
use Rattle.quic_progress.proofs.ResetsWritten.{emits-left}

-- a payload of an end of which something is unreported has noted a reset
pub record IsNoted (z : ℕ × ℕ) (sent : List Sent) (who : End) : Type 0 where
  pub number : ℕ
  pub payload : Sent
  pub is : slice_get sent number ≡ Some payload
  pub writer : payload.writer ≡ who
  pub rest : SentPayload
  pub rest_is : payload.unsettled.rest ≡ Some rest
  pub noted : IsOneOf z (noted_in rest.control).reset_stream

-- a reset of the stream is pending, or noted
abbrev pub Waits : ℕ → PairState → End → Type 0
Waits id v who = (code : ℕ) × (IsOneOf (id, code) (the_end v who).pending.reset_stream ⊎ IsNoted (id, code) v.sent who)

-- one was accepted
abbrev pub HasCome : ℕ → Past → List Sent → End → Type 0
HasCome id p sent who = (code : ℕ) × SomeReset sent who id code p.accepted

pub record Comes (v : PairState) (t : Tales) (p : Past) : Type 0 where
  pub given : (who : End) (id code : ℕ) → IsOneOf code (p.flow who id).resets → is_some ((t.of who).flow id).reset ≡ true
  pub comes : (who : End) (id : ℕ) → is_some ((t.of who).flow id).reset ≡ true → HasCome id p v.sent who ⊎ ((((t.of who).flow id).freed ≡ false) × Waits id v who)

-- ---- what stays

pub noted-forth : (z : ℕ × ℕ) (old new : List Sent) (who : End) → Forth old new → IsNoted z old who → IsNoted z new who
noted-forth z old new who f w =
    let s = f w.number w.payload w.is in
    record { number = w.number; payload = s.0; is = s.1; writer = s.2 ∙ w.writer; rest = w.rest; rest_is = ap (λ (x : Unsettled). x.rest) s.3 ∙ w.rest_is; noted = w.noted }

pub come-more : (id : ℕ) (p q : Past) (old new : List Sent) (who : End) → StaySent old new → ((at : FramePlace) → IsOneOf at p.accepted → IsOneOf at q.accepted) → HasCome id p old who → HasCome id q new who
come-more id p q old new who stay more h = (h.0, reset-more new who id h.0 p.accepted q.accepted more (reset-stays old new who id stay h.0 p.accepted h.1))

some_code : (o : Option ℕ) → is_some o ≡ true → (code : ℕ) × (o ≡ Some code)
some_code None e = cc
some_code (Some code) e = (code, refl)

is_code : (o : Option ℕ) (code : ℕ) → o ≡ Some code → is_some o ≡ true
is_code o code e = ap (λ (x : Option ℕ). is_some x) e

-- a step that gives no stream up
pub comes-on : (old new : PairState) (p q : Past) (t u : Tales) (acked : End → ℕ → Type 0) → Comes old t p → AllStay acked t u → ((who : End) (id : ℕ) → (q.flow who id).resets ≡ (p.flow who id).resets) → StaySent old.sent new.sent
    → ((at : FramePlace) → IsOneOf at p.accepted → IsOneOf at q.accepted)
    → ((who : End) (id : ℕ) → is_some ((t.of who).flow id).reset ≡ true → ((t.of who).flow id).freed ≡ false → Waits id old who → HasCome id q new.sent who ⊎ Waits id new who)
    → ((who : End) (id : ℕ) → acked who id → HasCome id q new.sent who) → Comes new u q
comes-on old new p q t u acked c stay resets sents more waits acks = record {
  given = λ who id code i.
      let P : List ℕ → Type 0 = λ l. IsOneOf code l in
      let before = some_code ((t.of who).flow id).reset (c.given who id code (subst P (resets who id) i)) in
      is_code ((u.of who).flow id).reset before.0 ((stay who id).kept before.0 before.1);
  comes = λ who id some.
      let now = some_code ((u.of who).flow id).reset some in
      let was = is_code ((t.of who).flow id).reset now.0 ((stay who id).back now.0 now.1) in
      elim (c.comes who id was) [
        | inl come ↦ inl (come-more id p q old.sent new.sent who sents more come)
        | inr w ↦ elim ((stay who id).held was w.0) [
          | inl held ↦ elim (waits who id was w.0 w.1) [ inl come ↦ inl come | inr still ↦ inr (held, still) ]
          | inr a ↦ inl (acks who id a)
        ]
      ];
}

-- what waits does so still, where no payload is written or reported
pub waits-forth : (old new : PairState) → ((who : End) → KeepsResets (the_end old who).pending (the_end new who).pending) → Forth old.sent new.sent → (who : End) (id : ℕ) → Waits id old who → Waits id new who
waits-forth old new keeps forth who id w = (w.0, elim w.1 [ inl pending ↦ inl (keeps who (id, w.0) pending) | inr noted ↦ inr (noted-forth (id, w.0) old.sent new.sent who forth noted) ])

pub forth-handed : (old new : PairState) (number index : ℕ) (reply : Answer) → HandsOver old number index reply new → Forth old.sent new.sent
forth-handed old new number index reply n = by n.answer n.sent
  where
    by : (answer : Result ShouldTransmit ReceiveError) → SentAfter old.sent number n.payload.sent index answer new.sent → Forth old.sent new.sent
    by (Ok transmit) s = forth-marked old.sent new.sent number index n.payload.sent n.payload.is s.0 s.1 s.2
    by (Err error) s = forth-same old.sent new.sent s

-- ---- a payload is written

-- a half that was given up and not freed is held
gone_by : (first : ℕ) (f : SendFlow) (there : Bool) (half : Option Send) → FlowAt first f there half → half ≡ None → is_some f.reset ≡ true → f.freed ≡ false → ⊥
gone_by first f true None a e some held = let k = sym a ∙ held in cc
gone_by first f false None a e some held = let k = sym (ap (λ (x : SendFlow). is_some x.reset) a) ∙ some in cc
gone_by first f there (Some s) a e some held = cc

still_held : (m : Made) (w : World) (t : Tale) (c : Counted m w t) (id : ℕ) → w.out.halves id ≡ None → is_some (t.flow id).reset ≡ true → (t.flow id).freed ≡ false → ⊥
still_held m w t c id none some held =
    let is = c.tells.flow_is id in
    gone_by _ (flow m c.calls id) _ (w.out.halves id) (c.from.sends.flows id) none (ap (λ (x : SendFlow). is_some x.reset) is ∙ some) (ap (λ (x : SendFlow). x.freed) is ∙ held)

last_there : {X : Type 0} (xs : List X) (x : X) → slice_get (xs ++ x ∷ []) (length xs) ≡ Some x
last_there [] x = refl
last_there (y ∷ xs) x = last_there xs x

some_rest : (rest : Option SentPayload) (view : SentView) → option_map sent_view rest ≡ Some view → (r : SentPayload) × (rest ≡ Some r) × (sent_view r ≡ view)
some_rest None view e = absurd (none-some view e)
some_rest (Some r) view e = (r, refl, same_Some (sent_view r) view e)

end_sent : (old : PairState) (who : End) (g : EndState) (sent : List Sent) → the_end (with_sent (with_end old who g) sent) who ≡ g
end_sent old A g sent = refl
end_sent old B g sent = refl

module _ (old new : PairState) (who : End) (most : ℕ) (fair : Bool) (answer : Result (Unit {0}) OutOfMemory) (payload : PayloadView) (n : EmitsSome old who most fair answer payload new) where
  sent_then : new.sent ≡ old.sent ++ n.sent ∷ []
  sent_then = ap (λ (v : PairState). v.sent) n.is

  pub forth-emits : Forth old.sent new.sent
  forth-emits number s is = (s, ap (λ l. slice_get l number) sent_then ∙ slice_get-append_left old.sent (n.sent ∷ []) number s is, refl, refl, refl)

  emits_waits : (m : Made) (t : Tale) → Counted m (the_end old who).streams t → (id : ℕ) → is_some (t.flow id).reset ≡ true → (t.flow id).freed ≡ false → Waits id old who → Waits id new who
  emits_waits m t c id some held w = (
    w.0,
    elim w.1 [
      | inl pending ↦ elim (emits-left (id, w.0) n.emits pending) [
        | inl still ↦ inl (let P : EndState → Type 0 = λ e. IsOneOf (id, w.0) e.pending.reset_stream in subst P (sym (ap (λ (v : PairState). the_end v who) n.is ∙ end_sent old who n.end (old.sent ++ n.sent ∷ []))) still)
        | inr (inl noted) ↦ inr (
            let r = some_rest n.sent.unsettled.rest payload.sent n.sent_is.rest in
            let P : Pending → Type 0 = λ k. IsOneOf (id, w.0) k.reset_stream in
            let same_noted : noted_in r.0.control ≡ control_in payload = ap (λ (v : SentView). unwrap_or v.control nothing) r.2 in
            record { number = length old.sent; payload = n.sent; is = ap (λ l. slice_get l (length old.sent)) sent_then ∙ last_there old.sent n.sent; writer = n.sent_is.writer; rest = r.0; rest_is = r.1; noted = subst P (sym same_noted) noted }
            )
        | inr (inr gone) ↦ absurd (still_held m (the_end old who).streams t c id gone some held)
      ]
      | inr noted ↦ inr (noted-forth (id, w.0) old.sent new.sent who forth-emits noted)
    ],
  )

  other_waits : (other : End) → (the_end new other).pending ≡ (the_end old other).pending → (id : ℕ) → Waits id old other → Waits id new other
  other_waits other same id w =
      let P : Pending → Type 0 = λ k. IsOneOf (id, w.0) k.reset_stream in
      (w.0, elim w.1 [ inl pending ↦ inl (subst P (sym same) pending) | inr noted ↦ inr (noted-forth (id, w.0) old.sent new.sent other forth-emits noted) ])

  pub waits-emits : (m : End → Made) (t : Tales) → ((k : End) → Counted (m k) (the_end old k).streams (t.of k)) → (other : End) (id : ℕ) → is_some ((t.of other).flow id).reset ≡ true → ((t.of other).flow id).freed ≡ false → Waits id old other → Waits id new other
  waits-emits m t c other id some held w = by other who refl (emits_waits (m who) (t.of who) (c who) id) some held w
    where
      changed_other : (k j : End) (g : EndState) (sent : List Sent) → new ≡ with_sent (with_end old k g) sent → (k ≡ j → ⊥) → (the_end new j).pending ≡ (the_end old j).pending
      changed_other A A g sent e differ = absurd (differ refl)
      changed_other B B g sent e differ = absurd (differ refl)
      changed_other A B g sent e differ = ap (λ (v : PairState). v.b.pending) e
      changed_other B A g sent e differ = ap (λ (v : PairState). v.a.pending) e

      by : (k j : End) → who ≡ j → (is_some ((t.of who).flow id).reset ≡ true → ((t.of who).flow id).freed ≡ false → Waits id old who → Waits id new who)
          → is_some ((t.of k).flow id).reset ≡ true → ((t.of k).flow id).freed ≡ false → Waits id old k → Waits id new k
      by A A e f s d x = let P : End → Type 0 = λ y. is_some ((t.of y).flow id).reset ≡ true → ((t.of y).flow id).freed ≡ false → Waits id old y → Waits id new y in subst P e f s d x
      by B B e f s d x = let P : End → Type 0 = λ y. is_some ((t.of y).flow id).reset ≡ true → ((t.of y).flow id).freed ≡ false → Waits id old y → Waits id new y in subst P e f s d x
      by A B e f s d x = other_waits A (changed_other who A n.end (old.sent ++ n.sent ∷ []) n.is (λ y. let z = sym e ∙ y in cc)) id x
      by B A e f s d x = other_waits B (changed_other who B n.end (old.sent ++ n.sent ∷ []) n.is (λ y. let z = sym e ∙ y in cc)) id x

-- ---- a payload is reported

merged_last : (z : ℕ × ℕ) (p : Pending) (o : Option Pending) → IsOneOf z (unwrap_or o nothing).reset_stream → IsOneOf z (merged_if p o).reset_stream
merged_last z p None i = absurd i
merged_last z p (Some b) i = one-of-last z p.reset_stream b.reset_stream i

lost_same : (u v : World) (p q : Pending) (sent back : SentView) → LosesWhole u p sent (Err back) v q → back.control ≡ sent.control
lost_same u v p q sent back d = elim d.0 [ inl a ↦ ap (λ (x : SentView). x.control) a.left | inr a ↦ ap (λ (x : SentView). x.control) a.left ]

module _ (old new : PairState) (number : ℕ) (kind : Report) (At : EndState → SentView → Result (Unit {0}) SentView → EndState → Type 0) (reply : Answer) (n : Reports kind At old number reply new) where
  abbrev reported : Sent
  reported = record n.payload.sent { unsettled = unsettled_after kind n.payload.sent.unsettled n.answer }

  reported_then : new.sent ≡ slice_set old.sent number reported
  reported_then = ap (λ (v : PairState). v.sent) n.is

  reported_now : slice_get new.sent number ≡ Some reported
  reported_now = ap (λ x. slice_get x number) reported_then ∙ slice_get-set_same old.sent number n.payload.sent reported n.payload.is

  -- what was noted of another payload is so still
  noted_or : (z : ℕ × ℕ) (who : End) (w : IsNoted z old.sent who) → ((w.payload ≡ n.payload.sent) × (w.number ≡ number)) ⊎ IsNoted z new.sent who
  noted_or z who w = elim (slice_set-keeps old.sent number w.number reported w.payload w.is) [
    | inl here ↦ inl (same_Some w.payload n.payload.sent (sym w.is ∙ ap (slice_get old.sent) here ∙ n.payload.is), here)
    | inr there ↦ inr (record { number = w.number; payload = w.payload; is = ap (λ y. slice_get y w.number) reported_then ∙ there; writer = w.writer; rest = w.rest; rest_is = w.rest_is; noted = w.noted })
  ]

  rest_one : (z : ℕ × ℕ) (who : End) (w : IsNoted z old.sent who) → w.payload ≡ n.payload.sent → IsOneOf z (noted_in n.rest.control).reset_stream × (n.payload.sent.writer ≡ who)
  rest_one z who w e =
      let same_rest : w.rest ≡ n.rest = same_Some w.rest n.rest (sym w.rest_is ∙ ap (λ (v : Sent). v.unsettled.rest) e ∙ n.rest_is) in
      let P : SentPayload → Type 0 = λ r. IsOneOf z (noted_in r.control).reset_stream in
      (subst P same_rest w.noted, sym (ap (λ (v : Sent). v.writer) e) ∙ w.writer)

  noted_back : (z : ℕ × ℕ) (who : End) (back : SentPayload) → n.answer ≡ Err back → n.payload.sent.writer ≡ who → IsOneOf z (noted_in back.control).reset_stream → IsNoted z new.sent who
  noted_back z who back e writer i = record { number = number; payload = reported; is = reported_now; writer = writer; rest = back; rest_is = ap (λ a. (unsettled_after kind n.payload.sent.unsettled a).rest) e; noted = i }

module _ (old new : PairState) (number : ℕ) (reply : Answer) (n : Reports Lost LosesPayloadAt old number reply new) (keeps : (who : End) → KeepsResets (the_end old who).pending (the_end new who).pending) where
  lost_waits : (who : End) (id code : ℕ) → IsOneOf (id, code) (noted_in n.rest.control).reset_stream → n.payload.sent.writer ≡ who → (answer : Result (Unit {0}) SentPayload) → n.answer ≡ answer → LosesPayloadAt (the_end old n.payload.sent.writer) (sent_view n.rest) (report_view answer) n.end → Waits id new who
  lost_waits who id code i writer (Ok done) e d =
      let P : EndState → Type 0 = λ x. IsOneOf (id, code) x.pending.reset_stream in
      let Q : Pending → Type 0 = λ x. IsOneOf (id, code) x.reset_stream in
      let R : End → Type 0 = λ k. IsOneOf (id, code) (the_end new k).pending.reset_stream in
      let here : IsOneOf (id, code) n.end.pending.reset_stream = subst Q (sym d.1) (merged_last (id, code) (the_end old n.payload.sent.writer).pending (thin_view n.rest.control) i) in
      (code, inl (subst R writer (subst P (sym (ap (λ (v : PairState). the_end v n.payload.sent.writer) n.is ∙ end_sent old n.payload.sent.writer n.end (slice_set old.sent number (reported old new number Lost LosesPayloadAt reply n)))) here)))
  lost_waits who id code i writer (Err back) e d =
      let same_control : thin_view back.control ≡ thin_view n.rest.control = lost_same _ _ _ _ (sent_view n.rest) (sent_view back) d in
      let P : Option Pending → Type 0 = λ o. IsOneOf (id, code) (unwrap_or o nothing).reset_stream in
      (code, inr (noted_back old new number Lost LosesPayloadAt reply n (id, code) who back e writer (subst P (sym same_control) i)))

  pub waits-lost : (who : End) (id : ℕ) → Waits id old who → Waits id new who
  waits-lost who id w = elim w.1 [
    | inl pending ↦ (w.0, inl (keeps who (id, w.0) pending))
    | inr noted ↦ elim (noted_or old new number Lost LosesPayloadAt reply n (id, w.0) who noted) [
      | inl here ↦ (let r = rest_one old new number Lost LosesPayloadAt reply n (id, w.0) who noted here.0 in lost_waits who id w.0 r.0 r.1 n.answer refl n.does)
      | inr still ↦ (w.0, inr still)
    ]
  ]

-- ---- one is acknowledged, of which each frame was accepted

same_given : (a b : ℕ) → GivenUp a ≡ GivenUp b → a ≡ b
same_given a b e = cc

given_code : (id : ℕ) (ms : List StreamMeta) (cs : List (ℕ × ℕ)) → IsOneOf (GivenUp id) (map Carried ms ++ map (λ (c : ℕ × ℕ). GivenUp c.0) cs) → (code : ℕ) × IsOneOf (id, code) cs
given_code id [] [] h = absurd h
given_code id [] (c ∷ cs) (inl e) = (c.1, inl (ap (λ (n : ℕ). (n, c.1)) (same_given id c.0 e)))
given_code id [] (c ∷ cs) (inr h) = let k = given_code id [] cs h in (k.0, inr k.1)
given_code id (m ∷ ms) cs (inl e) = cc
given_code id (m ∷ ms) cs (inr h) = given_code id ms cs h

reset_of : (id code : ℕ) (fs : List Frame) → IsOneOf (id, code) (codes_in fs) → (f : ResetStream) × (f.id ≡ id) × IsOneOf (frames.ResetStream f) fs
reset_of id code [] h = absurd h
reset_of id code (frames.ResetStream f ∷ fs) (inl e) = (f, sym (ap (λ (k : ℕ × ℕ). k.0) e), inl refl)
reset_of id code (frames.ResetStream f ∷ fs) (inr h) = let k = reset_of id code fs h in (k.0, k.1, inr k.2)
reset_of id code (_ ∷ fs) h = let k = reset_of id code fs h in (k.0, k.1, inr k.2)

module _ (old new : PairState) (p q : Past) (t : Tales) (number : ℕ) (reply : Answer) (n : Reports Acknowledged AcksPayloadAt old number reply new) (keeps : (who : End) → KeepsResets (the_end old who).pending (the_end new who).pending)
    (marks : AreMarkedSo p.accepted old.sent) (left : AreLeft old.sent t.told) (stay : StaySent old.sent new.sent) (more : (at : FramePlace) → IsOneOf at p.accepted → IsOneOf at q.accepted) where
  -- a reset in it was accepted
  come_there : (all : List Frame) → AreFrames n.payload.sent.text.bytes all → (g : ResetStream) → IsOneOf (frames.ResetStream g) all → HasCome g.id q new.sent n.payload.sent.writer
  come_there all spelled g i =
      let at = place-of (frames.ResetStream g) all i in
      let accepted = n.serves all spelled at.0 (slice_get-within all at.0 (frames.ResetStream g) at.1) in
      let here : HasCome g.id p old.sent n.payload.sent.writer = (
        g.error_code,
        record {
          at = (number, at.0);
          listed = marks.listed number at.0 n.payload.sent n.payload.is accepted;
          payload = n.payload.sent;
          is = n.payload.is;
          writer = refl;
          frame = g;
          there = record { all = all; spelled = spelled; at = at.1 };
          on = refl;
          with_code = refl;
        },
      ) in
      come-more g.id p q old.sent new.sent n.payload.sent.writer stay more here

  come_as : (who : End) (id : ℕ) (g : ResetStream) → g.id ≡ id → n.payload.sent.writer ≡ who → HasCome g.id q new.sent n.payload.sent.writer → HasCome id q new.sent who
  come_as who id g on writer h =
      let P : ℕ → Type 0 = λ i. HasCome i q new.sent n.payload.sent.writer in
      let Q : End → Type 0 = λ k. HasCome id q new.sent k in
      subst Q writer (subst P on h)

  module _ (spell : (T : Type 0) → ((all : List Frame) → AreFrames n.payload.sent.text.bytes all → T) → T) where
    pub waits-acked : (who : End) (id : ℕ) → Waits id old who → HasCome id q new.sent who ⊎ Waits id new who
    waits-acked who id w = elim w.1 [
      | inl pending ↦ inr (w.0, inl (keeps who (id, w.0) pending))
      | inr noted ↦ elim (noted_or old new number Acknowledged AcksPayloadAt reply n (id, w.0) who noted) [
        | inl here ↦ inl (
            let r = rest_one old new number Acknowledged AcksPayloadAt reply n (id, w.0) who noted here.0 in
            spell (HasCome id q new.sent who) (λ all spelled.
            let g = resets-among old.sent t.told left number n.payload.sent n.payload.is n.rest n.rest_is all spelled id w.0 r.0 in
            come_as who id g.0 g.1 r.1 (come_there all spelled g.0 g.2))
            )
        | inr still ↦ inr (w.0, inr still)
      ]
    ]

  pub come-acked : (who : End) (id : ℕ) (all : List Frame) → WasPayload new.sent who number all → IsOneOf (GivenUp id) (parts_in all) → HasCome id q new.sent who
  come-acked who id all w i =
      let c = given_code id (metas_in all) (codes_in all) i in
      let g = reset_of id c.0 all c.1 in
      let same_payload : w.payload ≡ reported old new number Acknowledged AcksPayloadAt reply n = same_Some w.payload _ (sym w.is ∙ reported_now old new number Acknowledged AcksPayloadAt reply n) in
      let P : List ℕ → Type 0 = λ b. AreFrames b all in
      let spelled = subst P (ap (λ (s : Sent). s.text.bytes) same_payload) w.spelled in
      come_as who id g.0 g.1 (sym (ap (λ (s : Sent). s.writer) same_payload) ∙ w.writer) (come_there all spelled g.0 g.2)
