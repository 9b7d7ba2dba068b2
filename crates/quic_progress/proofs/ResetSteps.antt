-- Each step keeps that a reset of each stream that was given up came, or waits.
use Rattle.std.proofs.Common.{◌≡◌, ◌⊎◌, ℕ, Bool, true, false, List, [], ◌∷◌, ◌++◌, Some, is_some, Result, Ok, Err, refl, sym, ap, ◌∙◌, subst, inl, inr}
use Rattle.std.specs.Prelude.{◌==◌, ◌&&◌, take, slice_get, if◌then◌else◌}
use Rattle.std.specs.List.{concat}
use Rattle.quic_wire.specs.declared.frame.Frame.{Frame}
use Rattle.quic_wire.specs.Frames.{AreFrames}
use Rattle.quic_wire.specs.declared.event.StreamEvent.{StreamEvent}
use Rattle.quic_wire.specs.declared.event.StreamEvent.TheVariants as stream_event
use Rattle.quic_sending.specs.declared.send.Send.{Send}
use Rattle.quic_sending.specs.declared.errors.HandleError.{HandleError}
use Rattle.quic_sending.specs.declared.errors.HandleError.TheVariants as handle_error
use Rattle.quic_flows.specs.Flow.{SendFlow, WasGivenUp, with_send_move}
use Rattle.quic_retransmits.specs.Pending.{Pending}
use Rattle.quic_history.specs.World.{Made}
use Rattle.quic_history.specs.History.{flow}
use Rattle.quic_history.proofs.SendSides.{held-flow}
use Rattle.quic_history.proofs.Totals.{by_cases, same as equal}
use Rattle.quic_link.specs.Endpoints.{IsOneOf}
use Rattle.quic_endpoint.specs.Ends.{EndState, ResetsAt}
use Rattle.quic_endpoint.specs.Reports.{LosesPayloadAt, AcksPayloadAt}
use Rattle.quic_steps.specs.declared.steps.End.{End}
use Rattle.quic_steps.specs.declared.steps.End.TheVariants.{A, B}
use Rattle.quic_steps.specs.declared.steps.Step.{Step}
use Rattle.quic_steps.specs.declared.steps.Step.TheVariants as steps
use Rattle.quic_steps.specs.declared.steps.Last.{Last}
use Rattle.quic_steps.specs.declared.steps.Last.TheVariants as last
use Rattle.quic_steps.specs.declared.steps.Reply.TheVariants.{Done, DoneTransmit, Fault, Id, Wrote, WroteChunks, Stopped, Read, Code, Payload, Event as EventReply}
use Rattle.quic_steps.specs.declared.steps.PairError.TheVariants.{NoSuchPayload, NoSuchFrame, NotAccepted, AlreadySettled, OutOfMemory as NoMemory}
use Rattle.quic_exchange.specs.Sent.{Sent}
use Rattle.quic_exchange.specs.declared.unsettled.Report.TheVariants.{Lost, Acknowledged}
use Rattle.quic_exchange.specs.Replies.{Answer, handled_reply}
use Rattle.quic_exchange.specs.State.{PairState, peer, the_end, with_end}
use Rattle.quic_exchange.specs.Steps.{NextOrdinary, Delivers, SettlesPayload, Reports}
use Rattle.quic_exchange.specs.History.{Past, Flow, FramePlace, after, with_flow, ends_flow, resets_with, stops_with, tells_reset, tells_stop, completes, writes_more, reads_chunks, reads_last, after_event, is_same_end}
use Rattle.quic_exchange.specs.Tale.{Tales, WasPayload, GivenUp, parts_in, StepTells, told_of, with_deed}
use Rattle.quic_exchange.proofs.Emissions.{EmittedSome, emitted-some, emitted-part, tells-part}
use Rattle.quic_exchange.proofs.Beside.{IsOfNoPayload, beside}
use Rattle.quic_exchange.proofs.Counted.{Counted}
use Rattle.quic_exchange.proofs.Left.{AreLeft}
use Rattle.quic_exchange.proofs.Lists.{one-of-last}
use Rattle.quic_exchange.proofs.Marks.{AreMarkedSo, sent_on_end}
use Rattle.quic_exchange.proofs.PayloadKnows.{StaySent, stay-sent}
use Rattle.quic_exchange.proofs.Streamless.{stay-emitted, stay-delivered, stay-reported}
use Rattle.quic_progress.proofs.Ends.{WritesNone}
use Rattle.quic_progress.proofs.Tracked.{Forth, forth-same}
use Rattle.quic_progress.proofs.GivenUps.{WasAckedIn, GivesNoneUp, all-stay}
use Rattle.quic_progress.proofs.ResetsPend.{KeepsResets, step-keeps}
use Rattle.quic_progress.proofs.ResetsCome.{Comes, Waits, HasCome, come-more, comes-on, waits-forth, forth-handed, waits-emits, waits-lost, waits-acked, come-acked}

-- ---- the resets of a flow

same_if : (b : Bool) (f g : Flow) → g.resets ≡ f.resets → (if b then g else f).resets ≡ f.resets
same_if true f g e = e
same_if false f g e = refl

with_same : (who : End) (id : ℕ) (change : Flow → Flow) (p : Past) (end : End) (q : ℕ) → ((f : Flow) → (change f).resets ≡ f.resets) → ((with_flow who id change p).flow end q).resets ≡ (p.flow end q).resets
with_same who id change p end q c = same_if (is_same_end end who && (q == id)) (p.flow end q) (change (p.flow end q)) (c (p.flow end q))

last_same : (l : Last) (f : Flow) → (reads_last l f).resets ≡ f.resets
last_same last.Ended f = refl
last_same (last.Reset code) f = refl
last_same _ f = refl

event_same : (p : Past) (who end : End) (q : ℕ) (event : StreamEvent) → ((after_event p who event).flow end q).resets ≡ (p.flow end q).resets
event_same p who end q (stream_event.Finished id) = with_same who id completes p end q (λ f. refl)
event_same p who end q (stream_event.Stopped id code) = with_same who id (tells_stop code) p end q (λ f. refl)
event_same p who end q _ = refl

abbrev KeepsResetsOf : Step → Answer → Type 0
KeepsResetsOf (steps.Reset who id code) (Ok Done) = ⊥
KeepsResetsOf steps.EarlyReject (Ok Done) = ⊥
KeepsResetsOf step reply = Unit {0}

resets_kept : (p : Past) (step : Step) (reply : Answer) → KeepsResetsOf step reply → (end : End) (q : ℕ) → ((after p step reply).flow end q).resets ≡ (p.flow end q).resets
resets_kept p (steps.Open who dir) (Ok (Id id)) k end q = refl
resets_kept p (steps.Accept who dir) (Ok (Id id)) k end q = refl
resets_kept p (steps.Write who id bytes) (Ok (Wrote count)) k end q = with_same who id (writes_more (take count bytes)) p end q (λ f. refl)
resets_kept p (steps.Write who id bytes) (Ok (Stopped code)) k end q = with_same who id (tells_stop code) p end q (λ f. refl)
resets_kept p (steps.WriteChunks who id chunks) (Ok (WroteChunks written)) k end q = with_same who id (writes_more (take written.bytes (concat chunks))) p end q (λ f. refl)
resets_kept p (steps.WriteChunks who id chunks) (Ok (Stopped code)) k end q = with_same who id (tells_stop code) p end q (λ f. refl)
resets_kept p (steps.Finish who id) (Ok Done) k end q = with_same who id ends_flow p end q (λ f. refl)
resets_kept p (steps.Finish who id) (Ok (Stopped code)) k end q = with_same who id (tells_stop code) p end q (λ f. refl)
resets_kept p (steps.Reset who id code) (Ok Done) k end q = absurd k
resets_kept p (steps.Stop who id code) (Ok Done) k end q = with_same (peer who) id (stops_with code) p end q (λ f. refl)
resets_kept p (steps.Read who id ordered most times) (Ok (Read chunks l transmit)) k end q = with_same (peer who) id (λ f. reads_last l (reads_chunks ordered chunks.items f)) p end q (λ f. last_same l (reads_chunks ordered chunks.items f))
resets_kept p (steps.ReceivedReset who id) (Ok (Code code)) k end q = with_same (peer who) id (tells_reset code) p end q (λ f. refl)
resets_kept p (steps.Poll who) (Ok (EventReply event)) k end q = event_same p who end q event
resets_kept p (steps.Deliver number index) (Ok Done) k end q = refl
resets_kept p (steps.Deliver number index) (Ok DoneTransmit) k end q = refl
resets_kept p (steps.Deliver number index) (Ok (Fault fault)) k end q = refl
resets_kept p (steps.Lose number) (Ok Done) k end q = refl
resets_kept p (steps.Lose number) (Err NoMemory) k end q = refl
resets_kept p (steps.Ack number) (Ok Done) k end q = refl
resets_kept p (steps.Ack number) (Err NoMemory) k end q = refl
resets_kept p steps.EarlyReject (Ok Done) k end q = absurd k
resets_kept p steps.Retry (Ok Done) k end q = refl
resets_kept p _ _ k end q = refl

-- what was accepted stays so
accepts_more : (p : Past) (step : Step) (reply : Answer) → KeepsResetsOf step reply → (at : FramePlace) → IsOneOf at p.accepted → IsOneOf at (after p step reply).accepted
accepts_more p (steps.Deliver number index) (Ok Done) k at i = inr i
accepts_more p (steps.Deliver number index) (Ok DoneTransmit) k at i = inr i
accepts_more p (steps.Deliver number index) (Ok (Fault fault)) k at i = i
accepts_more p (steps.Deliver number index) _ k at i = i
accepts_more p (steps.Lose number) (Ok Done) k at i = i
accepts_more p (steps.Lose number) (Err NoMemory) k at i = i
accepts_more p (steps.Lose number) _ k at i = i
accepts_more p (steps.Ack number) (Ok Done) k at i = i
accepts_more p (steps.Ack number) (Err NoMemory) k at i = i
accepts_more p (steps.Ack number) _ k at i = i
accepts_more p steps.EarlyReject (Ok Done) k at i = absurd k
accepts_more p steps.EarlyReject _ k at i = i
accepts_more p steps.Retry (Ok Done) k at i = i
accepts_more p steps.Retry _ k at i = i
accepts_more p step reply k at i = let P : List FramePlace → Type 0 = λ l. IsOneOf at l in subst P (sym (beside p step reply tt).accepted) i

-- ---- a stream is given up

-- its half was held, and a reset is pending
record GivesUp (old new : PairState) (who : End) (id code : ℕ) : Type 0 where
  half : Send
  held : (the_end old who).streams.out.halves id ≡ Some half
  pending : (the_end new who).pending.reset_stream ≡ (the_end old who).pending.reset_stream ++ (id, code) ∷ []

end_there : (old : PairState) (who : End) (g : EndState) → the_end (with_end old who g) who ≡ g
end_there old A g = refl
end_there old B g = refl

reset_by : (e f : EndState) (id code : ℕ) (answer : Result (Unit {0}) HandleError) → ◌≡◌ {A = Answer} (Ok Done) (handled_reply answer) → ResetsAt e id code answer f → (s : Send) × (e.streams.out.halves id ≡ Some s) × (f.pending.reset_stream ≡ e.pending.reset_stream ++ (id, code) ∷ [])
reset_by e f id code (Ok x) is d = (d.1.0, d.1.1, ap (λ (p : Pending). p.reset_stream) d.1.4)
reset_by e f id code (Err handle_error.ClosedStream) is d = cc
reset_by e f id code (Err handle_error.OutOfMemory) is d = cc

gives_up : (old new : PairState) (who : End) (id code : ℕ) → NextOrdinary old (steps.Reset who id code) (Ok Done) new → GivesUp old new who id code
gives_up old new who id code n =
    let at : the_end new who ≡ n.end = ap (λ (v : PairState). the_end v who) n.is ∙ end_there old who n.end in
    elim n.does [
      | inl there ↦ (let r = reset_by (the_end old who) n.end id code there.1.answer there.1.reply_is there.1.resets in record { half = r.0; held = r.1; pending = ap (λ (e : EndState). e.pending.reset_stream) at ∙ r.2 })
      | inr none ↦ (let k = none.1 in cc)
    ]

one_more : (b : Bool) (f : Flow) (code given : ℕ) → IsOneOf given (if b then resets_with code f else f).resets → IsOneOf given f.resets ⊎ (b ≡ true)
one_more true f code given i = inr refl
one_more false f code given i = inl i

with_self : (who : End) (b : Bool) → (is_same_end who who && b) ≡ b
with_self A b = refl
with_self B b = refl

given_if : (b : Bool) (f : SendFlow) (code : ℕ) → b ≡ true → is_some (if b then with_send_move (WasGivenUp code) f else f).reset ≡ true
given_if true f code e = refl
given_if false f code e = cc

kept_if : (b : Bool) (f : SendFlow) (code : ℕ) → is_some f.reset ≡ true → is_some (if b then with_send_move (WasGivenUp code) f else f).reset ≡ true
kept_if true f code e = refl
kept_if false f code e = e

freed_if : (b : Bool) (f : SendFlow) (code : ℕ) → (if b then with_send_move (WasGivenUp code) f else f).freed ≡ f.freed
freed_if true f code = refl
freed_if false f code = refl

back_if : (b : Bool) (f : SendFlow) (code : ℕ) → b ≡ false → is_some (if b then with_send_move (WasGivenUp code) f else f).reset ≡ true → is_some f.reset ≡ true
back_if true f code e s = cc
back_if false f code e s = s

module _ (old new : PairState) (p : Past) (t : Tales) (c : Comes old t p) (m : End → Made) (counted : (who : End) → Counted (m who) (the_end old who).streams (t.of who)) (stay : StaySent old.sent new.sent) (forth : Forth old.sent new.sent) (keeps : (who : End) → KeepsResets (the_end old who).pending (the_end new who).pending) where
  -- of the end that gave it up
  module _ (w : End) (id code : ℕ) (g : GivesUp old new w id code) where
    was_held : ((t.of w).flow id).freed ≡ false
    was_held =
        let k = counted w in
        let f = held-flow _ (flow (m w) k.calls id) _ g.half ((the_end old w).streams.out.halves id) g.held (k.from.sends.flows id) in
        sym (ap (λ (x : SendFlow). x.freed) (k.tells.flow_is id)) ∙ f.there

    abbrev behind : ℕ → SendFlow
    behind q = if q == id then with_send_move (WasGivenUp code) ((t.of w).flow q) else (t.of w).flow q

    given_here : (q given : ℕ) → IsOneOf given ((with_flow w id (resets_with code) p).flow w q).resets → is_some (behind q).reset ≡ true
    given_here q given i = elim (one_more (is_same_end w w && (q == id)) (p.flow w q) code given i) [
      | inl before ↦ kept_if (q == id) ((t.of w).flow q) code (c.given w q given before)
      | inr now ↦ given_if (q == id) ((t.of w).flow q) code (sym (with_self w (q == id)) ∙ now)
    ]

    same_number : (a b : ℕ) → (a == b) ≡ true → a ≡ b
    same_number a b e = equal a b e

    comes_here : (q : ℕ) → is_some (behind q).reset ≡ true → HasCome q p new.sent w ⊎ (((behind q).freed ≡ false) × Waits q new w)
    comes_here q some = by_cases (q == id)
        (λ e.
        let P : ℕ → Type 0 = λ i. (((t.of w).flow i).freed ≡ false) × Waits i new w in
        let Q : List (ℕ × ℕ) → Type 0 = λ l. IsOneOf (id, code) l in
        let here = subst P (sym (same_number q id e)) (was_held, (code, inl (subst Q (sym g.pending) (one-of-last (id, code) (the_end old w).pending.reset_stream ((id, code) ∷ []) (inl refl))))) in
        inr (freed_if (q == id) ((t.of w).flow q) code ∙ here.0, here.1))
        (λ e. elim (c.comes w q (back_if (q == id) ((t.of w).flow q) code e some)) [
          | inl come ↦ inl (come-more q p p old.sent new.sent w stay (λ at i. i) come)
          | inr x ↦ inr (freed_if (q == id) ((t.of w).flow q) code ∙ x.0, waits-forth old new keeps forth w q x.1)
        ])

  -- of the other
  comes_there : (k : End) (q : ℕ) → is_some ((t.of k).flow q).reset ≡ true → HasCome q p new.sent k ⊎ ((((t.of k).flow q).freed ≡ false) × Waits q new k)
  comes_there k q some = elim (c.comes k q some) [ inl come ↦ inl (come-more q p p old.sent new.sent k stay (λ at i. i) come) | inr x ↦ inr (x.0, waits-forth old new keeps forth k q x.1) ]

  comes_reset : (w : End) (id code : ℕ) → GivesUp old new w id code → (u : Tales) → u ≡ told_of w (with_deed id (WasGivenUp code)) t → Comes new u (with_flow w id (resets_with code) p)
  comes_reset w id code g u e = let P : Tales → Type 0 = λ x. Comes new x (with_flow w id (resets_with code) p) in subst P (sym e) (by w g)
    where
      by : (k : End) → GivesUp old new k id code → Comes new (told_of k (with_deed id (WasGivenUp code)) t) (with_flow k id (resets_with code) p)
      by A x = record { given = given; comes = comes }
        where
          given : (k : End) (q code2 : ℕ) → IsOneOf code2 ((with_flow A id (resets_with code) p).flow k q).resets → is_some (((told_of A (with_deed id (WasGivenUp code)) t).of k).flow q).reset ≡ true
          given A q code2 i = given_here A id code x q code2 i
          given B q code2 i = c.given B q code2 i

          comes : (k : End) (q : ℕ) → is_some (((told_of A (with_deed id (WasGivenUp code)) t).of k).flow q).reset ≡ true → HasCome q p new.sent k ⊎ (((((told_of A (with_deed id (WasGivenUp code)) t).of k).flow q).freed ≡ false) × Waits q new k)
          comes A q some = comes_here A id code x q some
          comes B q some = comes_there B q some
      by B x = record { given = given; comes = comes }
        where
          given : (k : End) (q code2 : ℕ) → IsOneOf code2 ((with_flow B id (resets_with code) p).flow k q).resets → is_some (((told_of B (with_deed id (WasGivenUp code)) t).of k).flow q).reset ≡ true
          given B q code2 i = given_here B id code x q code2 i
          given A q code2 i = c.given A q code2 i

          comes : (k : End) (q : ℕ) → is_some (((told_of B (with_deed id (WasGivenUp code)) t).of k).flow q).reset ≡ true → HasCome q p new.sent k ⊎ (((((told_of B (with_deed id (WasGivenUp code)) t).of k).flow q).freed ≡ false) × Waits q new k)
          comes B q some = comes_here B id code x q some
          comes A q some = comes_there A q some

-- ---- all steps

module _ (old new : PairState) (p : Past) (t u : Tales) (c : Comes old t p) (m : End → Made) (counted : (who : End) → Counted (m who) (the_end old who).streams (t.of who)) (marks : AreMarkedSo p.accepted old.sent) (left : AreLeft old.sent t.told)
    (spell : (number : ℕ) (s : Sent) → slice_get old.sent number ≡ Some s → (T : Type 0) → ((all : List Frame) → AreFrames s.text.bytes all → T) → T) where
  -- a step of an application
  comes_end : (step : Step) (reply : Answer) → IsOfNoPayload step → KeepsResetsOf step reply → WritesNone step → GivesNoneUp step reply → ((who : End) (id : ℕ) → WasAckedIn new.sent step who id → ⊥) → new.sent ≡ old.sent → NextOrdinary old step reply new → StepTells old.sent new.sent step reply t u → Comes new u (after p step reply)
  comes_end step reply k r w g acks same n e =
      comes-on old new p (after p step reply) t u (WasAckedIn new.sent step) c (all-stay old.sent new.sent t u step reply g e) (resets_kept p step reply r) (subst (StaySent old.sent) (sym same) (stay-sent old.sent)) (accepts_more p step reply r)
      (λ who id some held x. inr (waits-forth old new (step-keeps old new step reply w n) (forth-same old.sent new.sent same) who id x)) (λ who id a. absurd (acks who id a))

  -- one that hands a frame over
  comes_deliver : (number index : ℕ) (reply : Answer) → Forth old.sent new.sent → NextOrdinary old (steps.Deliver number index) reply new → StepTells old.sent new.sent (steps.Deliver number index) reply t u → Comes new u (after p (steps.Deliver number index) reply)
  comes_deliver number index reply forth n e =
      let step = steps.Deliver number index in
      comes-on old new p (after p step reply) t u (WasAckedIn new.sent step) c (all-stay old.sent new.sent t u step reply tt e) (resets_kept p step reply tt) (stay-delivered old new number index reply n) (accepts_more p step reply tt)
      (λ who id some held x. inr (waits-forth old new (step-keeps old new step reply tt n) forth who id x)) (λ who id a. absurd a)

  forth_delivered : (number index : ℕ) (reply : Answer) → Delivers old number index reply new → Forth old.sent new.sent
  forth_delivered number index (Err NoSuchPayload) n = forth-same old.sent new.sent (ap (λ (v : PairState). v.sent) n.1)
  forth_delivered number index (Err NoSuchFrame) n = forth-same old.sent new.sent (ap (λ (v : PairState). v.sent) n.is)
  forth_delivered number index (Err NoMemory) n = elim n [ inl same ↦ forth-same old.sent new.sent (ap (λ (v : PairState). v.sent) same.1) | inr h ↦ forth-handed old new number index (Err NoMemory) h ]
  forth_delivered number index reply n = forth-handed old new number index reply n

  -- one that changes nothing
  comes_same : (step : Step) (reply : Answer) → KeepsResetsOf step reply → GivesNoneUp step reply → ((who : End) (id : ℕ) → WasAckedIn new.sent step who id → HasCome id (after p step reply) new.sent who) → new ≡ old → StepTells old.sent new.sent step reply t u → Comes new u (after p step reply)
  comes_same step reply r g acks same e =
      let P : PairState → Type 0 = λ v. (who : End) → KeepsResets (the_end old who).pending (the_end v who).pending in
      let sents = ap (λ (v : PairState). v.sent) same in
      comes-on old new p (after p step reply) t u (WasAckedIn new.sent step) c (all-stay old.sent new.sent t u step reply g e) (resets_kept p step reply r) (subst (StaySent old.sent) (sym sents) (stay-sent old.sent)) (accepts_more p step reply r)
      (λ who id some held x. inr (waits-forth old new (subst P (sym same) (λ who y i. i)) (forth-same old.sent new.sent sents) who id x)) acks

  -- one that writes a payload
  comes_emit : (who : End) (most : ℕ) (fair : Bool) (reply : Answer) → EmittedSome old who most fair reply new → StepTells old.sent new.sent (steps.Emit who most fair) reply t u → Comes new u (after p (steps.Emit who most fair) reply)
  comes_emit who most fair (Ok (Payload number bytes)) n e =
      comes-on old new p p t u (WasAckedIn new.sent (steps.Emit who most fair)) c (all-stay old.sent new.sent t u (steps.Emit who most fair) (Ok (Payload number bytes)) tt e) (λ k id. refl) (stay-emitted old new who most fair (Ok (Payload number bytes)) n) (λ at i. i)
      (λ other id some held x. inr (waits-emits old new who most fair (Ok tt) n.payload n.emits m t counted other id some held x)) (λ other id a. absurd a)
  comes_emit who most fair (Err NoMemory) n e = elim n [
    | inl same ↦ comes_same (steps.Emit who most fair) (Err NoMemory) tt tt (λ other id a. absurd a) same e
    | inr part ↦ comes-on old new p p t u (WasAckedIn new.sent (steps.Emit who most fair)) c (all-stay old.sent new.sent t u (steps.Emit who most fair) (Err NoMemory) tt e) (λ k id. refl) (stay-emitted old new who most fair (Err NoMemory) (inr part)) (λ at i. i)
        (λ other id some held x. inr (waits-emits old new who most fair part.answer part.payload part.emits m t counted other id some held x)) (λ other id a. absurd a)
  ]
  comes_emit who most fair _ n e = absurd n

  -- one that reports a payload
  comes_lost : (number : ℕ) (reply : Answer) → Reports Lost LosesPayloadAt old number reply new → SettlesPayload Lost LosesPayloadAt old number reply new → KeepsResetsOf (steps.Lose number) reply → StepTells old.sent new.sent (steps.Lose number) reply t u → Comes new u (after p (steps.Lose number) reply)
  comes_lost number reply n whole r e =
      let step = steps.Lose number in
      comes-on old new p (after p step reply) t u (WasAckedIn new.sent step) c (all-stay old.sent new.sent t u step reply tt e) (resets_kept p step reply r) (stay-reported old new Lost LosesPayloadAt number reply whole) (accepts_more p step reply r)
      (λ who id some held x. inr (waits-lost old new number reply n (step-keeps old new step reply tt whole) who id x)) (λ who id a. absurd a)

  comes_lose : (number : ℕ) (reply : Answer) → SettlesPayload Lost LosesPayloadAt old number reply new → StepTells old.sent new.sent (steps.Lose number) reply t u → Comes new u (after p (steps.Lose number) reply)
  comes_lose number (Ok Done) n e = comes_lost number (Ok Done) n n tt e
  comes_lose number (Err NoMemory) n e = comes_lost number (Err NoMemory) n n tt e
  comes_lose number (Err NoSuchPayload) n e = comes_same (steps.Lose number) (Err NoSuchPayload) tt tt (λ who id a. absurd a) n.1 e
  comes_lose number (Err AlreadySettled) n e = comes_same (steps.Lose number) (Err AlreadySettled) tt tt (λ who id a. absurd a) n.is e
  comes_lose number (Err NotAccepted) n e = comes_same (steps.Lose number) (Err NotAccepted) tt tt (λ who id a. absurd a) n.is e
  comes_lose number _ n e = absurd n

  comes_acked : (number : ℕ) (reply : Answer) → Reports Acknowledged AcksPayloadAt old number reply new → SettlesPayload Acknowledged AcksPayloadAt old number reply new → KeepsResetsOf (steps.Ack number) reply → StepTells old.sent new.sent (steps.Ack number) reply t u → Comes new u (after p (steps.Ack number) reply)
  comes_acked number reply n whole r e =
      let step = steps.Ack number in
      let stay = stay-reported old new Acknowledged AcksPayloadAt number reply whole in
      let more = accepts_more p step reply r in
      let keeps = step-keeps old new step reply tt whole in
      comes-on old new p (after p step reply) t u (WasAckedIn new.sent step) c (all-stay old.sent new.sent t u step reply tt e) (resets_kept p step reply r) stay more
      (λ who id some held x. waits-acked old new p (after p step reply) t number reply n keeps marks left stay more (spell number n.payload.sent n.payload.is) who id x)
      (λ who id a. let b : (all : List Frame) × WasPayload new.sent who number all × IsOneOf (GivenUp id) (parts_in all) = a in come-acked old new p (after p step reply) t number reply n keeps marks left stay more who id b.0 b.1 b.2)

  comes_ack : (number : ℕ) (reply : Answer) → SettlesPayload Acknowledged AcksPayloadAt old number reply new → StepTells old.sent new.sent (steps.Ack number) reply t u → Comes new u (after p (steps.Ack number) reply)
  comes_ack number (Ok Done) n e = comes_acked number (Ok Done) n n tt e
  comes_ack number (Err NoMemory) n e = comes_acked number (Err NoMemory) n n tt e
  comes_ack number (Err NoSuchPayload) n e = let P : PairState → Type 0 = λ v. Comes v t p in let Q : Tales → Type 0 = λ x. Comes new x p in subst Q (sym e) (subst P (sym n.1) c)
  comes_ack number (Err AlreadySettled) n e = let P : PairState → Type 0 = λ v. Comes v t p in let Q : Tales → Type 0 = λ x. Comes new x p in subst Q (sym e) (subst P (sym n.is) c)
  comes_ack number (Err NotAccepted) n e = let P : PairState → Type 0 = λ v. Comes v t p in let Q : Tales → Type 0 = λ x. Comes new x p in subst Q (sym e) (subst P (sym n.is) c)
  comes_ack number _ n e = absurd n

  pub comes-next : (step : Step) (reply : Answer) → NextOrdinary old step reply new → StepTells old.sent new.sent step reply t u → Comes new u (after p step reply)
  comes-next (steps.Open who dir) reply n e = comes_end (steps.Open who dir) reply tt tt tt tt (λ k id a. a) (sent_on_end old who new n) n e
  comes-next (steps.Accept who dir) reply n e = comes_end (steps.Accept who dir) reply tt tt tt tt (λ k id a. a) (sent_on_end old who new n) n e
  comes-next (steps.Write who id bytes) reply n e = comes_end (steps.Write who id bytes) reply tt tt tt tt (λ k id a. a) (sent_on_end old who new n) n e
  comes-next (steps.WriteChunks who id chunks) reply n e = comes_end (steps.WriteChunks who id chunks) reply tt tt tt tt (λ k id a. a) (sent_on_end old who new n) n e
  comes-next (steps.Finish who id) reply n e = comes_end (steps.Finish who id) reply tt tt tt tt (λ k id a. a) (sent_on_end old who new n) n e
  comes-next (steps.Reset who id code) (Ok Done) n e =
      let same = sent_on_end old who new n in
      comes_reset old new p t c m counted (subst (StaySent old.sent) (sym same) (stay-sent old.sent)) (forth-same old.sent new.sent same) (step-keeps old new (steps.Reset who id code) (Ok Done) tt n) who id code (gives_up old new who id code n) u e
  comes-next (steps.Reset who id code) reply n e = comes_end (steps.Reset who id code) reply tt tt tt tt (λ k j a. a) (sent_on_end old who new n) n e
  comes-next (steps.Stop who id code) reply n e = comes_end (steps.Stop who id code) reply tt tt tt tt (λ k j a. a) (sent_on_end old who new n) n e
  comes-next (steps.SetPriority who id priority) reply n e = comes_end (steps.SetPriority who id priority) reply tt tt tt tt (λ k j a. a) (sent_on_end old who new n) n e
  comes-next (steps.Read who id ordered most times) reply n e = comes_end (steps.Read who id ordered most times) reply tt tt tt tt (λ k j a. a) (sent_on_end old who new n) n e
  comes-next (steps.ReceivedReset who id) reply n e = comes_end (steps.ReceivedReset who id) reply tt tt tt tt (λ k j a. a) (sent_on_end old who new n) n e
  comes-next (steps.SetSendWindow who window) reply n e = comes_end (steps.SetSendWindow who window) reply tt tt tt tt (λ k j a. a) (sent_on_end old who new n) n e
  comes-next (steps.SetReceiveWindow who window) reply n e = comes_end (steps.SetReceiveWindow who window) reply tt tt tt tt (λ k j a. a) (sent_on_end old who new n) n e
  comes-next (steps.SetMaxConcurrent who dir count) reply n e = comes_end (steps.SetMaxConcurrent who dir count) reply tt tt tt tt (λ k j a. a) (sent_on_end old who new n) n e
  comes-next (steps.Poll who) reply n e = comes_end (steps.Poll who) reply tt tt tt tt (λ k j a. a) (sent_on_end old who new n) n e
  comes-next (steps.Emit who most fair) reply n e = comes_emit who most fair reply (emitted-some old new who most fair reply n) e
  comes-next (steps.EmitPart who most fair part) reply n e = comes_emit who most fair reply (emitted-part old new who most fair part reply n) (tells-part old.sent new.sent who most fair part reply t u e)
  comes-next (steps.Deliver number index) reply n e = comes_deliver number index reply (forth_delivered number index reply n) n e
  comes-next (steps.Lose number) reply n e = comes_lose number reply n e
  comes-next (steps.Ack number) reply n e = comes_ack number reply n e
  comes-next _ reply n e = absurd n
