-- Whatever step is taken, what an end permits is near to what it announced, or is to be announced.
use Rattle.std.proofs.Common.{◌≡◌, ◌⊎◌, ℕ, Bool, true, false, List, [], ◌∷◌, ◌++◌, Some, Result, Ok, Err, refl, sym, ap, ◌∙◌, subst, inl, inr, arith, ◌≤◌}
use Rattle.std.specs.Prelude.{◌==◌, is_some, slice_get, slice_set}
use Rattle.std.proofs.lemmas.Option.{same_Some}
use Rattle.quic_values.specs.declared.memory.OutOfMemory.{OutOfMemory}
use Rattle.quic_values.specs.declared.ids.Dir.{Dir}
use Rattle.quic_wire.specs.declared.error.ReceiveError.{ReceiveError}
use Rattle.quic_wire.specs.declared.error.ReceiveError.TheVariants as receive_error
use Rattle.quic_receiving.specs.declared.transmit.ShouldTransmit.{ShouldTransmit}
use Rattle.quic_streams.specs.declared.settling.SentPayload.{SentPayload}
use Rattle.quic_streams.specs.declared.batches.ReadSome.{ReadSome}
use Rattle.quic_streams.specs.Settling.{SentView}
use Rattle.quic_streams.specs.Sent.{sent_view, report_view}
use Rattle.quic_endpoint.specs.Ends.{EndState, with_limit_told}
use Rattle.quic_endpoint.specs.Emitting.{PayloadView}
use Rattle.quic_endpoint.specs.Receiving.{ReceivesAt, with_answer_told}
use Rattle.quic_endpoint.specs.Reports.{LosesPayloadAt, AcksPayloadAt}
use Rattle.quic_steps.specs.declared.steps.End.{End}
use Rattle.quic_steps.specs.declared.steps.End.TheVariants.{A, B}
use Rattle.quic_steps.specs.declared.steps.Step.{Step}
use Rattle.quic_steps.specs.declared.steps.Step.TheVariants as steps
use Rattle.quic_steps.specs.declared.steps.Reply.TheVariants.{Done, Payload}
use Rattle.quic_steps.specs.declared.steps.PairError.TheVariants.{NoSuchPayload, NoSuchFrame, NotAccepted, AlreadySettled, OutOfMemory as NoMemory}
use Rattle.quic_exchange.specs.Sent.{Sent, Unsettled}
use Rattle.quic_exchange.specs.declared.unsettled.Report.{Report}
use Rattle.quic_exchange.specs.declared.unsettled.Report.TheVariants.{Lost, Acknowledged}
use Rattle.quic_exchange.specs.Unsettled.{unsettled_after, may_report}
use Rattle.quic_exchange.specs.Replies.{Answer, received_reply}
use Rattle.quic_exchange.specs.State.{PairState, OnEnd, peer, the_end, with_end, with_sent}
use Rattle.quic_exchange.specs.Calls.{OnGiven, ReadsSo}
use Rattle.quic_exchange.specs.Steps.{NextOrdinary, HandsOver, SentAfter, Delivers, Reports, SettlesPayload}
use Rattle.quic_exchange.specs.History.{History, past_of}
use Rattle.quic_exchange.specs.Due.{AsksAfterFrame, AsksFor, OnWriter}
use Rattle.quic_exchange.proofs.Emissions.{EmitsSome, EmittedSome, emitted-some, emitted-part}
use Rattle.quic_exchange.proofs.Lists.{slice_get-append_left, slice_set-keeps, slice_get-set_same}
use Rattle.quic_exchange.proofs.Marks.{sent_on_end}
use Rattle.quic_exchange.proofs.Origins.{Origin}
use Rattle.quic_exchange.proofs.Eras.{EraFrom}
use Rattle.quic_exchange.proofs.Due.{asks-for}
use Rattle.quic_exchange.proofs.Grown.{joined-from}
use Rattle.quic_exchange.proofs.Flips.{seen-as, peer-other}
use Rattle.quic_history.proofs.Traces.{itself}
use Rattle.quic_receiving.specs.declared.errors.ReadableError.{ReadableError}
use Rattle.quic_progress.proofs.Leaves.{May}
use Rattle.quic_progress.proofs.Permissions.{Permission, AllData, DataOn, StreamsOf, is_asked, announced_of, permitted_of, IsWithin}
use Rattle.quic_progress.proofs.Emitted.{Emptied, emptied}
use Rattle.quic_progress.proofs.Ends.{EndLeaves, may_of, step-leaves, receives-so, some-so, stop-leaves, code-leaves, set-leaves, read-asked}
use Rattle.quic_progress.proofs.Tracked.{Which, Forth, forth-same, forth-marked}
use Rattle.quic_progress.proofs.Owing.{IsNear, OwesData, OwesWindow, OwesCount, data-plain, window-left, count-told, count-left}
use Rattle.quic_progress.proofs.OwingSteps.{IsHalfAcked, Owing, owing-forth, nothing_more, owing-plain, owing-at, owing-told, owing-read, refused-read, owing-stopped, owing-code, window-data, owing-set, frame-data, call-none}

-- both ends
abbrev pub AreOwing : Which → PairState → Type 0
AreOwing some v = (who : End) → Owing some (the_end v who) v.sent who

changed_to : (old new : PairState) (who : End) (e : EndState) (sent : List Sent) → new ≡ with_sent (with_end old who e) sent → the_end new who ≡ e
changed_to old new A e sent is = ap (λ (v : PairState). v.a) is
changed_to old new B e sent is = ap (λ (v : PairState). v.b) is

module _ {some : Which} (old new : PairState) (o : AreOwing some old) where
  -- one end is another, and the payloads stay
  by_one : (k : End) (g : EndState) (sent : List Sent) → new ≡ with_sent (with_end old k g) sent → Forth old.sent new.sent → Owing some g new.sent k → AreOwing some new
  by_one k g sent is f n who = let P : PairState → Type 0 = λ v. Owing some (the_end v who) new.sent who in subst P (sym is) (by k who n)
    where
      by : (k who : End) → Owing some g new.sent k → Owing some (the_end (with_sent (with_end old k g) sent) who) new.sent who
      by A A n = n
      by A B n = owing-forth old.b old.sent new.sent B f (o B)
      by B A n = owing-forth old.a old.sent new.sent A f (o A)
      by B B n = n

  same_sent : (k : End) (g : EndState) → with_end old k g ≡ with_sent (with_end old k g) old.sent
  same_sent A g = refl
  same_sent B g = refl

  -- a step on an end
  by_end : {P : EndState → EndState → Type 0} (k : End) (d : OnEnd P old k new) → (Owing some (the_end old k) old.sent k → Owing some d.end old.sent k) → AreOwing some new
  by_end k d does =
      let f = forth-same old.sent new.sent (sent_on_end old k new d) in
      by_one k d.end old.sent (d.is ∙ same_sent k d.end) f (owing-forth d.end old.sent new.sent k f (does (o k)))

  stays : new ≡ old → AreOwing some new
  stays is = let P : PairState → Type 0 = λ v. AreOwing some v in subst P (sym is) o

  on_given : (k : End) (id : ℕ) (reply : Answer) (g : EndState) (Does : Type 0) → OnGiven (the_end old k) id reply g Does → (Does → Owing some (the_end old k) old.sent k → Owing some g old.sent k) → Owing some (the_end old k) old.sent k → Owing some g old.sent k
  on_given k id reply g Does d does n = elim d [ inl there ↦ does there.1 n | inr none ↦ owing-at (the_end old k) g old.sent k none.2 n ]

  -- the leaves of the acting end
  acting : (k : End) {P : EndState → EndState → Type 0} (d : OnEnd P old k new) (m : May) → ((who : End) → EndLeaves m (the_end old who) (the_end new who)) → EndLeaves m (the_end old k) d.end
  acting k d m l = let P : EndState → Type 0 = λ x. EndLeaves m (the_end old k) x in subst P here (l k)
    where
      changed : (j : End) (e : EndState) → new ≡ with_end old j e → the_end new j ≡ e
      changed A e is = ap (λ (v : PairState). v.a) is
      changed B e is = ap (λ (v : PairState). v.b) is

      here : the_end new k ≡ d.end
      here = changed k d.end d.is

-- ---- frames that are handed over

answer_told : {some : Which} (answer : Result ShouldTransmit ReceiveError) (e : EndState) (sent : List Sent) (who : End) → (answer ≡ Err receive_error.OutOfMemory → ⊥) → (some who AllData ≡ true → OwesData (with_answer_told answer e)) → ((id : ℕ) → OwesWindow id (with_answer_told answer e)) → Owing some (with_answer_told answer e) sent who
answer_told (Ok transmit) e sent who n w i = owing-told (with_limit_told transmit.0 e) sent who w i
answer_told (Err (receive_error.Transport error)) e sent who n w i = owing-told e sent who w i
answer_told (Err receive_error.CompactionMemory) e sent who n w i = owing-told e sent who w i
answer_told (Err receive_error.OutOfMemory) e sent who n w i = absurd (n refl)

module _ {some : Which} (old new : PairState) (o : AreOwing some old) (number index : ℕ) where
  forth_handed : (reply : Answer) (n : HandsOver old number index reply new) → Forth old.sent new.sent
  forth_handed reply n = by n.answer n.sent
    where
      by : (answer : Result ShouldTransmit ReceiveError) → SentAfter old.sent number n.payload.sent index answer new.sent → Forth old.sent new.sent
      by (Ok transmit) s = forth-marked old.sent new.sent number index n.payload.sent n.payload.is s.0 s.1 s.2
      by (Err error) s = forth-same old.sent new.sent s

  owing_handed : (reply : Answer) (n : HandsOver old number index reply new) → AsksFor old (steps.Deliver number index) reply new → AreOwing some new
  owing_handed reply n asks =
      let who = peer n.payload.sent.writer in
      by_one old new o who n.end new.sent n.is (forth_handed reply n) (owing-forth n.end old.sent new.sent who (forth_handed reply n) (by n.answer refl))
    where
      leaves : EndLeaves (record { reads = λ q. false; credits = true; resizes = false; frees = true }) (the_end old (peer n.payload.sent.writer)) n.end
      leaves = receives-so (record { reads = λ q. false; credits = true; resizes = false; frees = true }) refl refl (the_end old (peer n.payload.sent.writer)) n.end n.frame n.answer n.receives

      answered : (answer : Result ShouldTransmit ReceiveError) → n.answer ≡ answer → (answer ≡ Err receive_error.OutOfMemory → ⊥) → OnWriter old number (λ s. AsksAfterFrame (the_end old (peer s.writer)) (the_end new (peer s.writer))) (received_reply answer) → Owing some n.end old.sent (peer n.payload.sent.writer)
      answered answer is never w =
          let a : AsksAfterFrame (the_end old (peer n.payload.sent.writer)) (the_end new (peer n.payload.sent.writer)) = served answer never w in
          let Q : EndState → Type 0 = λ x. AsksAfterFrame (the_end old (peer n.payload.sent.writer)) x in
          let b = subst Q (changed_to old new (peer n.payload.sent.writer) n.end new.sent n.is) a in
          let whole = λ (on : some (peer n.payload.sent.writer) AllData ≡ true). frame-data old.sent (peer n.payload.sent.writer) (record { reads = λ q. false; credits = true; resizes = false; frees = true }) (the_end old (peer n.payload.sent.writer)) n.end leaves refl b.limit ((o (peer n.payload.sent.writer)).whole on) in
          let windows = λ (id : ℕ). window-left (record { reads = λ q. false; credits = true; resizes = false; frees = true }) id (the_end old (peer n.payload.sent.writer)) n.end leaves refl ((o (peer n.payload.sent.writer)).windows id) in
          let R : EndState → Type 0 = λ x. some (peer n.payload.sent.writer) AllData ≡ true → OwesData x in
          let S : EndState → Type 0 = λ x. (id : ℕ) → OwesWindow id x in
          let T : Result ShouldTransmit ReceiveError → Type 0 = λ r. (r ≡ Err receive_error.OutOfMemory → ⊥) in
          owing-at (with_answer_told n.answer n.receives.taken) n.end old.sent (peer n.payload.sent.writer) n.receives.is
          (answer_told n.answer n.receives.taken old.sent (peer n.payload.sent.writer) (subst T (sym is) never) (subst R n.receives.is whole) (subst S n.receives.is windows))
        where
          served : (answer : Result ShouldTransmit ReceiveError) → (answer ≡ Err receive_error.OutOfMemory → ⊥) → OnWriter old number (λ s. AsksAfterFrame (the_end old (peer s.writer)) (the_end new (peer s.writer))) (received_reply answer) → AsksAfterFrame (the_end old (peer n.payload.sent.writer)) (the_end new (peer n.payload.sent.writer))
          served (Ok transmit) never w = w n.payload
          served (Err (receive_error.Transport error)) never w = w n.payload
          served (Err receive_error.CompactionMemory) never w = w n.payload
          served (Err receive_error.OutOfMemory) never w = absurd (never refl)

      at : (answer : Result ShouldTransmit ReceiveError) → n.answer ≡ answer → OnWriter old number (λ s. AsksAfterFrame (the_end old (peer s.writer)) (the_end new (peer s.writer))) (received_reply answer) → Owing some n.end old.sent (peer n.payload.sent.writer)
      at (Ok transmit) is w = answered (Ok transmit) is (λ x. cc) w
      at (Err (receive_error.Transport error)) is w = answered (Err (receive_error.Transport error)) is (λ x. cc) w
      at (Err receive_error.CompactionMemory) is w = answered (Err receive_error.CompactionMemory) is (λ x. cc) w
      at (Err receive_error.OutOfMemory) is w =
          let r = n.receives in
          let P : Result ShouldTransmit ReceiveError → Type 0 = λ x. ReceivesAt (the_end old (peer n.payload.sent.writer)) n.frame x n.end in
          let s = subst P is r in
          owing-at s.taken n.end old.sent (peer n.payload.sent.writer) s.is
          (owing-plain (the_end old (peer n.payload.sent.writer)) s.taken old.sent (peer n.payload.sent.writer)
          (record { streams = call-none old.sent (peer n.payload.sent.writer) (the_end old (peer n.payload.sent.writer)).streams s.taken.streams n.frame s.call; asked = λ j a. ap (is_asked j) s.pending ∙ a }) (o (peer n.payload.sent.writer)))

      by : (answer : Result ShouldTransmit ReceiveError) → n.answer ≡ answer → Owing some n.end old.sent (peer n.payload.sent.writer)
      by answer is =
          let P : Answer → Type 0 = λ r. AsksFor old (steps.Deliver number index) r new in
          let Q : Result ShouldTransmit ReceiveError → Type 0 = λ r. OnWriter old number (λ s. AsksAfterFrame (the_end old (peer s.writer)) (the_end new (peer s.writer))) (received_reply r) in
          at answer is (subst Q is (subst P n.reply_is asks))

  owing_delivered : (reply : Answer) → Delivers old number index reply new → AsksFor old (steps.Deliver number index) reply new → AreOwing some new
  owing_delivered (Err NoSuchPayload) n a = stays old new o n.1
  owing_delivered (Err NoSuchFrame) n a = stays old new o n.is
  owing_delivered (Err NoMemory) n a = elim n [ inl same ↦ stays old new o same.1 | inr t ↦ owing_handed (Err NoMemory) t a ]
  owing_delivered reply n a = owing_handed reply n a

-- ---- a payload is reported

other_way : (u : Unsettled) → may_report Lost u ≡ true → u.begun ≡ Some Acknowledged → ⊥
other_way u may begun = by (is_some u.rest) refl
  where
    by : (b : Bool) → is_some u.rest ≡ b → ⊥
    by true e = let k = rw (e, begun) at may in cc
    by false e = let k = rw e at may in cc

module _ (old new : PairState) (number : ℕ) (kind : Report) (At : EndState → SentView → Result (Unit {0}) SentView → EndState → Type 0) (reply : Answer) (n : Reports kind At old number reply new) where
  abbrev reported : Sent
  reported = record n.payload.sent { unsettled = unsettled_after kind n.payload.sent.unsettled n.answer }

  sent_then : new.sent ≡ slice_set old.sent number reported
  sent_then = ap (λ (v : PairState). v.sent) n.is

  there_now : slice_get new.sent number ≡ Some reported
  there_now = ap (λ x. slice_get x number) sent_then ∙ slice_get-set_same old.sent number n.payload.sent reported n.payload.is

  -- a payload that was acknowledged in part is so still, or it is this one
  half_reported : (who : End) → IsHalfAcked old.sent who → ((who ≡ n.payload.sent.writer) × (n.payload.sent.unsettled.begun ≡ Some Acknowledged)) ⊎ IsHalfAcked new.sent who
  half_reported who h = elim (slice_set-keeps old.sent number h.number reported h.payload h.is) [
    | inr there ↦ inr (record { number = h.number; payload = h.payload; is = ap (λ y. slice_get y h.number) sent_then ∙ there; writer = h.writer; begun = h.begun; rest = h.rest; rest_is = h.rest_is })
    | inl here ↦ (
        let same : h.payload ≡ n.payload.sent = same_Some h.payload n.payload.sent (sym h.is ∙ ap (slice_get old.sent) here ∙ n.payload.is) in
        inl (sym h.writer ∙ ap (λ (v : Sent). v.writer) same, sym (ap (λ (v : Sent). v.unsettled.begun) same) ∙ h.begun)
        )
  ]

module _ {some : Which} (old new : PairState) (o : AreOwing some old) (number : ℕ) where
  owing_loss : (reply : Answer) → Reports Lost LosesPayloadAt old number reply new → ((who : End) → EndLeaves nothing_more (the_end old who) (the_end new who)) → AreOwing some new
  owing_loss reply n l who = record {
    whole = λ on. data-plain nothing_more (the_end old who) (the_end new who) (l who) refl ((o who).whole on);
    windows = λ id. window-left nothing_more id (the_end old who) (the_end new who) (l who) refl ((o who).windows id);
    counts = λ d on. elim ((o who).counts d on) [
      | inl near ↦ inl (count-left nothing_more d (the_end old who) (the_end new who) (l who) refl near)
      | inr half ↦ elim (half_reported old new number Lost LosesPayloadAt reply n who half) [ inl this ↦ absurd (other_way n.payload.sent.unsettled n.may this.1) | inr still ↦ inr still ]
    ];
  }

  owing_loses : (reply : Answer) → SettlesPayload Lost LosesPayloadAt old number reply new → ((who : End) → EndLeaves nothing_more (the_end old who) (the_end new who)) → AreOwing some new
  owing_loses (Ok Done) n l = owing_loss (Ok Done) n l
  owing_loses (Err NoMemory) n l = owing_loss (Err NoMemory) n l
  owing_loses (Err NoSuchPayload) n l = stays old new o n.1
  owing_loses (Err AlreadySettled) n l = stays old new o n.is
  owing_loses (Err NotAccepted) n l = stays old new o n.is
  owing_loses _ n l = absurd n

  abbrev ack_may : May
  ack_may = record { reads = λ q. false; credits = false; resizes = false; frees = true }

  owing_acked : (reply : Answer) → Reports Acknowledged AcksPayloadAt old number reply new → ((who : End) → EndLeaves ack_may (the_end old who) (the_end new who)) → AreOwing some new
  owing_acked reply n l who = record {
    whole = λ on. data-plain ack_may (the_end old who) (the_end new who) (l who) refl ((o who).whole on);
    windows = λ id. window-left ack_may id (the_end old who) (the_end new who) (l who) refl ((o who).windows id);
    counts = counted who n.payload.sent.writer refl;
  }
    where
      -- the end that wrote it tells its counts, or the payload is acknowledged in part
      of_writer : (answer : Result (Unit {0}) SentPayload) → n.answer ≡ answer → AcksPayloadAt (the_end old n.payload.sent.writer) (sent_view n.rest) (report_view answer) n.end → (d : Dir) → OwesCount d n.end ⊎ IsHalfAcked new.sent n.payload.sent.writer
      of_writer (Ok done) e a d = inl (let P : EndState → Type 0 = λ x. OwesCount d x in subst P (sym a.is) (count-told a.acked d))
      of_writer (Err back) e a d = inr (record {
        number = number;
        payload = reported old new number Acknowledged AcksPayloadAt reply n;
        is = there_now old new number Acknowledged AcksPayloadAt reply n;
        writer = refl;
        begun = ap (λ x. (unsettled_after Acknowledged n.payload.sent.unsettled x).begun) e;
        rest = back;
        rest_is = ap (λ x. (unsettled_after Acknowledged n.payload.sent.unsettled x).rest) e;
      })

      here : (d : Dir) → OwesCount d (the_end new n.payload.sent.writer) ⊎ IsHalfAcked new.sent n.payload.sent.writer
      here d =
          let P : EndState → Type 0 = λ x. OwesCount d x ⊎ IsHalfAcked new.sent n.payload.sent.writer in
          subst P (sym (changed_to old new n.payload.sent.writer n.end _ n.is)) (of_writer n.answer refl n.does d)

      -- the other end is the same
      other : (w : End) → n.payload.sent.writer ≡ peer w → the_end new w ≡ the_end old w
      other A e = ap (λ (v : PairState). v.a) n.is ∙ ap (λ x. (the_end (with_sent (with_end old x n.end) old.sent) A)) e
      other B e = ap (λ (v : PairState). v.b) n.is ∙ ap (λ x. (the_end (with_sent (with_end old x n.end) old.sent) B)) e

      apart : (w : End) → n.payload.sent.writer ≡ peer w → (d : Dir) → some w (StreamsOf d) ≡ true → OwesCount d (the_end new w) ⊎ IsHalfAcked new.sent w
      apart w e d on = elim ((o w).counts d on) [
        | inl near ↦ inl (let P : EndState → Type 0 = λ x. OwesCount d x in subst P (sym (other w e)) near)
        | inr half ↦ elim (half_reported old new number Acknowledged AcksPayloadAt reply n w half) [ inl this ↦ absurd (peer-other w (this.0 ∙ e)) | inr still ↦ inr still ]
      ]

      counted : (w k : End) → n.payload.sent.writer ≡ k → (d : Dir) → some w (StreamsOf d) ≡ true → OwesCount d (the_end new w) ⊎ IsHalfAcked new.sent w
      counted A A e d on = let P : End → Type 0 = λ x. OwesCount d (the_end new x) ⊎ IsHalfAcked new.sent x in subst P e (here d)
      counted B B e d on = let P : End → Type 0 = λ x. OwesCount d (the_end new x) ⊎ IsHalfAcked new.sent x in subst P e (here d)
      counted A B e d on = apart A e d on
      counted B A e d on = apart B e d on

  owing_acks : (reply : Answer) → SettlesPayload Acknowledged AcksPayloadAt old number reply new → ((who : End) → EndLeaves ack_may (the_end old who) (the_end new who)) → AreOwing some new
  owing_acks (Ok Done) n l = owing_acked (Ok Done) n l
  owing_acks (Err NoMemory) n l = owing_acked (Err NoMemory) n l
  owing_acks (Err NoSuchPayload) n l = stays old new o n.1
  owing_acks (Err AlreadySettled) n l = stays old new o n.is
  owing_acks (Err NotAccepted) n l = stays old new o n.is
  owing_acks _ n l = absurd n

-- ---- a payload is written

module _ {some : Which} (old new : PairState) (o : AreOwing some old) (who : End) (most : ℕ) (fair : Bool) (answer : Result (Unit {0}) OutOfMemory) (payload : PayloadView) (e : EmitsSome old who most fair answer payload new) (x : Emptied (the_end old who) e.end payload) where
  near_kept : (k : Permission) → announced_of k e.end.streams ≡ announced_of k (the_end old who).streams → IsNear k (the_end old who).streams → IsNear k e.end.streams
  near_kept k a near = let p = x.permitted k in let q = x.eighth k in omega (arith, near, a, p, q)

  near_said : (k : Permission) → permitted_of k e.end.streams ≤ announced_of k e.end.streams → IsNear k e.end.streams
  near_said k l = omega (arith, l)

  -- it is pending still, or it was announced, or is of no use
  owes : (k : Permission) → (is_asked k (the_end old who).pending ≡ true) ⊎ IsNear k (the_end old who).streams → (is_asked k e.end.pending ≡ true) ⊎ IsNear k e.end.streams
  owes k c = elim (x.does k) [
    | inl kept ↦ elim c [ inl asked ↦ inl (kept.1 asked) | inr near ↦ inr (near_kept k kept.0 near) ]
    | inr (inl said) ↦ inr (near_said k said.1)
    | inr (inr none) ↦ inr (let z = none.1 in omega (arith, z))
  ]

  whole_kept : OwesData (the_end old who) → OwesData e.end
  whole_kept c = elim c [
    | inl (inl owed) ↦ inl (inl (let d = x.debt in omega (arith, owed, d)))
    | inl (inr big) ↦ inl (inr (let p = x.permitted AllData in omega (arith, big, p)))
    | inr rest ↦ inr (owes AllData rest)
  ]

  forth_emits : Forth old.sent new.sent
  forth_emits number s is = (s, ap (λ (v : PairState). slice_get v.sent number) e.is ∙ slice_get-append_left old.sent (e.sent ∷ []) number s is, refl, refl, refl)

  owing_emits : AreOwing some new
  owing_emits = by_one old new o who e.end (old.sent ++ e.sent ∷ []) e.is forth_emits (owing-forth e.end old.sent new.sent who forth_emits (record {
    whole = λ on. whole_kept ((o who).whole on);
    windows = λ id. owes (DataOn id) ((o who).windows id);
    counts = λ d on. elim ((o who).counts d on) [ inl near ↦ inl (owes (StreamsOf d) near) | inr half ↦ inr half ];
  }))

-- ---- all steps

module _ {some : Which} (a b : Origin) (h : History) (old new : PairState) (g : EraFrom a b h old) (within : (who : End) → IsWithin (the_end old who).streams) (o : AreOwing some old) where
  emits_owing : (who : End) (most : ℕ) (fair : Bool) (answer : Result (Unit {0}) OutOfMemory) (payload : PayloadView) → EmitsSome old who most fair answer payload new → AreOwing some new
  emits_owing who most fair answer payload e = owing_emits old new o who most fair answer payload e
      (seen-as a b (past_of h) old who (joined-from g) (Emptied (the_end old who) e.end payload) (λ x y side s. emptied x y s.linked s.here (within who) e.emits))

  emitted_owing : (who : End) (most : ℕ) (fair : Bool) (reply : Answer) → EmittedSome old who most fair reply new → AreOwing some new
  emitted_owing who most fair (Ok (Payload number bytes)) e = emits_owing who most fair (Ok tt) e.payload e.emits
  emitted_owing who most fair (Err NoMemory) e = elim e [ inl same ↦ stays old new o same | inr part ↦ emits_owing who most fair part.answer part.payload part.emits ]
  emitted_owing who most fair _ e = absurd e

  -- a call that consumes, frees and reads nothing
  plainly : {P : EndState → EndState → Type 0} (step : Step) (reply : Answer) (k : End) (d : OnEnd P old k new) → EndLeaves nothing_more (the_end old k) d.end → AreOwing some new
  plainly step reply k d l = by_end old new o k d (owing-plain (the_end old k) d.end old.sent k l)

  acts : {P : EndState → EndState → Type 0} (k : End) (d : OnEnd P old k new) (m : May) → ((who : End) → EndLeaves m (the_end old who) (the_end new who)) → EndLeaves m (the_end old k) d.end
  acts k d m l = acting old new o k d m l

  reads_owing : (who : End) (id : ℕ) (ordered : Bool) (most times : ℕ) (reply : Answer) → NextOrdinary old (steps.Read who id ordered most times) reply new → AreOwing some new
  reads_owing who id ordered most times reply n = by_end old new o who n (on_given old new o who id reply n.end _ n.does (λ d. by d.answer d.reads))
    where
      by : (answer : Result ReadSome ReadableError) → ReadsSo (the_end old who) id ordered most times answer n.end → Owing some (the_end old who) old.sent who → Owing some n.end old.sent who
      by (Ok r) s c =
          let m : May = record { reads = λ q. q == id; credits = true; resizes = false; frees = true } in
          owing-read old.sent who (the_end old who) n.end id most times ordered r s
          (record { streams = some-so m id most ordered (itself id, refl) refl times (the_end old who).pending s.read.pending r.chunks.items r.last r.transmit.0 (the_end old who).streams s.read.streams s.reads; asked = read-asked (the_end old who) id most times ordered r.chunks.items r.last r.transmit.0 n.end s }) c
      by (Err error) s c = refused-read old.sent who (the_end old who) n.end id ordered error s c

  pub owing-next : (step : Step) (reply : Answer) → NextOrdinary old step reply new → AreOwing some new
  owing-next (steps.Read who id ordered most times) reply n = reads_owing who id ordered most times reply n
  owing-next (steps.Stop who id code) reply n = by_end old new o who n (on_given old new o who id reply n.end _ n.does (λ d c. owing-stopped old.sent who (the_end old who) n.end id code d.answer d.stops (stop-leaves (the_end old who) n.end id code d.answer d.stops) c))
  owing-next (steps.ReceivedReset who id) reply n = by_end old new o who n (on_given old new o who id reply n.end _ n.does (λ d c. owing-code old.sent who (the_end old who) n.end id d.answer d.tells (code-leaves (the_end old who) n.end id d.answer d.tells) c))
  owing-next (steps.SetReceiveWindow who window) reply n = by_end old new o who n (λ c. windowed c)
    where
      l : EndLeaves (may_of (steps.SetReceiveWindow who window)) (the_end old who) n.end
      l = acting old new o who n (may_of (steps.SetReceiveWindow who window)) (step-leaves old new (steps.SetReceiveWindow who window) reply tt n)

      windowed : Owing some (the_end old who) old.sent who → Owing some n.end old.sent who
      windowed c = record {
        whole = λ on. window-data old.sent who (the_end old who) n.end window n.does.larger n.does.larger_is n.does.is (c.whole on);
        windows = λ id. window-left (may_of (steps.SetReceiveWindow who window)) id (the_end old who) n.end l refl (c.windows id);
        counts = λ d on. elim (c.counts d on) [ inl near ↦ inl (count-left (may_of (steps.SetReceiveWindow who window)) d (the_end old who) n.end l refl near) | inr half ↦ inr half ];
      }
  owing-next (steps.SetMaxConcurrent who dir count) reply n = by_end old new o who n (λ c. owing-set old.sent who (the_end old who) n.end dir count n.does.answer n.does.sets (set-leaves (the_end old who) n.end dir count n.does.answer n.does.sets) c)
  owing-next (steps.Emit who most fair) reply n = emitted_owing who most fair reply (emitted-some old new who most fair reply n)
  owing-next (steps.EmitPart who most fair part) reply n = emitted_owing who most fair reply (emitted-part old new who most fair part reply n)
  owing-next (steps.Deliver number index) reply n = owing_delivered old new o number index reply n (asks-for a b h old new (steps.Deliver number index) reply g n)
  owing-next (steps.Lose number) reply n = owing_loses old new o number reply n (step-leaves old new (steps.Lose number) reply tt n)
  owing-next (steps.Ack number) reply n = owing_acks old new o number reply n (step-leaves old new (steps.Ack number) reply tt n)
  owing-next (steps.Open who dir) reply n = plainly (steps.Open who dir) reply who n (acts who n nothing_more (step-leaves old new (steps.Open who dir) reply tt n))
  owing-next (steps.Accept who dir) reply n = plainly (steps.Accept who dir) reply who n (acts who n nothing_more (step-leaves old new (steps.Accept who dir) reply tt n))
  owing-next (steps.Write who id bytes) reply n = plainly (steps.Write who id bytes) reply who n (acts who n nothing_more (step-leaves old new (steps.Write who id bytes) reply tt n))
  owing-next (steps.WriteChunks who id chunks) reply n = plainly (steps.WriteChunks who id chunks) reply who n (acts who n nothing_more (step-leaves old new (steps.WriteChunks who id chunks) reply tt n))
  owing-next (steps.Finish who id) reply n = plainly (steps.Finish who id) reply who n (acts who n nothing_more (step-leaves old new (steps.Finish who id) reply tt n))
  owing-next (steps.Reset who id code) reply n = plainly (steps.Reset who id code) reply who n (acts who n nothing_more (step-leaves old new (steps.Reset who id code) reply tt n))
  owing-next (steps.SetPriority who id priority) reply n = plainly (steps.SetPriority who id priority) reply who n (acts who n nothing_more (step-leaves old new (steps.SetPriority who id priority) reply tt n))
  owing-next (steps.SetSendWindow who window) reply n = plainly (steps.SetSendWindow who window) reply who n (acts who n nothing_more (step-leaves old new (steps.SetSendWindow who window) reply tt n))
  owing-next (steps.Poll who) reply n = plainly (steps.Poll who) reply who n (acts who n nothing_more (step-leaves old new (steps.Poll who) reply tt n))
  owing-next _ reply n = absurd n
