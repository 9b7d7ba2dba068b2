-- Whatever steps led to a pair, what was sent and not acknowledged is to be sent again, or stands in a payload that is unreported.
use Rattle.std.proofs.Common.{◌≡◌, ◌⊎◌, ℕ, Bool, List, [], ◌∷◌, ◌++◌, length, Option, Some, None, Result, Ok, Err, refl, sym, ap, ◌∙◌, subst, inl, inr, arith, ◌≤◌}
use Rattle.std.specs.Prelude.{◌+◌, slice_get, slice_set, take, drop, if◌then◌else◌}
use Rattle.std.specs.Option.{option_map}
use Rattle.std.proofs.lemmas.List.{length-append, take-append-drop, drop-drop, drop_all}
use Rattle.std.proofs.lemmas.Option.{none-some, same_Some}
use Rattle.quic_values.specs.declared.memory.OutOfMemory.{OutOfMemory}
use Rattle.quic_wire.specs.declared.error.ReceiveError.{ReceiveError}
use Rattle.quic_wire.specs.declared.frame.Frame.{Frame}
use Rattle.quic_wire.specs.declared.frame.Frame.TheVariants as frames
use Rattle.quic_wire.specs.declared.frame.StreamMeta.{StreamMeta}
use Rattle.quic_wire.specs.Frames.{AreFrames}
use Rattle.quic_sending.specs.Source.{slice_lists}
use Rattle.quic_receiving.specs.declared.transmit.ShouldTransmit.{ShouldTransmit}
use Rattle.quic_values.specs.declared.ids.Side.TheVariants.{Client}
use Rattle.quic_flows.specs.Flow.{WasWritten, WasFinished, WasGivenUp, WasAskedToStop, WasPermitted, WasCarried, front_of}
use Rattle.quic_history.proofs.Traces.{itself}
use Rattle.quic_streams.specs.declared.settling.SentPayload.{SentPayload}
use Rattle.quic_streams.specs.Settling.{SentView}
use Rattle.quic_streams.specs.Sent.{sent_view}
use Rattle.quic_endpoint.specs.Ends.{EndState}
use Rattle.quic_endpoint.specs.Emitting.{PayloadView}
use Rattle.quic_endpoint.specs.Reports.{LosesPayloadAt, AcksPayloadAt}
use Rattle.quic_link.specs.Endpoints.{IsOneOf}
use Rattle.quic_link.proofs.Basics.{either-of}
use Rattle.quic_exchange.proofs.Origins.{Origin, made_in}
use Rattle.quic_steps.specs.declared.steps.End.{End}
use Rattle.quic_steps.specs.declared.steps.End.TheVariants.{A, B}
use Rattle.quic_steps.specs.declared.steps.Step.{Step}
use Rattle.quic_steps.specs.declared.steps.Step.TheVariants as steps
use Rattle.quic_steps.specs.declared.steps.Reply.TheVariants.{Done, DoneTransmit, Id, Wrote, WroteChunks, Payload}
use Rattle.quic_steps.specs.declared.steps.PairError.TheVariants.{NoSuchPayload, NoSuchFrame, NotAccepted, AlreadySettled, OutOfMemory as NoMemory}
use Rattle.quic_exchange.specs.Sent.{Sent, Unsettled}
use Rattle.quic_exchange.specs.declared.unsettled.Report.{Report}
use Rattle.quic_exchange.specs.declared.unsettled.Report.TheVariants.{Lost, Acknowledged}
use Rattle.quic_exchange.specs.Unsettled.{unsettled_after}
use Rattle.quic_exchange.specs.Payloads.{meta_of, metas_in}
use Rattle.quic_exchange.specs.Replies.{Answer}
use Rattle.quic_exchange.specs.State.{PairState, OnEnd, peer}
use Rattle.quic_exchange.specs.Steps.{NextOrdinary, SentAfter, Delivers, Reports, SettlesPayload}
use Rattle.quic_exchange.specs.History.{History, Past, past_of}
use Rattle.quic_exchange.proofs.Eras.{EraFrom, begun, next, changed, Changes, accepts, retries, ToldIn, tales_in, tales_changed}
use Rattle.quic_exchange.specs.Tale.{Tale, Tales, StepTells, SendsOne, HearsOne, TellsParts, Part, Carried, parts_in, parts_of, parts_left, with_parts, acked_part, lost_part, with_frames_sent, with_frame_heard, with_one_opened, with_bytes_taken, with_deed, with_window_of, with_limits_given, told_of}
use Rattle.quic_exchange.proofs.Emissions.{EmitsSome, EmittedSome, emitted-some, emitted-part, tells-part}
use Rattle.quic_exchange.proofs.Lists.{slice_get-push, slice_get-append_left, slice_set-keeps, slice_get-set_same, slice_get-within, one-of-first}
use Rattle.quic_exchange.proofs.Marks.{sent_on_end}
use Rattle.quic_exchange.proofs.Left.{AreLeft, carried_in}
use Rattle.quic_exchange.proofs.Recounted.{Recounted}
use Rattle.quic_exchange.proofs.TracedAnew.{all-given, all-again, counted-unsent}
use Rattle.quic_exchange.proofs.Changed.{recounted-changed}
use Rattle.quic_exchange.proofs.Grown.{joined-from, retold-next, recounted-begun}
use Rattle.quic_exchange.proofs.Traced.{AreTraced, OrOneOf, TellsPart, traced-more, traced-deed, traced-carried, parts-told, acked-told, lost-told}

-- a frame of an end is unreported
pub record IsUnreported (sent : List Sent) (who : End) (m : StreamMeta) : Type 0 where
  pub number : ℕ
  pub payload : Sent
  pub is : slice_get sent number ≡ Some payload
  pub writer : payload.writer ≡ who
  pub rest : SentPayload
  pub rest_is : payload.unsettled.rest ≡ Some rest
  pub listed : IsOneOf (Carried m) (parts_of (sent_view rest))

-- all that both ends sent is traced
abbrev pub AreAllTraced : List Sent → Tales → Type 0
AreAllTraced sent t = (who : End) → AreTraced (IsUnreported sent who) (t.of who)

-- ---- what is unreported stays so

abbrev RestsStay : List Sent → List Sent → Type 0
RestsStay sent more = (number : ℕ) (s : Sent) → slice_get sent number ≡ Some s → (t : Sent) × (slice_get more number ≡ Some t) × (t.writer ≡ s.writer) × (t.unsettled.rest ≡ s.unsettled.rest)

unreported_stays : (sent more : List Sent) → RestsStay sent more → (who : End) (m : StreamMeta) → IsUnreported sent who m → IsUnreported more who m
unreported_stays sent more stay who m u =
    let k = stay u.number u.payload u.is in
    record { number = u.number; payload = k.0; is = k.1; writer = k.2 ∙ u.writer; rest = u.rest; rest_is = k.3 ∙ u.rest_is; listed = u.listed }

rests_same : (sent more : List Sent) → more ≡ sent → RestsStay sent more
rests_same sent more e number s is = (s, ap (λ l. slice_get l number) e ∙ is, refl, refl)

rests_push : (sent more : List Sent) (s : Sent) → more ≡ sent ++ s ∷ [] → RestsStay sent more
rests_push sent more s e number t is = (t, ap (λ l. slice_get l number) e ∙ slice_get-append_left sent (s ∷ []) number t is, refl, refl)

rests_set : (sent more : List Sent) (number : ℕ) (s t : Sent) → slice_get sent number ≡ Some s → t.writer ≡ s.writer → t.unsettled ≡ s.unsettled → more ≡ slice_set sent number t → RestsStay sent more
rests_set sent more number s t is writer unsettled e n x got = elim (slice_set-keeps sent number n t x got) [
  | inl here ↦ (
      let same : x ≡ s = same_Some x s (sym got ∙ ap (slice_get sent) here ∙ is) in
      (t, ap (λ l. slice_get l n) e ∙ ap (slice_get (slice_set sent number t)) here ∙ slice_get-set_same sent number s t is, writer ∙ sym (ap (λ (v : Sent). v.writer) same), ap (λ (u : Unsettled). u.rest) unsettled ∙ sym (ap (λ (v : Sent). v.unsettled.rest) same))
      )
  | inr there ↦ (x, ap (λ l. slice_get l n) e ∙ there, refl, refl)
]

module _ (old new : PairState) where
  rests_stay : new ≡ old → RestsStay old.sent new.sent
  rests_stay e = rests_same old.sent new.sent (ap (λ (v : PairState). v.sent) e)

  rests_after_frame : (number index : ℕ) (s : Sent) → slice_get old.sent number ≡ Some s → (answer : Result ShouldTransmit ReceiveError) → SentAfter old.sent number s index answer new.sent → RestsStay old.sent new.sent
  rests_after_frame number index s is (Ok transmit) e = rests_set old.sent new.sent number s (record s { text = e.0 }) is refl refl e.2
  rests_after_frame number index s is (Err error) e = rests_same old.sent new.sent e

  rests_delivered : (number index : ℕ) (reply : Answer) → Delivers old number index reply new → RestsStay old.sent new.sent
  rests_delivered number index (Err NoSuchPayload) e = rests_stay e.1
  rests_delivered number index (Err NoSuchFrame) e = rests_stay e.is
  rests_delivered number index (Err NoMemory) e = elim e [ inl w ↦ rests_stay w.1 | inr t ↦ rests_after_frame number index t.payload.sent t.payload.is t.answer t.sent ]
  rests_delivered number index reply e = rests_after_frame number index e.payload.sent e.payload.is e.answer e.sent

-- ---- what the steps tell

module _ (ways more : End → StreamMeta → Type 0) (w : (who : End) (m : StreamMeta) → ways who m → more who m) (t : Tales) (k : (who : End) → AreTraced (ways who) (t.of who)) where
  told_same : (u : Tales) → u ≡ t → (end : End) → AreTraced (more end) (u.of end)
  told_same u e end = let P : Tales → Type 0 = λ v. AreTraced (more end) (v.of end) in subst P (sym e) (traced-more (ways end) (more end) (t.of end) (w end) (k end))

  told_change : (who : End) (change : Tale → Tale) → (AreTraced (more who) (t.of who) → AreTraced (more who) (change (t.of who))) → (end : End) → AreTraced (more end) ((told_of who change t).of end)
  told_change A change c A = c (told_same t refl A)
  told_change A change c B = told_same t refl B
  told_change B change c A = told_same t refl A
  told_change B change c B = c (told_same t refl B)

  told_as : (who : End) (change : Tale → Tale) (u : Tales) → u ≡ told_of who change t → (AreTraced (more who) (t.of who) → AreTraced (more who) (change (t.of who))) → (end : End) → AreTraced (more end) (u.of end)
  told_as who change u e c end = let P : Tales → Type 0 = λ v. AreTraced (more end) (v.of end) in subst P (sym e) (told_change who change c end)

  heard : (who : End) (frame : Frame) → AreTraced (more who) (t.of who) → AreTraced (more who) (with_frame_heard frame (t.of who))
  heard who (frames.MaxData limit) j = j
  heard who (frames.MaxStreams dir count) j = j
  heard who (frames.MaxStreamData id limit) j = traced-deed (more who) id (WasPermitted limit) (t.of who) tt j
  heard who (frames.StopSending f) j = traced-deed (more who) f.id (WasAskedToStop f.error_code) (t.of who) tt j
  heard who _ j = j

  heard_one : (sent : List Sent) (at : ℕ × ℕ) (u : Tales) → HearsOne sent at t u → (end : End) → AreTraced (more end) (u.of end)
  heard_one sent at u h = told_as (peer h.who) (with_frame_heard h.frame) u h.is (heard (peer h.who) h.frame)

  wrote : (who : End) (id count : ℕ) (lists : List (List ℕ)) (u : Tales) → u ≡ told_of who (with_bytes_taken id count lists) t → (end : End) → AreTraced (more end) (u.of end)
  wrote who id count lists u e = told_as who (with_bytes_taken id count lists) u e (λ j. traced-deed (more who) id (WasWritten (front_of count lists)) (t.of who) tt j)

-- steps beside payloads that are sent and reported
abbrev IsBesidePayloads : Step → Type 0
IsBesidePayloads (steps.Emit who most fair) = ⊥
IsBesidePayloads (steps.EmitPart who most fair part) = ⊥
IsBesidePayloads (steps.Lose number) = ⊥
IsBesidePayloads (steps.Ack number) = ⊥
IsBesidePayloads _ = Unit {0}

module _ (old new : List Sent) (stay : RestsStay old new) (t : Tales) (k : AreAllTraced old t) where
  told_beside : (step : Step) (reply : Answer) (u : Tales) → IsBesidePayloads step → StepTells old new step reply t u → AreAllTraced new u
  told_beside (steps.Open who dir) (Ok (Id id)) u b e = told_as (IsUnreported old) (IsUnreported new) (unreported_stays old new stay) t k who (with_one_opened dir) u e (λ j. j)
  told_beside (steps.Write who id bytes) (Ok (Wrote count)) u b e = wrote (IsUnreported old) (IsUnreported new) (unreported_stays old new stay) t k who id count (slice_lists bytes) u e
  told_beside (steps.WriteChunks who id chunks) (Ok (WroteChunks written)) u b e = wrote (IsUnreported old) (IsUnreported new) (unreported_stays old new stay) t k who id written.bytes chunks u e
  told_beside (steps.Finish who id) (Ok Done) u b e = told_as (IsUnreported old) (IsUnreported new) (unreported_stays old new stay) t k who (with_deed id WasFinished) u e (λ j. traced-deed (IsUnreported new who) id WasFinished (t.of who) tt j)
  told_beside (steps.Reset who id code) (Ok Done) u b e = told_as (IsUnreported old) (IsUnreported new) (unreported_stays old new stay) t k who (with_deed id (WasGivenUp code)) u e (λ j. traced-deed (IsUnreported new who) id (WasGivenUp code) (t.of who) tt j)
  told_beside (steps.SetSendWindow who window) (Ok Done) u b e = told_as (IsUnreported old) (IsUnreported new) (unreported_stays old new stay) t k who (with_window_of window) u e (λ j. j)
  told_beside (steps.Deliver number index) (Ok Done) u b e = heard_one (IsUnreported old) (IsUnreported new) (unreported_stays old new stay) t k old (number, index) u e
  told_beside (steps.Deliver number index) (Ok DoneTransmit) u b e = heard_one (IsUnreported old) (IsUnreported new) (unreported_stays old new stay) t k old (number, index) u e
  told_beside (steps.Emit who most fair) reply u b e = absurd b
  told_beside (steps.EmitPart who most fair part) reply u b e = absurd b
  told_beside (steps.Lose number) reply u b e = absurd b
  told_beside (steps.Ack number) reply u b e = absurd b
  told_beside _ _ u b e = told_same (IsUnreported old) (IsUnreported new) (unreported_stays old new stay) t k u e

-- ---- a payload is sent

frames_traced : (ways : StreamMeta → Type 0) (fs : List Frame) (t : Tale) → ((m : StreamMeta) → IsOneOf m (metas_in fs) → ways m) → AreTraced ways t → AreTraced ways (with_frames_sent fs t)
frames_traced ways [] t w k = k
frames_traced ways (frames.Stream s ∷ fs) t w k = frames_traced ways fs (with_deed s.id (WasCarried s.offset (s.offset + length s.bytes) s.fin) t) (λ m h. w m (inr h)) (traced-carried ways (meta_of s) (w (meta_of s) (inl refl)) t k)
frames_traced ways (_ ∷ fs) t w k = frames_traced ways fs t w k

some_rest : (rest : Option SentPayload) (view : SentView) → option_map sent_view rest ≡ Some view → (r : SentPayload) × (rest ≡ Some r)
some_rest None view e = absurd (none-some view e)
some_rest (Some r) view e = (r, refl)

module _ (old new : PairState) (t u : Tales) (count : t.payloads ≡ length old.sent) (fresh : (number : ℕ) → length old.sent ≤ number → t.told number ≡ 0) (left : AreLeft new.sent u.told) (k : AreAllTraced old.sent t) where
  module _ {who : End} {most : ℕ} {fair : Bool} {answer : Result (Unit {0}) OutOfMemory} {payload : PayloadView} (e : EmitsSome old who most fair answer payload new) (s : SendsOne new.sent who t u) where
    sent_then : new.sent ≡ old.sent ++ e.sent ∷ []
    sent_then = ap (λ (v : PairState). v.sent) e.is

    payload_is : s.stood.payload ≡ e.sent
    payload_is = elim (slice_get-push old.sent e.sent t.payloads s.stood.payload (ap (λ l. slice_get l t.payloads) (sym sent_then) ∙ s.stood.is)) [
      | inl there ↦ absurd (let within = slice_get-within old.sent t.payloads s.stood.payload there in omega (arith, within, count))
      | inr now ↦ now.1
    ]

    -- all of it is unreported
    rest_there : (r : SentPayload) × (s.stood.payload.unsettled.rest ≡ Some r)
    rest_there = some_rest s.stood.payload.unsettled.rest payload.sent (ap (λ (v : Sent). option_map sent_view v.unsettled.rest) payload_is ∙ e.sent_is.rest)

    none_told : u.told t.payloads ≡ 0
    none_told = ap (λ (v : Tales). v.told t.payloads) s.is ∙ fresh t.payloads (omega (arith, count))

    parts_are : parts_of (sent_view rest_there.0) ≡ parts_in s.all
    parts_are = (left t.payloads s.stood.payload rest_there.0 s.all s.stood.is rest_there.1 s.stood.spelled).parts ∙ ap (λ n. drop n (parts_in s.all)) none_told

    under_way : (m : StreamMeta) → IsOneOf m (metas_in s.all) → IsUnreported new.sent who m
    under_way m h =
        let P : List Part → Type 0 = λ l. IsOneOf (Carried m) l in
        record {
          number = t.payloads;
          payload = s.stood.payload;
          is = s.stood.is;
          writer = s.stood.writer;
          rest = rest_there.0;
          rest_is = rest_there.1;
          listed = subst P (sym parts_are) (one-of-first (Carried m) _ _ (carried_in m (metas_in s.all) h));
        }

    traced_sent : AreAllTraced new.sent u
    traced_sent end =
        let P : Tales → Type 0 = λ v. AreTraced (IsUnreported new.sent end) (v.of end) in
        subst P (sym s.is)
        (told_change (IsUnreported old.sent) (IsUnreported new.sent) (unreported_stays old.sent new.sent (rests_push old.sent new.sent e.sent sent_then)) t k who (with_frames_sent s.all) (λ j. frames_traced (IsUnreported new.sent who) s.all (t.of who) under_way j) end)

  traced_none : new.sent ≡ old.sent → u ≡ t → AreAllTraced new.sent u
  traced_none same e = told_same (IsUnreported old.sent) (IsUnreported new.sent) (unreported_stays old.sent new.sent (rests_same old.sent new.sent same)) t k u e

  longer_by : (s : Sent) → new.sent ≡ old.sent ++ s ∷ [] → length new.sent ≡ length old.sent + 1
  longer_by s e = ap length e ∙ length-append old.sent (s ∷ [])

  traced_emitted : (who : End) (most : ℕ) (fair : Bool) (reply : Answer) → EmittedSome old who most fair reply new → StepTells old.sent new.sent (steps.Emit who most fair) reply t u → AreAllTraced new.sent u
  traced_emitted who most fair (Ok (Payload number bytes)) e s = traced_sent e.emits s.0
  traced_emitted who most fair (Err NoMemory) e s = elim e [
    | inl same ↦ elim s [
      | inl none ↦ traced_none (ap (λ (v : PairState). v.sent) same) none.1
      | inr one ↦ absurd (let size = ap (λ (v : PairState). length v.sent) same in let more = one.0 in omega (arith, size, more))
    ]
    | inr part ↦ elim s [
      | inl none ↦ absurd (let size = longer_by part.emits.sent (ap (λ (v : PairState). v.sent) part.emits.is) in let same = none.0 in omega (arith, size, same))
      | inr one ↦ traced_sent part.emits one.1
    ]
  ]
  traced_emitted who most fair _ e s = absurd e

-- ---- a payload is reported

module _ (old new : PairState) (t u : Tales) (before : AreLeft old.sent t.told) (behind : AreLeft new.sent u.told) (k : AreAllTraced old.sent t) (number : ℕ) (kind : Report) (At : EndState → SentView → Result (Unit {0}) SentView → EndState → Type 0) (deed : Part → Tale → Tale) (tells : TellsPart deed) where
  traced_same : new ≡ old → u ≡ t → AreAllTraced new.sent u
  traced_same same e = told_same (IsUnreported old.sent) (IsUnreported new.sent) (unreported_stays old.sent new.sent (rests_stay old new same)) t k u e

  module _ (reply : Answer) (n : Reports kind At old number reply new) (p : TellsParts new.sent number deed t u) where
    abbrev reported : Sent
    reported = record n.payload.sent { unsettled = unsettled_after kind n.payload.sent.unsettled n.answer }

    sent_reported : new.sent ≡ slice_set old.sent number reported
    sent_reported = ap (λ (v : PairState). v.sent) n.is

    there_now : slice_get new.sent number ≡ Some reported
    there_now = ap (λ l. slice_get l number) sent_reported ∙ slice_get-set_same old.sent number n.payload.sent reported n.payload.is

    stood_is : p.stood.payload ≡ reported
    stood_is = same_Some p.stood.payload reported (sym p.stood.is ∙ there_now)

    spelled : AreFrames n.payload.sent.text.bytes p.all
    spelled = let P : Sent → Type 0 = λ s. AreFrames s.text.bytes p.all in subst P stood_is p.stood.spelled

    writer_is : n.payload.sent.writer ≡ p.who
    writer_is = sym (ap (λ (s : Sent). s.writer) stood_is) ∙ p.stood.writer

    abbrev untold : List Part
    untold = drop (t.told number) (parts_in p.all)

    parts_before : parts_of (sent_view n.rest) ≡ untold
    parts_before = (before number n.payload.sent n.rest p.all n.payload.is n.rest_is spelled).parts

    told_now : u.told number ≡ t.told number + p.count
    told_now = ap (λ (v : Tales). v.told number) p.is ∙ ap (λ b. if b then t.told number + p.count else t.told number) (itself number)

    parts_then : drop p.count untold ≡ drop (u.told number) (parts_in p.all)
    parts_then = drop-drop p.count (t.told number) (parts_in p.all) ∙ ap (λ i. drop i (parts_in p.all)) (sym told_now)

    -- what is not told yet is unreported
    left_over : (m : StreamMeta) (end : End) → n.payload.sent.writer ≡ end → (answer : Result (Unit {0}) SentPayload) → n.answer ≡ answer → IsOneOf (Carried m) (drop (u.told number) (parts_in p.all)) → IsUnreported new.sent end m
    left_over m end wrote (Ok done) e h =
        let counts = p.counts in
        let none : parts_left p.stood.payload.unsettled ≡ 0 = ap (λ (s : Sent). parts_left s.unsettled) stood_is ∙ ap (λ a. parts_left (unsettled_after kind n.payload.sent.unsettled a)) e in
        let now = told_now in
        let P : List Part → Type 0 = λ l. IsOneOf (Carried m) l in
        absurd (subst P (drop_all (u.told number) (parts_in p.all) (omega (arith, counts, none, now))) h)
    left_over m end wrote (Err back) e h =
        let P : List Part → Type 0 = λ l. IsOneOf (Carried m) l in
        let rest_now : reported.unsettled.rest ≡ Some back = ap (λ a. (unsettled_after kind n.payload.sent.unsettled a).rest) e in
        record {
          number = number;
          payload = reported;
          is = there_now;
          writer = wrote;
          rest = back;
          rest_is = rest_now;
          listed = subst P (sym (behind number reported back p.all there_now rest_now spelled).parts) h;
        }

    -- so what was unreported is told in this step, or it is still
    told_or_left : (end : End) (m : StreamMeta) → IsUnreported old.sent end m → ((end ≡ p.who) × IsOneOf (Carried m) (take p.count untold)) ⊎ IsUnreported new.sent end m
    told_or_left end m l = elim (slice_set-keeps old.sent number l.number reported l.payload l.is) [
      | inl here ↦ (
          let same : l.payload ≡ n.payload.sent = same_Some l.payload n.payload.sent (sym l.is ∙ ap (slice_get old.sent) here ∙ n.payload.is) in
          let rest_same : l.rest ≡ n.rest = same_Some l.rest n.rest (sym l.rest_is ∙ ap (λ (s : Sent). s.unsettled.rest) same ∙ n.rest_is) in
          let wrote : n.payload.sent.writer ≡ end = sym (ap (λ (s : Sent). s.writer) same) ∙ l.writer in
          let P : List Part → Type 0 = λ xs. IsOneOf (Carried m) xs in
          let all : IsOneOf (Carried m) (take p.count untold ++ drop p.count untold) = subst P (ap (λ r. parts_of (sent_view r)) rest_same ∙ parts_before ∙ sym (take-append-drop p.count untold)) l.listed in
          elim (either-of (Carried m) (take p.count untold) (drop p.count untold) all) [
            | inl now ↦ inl (sym wrote ∙ writer_is, now)
            | inr later ↦ inr (left_over m end wrote n.answer refl (subst P parts_then later))
          ]
          )
      | inr there ↦ inr (record { number = l.number; payload = l.payload; is = ap (λ xs. slice_get xs l.number) sent_reported ∙ there; writer = l.writer; rest = l.rest; rest_is = l.rest_is; listed = l.listed })
    ]

    of_writer : (end : End) → end ≡ p.who → AreTraced (IsUnreported new.sent end) (with_parts deed (take p.count untold) (t.of end))
    of_writer end e =
        let ways : StreamMeta → Type 0 = IsUnreported new.sent end in
        traced-more (OrOneOf ways []) ways (with_parts deed (take p.count untold) (t.of end)) (λ m o. elim o [ inl l ↦ l | inr none ↦ absurd none ])
        (parts-told deed tells ways (take p.count untold) (t.of end) (traced-more (IsUnreported old.sent end) (OrOneOf ways (take p.count untold)) (t.of end) (λ m l. elim (told_or_left end m l) [ inl now ↦ inr now.1 | inr still ↦ inl still ]) (k end)))

    of_other : (end : End) → (end ≡ p.who → ⊥) → AreTraced (IsUnreported new.sent end) (t.of end)
    of_other end never = traced-more (IsUnreported old.sent end) (IsUnreported new.sent end) (t.of end) (λ m l. elim (told_or_left end m l) [ inl now ↦ absurd (never now.0) | inr still ↦ still ]) (k end)

    of_both : (who end : End) → p.who ≡ who → AreTraced (IsUnreported new.sent end) ((told_of who (with_parts deed (take p.count untold)) t).of end)
    of_both A A e = of_writer A (sym e)
    of_both A B e = of_other B (λ d. let c = d ∙ e in cc)
    of_both B A e = of_other A (λ d. let c = d ∙ e in cc)
    of_both B B e = of_writer B (sym e)

    traced_reported : AreAllTraced new.sent u
    traced_reported end =
        let P : Tales → Type 0 = λ v. AreTraced (IsUnreported new.sent end) (v.of end) in
        subst P (sym p.is) (of_both p.who end refl)

module _ (old new : PairState) (t u : Tales) (before : AreLeft old.sent t.told) (behind : AreLeft new.sent u.told) (k : AreAllTraced old.sent t) (number : ℕ) where
  traced_lost : (reply : Answer) → SettlesPayload Lost LosesPayloadAt old number reply new → StepTells old.sent new.sent (steps.Lose number) reply t u → AreAllTraced new.sent u
  traced_lost (Ok Done) n e = traced_reported old new t u before behind k number Lost LosesPayloadAt lost_part lost-told (Ok Done) n e.some
  traced_lost (Err NoMemory) n e = traced_reported old new t u before behind k number Lost LosesPayloadAt lost_part lost-told (Err NoMemory) n e
  traced_lost (Err NoSuchPayload) n e = traced_same old new t u before behind k number Lost LosesPayloadAt lost_part lost-told n.1 e
  traced_lost (Err AlreadySettled) n e = traced_same old new t u before behind k number Lost LosesPayloadAt lost_part lost-told n.is e
  traced_lost (Err NotAccepted) n e = traced_same old new t u before behind k number Lost LosesPayloadAt lost_part lost-told n.is e
  traced_lost _ n e = absurd n

  traced_acked : (reply : Answer) → SettlesPayload Acknowledged AcksPayloadAt old number reply new → StepTells old.sent new.sent (steps.Ack number) reply t u → AreAllTraced new.sent u
  traced_acked (Ok Done) n e = traced_reported old new t u before behind k number Acknowledged AcksPayloadAt acked_part acked-told (Ok Done) n e.some
  traced_acked (Err NoMemory) n e = traced_reported old new t u before behind k number Acknowledged AcksPayloadAt acked_part acked-told (Err NoMemory) n e
  traced_acked (Err NoSuchPayload) n e = traced_same old new t u before behind k number Acknowledged AcksPayloadAt acked_part acked-told n.1 e
  traced_acked (Err AlreadySettled) n e = traced_same old new t u before behind k number Acknowledged AcksPayloadAt acked_part acked-told n.is e
  traced_acked (Err NotAccepted) n e = traced_same old new t u before behind k number Acknowledged AcksPayloadAt acked_part acked-told n.is e
  traced_acked _ n e = absurd n

-- ---- all steps

module _ (a b : Origin) (old new : PairState) (r : Recounted a b old) (reply : Answer) (k : AreAllTraced old.sent r.tales) where
  traced_on_end : {P : EndState → EndState → Type 0} (who : End) (step : Step) (u : Tales) → IsBesidePayloads step → OnEnd P old who new → StepTells old.sent new.sent step reply r.tales u → AreAllTraced new.sent u
  traced_on_end who step u b d e = told_beside old.sent new.sent (rests_same old.sent new.sent (sent_on_end old who new d)) r.tales k step reply u b e

  traced_next : (step : Step) (s : Recounted a b new) → NextOrdinary old step reply new → StepTells old.sent new.sent step reply r.tales s.tales → AreAllTraced new.sent s.tales
  traced_next (steps.Open who dir) s n e = traced_on_end who (steps.Open who dir) s.tales tt n e
  traced_next (steps.Accept who dir) s n e = traced_on_end who (steps.Accept who dir) s.tales tt n e
  traced_next (steps.Write who id bytes) s n e = traced_on_end who (steps.Write who id bytes) s.tales tt n e
  traced_next (steps.WriteChunks who id chunks) s n e = traced_on_end who (steps.WriteChunks who id chunks) s.tales tt n e
  traced_next (steps.Finish who id) s n e = traced_on_end who (steps.Finish who id) s.tales tt n e
  traced_next (steps.Reset who id code) s n e = traced_on_end who (steps.Reset who id code) s.tales tt n e
  traced_next (steps.Stop who id code) s n e = traced_on_end who (steps.Stop who id code) s.tales tt n e
  traced_next (steps.SetPriority who id priority) s n e = traced_on_end who (steps.SetPriority who id priority) s.tales tt n e
  traced_next (steps.Read who id ordered most times) s n e = traced_on_end who (steps.Read who id ordered most times) s.tales tt n e
  traced_next (steps.ReceivedReset who id) s n e = traced_on_end who (steps.ReceivedReset who id) s.tales tt n e
  traced_next (steps.SetSendWindow who window) s n e = traced_on_end who (steps.SetSendWindow who window) s.tales tt n e
  traced_next (steps.SetReceiveWindow who window) s n e = traced_on_end who (steps.SetReceiveWindow who window) s.tales tt n e
  traced_next (steps.SetMaxConcurrent who dir count) s n e = traced_on_end who (steps.SetMaxConcurrent who dir count) s.tales tt n e
  traced_next (steps.Poll who) s n e = traced_on_end who (steps.Poll who) s.tales tt n e
  traced_next (steps.Emit who most fair) s n e = traced_emitted old new r.tales s.tales r.count r.fresh s.left k who most fair reply (emitted-some old new who most fair reply n) e
  traced_next (steps.EmitPart who most fair part) s n e = traced_emitted old new r.tales s.tales r.count r.fresh s.left k who most fair reply (emitted-part old new who most fair part reply n) (tells-part old.sent new.sent who most fair part reply r.tales s.tales e)
  traced_next (steps.Deliver number index) s n e = told_beside old.sent new.sent (rests_delivered old new number index reply n) r.tales k (steps.Deliver number index) reply s.tales tt e
  traced_next (steps.Lose number) s n e = traced_lost old new r.tales s.tales r.left s.left k number reply n e
  traced_next (steps.Ack number) s n e = traced_acked old new r.tales s.tales r.left s.left k number reply n e
  traced_next _ s n e = absurd n

traced_begun : (a b : Origin) (sent : List Sent) (t : Tales) → t ≡ tales_in a b sent → AreAllTraced sent t
traced_begun a b sent t e who =
    let P : Tales → Type 0 = λ v. AreTraced (IsUnreported sent who) (v.of who) in
    subst P (sym e) (at_first who)
  where
    at_first : (end : End) → AreTraced (IsUnreported sent end) ((tales_in a b sent).of end)
    at_first A id = record { bytes = λ r n k. cc; end = λ r k. cc }
    at_first B id = record { bytes = λ r n k. cc; end = λ r k. cc }

traced_changed : (a b : Origin) (p : Past) (old new : PairState) (r : Recounted a b old) → AreAllTraced old.sent r.tales → (step : Step) (c : Changes b p old new step) → AreAllTraced new.sent (tales_changed c r.tales)
traced_changed a b p old new r k step (accepts c within few) =
    let P : List Sent → Type 0 = λ l. AreAllTraced l (told_of A (with_limits_given Client c.limits.others) r.tales) in
    subst P (sym (ap (λ (v : PairState). v.sent) c.is)) (all-given (IsUnreported old.sent) c.limits.others r.tales k)
traced_changed a b p old new r k step (retries c m did mine accepted kept) =
    all-again (IsUnreported old.sent) (IsUnreported new.sent) r.tales not_of_b (counted-unsent m (made_in Client a) old.a.streams (r.tales.of A) did (r.counted A)) k
  where
    not_of_b : (m : StreamMeta) → IsUnreported old.sent B m → ⊥
    not_of_b m u = elim (mine u.number u.payload u.is) [
      | inl own ↦ (let e : A ≡ B = sym own.writer ∙ u.writer in cc)
      | inr left ↦ absurd (none-some u.rest (sym left.rest ∙ u.rest_is))
    ]

-- what the steps tell, traced
pub record Traces {a b : Origin} {h : History} {v : PairState} (f : EraFrom a b h v) : Type 0 where
  pub recounted : Recounted a b v
  pub told : ToldIn f recounted.tales
  pub traced : AreAllTraced v.sent recounted.tales

pub traces-from : {a b : Origin} {h : History} {v : PairState} (f : EraFrom a b h v) → Traces f
traces-from {a} {b} {h} {v} (begun n) = let r = recounted-begun a b v n in record { recounted = r.0; told = r.1; traced = traced_begun a b v.sent r.0.tales r.1 }
traces-from {a} {b} (next {h} {old} {new} step reply f n) =
    let g = traces-from f in
    let r = retold-next a b (past_of h) old new (joined-from f) g.recounted step reply n in
    record { recounted = r.behind; told = (g.recounted.tales, g.told, r.tells); traced = traced_next a b old new g.recounted reply g.traced step r.behind n r.tells }
traces-from {a} {b} (changed {h} {old} {new} step f c) =
    let g = traces-from f in
    let r = recounted-changed a b (past_of h) old new g.recounted step c in
    record {
      recounted = r.0;
      told = (g.recounted.tales, g.told, r.1);
      traced = let P : Tales → Type 0 = λ t. AreAllTraced new.sent t in subst P (sym r.1) (traced_changed a b (past_of h) old new g.recounted g.traced step c);
    }
