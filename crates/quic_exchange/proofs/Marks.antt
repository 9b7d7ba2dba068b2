-- The frames that are marked as accepted are those of which a delivery was answered Ok.
use Rattle.std.proofs.Common.{◌≡◌, ℕ, zero, suc, Bool, true, false, List, [], ◌∷◌, Some, Result, Ok, Err, refl, sym, ap, ◌∙◌, subst, inl, inr}
use Rattle.std.specs.Prelude.{◌++◌, ◌||◌, ◌==◌, slice_get, slice_set, slice_index_or, if◌then◌else◌}
use Rattle.std.proofs.lemmas.Option.{same_Some}
use Rattle.quic_values.specs.declared.memory.OutOfMemory.{OutOfMemory}
use Rattle.quic_wire.specs.declared.error.ReceiveError.{ReceiveError}
use Rattle.quic_wire.specs.declared.error.ReceiveError.TheVariants as receive_error
use Rattle.quic_receiving.specs.declared.transmit.ShouldTransmit.{ShouldTransmit}
use Rattle.quic_history.proofs.Traces.{itself}
use Rattle.quic_streams.specs.Settling.{SentView}
use Rattle.quic_link.specs.Endpoints.{IsOneOf}
use Rattle.quic_link.proofs.Basics.{either_true, same_id}
use Rattle.quic_endpoint.specs.Ends.{EndState}
use Rattle.quic_endpoint.specs.Emitting.{PayloadView}
use Rattle.quic_endpoint.specs.Reports.{LosesPayloadAt, AcksPayloadAt}
use Rattle.quic_steps.specs.declared.steps.End.{End}
use Rattle.quic_steps.specs.declared.steps.End.TheVariants.{A, B}
use Rattle.quic_exchange.proofs.Origins.{Origin}
use Rattle.quic_steps.specs.declared.steps.Step.{Step}
use Rattle.quic_steps.specs.declared.steps.Step.TheVariants as steps
use Rattle.quic_steps.specs.declared.steps.Reply.TheVariants.{Done, DoneTransmit, Payload}
use Rattle.quic_steps.specs.declared.steps.PairError.TheVariants.{NoSuchPayload, NoSuchFrame, NotAccepted, AlreadySettled, OutOfMemory as NoMemory}
use Rattle.quic_exchange.specs.Sent.{Sent, Unsettled}
use Rattle.quic_exchange.specs.declared.unsettled.Report.{Report}
use Rattle.quic_exchange.specs.declared.unsettled.Report.TheVariants.{Lost, Acknowledged}
use Rattle.quic_exchange.specs.Payloads.{SentText, IsMarked, is_accepted}
use Rattle.quic_exchange.specs.Unsettled.{unsettled_after}
use Rattle.quic_exchange.specs.Replies.{Answer, received_reply}
use Rattle.quic_exchange.specs.State.{PairState, OnEnd, with_end, with_sent}
use Rattle.quic_exchange.specs.Gone.{IsGone}
use Rattle.quic_exchange.specs.Steps.{NextOrdinary, SentAfter, HandsOver, Delivers, Reports, SettlesPayload}
use Rattle.quic_exchange.specs.History.{Past, History, FramePlace, after, after_deliver, after_report, past_of}
use Rattle.quic_exchange.proofs.Emissions.{EmitsSome, EmittedSome, emitted-some, emitted-part}
use Rattle.quic_exchange.proofs.Eras.{EraFrom, begun, next, changed, Changes, accepts, retries}
use Rattle.quic_exchange.proofs.Lists.{slice_get-append_left, slice_get-push, slice_get-slice_set, slice_set-keeps, slice_get-set_same}
use Rattle.quic_exchange.proofs.Deeds.{sent-same}
use Rattle.quic_exchange.proofs.Grown.{past-after}
use Rattle.quic_exchange.proofs.Beside.{IsOfNoPayload, beside}

-- a payload that was sent has a mark at a place
pub record HasMark (sent : List Sent) (at : FramePlace) : Type 0 where
  pub payload : Sent
  pub is : slice_get sent at.0 ≡ Some payload
  pub marked : is_accepted payload.text at.1 ≡ true

-- the marks are these places
pub record AreMarkedSo (accepted : List FramePlace) (sent : List Sent) : Type 0 where
  pub listed : (number index : ℕ) (s : Sent) → slice_get sent number ≡ Some s → is_accepted s.text index ≡ true → IsOneOf (number, index) accepted
  pub marked : (at : FramePlace) → IsOneOf at accepted → HasMark sent at

-- ---- one more place

first_true : (a b : Bool) → a ≡ true → (a || b) ≡ true
first_true true b h = refl
first_true false b h = cc

second_true : (a b : Bool) → b ≡ true → (a || b) ≡ true
second_true true b h = refl
second_true false b h = h

place_is : (a b c d : ℕ) → a ≡ c → b ≡ d → ◌≡◌ {A = FramePlace} (a, b) (c, d)
place_is a b c d p q = rw (p, q) refl

module _ (accepted : List FramePlace) (old : List Sent) (m : AreMarkedSo accepted old) (number index : ℕ) (s : Sent) (is : slice_get old number ≡ Some s) (text : SentText) (k : IsMarked s.text index text) where
  -- the payload once it is marked
  abbrev marked_payload : Sent
  marked_payload = record s { text = text }

  new_mark : is_accepted text index ≡ true
  new_mark = k.marks index ∙ second_true (is_accepted s.text index) (index == index) (itself index)

  old_mark : (at : ℕ) → is_accepted s.text at ≡ true → is_accepted text at ≡ true
  old_mark at h = k.marks at ∙ first_true (is_accepted s.text at) (at == index) h

  listed_more : (n i : ℕ) (t : Sent) → slice_get (slice_set old number marked_payload) n ≡ Some t → is_accepted t.text i ≡ true → IsOneOf (n, i) ((number, index) ∷ accepted)
  listed_more n i t got set = elim (slice_get-slice_set old number n marked_payload t got) [
    | inl new ↦ (
        let set_here : is_accepted text i ≡ true = sym (ap (λ (v : Sent). is_accepted v.text i) new.1) ∙ set in
        elim (either_true (is_accepted s.text i) (i == index) (sym (k.marks i) ∙ set_here)) [
          | inl was ↦ inr (m.listed n i s (ap (slice_get old) new.0 ∙ is) was)
          | inr now ↦ inl (place_is n i number index new.0 (same_id i index now))
        ]
        )
    | inr there ↦ inr (m.listed n i t there set)
  ]

  marked_more : (at : FramePlace) → IsOneOf at ((number, index) ∷ accepted) → HasMark (slice_set old number marked_payload) at
  marked_more at (inl now) =
      let P : FramePlace → Type 0 = λ place. HasMark (slice_set old number marked_payload) place in
      let here : HasMark (slice_set old number marked_payload) (number, index) = record { payload = marked_payload; is = slice_get-set_same old number s marked_payload is; marked = new_mark } in
      subst P (sym now) here
  marked_more at (inr before) =
      let b = m.marked at before in
      elim (slice_set-keeps old number at.0 marked_payload b.payload b.is) [
        | inl same ↦ (
            let whole : b.payload ≡ s = same_Some b.payload s (sym b.is ∙ ap (slice_get old) same ∙ is) in record {
              payload = marked_payload;
              is = ap (slice_get (slice_set old number marked_payload)) same ∙ slice_get-set_same old number s marked_payload is;
              marked = old_mark at.1 (sym (ap (λ (v : Sent). is_accepted v.text at.1) whole) ∙ b.marked);
            })
        | inr kept ↦ record { payload = b.payload; is = kept; marked = b.marked }
      ]

  marks_more : AreMarkedSo ((number, index) ∷ accepted) (slice_set old number marked_payload)
  marks_more = record { listed = listed_more; marked = marked_more }

-- ---- one more payload

no_mark : (text : SentText) (index : ℕ) → text.accepted ≡ [] → is_accepted text index ≡ true → ⊥
no_mark text index e h = let k = sym (ap (λ l. slice_index_or l index false) e) ∙ h in cc

marks_sent : (accepted : List FramePlace) (old : List Sent) (s : Sent) → s.text.accepted ≡ [] → AreMarkedSo accepted old → AreMarkedSo accepted (old ++ s ∷ [])
marks_sent accepted old s none m = record {
  listed = λ number index t got set. elim (slice_get-push old s number t got) [
    | inl before ↦ m.listed number index t before set
    | inr now ↦ absurd (no_mark t.text index (ap (λ (v : Sent). v.text.accepted) now.1 ∙ none) set)
  ];
  marked = λ at h. let b = m.marked at h in record { payload = b.payload; is = slice_get-append_left old (s ∷ []) at.0 b.payload b.is; marked = b.marked };
}

-- ---- reports

marks_unsettled : (accepted : List FramePlace) (old : List Sent) → AreMarkedSo accepted old → (number : ℕ) (s : Sent) → slice_get old number ≡ Some s → (u : Unsettled) → AreMarkedSo accepted (slice_set old number (record s { unsettled = u }))
marks_unsettled accepted old m number s is u = record {
  listed = λ n index t got set. elim (slice_get-slice_set old number n (record s { unsettled = u }) t got) [
    | inl new ↦ m.listed n index s (ap (slice_get old) new.0 ∙ is) (sym (ap (λ (v : Sent). is_accepted v.text index) new.1) ∙ set)
    | inr there ↦ m.listed n index t there set
  ];
  marked = λ at h.
      let b = m.marked at h in
      elim (slice_set-keeps old number at.0 (record s { unsettled = u }) b.payload b.is) [
        | inl same ↦ (
            let whole : b.payload ≡ s = same_Some b.payload s (sym b.is ∙ ap (slice_get old) same ∙ is) in record {
              payload = record s { unsettled = u };
              is = ap (slice_get (slice_set old number (record s { unsettled = u }))) same ∙ slice_get-set_same old number s (record s { unsettled = u }) is;
              marked = sym (ap (λ (v : Sent). is_accepted v.text at.1) whole) ∙ b.marked;
            })
        | inr kept ↦ record { payload = b.payload; is = kept; marked = b.marked }
      ];
}

-- ---- steps that accept no frame

-- nothing was sent, and nothing accepted
marks_same : (accepted new_accepted : List FramePlace) (old new : List Sent) → new_accepted ≡ accepted → new ≡ old → AreMarkedSo accepted old → AreMarkedSo new_accepted new
marks_same accepted new_accepted old new e k m =
    let P : List FramePlace → Type 0 = λ l. AreMarkedSo l new in
    let Q : List Sent → Type 0 = λ l. AreMarkedSo accepted l in
    subst P (sym e) (subst Q (sym k) m)

pub sent_on_end : {P : EndState → EndState → Type 0} (old : PairState) (who : End) (new : PairState) → OnEnd P old who new → new.sent ≡ old.sent
sent_on_end old who new d = ap (λ (v : PairState). v.sent) d.is ∙ sent-same old who d.end

-- ---- steps on payloads

module _ (p : Past) (old new : PairState) (m : AreMarkedSo p.accepted old.sent) where
  marks_stay : new ≡ old → AreMarkedSo p.accepted new.sent
  marks_stay e = marks_same p.accepted p.accepted old.sent new.sent refl (ap (λ (v : PairState). v.sent) e) m

  marks_emits : {who : End} {most : ℕ} {fair : Bool} {answer : Result (Unit {0}) OutOfMemory} {payload : PayloadView} → EmitsSome old who most fair answer payload new → AreMarkedSo p.accepted new.sent
  marks_emits {who} k =
      marks_same p.accepted p.accepted (old.sent ++ k.sent ∷ []) new.sent refl (ap (λ (v : PairState). v.sent) k.is) (marks_sent p.accepted old.sent k.sent (ap (λ (t : SentText). t.accepted) k.sent_is.text) m)

  marks_emitted : (who : End) (most : ℕ) (fair : Bool) (reply : Answer) → EmittedSome old who most fair reply new → AreMarkedSo p.accepted new.sent
  marks_emitted who most fair (Ok (Payload number bytes)) k = marks_emits k.emits
  marks_emitted who most fair (Err NoMemory) k = elim k [ inl is ↦ marks_stay is | inr t ↦ marks_emits t.emits ]
  marks_emitted who most fair _ k = absurd k

  module _ (number index : ℕ) where
    -- a delivery that was answered Ok marks the frame
    marks_ok : (s : Sent) (is : slice_get old.sent number ≡ Some s) (due : Bool) (text : SentText) → IsMarked s.text index text → new.sent ≡ slice_set old.sent number (record s { text = text })
        → AreMarkedSo (after_deliver p (number, index) (Ok (if due then DoneTransmit else Done))).accepted new.sent
    marks_ok s is true text k e = marks_same ((number, index) ∷ p.accepted) ((number, index) ∷ p.accepted) (slice_set old.sent number (record s { text = text })) new.sent refl e (marks_more p.accepted old.sent m number index s is text k)
    marks_ok s is false text k e = marks_same ((number, index) ∷ p.accepted) ((number, index) ∷ p.accepted) (slice_set old.sent number (record s { text = text })) new.sent refl e (marks_more p.accepted old.sent m number index s is text k)

    -- and no other does
    marks_answered : (s : Sent) (is : slice_get old.sent number ≡ Some s) (answer : Result ShouldTransmit ReceiveError) → SentAfter old.sent number s index answer new.sent → AreMarkedSo (after_deliver p (number, index) (received_reply answer)).accepted new.sent
    marks_answered s is (Ok transmit) k = marks_ok s is transmit.0 k.0 k.1 k.2
    marks_answered s is (Err (receive_error.Transport error)) k = marks_same p.accepted p.accepted old.sent new.sent refl k m
    marks_answered s is (Err receive_error.CompactionMemory) k = marks_same p.accepted p.accepted old.sent new.sent refl k m
    marks_answered s is (Err receive_error.OutOfMemory) k = marks_same p.accepted p.accepted old.sent new.sent refl k m

    marks_handed : (reply : Answer) → HandsOver old number index reply new → AreMarkedSo (after_deliver p (number, index) reply).accepted new.sent
    marks_handed reply k =
        let P : Answer → Type 0 = λ r. AreMarkedSo (after_deliver p (number, index) r).accepted new.sent in
        subst P (sym k.reply_is) (marks_answered k.payload.sent k.payload.is k.answer k.sent)

    marks_delivers : (reply : Answer) → Delivers old number index reply new → AreMarkedSo (after_deliver p (number, index) reply).accepted new.sent
    marks_delivers (Err NoSuchPayload) k = marks_stay k.1
    marks_delivers (Err NoSuchFrame) k = marks_stay k.is
    marks_delivers (Err NoMemory) k = elim k [ inl w ↦ marks_stay w.1 | inr t ↦ marks_handed (Err NoMemory) t ]
    marks_delivers reply k = marks_handed reply k

  -- a report marks no frame
  marks_reports : (number : ℕ) (kind : Report) (At : EndState → SentView → Result (Unit {0}) SentView → EndState → Type 0) (reply : Answer) → Reports kind At old number reply new → AreMarkedSo p.accepted new.sent
  marks_reports number kind At reply k =
      let s = k.payload.sent in
      let u = unsettled_after kind s.unsettled k.answer in
      marks_same p.accepted p.accepted (slice_set old.sent number (record s { unsettled = u })) new.sent refl (sents_are (s.writer) k.end (slice_set old.sent number (record s { unsettled = u })) k.is) (marks_unsettled p.accepted old.sent m number s k.payload.is u)
    where
      sents_are : (who : End) (f : EndState) (sents : List Sent) → new ≡ with_sent (with_end old who f) sents → new.sent ≡ sents
      sents_are A f sents e = ap (λ (v : PairState). v.sent) e
      sents_are B f sents e = ap (λ (v : PairState). v.sent) e

  marks_settles : (number : ℕ) (kind : Report) (At : EndState → SentView → Result (Unit {0}) SentView → EndState → Type 0) (reply : Answer) → SettlesPayload kind At old number reply new → AreMarkedSo (after_report p number kind reply).accepted new.sent
  marks_settles number kind At (Ok Done) k = marks_reports number kind At (Ok Done) k
  marks_settles number kind At (Err NoMemory) k = marks_reports number kind At (Err NoMemory) k
  marks_settles number kind At (Err NoSuchPayload) k = marks_stay k.1
  marks_settles number kind At (Err AlreadySettled) k = marks_stay k.is
  marks_settles number kind At (Err NotAccepted) k = marks_stay k.is
  marks_settles number kind At _ k = absurd k

-- ---- all steps

module _ (p : Past) (old new : PairState) (reply : Answer) (m : AreMarkedSo p.accepted old.sent) where
  marks_on_end : {P : EndState → EndState → Type 0} (who : End) (step : Step) → IsOfNoPayload step → OnEnd P old who new → AreMarkedSo (after p step reply).accepted new.sent
  marks_on_end who step k d = marks_same p.accepted (after p step reply).accepted old.sent new.sent (beside p step reply k).accepted (sent_on_end old who new d) m

  marks-next : (step : Step) → NextOrdinary old step reply new → AreMarkedSo (after p step reply).accepted new.sent
  marks-next (steps.Open who dir) n = marks_on_end who (steps.Open who dir) tt n
  marks-next (steps.Accept who dir) n = marks_on_end who (steps.Accept who dir) tt n
  marks-next (steps.Write who id bytes) n = marks_on_end who (steps.Write who id bytes) tt n
  marks-next (steps.WriteChunks who id chunks) n = marks_on_end who (steps.WriteChunks who id chunks) tt n
  marks-next (steps.Finish who id) n = marks_on_end who (steps.Finish who id) tt n
  marks-next (steps.Reset who id code) n = marks_on_end who (steps.Reset who id code) tt n
  marks-next (steps.Stop who id code) n = marks_on_end who (steps.Stop who id code) tt n
  marks-next (steps.SetPriority who id priority) n = marks_on_end who (steps.SetPriority who id priority) tt n
  marks-next (steps.Read who id ordered most times) n = marks_on_end who (steps.Read who id ordered most times) tt n
  marks-next (steps.ReceivedReset who id) n = marks_on_end who (steps.ReceivedReset who id) tt n
  marks-next (steps.SetSendWindow who window) n = marks_on_end who (steps.SetSendWindow who window) tt n
  marks-next (steps.SetReceiveWindow who window) n = marks_on_end who (steps.SetReceiveWindow who window) tt n
  marks-next (steps.SetMaxConcurrent who dir count) n = marks_on_end who (steps.SetMaxConcurrent who dir count) tt n
  marks-next (steps.Poll who) n = marks_on_end who (steps.Poll who) tt n
  marks-next (steps.Emit who most fair) n = marks_emitted p old new m who most fair reply (emitted-some old new who most fair reply n)
  marks-next (steps.EmitPart who most fair part) n = marks_emitted p old new m who most fair reply (emitted-part old new who most fair part reply n)
  marks-next (steps.Deliver number index) n = marks_delivers p old new m number index reply n
  marks-next (steps.Lose number) n = marks_settles p old new m number Lost LosesPayloadAt reply n
  marks-next (steps.Ack number) n = marks_settles p old new m number Acknowledged AcksPayloadAt reply n
  marks-next _ n = absurd n

-- no frame of payloads that left is marked
marks_gone : (sent : List Sent) → ((number : ℕ) (s : Sent) → slice_get sent number ≡ Some s → IsGone s) → AreMarkedSo [] sent
marks_gone sent gone = record {
  listed = λ number index s got set.
      let g = gone number s got in
      let unmarked : is_accepted s.text index ≡ false = ap (λ (t : SentText). is_accepted t index) g.text ∙ slice_none index in
      let both : true ≡ false = sym set ∙ unmarked in
      cc;
  marked = λ at h. absurd h;
}
  where
    slice_none : (index : ℕ) → slice_index_or [] index false ≡ false
    slice_none zero = refl
    slice_none (suc index) = refl

marks_changed : (b : Origin) (p : Past) (old new : PairState) (step : Step) → Changes b p old new step → AreMarkedSo p.accepted old.sent → AreMarkedSo (after p step (Ok Done)).accepted new.sent
marks_changed b p old new step (accepts c within few) marked = let P : PairState → Type 0 = λ v. AreMarkedSo p.accepted v.sent in subst P (sym c.is) marked
marks_changed b p old new step (retries c m did mine accepted kept) marked =
    let P : PairState → Type 0 = λ v. AreMarkedSo p.accepted v.sent in
    let Q : List FramePlace → Type 0 = λ l. AreMarkedSo l c.sent in
    subst P (sym c.is) (subst Q (sym accepted) (marks_gone c.sent c.left.each))

-- whatever steps led to a pair, its marks are what their replies say
pub marks-from : {a b : Origin} {whole : History} {v : PairState} → EraFrom a b whole v → AreMarkedSo (past_of whole).accepted v.sent
marks-from {a} {b} {whole} {v} (begun n) =
    marks_gone v.sent n.gone
marks-from {a} {b} {whole} {v} (next {h} {old} {new} step reply f n) =
    let P : Past → Type 0 = λ p. AreMarkedSo p.accepted v.sent in
    subst P (sym (past-after h step reply)) (marks-next (past_of h) old v reply (marks-from f) step n)
marks-from {a} {b} {whole} {v} (changed {h} {old} {new} step f c) =
    let P : Past → Type 0 = λ p. AreMarkedSo p.accepted v.sent in
    subst P (sym (past-after h step (Ok Done))) (marks_changed b (past_of h) old v step c (marks-from f))
