-- Payloads are settled, and reports of them begun, as the replies to their reports say.
use Rattle.std.proofs.Common.{◌≡◌, ◌⊎◌, ℕ, Bool, true, false, List, [], ◌∷◌, ◌++◌, length, Option, Some, None, Result, Ok, Err, refl, sym, ap, ◌∙◌, subst, inl, inr, arith, ◌<◌}
use Rattle.std.specs.Prelude.{◌&&◌, ◌==◌, is_some, slice_get, slice_set}
use Rattle.std.specs.Option.{option_map}
use Rattle.std.proofs.lemmas.List.{length-append}
use Rattle.std.proofs.lemmas.Option.{none-some, same_Some}
use Rattle.quic_values.specs.declared.memory.OutOfMemory.{OutOfMemory}
use Rattle.quic_wire.specs.declared.error.ReceiveError.{ReceiveError}
use Rattle.quic_receiving.specs.declared.transmit.ShouldTransmit.{ShouldTransmit}
use Rattle.quic_history.proofs.Traces.{itself}
use Rattle.quic_streams.specs.declared.settling.SentPayload.{SentPayload}
use Rattle.quic_streams.specs.Settling.{SentView}
use Rattle.quic_streams.specs.Sent.{sent_view}
use Rattle.quic_link.specs.Endpoints.{IsOneOf}
use Rattle.quic_endpoint.specs.Ends.{EndState}
use Rattle.quic_endpoint.specs.Emitting.{PayloadView}
use Rattle.quic_endpoint.specs.Reports.{LosesPayloadAt, AcksPayloadAt}
use Rattle.quic_exchange.proofs.Origins.{Origin}
use Rattle.quic_steps.specs.declared.steps.End.{End}
use Rattle.quic_steps.specs.declared.steps.Step.{Step}
use Rattle.quic_steps.specs.declared.steps.Step.TheVariants as steps
use Rattle.quic_steps.specs.declared.steps.Reply.TheVariants.{Done, Payload}
use Rattle.quic_steps.specs.declared.steps.PairError.TheVariants.{NoSuchPayload, NoSuchFrame, NotAccepted, AlreadySettled, OutOfMemory as NoMemory}
use Rattle.quic_exchange.specs.Sent.{Sent, Unsettled}
use Rattle.quic_exchange.specs.declared.unsettled.Report.{Report}
use Rattle.quic_exchange.specs.declared.unsettled.Report.TheVariants.{Lost, Acknowledged}
use Rattle.quic_exchange.specs.Unsettled.{goes_on, may_report, other_report, unsettled_after}
use Rattle.quic_exchange.specs.Replies.{Answer, report_reply}
use Rattle.quic_exchange.specs.State.{PairState, OnEnd}
use Rattle.quic_exchange.specs.Gone.{IsGone}
use Rattle.quic_exchange.specs.Steps.{NextOrdinary, SentAfter, Delivers, Reports, SettlesPayload}
use Rattle.quic_exchange.specs.History.{Past, History, after, after_deliver, after_report, past_of}
use Rattle.quic_exchange.proofs.Eras.{EraFrom, begun, next, changed, Changes, accepts, retries}
use Rattle.quic_exchange.specs.Refused.{IsSettledFor}
use Rattle.quic_exchange.proofs.Emissions.{EmitsSome, EmittedSome, emitted-some, emitted-part}
use Rattle.quic_exchange.proofs.Lists.{slice_get-push, slice_get-slice_set, slice_get-split, slice_get-within, slice_set-length}
use Rattle.quic_exchange.proofs.Marks.{sent_on_end}
use Rattle.quic_exchange.proofs.Beside.{IsOfNoPayload, beside, deliver-settled, deliver-begun}
use Rattle.quic_exchange.proofs.Grown.{past-after}

-- what a caller knows of the reports of one payload is what is kept of it
pub record IsSettledAs (settled : List ℕ) (begun_are : List (ℕ × Report)) (number : ℕ) (s : Sent) : Type 0 where
  pub done : s.gone ≡ false → s.unsettled.rest ≡ None → IsOneOf number settled
  pub known : IsOneOf number settled → s.unsettled.rest ≡ None
  pub started : (kind : Report) → s.unsettled.begun ≡ Some kind → IsOneOf (number, kind) begun_are
  pub noticed : (kind : Report) → IsOneOf (number, kind) begun_are → s.unsettled.begun ≡ Some kind

-- so of each; and no other payload was reported
pub record AreSettledSo (settled : List ℕ) (begun_are : List (ℕ × Report)) (sent : List Sent) : Type 0 where
  pub each : (number : ℕ) (s : Sent) → slice_get sent number ≡ Some s → IsSettledAs settled begun_are number s
  pub settled_sent : (number : ℕ) → IsOneOf number settled → number < length sent
  pub begun_sent : (number : ℕ) (kind : Report) → IsOneOf (number, kind) begun_are → number < length sent

-- ---- what a report is refused for

-- a payload does not take a report: something of these holds
not_open : (kind : Report) (rest : Option SentPayload) (started : Option Report) → (is_some rest && goes_on kind started) ≡ false → (rest ≡ None) ⊎ (started ≡ Some (other_report kind))
not_open kind None started e = inl refl
not_open Lost (Some r) (Some Acknowledged) e = inr refl
not_open Acknowledged (Some r) (Some Lost) e = inr refl
not_open Lost (Some r) (Some Lost) e = cc
not_open Acknowledged (Some r) (Some Acknowledged) e = cc
not_open Lost (Some r) None e = cc
not_open Acknowledged (Some r) None e = cc

open_rest : (kind : Report) (rest : Option SentPayload) (started : Option Report) → (is_some rest && goes_on kind started) ≡ true → rest ≡ None → ⊥
open_rest kind None started e n = cc
open_rest kind (Some r) started e n = cc

open_begun : (kind : Report) (rest : Option SentPayload) (started : Option Report) → (is_some rest && goes_on kind started) ≡ true → started ≡ Some (other_report kind) → ⊥
open_begun kind None started e n = cc
open_begun Lost (Some r) (Some Acknowledged) e n = cc
open_begun Acknowledged (Some r) (Some Lost) e n = cc
open_begun Lost (Some r) (Some Lost) e n = cc
open_begun Acknowledged (Some r) (Some Acknowledged) e n = cc
open_begun kind (Some r) None e n = cc

module _ (p : Past) (sent : List Sent) (k : AreSettledSo p.settled p.begun sent) (number : ℕ) (s : Sent) (is : slice_get sent number ≡ Some s) (here : s.gone ≡ false) (kind : Report) where
  pub settled-for : may_report kind s.unsettled ≡ false → IsSettledFor p number kind
  settled-for e = elim (not_open kind s.unsettled.rest s.unsettled.begun e) [
    | inl none ↦ inl ((k.each number s is).done here none)
    | inr other ↦ inr ((k.each number s is).started (other_report kind) other)
  ]

  pub unsettled-for : may_report kind s.unsettled ≡ true → IsSettledFor p number kind → ⊥
  unsettled-for e (inl h) = open_rest kind s.unsettled.rest s.unsettled.begun e ((k.each number s is).known h)
  unsettled-for e (inr h) = open_begun kind s.unsettled.rest s.unsettled.begun e ((k.each number s is).noticed (other_report kind) h)

-- ---- payloads

settled_as : (settled settled_then : List ℕ) (begun_are begun_then : List (ℕ × Report)) (sent more : List Sent) → settled_then ≡ settled → begun_then ≡ begun_are → more ≡ sent → AreSettledSo settled begun_are sent → AreSettledSo settled_then begun_then more
settled_as settled settled_then begun_are begun_then sent more e d l k =
    let P : List ℕ → Type 0 = λ x. AreSettledSo x begun_then more in
    let Q : List (ℕ × Report) → Type 0 = λ x. AreSettledSo settled x more in
    let R : List Sent → Type 0 = λ x. AreSettledSo settled begun_are x in
    subst P (sym e) (subst Q (sym d) (subst R (sym l) k))

module _ (settled : List ℕ) (begun_are : List (ℕ × Report)) (sent : List Sent) (k : AreSettledSo settled begun_are sent) where
  -- one more was sent, of which nothing was reported
  settled_push : (s : Sent) → s.unsettled.begun ≡ None → (s.unsettled.rest ≡ None → ⊥) → AreSettledSo settled begun_are (sent ++ s ∷ [])
  settled_push s fresh some =
      let longer = length-append sent (s ∷ []) in
      record {
        each = λ n t got. elim (slice_get-push sent s n t got) [
          | inl before ↦ k.each n t before
          | inr now ↦ (
              let here = now.0 in
              record {
                done = λ there none. absurd (some (sym (ap (λ (v : Sent). v.unsettled.rest) now.1) ∙ none));
                known = λ h. let w = k.settled_sent n h in absurd (omega (arith, w, here));
                started = λ kind e. absurd (none-some kind (sym fresh ∙ sym (ap (λ (v : Sent). v.unsettled.begun) now.1) ∙ e));
                noticed = λ kind h. let w = k.begun_sent n kind h in absurd (omega (arith, w, here));
              }
              )
        ];
        settled_sent = λ n h. let w = k.settled_sent n h in omega (arith, w, longer);
        begun_sent = λ n kind h. let w = k.begun_sent n kind h in omega (arith, w, longer);
      }

  module _ (number : ℕ) (s : Sent) (is : slice_get sent number ≡ Some s) where
    other : (n : ℕ) → (n == number) ≡ false → n ≡ number → ⊥
    other n e here = let both : true ≡ false = sym (ap (λ i. i == number) here ∙ itself number) ∙ e in cc

    -- one was marked
    settled_marked : (t : Sent) → t.unsettled ≡ s.unsettled → t.gone ≡ s.gone → AreSettledSo settled begun_are (slice_set sent number t)
    settled_marked t same_one same_gone =
        let size = slice_set-length sent number t in
        record {
          each = λ n v got. elim (slice_get-slice_set sent number n t v got) [
            | inl new ↦ (
                let was = k.each n s (ap (slice_get sent) new.0 ∙ is) in
                let unsettled_is : v.unsettled ≡ s.unsettled = ap (λ (x : Sent). x.unsettled) new.1 ∙ same_one in
                let gone_is : v.gone ≡ s.gone = ap (λ (x : Sent). x.gone) new.1 ∙ same_gone in
                record {
                  done = λ g e. was.done (sym gone_is ∙ g) (sym (ap (λ (u : Unsettled). u.rest) unsettled_is) ∙ e);
                  known = λ h. ap (λ (u : Unsettled). u.rest) unsettled_is ∙ was.known h;
                  started = λ kind e. was.started kind (sym (ap (λ (u : Unsettled). u.begun) unsettled_is) ∙ e);
                  noticed = λ kind h. ap (λ (u : Unsettled). u.begun) unsettled_is ∙ was.noticed kind h;
                }
                )
            | inr there ↦ k.each n v there
          ];
          settled_sent = λ n h. let w = k.settled_sent n h in omega (arith, w, size);
          begun_sent = λ n kind h. let w = k.begun_sent n kind h in omega (arith, w, size);
        }

    -- a report of one was served
    settled_done : (kind : Report) → AreSettledSo (number ∷ settled) begun_are (slice_set sent number (record s { unsettled = unsettled_after kind s.unsettled (Ok tt) }))
    settled_done kind =
        let t : Sent = record s { unsettled = unsettled_after kind s.unsettled (Ok tt) } in
        let size = slice_set-length sent number t in
        let within = slice_get-within sent number s is in
        record {
          each = λ n v got. elim (slice_get-split sent number n s t v is got) [
            | inl new ↦ (
                let was = k.each n s (ap (slice_get sent) new.0 ∙ is) in
                let P : Sent → Type 0 = λ x. IsSettledAs (number ∷ settled) begun_are n x in
                subst P (sym new.1) (record { done = λ g e. inl new.0; known = λ h. refl; started = was.started; noticed = was.noticed })
                )
            | inr there ↦ (
                let was = k.each n v there.1 in
                record {
                  done = λ g e. inr (was.done g e);
                  known = λ h. elim h [ inl e ↦ absurd (other n there.0 e) | inr l ↦ was.known l ];
                  started = was.started;
                  noticed = was.noticed;
                }
                )
          ];
          settled_sent = λ n h. elim h [ inl e ↦ omega (arith, e, within, size) | inr l ↦ (let w = k.settled_sent n l in omega (arith, w, size)) ];
          begun_sent = λ n j h. let w = k.begun_sent n j h in omega (arith, w, size);
        }

    -- one was begun, and goes on
    settled_begun : (kind : Report) (back : SentPayload) → may_report kind s.unsettled ≡ true → AreSettledSo settled ((number, kind) ∷ begun_are) (slice_set sent number (record s { unsettled = unsettled_after kind s.unsettled (Err back) }))
    settled_begun kind back may =
        let t : Sent = record s { unsettled = unsettled_after kind s.unsettled (Err back) } in
        let size = slice_set-length sent number t in
        let within = slice_get-within sent number s is in
        record {
          each = λ n v got. elim (slice_get-split sent number n s t v is got) [
            | inl new ↦ (
                let was = k.each n s (ap (slice_get sent) new.0 ∙ is) in
                let P : Sent → Type 0 = λ x. IsSettledAs settled ((number, kind) ∷ begun_are) n x in
                subst P (sym new.1)
                (record {
                  done = λ g e. absurd (none-some back (sym e));
                  known = λ h. absurd (open_rest kind s.unsettled.rest s.unsettled.begun may (was.known h));
                  started = λ j e. inl (pair_is n j number kind new.0 (sym (same_Some kind j e)));
                  noticed = λ j h. elim h [
                    | inl e ↦ ap Some (sym (ap (λ (x : ℕ × Report). x.1) e))
                    | inr l ↦ ap Some (begun_same kind j s.unsettled.rest s.unsettled.begun may (was.noticed j l))
                  ];
                })
                )
            | inr there ↦ (
                let was = k.each n v there.1 in
                record {
                  done = was.done;
                  known = was.known;
                  started = λ j e. inr (was.started j e);
                  noticed = λ j h. elim h [ inl e ↦ absurd (other n there.0 (ap (λ (x : ℕ × Report). x.0) e)) | inr l ↦ was.noticed j l ];
                }
                )
          ];
          settled_sent = λ n h. let w = k.settled_sent n h in omega (arith, w, size);
          begun_sent = λ n j h. elim h [ inl e ↦ (let here : n ≡ number = ap (λ (x : ℕ × Report). x.0) e in omega (arith, here, within, size)) | inr l ↦ (let w = k.begun_sent n j l in omega (arith, w, size)) ];
        }
      where
        pair_is : (n : ℕ) (j : Report) (m : ℕ) (i : Report) → n ≡ m → j ≡ i → ◌≡◌ {A = ℕ × Report} (n, j) (m, i)
        pair_is n j m i e d = rw (e, d) refl

        begun_same : (i j : Report) (rest : Option SentPayload) (started : Option Report) → (is_some rest && goes_on i started) ≡ true → started ≡ Some j → i ≡ j
        begun_same i j None started e n = cc
        begun_same Lost Lost (Some r) started e n = refl
        begun_same Acknowledged Acknowledged (Some r) started e n = refl
        begun_same Lost Acknowledged (Some r) started e n = absurd (open_begun Lost (Some r) started e n)
        begun_same Acknowledged Lost (Some r) started e n = absurd (open_begun Acknowledged (Some r) started e n)

-- ---- steps

module _ (p : Past) (old new : PairState) (k : AreSettledSo p.settled p.begun old.sent) where
  settled_stay : new ≡ old → AreSettledSo p.settled p.begun new.sent
  settled_stay e = settled_as p.settled p.settled p.begun p.begun old.sent new.sent refl refl (ap (λ (v : PairState). v.sent) e) k

  settled_emits : {who : End} {most : ℕ} {fair : Bool} {answer : Result (Unit {0}) OutOfMemory} {payload : PayloadView} → EmitsSome old who most fair answer payload new → AreSettledSo p.settled p.begun new.sent
  settled_emits {who} {most} {fair} {answer} {payload} e =
      settled_as p.settled p.settled p.begun p.begun (old.sent ++ e.sent ∷ []) new.sent refl refl (ap (λ (v : PairState). v.sent) e.is) (settled_push p.settled p.begun old.sent k e.sent e.sent_is.begun (λ none. none-some payload.sent (sym (ap (option_map sent_view) none) ∙ e.sent_is.rest)))

  settled_emitted : (who : End) (most : ℕ) (fair : Bool) (reply : Answer) → EmittedSome old who most fair reply new → AreSettledSo p.settled p.begun new.sent
  settled_emitted who most fair (Ok (Payload number bytes)) e = settled_emits e.emits
  settled_emitted who most fair (Err NoMemory) e = elim e [ inl is ↦ settled_stay is | inr t ↦ settled_emits t.emits ]
  settled_emitted who most fair _ e = absurd e

  settled_after_frame : (number index : ℕ) (s : Sent) → slice_get old.sent number ≡ Some s → (answer : Result ShouldTransmit ReceiveError) → SentAfter old.sent number s index answer new.sent → AreSettledSo p.settled p.begun new.sent
  settled_after_frame number index s is (Ok transmit) e =
      settled_as p.settled p.settled p.begun p.begun (slice_set old.sent number (record s { text = e.0 })) new.sent refl refl e.2 (settled_marked p.settled p.begun old.sent k number s is (record s { text = e.0 }) refl refl)
  settled_after_frame number index s is (Err error) e = settled_as p.settled p.settled p.begun p.begun old.sent new.sent refl refl e k

  settled_delivered : (number index : ℕ) (reply : Answer) → Delivers old number index reply new → AreSettledSo p.settled p.begun new.sent
  settled_delivered number index (Err NoSuchPayload) e = settled_stay e.1
  settled_delivered number index (Err NoSuchFrame) e = settled_stay e.is
  settled_delivered number index (Err NoMemory) e = elim e [ inl w ↦ settled_stay w.1 | inr t ↦ settled_after_frame number index t.payload.sent t.payload.is t.answer t.sent ]
  settled_delivered number index reply e = settled_after_frame number index e.payload.sent e.payload.is e.answer e.sent

  settled_delivers : (number index : ℕ) (reply : Answer) → Delivers old number index reply new → AreSettledSo (after_deliver p (number, index) reply).settled (after_deliver p (number, index) reply).begun new.sent
  settled_delivers number index reply e = settled_as p.settled _ p.begun _ new.sent new.sent (deliver-settled p (number, index) reply) (deliver-begun p (number, index) reply) refl (settled_delivered number index reply e)

  module _ (number : ℕ) (kind : Report) (At : EndState → SentView → Result (Unit {0}) SentView → EndState → Type 0) where
    settled_answered : (s : Sent) → slice_get old.sent number ≡ Some s → may_report kind s.unsettled ≡ true → (answer : Result (Unit {0}) SentPayload) → new.sent ≡ slice_set old.sent number (record s { unsettled = unsettled_after kind s.unsettled answer })
        → AreSettledSo (after_report p number kind (report_reply answer)).settled (after_report p number kind (report_reply answer)).begun new.sent
    settled_answered s is may (Ok tt) e = settled_as (number ∷ p.settled) (number ∷ p.settled) p.begun p.begun (slice_set old.sent number (record s { unsettled = unsettled_after kind s.unsettled (Ok tt) })) new.sent refl refl e (settled_done p.settled p.begun old.sent k number s is kind)
    settled_answered s is may (Err back) e =
        settled_as p.settled p.settled ((number, kind) ∷ p.begun) ((number, kind) ∷ p.begun) (slice_set old.sent number (record s { unsettled = unsettled_after kind s.unsettled (Err back) })) new.sent refl refl e (settled_begun p.settled p.begun old.sent k number s is kind back may)

    settled_reported : (reply : Answer) → Reports kind At old number reply new → AreSettledSo (after_report p number kind reply).settled (after_report p number kind reply).begun new.sent
    settled_reported reply e =
        let P : Answer → Type 0 = λ r. AreSettledSo (after_report p number kind r).settled (after_report p number kind r).begun new.sent in
        subst P (sym e.reply_is) (settled_answered e.payload.sent e.payload.is e.may e.answer (ap (λ (v : PairState). v.sent) e.is))

    settled_settles : (reply : Answer) → SettlesPayload kind At old number reply new → AreSettledSo (after_report p number kind reply).settled (after_report p number kind reply).begun new.sent
    settled_settles (Ok Done) e = settled_reported (Ok Done) e
    settled_settles (Err NoMemory) e = settled_reported (Err NoMemory) e
    settled_settles (Err NoSuchPayload) e = settled_stay e.1
    settled_settles (Err AlreadySettled) e = settled_stay e.is
    settled_settles (Err NotAccepted) e = settled_stay e.is
    settled_settles _ e = absurd e

module _ (p : Past) (old new : PairState) (reply : Answer) (k : AreSettledSo p.settled p.begun old.sent) where
  settled_end : {P : EndState → EndState → Type 0} (who : End) (step : Step) → IsOfNoPayload step → OnEnd P old who new → AreSettledSo (after p step reply).settled (after p step reply).begun new.sent
  settled_end who step j d =
      let b = beside p step reply j in
      settled_as p.settled (after p step reply).settled p.begun (after p step reply).begun old.sent new.sent b.settled b.begun (sent_on_end old who new d) k

  settled_next : (step : Step) → NextOrdinary old step reply new → AreSettledSo (after p step reply).settled (after p step reply).begun new.sent
  settled_next (steps.Open who dir) n = settled_end who (steps.Open who dir) tt n
  settled_next (steps.Accept who dir) n = settled_end who (steps.Accept who dir) tt n
  settled_next (steps.Write who id bytes) n = settled_end who (steps.Write who id bytes) tt n
  settled_next (steps.WriteChunks who id chunks) n = settled_end who (steps.WriteChunks who id chunks) tt n
  settled_next (steps.Finish who id) n = settled_end who (steps.Finish who id) tt n
  settled_next (steps.Reset who id code) n = settled_end who (steps.Reset who id code) tt n
  settled_next (steps.Stop who id code) n = settled_end who (steps.Stop who id code) tt n
  settled_next (steps.SetPriority who id priority) n = settled_end who (steps.SetPriority who id priority) tt n
  settled_next (steps.Read who id ordered most times) n = settled_end who (steps.Read who id ordered most times) tt n
  settled_next (steps.ReceivedReset who id) n = settled_end who (steps.ReceivedReset who id) tt n
  settled_next (steps.SetSendWindow who window) n = settled_end who (steps.SetSendWindow who window) tt n
  settled_next (steps.SetReceiveWindow who window) n = settled_end who (steps.SetReceiveWindow who window) tt n
  settled_next (steps.SetMaxConcurrent who dir count) n = settled_end who (steps.SetMaxConcurrent who dir count) tt n
  settled_next (steps.Poll who) n = settled_end who (steps.Poll who) tt n
  settled_next (steps.Emit who most fair) n = settled_emitted p old new k who most fair reply (emitted-some old new who most fair reply n)
  settled_next (steps.EmitPart who most fair part) n = settled_emitted p old new k who most fair reply (emitted-part old new who most fair part reply n)
  settled_next (steps.Deliver number index) n = settled_delivers p old new k number index reply n
  settled_next (steps.Lose number) n = settled_settles p old new k number Lost LosesPayloadAt reply n
  settled_next (steps.Ack number) n = settled_settles p old new k number Acknowledged AcksPayloadAt reply n
  settled_next _ n = absurd n

-- nothing was reported of payloads that left
settled_gone : (sent : List Sent) → ((number : ℕ) (s : Sent) → slice_get sent number ≡ Some s → IsGone s) → AreSettledSo [] [] sent
settled_gone sent gone = record {
  each = λ number s got.
      let g = gone number s got in
      record {
        done = λ here e. let both : true ≡ false = sym g.gone ∙ here in cc;
        known = λ h. absurd h;
        started = λ kind e. absurd (none-some kind (sym g.begun ∙ e));
        noticed = λ kind h. absurd h;
      };
  settled_sent = λ number h. absurd h;
  begun_sent = λ number kind h. absurd h;
}

settled_changed : (b : Origin) (p : Past) (old new : PairState) (step : Step) → Changes b p old new step → AreSettledSo p.settled p.begun old.sent → AreSettledSo (after p step (Ok Done)).settled (after p step (Ok Done)).begun new.sent
settled_changed b p old new step (accepts c within few) k = settled_as p.settled p.settled p.begun p.begun old.sent new.sent refl refl (ap (λ (v : PairState). v.sent) c.is) k
settled_changed b p old new step (retries c m did mine accepted kept) k = settled_as [] [] [] [] c.sent new.sent refl refl (ap (λ (v : PairState). v.sent) c.is) (settled_gone c.sent c.left.each)

-- whatever steps led to a pair, its payloads are settled as their replies say
pub settled-from : {a b : Origin} {whole : History} {v : PairState} → EraFrom a b whole v → AreSettledSo (past_of whole).settled (past_of whole).begun v.sent
settled-from {a} {b} {whole} {v} (begun n) =
    settled_gone v.sent n.gone
settled-from {a} {b} {whole} {v} (next {h} {old} {new} step reply f n) =
    let P : Past → Type 0 = λ p. AreSettledSo p.settled p.begun v.sent in
    subst P (sym (past-after h step reply)) (settled_next (past_of h) old v reply (settled-from f) step n)
settled-from {a} {b} {whole} {v} (changed {h} {old} {new} step f c) =
    let P : Past → Type 0 = λ p. AreSettledSo p.settled p.begun v.sent in
    subst P (sym (past-after h step (Ok Done))) (settled_changed b (past_of h) old v step c (settled-from f))
