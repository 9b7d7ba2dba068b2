-- While it is not decided whether a server takes what a client sends early, the steps that are taken do not read the server.
use Rattle.std.proofs.Common.{◌≡◌, ℕ, Bool, true, false, zero, suc, List, [], ◌∷◌, Option, Some, None, Result, Ok, Err, refl, sym, ap, ◌∙◌, subst, inl, inr}
use Rattle.std.proofs.lemmas.Option.{none-some, same_Some}
use Rattle.std.specs.Prelude.{◌||◌, slice_get, slice_set}
use Rattle.quic_retransmits.specs.Pending.{Pending, merged_if, thin_view}
use Rattle.quic_retransmits.specs.Settling.{noted_in}
use Rattle.quic_streams.specs.declared.settling.SentPayload.{SentPayload}
use Rattle.quic_streams.specs.Settling.{SentView}
use Rattle.quic_streams.specs.Sent.{sent_view, report_view}
use Rattle.quic_values.specs.declared.memory.OutOfMemory.{OutOfMemory}
use Rattle.quic_endpoint.specs.Ends.{EndState}
use Rattle.quic_endpoint.specs.Emitting.{PayloadView}
use Rattle.quic_endpoint.specs.Reports.{LosesPayloadAt, AcksPayloadAt}
use Rattle.quic_steps.specs.declared.steps.End.{End}
use Rattle.quic_steps.specs.declared.steps.End.TheVariants.{A, B}
use Rattle.quic_steps.specs.declared.steps.Step.{Step}
use Rattle.quic_steps.specs.declared.steps.Step.TheVariants as steps
use Rattle.quic_steps.specs.declared.steps.Reply.TheVariants.{Done, Payload}
use Rattle.quic_steps.specs.declared.steps.PairError.TheVariants.{NoSuchPayload, NoSuchFrame, NotAccepted, AlreadySettled, Undecided, OutOfMemory as NoMemory}
use Rattle.quic_exchange.specs.Sent.{Sent}
use Rattle.quic_exchange.specs.declared.early.EarlyLimits.{EarlyLimits}
use Rattle.quic_exchange.specs.declared.unsettled.Report.{Report}
use Rattle.quic_exchange.specs.declared.unsettled.Report.TheVariants.{Lost, Acknowledged}
use Rattle.quic_exchange.specs.Unsettled.{unsettled_after}
use Rattle.quic_exchange.specs.Parts.{EmitsPartAt}
use Rattle.quic_exchange.specs.Replies.{Answer}
use Rattle.quic_exchange.specs.State.{PairState, peer, the_end, with_end, with_sent, OnEnd}
use Rattle.quic_exchange.specs.Steps.{Emitted, EmittedBy, Delivers, HandsOver, Reports, SettlesPayload, NextOrdinary, is_server, needs_decision}
use Rattle.quic_exchange.specs.History.{Past, after, after_report, waits_then}
use Rattle.quic_exchange.specs.Tale.{Tales, StepTells}
use Rattle.quic_exchange.specs.Due.{AsksFor, AsksAllOf, AsksAgain, AsksStreams, OnWriter}
use Rattle.quic_exchange.specs.Gone.{with_noted, with_all_noted, noted_at}
use Rattle.quic_exchange.proofs.Emissions.{EmittedSome, emitted-some, emitted-part}
use Rattle.quic_exchange.proofs.Beside.{IsBeside, beside}
use Rattle.quic_exchange.proofs.DuePayloads.{asks-all-of}
use Rattle.quic_exchange.proofs.Lists.{one-of-first}
use Rattle.quic_exchange.proofs.OwnDoings.{AreUntaken, untaken-here}

-- ---- what is to be decided

waits_end : (v : PairState) (who : End) (e : EndState) → (with_end v who e).waits ≡ v.waits
waits_end v A e = refl
waits_end v B e = refl

waits_sent : (v : PairState) (who : End) (e : EndState) (sent : List Sent) → (with_sent (with_end v who e) sent).waits ≡ v.waits
waits_sent v A e sent = refl
waits_sent v B e sent = refl

module _ (old new : PairState) where
  waits_same : new ≡ old → new.waits ≡ old.waits
  waits_same is = ap (λ (v : PairState). v.waits) is

  waits_on : {P : EndState → EndState → Type 0} (who : End) → OnEnd P old who new → new.waits ≡ old.waits
  waits_on who d = ap (λ (v : PairState). v.waits) d.is ∙ waits_end old who d.end

  waits_with : (who : End) (e : EndState) (sent : List Sent) → new ≡ with_sent (with_end old who e) sent → new.waits ≡ old.waits
  waits_with who e sent is = ap (λ (v : PairState). v.waits) is ∙ waits_sent old who e sent

  waits_emitted : (who : End) (most : ℕ) (fair : Bool) (reply : Answer) → EmittedSome old who most fair reply new → new.waits ≡ old.waits
  waits_emitted who most fair (Ok (Payload number bytes)) k = waits_with who k.emits.end _ k.emits.is
  waits_emitted who most fair (Err NoMemory) k = elim k [
    | inl same ↦ waits_same same
    | inr t ↦ waits_with who t.emits.end _ t.emits.is
  ]
  waits_emitted who most fair _ k = absurd k

  waits_handed : (number index : ℕ) (reply : Answer) → HandsOver old number index reply new → new.waits ≡ old.waits
  waits_handed number index reply k = waits_with (peer k.payload.sent.writer) k.end new.sent k.is

  waits_delivered : (number index : ℕ) (reply : Answer) → Delivers old number index reply new → new.waits ≡ old.waits
  waits_delivered number index (Err NoSuchPayload) k = waits_same k.1
  waits_delivered number index (Err NoSuchFrame) k = waits_same k.is
  waits_delivered number index (Err NoMemory) k = elim k [
    | inl same ↦ waits_same same.1
    | inr t ↦ waits_handed number index (Err NoMemory) t
  ]
  waits_delivered number index reply k = waits_handed number index reply k

  module _ (kind : Report) (At : EndState → SentView → Result (Unit {0}) SentView → EndState → Type 0) (number : ℕ) where
    waits_reported : (reply : Answer) → Reports kind At old number reply new → new.waits ≡ old.waits
    waits_reported reply k = waits_with k.payload.sent.writer k.end _ k.is

    waits_settled : (reply : Answer) → SettlesPayload kind At old number reply new → new.waits ≡ old.waits
    waits_settled (Ok Done) k = waits_reported (Ok Done) k
    waits_settled (Err NoMemory) k = waits_reported (Err NoMemory) k
    waits_settled (Err NoSuchPayload) k = waits_same k.1
    waits_settled (Err AlreadySettled) k = waits_same k.is
    waits_settled (Err NotAccepted) k = waits_same k.is
    waits_settled _ k = absurd k

-- a step that says nothing of it leaves it so
pub waits-stay : (old new : PairState) (step : Step) (reply : Answer) → NextOrdinary old step reply new → new.waits ≡ old.waits
waits-stay old new (steps.Open who dir) reply n = waits_on old new who n
waits-stay old new (steps.Accept who dir) reply n = waits_on old new who n
waits-stay old new (steps.Write who id bytes) reply n = waits_on old new who n
waits-stay old new (steps.WriteChunks who id chunks) reply n = waits_on old new who n
waits-stay old new (steps.Finish who id) reply n = waits_on old new who n
waits-stay old new (steps.Reset who id code) reply n = waits_on old new who n
waits-stay old new (steps.Stop who id code) reply n = waits_on old new who n
waits-stay old new (steps.SetPriority who id priority) reply n = waits_on old new who n
waits-stay old new (steps.Read who id ordered most times) reply n = waits_on old new who n
waits-stay old new (steps.ReceivedReset who id) reply n = waits_on old new who n
waits-stay old new (steps.SetSendWindow who window) reply n = waits_on old new who n
waits-stay old new (steps.SetReceiveWindow who window) reply n = waits_on old new who n
waits-stay old new (steps.SetMaxConcurrent who dir count) reply n = waits_on old new who n
waits-stay old new (steps.Poll who) reply n = waits_on old new who n
waits-stay old new (steps.Emit who most fair) reply n = waits_emitted old new who most fair reply (emitted-some old new who most fair reply n)
waits-stay old new (steps.EmitPart who most fair part) reply n = waits_emitted old new who most fair reply (emitted-part old new who most fair part reply n)
waits-stay old new (steps.Deliver number index) reply n = waits_delivered old new number index reply n
waits-stay old new (steps.Lose number) reply n = waits_settled old new Lost LosesPayloadAt number reply n
waits-stay old new (steps.Ack number) reply n = waits_settled old new Acknowledged AcksPayloadAt number reply n
waits-stay old new _ reply n = absurd n

-- ---- the same beside another server

abbrev beside_end : PairState → EndState → PairState
beside_end v e = record v { b = e }

-- what is so of the client
by_client : (P : End → Type 0) (who : End) → is_server who ≡ false → P A → P who
by_client P A e p = p
by_client P B e p = cc

module _ (old new : PairState) (e : EndState) where
  abbrev before : PairState
  before = beside_end old e

  abbrev behind : PairState
  behind = beside_end new e

  same_beside : new ≡ old → behind ≡ before
  same_beside is = ap (λ v. beside_end v e) is

  end_beside : (P : EndState → EndState → Type 0) → OnEnd P old A new → OnEnd P before A behind
  end_beside P d = record { end = d.end; does = d.does; is = ap (λ v. beside_end v e) d.is }

  emits_beside : (most : ℕ) (fair : Bool) (reply : Answer) → Emitted old A most fair reply new → Emitted before A most fair reply behind
  emits_beside most fair (Ok (Payload number bytes)) k =
      let i = k.emits in
      record { payload = k.payload; emits = record { end = i.end; emits = i.emits; sent = i.sent; sent_is = i.sent_is; is = ap (λ v. beside_end v e) i.is }; number_is = k.number_is; bytes_are = k.bytes_are }
  emits_beside most fair (Err NoMemory) k = elim k [
    | inl same ↦ inl (same_beside same)
    | inr t ↦ (let i = t.emits in inr (record { answer = t.answer; payload = t.payload; emits = record { end = i.end; emits = i.emits; sent = i.sent; sent_is = i.sent_is; is = ap (λ v. beside_end v e) i.is } }))
  ]
  emits_beside most fair _ k = absurd k

  emitted_by_beside : (At : EndState → PayloadView → Result (Unit {0}) OutOfMemory → EndState → Type 0) (reply : Answer) → EmittedBy At old A reply new → EmittedBy At before A reply behind
  emitted_by_beside At (Ok (Payload number bytes)) k =
      let i = k.emits in
      record { payload = k.payload; emits = record { end = i.end; emits = i.emits; sent = i.sent; sent_is = i.sent_is; is = ap (λ v. beside_end v e) i.is }; number_is = k.number_is; bytes_are = k.bytes_are }
  emitted_by_beside At (Err NoMemory) k = elim k [
    | inl same ↦ inl (same_beside same)
    | inr t ↦ (let i = t.emits in inr (record { answer = t.answer; payload = t.payload; emits = record { end = i.end; emits = i.emits; sent = i.sent; sent_is = i.sent_is; is = ap (λ v. beside_end v e) i.is } }))
  ]
  emitted_by_beside At _ k = absurd k

  module _ (untaken : AreUntaken old.sent) (kind : Report) (At : EndState → SentView → Result (Unit {0}) SentView → EndState → Type 0) (number : ℕ) where
    reports_beside : (reply : Answer) → Reports kind At old number reply new → Reports kind At before number reply behind
    reports_beside reply k =
        let s = k.payload.sent in
        let mine = untaken-here s k.payload.here (untaken number s k.payload.is) in
        let row = (record s { unsettled = unsettled_after kind s.unsettled k.answer }) in
        let P : End → Type 0 = λ w. At (the_end old w) (sent_view k.rest) (report_view k.answer) k.end in
        let Q : End → Type 0 = λ w. At (the_end before w) (sent_view k.rest) (report_view k.answer) k.end in
        let R : End → Type 0 = λ w. beside_end (with_sent (with_end old w k.end) (slice_set old.sent number row)) e ≡ with_sent (with_end before w k.end) (slice_set old.sent number row) in
        let at_client : R A = refl in
        record {
          payload = record { sent = k.payload.sent; is = k.payload.is; here = k.payload.here };
          may = k.may;
          serves = k.serves;
          rest = k.rest;
          rest_is = k.rest_is;
          answer = k.answer;
          end = k.end;
          does = subst Q (sym mine.writer) (subst P mine.writer k.does);
          reply_is = k.reply_is;
          is = ap (λ v. beside_end v e) k.is ∙ subst R (sym mine.writer) at_client;
        }

    settles_beside : (reply : Answer) → SettlesPayload kind At old number reply new → SettlesPayload kind At before number reply behind
    settles_beside (Ok Done) k = reports_beside (Ok Done) k
    settles_beside (Err NoMemory) k = reports_beside (Err NoMemory) k
    settles_beside (Err NoSuchPayload) k = (k.0, same_beside k.1)
    settles_beside (Err AlreadySettled) k = record { payload = record { sent = k.payload.sent; is = k.payload.is; here = k.payload.here }; why = k.why; is = same_beside k.is }
    settles_beside (Err NotAccepted) k = record { payload = record { sent = k.payload.sent; is = k.payload.is; here = k.payload.here }; why = k.why; is = same_beside k.is }
    settles_beside _ k = absurd k

-- what a step does that is taken, it does beside any server
pub linked-next : (old new : PairState) (e : EndState) → AreUntaken old.sent → (step : Step) (reply : Answer) → needs_decision step ≡ false → NextOrdinary old step reply new → NextOrdinary (record old { b = e }) step reply (record new { b = e })
linked-next old new e u (steps.Open who dir) reply by n = by_client (λ w. NextOrdinary old (steps.Open w dir) reply new → NextOrdinary (beside_end old e) (steps.Open w dir) reply (beside_end new e)) who by (λ d. end_beside old new e _ d) n
linked-next old new e u (steps.Accept who dir) reply by n = by_client (λ w. NextOrdinary old (steps.Accept w dir) reply new → NextOrdinary (beside_end old e) (steps.Accept w dir) reply (beside_end new e)) who by (λ d. end_beside old new e _ d) n
linked-next old new e u (steps.Write who id bytes) reply by n = by_client (λ w. NextOrdinary old (steps.Write w id bytes) reply new → NextOrdinary (beside_end old e) (steps.Write w id bytes) reply (beside_end new e)) who by (λ d. end_beside old new e _ d) n
linked-next old new e u (steps.WriteChunks who id chunks) reply by n = by_client (λ w. NextOrdinary old (steps.WriteChunks w id chunks) reply new → NextOrdinary (beside_end old e) (steps.WriteChunks w id chunks) reply (beside_end new e)) who by (λ d. end_beside old new e _ d) n
linked-next old new e u (steps.Finish who id) reply by n = by_client (λ w. NextOrdinary old (steps.Finish w id) reply new → NextOrdinary (beside_end old e) (steps.Finish w id) reply (beside_end new e)) who by (λ d. end_beside old new e _ d) n
linked-next old new e u (steps.Reset who id code) reply by n = by_client (λ w. NextOrdinary old (steps.Reset w id code) reply new → NextOrdinary (beside_end old e) (steps.Reset w id code) reply (beside_end new e)) who by (λ d. end_beside old new e _ d) n
linked-next old new e u (steps.Stop who id code) reply by n = by_client (λ w. NextOrdinary old (steps.Stop w id code) reply new → NextOrdinary (beside_end old e) (steps.Stop w id code) reply (beside_end new e)) who by (λ d. end_beside old new e _ d) n
linked-next old new e u (steps.SetPriority who id priority) reply by n = by_client (λ w. NextOrdinary old (steps.SetPriority w id priority) reply new → NextOrdinary (beside_end old e) (steps.SetPriority w id priority) reply (beside_end new e)) who by (λ d. end_beside old new e _ d) n
linked-next old new e u (steps.Read who id ordered most times) reply by n = by_client (λ w. NextOrdinary old (steps.Read w id ordered most times) reply new → NextOrdinary (beside_end old e) (steps.Read w id ordered most times) reply (beside_end new e)) who by (λ d. end_beside old new e _ d) n
linked-next old new e u (steps.ReceivedReset who id) reply by n = by_client (λ w. NextOrdinary old (steps.ReceivedReset w id) reply new → NextOrdinary (beside_end old e) (steps.ReceivedReset w id) reply (beside_end new e)) who by (λ d. end_beside old new e _ d) n
linked-next old new e u (steps.SetSendWindow who window) reply by n = by_client (λ w. NextOrdinary old (steps.SetSendWindow w window) reply new → NextOrdinary (beside_end old e) (steps.SetSendWindow w window) reply (beside_end new e)) who by (λ d. end_beside old new e _ d) n
linked-next old new e u (steps.SetReceiveWindow who window) reply by n = by_client (λ w. NextOrdinary old (steps.SetReceiveWindow w window) reply new → NextOrdinary (beside_end old e) (steps.SetReceiveWindow w window) reply (beside_end new e)) who by (λ d. end_beside old new e _ d) n
linked-next old new e u (steps.SetMaxConcurrent who dir count) reply by n = by_client (λ w. NextOrdinary old (steps.SetMaxConcurrent w dir count) reply new → NextOrdinary (beside_end old e) (steps.SetMaxConcurrent w dir count) reply (beside_end new e)) who by (λ d. end_beside old new e _ d) n
linked-next old new e u (steps.Poll who) reply by n = by_client (λ w. NextOrdinary old (steps.Poll w) reply new → NextOrdinary (beside_end old e) (steps.Poll w) reply (beside_end new e)) who by (λ d. end_beside old new e _ d) n
linked-next old new e u (steps.Emit who most fair) reply by n = by_client (λ w. NextOrdinary old (steps.Emit w most fair) reply new → NextOrdinary (beside_end old e) (steps.Emit w most fair) reply (beside_end new e)) who by (λ d. emits_beside old new e most fair reply d) n
linked-next old new e u (steps.EmitPart who most fair part) reply by n = by_client (λ w. NextOrdinary old (steps.EmitPart w most fair part) reply new → NextOrdinary (beside_end old e) (steps.EmitPart w most fair part) reply (beside_end new e)) who by (λ d. emitted_by_beside old new e (EmitsPartAt part most fair) reply d) n
linked-next old new e u (steps.Deliver number index) reply by n = cc
linked-next old new e u (steps.Lose number) reply by n = settles_beside old new e u Lost LosesPayloadAt number reply n
linked-next old new e u (steps.Ack number) reply by n = settles_beside old new e u Acknowledged AcksPayloadAt number reply n
linked-next old new e u _ reply by n = absurd n

-- ---- what is known

quiet_report : (p : Past) (number : ℕ) (kind : Report) (reply : Answer) → ((after_report p number kind reply).accepted ≡ p.accepted) × ((after_report p number kind reply).kept ≡ p.kept)
quiet_report p number kind (Ok Done) = (refl, refl)
quiet_report p number kind (Err NoMemory) = (refl, refl)
quiet_report p number kind _ = (refl, refl)

quiet_beside : (p q : Past) → IsBeside p q → (q.accepted ≡ p.accepted) × (q.kept ≡ p.kept)
quiet_beside p q b = (b.accepted, b.kept)

-- nothing is delivered
pub quiet-next : (p : Past) (old new : PairState) (step : Step) (reply : Answer) → needs_decision step ≡ false → NextOrdinary old step reply new → ((after p step reply).accepted ≡ p.accepted) × ((after p step reply).kept ≡ p.kept)
quiet-next p old new (steps.Open who dir) reply by n = quiet_beside p _ (beside p (steps.Open who dir) reply tt)
quiet-next p old new (steps.Accept who dir) reply by n = quiet_beside p _ (beside p (steps.Accept who dir) reply tt)
quiet-next p old new (steps.Write who id bytes) reply by n = quiet_beside p _ (beside p (steps.Write who id bytes) reply tt)
quiet-next p old new (steps.WriteChunks who id chunks) reply by n = quiet_beside p _ (beside p (steps.WriteChunks who id chunks) reply tt)
quiet-next p old new (steps.Finish who id) reply by n = quiet_beside p _ (beside p (steps.Finish who id) reply tt)
quiet-next p old new (steps.Reset who id code) reply by n = quiet_beside p _ (beside p (steps.Reset who id code) reply tt)
quiet-next p old new (steps.Stop who id code) reply by n = quiet_beside p _ (beside p (steps.Stop who id code) reply tt)
quiet-next p old new (steps.Read who id ordered most times) reply by n = quiet_beside p _ (beside p (steps.Read who id ordered most times) reply tt)
quiet-next p old new (steps.ReceivedReset who id) reply by n = quiet_beside p _ (beside p (steps.ReceivedReset who id) reply tt)
quiet-next p old new (steps.Poll who) reply by n = quiet_beside p _ (beside p (steps.Poll who) reply tt)
quiet-next p old new (steps.Deliver number index) reply by n = cc
quiet-next p old new (steps.Lose number) reply by n = quiet_report p number Lost reply
quiet-next p old new (steps.Ack number) reply by n = quiet_report p number Acknowledged reply
quiet-next p old new steps.EarlyReject reply by n = absurd n
quiet-next p old new steps.Retry reply by n = absurd n
quiet-next p old new _ reply by n = (refl, refl)

-- ---- what is asked for

on_writer : (old new : PairState) (e : EndState) → AreUntaken old.sent → (number : ℕ) (Holds : Sent → EndState → Type 0) (reply : Answer) → OnWriter (beside_end old e) number (λ s. Holds s (the_end (beside_end new e) s.writer)) reply → OnWriter old number (λ s. Holds s (the_end new s.writer)) reply
on_writer old new e untaken number Holds (Ok reply) a = λ payload.
    let s = payload.sent in
    let mine = untaken-here s payload.here (untaken number s payload.is) in
    let P : End → Type 0 = λ w. Holds s (the_end (beside_end new e) w) in
    let Q : End → Type 0 = λ w. Holds s (the_end new w) in
    let k : P s.writer = a (record { sent = s; is = payload.is; here = payload.here }) in
    subst Q (sym mine.writer) (subst P mine.writer k)
on_writer old new e untaken number Holds (Err error) a = tt

pub asks-beneath : (old new : PairState) (e : EndState) → AreUntaken old.sent → (step : Step) (reply : Answer) → needs_decision step ≡ false → NextOrdinary old step reply new → AsksFor (record old { b = e }) step reply (record new { b = e }) → AsksFor old step reply new
asks-beneath old new e u (steps.Open who dir) reply by n a = by_client (λ w. AsksFor (beside_end old e) (steps.Open w dir) reply (beside_end new e) → AsksFor old (steps.Open w dir) reply new) who by (λ k. k) a
asks-beneath old new e u (steps.Write who id bytes) reply by n a = by_client (λ w. AsksFor (beside_end old e) (steps.Write w id bytes) reply (beside_end new e) → AsksFor old (steps.Write w id bytes) reply new) who by (λ k. k) a
asks-beneath old new e u (steps.WriteChunks who id chunks) reply by n a = by_client (λ w. AsksFor (beside_end old e) (steps.WriteChunks w id chunks) reply (beside_end new e) → AsksFor old (steps.WriteChunks w id chunks) reply new) who by (λ k. k) a
asks-beneath old new e u (steps.Reset who id code) reply by n a = by_client (λ w. AsksFor (beside_end old e) (steps.Reset w id code) reply (beside_end new e) → AsksFor old (steps.Reset w id code) reply new) who by (λ k. k) a
asks-beneath old new e u (steps.Stop who id code) reply by n a = by_client (λ w. AsksFor (beside_end old e) (steps.Stop w id code) reply (beside_end new e) → AsksFor old (steps.Stop w id code) reply new) who by (λ k. k) a
asks-beneath old new e u (steps.Read who id ordered most times) reply by n a = by_client (λ w. AsksFor (beside_end old e) (steps.Read w id ordered most times) reply (beside_end new e) → AsksFor old (steps.Read w id ordered most times) reply new) who by (λ k. k) a
asks-beneath old new e u (steps.ReceivedReset who id) reply by n a = by_client (λ w. AsksFor (beside_end old e) (steps.ReceivedReset w id) reply (beside_end new e) → AsksFor old (steps.ReceivedReset w id) reply new) who by (λ k. k) a
asks-beneath old new e u (steps.SetReceiveWindow who window) reply by n a = by_client (λ w. AsksFor (beside_end old e) (steps.SetReceiveWindow w window) reply (beside_end new e) → AsksFor old (steps.SetReceiveWindow w window) reply new) who by (λ k. k) a
asks-beneath old new e u (steps.SetMaxConcurrent who dir count) reply by n a = by_client (λ w. AsksFor (beside_end old e) (steps.SetMaxConcurrent w dir count) reply (beside_end new e) → AsksFor old (steps.SetMaxConcurrent w dir count) reply new) who by (λ k. k) a
asks-beneath old new e u (steps.Emit who most fair) reply by n a = by_client (λ w. AsksFor (beside_end old e) (steps.Emit w most fair) reply (beside_end new e) → AsksFor old (steps.Emit w most fair) reply new) who by (λ k. k) a
asks-beneath old new e u (steps.EmitPart who most fair part) reply by n a = by_client (λ w. AsksFor (beside_end old e) (steps.EmitPart w most fair part) reply (beside_end new e) → AsksFor old (steps.EmitPart w most fair part) reply new) who by (λ k. k) a
asks-beneath old new e u (steps.Deliver number index) reply by n a = cc
asks-beneath old new e u (steps.Lose number) reply by n a = on_writer old new e u number (λ s f. AsksAgain s.text.bytes f) reply a
asks-beneath old new e u (steps.Ack number) reply by n a = on_writer old new e u number (λ s f. AsksStreams f) reply a
asks-beneath old new e u steps.Retry reply by n a = absurd n
asks-beneath old new e u _ reply by n a = tt

-- ---- a step that has to wait

pub after-undecided : (p : Past) (step : Step) → after p step (Err Undecided) ≡ p
after-undecided p (steps.Open who dir) = refl
after-undecided p _ = refl

pub tells-undecided : (old : List Sent) (step : Step) (t : Tales) → StepTells old old step (Err Undecided) t t
tells-undecided old (steps.Emit who most fair) t = inl (refl, refl)
tells-undecided old (steps.EmitPart who most fair part) t = inl (refl, refl)
tells-undecided old _ t = refl

pub waits-undecided : (w : Option EarlyLimits) (step : Step) → waits_then w step (Err Undecided) ≡ w
waits-undecided w steps.EarlyAccept = refl
waits-undecided w _ = refl

-- ---- what was noted of payloads

left_or : (a b : Bool) → a ≡ true → (a || b) ≡ true
left_or true b e = refl
left_or false b e = cc

asks_more : (b a : Pending) (o : Option Pending) → AsksAllOf b a → AsksAllOf b (merged_if a o)
asks_more b a None k = k
asks_more b a (Some q) k = record {
  max_data = λ h. left_or a.max_data q.max_data (k.max_data h);
  data_blocked = λ h. left_or a.data_blocked q.data_blocked (k.data_blocked h);
  max_streams_bi = λ h. left_or a.max_streams_bi q.max_streams_bi (k.max_streams_bi h);
  max_streams_uni = λ h. left_or a.max_streams_uni q.max_streams_uni (k.max_streams_uni h);
  max_stream_data = λ id h. left_or (a.max_stream_data id) (q.max_stream_data id) (k.max_stream_data id h);
  stream_data_blocked = λ id h. left_or (a.stream_data_blocked id) (q.stream_data_blocked id) (k.stream_data_blocked id h);
  reset_stream = λ id code h. one-of-first (id, code) a.reset_stream q.reset_stream (k.reset_stream id code h);
  stop_sending = λ id code h. one-of-first _ a.stop_sending q.stop_sending (k.stop_sending id code h);
}

asks_rest : (sent : List Sent) (p b : Pending) → AsksAllOf b p → AsksAllOf b (with_all_noted p sent)
asks_rest [] p b k = k
asks_rest (s ∷ ss) p b k = asks_rest ss (with_noted p s.unsettled.rest) b (asks_more b p (noted_at s.unsettled.rest) k)

-- what was noted of each is asked for
pub asks-noted : (sent : List Sent) (p : Pending) (number : ℕ) (s : Sent) (rest : SentPayload) → slice_get sent number ≡ Some s → s.unsettled.rest ≡ Some rest → AsksAllOf (noted_in rest.control) (with_all_noted p sent)
asks-noted [] p number s rest got is = absurd (none-some s got)
asks-noted (t ∷ ts) p zero s rest got is =
    let same : t.unsettled.rest ≡ Some rest = ap (λ (k : Sent). k.unsettled.rest) (same_Some t s got) ∙ is in
    let P : Option SentPayload → Type 0 = λ o. AsksAllOf (noted_in rest.control) (with_noted p o) in
    let here : P (Some rest) = asks-all-of p (thin_view rest.control) in
    asks_rest ts (with_noted p t.unsettled.rest) (noted_in rest.control) (subst P (sym same) here)
asks-noted (t ∷ ts) p (suc number) s rest got is = asks-noted ts (with_noted p t.unsettled.rest) number s rest got is
