-- A payload without a STREAM frame brings nothing to read: of the places that count behind its delivery, those of STREAM frames
-- counted before.
use Rattle.std.proofs.Common.{◌≡◌, ◌⊎◌, ℕ, zero, suc, Bool, true, false, List, [], ◌∷◌, length, Option, Some, None, Result, Ok, Err, refl, sym, ap, ◌∙◌, subst, inl, inr, arith}
use Rattle.std.specs.Prelude.{◌==◌, ◌&&◌, slice_get, unwrap_or, if◌then◌else◌}
use Rattle.std.specs.Option.{option_map}
use Rattle.std.proofs.lemmas.Option.{same_Some, none-some}
use Rattle.quic_wire.specs.declared.error.ReceiveError.{ReceiveError}
use Rattle.quic_wire.specs.declared.frame.Frame.{Frame}
use Rattle.quic_wire.specs.declared.frame.Frame.TheVariants as frames
use Rattle.quic_wire.specs.declared.frame.Stream.{Stream}
use Rattle.quic_wire.specs.Frames.{AreFrames}
use Rattle.quic_wire.proofs.Joins.{same}
use Rattle.quic_receiving.specs.declared.transmit.ShouldTransmit.{ShouldTransmit}
use Rattle.quic_streams.specs.declared.settling.SentPayload.{SentPayload}
use Rattle.quic_streams.specs.Settling.{SentView, resets_of}
use Rattle.quic_streams.specs.Sent.{sent_view}
use Rattle.quic_endpoint.specs.Ends.{EndState}
use Rattle.quic_endpoint.specs.Emitting.{PayloadView}
use Rattle.quic_link.specs.Endpoints.{IsOneOf}
use Rattle.quic_link.proofs.Basics.{same_id}
use Rattle.quic_exchange.proofs.Origins.{Origin}
use Rattle.quic_steps.specs.declared.steps.End.{End}
use Rattle.quic_steps.specs.declared.steps.Reply.TheVariants.{Done, DoneTransmit, Fault, Payload}
use Rattle.quic_steps.specs.declared.steps.PairError.TheVariants.{NoSuchPayload, NoSuchFrame, NotAccepted, AlreadySettled, OutOfMemory as NoMemory}
use Rattle.quic_exchange.specs.Sent.{Sent}
use Rattle.quic_exchange.specs.declared.unsettled.Report.{Report}
use Rattle.quic_exchange.specs.declared.phase.Going.{Going}
use Rattle.quic_exchange.specs.Unsettled.{is_quiet, unsettled_after}
use Rattle.quic_exchange.specs.Payloads.{SentText, IsFrameAt, metas_in}
use Rattle.quic_exchange.specs.Replies.{Answer}
use Rattle.quic_exchange.specs.State.{PairState}
use Rattle.quic_exchange.specs.Steps.{HandsOver, SentAfter, Delivers, Reports, SettlesPayload}
use Rattle.quic_exchange.specs.History.{Past, History, FramePlace, after_deliver, is_kept_by}
use Rattle.quic_exchange.specs.Headline.{IsStreamFrom}
use Rattle.quic_exchange.proofs.Eras.{EraFrom}
use Rattle.quic_exchange.specs.Settling.{going_of, is_quiet_at}
use Rattle.quic_exchange.proofs.Emissions.{EmitsSome, EmittedSome}
use Rattle.quic_exchange.proofs.PayloadKnows.{StaySent, stay-sent}
use Rattle.quic_exchange.proofs.PayloadEmits.{stay_before}
use Rattle.quic_exchange.proofs.DeliverMarks.{stay_marked}
use Rattle.quic_exchange.proofs.Reports.{stay_settled}
use Rattle.quic_exchange.proofs.KeptPlaces.{frame-here}
use Rattle.quic_exchange.proofs.Recounted.{made_at}
use Rattle.quic_exchange.proofs.CountedPayloads.{payload_counted, last_of}
use Rattle.quic_exchange.proofs.Grown.{grown-from}

-- ---- payloads stay, whatever is sent, delivered or reported

module _ (old new : PairState) where
  pub stay-same : new ≡ old → StaySent old.sent new.sent
  stay-same e = subst (StaySent old.sent) (sym (ap (λ (v : PairState). v.sent) e)) (stay-sent old.sent)

  pub stay-emitted : (who : End) (most : ℕ) (fair : Bool) (reply : Answer) → EmittedSome old who most fair reply new → StaySent old.sent new.sent
  stay-emitted who most fair (Ok (Payload number bytes)) e = subst (StaySent old.sent) (sym (ap (λ (v : PairState). v.sent) e.emits.is)) (stay_before old.sent e.emits.sent)
  stay-emitted who most fair (Err NoMemory) e = elim e [ inl none ↦ stay-same none | inr part ↦ subst (StaySent old.sent) (sym (ap (λ (v : PairState). v.sent) part.emits.is)) (stay_before old.sent part.emits.sent) ]
  stay-emitted who most fair _ e = absurd e

  stay_after : (number : ℕ) (s : Sent) (index : ℕ) → slice_get old.sent number ≡ Some s → (answer : Result ShouldTransmit ReceiveError) → SentAfter old.sent number s index answer new.sent → StaySent old.sent new.sent
  stay_after number s index is (Ok transmit) m = subst (StaySent old.sent) (sym m.2) (stay_marked old.sent number s index m.0 is m.1)
  stay_after number s index is (Err error) m = subst (StaySent old.sent) (sym m) (stay-sent old.sent)

  stay_handed : (number index : ℕ) (reply : Answer) → HandsOver old number index reply new → StaySent old.sent new.sent
  stay_handed number index reply n = stay_after number n.payload.sent index n.payload.is n.answer n.sent

  pub stay-delivered : (number index : ℕ) (reply : Answer) → Delivers old number index reply new → StaySent old.sent new.sent
  stay-delivered number index (Err NoSuchPayload) n = stay-same n.1
  stay-delivered number index (Err NoSuchFrame) n = stay-same n.is
  stay-delivered number index (Err NoMemory) n = elim n [ inl wants ↦ stay-same wants.1 | inr handed ↦ stay_handed number index (Err NoMemory) handed ]
  stay-delivered number index reply n = stay_handed number index reply n

  module _ (kind : Report) (At : EndState → SentView → Result (Unit {0}) SentView → EndState → Type 0) (number : ℕ) where
    stay_reported : (reply : Answer) → Reports kind At old number reply new → StaySent old.sent new.sent
    stay_reported reply e = subst (StaySent old.sent) (sym (ap (λ (v : PairState). v.sent) e.is)) (stay_settled old.sent number e.payload.sent (unsettled_after kind e.payload.sent.unsettled e.answer) e.payload.is)

    pub stay-reported : (reply : Answer) → SettlesPayload kind At old number reply new → StaySent old.sent new.sent
    stay-reported (Ok Done) e = stay_reported (Ok Done) e
    stay-reported (Err NoMemory) e = stay_reported (Err NoMemory) e
    stay-reported (Err NoSuchPayload) e = stay-same e.1
    stay-reported (Err AlreadySettled) e = stay-same e.is
    stay-reported (Err NotAccepted) e = stay-same e.is
    stay-reported _ e = absurd e

-- ---- payloads without a STREAM frame

-- a payload of this number was sent, and none of its frames is a STREAM frame
pub record IsStreamless (sent : List Sent) (number : ℕ) : Type 0 where
  pub payload : Sent
  pub is : slice_get sent number ≡ Some payload
  pub none : (index : ℕ) (s : Stream) → IsFrameAt payload.text.bytes index (frames.Stream s) → ⊥

pub streamless-stays : (sent more : List Sent) (number : ℕ) → StaySent sent more → IsStreamless sent number → IsStreamless more number
streamless-stays sent more number stay l =
    let k = stay number l.payload l.is in
    record { payload = k.0; is = k.1; none = λ index s at. let P : List ℕ → Type 0 = λ bytes. IsFrameAt bytes index (frames.Stream s) in l.none index s (subst P k.3 at) }

pub streamless-place : (sent : List Sent) (who : End) (at : FramePlace) (s : Stream) → IsStreamless sent at.0 → IsStreamFrom sent who at s → ⊥
streamless-place sent who at s l from = l.none at.1 s (frame-here sent who at l.payload l.is s from)

-- ---- one that was just sent, of which no STREAM frame was handed back

first_true : (x y : Bool) → (x && y) ≡ true → x ≡ true
first_true true y e = refl
first_true false y e = cc

none_long : {X : Type 0} (xs : List X) → length xs ≡ 0 → xs ≡ []
none_long [] e = refl
none_long (x ∷ xs) e = absurd (omega (arith, e))

quiet_rest : (rest : Option SentPayload) (r : SentView) → option_map sent_view rest ≡ Some r → is_quiet rest ≡ true → r.streams ≡ []
quiet_rest None r e q = absurd (none-some r e)
quiet_rest (Some s) r e q = ap (λ (v : SentView). v.streams) (sym (same_Some (sent_view s) r e)) ∙ none_long (sent_view s).streams (same_id (length (sent_view s).streams) 0 (first_true (length (sent_view s).streams == 0) (length (resets_of (sent_view s).control) == 0) q))

no_stream : (fs : List Frame) → metas_in fs ≡ [] → (index : ℕ) (s : Stream) → slice_get fs index ≡ Some (frames.Stream s) → ⊥
no_stream [] e index s got = none-some (frames.Stream s) got
no_stream (frames.Stream t ∷ fs) e index s got = cc
no_stream (_ ∷ fs) e zero s got = cc
no_stream (_ ∷ fs) e (suc index) s got = no_stream fs e index s got

module _ (a b : Origin) (h : History) (old new : PairState) (f : EraFrom a b h old) (who : End) (most : ℕ) (fair : Bool) (quiet : is_quiet_at new.sent (length old.sent) ≡ true) where
  fresh_by : (payload : PayloadView) → EmitsSome old who most fair (Ok tt) payload new → IsStreamless new.sent (length old.sent)
  fresh_by payload k =
      let r = (grown-from f).recounted in
      let c = payload_counted (made_at a b who) (r.tales.of who) (r.counted who) k.emits in
      let there : slice_get new.sent (length old.sent) ≡ Some k.sent = ap (λ (v : PairState). slice_get v.sent (length old.sent)) k.is ∙ last_of old.sent k.sent in
      let P : Option Sent → Type 0 = λ o. unwrap_or (option_map (λ (x : Sent). is_quiet x.unsettled.rest) o) true ≡ true in
      let none : metas_in c.all ≡ [] = sym c.back.metas ∙ quiet_rest k.sent.unsettled.rest payload.sent k.sent_is.rest (subst P there quiet) in
      record {
        payload = k.sent;
        is = there;
        none = λ index s at.
            let Q : List ℕ → Type 0 = λ bytes. AreFrames bytes at.all in
            let all_same : at.all ≡ c.all = same payload.bytes at.all c.all (subst Q (ap (λ (x : SentText). x.bytes) k.sent_is.text) at.spelled) c.spelled in
            no_stream c.all none index s (ap (λ (l : List Frame). slice_get l index) (sym all_same) ∙ at.at);
      }

  pub fresh-streamless : (reply : Answer) → EmittedSome old who most fair reply new → (going : Going) → going_of reply ≡ Some going → IsStreamless new.sent (length old.sent)
  fresh-streamless (Ok (Payload number bytes)) n going e = fresh_by n.payload n.emits
  fresh-streamless (Err NoMemory) n going e = absurd (none-some going e)
  fresh-streamless _ n going e = absurd n

-- ---- places that are added

-- places are added, and only those of payloads without a STREAM frame
pub record AddsNoStream (sent : List Sent) (ps qs : List FramePlace) : Type 0 where
  pub stay : (at : FramePlace) → IsOneOf at ps → IsOneOf at qs
  pub added : (at : FramePlace) → IsOneOf at qs → IsOneOf at ps ⊎ IsStreamless sent at.0

pub adds-none : (sent : List Sent) (ps qs : List FramePlace) → qs ≡ ps → AddsNoStream sent ps qs
adds-none sent ps qs e = subst (AddsNoStream sent ps) (sym e) (record { stay = λ at l. l; added = λ at l. inl l })

adds_one : (sent : List Sent) (at : FramePlace) (ps : List FramePlace) → IsStreamless sent at.0 → AddsNoStream sent ps (at ∷ ps)
adds_one sent at ps none = record {
  stay = λ place l. inr l;
  added = λ place l. elim l [
    | inl e ↦ (let P : FramePlace → Type 0 = λ x. IsStreamless sent x.0 in inr (subst P (sym e) none))
    | inr before ↦ inl before
  ];
}

adds_if : (sent : List Sent) (at : FramePlace) (ps : List FramePlace) (kept : Bool) → IsStreamless sent at.0 → AddsNoStream sent ps (if kept then at ∷ ps else ps)
adds_if sent at ps true none = adds_one sent at ps none
adds_if sent at ps false none = adds-none sent ps ps refl

pub adds-then : (sent more : List Sent) (ps qs rs : List FramePlace) → StaySent sent more → AddsNoStream sent ps qs → AddsNoStream more qs rs → AddsNoStream more ps rs
adds-then sent more ps qs rs stay k l = record {
  stay = λ at h. l.stay at (k.stay at h);
  added = λ at h. elim (l.added at h) [
    | inl before ↦ elim (k.added at before) [ inl first ↦ inl first | inr none ↦ inr (streamless-stays sent more at.0 stay none) ]
    | inr none ↦ inr none
  ];
}

-- a frame of such a payload is delivered
module _ (p : Past) (sent : List Sent) (at : FramePlace) (none : IsStreamless sent at.0) where
  pub adds-kept : (reply : Answer) → AddsNoStream sent p.kept (after_deliver p at reply).kept
  adds-kept (Ok Done) = adds_one sent at p.kept none
  adds-kept (Ok DoneTransmit) = adds_one sent at p.kept none
  adds-kept (Ok (Fault fault)) = adds_if sent at p.kept (is_kept_by fault) none
  adds-kept _ = adds-none sent p.kept p.kept refl

  pub adds-accepted : (reply : Answer) → AddsNoStream sent p.accepted (after_deliver p at reply).accepted
  adds-accepted (Ok Done) = adds_one sent at p.accepted none
  adds-accepted (Ok DoneTransmit) = adds_one sent at p.accepted none
  adds-accepted (Ok (Fault fault)) = adds-none sent p.accepted p.accepted refl
  adds-accepted _ = adds-none sent p.accepted p.accepted refl

-- nothing else is known by it
pub deliver-ids : (p : Past) (at : FramePlace) (reply : Answer) (end : End) → (after_deliver p at reply).ids end ≡ p.ids end
deliver-ids p at (Ok Done) end = refl
deliver-ids p at (Ok DoneTransmit) end = refl
deliver-ids p at (Ok (Fault fault)) end = refl
deliver-ids p at _ end = refl

pub deliver-flow : (p : Past) (at : FramePlace) (reply : Answer) (end : End) (id : ℕ) → (after_deliver p at reply).flow end id ≡ p.flow end id
deliver-flow p at (Ok Done) end id = refl
deliver-flow p at (Ok DoneTransmit) end id = refl
deliver-flow p at (Ok (Fault fault)) end id = refl
deliver-flow p at _ end id = refl
