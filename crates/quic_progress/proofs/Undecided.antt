-- While it is not decided whether the server takes what the client sends early, no payload is acknowledged in part: none has a part
-- that could be. So where the client is to begin again, all that it announced is told or pending.
use Rattle.std.proofs.Common.{◌≡◌, ℕ, zero, suc, Bool, true, false, List, [], ◌∷◌, ◌++◌, length, Option, Some, None, Result, Ok, Err, refl, sym, ap, ◌∙◌, subst, inl, inr, arith, ◌<◌}
use Rattle.std.specs.Prelude.{◌||◌, map, drop, slice_get, slice_index_or}
use Rattle.std.proofs.lemmas.Option.{none-some, same_Some}
use Rattle.quic_values.specs.declared.memory.OutOfMemory.{OutOfMemory}
use Rattle.quic_values.specs.declared.ids.Dir.TheVariants.{Bi, Uni}
use Rattle.quic_wire.specs.declared.frame.Frame.{Frame}
use Rattle.quic_wire.specs.declared.frame.StreamMeta.{StreamMeta}
use Rattle.quic_retransmits.specs.Pending.{Pending, merged_if}
use Rattle.quic_retransmits.specs.Settling.{noted_in}
use Rattle.quic_history.specs.World.{World}
use Rattle.quic_streams.specs.declared.settling.SentPayload.{SentPayload}
use Rattle.quic_streams.specs.Settling.{SentView, EachInOrder, AcksMeta, AcksResetOf, AcksWhole, resets_of}
use Rattle.quic_streams.specs.Sent.{sent_view, report_view}
use Rattle.quic_endpoint.specs.Ends.{EndState}
use Rattle.quic_endpoint.specs.Emitting.{PayloadView}
use Rattle.quic_endpoint.specs.Reports.{LosesPayloadAt, AcksPayloadAt}
use Rattle.quic_steps.specs.declared.steps.End.{End}
use Rattle.quic_steps.specs.declared.steps.Step.{Step}
use Rattle.quic_steps.specs.declared.steps.Step.TheVariants as steps
use Rattle.quic_steps.specs.declared.steps.Reply.TheVariants.{Done, Payload}
use Rattle.quic_steps.specs.declared.steps.PairError.TheVariants.{NoSuchPayload, NotAccepted, AlreadySettled, OutOfMemory as NoMemory}
use Rattle.quic_exchange.specs.Sent.{Sent}
use Rattle.quic_exchange.specs.declared.unsettled.Report.{Report}
use Rattle.quic_exchange.specs.declared.unsettled.Report.TheVariants.{Lost, Acknowledged}
use Rattle.quic_exchange.specs.Unsettled.{unsettled_after}
use Rattle.quic_exchange.specs.Payloads.{SentText}
use Rattle.quic_exchange.specs.Replies.{Answer}
use Rattle.quic_exchange.specs.Gone.{IsGone, with_noted, with_all_noted, noted_at}
use Rattle.quic_exchange.specs.State.{PairState, the_end}
use Rattle.quic_exchange.specs.Steps.{NextOrdinary, Reports, SettlesPayload, needs_decision}
use Rattle.quic_exchange.specs.Tale.{Part, Carried, GivenUp, parts_in}
use Rattle.quic_exchange.proofs.Emissions.{EmitsSome, EmittedSome, emitted-some, emitted-part}
use Rattle.quic_exchange.proofs.Lists.{slice_get-push, slice_get-slice_set}
use Rattle.quic_exchange.proofs.Left.{AreLeft}
use Rattle.quic_exchange.proofs.OwnDoings.{AreUntaken, AreSpelled, untaken-here}
use Rattle.quic_exchange.proofs.Beneath.{asks-noted}
use Rattle.quic_progress.proofs.Permissions.{Permission, AllData, DataOn, StreamsOf, is_asked}
use Rattle.quic_progress.proofs.Tracked.{UnderWay}
use Rattle.quic_progress.proofs.TrackedSteps.{IsBeside, sents-beside}
use Rattle.quic_progress.proofs.OwingSteps.{IsHalfAcked}

-- no payload was acknowledged in part
abbrev pub NoneBegun : List Sent → Type 0
NoneBegun sent = (number : ℕ) (s : Sent) (rest : SentPayload) → slice_get sent number ≡ Some s → s.unsettled.begun ≡ Some Acknowledged → s.unsettled.rest ≡ Some rest → ⊥

pub none-half : (sent : List Sent) (who : End) → NoneBegun sent → IsHalfAcked sent who → ⊥
none-half sent who n h = n h.number h.payload h.rest h.is h.begun h.rest_is

-- none of payloads that left
pub none-gone : (sent : List Sent) → ((number : ℕ) (s : Sent) → slice_get sent number ≡ Some s → IsGone s) → NoneBegun sent
none-gone sent gone number s rest is begun left = none-some rest (sym (gone number s is).rest ∙ left)

-- ---- a payload without frames has no part

no_beginning : {T : Type 0} (told rest : List T) (next : T) → [] ≡ told ++ next ∷ rest → ⊥
no_beginning [] rest next e = cc
no_beginning (t ∷ told) rest next e = cc

-- so the report that it was acknowledged ends
none_back : (u v : World) (r back : SentView) → r.streams ≡ [] → resets_of r.control ≡ [] → AcksWhole u r (Err back) v → ⊥
none_back u v r back none_sent none_reset (inl stop) = no_beginning stop.frames.told stop.frames.rest stop.frames.next (sym none_sent ∙ stop.frames.parts)
none_back u v r back none_sent none_reset (inr stop) = no_beginning stop.resets.told stop.resets.rest stop.resets.next (sym none_reset ∙ ap resets_of stop.noted ∙ stop.resets.parts)

-- and changes nothing
pub none-acks-still : (u v : World) (r : SentView) (answer : Result (Unit {0}) SentView) → r.streams ≡ [] → resets_of r.control ≡ [] → AcksWhole u r answer v → v ≡ u
none-acks-still u v r (Ok x) none_sent none_reset k =
    let P : List StreamMeta → Type 0 = λ ms. EachInOrder AcksMeta u ms k.0 in
    let Q : List (ℕ × ℕ) → Type 0 = λ cs. EachInOrder AcksResetOf k.0 cs v in
    let first : k.0 ≡ u = subst P none_sent k.1 in
    let second : v ≡ k.0 = subst Q none_reset k.2 in
    second ∙ first
none-acks-still u v r (Err back) none_sent none_reset k = absurd (none_back u v r back none_sent none_reset k)

none_dropped : (n : ℕ) → drop {A = Part} n [] ≡ []
none_dropped zero = refl
none_dropped (suc n) = refl

none_of : (ms : List StreamMeta) (cs : List (ℕ × ℕ)) → map Carried ms ++ map (λ (c : ℕ × ℕ). GivenUp c.0) cs ≡ [] → (ms ≡ []) × (cs ≡ [])
none_of [] [] e = (refl, refl)
none_of [] (c ∷ cs) e = cc
none_of (m ∷ ms) cs e = cc

unmarked : (marks : List Bool) (index : ℕ) → marks ≡ [] → slice_index_or marks index false ≡ true → ⊥
unmarked marks index e h = let k = sym (ap (λ l. slice_index_or l index false) e) ∙ h in cc

no_frames : (s : SentText) (all : List Frame) → s.accepted ≡ [] → ((index : ℕ) → index < length all → slice_index_or s.accepted index false ≡ true) → all ≡ []
no_frames s [] none set = refl
no_frames s (f ∷ fs) none set = absurd (unmarked s.accepted 0 none (set 0 (omega arith)))

-- a payload of which nothing was accepted, and that is acknowledged, has no part
pub none-parts : (old new : PairState) → AreUntaken old.sent → AreSpelled old.sent → (told : ℕ → ℕ) → AreLeft old.sent told → (number : ℕ) (reply : Answer) (k : Reports Acknowledged AcksPayloadAt old number reply new) → ((sent_view k.rest).streams ≡ []) × (resets_of (sent_view k.rest).control ≡ [])
none-parts old new untaken spelled told left number reply k =
    let s = k.payload.sent in
    let mine = untaken-here s k.payload.here (untaken number s k.payload.is) in
    let text = spelled number s k.payload.is in
    let none : text.0 ≡ [] = no_frames s.text text.0 mine.unaccepted (k.serves text.0 text.1) in
    let l = left number s k.rest text.0 k.payload.is k.rest_is text.1 in
    let rest = sent_view k.rest in
    none_of rest.streams (resets_of rest.control) (l.parts ∙ ap (λ all. drop (told number) (parts_in all)) none ∙ none_dropped (told number))

-- ---- each step

module _ (old new : PairState) (n : NoneBegun old.sent) where
  none_same : new.sent ≡ old.sent → NoneBegun new.sent
  none_same e = let P : List Sent → Type 0 = λ l. NoneBegun l in subst P (sym e) n

  none_at : new ≡ old → NoneBegun new.sent
  none_at e = none_same (ap (λ (v : PairState). v.sent) e)

  none_emits : (who : End) (most : ℕ) (fair : Bool) (answer : Result (Unit {0}) OutOfMemory) (payload : PayloadView) → EmitsSome old who most fair answer payload new → NoneBegun new.sent
  none_emits who most fair answer payload e number s rest got begun left = elim (slice_get-push old.sent e.sent number s (ap (λ (v : PairState). slice_get v.sent number) (sym e.is) ∙ got)) [
    | inl before ↦ n number s rest before begun left
    | inr now ↦ none-some Acknowledged (sym e.sent_is.begun ∙ ap (λ (v : Sent). v.unsettled.begun) (sym now.1) ∙ begun)
  ]

  none_emitted : (who : End) (most : ℕ) (fair : Bool) (reply : Answer) → EmittedSome old who most fair reply new → NoneBegun new.sent
  none_emitted who most fair (Ok (Payload number bytes)) e = none_emits who most fair (Ok tt) e.payload e.emits
  none_emitted who most fair (Err NoMemory) e = elim e [ inl same ↦ none_at same | inr part ↦ none_emits who most fair part.answer part.payload part.emits ]
  none_emitted who most fair _ e = absurd e

  none_reported : (kind : Report) (At : EndState → SentView → Result (Unit {0}) SentView → EndState → Type 0) (number : ℕ) (reply : Answer) (k : Reports kind At old number reply new) → ((back : SentPayload) → k.answer ≡ Err back → kind ≡ Acknowledged → ⊥) → NoneBegun new.sent
  none_reported kind At number reply k never i x rest got begun left = elim (slice_get-slice_set old.sent number i (record k.payload.sent { unsettled = unsettled_after kind k.payload.sent.unsettled k.answer }) x (ap (λ (v : PairState). slice_get v.sent i) (sym k.is) ∙ got)) [
    | inr there ↦ n i x rest there begun left
    | inl here ↦ by k.answer refl (ap (λ (v : Sent). v.unsettled.begun) (sym here.1) ∙ begun) (ap (λ (v : Sent). v.unsettled.rest) (sym here.1) ∙ left)
  ]
    where
      by : (answer : Result (Unit {0}) SentPayload) → k.answer ≡ answer → (unsettled_after kind k.payload.sent.unsettled k.answer).begun ≡ Some Acknowledged → (unsettled_after kind k.payload.sent.unsettled k.answer).rest ≡ Some rest → ⊥
      by (Ok done) e b r = none-some rest (sym (ap (λ a. (unsettled_after kind k.payload.sent.unsettled a).rest) e) ∙ r)
      by (Err back) e b r = never back e (same_Some kind Acknowledged (sym (ap (λ a. (unsettled_after kind k.payload.sent.unsettled a).begun) e) ∙ b))

  none_lost : (number : ℕ) (reply : Answer) → SettlesPayload Lost LosesPayloadAt old number reply new → NoneBegun new.sent
  none_lost number (Ok Done) k = none_reported Lost LosesPayloadAt number (Ok Done) k (λ back e z. cc)
  none_lost number (Err NoMemory) k = none_reported Lost LosesPayloadAt number (Err NoMemory) k (λ back e z. cc)
  none_lost number (Err NoSuchPayload) k = none_at k.1
  none_lost number (Err AlreadySettled) k = none_at k.is
  none_lost number (Err NotAccepted) k = none_at k.is
  none_lost number _ k = absurd k

  module _ (untaken : AreUntaken old.sent) (spelled : AreSpelled old.sent) (told : ℕ → ℕ) (left : AreLeft old.sent told) where
    none_acked : (number : ℕ) (reply : Answer) → Reports Acknowledged AcksPayloadAt old number reply new → NoneBegun new.sent
    none_acked number reply k = none_reported Acknowledged AcksPayloadAt number reply k (λ back e z. never back e)
      where
        never : (back : SentPayload) → k.answer ≡ Err back → ⊥
        never back e =
            let s = k.payload.sent in
            let rest = sent_view k.rest in
            let both = none-parts old new untaken spelled told left number reply k in
            let P : Result (Unit {0}) SentPayload → Type 0 = λ a. AcksPayloadAt (the_end old s.writer) rest (report_view a) k.end in
            let a : AcksPayloadAt (the_end old s.writer) rest (Err (sent_view back)) k.end = subst P e k.does in
            none_back (the_end old s.writer).streams a.acked.streams rest (sent_view back) both.0 both.1 a.acks

    none_acks : (number : ℕ) (reply : Answer) → SettlesPayload Acknowledged AcksPayloadAt old number reply new → NoneBegun new.sent
    none_acks number (Ok Done) k = none_acked number (Ok Done) k
    none_acks number (Err NoMemory) k = none_acked number (Err NoMemory) k
    none_acks number (Err NoSuchPayload) k = none_at k.1
    none_acks number (Err AlreadySettled) k = none_at k.is
    none_acks number (Err NotAccepted) k = none_at k.is
    none_acks number _ k = absurd k

    none_beside : (step : Step) (reply : Answer) → IsBeside step → NextOrdinary old step reply new → NoneBegun new.sent
    none_beside step reply b o = none_same (sents-beside old new step reply b o)

    pub none-next : (step : Step) (reply : Answer) → needs_decision step ≡ false → NextOrdinary old step reply new → NoneBegun new.sent
    none-next (steps.Emit who most fair) reply by o = none_emitted who most fair reply (emitted-some old new who most fair reply o)
    none-next (steps.EmitPart who most fair part) reply by o = none_emitted who most fair reply (emitted-part old new who most fair part reply o)
    none-next (steps.Deliver number index) reply by o = cc
    none-next (steps.Lose number) reply by o = none_lost number reply o
    none-next (steps.Ack number) reply by o = none_acks number reply o
    none-next step reply by o = none_beside step reply tt o

-- ---- what was noted of payloads is pending where all is to be sent again

left_or : (a b : Bool) → a ≡ true → (a || b) ≡ true
left_or true b e = refl
left_or false b e = cc

asked_more : (k : Permission) (p : Pending) (o : Option Pending) → is_asked k p ≡ true → is_asked k (merged_if p o) ≡ true
asked_more k p None a = a
asked_more AllData p (Some b) a = left_or p.max_data b.max_data a
asked_more (DataOn id) p (Some b) a = left_or (p.max_stream_data id) (b.max_stream_data id) a
asked_more (StreamsOf Bi) p (Some b) a = left_or p.max_streams_bi b.max_streams_bi a
asked_more (StreamsOf Uni) p (Some b) a = left_or p.max_streams_uni b.max_streams_uni a

pub asked-all : (k : Permission) (p : Pending) (sent : List Sent) → is_asked k p ≡ true → is_asked k (with_all_noted p sent) ≡ true
asked-all k p [] a = a
asked-all k p (s ∷ ss) a = asked-all k (with_noted p s.unsettled.rest) ss (asked_more k p (noted_at s.unsettled.rest) a)

pub way-asked : (k : Permission) (n : ℕ) (p : Pending) (sent : List Sent) (who : End) → UnderWay k n sent who → is_asked k (with_all_noted p sent) ≡ true
way-asked k n p sent who w = by k w.asked
  where
    by : (j : Permission) → is_asked j (noted_in w.rest.control) ≡ true → is_asked j (with_all_noted p sent) ≡ true
    by AllData a = (asks-noted sent p w.number w.payload w.rest w.is w.rest_is).max_data a
    by (DataOn id) a = (asks-noted sent p w.number w.payload w.rest w.is w.rest_is).max_stream_data id a
    by (StreamsOf Bi) a = (asks-noted sent p w.number w.payload w.rest w.is w.rest_is).max_streams_bi a
    by (StreamsOf Uni) a = (asks-noted sent p w.number w.payload w.rest w.is w.rest_is).max_streams_uni a
