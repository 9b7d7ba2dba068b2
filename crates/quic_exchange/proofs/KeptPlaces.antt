-- What was kept stands at its places, as payloads are sent, frames are marked, and frames are handed over.
use Rattle.std.proofs.Common.{◌≡◌, ℕ, Bool, true, false, eqb, List, ◌∷◌, Some, Result, Ok, Err, refl, sym, ap, ◌∙◌, subst, inl, inr}
use Rattle.std.specs.Prelude.{slice_get, ◌==◌, ◌&&◌, if◌then◌else◌}
use Rattle.std.proofs.lemmas.Option.{same_Some}
use Rattle.quic_wire.specs.declared.frame.Frame.{Frame}
use Rattle.quic_wire.specs.declared.frame.Frame.TheVariants as frames
use Rattle.quic_wire.specs.declared.frame.Stream.{Stream}
use Rattle.quic_wire.specs.declared.error.ReceiveError.{ReceiveError}
use Rattle.quic_wire.specs.declared.error.ReceiveError.TheVariants as receive_error
use Rattle.quic_wire.proofs.Joins.{same}
use Rattle.quic_receiving.specs.declared.transmit.ShouldTransmit.{ShouldTransmit}
use Rattle.quic_history.specs.History.{is_frame_kept}
use Rattle.quic_history.proofs.Traces.{itself}
use Rattle.quic_link.specs.Endpoints.{LinkedEnd, IsOneOf}
use Rattle.quic_link.proofs.Basics.{same_id}
use Rattle.quic_steps.specs.declared.steps.End.{End}
use Rattle.quic_steps.specs.declared.steps.Reply.TheVariants.{Done, DoneTransmit}
use Rattle.quic_exchange.specs.Sent.{Sent}
use Rattle.quic_exchange.specs.Payloads.{IsFrameAt}
use Rattle.quic_exchange.specs.Replies.{received_reply}
use Rattle.quic_exchange.specs.State.{peer}
use Rattle.quic_exchange.specs.History.{Past, FramePlace, after_deliver}
use Rattle.quic_exchange.specs.Headline.{IsStreamFrom}
use Rattle.quic_exchange.specs.Readable.{SomeReset, SomeStop}
use Rattle.quic_exchange.specs.Unrefused.{StreamsAt, none, on, beside}
use Rattle.quic_exchange.proofs.Flips.{peer-other}
use Rattle.quic_exchange.proofs.KeptFrames.{KeptSent, HearsFrame, kept_in, kept_of}
use Rattle.quic_exchange.proofs.PayloadKnows.{StaySent}

-- ---- the frame at a place is one

pub frame-one : (bytes : List ℕ) (index : ℕ) (g h : Frame) → IsFrameAt bytes index g → IsFrameAt bytes index h → g ≡ h
frame-one bytes index g h a b = same_Some g h (sym a.at ∙ ap (λ (fs : List Frame). slice_get fs index) (same bytes a.all b.all a.spelled b.spelled) ∙ b.at)

module _ (sent : List Sent) (who : End) (at : FramePlace) (payload : Sent) (is : slice_get sent at.0 ≡ Some payload) (s : Stream) (from : IsStreamFrom sent who at s) where
  same_payload : from.payload ≡ payload
  same_payload = same_Some from.payload payload (sym from.is ∙ is)

  -- it stands in the payload that has the number
  pub frame-here : IsFrameAt payload.text.bytes at.1 (frames.Stream s)
  frame-here = let P : Sent → Type 0 = λ k. IsFrameAt k.text.bytes at.1 (frames.Stream s) in subst P same_payload from.frame

  pub writer-here : payload.writer ≡ who
  writer-here = sym (ap (λ (k : Sent). k.writer) same_payload) ∙ from.writer

pub stream-one : (sent : List Sent) (who : End) (at : FramePlace) (s t : Stream) → IsStreamFrom sent who at s → IsStreamFrom sent who at t → s ≡ t
stream-one sent who at s t a b =
    let e = frame-one b.payload.text.bytes at.1 (frames.Stream s) (frames.Stream t) (frame-here sent who at b.payload b.is s a) b.frame in
    let i : s ≡ t = cc in
    i

-- ---- more is sent

module _ (sent more : List Sent) (who : End) (id : ℕ) (stay : StaySent sent more) where
  stays_from : (at : FramePlace) (s : Stream) → IsStreamFrom sent who at s → IsStreamFrom more who at s
  stays_from at s from =
      let k = stay at.0 from.payload from.is in
      let P : List ℕ → Type 0 = λ bytes. IsFrameAt bytes at.1 (frames.Stream s) in
      record { payload = k.0; is = k.1; writer = k.2 ∙ from.writer; frame = subst P (sym k.3) from.frame }

  pub was-from : (at : FramePlace) (payload : Sent) → slice_get sent at.0 ≡ Some payload → (s : Stream) → IsStreamFrom more who at s → IsStreamFrom sent who at s
  was-from at payload is s from =
      let k = stay at.0 payload is in
      let P : List ℕ → Type 0 = λ bytes. IsFrameAt bytes at.1 (frames.Stream s) in
      record { payload = payload; is = is; writer = sym k.2 ∙ writer-here more who at k.0 k.1 s from; frame = subst P k.3 (frame-here more who at k.0 k.1 s from) }

  streams_stay : {ps : List FramePlace} {ss : List Stream} → StreamsAt sent who id ps ss → StreamsAt more who id ps ss
  streams_stay none = none
  streams_stay (on {places} {streams} at s before from is) = on at s (streams_stay before) (stays_from at s from) is
  streams_stay (beside {places} {streams} at payload before is lacks) =
      let k = stay at.0 payload is in
      beside at k.0 (streams_stay before) k.1 (λ s from e. lacks s (was-from at payload is s from) e)

  pub reset-stays : (code : ℕ) (ps : List FramePlace) → SomeReset sent who id code ps → SomeReset more who id code ps
  reset-stays code ps r =
      let k = stay r.at.0 r.payload r.is in
      let P : List ℕ → Type 0 = λ bytes. IsFrameAt bytes r.at.1 (frames.ResetStream r.frame) in
      record { at = r.at; listed = r.listed; payload = k.0; is = k.1; writer = k.2 ∙ r.writer; frame = r.frame; there = subst P (sym k.3) r.there; on = r.on; with_code = r.with_code }

  stop_stays : (code : ℕ) (ps : List FramePlace) → SomeStop sent who id code ps → SomeStop more who id code ps
  stop_stays code ps r =
      let k = stay r.at.0 r.payload r.is in
      let P : List ℕ → Type 0 = λ bytes. IsFrameAt bytes r.at.1 (frames.StopSending r.frame) in
      record { at = r.at; listed = r.listed; payload = k.0; is = k.1; writer = k.2 ∙ r.writer; frame = r.frame; there = subst P (sym k.3) r.there; on = r.on; with_code = r.with_code }

pub reset-more : (sent : List Sent) (who : End) (id code : ℕ) (ps qs : List FramePlace) → ((at : FramePlace) → IsOneOf at ps → IsOneOf at qs) → SomeReset sent who id code ps → SomeReset sent who id code qs
reset-more sent who id code ps qs more r = record { at = r.at; listed = more r.at r.listed; payload = r.payload; is = r.is; writer = r.writer; frame = r.frame; there = r.there; on = r.on; with_code = r.with_code }

pub kept-stay : (p : Past) (sent more : List Sent) (who : End) (y : LinkedEnd) → StaySent sent more → KeptSent p sent who y → KeptSent p more who y
kept-stay p sent more who y stay k = record {
  streams = λ id. streams_stay sent more who id stay (k.streams id);
  resets = λ id code final transmit h. reset-stays sent more who id stay code p.accepted (k.resets id code final transmit h);
  stops = λ id code h. stop_stays sent more who id stay code p.accepted (k.stops id code h);
}

-- ---- a frame is handed over

module _ (sent : List Sent) (who : End) (q : ℕ) (at : FramePlace) (payload : Sent) (is : slice_get sent at.0 ≡ Some payload) (ps : List FramePlace) (ss : List Stream) (before : StreamsAt sent who q ps ss) where
  -- which is none of the stream
  place_beside : (k : Bool) → ((s : Stream) → IsStreamFrom sent who at s → s.id ≡ q → ⊥) → StreamsAt sent who q (if k then at ∷ ps else ps) ss
  place_beside true lacks = beside at payload before is lacks
  place_beside false lacks = before

  -- or may be one
  place_on : (g : Stream) → IsStreamFrom sent who at g → (b k : Bool) → (b ≡ true → g.id ≡ q) → (b ≡ false → g.id ≡ q → ⊥) → StreamsAt sent who q (if k then at ∷ ps else ps) (if b && k then g ∷ ss else ss)
  place_on g from true true it other = on at g before from (it refl)
  place_on g from true false it other = before
  place_on g from false true it other = beside at payload before is (λ s there e. other refl (ap (λ (t : Stream). t.id) (stream-one sent who at g s from there) ∙ e))
  place_on g from false false it other = before

  other_test : (id : ℕ) → eqb q id ≡ false → id ≡ q → ⊥
  other_test id n i = let m : eqb q id ≡ true = ap (λ (j : ℕ). eqb q j) i ∙ itself q in let l = sym m ∙ n in cc

  place_frame : (frame : Frame) (answer : Result ShouldTransmit ReceiveError) → IsFrameAt payload.text.bytes at.1 frame → payload.writer ≡ who → StreamsAt sent who q (if is_frame_kept answer then at ∷ ps else ps) (kept_of frame answer q ss)
  place_frame (frames.Stream g) answer there w =
      place_on g (record { payload = payload; is = is; writer = w; frame = there }) (q == g.id) (is_frame_kept answer) (λ e. sym (same_id q g.id e)) (other_test g.id)
  place_frame frame answer there w =
      place_beside (is_frame_kept answer) (λ s from i. let e = frame-one payload.text.bytes at.1 frame (frames.Stream s) there (frame-here sent who at payload is s from) in cc)

-- it is among those that were kept, where it was
kept_done : (p : Past) (at : FramePlace) (due : Bool) → (after_deliver p at (Ok (if due then DoneTransmit else Done))).kept ≡ at ∷ p.kept
kept_done p at true = refl
kept_done p at false = refl

kept_after : (p : Past) (at : FramePlace) (answer : Result ShouldTransmit ReceiveError) → (after_deliver p at (received_reply answer)).kept ≡ (if is_frame_kept answer then at ∷ p.kept else p.kept)
kept_after p at (Ok transmit) = kept_done p at transmit.0
kept_after p at (Err (receive_error.Transport error)) = refl
kept_after p at (Err receive_error.CompactionMemory) = refl
kept_after p at (Err receive_error.OutOfMemory) = refl

accepted_done : (p : Past) (at : FramePlace) (due : Bool) → (after_deliver p at (Ok (if due then DoneTransmit else Done))).accepted ≡ at ∷ p.accepted
accepted_done p at true = refl
accepted_done p at false = refl

-- and among those that were accepted
accepted_after : (p : Past) (at : FramePlace) (answer : Result ShouldTransmit ReceiveError) (place : FramePlace) → IsOneOf place p.accepted → IsOneOf place (after_deliver p at (received_reply answer)).accepted
accepted_after p at (Ok transmit) place h = let P : List FramePlace → Type 0 = λ l. IsOneOf place l in subst P (sym (accepted_done p at transmit.0)) (inr h)
accepted_after p at (Err (receive_error.Transport error)) place h = h
accepted_after p at (Err receive_error.CompactionMemory) place h = h
accepted_after p at (Err receive_error.OutOfMemory) place h = h

accepted_now : (p : Past) (at : FramePlace) (answer : Result ShouldTransmit ReceiveError) (transmit : ShouldTransmit) → answer ≡ Ok transmit → IsOneOf at (after_deliver p at (received_reply answer)).accepted
accepted_now p at answer transmit e =
    let P : List FramePlace → Type 0 = λ l. IsOneOf at l in
    let Q : Result ShouldTransmit ReceiveError → Type 0 = λ a. IsOneOf at (after_deliver p at (received_reply a)).accepted in
    subst Q (sym e) (subst P (sym (accepted_done p at transmit.0)) (inl refl))

module _ (p : Past) (sent : List Sent) (who : End) (at : FramePlace) (payload : Sent) (is : slice_get sent at.0 ≡ Some payload) (w : payload.writer ≡ peer who) (frame : Frame) (there : IsFrameAt payload.text.bytes at.1 frame)
    (answer : Result ShouldTransmit ReceiveError) where
  -- resets that were accepted stay so
  resets_before : (from : End) (q code : ℕ) → SomeReset sent from q code p.accepted → SomeReset sent from q code (after_deliver p at (received_reply answer)).accepted
  resets_before from q code r = record { at = r.at; listed = accepted_after p at answer r.at r.listed; payload = r.payload; is = r.is; writer = r.writer; frame = r.frame; there = r.there; on = r.on; with_code = r.with_code }

  stops_before : (from : End) (q code : ℕ) → SomeStop sent from q code p.accepted → SomeStop sent from q code (after_deliver p at (received_reply answer)).accepted
  stops_before from q code r = record { at = r.at; listed = accepted_after p at answer r.at r.listed; payload = r.payload; is = r.is; writer = r.writer; frame = r.frame; there = r.there; on = r.on; with_code = r.with_code }

  -- of what the end sent that it is handed to, none came
  pub kept-aside : (y : LinkedEnd) → KeptSent p sent who y → KeptSent (after_deliver p at (received_reply answer)) sent who y
  kept-aside y k = record {
    streams = λ q.
        let P : List FramePlace → Type 0 = λ l. StreamsAt sent who q l (kept_in y.calls q) in
        subst P (sym (kept_after p at answer))
        (place_beside sent who q at payload is p.kept (kept_in y.calls q) (k.streams q) (is_frame_kept answer) (λ s from e. peer-other who (sym (writer-here sent who at payload is s from) ∙ w)));
    resets = λ q code final transmit h. resets_before who q code (k.resets q code final transmit h);
    stops = λ q code h. stops_before who q code (k.stops q code h);
  }

  -- of what the other sent it may be one
  pub kept-heard : (x z : LinkedEnd) → HearsFrame x z frame answer → KeptSent p sent (peer who) x → KeptSent (after_deliver p at (received_reply answer)) sent (peer who) z
  kept-heard x z h k = record {
    streams = λ q.
        let P : List FramePlace → Type 0 = λ l. StreamsAt sent (peer who) q l (kept_in z.calls q) in
        let Q : List Stream → Type 0 = λ l. StreamsAt sent (peer who) q (if is_frame_kept answer then at ∷ p.kept else p.kept) l in
        subst P (sym (kept_after p at answer)) (subst Q (sym (h.keeps q)) (place_frame sent (peer who) q at payload is p.kept (kept_in x.calls q) (k.streams q) frame answer there w));
    resets = λ q code final transmit i. elim (h.resets q code final transmit i) [
      | inl before ↦ resets_before (peer who) q code (k.resets q code final transmit before)
      | inr now ↦ (let P : Frame → Type 0 = λ g. IsFrameAt payload.text.bytes at.1 g in
          record {
            at = at;
            listed = accepted_now p at answer transmit now.1;
            payload = payload;
            is = is;
            writer = w;
            frame = record { id = q; error_code = code; final_offset = final };
            there = subst P now.0 there;
            on = refl;
            with_code = refl;
          })
    ];
    stops = λ q code i. elim (h.stops q code i) [
      | inl before ↦ stops_before (peer who) q code (k.stops q code before)
      | inr now ↦ (let P : Frame → Type 0 = λ g. IsFrameAt payload.text.bytes at.1 g in
          record {
            at = at;
            listed = accepted_now p at answer now.1 now.2;
            payload = payload;
            is = is;
            writer = w;
            frame = record { id = q; error_code = code };
            there = subst P now.0 there;
            on = refl;
            with_code = refl;
          })
    ];
  }
