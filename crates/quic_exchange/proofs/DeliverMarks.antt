-- A frame of a payload that is handed to the other end keeps a pair two linked ends.
use Rattle.std.proofs.Common.{◌≡◌, ℕ, Bool, true, false, List, ◌∷◌, Some, Result, Ok, Err, refl, sym, ap, ◌∙◌, subst, inl, inr}
use Rattle.std.specs.Prelude.{slice_get, slice_set, ◌==◌, if◌then◌else◌}
use Rattle.std.proofs.lemmas.Option.{same_Some}
use Rattle.quic_wire.specs.declared.frame.Frame.{Frame}
use Rattle.quic_wire.specs.declared.frame.Frame.TheVariants as frames
use Rattle.quic_wire.specs.declared.frame.Stream.{Stream}
use Rattle.quic_wire.specs.Frames.{AreFrames}
use Rattle.quic_wire.specs.declared.error.ReceiveError.{ReceiveError}
use Rattle.quic_wire.specs.declared.error.ReceiveError.TheVariants as receive_error
use Rattle.quic_receiving.specs.declared.transmit.ShouldTransmit.{ShouldTransmit}
use Rattle.quic_link.specs.Endpoints.{LinkedEnd, IsOneOf, WasAccepted}
use Rattle.quic_link.proofs.Basics.{either_true, same_id}
use Rattle.quic_endpoint.specs.Ends.{EndState}
use Rattle.quic_endpoint.specs.Receiving.{ReceivesAt}
use Rattle.quic_steps.specs.declared.steps.End.{End}
use Rattle.quic_exchange.proofs.Origins.{Origin}
use Rattle.quic_steps.specs.declared.steps.Reply.TheVariants.{Done, DoneTransmit}
use Rattle.quic_steps.specs.declared.steps.PairError.TheVariants.{NoSuchPayload, NoSuchFrame, OutOfMemory as NoMemory}
use Rattle.quic_exchange.proofs.Lists.{slice_get-slice_set, slice_set-keeps, slice_get-set_same}
use Rattle.quic_exchange.specs.Sent.{Sent}
use Rattle.quic_exchange.specs.Payloads.{SentText, IsFrameAt, IsMarked, is_accepted, meta_of}
use Rattle.quic_exchange.specs.Replies.{Answer, received_reply}
use Rattle.quic_exchange.specs.State.{PairState, peer, the_end, with_end, with_sent}
use Rattle.quic_exchange.specs.Steps.{SentAfter, HandsOver, Delivers}
use Rattle.quic_exchange.specs.History.{Past, FramePlace, after_deliver, is_kept_by}
use Rattle.quic_exchange.proofs.Joined.{IsPayloadOf, ArePayloadsOf, IsLike, Seen, Sees, Joined}
use Rattle.quic_exchange.proofs.Flips.{peer-peer, peer-other, joined-by}
use Rattle.quic_exchange.proofs.KeptFrames.{KeptSent}
use Rattle.quic_exchange.proofs.KeptPlaces.{kept-stay, kept-aside, kept-heard}
use Rattle.quic_exchange.proofs.PayloadKeeps.{Keeps}
use Rattle.quic_exchange.proofs.PayloadKnows.{Tells, tells-same, StaySent, stay-sent, stream-stays, HeardSent, accepted-more, payload-writer, payload-reader, seen-moved}
use Rattle.quic_exchange.proofs.Reports.{frame-there, frame-wrote, joined-same}
use Rattle.quic_exchange.proofs.DeliverFrames.{Hears, hears-frame}

-- ---- what is known after a delivery

tells_kept : (p : Past) (at : FramePlace) (kept : Bool) → Tells p (record p { kept = if kept then at ∷ p.kept else p.kept })
tells_kept p at kept = record { ids = λ who. refl; flow = λ who q. refl; accepted = λ place h. h }

tells_done : (p : Past) (at : FramePlace) (due : Bool) → Tells p (after_deliver p at (Ok (if due then DoneTransmit else Done)))
tells_done p at true = record { ids = λ who. refl; flow = λ who q. refl; accepted = λ place h. inr h }
tells_done p at false = record { ids = λ who. refl; flow = λ who q. refl; accepted = λ place h. inr h }

listed_done : (p : Past) (at : FramePlace) (due : Bool) → IsOneOf at (after_deliver p at (Ok (if due then DoneTransmit else Done))).accepted
listed_done p at true = inl refl
listed_done p at false = inl refl

tells_error : (p : Past) (at : FramePlace) (error : ReceiveError) → Tells p (after_deliver p at (received_reply (Err error)))
tells_error p at (receive_error.Transport error) = tells_kept p at (is_kept_by (receive_error.Transport error))
tells_error p at receive_error.CompactionMemory = tells_kept p at true
tells_error p at receive_error.OutOfMemory = tells-same p

-- ---- a payload of which one more frame is marked

abbrev pub with_marks : Sent → SentText → Sent
with_marks s marked = record s { text = marked }

pub stay_marked : (sent : List Sent) (number : ℕ) (s : Sent) (index : ℕ) (marked : SentText) → slice_get sent number ≡ Some s → IsMarked s.text index marked → StaySent sent (slice_set sent number (with_marks s marked))
stay_marked sent number s index marked is m k t h = elim (slice_set-keeps sent number k (with_marks s marked) t h) [
  | inl e ↦ (
      let same : t ≡ s = same_Some t s (sym h ∙ ap (slice_get sent) e ∙ is) in (
        with_marks s marked,
        ap (slice_get (slice_set sent number (with_marks s marked))) e ∙ slice_get-set_same sent number s (with_marks s marked) is,
        sym (ap (λ (u : Sent). u.writer) same),
        ap (λ (u : SentText). u.bytes) m.same ∙ sym (ap (λ (u : Sent). u.text.bytes) same),
      )
      )
  | inr there ↦ (t, there, refl, refl)
]

-- once a frame of it was accepted, one more mark is true
payload_marked : (y x z : LinkedEnd) (s : Sent) (index : ℕ) (marked : SentText) (g : Frame) → Keeps x z → IsPayloadOf y x s → IsFrameAt s.text.bytes index g → IsMarked s.text index marked
    → ((stream : Stream) → g ≡ frames.Stream stream → WasAccepted z.calls stream.id (meta_of stream).offsets stream.fin) → IsPayloadOf y z (with_marks s marked)
payload_marked y x z s index marked g k i at m told =
    let P : List ℕ → Type 0 = λ bytes. AreFrames bytes i.all in
    record {
      all = i.all;
      spelled = subst P (sym (ap (λ (u : SentText). u.bytes) m.same)) i.spelled;
      wrote = i.wrote;
      control = i.control;
      accepted = λ place stream h marks. elim (either_true (is_accepted s.text place) (place == index) (sym (m.marks place) ∙ marks)) [
        | inl old ↦ accepted-more x z k (meta_of stream).offsets stream.fin (i.accepted place stream h old)
        | inr new ↦ told stream (same_Some g (frames.Stream stream) (sym (frame-there y x s i index g at) ∙ ap (slice_get i.all) (sym (same_id place index new)) ∙ h))
      ];
    }

module _ (p : Past) (who : End) (old new : PairState) (x y : LinkedEnd) (number index : ℕ) (s : Seen p who old x y) (sent : Sent) (is : slice_get old.sent number ≡ Some sent) (w : sent.writer ≡ peer who) (frame : Frame)
    (at : IsFrameAt sent.text.bytes index frame) (f : EndState) where
  -- it was answered Ok
  handed_ok : (transmit : ShouldTransmit) (h : Hears x y frame (Ok transmit) f) (marked : SentText) → IsMarked sent.text index marked → new ≡ with_sent (with_end old who f) (slice_set old.sent number (with_marks sent marked))
      → Sees (after_deliver p (number, index) (received_reply (Ok transmit))) who new x y
  handed_ok transmit h marked m e = seen-moved p who old new x y h.end f s h.linked h.keeps h.here later sents t stay own others heard kept_there kept_here e
    where
      sents : List Sent
      sents = slice_set old.sent number (with_marks sent marked)

      later : Past
      later = after_deliver p (number, index) (received_reply (Ok transmit))

      t : Tells p later
      t = tells_done p (number, index) transmit.0

      stay : StaySent old.sent sents
      stay = stay_marked old.sent number sent index marked is m

      own : ArePayloadsOf sents who h.end y
      own k u got mine = elim (slice_get-slice_set old.sent number k (with_marks sent marked) u got) [
        | inl n ↦ absurd (peer-other who (sym mine ∙ ap (λ (v : Sent). v.writer) n.1 ∙ w))
        | inr o ↦ payload-writer x y h.end u h.keeps (s.own k u o mine)
      ]

      others : ArePayloadsOf sents (peer who) y h.end
      others k u got mine = elim (slice_get-slice_set old.sent number k (with_marks sent marked) u got) [
        | inl n ↦ (let P : Sent → Type 0 = λ v. IsPayloadOf y h.end v in
            subst P (sym n.1) (payload_marked y x h.end sent index marked frame h.keeps (s.others number sent is w) at m (λ stream g. h.told stream transmit g refl)))
        | inr o ↦ payload-reader y x h.end u h.keeps (s.others k u o mine)
      ]

      heard : HeardSent later sents (peer who) h.end
      heard q offset bytes fin answer got = elim (h.heard q offset bytes fin answer got) [
        | inl before ↦ stream-stays old.sent sents (peer who) q p.accepted later.accepted (IsLike offset bytes fin) stay t.accepted (s.receives.accepted q offset bytes fin answer before)
        | inr new ↦ (let g : Stream = record { id = q; offset = offset; fin = fin; bytes = bytes } in
            let P : Frame → Type 0 = λ j. IsFrameAt sent.text.bytes index j in
            let Q : List ℕ → Type 0 = λ b. IsFrameAt b index (frames.Stream g) in
            record {
              at = (number, index);
              listed = listed_done p (number, index) transmit.0;
              stream = g;
              sent_as = record {
                payload = with_marks sent marked;
                is = slice_get-set_same old.sent number sent (with_marks sent marked) is;
                writer = w;
                frame = subst Q (sym (ap (λ (u : SentText). u.bytes) m.same)) (subst P new.0 at);
              };
              on = refl;
              is = record { offset_is = refl; bytes_are = refl; fin_is = refl };
            })
      ]

      marked_there : IsFrameAt marked.bytes index frame
      marked_there = let P : List ℕ → Type 0 = λ b. IsFrameAt b index frame in subst P (sym (ap (λ (u : SentText). u.bytes) m.same)) at

      kept_there : KeptSent later sents who y
      kept_there = kept-aside p sents who (number, index) (with_marks sent marked) (slice_get-set_same old.sent number sent (with_marks sent marked) is) w frame marked_there (Ok transmit) y (kept-stay p old.sent sents who y stay s.kept_there)

      kept_here : KeptSent later sents (peer who) h.end
      kept_here = kept-heard p sents who (number, index) (with_marks sent marked) (slice_get-set_same old.sent number sent (with_marks sent marked) is) w frame marked_there (Ok transmit) x h.end h.frame_heard (kept-stay p old.sent sents (peer who) x stay s.kept_here)

  -- it was refused
  handed_error : (error : ReceiveError) (h : Hears x y frame (Err error) f) → new ≡ with_sent (with_end old who f) old.sent → Sees (after_deliver p (number, index) (received_reply (Err error))) who new x y
  handed_error error h e = seen-moved p who old new x y h.end f s h.linked h.keeps h.here (after_deliver p (number, index) (received_reply (Err error))) old.sent t (stay-sent old.sent)
      (λ k u got mine. payload-writer x y h.end u h.keeps (s.own k u got mine))
      (λ k u got mine. payload-reader y x h.end u h.keeps (s.others k u got mine))
      heard (kept-aside p old.sent who (number, index) sent is w frame at (Err error) y s.kept_there) (kept-heard p old.sent who (number, index) sent is w frame at (Err error) x h.end h.frame_heard s.kept_here) e
    where
      t : Tells p (after_deliver p (number, index) (received_reply (Err error)))
      t = tells_error p (number, index) error

      heard : HeardSent (after_deliver p (number, index) (received_reply (Err error))) old.sent (peer who) h.end
      heard q offset bytes fin answer got = elim (h.heard q offset bytes fin answer got) [
        | inl before ↦ stream-stays old.sent old.sent (peer who) q p.accepted (after_deliver p (number, index) (received_reply (Err error))).accepted (IsLike offset bytes fin) (stay-sent old.sent) t.accepted (s.receives.accepted q offset bytes fin answer before)
        | inr new ↦ absurd (let k = new.1 in cc)
      ]

  handed : (answer : Result ShouldTransmit ReceiveError) (sents : List Sent) → Hears x y frame answer f → SentAfter old.sent number sent index answer sents → new ≡ with_sent (with_end old who f) sents
      → Sees (after_deliver p (number, index) (received_reply answer)) who new x y
  handed (Ok transmit) sents h after e = handed_ok transmit h after.0 after.1 (e ∙ ap (with_sent (with_end old who f)) after.2)
  handed (Err error) sents h after e = handed_error error h (e ∙ ap (with_sent (with_end old who f)) after)

pub seen-hands-over : (p : Past) (who : End) (old new : PairState) (x y : LinkedEnd) (number index : ℕ) (reply : Answer) → Seen p who old x y → (k : HandsOver old number index reply new) → k.payload.sent.writer ≡ peer who
    → Sees (after_deliver p (number, index) reply) who new x y
seen-hands-over p who old new x y number index reply s k w =
    let to : peer k.payload.sent.writer ≡ who = ap peer w ∙ peer-peer who in
    let P : End → Type 0 = λ v. ReceivesAt (the_end old v) k.frame k.answer k.end in
    let Q : Answer → Type 0 = λ r. Sees (after_deliver p (number, index) r) who new x y in
    let wrote = frame-wrote y x k.payload.sent (s.others number k.payload.sent k.payload.is w) index k.frame k.at in
    let h = hears-frame x y (the_end old who) k.end k.frame k.answer s.linked s.here wrote (subst P to k.receives) in
    subst Q (sym k.reply_is)
    (handed p who old new x y number index s k.payload.sent k.payload.is w k.frame k.at k.end k.answer new.sent h k.sent (k.is ∙ ap (λ v. with_sent (with_end old v k.end) new.sent) to))

-- ---- all of these steps

module _ (a b : Origin) (p : Past) (old new : PairState) (number index : ℕ) (j : Joined a b p old) where
  handed_over : (reply : Answer) → HandsOver old number index reply new → Joined a b (after_deliver p (number, index) reply) new
  handed_over reply k =
      let who = peer k.payload.sent.writer in
      joined-by a b p (after_deliver p (number, index) reply) who old new j (λ x y s. seen-hands-over p who old new x y number index reply s k (sym (peer-peer k.payload.sent.writer)))

  pub joined-delivers : (reply : Answer) → Delivers old number index reply new → Joined a b (after_deliver p (number, index) reply) new
  joined-delivers (Err NoSuchPayload) k = joined-same a b p old new number j k.1
  joined-delivers (Err NoSuchFrame) k = joined-same a b p old new number j k.is
  joined-delivers (Err NoMemory) k = elim k [ inl w ↦ joined-same a b p old new number j w.1 | inr t ↦ handed_over (Err NoMemory) t ]
  joined-delivers reply k = handed_over reply k
