-- What the steps tell stays told, as an end is called, payloads are sent and frames are marked.
use Rattle.std.proofs.Common.{◌≡◌, ℕ, Bool, List, Some, Ok, refl, sym, ap, ◌∙◌, subst, ◌<◌}
use Rattle.std.specs.Prelude.{slice_get}
use Rattle.std.specs.List.{concat}
use Rattle.std.specs.declared.ops.Range.{Range}
use Rattle.quic_wire.specs.declared.frame.Frame.TheVariants as frames
use Rattle.quic_wire.specs.declared.frame.Stream.{Stream}
use Rattle.quic_receiving.specs.declared.transmit.ShouldTransmit.{ShouldTransmit}
use Rattle.quic_retransmits.specs.Settling.{noted_in}
use Rattle.quic_sending.specs.Buffer.{total_length}
use Rattle.quic_history.specs.History.{Received}
use Rattle.quic_link.specs.Endpoints.{LinkedEnd, Linked, IsOneOf, WasAccepted}
use Rattle.quic_link.specs.Promises.{CameWhole, CameAt}
use Rattle.quic_link.specs.Truths.{amount_on}
use Rattle.quic_endpoint.specs.Ends.{EndState}
use Rattle.quic_steps.specs.declared.steps.End.{End}
use Rattle.quic_steps.specs.declared.steps.End.TheVariants.{A, B}
use Rattle.quic_exchange.specs.Sent.{Sent}
use Rattle.quic_exchange.specs.Payloads.{IsFrameAt, meta_of}
use Rattle.quic_exchange.specs.State.{PairState, peer, the_end, with_end, with_sent}
use Rattle.quic_exchange.specs.History.{Past, Flow, FramePlace}
use Rattle.quic_exchange.specs.Headline.{SomeStream}
use Rattle.quic_exchange.proofs.Gives.{AreGiven, given-still}
use Rattle.quic_exchange.proofs.Joined.{Stands, IsPayloadOf, IsLike, Knows, ArePayloadsOf, Seen, Sees}
use Rattle.quic_exchange.proofs.KeptFrames.{KeptSent, HearsNothing, kept-as}
use Rattle.quic_exchange.proofs.PayloadKeeps.{Keeps}

-- ---- payloads that were sent

-- each stays, with its writer and its bytes
abbrev pub StaySent : List Sent → List Sent → Type 0
StaySent sent more = (k : ℕ) (s : Sent) → slice_get sent k ≡ Some s → (t : Sent) × (slice_get more k ≡ Some t) × (t.writer ≡ s.writer) × (t.text.bytes ≡ s.text.bytes)

pub stay-sent : (sent : List Sent) → StaySent sent sent
stay-sent sent k s h = (s, h, refl, refl)

-- what is accepted stays accepted, and nothing else is told
pub record Tells (p p' : Past) : Type 0 where
  pub ids : (who : End) → p'.ids who ≡ p.ids who
  pub flow : (who : End) (q : ℕ) → p'.flow who q ≡ p.flow who q
  pub accepted : (at : FramePlace) → IsOneOf at p.accepted → IsOneOf at p'.accepted

pub tells-same : (p : Past) → Tells p p
tells-same p = record { ids = λ who. refl; flow = λ who q. refl; accepted = λ at h. h }

pub stream-stays : (sent more : List Sent) (who : End) (id : ℕ) (ps qs : List FramePlace) (Is : Stream → Type 0) → StaySent sent more → ((at : FramePlace) → IsOneOf at ps → IsOneOf at qs) → SomeStream sent who id ps Is → SomeStream more who id qs Is
stream-stays sent more who id ps qs Is stay place s =
    let k = stay s.at.0 s.sent_as.payload s.sent_as.is in
    let P : List ℕ → Type 0 = λ bytes. IsFrameAt bytes s.at.1 (frames.Stream s.stream) in
    record {
      at = s.at;
      listed = place s.at s.listed;
      stream = s.stream;
      sent_as = record { payload = k.0; is = k.1; writer = k.2 ∙ s.sent_as.writer; frame = subst P (sym k.3) s.sent_as.frame };
      on = s.on;
      is = s.is;
    }

-- ---- what the steps tell

-- it stays told once more is known, and more was sent
pub knows-more : (p p' : Past) (sent more : List Sent) (who : End) (x y : LinkedEnd) → Tells p p' → StaySent sent more → Knows p sent who x y → Knows p' more who x y
knows-more p p' sent more who x y t stay k = record {
  ids = subst (AreGiven x) (sym (t.ids who)) k.ids;
  written = λ q. k.written q ∙ sym (ap (λ (f : Flow). f.written) (t.flow who q));
  finished = λ q. k.finished q ∙ sym (ap (λ (f : Flow). f.finished) (t.flow who q));
  resets = λ q code h. let P : Flow → Type 0 = λ f. IsOneOf code f.resets in subst P (sym (t.flow who q)) (k.resets q code h);
  stops = λ q code h. let P : Flow → Type 0 = λ f. IsOneOf code f.stops in subst P (sym (t.flow who q)) (k.stops q code h);
  given = λ q. k.given q ∙ sym (ap (λ (f : Flow). f.given) (t.flow who q));
  ended = λ q. k.ended q ∙ sym (ap (λ (f : Flow). f.ended) (t.flow who q));
  unordered = λ q h. ap (λ (f : Flow). f.unordered) (t.flow who q) ∙ k.unordered q h;
  told_resets = λ q code h. let P : Flow → Type 0 = λ f. IsOneOf code f.told_resets in k.told_resets q code (subst P (t.flow who q) h);
  told_stops = λ q code h. let P : Flow → Type 0 = λ f. IsOneOf code f.told_stops in k.told_stops q code (subst P (t.flow who q) h);
  complete = λ q h. k.complete q (sym (ap (λ (f : Flow). f.complete) (t.flow who q)) ∙ h);
  accepted = λ q offset bytes fin transmit h. stream-stays sent more who q p.accepted p'.accepted (IsLike offset bytes fin) stay t.accepted (k.accepted q offset bytes fin transmit h);
}

-- what came whole from an end that is called still did
whole_sender : (x y z : LinkedEnd) (q : ℕ) → Keeps x z → CameWhole x y q → CameWhole z y q
whole_sender x y z q k c =
    let f = k.flows q in
    let amount : amount_on z q ≡ amount_on x q = ap total_length f.cuts in
    let P : ℕ → Type 0 = λ n. (at : ℕ) → at < n → CameAt y.calls q at in
    record { finished = f.finished ∙ c.finished; bytes = subst P (sym amount) c.bytes; end = c.end }

whole_receiver : (x y z : LinkedEnd) (q : ℕ) → Keeps y z → CameWhole x y q → CameWhole x z q
whole_receiver x y z q k c = record {
  finished = c.finished;
  bytes = λ at h. came (c.bytes at h);
  end = let e = c.end in record { offset = e.offset; bytes = e.bytes; transmit = e.transmit; is = k.calls _ e.is };
}
  where
    came : {at : ℕ} → CameAt y.calls q at → CameAt z.calls q at
    came e = record { offset = e.offset; bytes = e.bytes; fin = e.fin; transmit = e.transmit; is = k.calls (Received q e.offset e.bytes e.fin (Ok e.transmit)) e.is; has = e.has }

-- the end that sends is called
pub knows-sender : (p : Past) (sent : List Sent) (who : End) (x y z : LinkedEnd) → Keeps x z → Knows p sent who x y → Knows p sent who z y
knows-sender p sent who x y z k n = record {
  ids = given-still x z (p.ids who) k.calls k.given n.ids;
  written = λ q. ap concat (k.flows q).cuts ∙ n.written q;
  finished = λ q. (k.flows q).finished ∙ n.finished q;
  resets = λ q code h. n.resets q code (sym (k.flows q).reset ∙ h);
  stops = n.stops;
  given = n.given;
  ended = n.ended;
  unordered = n.unordered;
  told_resets = λ q code h. (k.flows q).reset ∙ n.told_resets q code h;
  told_stops = n.told_stops;
  complete = λ q h. whole_sender x y z q k (n.complete q h);
  accepted = n.accepted;
}

-- each STREAM frame that was accepted was sent, and is listed
abbrev pub HeardSent : Past → List Sent → End → LinkedEnd → Type 0
HeardSent p sent who y = (q offset : ℕ) (bytes : List ℕ) (fin : Bool) (transmit : ShouldTransmit) → IsOneOf (Received q offset bytes fin (Ok transmit)) y.calls → SomeStream sent who q p.accepted (IsLike offset bytes fin)

-- the end that receives is
pub knows-receiver : (p : Past) (sent : List Sent) (who : End) (x y z : LinkedEnd) → Keeps y z → HeardSent p sent who z → Knows p sent who x y → Knows p sent who x z
knows-receiver p sent who x y z k heard n = record {
  ids = n.ids;
  written = n.written;
  finished = n.finished;
  resets = n.resets;
  stops = λ q code h. n.stops q code (k.stops q code h);
  given = λ q. (k.traces q).given ∙ n.given q;
  ended = λ q. (k.traces q).ended ∙ n.ended q;
  unordered = λ q h. n.unordered q (k.modes q h);
  told_resets = n.told_resets;
  told_stops = λ q code h. k.calls _ (n.told_stops q code h);
  complete = λ q h. whole_receiver x y z q k (n.complete q h);
  accepted = heard;
}

-- ---- payloads

pub payload-writer : (x y z : LinkedEnd) (s : Sent) → Keeps x z → IsPayloadOf x y s → IsPayloadOf z y s
payload-writer x y z s k i = record { all = i.all; spelled = i.spelled; wrote = λ g h. k.wrote g (i.wrote g h); control = λ r h. k.asked (noted_in r.control) (i.control r h); accepted = i.accepted }

pub accepted-more : (y z : LinkedEnd) {id : ℕ} → Keeps y z → (offsets : Range ℕ) (fin : Bool) → WasAccepted y.calls id offsets fin → WasAccepted z.calls id offsets fin
accepted-more y z {id} k offsets fin a = record { bytes = a.bytes; transmit = a.transmit; is = k.calls (Received id offsets.start a.bytes fin (Ok a.transmit)) a.is; behind = a.behind }

pub payload-reader : (x y z : LinkedEnd) (s : Sent) → Keeps y z → IsPayloadOf x y s → IsPayloadOf x z s
payload-reader x y z s k i = record { all = i.all; spelled = i.spelled; wrote = i.wrote; control = i.control; accepted = λ index stream h m. accepted-more y z k (meta_of stream).offsets stream.fin (i.accepted index stream h m) }

-- ---- a pair

-- a pair of which one end is x now
pub seen-made : (p : Past) (who : End) (old : PairState) (sent : List Sent) (x y : LinkedEnd) (f : EndState) → Linked x y → Stands x f → Stands y (the_end old (peer who)) → ArePayloadsOf sent who x y → ArePayloadsOf sent (peer who) y x
    → Knows p sent who x y → Knows p sent (peer who) y x → KeptSent p sent who y → KeptSent p sent (peer who) x → Seen p who (with_sent (with_end old who f) sent) x y
seen-made p A old sent x y f l here there own others sends receives kept heard = record { linked = l; here = here; there = there; own = own; others = others; sends = sends; receives = receives; kept_there = kept; kept_here = heard }
seen-made p B old sent x y f l here there own others sends receives kept heard = record { linked = l; here = here; there = there; own = own; others = others; sends = sends; receives = receives; kept_there = kept; kept_here = heard }

same_sent : (old : PairState) (who : End) (f : EndState) → with_sent (with_end old who f) old.sent ≡ with_end old who f
same_sent old A f = refl
same_sent old B f = refl

module _ (p : Past) (who : End) (old new : PairState) (x y z : LinkedEnd) (f : EndState) (s : Seen p who old x y) (l : Linked z y) (k : Keeps x z) (here : Stands z f) where
  -- the end was called, and payloads and marks are more
  pub seen-moved : (p' : Past) (sent : List Sent) → Tells p p' → StaySent old.sent sent → ArePayloadsOf sent who z y → ArePayloadsOf sent (peer who) y z → HeardSent p' sent (peer who) z
      → KeptSent p' sent who y → KeptSent p' sent (peer who) z → new ≡ with_sent (with_end old who f) sent
      → Sees p' who new x y
  seen-moved p' sent t stay own others heard kept_there kept_here is = record {
    end = z;
    made = k.made;
    seen = let P : PairState → Type 0 = λ v. Seen p' who v z y in
        subst P (sym is) (seen-made p' who old sent z y f l here s.there own others (knows-more p p' old.sent sent who z y t stay (knows-sender p old.sent who x y z k s.sends))
        (knows-receiver p' sent (peer who) y x z k heard (knows-more p p' old.sent sent (peer who) y x t stay s.receives)) kept_there kept_here);
  }

  -- it was called, and nothing else changed
  pub seen-called : HearsNothing x z → new ≡ with_end old who f → Sees p who new x y
  seen-called hears is = seen-moved p old.sent (tells-same p) (stay-sent old.sent)
      (λ number t h w. payload-writer x y z t k (s.own number t h w))
      (λ number t h w. payload-reader y x z t k (s.others number t h w))
      (λ q offset bytes fin transmit h. s.receives.accepted q offset bytes fin transmit (hears.accepts q offset bytes fin transmit h))
      s.kept_there (kept-as p p old.sent (peer who) x z refl refl hears s.kept_here)
      (is ∙ sym (same_sent old who f))

-- nothing changed
pub seen-same : (p : Past) (who : End) (old new : PairState) (x y : LinkedEnd) → Seen p who old x y → new ≡ old → Sees p who new x y
seen-same p who old new x y s is = record { end = x; made = refl; seen = let P : PairState → Type 0 = λ v. Seen p who v x y in subst P (sym is) s }
