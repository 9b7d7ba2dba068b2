-- What payloads that an end writes tell of what it sends.
use Rattle.std.proofs.Common.{◌≡◌, ℕ, Bool, true, false, List, [], ◌∷◌, ◌++◌, length, Some, None, Result, Ok, Err, refl, sym, ap, ◌∙◌, subst, inl, inr, arith, ◌≤◌, ◌+◌}
use Rattle.std.specs.Prelude.{slice_get, map, if◌then◌else◌, ◌==◌}
use Rattle.std.proofs.lemmas.List.{append-nil, append_assoc, length-append}
use Rattle.quic_values.specs.declared.memory.OutOfMemory.{OutOfMemory}
use Rattle.quic_sending.specs.Buffer.{total_length}
use Rattle.quic_sending.proofs.Cuts.{length-concat}
use Rattle.quic_wire.specs.declared.frame.Frame.{Frame}
use Rattle.quic_wire.specs.declared.frame.Frame.TheVariants as frames
use Rattle.quic_wire.specs.declared.frame.StreamMeta.{StreamMeta}
use Rattle.quic_wire.specs.Frames.{BeginsFrames, AreFrames}
use Rattle.quic_wire.proofs.Joins.{join}
use Rattle.quic_retransmits.specs.Pending.{Pending, nothing}
use Rattle.quic_flows.specs.Flow.{SendFlow, SendMove, WasCarried, with_send_move}
use Rattle.quic_outgoing.specs.Transmitting.{between}
use Rattle.quic_writing.specs.Writer.{Writer, TakesTurns, SkipsFirst, ServesFirst, none, more}
use Rattle.quic_writing.specs.Appended.{frame_with}
use Rattle.quic_history.specs.World.{World, Made}
use Rattle.quic_history.specs.Carrying.{with_writer}
use Rattle.quic_history.specs.SendEvents.{TookTurn}
use Rattle.quic_history.specs.History.{Event, LeftPending, Sending, flow}
use Rattle.quic_streams.specs.Payload.{Entry, with_entries}
use Rattle.quic_streams.specs.Transmitting.{end_writer, told_bytes}
use Rattle.quic_link.specs.Endpoints.{LinkedEnd, IsOneOf}
use Rattle.quic_link.proofs.Ends.{ArePlain}
use Rattle.quic_link.proofs.Growth.{held-told}
use Rattle.quic_link.proofs.Texts.{length-between}
use Rattle.quic_link.proofs.TrueFrames.{turn-so}
use Rattle.quic_endpoint.specs.Ends.{EndState}
use Rattle.quic_endpoint.specs.Emitting.{PayloadView, control_in, place_at, EmitsStreams, EmitsNoStream}
use Rattle.quic_exchange.proofs.Origins.{Origin}
use Rattle.quic_steps.specs.declared.steps.End.{End}
use Rattle.quic_steps.specs.declared.steps.PayloadPart.{PayloadPart}
use Rattle.quic_steps.specs.declared.steps.Step.TheVariants as steps
use Rattle.quic_steps.specs.declared.steps.Reply.TheVariants.{Payload}
use Rattle.quic_steps.specs.declared.steps.PairError.TheVariants.{OutOfMemory as NoMemory}
use Rattle.quic_exchange.specs.Sent.{Sent}
use Rattle.quic_exchange.specs.Payloads.{SentText, is_control, codes_in, metas_in, noted_of}
use Rattle.quic_exchange.specs.Replies.{Answer}
use Rattle.quic_exchange.specs.State.{PairState}
use Rattle.quic_exchange.specs.Tale.{Tale, Tales, StepTells, SendsOne, WasPayload, with_deed, with_frames_sent, told_of}
use Rattle.quic_exchange.proofs.Emissions.{EmitsKinds, EmitsSomeAt, whole, cut, EmitsSome, EmittedSome, part-tells}
use Rattle.quic_exchange.proofs.DuePayloads.{Front, front_kinds, front_first, codes-joined, codes-noted, noted-joined}
use Rattle.quic_exchange.proofs.PayloadQueues.{queue-bare}
use Rattle.quic_exchange.proofs.PayloadEmits.{bare_world, bare_after}
use Rattle.quic_exchange.proofs.Counted.{Counted, TellsSo, counted-untold, counted-deed, counted-at, tells-untold, side-held}
use Rattle.quic_exchange.proofs.Recounted.{Recounted, Retold, IsHandedBack, made_at, recount-sent, recount-same, untold}

-- ---- turns of the send queue

-- what a frame carries was sent
abbrev pub carried : StreamMeta → SendMove
carried m = WasCarried m.offsets.start m.offsets.end m.fin

abbrev with_metas_sent : List StreamMeta → Tale → Tale
with_metas_sent [] t = t
with_metas_sent (m ∷ ms) t = with_metas_sent ms (with_deed m.id (carried m) t)

one_more_sent : (ms : List StreamMeta) (m : StreamMeta) (t : Tale) → with_metas_sent (ms ++ m ∷ []) t ≡ with_deed m.id (carried m) (with_metas_sent ms t)
one_more_sent [] m t = refl
one_more_sent (k ∷ ks) m t = one_more_sent ks m (with_deed k.id (carried k) t)

-- a frame carries bytes that were written
record IsWithin (t : Tale) (m : StreamMeta) : Type 0 where
  pub ordered : m.offsets.start ≤ m.offsets.end
  pub within : m.offsets.end ≤ total_length (t.flow m.id).cuts

abbrev AreWithin : Tale → List StreamMeta → Type 0
AreWithin t [] = Unit {0}
AreWithin t (m ∷ ms) = IsWithin t m × AreWithin t ms

within_more : (t : Tale) (ms : List StreamMeta) (m : StreamMeta) → AreWithin t ms → IsWithin t m → AreWithin t (ms ++ m ∷ [])
within_more t [] m a k = (k, tt)
within_more t (j ∷ ms) m a k = (a.0, within_more t ms m a.1 k)

-- what is written stays so
cuts_if : (b : Bool) (f g : SendFlow) → f.cuts ≡ g.cuts → (if b then f else g).cuts ≡ g.cuts
cuts_if true f g e = e
cuts_if false f g e = refl

carried_cuts : (first behind : ℕ) (fin : Bool) (f : SendFlow) → (with_send_move (WasCarried first behind fin) f).cuts ≡ f.cuts
carried_cuts first behind fin f = cuts_if _ _ f refl

metas_cuts : (ms : List StreamMeta) (t : Tale) (q : ℕ) → ((with_metas_sent ms t).flow q).cuts ≡ (t.flow q).cuts
metas_cuts [] t q = refl
metas_cuts (m ∷ ms) t q = metas_cuts ms (with_deed m.id (carried m) t) q ∙ cuts_if (q == m.id) _ (t.flow q) (carried_cuts m.offsets.start m.offsets.end m.fin (t.flow q))

-- the frames of some turns, and what is told then
record TurnsCounted (m : Made) (w : World) (b : Writer) (t : Tale) (frames : List StreamMeta) : Type 0 where
  pub within : AreWithin t frames
  pub counted : Counted m (with_writer w b) (with_metas_sent frames t)

abbrev alone : Made → List Event → World → LinkedEnd
alone m h w = record { made = m; calls = h; world = w; wrote = [] }

module _ (m : Made) (most : ℕ) (fair : Bool) (w : World) (t : Tale) (b c : Writer) (frames : List StreamMeta) (k : TurnsCounted m w b t frames) where
  skipped_counted : SkipsFirst b c → TurnsCounted m w c t frames
  skipped_counted s =
      let e = Sending (TookTurn most fair None) in
      record { within = k.within; counted = counted-untold m (with_writer w b) (with_writer w c) (with_metas_sent frames t) e (untold e tt) (λ h. tt) k.counted (record { before = b; after = c; found = refl; turn = s; is = refl }) }

  served_counted : (s : ServesFirst most fair b c) → TurnsCounted m w c t (frames ++ s.frame.meta ∷ [])
  served_counted s =
      let meta = s.frame.meta in
      let e = Sending (TookTurn most fair (Some meta)) in
      let u = k.counted in
      let so = turn-so (alone m u.calls (with_writer w b)) most fair meta (with_writer w c) (record { before = b; after = c; found = refl; turn = s; meta = refl; is = refl }) in
      let told = held-told m u.calls (with_writer w b) (with_writer w b) u.from meta.id so.half so.held in
      let size = told.cuts.written in
      let ordered = so.ordered in
      let end = so.within in
      let flow_is : total_length (flow m u.calls meta.id).cuts ≡ total_length (t.flow meta.id).cuts = ap (λ (f : SendFlow). total_length f.cuts) (u.tells.flow_is meta.id) ∙ ap total_length (metas_cuts frames t meta.id) in
      let P : Tale → Type 0 = λ v. Counted m (with_writer w c) v in
      record {
        within = within_more t frames meta k.within (record { ordered = ordered; within = omega arith });
        counted = subst P (sym (one_more_sent frames meta t))
            (counted-deed m (with_writer w b) (with_writer w c) (with_metas_sent frames t) e meta.id (carried meta)
            (record { move_is = refl; limits = refl; joint = refl; taken = refl; limit = refl; window = refl; opens = λ d. refl; counts = λ d. refl }) (λ h. tt)
            (side-held u meta.id so.half so.held) u (record { before = b; after = c; found = refl; turn = s; meta = refl; is = refl }));
      }

turns_counted : {most : ℕ} {fair : Bool} {a b : Writer} (m : Made) (w : World) (t : Tale) → Counted m (with_writer w a) t → TakesTurns most fair a b → (frames : List StreamMeta) × (b.sent ≡ a.sent ++ frames) × TurnsCounted m w b t frames
turns_counted m w t c (none {a}) = ([], sym (append-nil a.sent), record { within = tt; counted = c })
turns_counted {most} {fair} m w t k (more {a} {b} {c} ts room (inl s)) =
    let before = turns_counted m w t k ts in
    (before.0, ap (λ (v : Writer). v.sent) s.is ∙ before.1, skipped_counted m most fair w t b c before.0 before.2 s)
turns_counted {most} {fair} m w t k (more {a} {b} {c} ts room (inr s)) =
    let before = turns_counted m w t k ts in
    (before.0 ++ s.frame.meta ∷ [], s.sent ∙ ap (λ v. v ++ s.frame.meta ∷ []) before.1 ∙ append_assoc a.sent before.0 (s.frame.meta ∷ []), served_counted m most fair w t b c before.0 before.2 s)

-- ---- frames as they are read

-- those beside STREAM tell nothing of streams
controls_told : (gs fs : List Frame) (t : Tale) → ((g : Frame) → IsOneOf g gs → is_control g ≡ true) → with_frames_sent (gs ++ fs) t ≡ with_frames_sent fs t
controls_told [] fs t c = refl
controls_told (frames.Stream s ∷ gs) fs t c = let e = c (frames.Stream s) (inl refl) in cc
controls_told (_ ∷ gs) fs t c = controls_told gs fs t (λ g h. c g (inr h))

-- the bytes of a frame are as many as it carries
whole_length : (written : ℕ → List ℕ) (m : StreamMeta) (t : Tale) → length (written m.id) ≡ total_length (t.flow m.id).cuts → IsWithin t m → m.offsets.start + length (between (written m.id) m.offsets.start m.offsets.end) ≡ m.offsets.end
whole_length written m t size k =
    let ordered = k.ordered in
    let within = k.within in
    let long = length-between (written m.id) m.offsets.start m.offsets.end ordered (omega arith) in
    omega arith

-- and the others what they carry
streams_told : (written : ℕ → List ℕ) (ms : List StreamMeta) (t u : Tale) → ((q : ℕ) → length (written q) ≡ total_length (t.flow q).cuts) → AreWithin t ms → with_frames_sent (map (frame_with written) ms) u ≡ with_metas_sent ms u
streams_told written [] t u l a = refl
streams_told written (m ∷ ms) t u l a =
    let end = whole_length written m t (l m.id) a.0 in
    ap (λ n. with_frames_sent (map (frame_with written) ms) (with_deed m.id (WasCarried m.offsets.start n m.fin) u)) end ∙ streams_told written ms t (with_deed m.id (carried m) u) l a.1

-- what they carry is what was handed back of them
controls_carry : (gs fs : List Frame) → ((g : Frame) → IsOneOf g gs → is_control g ≡ true) → metas_in (gs ++ fs) ≡ metas_in fs
controls_carry [] fs c = refl
controls_carry (frames.Stream s ∷ gs) fs c = let e = c (frames.Stream s) (inl refl) in cc
controls_carry (_ ∷ gs) fs c = controls_carry gs fs (λ g h. c g (inr h))

streams_carry : (written : ℕ → List ℕ) (ms : List StreamMeta) (t : Tale) → ((q : ℕ) → length (written q) ≡ total_length (t.flow q).cuts) → AreWithin t ms → metas_in (map (frame_with written) ms) ≡ ms
streams_carry written [] t l a = refl
streams_carry written (m ∷ ms) t l a =
    let again : ℕ → StreamMeta = λ n. record m { offsets = record m.offsets { end = n } } in
    ap (λ n. again n ∷ metas_in (map (frame_with written) ms)) (whole_length written m t (l m.id) a.0) ∙ ap (λ k. m ∷ k) (streams_carry written ms t l a.1)

-- none of them gives a stream up
streams_keep : (written : ℕ → List ℕ) (ms : List StreamMeta) → codes_in (map (frame_with written) ms) ≡ []
streams_keep written [] = refl
streams_keep written (m ∷ ms) = streams_keep written ms

-- nor is anything noted of them
streams_note : (written : ℕ → List ℕ) (ms : List StreamMeta) (p : Pending) → noted_of p (map (frame_with written) ms) ≡ p
streams_note written [] p = refl
streams_note written (m ∷ ms) p = streams_note written ms p

-- ---- entries beside STREAM

entries_told : (m : Made) (es : List Entry) (h : List Event) (t : Tale) → ArePlain h → TellsSo m h t → ArePlain (with_entries es h) × TellsSo m (with_entries es h) t
entries_told m [] h t p k = (p, k)
entries_told m (e ∷ es) h t p k = entries_told m es (LeftPending e.kind e.frame ∷ h) t (refl, p) (tells-untold m h (LeftPending e.kind e.frame) t (untold (LeftPending e.kind e.frame) tt) k)

control_counted : (m : Made) (t : Tale) (most : ℕ) (e f : EndState) (answer : Result (Unit {0}) OutOfMemory) (bytes : List ℕ) (sent : Pending) → EmitsKinds most e answer f bytes sent → Counted m e.streams t → Counted m f.streams t
control_counted m t most e f answer bytes sent k c =
    let w = k.from in
    let told = entries_told m w.entries c.calls t c.plain c.tells in
    record { calls = with_entries w.entries c.calls; from = w.from m c.calls c.from; plain = told.0; tells = told.1 }

-- ---- a payload

-- what a payload's bytes spell, what was handed back of its frames, and what is told then
pub record PayloadCounted (m : Made) (t : Tale) (payload : PayloadView) (f : EndState) : Type 0 where
  pub all : List Frame
  pub spelled : AreFrames payload.bytes all
  pub back : IsHandedBack payload all
  pub counted : Counted m f.streams (with_frames_sent all t)

module _ (m : Made) (t : Tale) (most : ℕ) (e between : EndState) (payload : PayloadView) (f : EndState) (bytes : List ℕ) (answer : Result (Unit {0}) OutOfMemory) (control : EmitsKinds most e answer between bytes (control_in payload)) (c : Counted m e.streams t) where
  then_counted : Counted m between.streams t
  then_counted = control_counted m t most e between answer bytes (control_in payload) control c

  begins_with : Front most (place_at e [] nothing control.before) (place_at between bytes (control_in payload) control.after)
  begins_with = front_kinds most control.kinds (place_at e [] nothing control.before) (place_at e [] nothing control.before) (place_at between bytes (control_in payload) control.after) answer (front_first most e control.before) control.writes

  streams_behind : {fair : Bool} {last : Result (Unit {0}) OutOfMemory} → EmitsStreams most fair between bytes last f payload → PayloadCounted m t payload f
  streams_behind {fair} s =
      let k = then_counted in
      let front = begins_with in
      let w = between.streams in
      let bare = queue-bare m k.calls w k.from in
      let later = s.from.from m k.calls k.from in
      let bare_later = queue-bare m _ f.streams later in
      let turned = turns_counted m w t (counted-at (with_writer w (end_writer w bytes [])) (sym (bare_world w bytes bare)) k) s.writes.turns in
      let appended = s.carries m k.calls k.from in
      let written = told_bytes m k.calls in
      let ms = map (frame_with written) appended.frames in
      let same_frames : appended.frames ≡ turned.0 = sym appended.sent ∙ turned.1 in
      let Q : List ℕ → Type 0 = λ b. BeginsFrames b (front.all ++ ms) [] in
      let long : (q : ℕ) → length (written q) ≡ total_length (t.flow q).cuts = λ q. length-concat (flow m k.calls q).cuts ∙ ap (λ (g : SendFlow). total_length g.cuts) (k.tells.flow_is q) in
      let told : with_frames_sent (front.all ++ ms) t ≡ with_metas_sent turned.0 t =
      controls_told front.all ms t front.control ∙ ap (λ l. with_frames_sent (map (frame_with written) l) t) same_frames ∙ streams_told written turned.0 t t long turned.2.within in
      let P : Tale → Type 0 = λ v. Counted m f.streams v in
      record {
        all = front.all ++ ms;
        back = record {
          metas = turned.1 ∙ sym (controls_carry front.all ms front.control ∙ ap (λ l. metas_in (map (frame_with written) l)) same_frames ∙ streams_carry written turned.0 t long turned.2.within);
          resets = codes-noted payload front.all front.noted ∙ sym (codes-joined front.all ms ∙ ap (λ l. codes_in front.all ++ l) (streams_keep written appended.frames) ∙ append-nil (codes_in front.all));
          noted = front.noted ∙ sym (noted-joined nothing front.all ms ∙ streams_note written appended.frames (noted_of nothing front.all));
        };
        spelled = subst Q (sym appended.bytes) (join (bytes ++ appended.text) appended.text [] front.all ms (front.spelled appended.text) appended.decodes);
        counted = subst P (sym told) (counted-at f.streams (sym (bare_after w f.streams payload.bytes payload.sent.streams s.writes.others bare_later)) turned.2.counted);
      }

  none_behind : EmitsNoStream between bytes f payload → PayloadCounted m t payload f
  none_behind s =
      let front = begins_with in
      let Q : List ℕ → Type 0 = λ b. BeginsFrames b front.all [] in
      let told : with_frames_sent front.all t ≡ t = ap (λ l. with_frames_sent l t) (sym (append-nil front.all)) ∙ controls_told front.all [] t front.control in
      let P : Tale → Type 0 = λ v. Counted m f.streams v in
      record {
        all = front.all;
        back = record {
          metas = s.none ∙ sym (ap metas_in (sym (append-nil front.all)) ∙ controls_carry front.all [] front.control);
          resets = codes-noted payload front.all front.noted;
          noted = front.noted;
        };
        spelled = subst Q (append-nil bytes ∙ sym s.bytes_are) (front.spelled []);
        counted = subst P (sym told) (counted-at f.streams (ap (λ (g : EndState). g.streams) s.same) then_counted);
      }

pub payload_counted : {most : ℕ} {fair : Bool} {e f : EndState} {payload : PayloadView} {answer : Result (Unit {0}) OutOfMemory} (m : Made) (t : Tale) → Counted m e.streams t → EmitsSomeAt most fair e payload answer f → PayloadCounted m t payload f
payload_counted {most} {fair} {e} {f} {payload} m t c (whole between bytes control streams) = streams_behind m t most e between payload f bytes (Ok tt) control c streams
payload_counted {most} {fair} {e} {f} {payload} m t c (cut {first} between bytes control short) = none_behind m t most e between payload f bytes first control c short

-- ---- the step

pub last_of : {X : Type 0} (xs : List X) (x : X) → slice_get (xs ++ x ∷ []) (length xs) ≡ Some x
last_of [] x = refl
last_of (y ∷ ys) x = last_of ys x

module _ (a b : Origin) (old new : PairState) (r : Recounted a b old) (who : End) (most : ℕ) (fair : Bool) where
  abbrev after : Answer → Type 0
  after reply = Retold a b old r.tales (steps.Emit who most fair) reply new

  emitted_any : (reply : Answer) (answer : Result (Unit {0}) OutOfMemory) (payload : PayloadView) → EmitsSome old who most fair answer payload new
      → ((u : Tales) (sents : List Sent) → length sents ≡ length old.sent + 1 → SendsOne sents who r.tales u → StepTells old.sent sents (steps.Emit who most fair) reply r.tales u) → after reply
  emitted_any reply answer payload k tells =
      let c = payload_counted (made_at a b who) (r.tales.of who) (r.counted who) k.emits in
      let sents = old.sent ++ k.sent ∷ [] in
      let longer = length-append old.sent (k.sent ∷ []) in
      let P : List ℕ → Type 0 = λ l. AreFrames l c.all in
      let stood : WasPayload sents who r.tales.payloads c.all =
      record { payload = k.sent; is = ap (slice_get sents) r.count ∙ last_of old.sent k.sent; writer = k.sent_is.writer; spelled = subst P (sym (ap (λ (u : SentText). u.bytes) k.sent_is.text)) c.spelled } in
      let sends : SendsOne sents who r.tales (record (told_of who (with_frames_sent c.all) r.tales) { payloads = r.tales.payloads + 1 }) = record { all = c.all; stood = stood; is = refl } in
      recount-sent a b old r (steps.Emit who most fair) reply who (with_frames_sent c.all) k.end payload k.sent new k.sent_is c.all c.spelled c.back k.is c.counted (tells _ sents longer sends)

  pub counts-emit : (reply : Answer) → EmittedSome old who most fair reply new → after reply
  counts-emit (Ok (Payload number bytes)) k = emitted_any (Ok (Payload number bytes)) (Ok tt) k.payload k.emits (λ u sents size s. (s, r.count ∙ sym k.number_is))
  counts-emit (Err NoMemory) k = elim k [
    | inl same ↦ recount-same a b old r (steps.Emit who most fair) (Err NoMemory) new same (inl (refl, refl))
    | inr t ↦ emitted_any (Err NoMemory) t.answer t.payload t.emits (λ u sents size s. inr (size, s))
  ]
  counts-emit _ k = absurd k

  -- so does a payload of one part
  pub counts-part : (part : PayloadPart) (reply : Answer) → EmittedSome old who most fair reply new → Retold a b old r.tales (steps.EmitPart who most fair part) reply new
  counts-part part reply k =
      let told = counts-emit reply k in
      record { behind = told.behind; tells = part-tells old.sent new.sent who most fair part reply r.tales told.behind.tales told.tells }
