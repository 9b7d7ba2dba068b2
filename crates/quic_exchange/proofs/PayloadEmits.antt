-- A payload that an end writes keeps a pair two linked ends.
use Rattle.std.proofs.Common.{◌≡◌, ℕ, Bool, true, false, List, [], ◌∷◌, ◌++◌, None, Result, Ok, Err, refl, sym, ap, ◌∙◌, subst, inl, inr}
use Rattle.std.specs.Prelude.{slice_index_or, map, unwrap_or}
use Rattle.std.specs.Option.{option_map}
use Rattle.std.proofs.lemmas.List.{append-nil}
use Rattle.std.proofs.lemmas.Option.{same_Some}
use Rattle.quic_values.specs.declared.memory.OutOfMemory.{OutOfMemory}
use Rattle.quic_wire.specs.declared.frame.Frame.{Frame}
use Rattle.quic_wire.specs.declared.frame.StreamMeta.{StreamMeta}
use Rattle.quic_wire.specs.Frames.{BeginsFrames, AreFrames}
use Rattle.quic_wire.proofs.Joins.{join}
use Rattle.quic_datagrams.specs.declared.stats.FrameStats.{FrameStats}
use Rattle.quic_retransmits.specs.Pending.{Pending, nothing}
use Rattle.quic_retransmits.specs.Settling.{noted_in}
use Rattle.quic_writing.specs.Appended.{frame_with}
use Rattle.quic_history.specs.World.{World}
use Rattle.quic_history.specs.Carrying.{with_writer}
use Rattle.quic_history.specs.History.{From}
use Rattle.quic_streams.specs.Settling.{SentView}
use Rattle.quic_streams.specs.Sent.{sent_view}
use Rattle.quic_streams.specs.Transmitting.{end_writer}
use Rattle.quic_link.specs.Endpoints.{LinkedEnd, Linked, IsOneOf, written_on}
use Rattle.quic_link.specs.Asked.{AreAsked}
use Rattle.quic_link.proofs.Basics.{either-of}
use Rattle.quic_link.proofs.Joint.{agrees}
use Rattle.quic_endpoint.specs.Ends.{EndState}
use Rattle.quic_endpoint.specs.Emitting.{PayloadView, control_in, place_at, EmitsStreams, EmitsNoStream}
use Rattle.quic_steps.specs.declared.steps.End.{End}
use Rattle.quic_exchange.proofs.Origins.{Origin}
use Rattle.quic_steps.specs.declared.steps.Step.TheVariants as steps
use Rattle.quic_steps.specs.declared.steps.Reply.TheVariants.{Payload}
use Rattle.quic_steps.specs.declared.steps.PairError.TheVariants.{OutOfMemory as NoMemory}
use Rattle.quic_exchange.proofs.Lists.{slice_get-push, slice_get-append_left}
use Rattle.quic_exchange.specs.Sent.{Sent}
use Rattle.quic_exchange.specs.Payloads.{SentText}
use Rattle.quic_exchange.specs.Replies.{Answer}
use Rattle.quic_exchange.specs.State.{PairState, peer}
use Rattle.quic_exchange.specs.Steps.{IsSentBy}
use Rattle.quic_exchange.specs.History.{Past, after}
use Rattle.quic_exchange.proofs.Emissions.{EmitsSomeAt, whole, cut, EmitsSome, EmittedSome}
use Rattle.quic_exchange.proofs.Joined.{Stands, IsPayloadOf, ArePayloadsOf, IsLike, Seen, Sees, Joined}
use Rattle.quic_exchange.proofs.Flips.{peer-other, joined-by}
use Rattle.quic_exchange.proofs.KeptFrames.{KeptSent, HearsNothing, hears-both, kept-as}
use Rattle.quic_exchange.proofs.PayloadKeeps.{Keeps, keeps-both}
use Rattle.quic_exchange.proofs.PayloadKnows.{StaySent, HeardSent, tells-same, stream-stays, payload-writer, payload-reader, seen-moved, seen-same}
use Rattle.quic_exchange.proofs.KeptPlaces.{kept-stay}
use Rattle.quic_exchange.proofs.PayloadQueues.{queue-bare}
use Rattle.quic_exchange.proofs.PayloadPages.{Page, page-control}
use Rattle.quic_exchange.proofs.PayloadTurns.{turns-taken}

-- x came to an end that is f, and wrote every frame of a payload, of which what was noted was asked for
pub record Emptied (x y : LinkedEnd) (payload : PayloadView) (f : EndState) : Type 0 where
  pub end : LinkedEnd
  pub linked : Linked end y
  pub keeps : Keeps x end
  pub hears : HearsNothing x end
  pub here : Stands end f
  pub notes : AreAsked end (control_in payload)
  pub all : List Frame
  pub spelled : AreFrames payload.bytes all
  pub wrote : (g : Frame) → IsOneOf g all → IsOneOf g end.wrote

-- a queue without room is the same without it
pub bare_world : (w : World) (bytes : List ℕ) → w.queue.reserved ≡ None → w ≡ with_writer w (end_writer w bytes [])
bare_world w bytes b = ap (λ r. record w { queue = record w.queue { reserved = r } }) b

pub bare_after : (w v : World) (bytes : List ℕ) (frames : List StreamMeta) → v ≡ record w { out = v.out; queue = v.queue } → v.queue.reserved ≡ None → with_writer w (end_writer v bytes frames) ≡ v
bare_after w v bytes frames e b = ap (λ r. record w { out = v.out; queue = record v.queue { reserved = r } }) (sym b) ∙ sym e

asked_at : (x : LinkedEnd) (p q : Pending) → q ≡ p → AreAsked x p → AreAsked x q
asked_at x p q e a = let P : Pending → Type 0 = λ j. AreAsked x j in subst P (sym e) a

module _ (x y : LinkedEnd) (payload : PayloadView) (between f : EndState) (bytes : List ℕ) (stats : FrameStats) (t : Page x y (place_at between bytes (control_in payload) stats)) where
  -- STREAM frames stand behind the others
  streams_written : {most : ℕ} {fair : Bool} {answer : Result (Unit {0}) OutOfMemory} → EmitsStreams most fair between bytes answer f payload → Emptied x y payload f
  streams_written {most} s =
      let z = t.end in
      let P : World → Type 0 = λ u. From z.made z.calls u in
      let from : From z.made z.calls between.streams = subst P t.world ((agrees t.linked).0).comes.from in
      let bare = queue-bare z.made z.calls between.streams from in
      let later = s.from.from z.made z.calls from in
      let bare_later = queue-bare z.made _ f.streams later in
      let turned = turns-taken z y between.streams t.linked (t.world ∙ bare_world between.streams bytes bare) s.writes.turns in
      let carried = s.carries z.made z.calls from in
      let k = turned.2 in
      let ms = map (frame_with (written_on z)) carried.frames in
      let same_frames : carried.frames ≡ turned.0 = sym carried.sent ∙ turned.1 in
      let Q : List ℕ → Type 0 = λ b. BeginsFrames b (t.all ++ ms) [] in
      record {
        end = k.end;
        linked = k.linked;
        keeps = keeps-both x z k.end t.keeps k.keeps;
        hears = hears-both x z k.end t.hears k.hears;
        here = record {
          world = k.world ∙ bare_after between.streams f.streams payload.bytes payload.sent.streams s.writes.others bare_later;
          pending = asked_at k.end between.pending f.pending s.pending (k.keeps.asked between.pending t.left);
        };
        notes = k.keeps.asked (control_in payload) t.notes;
        all = t.all ++ ms;
        spelled = subst Q (sym carried.bytes) (join (bytes ++ carried.text) carried.text [] t.all ms (t.spelled carried.text) carried.decodes);
        wrote = λ g h. elim (either-of g t.all ms h) [
          | inl a ↦ k.keeps.wrote g (t.wrote g a)
          | inr b ↦ k.wrote g (let R : List StreamMeta → Type 0 = λ fs. IsOneOf g (map (frame_with (written_on z)) fs) in subst R same_frames b)
        ];
      }

  -- none does
  no_stream_written : EmitsNoStream between bytes f payload → Emptied x y payload f
  no_stream_written s =
      let P : EndState → Type 0 = λ e. Stands t.end e in
      let Q : List ℕ → Type 0 = λ b. BeginsFrames b t.all [] in
      record {
        end = t.end;
        linked = t.linked;
        keeps = t.keeps;
        hears = t.hears;
        here = subst P (sym s.same) (record { world = t.world; pending = t.left });
        notes = t.notes;
        all = t.all;
        spelled = subst Q (append-nil bytes ∙ sym s.bytes_are) (t.spelled []);
        wrote = t.wrote;
      }

emptied : {most : ℕ} {fair : Bool} {e f : EndState} {payload : PayloadView} {answer : Result (Unit {0}) OutOfMemory} (x y : LinkedEnd) → Linked x y → Stands x e → EmitsSomeAt most fair e payload answer f → Emptied x y payload f
emptied {most} {fair} {e} {f} {payload} x y l s (whole between bytes control streams) =
    streams_written x y payload between f bytes control.after (page-control x y most e control.before control.kinds (place_at between bytes (control_in payload) control.after) (Ok tt) l s control.writes) streams
emptied {most} {fair} {e} {f} {payload} x y l s (cut {first} between bytes control none) =
    no_stream_written x y payload between f bytes control.after (page-control x y most e control.before control.kinds (place_at between bytes (control_in payload) control.after) first l s control.writes) none

-- ---- the payload is sent

no_marks : (s : SentText) (index : ℕ) → s.accepted ≡ [] → slice_index_or s.accepted index false ≡ true → ⊥
no_marks s index e h = let k = sym (ap (λ l. slice_index_or l index false) e) ∙ h in cc

-- it is a payload of its writer, of which nothing was accepted
payload_sent : (x y : LinkedEnd) (who : End) (payload : PayloadView) (f : EndState) (s : Sent) (t : Emptied x y payload f) → IsSentBy who payload s → IsPayloadOf t.end y s
payload_sent x y who payload f s t i =
    let P : List ℕ → Type 0 = λ b. AreFrames b t.all in
    record {
      all = t.all;
      spelled = subst P (sym (ap (λ (u : SentText). u.bytes) i.text)) t.spelled;
      wrote = t.wrote;
      control = λ r h.
          let same : sent_view r ≡ payload.sent = same_Some (sent_view r) payload.sent (ap (option_map sent_view) (sym h) ∙ i.rest) in
          asked_at t.end (control_in payload) (noted_in r.control) (ap (λ (v : SentView). unwrap_or v.control nothing) same) t.notes;
      accepted = λ index stream h m. absurd (no_marks s.text index (ap (λ (u : SentText). u.accepted) i.text) m);
    }

pub stay_before : (sent : List Sent) (s : Sent) → StaySent sent (sent ++ s ∷ [])
stay_before sent s k t h = (t, slice_get-append_left sent (s ∷ []) k t h, refl, refl)

pub seen-emits : (p : Past) (who : End) (old new : PairState) (x y : LinkedEnd) (most : ℕ) (fair : Bool) (answer : Result (Unit {0}) OutOfMemory) (payload : PayloadView) → Seen p who old x y → EmitsSome old who most fair answer payload new → Sees p who new x y
seen-emits p who old new x y most fair answer payload s k = seen-moved p who old new x y t.end k.end s t.linked t.keeps t.here p sents (tells-same p) stay own others heard kept_there kept_here k.is
  where
    t : Emptied x y payload k.end
    t = emptied x y s.linked s.here k.emits

    sents : List Sent
    sents = old.sent ++ k.sent ∷ []

    stay : StaySent old.sent sents
    stay = stay_before old.sent k.sent

    own : ArePayloadsOf sents who t.end y
    own number u got mine = elim (slice_get-push old.sent k.sent number u got) [
      | inl before ↦ payload-writer x y t.end u t.keeps (s.own number u before mine)
      | inr now ↦ (let P : Sent → Type 0 = λ v. IsPayloadOf t.end y v in subst P (sym now.1) (payload_sent x y who payload k.end k.sent t k.sent_is))
    ]

    others : ArePayloadsOf sents (peer who) y t.end
    others number u got mine = elim (slice_get-push old.sent k.sent number u got) [
      | inl before ↦ payload-reader y x t.end u t.keeps (s.others number u before mine)
      | inr now ↦ absurd (peer-other who (sym k.sent_is.writer ∙ sym (ap (λ (v : Sent). v.writer) now.1) ∙ mine))
    ]

    heard : HeardSent p sents (peer who) t.end
    heard q offset bytes fin transmit got =
        stream-stays old.sent sents (peer who) q p.accepted p.accepted (IsLike offset bytes fin) stay (λ at h. h) (s.receives.accepted q offset bytes fin transmit (t.hears.accepts q offset bytes fin transmit got))

    kept_there : KeptSent p sents who y
    kept_there = kept-stay p old.sent sents who y stay s.kept_there

    kept_here : KeptSent p sents (peer who) t.end
    kept_here = kept-as p p sents (peer who) x t.end refl refl t.hears (kept-stay p old.sent sents (peer who) x stay s.kept_here)

-- ---- all of these steps

pub seen-emit : (p : Past) (who : End) (old new : PairState) (x y : LinkedEnd) (most : ℕ) (fair : Bool) (reply : Answer) → Seen p who old x y → EmittedSome old who most fair reply new → Sees (after p (steps.Emit who most fair) reply) who new x y
seen-emit p who old new x y most fair (Ok (Payload number bytes)) s k = seen-emits p who old new x y most fair (Ok tt) k.payload s k.emits
seen-emit p who old new x y most fair (Err NoMemory) s k = elim k [
  | inl is ↦ seen-same p who old new x y s is
  | inr t ↦ seen-emits p who old new x y most fair t.answer t.payload s t.emits
]
seen-emit p who old new x y most fair _ s k = absurd k

pub joined-emits : (a b : Origin) (p : Past) (old new : PairState) (who : End) (most : ℕ) (fair : Bool) (reply : Answer) → Joined a b p old → EmittedSome old who most fair reply new → Joined a b p new
joined-emits a b p old new who most fair reply j k = joined-by a b p p who old new j (λ x y s. seen-emit p who old new x y most fair reply s k)
