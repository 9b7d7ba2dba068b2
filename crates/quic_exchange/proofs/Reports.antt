-- Reports of payloads are calls of a linked end.
use Rattle.std.proofs.Common.{◌≡◌, ℕ, List, [], ◌∷◌, ◌++◌, Option, Some, None, Result, Ok, Err, refl, sym, ap, ◌∙◌, subst, Bool, true, false, inl, inr}
use Rattle.std.specs.Prelude.{slice_get, slice_set, unwrap_or}
use Rattle.std.proofs.lemmas.Option.{same_Some, none-some}
use Rattle.quic_wire.specs.declared.frame.Frame.{Frame}
use Rattle.quic_wire.specs.declared.frame.Frame.TheVariants as frames
use Rattle.quic_wire.specs.declared.frame.Stream.{Stream}
use Rattle.quic_wire.specs.declared.frame.StreamMeta.{StreamMeta}
use Rattle.quic_wire.proofs.Joins.{same}
use Rattle.quic_retransmits.specs.Pending.{Pending, nothing, merged_if, thin_view}
use Rattle.quic_retransmits.specs.Settling.{noted_in}
use Rattle.quic_history.specs.World.{World}
use Rattle.quic_history.specs.Receiving.{with_max_streams}
use Rattle.quic_history.specs.SendEvents.{SendEvent, SendStep, LostOwn, AckedOwn, ResetAckedOwn}
use Rattle.quic_history.specs.History.{Sending}
use Rattle.quic_streams.specs.declared.settling.SentPayload.{SentPayload}
use Rattle.quic_streams.specs.Sent.{sent_view, report_view}
use Rattle.quic_streams.specs.Settling.{SentView, EachInOrder, AcksMeta, LosesMeta, AcksResetOf, resets_of}
use Rattle.quic_link.specs.Endpoints.{LinkedEnd, Linked, IsOneOf, first_acts, MayAct, acted, IsHonestSending, WasWrittenAs, WasAccepted}
use Rattle.quic_link.specs.Asked.{AreAsked}
use Rattle.quic_link.proofs.AskedFor.{asked-merged}
use Rattle.quic_endpoint.specs.Ends.{EndState, with_world, with_counts_told, with_counts_told_if}
use Rattle.quic_endpoint.specs.Reports.{LosesPayloadAt, AcksPayloadAt}
use Rattle.quic_steps.specs.declared.steps.End.{End}
use Rattle.quic_exchange.proofs.Origins.{Origin}
use Rattle.quic_steps.specs.declared.steps.Reply.TheVariants.{Done}
use Rattle.quic_steps.specs.declared.steps.PairError.TheVariants.{NoSuchPayload, NotAccepted, AlreadySettled, OutOfMemory as NoMemory}
use Rattle.quic_exchange.specs.Sent.{Sent, Unsettled}
use Rattle.quic_exchange.specs.declared.unsettled.Report.{Report}
use Rattle.quic_exchange.specs.declared.unsettled.Report.TheVariants.{Lost, Acknowledged}
use Rattle.quic_exchange.specs.Payloads.{IsFrameAt, AreAllAccepted, meta_of}
use Rattle.quic_exchange.specs.Unsettled.{unsettled_after}
use Rattle.quic_exchange.specs.Replies.{Answer}
use Rattle.quic_exchange.specs.State.{PairState, peer, the_end, with_end, with_sent}
use Rattle.quic_exchange.specs.Steps.{Reports, SettlesPayload}
use Rattle.quic_exchange.specs.History.{Past, after_report}
use Rattle.quic_exchange.proofs.Lists.{slice_get-slice_set, slice_set-keeps, slice_get-set_same, slice_get-within, got-one, one-of-first, place-of}
use Rattle.quic_exchange.proofs.Left.{AreLeft, metas-among}
use Rattle.quic_exchange.proofs.Joined.{Stands, IsPayloadOf, ArePayloadsOf, Seen, Sees, Joined}
use Rattle.quic_exchange.proofs.Flips.{joined-by, peer-other}
use Rattle.quic_exchange.proofs.KeptFrames.{KeptSent, HearsNothing, IsNoFrame, hears-none, hears-both, kept-as}
use Rattle.quic_exchange.proofs.KeptPlaces.{kept-stay}
use Rattle.quic_exchange.proofs.PayloadKeeps.{Keeps, IsQuietSend, keeps-refl, keeps-both, keeps-send, hears-send}
use Rattle.quic_exchange.proofs.PayloadKnows.{Tells, StaySent, HeardSent, stream-stays, payload-writer, payload-reader, seen-moved}
use Rattle.quic_exchange.proofs.Joined.{IsLike}

-- ---- frames at their places

-- a frame that stands in a payload at a place is that of its list
pub frame-there : (x y : LinkedEnd) (s : Sent) (i : IsPayloadOf x y s) (index : ℕ) (g : Frame) → IsFrameAt s.text.bytes index g → slice_get i.all index ≡ Some g
frame-there x y s i index g at = ap (λ (fs : List Frame). slice_get fs index) (same s.text.bytes i.all at.all i.spelled at.spelled) ∙ at.at

-- and its writer wrote it
pub frame-wrote : (x y : LinkedEnd) (s : Sent) (i : IsPayloadOf x y s) (index : ℕ) (g : Frame) → IsFrameAt s.text.bytes index g → IsOneOf g x.wrote
frame-wrote x y s i index g at = i.wrote g (got-one i.all index g (frame-there x y s i index g at))

-- ---- calls of an end

-- x came, by calls that the steps tell nothing of, to an end that is f
pub record Reaches (x y : LinkedEnd) (f : EndState) : Type 0 where
  pub end : LinkedEnd
  pub linked : Linked end y
  pub keeps : Keeps x end
  pub hears : HearsNothing x end
  pub here : Stands end f

-- MAX_STREAMS and MAX_DATA were not asked for
pub asked-flags : (x : LinkedEnd) (p q : Pending) → q ≡ record p { max_data = q.max_data; max_streams_bi = q.max_streams_bi; max_streams_uni = q.max_streams_uni } → AreAsked x p → AreAsked x q
asked-flags x p q e a = let P : Pending → Type 0 = λ j. AreAsked x j in subst P (sym e) (record { resets = a.resets; stops = a.stops; windows = a.windows })

pub stands-told : (x : LinkedEnd) (e : EndState) → Stands x e → Stands x (with_counts_told e)
stands-told x e s = record { world = s.world; pending = asked-flags x e.pending (with_max_streams e.streams e.pending) refl s.pending }

pub stands-told-if : (x : LinkedEnd) (b : Bool) (e : EndState) → Stands x e → Stands x (with_counts_told_if b e)
stands-told-if x true e s = stands-told x e s
stands-told-if x false e s = s

pub stands-at : (x : LinkedEnd) (e f : EndState) → e ≡ f → Stands x f → Stands x e
stands-at x e f k s = let P : EndState → Type 0 = λ j. Stands x j in subst P (sym k) s

-- a call on the sending side that the steps tell nothing of, after which as much is pending
pub reached-send : (x y : LinkedEnd) (e f : EndState) (event : SendEvent) → Linked x y → Stands x e → IsQuietSend event → IsNoFrame (Sending event) → IsHonestSending x y event → SendStep e.streams event f.streams → f.pending ≡ e.pending → Reaches x y f
reached-send x y e f event l s quiet none_heard honest step pending =
    let P : World → Type 0 = λ u. SendStep u event f.streams in
    let may : MayAct x y (Sending event) f.streams = record { fits = tt; honest = honest; step = subst P (sym s.world) step } in
    let k = keeps-send x y event f.streams quiet l may in
    let Q : Pending → Type 0 = λ q. AreAsked (acted x (Sending event) f.streams) q in
    record {
      end = acted x (Sending event) f.streams;
      linked = first_acts (Sending event) f.streams l may;
      keeps = k;
      hears = hears-send x event f.streams none_heard;
      here = record { world = refl; pending = subst Q (sym pending) (k.asked e.pending s.pending) };
    }

pub reached-told : (x y : LinkedEnd) (e f : EndState) (b : Bool) → Reaches x y e → f ≡ with_counts_told_if b e → Reaches x y f
reached-told x y e f b r is = record { end = r.end; linked = r.linked; keeps = r.keeps; hears = r.hears; here = stands-at r.end f (with_counts_told_if b e) is (stands-told-if r.end b e r.here) }

pub reached-both : (x y : LinkedEnd) (f : EndState) (r : Reaches x y f) (g : EndState) → Reaches r.end y g → Reaches x y g
reached-both x y f r g t = record {
  end = t.end;
  linked = t.linked;
  keeps = keeps-both x r.end t.end r.keeps t.keeps;
  hears = hears-both x r.end t.end r.hears t.hears;
  here = t.here;
}

pub reached-same : (x y : LinkedEnd) (e : EndState) → Linked x y → Stands x e → Reaches x y e
reached-same x y e l s = record { end = x; linked = l; keeps = keeps-refl x; hears = hears-none x; here = s }

-- another end, with as much pending as is asked for
reached_as : (x y : LinkedEnd) (e f : EndState) (r : Reaches x y e) → f.streams ≡ e.streams → AreAsked r.end f.pending → Reaches x y f
reached_as x y e f r world asked = record { end = r.end; linked = r.linked; keeps = r.keeps; hears = r.hears; here = record { world = r.here.world ∙ sym world; pending = asked } }

-- ---- reports of one frame after another

module _ {T : Type 0} (Each : World → T → World → Type 0) (Told : LinkedEnd → T → Type 0) (y : LinkedEnd)
    (one : (x : LinkedEnd) (e : EndState) (t : T) (w : World) → Linked x y → Stands x e → Told x t → Each e.streams t w → Reaches x y (with_world e w)) (still : (x z : LinkedEnd) (t : T) → Keeps x z → Told x t → Told z t) where
  row_reached : (ts : List T) (x : LinkedEnd) (e : EndState) (v : World) → Linked x y → Stands x e → ((t : T) → IsOneOf t ts → Told x t) → EachInOrder Each e.streams ts v → Reaches x y (with_world e v)
  row_reached [] x e v l s told k = reached-same x y (with_world e v) l (stands-at x (with_world e v) e (ap (with_world e) k) s)
  row_reached (t ∷ ts) x e v l s told k =
      let r = one x e t k.0 l s (told t (inl refl)) k.1 in
      reached-both x y (with_world e k.0) r (with_world e v) (row_reached ts r.end (with_world e k.0) v r.linked r.here (λ j h. still x r.end j r.keeps (told j (inr h))) k.2)

abbrev IsAccepted : LinkedEnd → LinkedEnd → StreamMeta → Type 0
IsAccepted y x m = WasAccepted y.calls m.id m.offsets m.fin

abbrev IsWritten : LinkedEnd → StreamMeta → Type 0
IsWritten x m = WasWrittenAs x.wrote m.id m.offsets m.fin

abbrev IsAny : LinkedEnd → ℕ × ℕ → Type 0
IsAny x reset = Unit {0}

module _ (y : LinkedEnd) where
  ack_reached : (x : LinkedEnd) (e : EndState) (m : StreamMeta) (w : World) → Linked x y → Stands x e → IsAccepted y x m → AcksMeta e.streams m w → Reaches x y (with_world e w)
  ack_reached x e m w l s told k = reached-send x y e (with_world e w) (AckedOwn m.id m.offsets m.fin (Ok tt)) l s tt tt told k refl

  loss_reached : (x : LinkedEnd) (e : EndState) (m : StreamMeta) (w : World) → Linked x y → Stands x e → IsWritten x m → LosesMeta e.streams m w → Reaches x y (with_world e w)
  loss_reached x e m w l s told k = reached-send x y e (with_world e w) (LostOwn m.id m.offsets m.fin (Ok tt)) l s tt tt told k refl

  reset_reached : (x : LinkedEnd) (e : EndState) (t : ℕ × ℕ) (w : World) → Linked x y → Stands x e → IsAny x t → AcksResetOf e.streams t w → Reaches x y (with_world e w)
  reset_reached x e t w l s told k = reached-send x y e (with_world e w) (ResetAckedOwn t.0 (Ok tt)) l s tt tt tt k refl

  written_still : (x z : LinkedEnd) (m : StreamMeta) → Keeps x z → IsWritten x m → IsWritten z m
  written_still x z m k w = record { bytes = w.bytes; is = k.wrote _ w.is; behind = w.behind }

  acks_reached : (ms : List StreamMeta) (x : LinkedEnd) (e : EndState) (v : World) → Linked x y → Stands x e → ((m : StreamMeta) → IsOneOf m ms → IsAccepted y x m) → EachInOrder AcksMeta e.streams ms v → Reaches x y (with_world e v)
  acks_reached = row_reached AcksMeta (IsAccepted y) y ack_reached (λ x z m k a. a)

  losses_reached : (ms : List StreamMeta) (x : LinkedEnd) (e : EndState) (v : World) → Linked x y → Stands x e → ((m : StreamMeta) → IsOneOf m ms → IsWritten x m) → EachInOrder LosesMeta e.streams ms v → Reaches x y (with_world e v)
  losses_reached = row_reached LosesMeta IsWritten y loss_reached written_still

  resets_reached : (ts : List (ℕ × ℕ)) (x : LinkedEnd) (e : EndState) (v : World) → Linked x y → Stands x e → EachInOrder AcksResetOf e.streams ts v → Reaches x y (with_world e v)
  resets_reached ts x e v l s k = row_reached AcksResetOf IsAny y reset_reached (λ x z t k a. tt) ts x e v l s (λ t h. tt) k

-- ---- a loss

merged_asked : (x : LinkedEnd) (p : Pending) (o : Option Pending) → AreAsked x p → AreAsked x (unwrap_or o nothing) → AreAsked x (merged_if p o)
merged_asked x p None a b = a
merged_asked x p (Some q) a b = asked-merged x p q a b

asked_as : (x : LinkedEnd) (p q : Pending) → q ≡ p → AreAsked x p → AreAsked x q
asked_as x p q e a = let P : Pending → Type 0 = λ j. AreAsked x j in subst P (sym e) a

-- those that were reported before one are among all
told_among : {T : Type 0} (t : T) (all told rest : List T) (next : T) → all ≡ told ++ next ∷ rest → IsOneOf t told → IsOneOf t all
told_among {T} t all told rest next e h = let P : List T → Type 0 = λ l. IsOneOf t l in subst P (sym e) (one-of-first t told (next ∷ rest) h)

module _ (x y : LinkedEnd) (e f : EndState) (r : SentView) (l : Linked x y) (s : Stands x e) (asked : AreAsked x (unwrap_or r.control nothing)) where
  loses_reached : (answer : Result (Unit {0}) SentView) → ((m : StreamMeta) → IsOneOf m r.streams → IsWritten x m) → LosesPayloadAt e r answer f → Reaches x y f
  loses_reached (Ok done) written k =
      let t = losses_reached y r.streams x e f.streams l s written k.0 in
      reached_as x y (with_world e f.streams) f t refl (asked_as t.end (merged_if e.pending r.control) f.pending k.1 (merged_asked t.end e.pending r.control t.here.pending (t.keeps.asked (unwrap_or r.control nothing) asked)))
  loses_reached (Err back) written k = elim k.0 [
    | inl stop ↦ (
        let t = losses_reached y stop.frames.told x e f.streams l s (λ m h. written m (told_among m r.streams stop.frames.told stop.frames.rest stop.frames.next stop.frames.parts h)) stop.frames.reports in
        reached_as x y (with_world e f.streams) f t refl (asked_as t.end e.pending f.pending k.1 t.here.pending)
        )
    | inr stop ↦ (
        let t = losses_reached y r.streams x e f.streams l s written stop.frames in
        reached_as x y (with_world e f.streams) f t refl (asked_as t.end e.pending f.pending k.1 t.here.pending)
        )
  ]

  -- ---- an acknowledgement

  acks_whole : (answer : Result (Unit {0}) SentView) → ((m : StreamMeta) → IsOneOf m r.streams → IsAccepted y x m) → (k : AcksPayloadAt e r answer f) → Reaches x y k.acked
  acks_whole (Ok done) accepted k =
      let w = k.acks in
      let t = acks_reached y r.streams x e w.0 l s accepted w.1 in
      let u = resets_reached y (resets_of r.control) t.end (with_world e w.0) k.acked.streams t.linked t.here w.2 in
      let both = reached-both x y (with_world e w.0) t (with_world e k.acked.streams) u in
      reached_as x y (with_world e k.acked.streams) k.acked both refl (asked_as both.end e.pending k.acked.pending k.pending both.here.pending)
  acks_whole (Err back) accepted k = elim k.acks [
    | inl stop ↦ (
        let t = acks_reached y stop.frames.told x e k.acked.streams l s (λ m h. accepted m (told_among m r.streams stop.frames.told stop.frames.rest stop.frames.next stop.frames.parts h)) stop.frames.reports in
        reached_as x y (with_world e k.acked.streams) k.acked t refl (asked_as t.end e.pending k.acked.pending k.pending t.here.pending)
        )
    | inr stop ↦ (
        let t = acks_reached y r.streams x e stop.between l s accepted stop.frames in
        let u = resets_reached y stop.resets.told t.end (with_world e stop.between) k.acked.streams t.linked t.here stop.resets.reports in
        let both = reached-both x y (with_world e stop.between) t (with_world e k.acked.streams) u in
        reached_as x y (with_world e k.acked.streams) k.acked both refl (asked_as both.end e.pending k.acked.pending k.pending both.here.pending)
        )
  ]

  payload_acked : (answer : Result (Unit {0}) SentView) → ((m : StreamMeta) → IsOneOf m r.streams → IsAccepted y x m) → AcksPayloadAt e r answer f → Reaches x y f
  payload_acked answer accepted k = reached-told x y k.acked f _ (acks_whole answer accepted k) k.is

-- ---- what comes back

-- it was noted before
abbrev IsPartOf : Option Pending → Option Pending → Type 0
IsPartOf o p = (x : LinkedEnd) → AreAsked x (unwrap_or p nothing) → AreAsked x (unwrap_or o nothing)

back_lost : (e f : EndState) (r back : SentView) → LosesPayloadAt e r (Err back) f → IsPartOf back.control r.control
back_lost e f r back k = elim k.0 [
  | inl stop ↦ λ x a. asked_as x (unwrap_or r.control nothing) (unwrap_or back.control nothing) (ap (λ (v : SentView). unwrap_or v.control nothing) stop.left) a
  | inr stop ↦ λ x a. asked_as x (unwrap_or r.control nothing) (unwrap_or back.control nothing) (ap (λ (v : SentView). unwrap_or v.control nothing) stop.left) a
]

fewer_asked : (x : LinkedEnd) (p : Pending) (told rest : List (ℕ × ℕ)) (next : ℕ × ℕ) → p.reset_stream ≡ told ++ next ∷ rest → AreAsked x p → AreAsked x (record p { reset_stream = next ∷ rest })
fewer_asked x p told rest next e a = record {
  resets = λ id code h. a.resets id code (let P : List (ℕ × ℕ) → Type 0 = λ l. IsOneOf (id, code) l in subst P (sym e) (later (id, code) told (next ∷ rest) h));
  stops = a.stops;
  windows = a.windows;
}
  where
    later : (t : ℕ × ℕ) (xs ys : List (ℕ × ℕ)) → IsOneOf t ys → IsOneOf t (xs ++ ys)
    later t [] ys h = h
    later t (z ∷ xs) ys h = inr (later t xs ys h)

back_acked : (e f : EndState) (r back : SentView) → AcksPayloadAt e r (Err back) f → IsPartOf back.control r.control
back_acked e f r back k = elim k.acks [
  | inl stop ↦ λ x a. asked_as x (unwrap_or r.control nothing) (unwrap_or back.control nothing) (ap (λ (v : SentView). unwrap_or v.control nothing) stop.left) a
  | inr stop ↦ λ x a.
      let before : AreAsked x stop.control = asked_as x (unwrap_or r.control nothing) stop.control (sym (ap (λ (o : Option Pending). unwrap_or o nothing) stop.noted)) a in
      asked_as x (record stop.control { reset_stream = stop.resets.next ∷ stop.resets.rest }) (unwrap_or back.control nothing) (ap (λ (v : SentView). unwrap_or v.control nothing) stop.left)
      (fewer_asked x stop.control stop.resets.told stop.resets.rest stop.resets.next stop.resets.parts before)
]

-- ---- the payload of which it is reported

abbrev pub with_unsettled : Sent → Unsettled → Sent
with_unsettled s u = record s { unsettled = u }

pub stay_settled : (sent : List Sent) (number : ℕ) (s : Sent) (u : Unsettled) → slice_get sent number ≡ Some s → StaySent sent (slice_set sent number (with_unsettled s u))
stay_settled sent number s u is k t h = elim (slice_set-keeps sent number k (with_unsettled s u) t h) [
  | inl e ↦ (
      let same_one : t ≡ s = same_Some t s (sym h ∙ ap (slice_get sent) e ∙ is) in (
        with_unsettled s u,
        ap (slice_get (slice_set sent number (with_unsettled s u))) e ∙ slice_get-set_same sent number s (with_unsettled s u) is,
        sym (ap (λ (v : Sent). v.writer) same_one),
        sym (ap (λ (v : Sent). v.text.bytes) same_one),
      )
      )
  | inr there ↦ (t, there, refl, refl)
]

-- what is left of it was asked for
payload_settled : (x y : LinkedEnd) (s : Sent) (kind : Report) (r : SentPayload) (answer : Result (Unit {0}) SentPayload) → s.unsettled.rest ≡ Some r → ((back : SentPayload) → answer ≡ Err back → IsPartOf (thin_view back.control) (thin_view r.control))
    → IsPayloadOf x y s → IsPayloadOf x y (with_unsettled s (unsettled_after kind s.unsettled answer))
payload_settled x y s kind r (Ok done) is part i = record { all = i.all; spelled = i.spelled; wrote = i.wrote; control = λ b h. absurd (none-some b h); accepted = i.accepted }
payload_settled x y s kind r (Err back) is part i = record {
  all = i.all;
  spelled = i.spelled;
  wrote = i.wrote;
  control = λ b h.
      let same_one : back ≡ b = same_Some back b h in
      asked_as x (noted_in back.control) (noted_in b.control) (sym (ap (λ (v : SentPayload). noted_in v.control) same_one)) (part back refl x (i.control r is));
  accepted = i.accepted;
}

tells_report : (p : Past) (number : ℕ) (kind : Report) (reply : Answer) → Tells p (after_report p number kind reply)
tells_report p number kind (Ok Done) = record { ids = λ who. refl; flow = λ who q. refl; accepted = λ at h. h }
tells_report p number kind (Err NoMemory) = record { ids = λ who. refl; flow = λ who q. refl; accepted = λ at h. h }
tells_report p number kind _ = record { ids = λ who. refl; flow = λ who q. refl; accepted = λ at h. h }

report_accepted : (p : Past) (number : ℕ) (kind : Report) (reply : Answer) → (after_report p number kind reply).accepted ≡ p.accepted
report_accepted p number kind (Ok Done) = refl
report_accepted p number kind (Err NoMemory) = refl
report_accepted p number kind _ = refl

report_kept : (p : Past) (number : ℕ) (kind : Report) (reply : Answer) → (after_report p number kind reply).kept ≡ p.kept
report_kept p number kind (Ok Done) = refl
report_kept p number kind (Err NoMemory) = refl
report_kept p number kind _ = refl

module _ (p : Past) (who : End) (old new : PairState) (x y : LinkedEnd) (number : ℕ) (kind : Report) (reply : Answer) (s : Seen p who old x y) (sent : Sent) (is : slice_get old.sent number ≡ Some sent) (w : sent.writer ≡ who) (f : EndState) (t : Reaches x y f)
    (r : SentPayload) (rest_is : sent.unsettled.rest ≡ Some r) (answer : Result (Unit {0}) SentPayload) (part : (back : SentPayload) → answer ≡ Err back → IsPartOf (thin_view back.control) (thin_view r.control)) where
  settled_seen : new ≡ with_sent (with_end old who f) (slice_set old.sent number (with_unsettled sent (unsettled_after kind sent.unsettled answer))) → Sees (after_report p number kind reply) who new x y
  settled_seen e = seen-moved p who old new x y t.end f s t.linked t.keeps t.here later sents tells stay own others heard kept_there kept_here e
    where
      after_it : Sent
      after_it = with_unsettled sent (unsettled_after kind sent.unsettled answer)

      sents : List Sent
      sents = slice_set old.sent number after_it

      later : Past
      later = after_report p number kind reply

      tells : Tells p later
      tells = tells_report p number kind reply

      stay : StaySent old.sent sents
      stay = stay_settled old.sent number sent (unsettled_after kind sent.unsettled answer) is

      own : ArePayloadsOf sents who t.end y
      own k u got mine = elim (slice_get-slice_set old.sent number k after_it u got) [
        | inl n ↦ (let P : Sent → Type 0 = λ v. IsPayloadOf t.end y v in
            subst P (sym n.1) (payload_settled t.end y sent kind r answer rest_is part (payload-writer x y t.end sent t.keeps (s.own number sent is w))))
        | inr o ↦ payload-writer x y t.end u t.keeps (s.own k u o mine)
      ]

      others : ArePayloadsOf sents (peer who) y t.end
      others k u got mine = elim (slice_get-slice_set old.sent number k after_it u got) [
        | inl n ↦ absurd (peer-other who (sym w ∙ sym (ap (λ (v : Sent). v.writer) n.1) ∙ mine))
        | inr o ↦ payload-reader y x t.end u t.keeps (s.others k u o mine)
      ]

      heard : HeardSent later sents (peer who) t.end
      heard q offset bytes fin transmit got =
          stream-stays old.sent sents (peer who) q p.accepted later.accepted (IsLike offset bytes fin) stay tells.accepted (s.receives.accepted q offset bytes fin transmit (t.hears.accepts q offset bytes fin transmit got))

      kept_there : KeptSent later sents who y
      kept_there = kept-as p later sents who y y (report_kept p number kind reply) (report_accepted p number kind reply) (hears-none y) (kept-stay p old.sent sents who y stay s.kept_there)

      kept_here : KeptSent later sents (peer who) t.end
      kept_here = kept-as p later sents (peer who) x t.end (report_kept p number kind reply) (report_accepted p number kind reply) t.hears (kept-stay p old.sent sents (peer who) x stay s.kept_here)

-- ---- these steps

module _ (p : Past) (who : End) (old new : PairState) (x y : LinkedEnd) (number : ℕ) (reply : Answer) (s : Seen p who old x y) (told : ℕ → ℕ) (left : AreLeft old.sent told) where
  -- what is unreported are STREAM frames of the payload
  stream_in : (sent : Sent) → slice_get old.sent number ≡ Some sent → (i : IsPayloadOf x y sent) (r : SentPayload) → sent.unsettled.rest ≡ Some r → (m : StreamMeta) → IsOneOf m r.streams.items → (g : Stream) × IsOneOf (frames.Stream g) i.all × (m ≡ meta_of g)
  stream_in sent is i r rest_is m h = metas-among old.sent told left number sent is r rest_is i.all i.spelled m h

  pub seen-loses : (k : Reports Lost LosesPayloadAt old number reply new) → k.payload.sent.writer ≡ who → Sees (after_report p number Lost reply) who new x y
  seen-loses k w =
      let sent = k.payload.sent in
      let i = s.own number sent k.payload.is w in
      let P : End → Type 0 = λ v. LosesPayloadAt (the_end old v) (sent_view k.rest) (report_view k.answer) k.end in
      let l = subst P w k.does in
      let written : (m : StreamMeta) → IsOneOf m k.rest.streams.items → IsWritten x m =
      λ m h.
      let g = stream_in sent k.payload.is i k.rest k.rest_is m h in
      let Q : StreamMeta → Type 0 = λ j. IsWritten x j in
      subst Q (sym g.2) (record { bytes = g.0.bytes; is = i.wrote (frames.Stream g.0) g.1; behind = refl }) in
      let t = loses_reached x y (the_end old who) k.end (sent_view k.rest) s.linked s.here (i.control k.rest k.rest_is) (report_view k.answer) written l in
      let R : Result (Unit {0}) SentPayload → Type 0 = λ a. LosesPayloadAt (the_end old who) (sent_view k.rest) (report_view a) k.end in
      settled_seen p who old new x y number Lost reply s sent k.payload.is w k.end t k.rest k.rest_is k.answer (λ back e. back_lost (the_end old who) k.end (sent_view k.rest) (sent_view back) (subst R e l))
      (k.is ∙ ap (λ v. with_sent (with_end old v k.end) (slice_set old.sent number (with_unsettled sent (unsettled_after Lost sent.unsettled k.answer)))) w)

  pub seen-acks : (k : Reports Acknowledged AcksPayloadAt old number reply new) → k.payload.sent.writer ≡ who → Sees (after_report p number Acknowledged reply) who new x y
  seen-acks k w =
      let sent = k.payload.sent in
      let i = s.own number sent k.payload.is w in
      let P : End → Type 0 = λ v. AcksPayloadAt (the_end old v) (sent_view k.rest) (report_view k.answer) k.end in
      let l = subst P w k.does in
      let all_marked : AreAllAccepted sent.text = k.serves in
      let accepted : (m : StreamMeta) → IsOneOf m k.rest.streams.items → IsAccepted y x m =
      λ m h.
      let g = stream_in sent k.payload.is i k.rest k.rest_is m h in
      let at = place-of (frames.Stream g.0) i.all g.1 in
      let Q : StreamMeta → Type 0 = λ j. IsAccepted y x j in
      subst Q (sym g.2) (i.accepted at.0 g.0 at.1 (all_marked i.all i.spelled at.0 (slice_get-within i.all at.0 (frames.Stream g.0) at.1))) in
      let t = payload_acked x y (the_end old who) k.end (sent_view k.rest) s.linked s.here (i.control k.rest k.rest_is) (report_view k.answer) accepted l in
      let R : Result (Unit {0}) SentPayload → Type 0 = λ a. AcksPayloadAt (the_end old who) (sent_view k.rest) (report_view a) k.end in
      settled_seen p who old new x y number Acknowledged reply s sent k.payload.is w k.end t k.rest k.rest_is k.answer (λ back e. back_acked (the_end old who) k.end (sent_view k.rest) (sent_view back) (subst R e l))
      (k.is ∙ ap (λ v. with_sent (with_end old v k.end) (slice_set old.sent number (with_unsettled sent (unsettled_after Acknowledged sent.unsettled k.answer)))) w)

-- ---- all of these steps

module _ (a b : Origin) (p : Past) (old new : PairState) (number : ℕ) (j : Joined a b p old) where
  pub joined-same : new ≡ old → Joined a b p new
  joined-same is = let P : PairState → Type 0 = λ v. Joined a b p v in subst P (sym is) j

module _ (a b : Origin) (p : Past) (old new : PairState) (number : ℕ) (j : Joined a b p old) (told : ℕ → ℕ) (left : AreLeft old.sent told) where
  lost : (reply : Answer) → Reports Lost LosesPayloadAt old number reply new → Joined a b (after_report p number Lost reply) new
  lost reply k = joined-by a b p (after_report p number Lost reply) k.payload.sent.writer old new j (λ x y s. seen-loses p k.payload.sent.writer old new x y number reply s told left k refl)

  acked : (reply : Answer) → Reports Acknowledged AcksPayloadAt old number reply new → Joined a b (after_report p number Acknowledged reply) new
  acked reply k = joined-by a b p (after_report p number Acknowledged reply) k.payload.sent.writer old new j (λ x y s. seen-acks p k.payload.sent.writer old new x y number reply s told left k refl)

  pub joined-loses : (reply : Answer) → SettlesPayload Lost LosesPayloadAt old number reply new → Joined a b (after_report p number Lost reply) new
  joined-loses (Ok Done) k = lost (Ok Done) k
  joined-loses (Err NoMemory) k = lost (Err NoMemory) k
  joined-loses (Err NoSuchPayload) k = joined-same a b p old new number j k.1
  joined-loses (Err AlreadySettled) k = joined-same a b p old new number j k.is
  joined-loses (Err NotAccepted) k = joined-same a b p old new number j k.is
  joined-loses _ k = absurd k

  pub joined-acks : (reply : Answer) → SettlesPayload Acknowledged AcksPayloadAt old number reply new → Joined a b (after_report p number Acknowledged reply) new
  joined-acks (Ok Done) k = acked (Ok Done) k
  joined-acks (Err NoMemory) k = acked (Err NoMemory) k
  joined-acks (Err NoSuchPayload) k = joined-same a b p old new number j k.1
  joined-acks (Err AlreadySettled) k = joined-same a b p old new number j k.is
  joined-acks (Err NotAccepted) k = joined-same a b p old new number j k.is
  joined-acks _ k = absurd k
