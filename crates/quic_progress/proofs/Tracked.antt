-- What an end announced last is told to its peer, or pending, or stands in a payload that is unreported: each step keeps it.
use Rattle.std.proofs.Common.{◌≡◌, ◌⊎◌, ℕ, Bool, true, false, List, length, Option, Some, None, Result, Ok, Err, refl, sym, ap, ◌∙◌, subst, inl, inr, arith, ◌≤◌, ◌<◌}
use Rattle.std.specs.Prelude.{◌||◌, ◌==◌, slice_get, slice_set, unwrap_or, if◌then◌else◌}
use Rattle.std.proofs.lemmas.Option.{same_Some}
use Rattle.quic_values.specs.declared.ids.Dir.TheVariants.{Bi, Uni}
use Rattle.quic_wire.specs.declared.error.ReceiveError.{ReceiveError}
use Rattle.quic_wire.specs.declared.frame.Frame.{Frame}
use Rattle.quic_wire.specs.Frames.{AreFrames}
use Rattle.quic_wire.proofs.Joins.{same}
use Rattle.quic_receiving.specs.declared.transmit.ShouldTransmit.{ShouldTransmit}
use Rattle.quic_retransmits.specs.Pending.{Pending, nothing, merged_if, thin_view}
use Rattle.quic_retransmits.specs.Settling.{noted_in}
use Rattle.quic_history.specs.World.{World}
use Rattle.quic_streams.specs.declared.settling.SentPayload.{SentPayload}
use Rattle.quic_streams.specs.Settling.{SentView, AcksWhole, LosesWhole}
use Rattle.quic_streams.specs.Sent.{sent_view, report_view}
use Rattle.quic_link.specs.Endpoints.{IsOneOf}
use Rattle.quic_link.proofs.Basics.{either_true, same_id}
use Rattle.quic_endpoint.specs.Ends.{EndState}
use Rattle.quic_endpoint.specs.Reports.{LosesPayloadAt, AcksPayloadAt}
use Rattle.quic_steps.specs.declared.steps.End.{End}
use Rattle.quic_steps.specs.declared.steps.End.TheVariants.{A, B}
use Rattle.quic_steps.specs.declared.steps.Step.TheVariants as steps
use Rattle.quic_steps.specs.declared.steps.Reply.TheVariants.{Done, DoneTransmit}
use Rattle.quic_steps.specs.declared.steps.PairError.TheVariants.{NoSuchPayload, NoSuchFrame, NotAccepted, AlreadySettled, OutOfMemory as NoMemory}
use Rattle.quic_exchange.specs.Sent.{Sent, Unsettled}
use Rattle.quic_exchange.specs.declared.unsettled.Report.{Report}
use Rattle.quic_exchange.specs.declared.unsettled.Report.TheVariants.{Lost, Acknowledged}
use Rattle.quic_exchange.specs.Unsettled.{unsettled_after}
use Rattle.quic_exchange.specs.Payloads.{SentText, is_accepted, IsMarked}
use Rattle.quic_exchange.specs.Replies.{Answer, received_reply}
use Rattle.quic_exchange.specs.State.{PairState, peer, the_end, with_end, with_sent}
use Rattle.quic_exchange.specs.Steps.{HandsOver, Delivers, SentAfter, Reports, SettlesPayload}
use Rattle.quic_exchange.specs.Tale.{Tale, Tales, StepTells, HearsOne, with_frame_heard, told_of}
use Rattle.quic_exchange.proofs.Lists.{slice_set-keeps, slice_get-slice_set, slice_get-set_same, slice_get-within, place-of}
use Rattle.quic_progress.proofs.Leaves.{May}
use Rattle.quic_progress.proofs.Permissions.{Permission, AllData, DataOn, StreamsOf, frame_of, is_asked, announced_of, unannounced, IsWithin, announced-left, unannounced-left, within-left}
use Rattle.quic_progress.proofs.Grows.{IsTold, AllGrow, told-less, told-grown, heard_of, heard-told}
use Rattle.quic_progress.proofs.Ends.{EndLeaves, may_of}

-- a payload of an end of which something is unreported has a frame that announces this limit, or a greater one
pub record UnderWay (k : Permission) (n : ℕ) (sent : List Sent) (who : End) : Type 0 where
  pub number : ℕ
  pub payload : Sent
  pub is : slice_get sent number ≡ Some payload
  pub writer : payload.writer ≡ who
  pub rest : SentPayload
  pub rest_is : payload.unsettled.rest ≡ Some rest
  pub asked : is_asked k (noted_in rest.control) ≡ true
  pub all : List Frame
  pub spelled : AreFrames payload.text.bytes all
  pub limit : ℕ
  pub listed : IsOneOf (frame_of k limit) all
  pub enough : n ≤ heard_of k limit

-- what an end announced is told, pending, or under way
abbrev pub Tracks : Permission → ℕ → EndState → Tale → List Sent → End → Type 0
Tracks k n e t sent who = (n ≤ unannounced k e.streams) ⊎ (IsTold k n t ⊎ ((is_asked k e.pending ≡ true) ⊎ UnderWay k n sent who))

-- every frame that was accepted is told
abbrev pub AreHeard : Tales → List Sent → Type 0
AreHeard t sent = (number : ℕ) (s : Sent) (all : List Frame) (index : ℕ) (k : Permission) (n : ℕ) → slice_get sent number ≡ Some s → AreFrames s.text.bytes all → slice_get all index ≡ Some (frame_of k n) → is_accepted s.text index ≡ true
    → IsTold k (heard_of k n) (t.of (peer s.writer))

-- some permissions of each end
abbrev pub Which : Type 0
Which = End → Permission → Bool

-- so it is of some
pub record IsTracked (some : Which) (v : PairState) (t : Tales) : Type 0 where
  pub within : (who : End) → IsWithin (the_end v who).streams
  pub firsts : (who : End) (id : ℕ) → some who (DataOn id) ≡ true → (the_end v who).streams.window ≤ ((t.of (peer who)).flow id).limit
  pub heard : AreHeard t v.sent
  pub tracks : (who : End) (k : Permission) → some who k ≡ true → Tracks k (announced_of k (the_end v who).streams) (the_end v who) (t.of (peer who)) v.sent who

-- so of one end, whose peer is told this
pub record IsEndTracked (some : Which) (who : End) (e : EndState) (t : Tale) (sent : List Sent) : Type 0 where
  pub within : IsWithin e.streams
  pub firsts : (id : ℕ) → some who (DataOn id) ≡ true → e.streams.window ≤ (t.flow id).limit
  pub tracks : (k : Permission) → some who k ≡ true → Tracks k (announced_of k e.streams) e t sent who

pub tracked-end : {some : Which} (v : PairState) (t : Tales) → IsTracked some v t → (who : End) → IsEndTracked some who (the_end v who) (t.of (peer who)) v.sent
tracked-end v t c who = record { within = c.within who; firsts = c.firsts who; tracks = c.tracks who }

pub tracked-ends : {some : Which} (v : PairState) (t : Tales) → AreHeard t v.sent → ((who : End) → IsEndTracked some who (the_end v who) (t.of (peer who)) v.sent) → IsTracked some v t
tracked-ends v t heard each = record { within = λ who. (each who).within; firsts = λ who. (each who).firsts; heard = heard; tracks = λ who. (each who).tracks }

-- of some others of one end
pub tracked-fewer : {some other : Which} (who : End) (e : EndState) (t : Tale) (sent : List Sent) → ((k : Permission) → other who k ≡ true → some who k ≡ true) → IsEndTracked some who e t sent → IsEndTracked other who e t sent
tracked-fewer who e t sent fewer c = record { within = c.within; firsts = λ id on. c.firsts id (fewer (DataOn id) on); tracks = λ k on. c.tracks k (fewer k on) }

way_less : (k : Permission) (m n : ℕ) (sent : List Sent) (who : End) → m ≤ n → UnderWay k n sent who → UnderWay k m sent who
way_less k m n sent who l w = record { number = w.number; payload = w.payload; is = w.is; writer = w.writer; rest = w.rest; rest_is = w.rest_is; asked = w.asked; all = w.all; spelled = w.spelled; limit = w.limit; listed = w.listed; enough = let e = w.enough in omega (arith, l, e) }

-- ---- payloads that stay

-- what is unreported of payloads is so still
abbrev pub Forth : List Sent → List Sent → Type 0
Forth old new = (number : ℕ) (s : Sent) → slice_get old number ≡ Some s → (t : Sent) × (slice_get new number ≡ Some t) × (t.writer ≡ s.writer) × (t.unsettled ≡ s.unsettled) × (t.text.bytes ≡ s.text.bytes)

-- every payload was there, with the same marks
abbrev pub Back : List Sent → List Sent → Type 0
Back old new = (number : ℕ) (s : Sent) → slice_get new number ≡ Some s → (t : Sent) × (slice_get old number ≡ Some t) × (t.writer ≡ s.writer) × (t.text ≡ s.text)

pub forth-same : (old new : List Sent) → new ≡ old → Forth old new
forth-same old new e number s is = (s, ap (λ l. slice_get l number) e ∙ is, refl, refl, refl)

back_same : (old new : List Sent) → new ≡ old → Back old new
back_same old new e number s is = (s, ap (λ l. slice_get l number) (sym e) ∙ is, refl, refl)

pub way-forth : (k : Permission) (n : ℕ) (old new : List Sent) (who : End) → Forth old new → UnderWay k n old who → UnderWay k n new who
way-forth k n old new who f w =
    let s = f w.number w.payload w.is in
    let P : List ℕ → Type 0 = λ b. AreFrames b w.all in
    record { number = w.number; payload = s.0; is = s.1; writer = s.2 ∙ w.writer; rest = w.rest; rest_is = ap (λ (x : Unsettled). x.rest) s.3 ∙ w.rest_is; asked = w.asked; all = w.all; spelled = subst P (sym s.4) w.spelled; limit = w.limit; listed = w.listed; enough = w.enough }

-- a payload was marked
pub forth-marked : (old new : List Sent) (number index : ℕ) (s : Sent) → slice_get old number ≡ Some s → (text : SentText) → IsMarked s.text index text → new ≡ slice_set old number (record s { text = text }) → Forth old new
forth-marked old new number index s is text marked set_so n x got = elim (slice_set-keeps old number n (record s { text = text }) x got) [
  | inl here ↦ (
      let same_one : x ≡ s = same_Some x s (sym got ∙ ap (slice_get old) here ∙ is) in
      let bytes : text.bytes ≡ s.text.bytes = ap (λ (y : SentText). y.bytes) marked.same in (
        record s { text = text },
        ap (λ l. slice_get l n) set_so ∙ ap (slice_get (slice_set old number (record s { text = text }))) here ∙ slice_get-set_same old number s (record s { text = text }) is,
        sym (ap (λ (v : Sent). v.writer) same_one),
        sym (ap (λ (v : Sent). v.unsettled) same_one),
        bytes ∙ sym (ap (λ (v : Sent). v.text.bytes) same_one),
      )
      )
  | inr there ↦ (x, ap (λ l. slice_get l n) set_so ∙ there, refl, refl, refl)
]

heard_back : (old new : List Sent) (t u : Tales) → Back old new → AllGrow t u → AreHeard t old → AreHeard u new
heard_back old new t u b g h number s all index k n is spelled at marked =
    let o = b number s is in
    let P : SentText → Type 0 = λ x. AreFrames x.bytes all in
    let Q : SentText → Type 0 = λ x. is_accepted x index ≡ true in
    let R : End → Type 0 = λ e. IsTold k (heard_of k n) (t.of (peer e)) in
    let told : IsTold k (heard_of k n) (t.of (peer s.writer)) = subst R o.2 (h number o.0 all index k n o.1 (subst P (sym o.3) spelled) at (subst Q (sym o.3) marked)) in
    told-grown k (heard_of k n) (t.of (peer s.writer)) (u.of (peer s.writer)) (g (peer s.writer)) told

-- ---- one end, by a step beside its payloads

tracks_left : (m : May) (k : Permission) (e f : EndState) (t u : Tales) (old new : List Sent) (who : End) → EndLeaves m e f → AllGrow t u → (UnderWay k (announced_of k f.streams) old who → Tracks k (announced_of k f.streams) f (u.of (peer who)) new who)
    → Tracks k (announced_of k e.streams) e (t.of (peer who)) old who → Tracks k (announced_of k f.streams) f (u.of (peer who)) new who
tracks_left m k e f t u old new who l g way c =
    let first = unannounced-left m e.streams f.streams l.streams k in
    elim (announced-left m e.streams f.streams l.streams k) [
      | inr none ↦ inl (omega (arith, none, first))
      | inl less ↦ elim c [
        | inl none ↦ inl (omega (arith, none, less, first))
        | inr (inl told) ↦ inr (inl (told-grown k _ (t.of (peer who)) (u.of (peer who)) (g (peer who)) (told-less k _ _ (t.of (peer who)) less told)))
        | inr (inr (inl asked)) ↦ inr (inr (inl (l.asked k asked)))
        | inr (inr (inr w)) ↦ way (way_less k _ _ old who less w)
      ]
    ]

firsts_left : (m : May) (e f : EndState) (t u : Tales) (who : End) → EndLeaves m e f → AllGrow t u → (id : ℕ) → e.streams.window ≤ ((t.of (peer who)).flow id).limit → f.streams.window ≤ ((u.of (peer who)).flow id).limit
firsts_left m e f t u who l g id a = let b = l.streams.window in let d = ((g (peer who)).flow id).limit in omega (arith, a, b, d)

told_at : (who : End) (change : Tale → Tale) (t : Tales) → (told_of who change t).of who ≡ change (t.of who)
told_at A change t = refl
told_at B change t = refl

module _ {some : Which} (old new : PairState) (t u : Tales) (c : IsTracked some old t) (g : AllGrow t u) where
  -- both ends
  pub tracked-left : (m : May) → ((who : End) → EndLeaves m (the_end old who) (the_end new who)) → AreHeard u new.sent
      → ((who : End) (k : Permission) → UnderWay k (announced_of k (the_end new who).streams) old.sent who → Tracks k (announced_of k (the_end new who).streams) (the_end new who) (u.of (peer who)) new.sent who) → IsTracked some new u
  tracked-left m l heard way = record {
    within = λ who. within-left m (the_end old who).streams (the_end new who).streams (l who).streams (c.within who);
    firsts = λ who id on. firsts_left m (the_end old who) (the_end new who) t u who (l who) g id (c.firsts who id on);
    heard = heard;
    tracks = λ who k on. tracks_left m k (the_end old who) (the_end new who) t u old.sent new.sent who (l who) g (way who k) (c.tracks who k on);
  }

  -- where the payloads are the same
  pub tracked-same : (m : May) → ((who : End) → EndLeaves m (the_end old who) (the_end new who)) → new.sent ≡ old.sent → IsTracked some new u
  tracked-same m l e = tracked-left m l (heard_back old.sent new.sent t u (back_same old.sent new.sent e) g c.heard) (λ who k w. inr (inr (inr (way-forth k _ old.sent new.sent who (forth-same old.sent new.sent e) w))))

  -- ---- a frame is handed over

  module _ (number index : ℕ) (s : Sent) (is : slice_get old.sent number ≡ Some s) (text : SentText) (marked : IsMarked s.text index text) (set_so : new.sent ≡ slice_set old.sent number (record s { text = text })) where
    bytes_same : text.bytes ≡ s.text.bytes
    bytes_same = ap (λ (x : SentText). x.bytes) marked.same

    heard_marked : HearsOne old.sent (number, index) t u → AreHeard u new.sent
    heard_marked h n x all i k limit got spelled at mark = elim (slice_get-slice_set old.sent number n (record s { text = text }) x (ap (λ l. slice_get l n) (sym set_so) ∙ got)) [
      | inr there ↦ told-grown k (heard_of k limit) (t.of (peer x.writer)) (u.of (peer x.writer)) (g (peer x.writer)) (c.heard n x all i k limit there spelled at mark)
      | inl here ↦ (
          let P : Sent → Type 0 = λ v. AreFrames v.text.bytes all in
          let Q : Sent → Type 0 = λ v. is_accepted v.text i ≡ true in
          let R : List ℕ → Type 0 = λ b. AreFrames b all in
          let W : Sent → Type 0 = λ v. IsTold k (heard_of k limit) (u.of (peer v.writer)) in
          let spelled_old : AreFrames s.text.bytes all = subst R bytes_same (subst P here.1 spelled) in
          let mark_new : (is_accepted s.text i || (i == index)) ≡ true = sym (marked.marks i) ∙ subst Q here.1 mark in
          subst W (sym here.1) (elim (either_true (is_accepted s.text i) (i == index) mark_new) [
            | inl before ↦ told-grown k (heard_of k limit) (t.of (peer s.writer)) (u.of (peer s.writer)) (g (peer s.writer)) (c.heard number s all i k limit is spelled_old at before)
            | inr now ↦ (
                let w = h.stood in
                let payload_is : w.payload ≡ s = same_Some w.payload s (sym w.is ∙ is) in
                let S : Sent → Type 0 = λ v. AreFrames v.text.bytes w.frame_is.all in
                let all_is : w.frame_is.all ≡ all = same s.text.bytes w.frame_is.all all (subst S payload_is w.frame_is.spelled) spelled_old in
                let frame_here : h.frame ≡ frame_of k limit = same_Some h.frame (frame_of k limit) (sym w.frame_is.at ∙ ap (λ l. slice_get l index) all_is ∙ ap (slice_get all) (sym (same_id i index now)) ∙ at) in
                let who_is : h.who ≡ s.writer = sym w.writer ∙ ap (λ (v : Sent). v.writer) payload_is in
                let T : Tale → Type 0 = λ x. IsTold k (heard_of k limit) x in
                let F : Frame → Type 0 = λ f. IsTold k (heard_of k limit) (with_frame_heard f (t.of (peer h.who))) in
                let E : End → Type 0 = λ e. IsTold k (heard_of k limit) (u.of (peer e)) in
                let V : Tales → Type 0 = λ x. IsTold k (heard_of k limit) (x.of (peer h.who)) in
                subst E who_is (subst V (sym h.is) (subst T (sym (told_at (peer h.who) (with_frame_heard h.frame) t)) (subst F (sym frame_here) (heard-told k limit (t.of (peer h.who))))))
                )
          ])
          )
    ]

hears_if : (old new : List Sent) (number index : ℕ) (t u : Tales) (b : Bool) → StepTells old new (steps.Deliver number index) (Ok (if b then DoneTransmit else Done)) t u → HearsOne old (number, index) t u
hears_if old new number index t u true e = e
hears_if old new number index t u false e = e

module _ {some : Which} (old new : PairState) (t u : Tales) (c : IsTracked some old t) (g : AllGrow t u) (number index : ℕ) where
  tracked_handed : (reply : Answer) (n : HandsOver old number index reply new) → ((who : End) → EndLeaves (may_of (steps.Deliver number index)) (the_end old who) (the_end new who)) → StepTells old.sent new.sent (steps.Deliver number index) reply t u → IsTracked some new u
  tracked_handed reply n l e =
      let P : Answer → Type 0 = λ r. StepTells old.sent new.sent (steps.Deliver number index) r t u in
      by n.answer n.sent (subst P n.reply_is e)
    where
      by : (answer : Result ShouldTransmit ReceiveError) → SentAfter old.sent number n.payload.sent index answer new.sent → StepTells old.sent new.sent (steps.Deliver number index) (received_reply answer) t u → IsTracked some new u
      by (Ok transmit) s k =
          let h = hears_if old.sent new.sent number index t u transmit.0 k in
          tracked-left old new t u c g (may_of (steps.Deliver number index)) l (heard_marked old new t u c g number index n.payload.sent n.payload.is s.0 s.1 s.2 h)
          (λ who k w. inr (inr (inr (way-forth k _ old.sent new.sent who (forth-marked old.sent new.sent number index n.payload.sent n.payload.is s.0 s.1 s.2) w))))
      by (Err error) s k = tracked-same old new t u c g (may_of (steps.Deliver number index)) l s

  pub tracked-delivered : (reply : Answer) → Delivers old number index reply new → ((who : End) → EndLeaves (may_of (steps.Deliver number index)) (the_end old who) (the_end new who)) → StepTells old.sent new.sent (steps.Deliver number index) reply t u → IsTracked some new u
  tracked-delivered (Err NoSuchPayload) n l e = tracked-same old new t u c g (may_of (steps.Deliver number index)) l (ap (λ (v : PairState). v.sent) n.1)
  tracked-delivered (Err NoSuchFrame) n l e = tracked-same old new t u c g (may_of (steps.Deliver number index)) l (ap (λ (v : PairState). v.sent) n.is)
  tracked-delivered (Err NoMemory) n l e = elim n [
    | inl same_one ↦ tracked-same old new t u c g (may_of (steps.Deliver number index)) l (ap (λ (v : PairState). v.sent) same_one.1)
    | inr h ↦ tracked_handed (Err NoMemory) h l e
  ]
  tracked-delivered reply n l e = tracked_handed reply n l e

-- ---- a payload is reported

or_right : (a b : Bool) → b ≡ true → (a || b) ≡ true
or_right true b e = refl
or_right false b e = e

merged_noted : (k : Permission) (p : Pending) (o : Option Pending) → is_asked k (unwrap_or o nothing) ≡ true → is_asked k (merged_if p o) ≡ true
merged_noted AllData p None e = cc
merged_noted (DataOn id) p None e = cc
merged_noted (StreamsOf Bi) p None e = cc
merged_noted (StreamsOf Uni) p None e = cc
merged_noted AllData p (Some b) e = or_right p.max_data b.max_data e
merged_noted (DataOn id) p (Some b) e = or_right (p.max_stream_data id) (b.max_stream_data id) e
merged_noted (StreamsOf Bi) p (Some b) e = or_right p.max_streams_bi b.max_streams_bi e
merged_noted (StreamsOf Uni) p (Some b) e = or_right p.max_streams_uni b.max_streams_uni e

fewer_resets : (k : Permission) (p : Pending) (l : List (ℕ × ℕ)) → is_asked k p ≡ true → is_asked k (record p { reset_stream = l }) ≡ true
fewer_resets AllData p l e = e
fewer_resets (DataOn id) p l e = e
fewer_resets (StreamsOf Bi) p l e = e
fewer_resets (StreamsOf Uni) p l e = e

-- what comes back of a report has the same limits
lost_back : (k : Permission) (u v : World) (p q : Pending) (sent back : SentView) → LosesWhole u p sent (Err back) v q → is_asked k (unwrap_or sent.control nothing) ≡ true → is_asked k (unwrap_or back.control nothing) ≡ true
lost_back k u v p q sent back d e = elim d.0 [
  | inl a ↦ ap (λ (x : SentView). is_asked k (unwrap_or x.control nothing)) a.left ∙ e
  | inr a ↦ ap (λ (x : SentView). is_asked k (unwrap_or x.control nothing)) a.left ∙ e
]

acked_back : (k : Permission) (u v : World) (sent back : SentView) → AcksWhole u sent (Err back) v → is_asked k (unwrap_or sent.control nothing) ≡ true → is_asked k (unwrap_or back.control nothing) ≡ true
acked_back k u v sent back d e = elim d [
  | inl a ↦ ap (λ (x : SentView). is_asked k (unwrap_or x.control nothing)) a.left ∙ e
  | inr a ↦ (
      let here : is_asked k a.control ≡ true = sym (ap (λ (o : Option Pending). is_asked k (unwrap_or o nothing)) a.noted) ∙ e in
      ap (λ (x : SentView). is_asked k (unwrap_or x.control nothing)) a.left ∙ fewer_resets k a.control _ here
      )
]

changed_to : (old new : PairState) (who : End) (e : EndState) (sent : List Sent) → new ≡ with_sent (with_end old who e) sent → the_end new who ≡ e
changed_to old new A e sent is = ap (λ (v : PairState). v.a) is
changed_to old new B e sent is = ap (λ (v : PairState). v.b) is

module _ {some : Which} (old new : PairState) (t u : Tales) (c : IsTracked some old t) (g : AllGrow t u) (m : May) (l : (who : End) → EndLeaves m (the_end old who) (the_end new who)) (number : ℕ) (kind : Report) (At : EndState → SentView → Result (Unit {0}) SentView → EndState → Type 0) (reply : Answer) (n : Reports kind At old number reply new) where
  abbrev reported : Sent
  reported = record n.payload.sent { unsettled = unsettled_after kind n.payload.sent.unsettled n.answer }

  sent_then : new.sent ≡ slice_set old.sent number reported
  sent_then = ap (λ (v : PairState). v.sent) n.is

  there_now : slice_get new.sent number ≡ Some reported
  there_now = ap (λ x. slice_get x number) sent_then ∙ slice_get-set_same old.sent number n.payload.sent reported n.payload.is

  back_reported : Back old.sent new.sent
  back_reported i x got = elim (slice_get-slice_set old.sent number i reported x (ap (λ y. slice_get y i) (sym sent_then) ∙ got)) [
    | inl here ↦ (n.payload.sent, ap (slice_get old.sent) here.0 ∙ n.payload.is, sym (ap (λ (v : Sent). v.writer) here.1), sym (ap (λ (v : Sent). v.text) here.1))
    | inr there ↦ (x, there, refl, refl)
  ]

  -- of this payload something is unreported still, or all of it was reported
  left_or_done : (k : Permission) (limit : ℕ) (who : End) (w : UnderWay k limit old.sent who)
      → ((who ≡ n.payload.sent.writer) × (is_asked k (noted_in n.rest.control) ≡ true) × (w.payload ≡ n.payload.sent) × ((back : SentPayload) → n.answer ≡ Err back → is_asked k (noted_in back.control) ≡ true → UnderWay k limit new.sent who)) ⊎ UnderWay k limit new.sent who
  left_or_done k limit who w = elim (slice_set-keeps old.sent number w.number reported w.payload w.is) [
    | inr there ↦ inr (record { number = w.number; payload = w.payload; is = ap (λ y. slice_get y w.number) sent_then ∙ there; writer = w.writer; rest = w.rest; rest_is = w.rest_is; asked = w.asked; all = w.all; spelled = w.spelled; limit = w.limit; listed = w.listed; enough = w.enough })
    | inl here ↦ inl (
        let same_one : w.payload ≡ n.payload.sent = same_Some w.payload n.payload.sent (sym w.is ∙ ap (slice_get old.sent) here ∙ n.payload.is) in
        let rest_one : w.rest ≡ n.rest = same_Some w.rest n.rest (sym w.rest_is ∙ ap (λ (v : Sent). v.unsettled.rest) same_one ∙ n.rest_is) in
        let wrote : n.payload.sent.writer ≡ who = sym (ap (λ (v : Sent). v.writer) same_one) ∙ w.writer in
        let P : SentPayload → Type 0 = λ r. is_asked k (noted_in r.control) ≡ true in
        let Q : Sent → Type 0 = λ v. AreFrames v.text.bytes w.all in (
          sym wrote,
          subst P rest_one w.asked,
          same_one,
          λ back e asked. record {
            number = number;
            payload = reported;
            is = there_now;
            writer = wrote;
            rest = back;
            rest_is = ap (λ a. (unsettled_after kind n.payload.sent.unsettled a).rest) e;
            asked = asked;
            all = w.all;
            spelled = subst Q same_one w.spelled;
            limit = w.limit;
            listed = w.listed;
            enough = w.enough;
          },
        )
        )
  ]

  tracked_reported : ((k : Permission) (limit : ℕ) (who : End) → who ≡ n.payload.sent.writer → is_asked k (noted_in n.rest.control) ≡ true → (w : UnderWay k limit old.sent who) → w.payload ≡ n.payload.sent → ((back : SentPayload) → n.answer ≡ Err back → is_asked k (noted_in back.control) ≡ true → UnderWay k limit new.sent who)
      → Tracks k limit (the_end new who) (u.of (peer who)) new.sent who) → IsTracked some new u
  tracked_reported done = tracked-left old new t u c g m l (heard_back old.sent new.sent t u back_reported g c.heard) (λ who k w. elim (left_or_done k _ who w) [ inl x ↦ done k _ who x.0 x.1 w x.2 x.3 | inr still ↦ inr (inr (inr still)) ])

module _ {some : Which} (old new : PairState) (t u : Tales) (c : IsTracked some old t) (g : AllGrow t u) (number : ℕ) where
  tracked_lost : (reply : Answer) → ((who : End) → EndLeaves (may_of (steps.Lose number)) (the_end old who) (the_end new who)) → Reports Lost LosesPayloadAt old number reply new → IsTracked some new u
  tracked_lost reply l n = tracked_reported old new t u c g (may_of (steps.Lose number)) l number Lost LosesPayloadAt reply n (λ k limit who wrote asked w one back. by k limit who wrote asked back n.answer refl n.does)
    where
      by : (k : Permission) (limit : ℕ) (who : End) → who ≡ n.payload.sent.writer → is_asked k (noted_in n.rest.control) ≡ true → ((back : SentPayload) → n.answer ≡ Err back → is_asked k (noted_in back.control) ≡ true → UnderWay k limit new.sent who)
          → (answer : Result (Unit {0}) SentPayload) → n.answer ≡ answer → LosesPayloadAt (the_end old n.payload.sent.writer) (sent_view n.rest) (report_view answer) n.end → Tracks k limit (the_end new who) (u.of (peer who)) new.sent who
      by k limit who wrote asked back (Ok done) e d =
          let P : End → Type 0 = λ x. is_asked k (the_end new x).pending ≡ true in
          let Q : EndState → Type 0 = λ x. is_asked k x.pending ≡ true in
          let here : is_asked k n.end.pending ≡ true = ap (is_asked k) d.1 ∙ merged_noted k (the_end old n.payload.sent.writer).pending (thin_view n.rest.control) asked in
          inr (inr (inl (subst P (sym wrote) (subst Q (sym (changed_to old new n.payload.sent.writer n.end _ n.is)) here))))
      by k limit who wrote asked back (Err r) e d = inr (inr (inr (back r e (lost_back k _ _ _ _ (sent_view n.rest) (sent_view r) d asked))))

  tracked_acked : (reply : Answer) → ((who : End) → EndLeaves (may_of (steps.Ack number)) (the_end old who) (the_end new who)) → Reports Acknowledged AcksPayloadAt old number reply new → IsTracked some new u
  tracked_acked reply l n = tracked_reported old new t u c g (may_of (steps.Ack number)) l number Acknowledged AcksPayloadAt reply n (λ k limit who wrote asked w one back. by k limit who wrote asked w one back n.answer refl n.does)
    where
      by : (k : Permission) (limit : ℕ) (who : End) → who ≡ n.payload.sent.writer → is_asked k (noted_in n.rest.control) ≡ true → (w : UnderWay k limit old.sent who) → w.payload ≡ n.payload.sent → ((back : SentPayload) → n.answer ≡ Err back → is_asked k (noted_in back.control) ≡ true → UnderWay k limit new.sent who)
          → (answer : Result (Unit {0}) SentPayload) → n.answer ≡ answer → AcksPayloadAt (the_end old n.payload.sent.writer) (sent_view n.rest) (report_view answer) n.end → Tracks k limit (the_end new who) (u.of (peer who)) new.sent who
      by k limit who wrote asked w one back (Err r) e d = inr (inr (inr (back r e (acked_back k _ _ (sent_view n.rest) (sent_view r) d.acks asked))))
      by k limit who wrote asked w one back (Ok done) e d = by_place (place-of (frame_of k w.limit) w.all w.listed)
        where
          all_accepted : (index : ℕ) → index < length w.all → is_accepted w.payload.text index ≡ true
          all_accepted index within =
              let P : Sent → Type 0 = λ v. AreFrames v.text.bytes w.all in
              let Q : Sent → Type 0 = λ v. is_accepted v.text index ≡ true in
              subst Q (sym one) (n.serves w.all (subst P one w.spelled) index within)

          by_place : (index : ℕ) × (slice_get w.all index ≡ Some (frame_of k w.limit)) → Tracks k limit (the_end new who) (u.of (peer who)) new.sent who
          by_place p = inr (inl (told-grown k limit (t.of (peer who)) (u.of (peer who)) (g (peer who)) (told-less k limit (heard_of k w.limit) (t.of (peer who)) w.enough (
              let R : End → Type 0 = λ x. IsTold k (heard_of k w.limit) (t.of (peer x)) in
              subst R w.writer (c.heard w.number w.payload w.all p.0 k w.limit w.is w.spelled p.1 (all_accepted p.0 (slice_get-within w.all p.0 (frame_of k w.limit) p.1)))))))

  pub tracked-loses : (reply : Answer) → ((who : End) → EndLeaves (may_of (steps.Lose number)) (the_end old who) (the_end new who)) → SettlesPayload Lost LosesPayloadAt old number reply new → IsTracked some new u
  tracked-loses (Ok Done) l n = tracked_lost (Ok Done) l n
  tracked-loses (Err NoMemory) l n = tracked_lost (Err NoMemory) l n
  tracked-loses (Err NoSuchPayload) l n = tracked-same old new t u c g (may_of (steps.Lose number)) l (ap (λ (v : PairState). v.sent) n.1)
  tracked-loses (Err AlreadySettled) l n = tracked-same old new t u c g (may_of (steps.Lose number)) l (ap (λ (v : PairState). v.sent) n.is)
  tracked-loses (Err NotAccepted) l n = tracked-same old new t u c g (may_of (steps.Lose number)) l (ap (λ (v : PairState). v.sent) n.is)
  tracked-loses _ l n = absurd n

  pub tracked-acks : (reply : Answer) → ((who : End) → EndLeaves (may_of (steps.Ack number)) (the_end old who) (the_end new who)) → SettlesPayload Acknowledged AcksPayloadAt old number reply new → IsTracked some new u
  tracked-acks (Ok Done) l n = tracked_acked (Ok Done) l n
  tracked-acks (Err NoMemory) l n = tracked_acked (Err NoMemory) l n
  tracked-acks (Err NoSuchPayload) l n = tracked-same old new t u c g (may_of (steps.Ack number)) l (ap (λ (v : PairState). v.sent) n.1)
  tracked-acks (Err AlreadySettled) l n = tracked-same old new t u c g (may_of (steps.Ack number)) l (ap (λ (v : PairState). v.sent) n.is)
  tracked-acks (Err NotAccepted) l n = tracked-same old new t u c g (may_of (steps.Ack number)) l (ap (λ (v : PairState). v.sent) n.is)
  tracked-acks _ l n = absurd n
