-- A stream on which something arrived was given once its end was answered that there is none to accept, or it is over.
use Rattle.std.proofs.Common.{◌≡◌, ◌⊎◌, ℕ, Bool, true, false, List, ◌∷◌, Option, Some, None, is_some, Ok, refl, sym, ap, ◌∙◌, subst, inl, inr, arith, ◌≤◌, ◌<◌}
use Rattle.std.specs.Prelude.{◌==◌, nat_le, nat_lt, slice_get, if◌then◌else◌}
use Rattle.std.specs.Option.{option_map}
use Rattle.std.proofs.lemmas.Bool.Decides.{nat_tests}
use Rattle.std.proofs.lemmas.Option.{same_Some}
use Rattle.quic_values.specs.declared.ids.Side.{Side}
use Rattle.quic_values.specs.declared.ids.Side.TheVariants.{Client, Server}
use Rattle.quic_values.specs.declared.ids.Dir.{Dir}
use Rattle.quic_values.specs.declared.ids.Dir.TheVariants.{Bi, Uni}
use Rattle.quic_values.specs.Ids.{initiator_of, dir_of, index_of, stream_id, other_side}
use Rattle.quic_wire.specs.Codes.{STREAM_LIMIT_ERROR, STREAM_STATE_ERROR}
use Rattle.quic_wire.specs.declared.event.StreamEvent.{StreamEvent}
use Rattle.quic_wire.specs.declared.event.StreamEvent.TheVariants as stream_event
use Rattle.quic_wire.specs.declared.frame.Frame.{Frame}
use Rattle.quic_wire.specs.declared.frame.Frame.TheVariants as frames
use Rattle.quic_wire.specs.declared.frame.Stream.{Stream}
use Rattle.quic_wire.proofs.Joins.{same}
use Rattle.quic_assembler.specs.declared.chunk.Chunk.{Chunk}
use Rattle.quic_outgoing.specs.Outgoing.{own_of}
use Rattle.quic_history.specs.World.{World, is_own, is_same_side, remote_of, own_refusal, id_refusal}
use Rattle.quic_history.specs.Permitting.{acceptable}
use Rattle.quic_link.specs.Endpoints.{IsOneOf, LinkedEnd, WasGiven, came_on}
use Rattle.quic_link.specs.Promises.{IsOver as IsOverTrace}
use Rattle.quic_link.proofs.Meets.{nexts, next_of_dir}
use Rattle.quic_link.proofs.Opened.{WasTaken, has-opened}
use Rattle.quic_link.proofs.Joint.{agrees}
use Rattle.quic_link.proofs.Promised.{promised}
use Rattle.quic_exchange.proofs.Origins.{Origin}
use Rattle.quic_steps.specs.declared.steps.End.{End}
use Rattle.quic_steps.specs.declared.steps.End.TheVariants.{A, B}
use Rattle.quic_steps.specs.declared.steps.Reply.TheVariants.{Id, Read, Event}
use Rattle.quic_steps.specs.declared.steps.Last.{Last}
use Rattle.quic_steps.specs.declared.steps.Last.TheVariants as last
use Rattle.quic_exchange.specs.Sent.{Sent}
use Rattle.quic_exchange.specs.declared.phase.Going.TheVariants.{On}
use Rattle.quic_exchange.specs.Payloads.{is_accepted}
use Rattle.quic_exchange.specs.Replies.{Answer, accepted_reply}
use Rattle.quic_exchange.specs.Readable.{IsFlowOver, OnlySends, side_of}
use Rattle.quic_exchange.specs.State.{PairState, peer, the_end}
use Rattle.quic_exchange.specs.History.{Past, Flow, History, past_of, past_read, after_given, after_poll, after_event, with_flow, is_same_end, completes, tells_stop, reads_last, reads_chunks}
use Rattle.quic_exchange.specs.Headline.{SomeStream}
use Rattle.quic_exchange.proofs.Eras.{EraFrom}
use Rattle.quic_exchange.specs.Settling.{going_of}
use Rattle.quic_exchange.proofs.Lists.{got-one}
use Rattle.quic_exchange.proofs.Joined.{Seen, IsPayloadOf}
use Rattle.quic_exchange.proofs.Flips.{seen-as}
use Rattle.quic_exchange.proofs.Marks.{marks-from}
use Rattle.quic_exchange.proofs.KeptCalls.{was-stopped, was-reset}
use Rattle.quic_exchange.proofs.KeptPlaces.{reset-stays, reset-more}
use Rattle.quic_exchange.proofs.Streamless.{AddsNoStream, adds-none, adds-then}
use Rattle.quic_exchange.proofs.PayloadKnows.{StaySent}
use Rattle.quic_exchange.proofs.GivenSo.{known-from, given_counts}
use Rattle.quic_exchange.proofs.Grown.{joined-from}

-- ---- streams that are known

none_below : (n i : ℕ) (error : ℕ) → (if nat_le n i then Some error else None) ≡ None → i < n
none_below n i error e = by_test (nat_le n i) refl e
  where
    by_test : (b : Bool) → nat_le n i ≡ b → (if b then Some error else None) ≡ None → i < n
    by_test true t k = cc
    by_test false t k = grind (arith, nat_tests, t)

next_is : (w : World) (d : Dir) → next_of_dir (nexts w) d ≡ (remote_of w d).next_remote
next_is w Bi = refl
next_is w Uni = refl

own_known : (w : World) (d : Dir) (i : ℕ) → own_refusal w d i ≡ None → (d ≡ Bi) × (i < (own_of w.out d).opened)
own_known w Bi i e = (refl, none_below w.out.own_bi.opened i STREAM_STATE_ERROR e)
own_known w Uni i e = cc

-- every stream of the peer that counts as opened was given
abbrev pub HasAcceptedAll : World → Dir → Type 0
HasAcceptedAll w d = (remote_of w d).next_remote ≤ (remote_of w d).next_reported

-- an end knows a stream on which it does not send alone, and was given it unless it is over
pub record IsMet (p : Past) (sent : List Sent) (end : End) (id : ℕ) : Type 0 where
  pub receives : OnlySends end id → ⊥
  pub given : IsOneOf id (p.ids end) ⊎ IsFlowOver p sent (peer end) id

some_code : (o : Option ℕ) → is_some o ≡ true → (code : ℕ) × (o ≡ Some code)
some_code (Some code) e = (code, refl)
some_code None e = cc

module _ (a b : Origin) (h : History) (v : PairState) (f : EraFrom a b h v) (end : End) (id : ℕ) (Is : Stream → Type 0) (st : SomeStream v.sent (peer end) id (past_of h).accepted Is) where
  -- the application was given what counts as given
  ids_of : WasGiven (the_end v end).streams id → IsOneOf id ((past_of h).ids end)
  ids_of g = (known-from f end id).0 (given_counts (the_end v end).streams id g)

  module _ (x y : LinkedEnd) (side : x.made.side ≡ side_of end) (s : Seen (past_of h) end v x y) where
    over_so : IsOverTrace (came_on x id) → IsFlowOver (past_of h) v.sent (peer end) id
    over_so (inl e) = inl (sym (s.receives.ended id) ∙ e)
    over_so (inr (inl e)) = let t = was-stopped x.calls id e in inr (inl (t.0, s.receives.stops id t.0 t.1))
    over_so (inr (inr e)) =
        let code = some_code (came_on x id).reset e in
        let t = was-reset x.calls id code.0 code.1 in
        inr (inr (code.0, s.kept_here.resets id code.0 t.0 t.1 t.2))

    payload_of : IsPayloadOf y x st.sent_as.payload
    payload_of = s.others st.at.0 st.sent_as.payload st.sent_as.is st.sent_as.writer

    there : slice_get payload_of.all st.at.1 ≡ Some (frames.Stream st.stream)
    there = ap (λ (l : List Frame). slice_get l st.at.1) (same st.sent_as.payload.text.bytes payload_of.all st.sent_as.frame.all payload_of.spelled st.sent_as.frame.spelled) ∙ st.sent_as.frame.at

    marked : is_accepted st.sent_as.payload.text st.at.1 ≡ true
    marked =
        let m = (marks-from f).marked st.at st.listed in
        let one = same_Some m.payload st.sent_as.payload (sym m.is ∙ st.sent_as.is) in
        ap (λ (k : Sent). is_accepted k.text st.at.1) (sym one) ∙ m.marked

    taken : WasTaken x.calls id
    taken =
        let t = payload_of.accepted st.at.1 st.stream there marked in
        let P : ℕ → Type 0 = λ q. WasTaken x.calls q in
        subst P st.on (record { offset = st.stream.offset; bytes = t.bytes; fin = st.stream.fin; transmit = t.transmit; is = t.is })

    -- the end does not refuse it
    known : id_refusal x.world id ≡ None
    known =
        let P : ℕ → Type 0 = λ q. id_refusal x.world q ≡ None in
        subst P st.on (((promised s.linked).1.welcome (frames.Stream st.stream) (payload_of.wrote (frames.Stream st.stream) (got-one payload_of.all st.at.1 (frames.Stream st.stream) there))).0)

    own_given : is_own x.world id ≡ true → (dir_of id ≡ Bi) × WasGiven x.world id
    own_given own =
        let w = x.world in
        let refused : own_refusal w (dir_of id) (index_of id) ≡ None = sym (ap (λ b. if b then own_refusal w (dir_of id) (index_of id) else (if nat_le (remote_of w (dir_of id)).max_remote (index_of id) then Some STREAM_LIMIT_ERROR else None)) own) ∙ known in
        let k = own_known w (dir_of id) (index_of id) refused in
        let P : Bool → Type 0 = λ b. index_of id < (if b then (own_of w.out (dir_of id)).opened else (remote_of w (dir_of id)).next_reported) in
        (k.0, subst P (sym own) k.1)

    same_one : (t : Side) → is_same_side t t ≡ true
    same_one Client = refl
    same_one Server = refl

    own_side : initiator_of id ≡ side_of end → is_own x.world id ≡ true
    own_side i = let sides : x.world.out.side ≡ side_of end = (agrees s.linked).0.comes.side ∙ side in ap (λ t. is_same_side t (initiator_of id)) sides ∙ ap (is_same_side (side_of end)) i ∙ same_one (side_of end)

    receives_so : OnlySends end id → ⊥
    receives_so o = let k = own_given (own_side o.0) in let d = sym k.0 ∙ o.1 in cc

    module _ (all : is_own x.world id ≡ false → HasAcceptedAll x.world (dir_of id)) where
      remote_given : is_own x.world id ≡ false → index_of id < next_of_dir (nexts x.world) (dir_of id) → WasGiven x.world id
      remote_given own less =
          let w = x.world in
          let accepted = all own in
          let n = next_is w (dir_of id) in
          let P : Bool → Type 0 = λ b. index_of id < (if b then (own_of w.out (dir_of id)).opened else (remote_of w (dir_of id)).next_reported) in
          subst P (sym own) (omega (arith, accepted, n, less))

      given_or_over : (own : Bool) → is_own x.world id ≡ own → WasGiven x.world id ⊎ IsOverTrace (came_on x id)
      given_or_over true e = inl (own_given e).1
      given_or_over false e = elim ((has-opened s.linked).0 id e taken) [ inl over ↦ inr over | inr less ↦ inl (remote_given e less) ]

      met_seen : IsMet (past_of h) v.sent end id
      met_seen =
          let P : World → Type 0 = λ w. WasGiven w id in
          record {
            receives = receives_so;
            given = elim (given_or_over (is_own x.world id) refl) [ inl g ↦ inl (ids_of (subst P s.here.world g)) | inr over ↦ inr (over_so over) ];
          }

  pub met-so : (is_own (the_end v end).streams id ≡ false → HasAcceptedAll (the_end v end).streams (dir_of id)) → IsMet (past_of h) v.sent end id
  met-so all = seen-as a b (past_of h) v end (joined-from f) (IsMet (past_of h) v.sent end id) (λ x y side s.
      let P : World → Type 0 = λ w. is_own w id ≡ false → HasAcceptedAll w (dir_of id) in
      met_seen x y side s (subst P (sym s.here.world) all))

-- ---- steps that bring no STREAM frame

-- as much is known of a flow, or more, as to why it is over
pub record IsGrownFlow (f g : Flow) : Type 0 where
  pub ended : f.ended ≡ true → g.ended ≡ true
  pub stops : (code : ℕ) → IsOneOf code f.stops → IsOneOf code g.stops

pub grown-one : (f : Flow) → IsGrownFlow f f
grown-one f = record { ended = λ e. e; stops = λ code l. l }

-- no STREAM frame came since
pub record IsQuiet (p q : Past) (sent more : List Sent) : Type 0 where
  pub ids : (end : End) (id : ℕ) → IsOneOf id (p.ids end) → IsOneOf id (q.ids end)
  pub accepted : AddsNoStream more p.accepted q.accepted
  pub flow : (end : End) (id : ℕ) → IsGrownFlow (p.flow end id) (q.flow end id)
  pub stay : StaySent sent more

pub quiet-then : (p q r : Past) (one two three : List Sent) → IsQuiet p q one two → IsQuiet q r two three → IsQuiet p r one three
quiet-then p q r one two three k l = record {
  ids = λ end id i. l.ids end id (k.ids end id i);
  accepted = adds-then two three p.accepted q.accepted r.accepted l.stay k.accepted l.accepted;
  flow = λ end id. record { ended = λ e. (l.flow end id).ended ((k.flow end id).ended e); stops = λ code s. (l.flow end id).stops code ((k.flow end id).stops code s) };
  stay = λ number s is. let a = k.stay number s is in let b = l.stay number a.0 a.1 in (b.0, b.1, b.2 ∙ a.2, b.3 ∙ a.3);
}

pub quiet-stay : (p : Past) (sent more : List Sent) → StaySent sent more → IsQuiet p p sent more
quiet-stay p sent more stay = record { ids = λ end id l. l; accepted = adds-none more p.accepted p.accepted refl; flow = λ end id. grown-one (p.flow end id); stay = stay }

chosen_grown : (test : Bool) (f g : Flow) → IsGrownFlow f g → IsGrownFlow f (if test then g else f)
chosen_grown true f g k = k
chosen_grown false f g k = grown-one f

with_grown : (who end : End) (id q : ℕ) (change : Flow → Flow) (p : Past) → ((f : Flow) → IsGrownFlow f (change f)) → IsGrownFlow (p.flow end q) ((with_flow who id change p).flow end q)
with_grown A A id q change p c = chosen_grown (q == id) (p.flow A q) (change (p.flow A q)) (c (p.flow A q))
with_grown B B id q change p c = chosen_grown (q == id) (p.flow B q) (change (p.flow B q)) (c (p.flow B q))
with_grown A B id q change p c = grown-one (p.flow B q)
with_grown B A id q change p c = grown-one (p.flow A q)

last_grown : (end : Last) (ordered : Bool) (chunks : List Chunk) (f : Flow) → IsGrownFlow f (reads_last end (reads_chunks ordered chunks f))
last_grown last.Blocked ordered chunks f = record { ended = λ e. e; stops = λ code l. l }
last_grown last.Ended ordered chunks f = record { ended = λ e. refl; stops = λ code l. l }
last_grown (last.Reset code) ordered chunks f = record { ended = λ e. e; stops = λ code l. l }
last_grown last.Memory ordered chunks f = record { ended = λ e. e; stops = λ code l. l }
last_grown last.More ordered chunks f = record { ended = λ e. e; stops = λ code l. l }

pub read-grown : (p : Past) (who end : End) (id q : ℕ) (ordered : Bool) (reply : Answer) → IsGrownFlow (p.flow end q) ((past_read p who id ordered reply).flow end q)
read-grown p who end id q ordered (Ok (Read chunks last transmit)) = with_grown (peer who) end id q (λ f. reads_last last (reads_chunks ordered chunks.items f)) p (λ f. last_grown last ordered chunks.items f)
read-grown p who end id q ordered _ = grown-one (p.flow end q)

event_grown : (p : Past) (who end : End) (q : ℕ) (event : StreamEvent) → IsGrownFlow (p.flow end q) ((after_event p who event).flow end q)
event_grown p who end q (stream_event.Finished id) = with_grown who end id q completes p (λ f. record { ended = λ e. e; stops = λ code l. l })
event_grown p who end q (stream_event.Stopped id code) = with_grown who end id q (tells_stop code) p (λ f. record { ended = λ e. e; stops = λ code l. l })
event_grown p who end q _ = grown-one (p.flow end q)

pub poll-grown : (p : Past) (who end : End) (q : ℕ) (reply : Answer) → IsGrownFlow (p.flow end q) ((after_poll p who reply).flow end q)
poll-grown p who end q (Ok (Event event)) = event_grown p who end q event
poll-grown p who end q _ = grown-one (p.flow end q)

one_more : (test : Bool) (id q : ℕ) (ids : List ℕ) → IsOneOf id ids → IsOneOf id (if test then q ∷ ids else ids)
one_more true id q ids l = inr l
one_more false id q ids l = l

pub quiet-given : (p : Past) (sent more : List Sent) (who : End) (reply : Answer) → StaySent sent more → IsQuiet p (after_given p who reply) sent more
quiet-given p sent more who (Ok (Id q)) stay = record { ids = λ end id l. one_more (is_same_end end who) id q (p.ids end) l; accepted = adds-none more p.accepted p.accepted refl; flow = λ end id. grown-one (p.flow end id); stay = stay }
quiet-given p sent more who _ stay = quiet-stay p sent more stay

-- ---- what is over stays so, and who was given a stream has it

-- at some time all streams that counted as opened were given, and no STREAM frame came since
pub record WasAcceptedAll (a b : Origin) (p : Past) (sent : List Sent) (end : End) (dir : Dir) : Type 0 where
  pub h : History
  pub v : PairState
  pub led : EraFrom a b h v
  pub all : HasAcceptedAll (the_end v end).streams dir
  pub quiet : IsQuiet (past_of h) p v.sent sent

pub accepted-still : (a b : Origin) (p q : Past) (sent more : List Sent) (end : End) (dir : Dir) → IsQuiet p q sent more → WasAcceptedAll a b p sent end dir → WasAcceptedAll a b q more end dir
accepted-still a b p q sent more end dir k w = record { h = w.h; v = w.v; led = w.led; all = w.all; quiet = quiet-then (past_of w.h) p q w.v.sent sent more w.quiet k }

pub over-still : (p q : Past) (sent more : List Sent) (end : End) (id : ℕ) → IsQuiet p q sent more → IsFlowOver p sent end id → IsFlowOver q more end id
over-still p q sent more end id k (inl e) = inl ((k.flow end id).ended e)
over-still p q sent more end id k (inr (inl stop)) = inr (inl (stop.0, (k.flow end id).stops stop.0 stop.1))
over-still p q sent more end id k (inr (inr reset)) =
    inr (inr (reset.0, reset-more more end id reset.0 p.accepted q.accepted k.accepted.stay (reset-stays sent more end id k.stay reset.0 p.accepted reset.1)))

-- no more was accepted where there was nothing to accept
pub nothing-accepted : (w : World) (dir : Dir) (reply : Answer) → reply ≡ accepted_reply (acceptable w dir) → (going_of reply ≡ Some On) ⊎ HasAcceptedAll w dir
nothing-accepted w dir reply e = by_test (nat_lt (remote_of w dir).next_reported (remote_of w dir).next_remote) refl
  where
    by_test : (b : Bool) → nat_lt (remote_of w dir).next_reported (remote_of w dir).next_remote ≡ b → (going_of reply ≡ Some On) ⊎ HasAcceptedAll w dir
    by_test true t =
        let one : acceptable w dir ≡ Some (stream_id (other_side w.out.side) dir (remote_of w dir).next_reported) = ap (λ c. option_map (stream_id (other_side w.out.side) dir) (if c then Some (remote_of w dir).next_reported else None)) t in
        inl (ap going_of e ∙ ap (λ o. going_of (accepted_reply o)) one)
    by_test false t = inr (grind (arith, nat_tests, t))
