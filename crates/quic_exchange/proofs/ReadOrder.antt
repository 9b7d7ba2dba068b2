-- A settling reads every stream: behind its reads each stream that an end was given was read up.
use Rattle.std.proofs.Common.{◌≡◌, ◌⊎◌, ℕ, Bool, true, false, List, [], ◌∷◌, ◌++◌, length, Option, Some, None, Result, Ok, Err, refl, sym, ap, ◌∙◌, subst, inl, inr, arith, ◌≤◌, ◌<◌, append_assoc}
use Rattle.std.specs.Prelude.{◌+◌, ◌-◌, ◌^◌, ◌/◌, ◌%◌, ◌==◌, ◌&&◌, nat_lt, if◌then◌else◌}
use Rattle.std.specs.Global.{Vec}
use Rattle.std.proofs.lemmas.Bool.Decides.{nat_tests}
use Rattle.quic_values.specs.declared.ids.Side.{Side}
use Rattle.quic_values.specs.declared.ids.Side.TheVariants.{Client, Server}
use Rattle.quic_values.specs.declared.ids.Dir.{Dir}
use Rattle.quic_values.specs.declared.ids.Dir.TheVariants.{Bi, Uni}
use Rattle.quic_values.specs.Ids.{initiator_of, dir_of, index_of, stream_id}
use Rattle.quic_assembler.specs.declared.chunk.Chunk.{Chunk}
use Rattle.quic_receiving.specs.declared.errors.ReadableError.{ReadableError}
use Rattle.quic_receiving.specs.declared.errors.ReadableError.TheVariants as readable_error
use Rattle.quic_outgoing.specs.Outgoing.{own_of}
use Rattle.quic_history.specs.World.{World, is_own, is_same_side, remote_of}
use Rattle.quic_history.specs.SendEvents.{GaveLimits, RaisedCount}
use Rattle.quic_history.specs.SendTotals.{send_totals, own_total}
use Rattle.quic_history.specs.History.{Event, Sending, count_by, greatest_count, since}
use Rattle.quic_history.proofs.Refusals.{index-id, side-bit}
use Rattle.quic_streams.specs.declared.batches.ReadSome.{ReadSome}
use Rattle.quic_link.specs.Endpoints.{IsOneOf, LinkedEnd, WasGiven}
use Rattle.quic_link.proofs.Basics.{permits_now}
use Rattle.quic_link.proofs.Joint.{Agrees, agrees}
use Rattle.quic_link.proofs.GivenIds.{dir_is}
use Rattle.quic_endpoint.specs.Ends.{EndState}
use Rattle.quic_endpoint.specs.Reports.{LosesPayloadAt, AcksPayloadAt}
use Rattle.quic_exchange.proofs.Origins.{Origin}
use Rattle.quic_steps.specs.declared.steps.End.{End}
use Rattle.quic_steps.specs.declared.steps.End.TheVariants.{A, B}
use Rattle.quic_steps.specs.declared.steps.Step.TheVariants as steps
use Rattle.quic_steps.specs.declared.steps.Reply.TheVariants.{Done, Read, Closed, Illegal, Event as Told}
use Rattle.quic_steps.specs.declared.steps.PairError.TheVariants.{NoSuchPayload, NoSuchFrame, NotAccepted, UnknownId, AlreadySettled, LimitsBelow, Undecided, Decided, OutOfMemory as NoMemory}
use Rattle.quic_steps.specs.declared.steps.Last.{Last}
use Rattle.quic_steps.specs.declared.steps.Last.TheVariants as last
use Rattle.quic_wire.specs.declared.event.StreamEvent.{StreamEvent}
use Rattle.quic_wire.specs.declared.event.StreamEvent.TheVariants as stream_event
use Rattle.quic_exchange.specs.Sent.{Sent}
use Rattle.quic_exchange.specs.declared.unsettled.Report.{Report}
use Rattle.quic_exchange.specs.declared.unsettled.Report.TheVariants.{Lost, Acknowledged}
use Rattle.quic_exchange.specs.declared.phase.Phase.{Phase}
use Rattle.quic_exchange.specs.declared.phase.Phase.TheVariants as phase
use Rattle.quic_exchange.specs.declared.phase.Going.{Going}
use Rattle.quic_exchange.specs.declared.phase.Going.TheVariants.{On, Over, StreamOver, Unordered}
use Rattle.quic_exchange.specs.Replies.{Answer, read_reply}
use Rattle.quic_exchange.specs.Readable.{OnlySends, ReadsTrue, side_of}
use Rattle.quic_exchange.specs.Refused.{IsKnownSo}
use Rattle.quic_exchange.specs.State.{PairState, OnEnd, peer, the_end}
use Rattle.quic_exchange.specs.Steps.{NextOrdinary, SettlesPayload}
use Rattle.quic_exchange.specs.History.{Past, Flow, History, past_of, past_read, after, after_poll, after_event, after_deliver, after_report, reads_last, reads_chunks}
use Rattle.quic_exchange.proofs.Eras.{EraFrom, next}
use Rattle.quic_exchange.specs.Settling.{step_at, going_of, going_reading, phase_after, phase_after_report, behind_reports, is_quiet_at, after_accepting, after_accept, after_streams, after_reading, after_polling, after_emits, after_frame, FollowsPhases, IsSoughtFor, none as follows_none, more as follows_more}
use Rattle.quic_exchange.proofs.Emissions.{emitted-some}
use Rattle.quic_exchange.proofs.Flips.{seen-as}
use Rattle.quic_exchange.proofs.Beside.{beside}
use Rattle.quic_exchange.proofs.GivenSo.{known-from, given_counts}
use Rattle.quic_exchange.proofs.PayloadKnows.{StaySent, stay-sent}
use Rattle.quic_exchange.proofs.Ordinary.{ordinary-at}
use Rattle.quic_exchange.proofs.Settling.{IsReadyFor, IsStreamlessIf, ready-sought, ready-phases}
use Rattle.quic_exchange.proofs.Streamless.{IsStreamless, AddsNoStream, streamless-stays, adds-none, adds-kept, adds-accepted, deliver-ids, deliver-flow, stay-emitted, stay-delivered, stay-reported}
use Rattle.quic_exchange.proofs.CallsSetting.{was-given}
use Rattle.quic_exchange.proofs.Marks.{sent_on_end}
use Rattle.quic_exchange.proofs.Grown.{joined-from, past-after}
use Rattle.quic_exchange.proofs.RefusedSo.{refused-so}
use Rattle.quic_exchange.proofs.Readable.{readable-so, flow_here}
use Rattle.quic_exchange.proofs.ReadUp.{IsReadUp, ArePlaces, IsSameRead, WasReadUp, places-from, read-up-now, read-up-still, read-other, poll-like}

-- ---- the order of reads

-- a stream of an end is of an opener and a direction
abbrev pub IsOfKind : End → Side → Dir → End → ℕ → Type 0
IsOfKind who opener dir end id = (end ≡ who) × (initiator_of id ≡ opener) × (dir_of id ≡ dir)

-- those that are read first, and with each kind that is read next
abbrev pub IsOfFirst : End → ℕ → Type 0
IsOfFirst end id = ⊥ ⊎ IsOfKind A Client Bi end id

abbrev pub IsOfTwo : End → ℕ → Type 0
IsOfTwo end id = IsOfFirst end id ⊎ IsOfKind A Server Bi end id

abbrev pub IsOfThree : End → ℕ → Type 0
IsOfThree end id = IsOfTwo end id ⊎ IsOfKind A Server Uni end id

abbrev pub IsOfFour : End → ℕ → Type 0
IsOfFour end id = IsOfThree end id ⊎ IsOfKind B Client Bi end id

abbrev pub IsOfFive : End → ℕ → Type 0
IsOfFive end id = IsOfFour end id ⊎ IsOfKind B Server Bi end id

-- all that are read
abbrev pub IsOfAny : End → ℕ → Type 0
IsOfAny end id = IsOfFive end id ⊎ IsOfKind B Client Uni end id

-- all behind a quiet round, and none behind another
abbrev pub IsAnyIf : Bool → End → ℕ → Type 0
IsAnyIf true end id = IsOfAny end id
IsAnyIf false end id = ⊥

-- the streams that are read before those of an end, an opener and a direction
abbrev pub IsOfEarlier : End → Side → Dir → End → ℕ → Type 0
IsOfEarlier A Client d end id = ⊥
IsOfEarlier A Server Bi end id = IsOfFirst end id
IsOfEarlier A Server Uni end id = IsOfTwo end id
IsOfEarlier B Client Bi end id = IsOfThree end id
IsOfEarlier B Server Bi end id = IsOfFour end id
IsOfEarlier B Server Uni end id = ⊥
IsOfEarlier B Client Uni end id = IsOfFive end id

-- those that were read before a phase
abbrev pub IsPassed : Phase → End → ℕ → Type 0
IsPassed (phase.Read who stream ordered) end id = IsOfEarlier who (initiator_of stream) (dir_of stream) end id ⊎ (IsOfKind who (initiator_of stream) (dir_of stream) end id × (index_of id < index_of stream))
IsPassed (phase.Poll who) end id = IsOfAny end id
IsPassed phase.EmitOfA end id = IsOfAny end id
IsPassed (phase.EmitOfB first empty quiet) end id = IsOfAny end id
IsPassed (phase.Deliver payload frame other quiet) end id = IsAnyIf quiet end id
IsPassed (phase.Report payload quiet) end id = IsAnyIf quiet end id
IsPassed (phase.ReportLost payload quiet) end id = IsAnyIf quiet end id
IsPassed (phase.Drop first) end id = IsOfAny end id
IsPassed _ end id = ⊥

-- a stream that is read is one on which its end receives
abbrev pub IsReader : Phase → Type 0
IsReader (phase.Read who stream ordered) = OnlySends who stream → ⊥
IsReader _ = Unit {0}

-- before a phase all that it passed was read up
pub record HasRead (at : Phase) (p : Past) (sent : List Sent) : Type 0 where
  pub reader : IsReader at
  pub passed : (end : End) (id : ℕ) → IsPassed at end id → IsOneOf id (p.ids end) → WasReadUp p sent end id

-- an end receives on each stream that is read, and on no other
pub any_kind : (end : End) (id : ℕ) → (OnlySends end id → ⊥) → IsOfAny end id
any_kind end id never = by end (initiator_of id) (dir_of id) refl refl never
  where
    by : (e : End) (s : Side) (d : Dir) → initiator_of id ≡ s → dir_of id ≡ d → (OnlySends e id → ⊥) → IsOfAny e id
    by A Client Bi i j n = inl (inl (inl (inl (inl (inr (refl, i, j))))))
    by A Client Uni i j n = absurd (n (i, j))
    by A Server Bi i j n = inl (inl (inl (inl (inr (refl, i, j)))))
    by A Server Uni i j n = inl (inl (inl (inr (refl, i, j))))
    by B Client Bi i j n = inl (inl (inr (refl, i, j)))
    by B Server Bi i j n = inl (inr (refl, i, j))
    by B Server Uni i j n = absurd (n (i, j))
    by B Client Uni i j n = inr (refl, i, j)

-- those that are read before any of B are of A
of_a : (end : End) (id : ℕ) → IsOfThree end id → end ≡ A
of_a end id o = elim o [
  | inl c ↦ elim c [ inl b ↦ elim b [ inl none ↦ absurd none | inr k ↦ k.0 ] | inr k ↦ k.0 ]
  | inr k ↦ k.0
]

-- a stream is not of an earlier kind
apart_from : (who : End) (s : Side) (d : Dir) (end : End) (id : ℕ) → IsOfEarlier who s d end id → IsOfKind who s d end id → ⊥
apart_from A Client d end id o h = absurd o
apart_from A Server Bi end id o h = elim o [ inl none ↦ absurd none | inr b ↦ (let e = sym b.1 ∙ h.1 in cc) ]
apart_from A Server Uni end id o h = elim o [
  | inl a ↦ elim a [ inl none ↦ absurd none | inr b ↦ (let e = sym b.1 ∙ h.1 in cc) ]
  | inr b ↦ (let e = sym b.2 ∙ h.2 in cc)
]
apart_from B Client Bi end id o h = let e = sym (of_a end id o) ∙ h.0 in cc
apart_from B Server Bi end id o h = elim o [ inl a ↦ (let e = sym (of_a end id a) ∙ h.0 in cc) | inr b ↦ (let e = sym b.1 ∙ h.1 in cc) ]
apart_from B Server Uni end id o h = absurd o
apart_from B Client Uni end id o h = elim o [
  | inl c ↦ elim c [ inl a ↦ (let e = sym (of_a end id a) ∙ h.0 in cc) | inr b ↦ (let e = sym b.2 ∙ h.2 in cc) ]
  | inr b ↦ (let e = sym b.1 ∙ h.1 in cc)
]

none_below : (n : ℕ) → n < 0 → ⊥
none_below n l = omega (arith, l)

-- behind the last stream of a kind those of the kind and of earlier ones are passed
passed_streams : (who : End) (s : Side) (d : Dir) (end : End) (id : ℕ) → ((s ≡ side_of who) × (d ≡ Uni) → ⊥) → IsPassed (after_streams who s d) end id → IsOfEarlier who s d end id ⊎ IsOfKind who s d end id
passed_streams A Client Bi end id never (inl o) = o
passed_streams A Client Bi end id never (inr k) = absurd (none_below (index_of id) k.1)
passed_streams A Client Uni end id never p = absurd (never (refl, refl))
passed_streams A Server Bi end id never (inl o) = o
passed_streams A Server Bi end id never (inr k) = absurd (none_below (index_of id) k.1)
passed_streams A Server Uni end id never (inl o) = o
passed_streams A Server Uni end id never (inr k) = absurd (none_below (index_of id) k.1)
passed_streams B Client Bi end id never (inl o) = o
passed_streams B Client Bi end id never (inr k) = absurd (none_below (index_of id) k.1)
passed_streams B Server Bi end id never (inl o) = o
passed_streams B Server Bi end id never (inr k) = absurd (none_below (index_of id) k.1)
passed_streams B Server Uni end id never p = absurd (never (refl, refl))
passed_streams B Client Uni end id never p = p

reader_streams : (who : End) (s : Side) (d : Dir) → IsReader (after_streams who s d)
reader_streams A Client d = λ o. let e = o.0 in cc
reader_streams A Server Bi = λ o. let e = o.0 in cc
reader_streams A Server Uni = λ o. let e = o.0 in cc
reader_streams B Client Bi = λ o. let e = o.1 in cc
reader_streams B Server d = λ o. let e = o.0 in cc
reader_streams B Client Uni = tt

initiator_is : (s : Side) (d : Dir) (n : ℕ) → initiator_of (stream_id s d n) ≡ s
initiator_is Client d n = ap (λ b. if b then Client else Server) (side-bit Client d n)
initiator_is Server d n = ap (λ b. if b then Client else Server) (side-bit Server d n)

-- an id is spelled by its initiator, direction and index
id_is : (id : ℕ) → id ≡ stream_id (initiator_of id) (dir_of id) (index_of id)
id_is id = by_bits (id % 2 == 0) (id / 2 % 2 == 0) refl refl
  where
    by_bits : (b c : Bool) → (id % 2 == 0) ≡ b → (id / 2 % 2 == 0) ≡ c → id ≡ stream_id (if b then Client else Server) (if c then Bi else Uni) (id / 4)
    by_bits true true e k = grind (arith, nat_tests)
    by_bits true false e k = grind (arith, nat_tests)
    by_bits false true e k = grind (arith, nat_tests)
    by_bits false false e k = grind (arith, nat_tests)

-- ---- streams that were given

count_few : (e : Event) (d : Dir) → count_by e d ≤ 2 ^ 60
count_few (Sending (GaveLimits limits (Ok x))) d = omega arith
count_few (Sending (RaisedCount dir count (Ok x))) d = omega arith
count_few e d = omega arith

greatest_few : (h : List Event) (d : Dir) → greatest_count h d ≤ 2 ^ 60
greatest_few [] d = omega arith
greatest_few (e ∷ h) d = let a = greatest_few h d in let b = count_few e d in omega arith

-- how many streams of a kind an end was given
abbrev given_count : World → Bool → Dir → ℕ
given_count w own d = if own then (own_of w.out d).opened else (remote_of w d).next_reported

own_total_is : (w : World) (d : Dir) → (own_total (send_totals w.out) d).opened ≡ (own_of w.out d).opened
own_total_is w Bi = refl
own_total_is w Uni = refl

given_few : (x : LinkedEnd) (y : LinkedEnd) → Agrees x y → (d : Dir) (own : Bool) → given_count x.world own d ≤ 2 ^ 60
given_few x y a d true =
    let opened = a.comes.from.sent.opened d in
    let few = a.comes.from.sent.few d in
    let greatest = greatest_few (since x.calls) d in
    let same = own_total_is x.world d in
    omega (arith, opened, few, greatest, same)
given_few x y a d false =
    let r = permits_now x.made x.calls x.world a.comes.from.run a.comes.remotes d in
    let accepted = r.accepted in
    let opened = r.opened in
    let few = a.few d in
    omega (arith, accepted, opened, few)

module _ (a b : Origin) (h : History) (v : PairState) (f : EraFrom a b h v) (end : End) where
  given_below : (id : ℕ) → IsOneOf id ((past_of h).ids end) → WasGiven (the_end v end).streams id
  given_below id l = was-given (the_end v end).streams id ((known-from f end id).1 l)

  -- the index of a stream that was given is not too great
  index_small : (id : ℕ) → IsOneOf id ((past_of h).ids end) → index_of id < 2 ^ 60
  index_small id l =
      let g = given_below id l in
      seen-as a b (past_of h) v end (joined-from f) (index_of id < 2 ^ 60) (λ x y side s.
      let P : World → Type 0 = λ w. WasGiven w id in
      let there : WasGiven x.world id = subst P (sym s.here.world) g in
      let few = given_few x y (agrees s.linked).0 (dir_of id) (is_own x.world id) in
      omega (arith, there, few))

  -- and each stream of its kind with a lower index was given
  given_lower : (id q : ℕ) → initiator_of q ≡ initiator_of id → dir_of q ≡ dir_of id → index_of q ≤ index_of id → IsOneOf id ((past_of h).ids end) → IsOneOf q ((past_of h).ids end)
  given_lower id q i d l k =
      let w = (the_end v end).streams in
      let g : index_of id < given_count w (is_own w id) (dir_of id) = given_below id k in
      let own : is_own w q ≡ is_own w id = ap (λ s. is_same_side w.out.side s) i in
      let same : given_count w (is_own w q) (dir_of q) ≡ given_count w (is_own w id) (dir_of id) = ap (λ b. given_count w b (dir_of q)) own ∙ ap (given_count w (is_own w id)) d in
      (known-from f end q).0 (given_counts w q (omega (arith, g, same, l)))

-- ---- a step keeps what was read

record KeepsReads (p q : Past) (sent more : List Sent) (but : End → ℕ → Type 0) : Type 0 where
  ids : (end : End) → q.ids end ≡ p.ids end
  kept : AddsNoStream more p.kept q.kept
  accepted : AddsNoStream more p.accepted q.accepted
  flow : (end : End) (id : ℕ) → (but end id → ⊥) → IsSameRead (p.flow (peer end) id) (q.flow (peer end) id)
  stay : StaySent sent more

still_read : (p q : Past) (sent more : List Sent) (but : End → ℕ → Type 0) (k : KeepsReads p q sent more but) (at : Phase) → HasRead at p sent → (end : End) (id : ℕ) → IsPassed at end id → (but end id → ⊥) → IsOneOf id (q.ids end) → WasReadUp q more end id
still_read p q sent more but k at r end id passed never l =
    let P : List ℕ → Type 0 = λ ids. IsOneOf id ids in
    read-up-still p q sent more end id (k.flow end id never) k.kept k.accepted k.stay (r.passed end id passed (subst P (k.ids end) l))

-- a phase that passes no more
goes_on_read : (p q : Past) (sent more : List Sent) (at later : Phase) → KeepsReads p q sent more (λ end id. ⊥) → IsReader later → ((end : End) (id : ℕ) → IsPassed later end id → IsPassed at end id) → HasRead at p sent → HasRead later q more
goes_on_read p q sent more at later k reader same r = record { reader = reader; passed = λ end id passed l. still_read p q sent more (λ e i. ⊥) k at r end id (same end id passed) (λ none. none) l }

blank : (at : Phase) (p : Past) (sent : List Sent) → IsReader at → ((end : End) (id : ℕ) → IsPassed at end id → ⊥) → HasRead at p sent
blank at p sent reader none = record { reader = reader; passed = λ end id passed l. absurd (none end id passed) }

same_flow : (f : Flow) → IsSameRead f f
same_flow f = record { given = refl; written = refl; ended = refl; stops = refl }

pub stay_on_end : {P : EndState → EndState → Type 0} (old : PairState) (who : End) (new : PairState) → OnEnd P old who new → StaySent old.sent new.sent
stay_on_end old who new n = subst (StaySent old.sent) (sym (sent_on_end old who new n)) (stay-sent old.sent)

event_ids : (p : Past) (who end : End) (event : StreamEvent) → (after_event p who event).ids end ≡ p.ids end
event_ids p who end (stream_event.Finished id) = refl
event_ids p who end (stream_event.Stopped id code) = refl
event_ids p who end _ = refl

pub poll_ids : (p : Past) (who end : End) (reply : Answer) → (after_poll p who reply).ids end ≡ p.ids end
poll_ids p who end (Ok (Told event)) = event_ids p who end event
poll_ids p who end _ = refl

pub read_ids : (p : Past) (who end : End) (id : ℕ) (ordered : Bool) (reply : Answer) → (past_read p who id ordered reply).ids end ≡ p.ids end
read_ids p who end id ordered (Ok (Read chunks last transmit)) = refl
read_ids p who end id ordered _ = refl

module _ (p : Past) (old new : PairState) where
  keeps_poll : (who : End) (reply : Answer) → NextOrdinary old (steps.Poll who) reply new → KeepsReads p (after_poll p who reply) old.sent new.sent (λ end id. ⊥)
  keeps_poll who reply n =
      let b = beside p (steps.Poll who) reply tt in
      record { ids = λ end. poll_ids p who end reply; kept = adds-none new.sent p.kept _ b.kept; accepted = adds-none new.sent p.accepted _ b.accepted; flow = λ end id never. poll-like p who (peer end) id reply; stay = stay_on_end old who new n }

  keeps_read : (who : End) (id : ℕ) (ordered : Bool) (most times : ℕ) (reply : Answer) → NextOrdinary old (steps.Read who id ordered most times) reply new → KeepsReads p (past_read p who id ordered reply) old.sent new.sent (λ end q. (end ≡ who) × (q ≡ id))
  keeps_read who id ordered most times reply n =
      let b = beside p (steps.Read who id ordered most times) reply tt in
      record { ids = λ end. read_ids p who end id ordered reply; kept = adds-none new.sent p.kept _ b.kept; accepted = adds-none new.sent p.accepted _ b.accepted; flow = λ end q never. read-other p who end id q ordered reply (λ e i. never (e, i)); stay = stay_on_end old who new n }

  keeps_stay : StaySent old.sent new.sent → KeepsReads p p old.sent new.sent (λ end id. ⊥)
  keeps_stay stay = record { ids = λ end. refl; kept = adds-none new.sent p.kept p.kept refl; accepted = adds-none new.sent p.accepted p.accepted refl; flow = λ end id never. same_flow (p.flow (peer end) id); stay = stay }

  keeps_noted : (number : ℕ) (kind : Report) (reply : Answer) → StaySent old.sent new.sent → KeepsReads p (after_report p number kind reply) old.sent new.sent (λ end id. ⊥)
  keeps_noted number kind (Ok Done) stay = record { ids = λ end. refl; kept = adds-none new.sent p.kept p.kept refl; accepted = adds-none new.sent p.accepted p.accepted refl; flow = λ end id never. same_flow (p.flow (peer end) id); stay = stay }
  keeps_noted number kind (Err NoMemory) stay = record { ids = λ end. refl; kept = adds-none new.sent p.kept p.kept refl; accepted = adds-none new.sent p.accepted p.accepted refl; flow = λ end id never. same_flow (p.flow (peer end) id); stay = stay }
  keeps_noted number kind _ stay = keeps_stay stay

  keeps_lost : (number : ℕ) (reply : Answer) → SettlesPayload Lost LosesPayloadAt old number reply new → KeepsReads p (after_report p number Lost reply) old.sent new.sent (λ end id. ⊥)
  keeps_lost number reply e = keeps_noted number Lost reply (stay-reported old new Lost LosesPayloadAt number reply e)

  keeps_acked : (number : ℕ) (reply : Answer) → SettlesPayload Acknowledged AcksPayloadAt old number reply new → KeepsReads p (after_report p number Acknowledged reply) old.sent new.sent (λ end id. ⊥)
  keeps_acked number reply e = keeps_noted number Acknowledged reply (stay-reported old new Acknowledged AcksPayloadAt number reply e)

  -- a frame of a payload without a STREAM frame is delivered
  keeps_deliver : (number index : ℕ) (reply : Answer) → NextOrdinary old (steps.Deliver number index) reply new → IsStreamless old.sent number → KeepsReads p (after_deliver p (number, index) reply) old.sent new.sent (λ end id. ⊥)
  keeps_deliver number index reply n none =
      let stay = stay-delivered old new number index reply n in
      let still = streamless-stays old.sent new.sent number stay none in
      record {
        ids = λ end. deliver-ids p (number, index) reply end;
        kept = adds-kept p new.sent (number, index) still reply;
        accepted = adds-accepted p new.sent (number, index) still reply;
        flow = λ end id never. subst (IsSameRead (p.flow (peer end) id)) (sym (deliver-flow p (number, index) reply (peer end) id)) (same_flow (p.flow (peer end) id));
        stay = stay;
      }

-- ---- what a read was answered

abbrev IsReadAnswer : Answer → Type 0
IsReadAnswer (Ok (Read chunks end transmit)) = Unit {0}
IsReadAnswer (Ok Closed) = Unit {0}
IsReadAnswer (Ok Illegal) = Unit {0}
IsReadAnswer (Ok _) = ⊥
IsReadAnswer (Err error) = Unit {0}

read_answers : (answer : Result ReadSome ReadableError) → IsReadAnswer (read_reply answer)
read_answers (Ok r) = tt
read_answers (Err readable_error.ClosedStream) = tt
read_answers (Err readable_error.IllegalOrderedRead) = tt
read_answers (Err readable_error.OutOfMemory) = tt

module _ (p : Past) (sent : List Sent) (who : End) (id most times : ℕ) (ordered : Bool) where
  abbrev behind : Answer → Past
  behind reply = past_read p who id ordered reply

  -- the stream is over: it was read up
  up_by_last : (chunks : Vec Chunk) (end : Last) (transmit : Bool) → going_reading end ≡ Some StreamOver → ReadsTrue (behind (Ok (Read chunks end transmit))) sent who id ordered most times (Ok (Read chunks end transmit)) → IsReadUp (behind (Ok (Read chunks end transmit))) sent who id
  up_by_last chunks last.Blocked transmit e r = inl (ordered, r.1)
  up_by_last chunks last.Ended transmit e r = inr (inl (flow_here (λ (f : Flow). f.ended ≡ true) (peer who) id (λ f. reads_last last.Ended (reads_chunks ordered chunks.items f)) p refl))
  up_by_last chunks (last.Reset code) transmit e r = inr (inr (inr (code, r.1)))
  up_by_last chunks last.Memory transmit e r = cc
  up_by_last chunks last.More transmit e r = cc

  up_by : (reply : Answer) → IsReadAnswer reply → (OnlySends who id → ⊥) → going_of reply ≡ Some StreamOver → ReadsTrue (behind reply) sent who id ordered most times reply → IsReadUp (behind reply) sent who id
  up_by (Ok (Read chunks end transmit)) w never e r = up_by_last chunks end transmit e r
  up_by (Ok Closed) w never e r = elim r [ inl own ↦ absurd (never own) | inr over ↦ inr over ]
  up_by (Ok Illegal) w never e r = cc
  up_by (Err NoMemory) w never e r = cc
  up_by (Err UnknownId) w never e r = cc
  up_by (Err NoSuchPayload) w never e r = cc
  up_by (Err NoSuchFrame) w never e r = cc
  up_by (Err NotAccepted) w never e r = cc
  up_by (Err AlreadySettled) w never e r = cc
  up_by (Err LimitsBelow) w never e r = cc
  up_by (Err Undecided) w never e r = cc
  up_by (Err Decided) w never e r = cc
  up_by _ w never e r = absurd w

  over_by_last : (end : Last) → going_reading end ≡ Some Over → ⊥
  over_by_last last.Blocked e = cc
  over_by_last last.Ended e = cc
  over_by_last (last.Reset code) e = cc
  over_by_last last.Memory e = cc
  over_by_last last.More e = cc

  -- there are no more of its kind: it was not given
  unknown_by : (reply : Answer) → IsReadAnswer reply → going_of reply ≡ Some Over → IsKnownSo (p.ids who) id reply → IsOneOf id (p.ids who) → ⊥
  unknown_by (Ok (Read chunks end transmit)) w e k = λ l. over_by_last end e
  unknown_by (Ok Closed) w e k = λ l. cc
  unknown_by (Ok Illegal) w e k = λ l. cc
  unknown_by (Err NoMemory) w e k = λ l. cc
  unknown_by (Err UnknownId) w e k = k
  unknown_by (Err NoSuchPayload) w e k = λ l. k.1 tt
  unknown_by (Err NoSuchFrame) w e k = λ l. k.1 tt
  unknown_by (Err NotAccepted) w e k = λ l. k.1 tt
  unknown_by (Err AlreadySettled) w e k = λ l. k.1 tt
  unknown_by (Err LimitsBelow) w e k = λ l. k.1 tt
  unknown_by (Err Undecided) w e k = λ l. k.1 tt
  unknown_by (Err Decided) w e k = λ l. k.1 tt
  unknown_by _ w e k = absurd w

-- ---- one read

same_index : (id q : ℕ) → initiator_of q ≡ initiator_of id → dir_of q ≡ dir_of id → index_of q ≡ index_of id → q ≡ id
same_index id q i d n = id_is q ∙ ap (λ s. stream_id s (dir_of q) (index_of q)) i ∙ ap (λ e. stream_id (initiator_of id) e (index_of q)) d ∙ ap (stream_id (initiator_of id) (dir_of id)) n ∙ sym (id_is id)

module _ (a b : Origin) (h : History) (old new : PairState) (f : EraFrom a b h old) (who : End) (id : ℕ) (ordered : Bool) (reply : Answer) (n : NextOrdinary old (steps.Read who id ordered (2 ^ 64 - 1) 65535) reply new) (r : HasRead (phase.Read who id ordered) (past_of h) old.sent) where
  abbrev q : Past
  q = past_read (past_of h) who id ordered reply

  answer_is : IsReadAnswer reply
  answer_is = elim n.does [
    | inl known ↦ subst IsReadAnswer (sym known.1.reply_is) (read_answers known.1.answer)
    | inr unknown ↦ subst IsReadAnswer (sym unknown.1) tt
  ]

  keeps : KeepsReads (past_of h) q old.sent new.sent (λ end i. (end ≡ who) × (i ≡ id))
  keeps = keeps_read (past_of h) old new who id ordered (2 ^ 64 - 1) 65535 reply n

  -- what was passed before is read up still
  passed_still : (end : End) (i : ℕ) → IsPassed (phase.Read who id ordered) end i → IsOneOf i (q.ids end) → WasReadUp q new.sent end i
  passed_still end i passed l = still_read (past_of h) q old.sent new.sent (λ e j. (e ≡ who) × (j ≡ id)) keeps (phase.Read who id ordered) r end i passed (λ both. elim passed [
    | inl earlier ↦ apart_from who (initiator_of id) (dir_of id) end i earlier (both.0, ap initiator_of both.1, ap dir_of both.1)
    | inr lower ↦ (let less = lower.1 in let e = ap index_of both.1 in omega (arith, less, e))
  ]) l

  -- it is read itself
  now_up : going_of reply ≡ Some StreamOver → (end : End) (i : ℕ) → end ≡ who → i ≡ id → WasReadUp q new.sent end i
  now_up e end i who_is id_same =
      let sents = sent_on_end old who new n in
      let P : List Sent → Type 0 = λ l. IsReadUp q l who id in
      let up = subst P (sym sents) (up_by (past_of h) old.sent who id (2 ^ 64 - 1) 65535 ordered reply answer_is r.reader e (readable-so a b h old new (steps.Read who id ordered (2 ^ 64 - 1) 65535) reply f n)) in
      let places = let Q : Past → Type 0 = λ x. ArePlaces x.kept new.sent in subst Q (past-after h (steps.Read who id ordered (2 ^ 64 - 1) 65535) reply) (places-from a b _ new (next (steps.Read who id ordered (2 ^ 64 - 1) 65535) reply f n)) in
      let S : End → Type 0 = λ x. WasReadUp q new.sent x i in
      let T : ℕ → Type 0 = λ x. WasReadUp q new.sent who x in
      subst S (sym who_is) (subst T (sym id_same) (read-up-now q new.sent who id places up))

  -- those of its kind, up to it
  up_to_it : going_of reply ≡ Some StreamOver → (end : End) (i : ℕ) → IsOfKind who (initiator_of id) (dir_of id) end i → index_of i ≤ index_of id → IsOneOf i (q.ids end) → WasReadUp q new.sent end i
  up_to_it e end i kind le l = by (nat_lt (index_of i) (index_of id)) refl
    where
      by : (c : Bool) → nat_lt (index_of i) (index_of id) ≡ c → WasReadUp q new.sent end i
      by true t = passed_still end i (inr (kind, grind (arith, nat_tests, t))) l
      by false t =
          let ge : index_of id ≤ index_of i = grind (arith, nat_tests, t) in
          now_up e end i kind.0 (same_index id i kind.1 kind.2 (omega (arith, ge, le)))

  ids_old : (end : End) (i : ℕ) → IsOneOf i (q.ids end) → IsOneOf i ((past_of h).ids end)
  ids_old end i l = let P : List ℕ → Type 0 = λ ids. IsOneOf i ids in subst P (keeps.ids end) l

  read_streams : ((end : End) (i : ℕ) → IsOfKind who (initiator_of id) (dir_of id) end i → IsOneOf i (q.ids end) → WasReadUp q new.sent end i) → HasRead (after_streams who (initiator_of id) (dir_of id)) q new.sent
  read_streams kind = record {
    reader = reader_streams who (initiator_of id) (dir_of id);
    passed = λ end i passed l. elim (passed_streams who (initiator_of id) (dir_of id) end i r.reader passed) [
      | inl earlier ↦ passed_still end i (inl earlier) l
      | inr of ↦ kind end i of l
    ];
  }

  read_next_one : going_of reply ≡ Some StreamOver → HasRead (phase.Read who (stream_id (initiator_of id) (dir_of id) (index_of id + 1)) true) q new.sent
  read_next_one e =
      let s = initiator_of id in
      let d = dir_of id in
      let m = index_of id + 1 in
      record {
        reader = λ o. r.reader (sym (initiator_is s d m) ∙ o.0, sym (dir_is s d m) ∙ o.1);
        passed = λ end i passed l.
            let P : Side → Type 0 = λ t. IsOfEarlier who t (dir_of (stream_id s d m)) end i ⊎ (IsOfKind who t (dir_of (stream_id s d m)) end i × (index_of i < index_of (stream_id s d m))) in
            let Q : Dir → Type 0 = λ t. IsOfEarlier who s t end i ⊎ (IsOfKind who s t end i × (index_of i < index_of (stream_id s d m))) in
            let same = index-id s d m in
            elim (subst Q (dir_is s d m) (subst P (initiator_is s d m) passed)) [
              | inl earlier ↦ passed_still end i (inl earlier) l
              | inr lower ↦ up_to_it e end i lower.0 (let less = lower.1 in omega (arith, less, same)) l
            ];
      }

  read_one : going_of reply ≡ Some StreamOver → (c : Bool) → nat_lt (index_of id + 1) (2 ^ 60) ≡ c → HasRead (if c then phase.Read who (stream_id (initiator_of id) (dir_of id) (index_of id + 1)) true else after_streams who (initiator_of id) (dir_of id)) q new.sent
  read_one e true t = read_next_one e
  read_one e false t = read_streams (λ end i kind l.
      let small = index_small a b h old f end i (ids_old end i l) in
      let last_one : 2 ^ 60 ≤ index_of id + 1 = grind (arith, nat_tests, t) in
      up_to_it e end i kind (omega (arith, small, last_one)) l)

  read_over : going_of reply ≡ Some Over → HasRead (after_streams who (initiator_of id) (dir_of id)) q new.sent
  read_over e = read_streams (λ end i kind l. by end i kind l (nat_lt (index_of i) (index_of id)) refl)
    where
      unknown : IsOneOf id ((past_of h).ids who) → ⊥
      unknown = unknown_by (past_of h) old.sent who id (2 ^ 64 - 1) 65535 ordered reply answer_is e (refused-so None a b h old new (steps.Read who id ordered (2 ^ 64 - 1) 65535) reply f n)

      by : (end : End) (i : ℕ) → IsOfKind who (initiator_of id) (dir_of id) end i → IsOneOf i (q.ids end) → (c : Bool) → nat_lt (index_of i) (index_of id) ≡ c → WasReadUp q new.sent end i
      by end i kind l true t = passed_still end i (inr (kind, grind (arith, nat_tests, t))) l
      by end i kind l false t =
          let P : End → Type 0 = λ x. IsOneOf i ((past_of h).ids x) in
          absurd (unknown (given_lower a b h old f who i id (sym kind.1) (sym kind.2) (grind (arith, nat_tests, t)) (subst P kind.0 (ids_old end i l))))

  read_same : (other : Bool) → HasRead (phase.Read who id other) q new.sent
  read_same other = record { reader = r.reader; passed = passed_still }

  pub has-read-one : (going : Going) → going_of reply ≡ Some going → HasRead (after_reading who id ordered going) q new.sent
  has-read-one On e = read_same ordered
  has-read-one Unordered e = read_same false
  has-read-one StreamOver e = read_one e (nat_lt (index_of id + 1) (2 ^ 60)) refl
  has-read-one Over e = read_over e

-- ---- all phases

any_if : (quiet : Bool) (end : End) (id : ℕ) → IsAnyIf quiet end id → IsOfAny end id
any_if true end id i = i
any_if false end id i = absurd i

reader_emits : (first : ℕ) (empty : Bool) (going : Going) (second : ℕ) (quiet : Bool) → IsReader (after_emits first empty going second quiet)
reader_emits first true Over second quiet = tt
reader_emits first true On second quiet = tt
reader_emits first true StreamOver second quiet = tt
reader_emits first true Unordered second quiet = tt
reader_emits first false going second quiet = tt

passed_emits : (first : ℕ) (empty : Bool) (going : Going) (second : ℕ) (quiet : Bool) (end : End) (id : ℕ) → IsPassed (after_emits first empty going second quiet) end id → IsOfAny end id
passed_emits first true Over second quiet end id i = i
passed_emits first true On second quiet end id i = any_if quiet end id i
passed_emits first true StreamOver second quiet end id i = any_if quiet end id i
passed_emits first true Unordered second quiet end id i = any_if quiet end id i
passed_emits first false going second quiet end id i = any_if quiet end id i

reader_frame : (payload frame : ℕ) (other : Option ℕ) (quiet : Bool) (going : Going) → IsReader (after_frame payload frame other quiet going)
reader_frame payload frame (Some other) quiet On = tt
reader_frame payload frame (Some other) quiet Over = tt
reader_frame payload frame (Some other) quiet StreamOver = tt
reader_frame payload frame (Some other) quiet Unordered = tt
reader_frame payload frame None quiet On = tt
reader_frame payload frame None quiet Over = tt
reader_frame payload frame None quiet StreamOver = tt
reader_frame payload frame None quiet Unordered = tt

passed_frame : (payload frame : ℕ) (other : Option ℕ) (quiet : Bool) (going : Going) (end : End) (id : ℕ) → IsPassed (after_frame payload frame other quiet going) end id → IsAnyIf quiet end id
passed_frame payload frame (Some other) quiet On end id i = i
passed_frame payload frame (Some other) quiet Over end id i = i
passed_frame payload frame (Some other) quiet StreamOver end id i = i
passed_frame payload frame (Some other) quiet Unordered end id i = i
passed_frame payload frame None quiet On end id i = i
passed_frame payload frame None quiet Over end id i = i
passed_frame payload frame None quiet StreamOver end id i = i
passed_frame payload frame None quiet Unordered end id i = i

module _ (p q : Past) (sent more : List Sent) where
  read_accepting : (who : End) (dir : Dir) → HasRead (after_accepting who dir) q more
  read_accepting A Bi = blank (phase.Accept A Uni) q more tt (λ end id none. none)
  read_accepting A Uni = blank (phase.Accept B Bi) q more tt (λ end id none. none)
  read_accepting B Bi = blank (phase.Accept B Uni) q more tt (λ end id none. none)
  read_accepting B Uni = blank (phase.Read A 0 true) q more (λ o. let e = o.1 in cc) (λ end id passed. elim passed [ inl none ↦ none | inr k ↦ none_below (index_of id) k.1 ])

  read_accept : (who : End) (dir : Dir) (going : Going) → HasRead (after_accept who dir going) q more
  read_accept who dir On = blank (phase.Accept who dir) q more tt (λ end id none. none)
  read_accept who dir Over = read_accepting who dir
  read_accept who dir StreamOver = read_accepting who dir
  read_accept who dir Unordered = read_accepting who dir

  module _ (k : KeepsReads p q sent more (λ end id. ⊥)) where
    read_report : (payload : ℕ) (quiet : Bool) (going : Going) → HasRead (phase.Report payload quiet) p sent → HasRead (phase_after_report payload quiet going) q more
    read_report payload quiet On r = goes_on_read p q sent more (phase.Report payload quiet) (phase.Report payload quiet) k tt (λ end id i. i) r
    read_report payload quiet Over r = goes_on_read p q sent more (phase.Report payload quiet) (phase.ReportLost payload quiet) k tt (λ end id i. i) r
    read_report payload quiet StreamOver r = goes_on_read p q sent more (phase.Report payload quiet) (phase.ReportLost payload quiet) k tt (λ end id i. i) r
    read_report payload quiet Unordered r = goes_on_read p q sent more (phase.Report payload quiet) (phase.ReportLost payload quiet) k tt (λ end id i. i) r

    read_report_lost : (payload : ℕ) (quiet : Bool) → HasRead (phase.ReportLost payload quiet) p sent → HasRead (phase.Report payload quiet) q more
    read_report_lost payload quiet r = goes_on_read p q sent more (phase.ReportLost payload quiet) (phase.Report payload quiet) k tt (λ end id i. i) r

    read_polling : (who : End) (going : Going) → HasRead (phase.Poll who) p sent → HasRead (after_polling who going) q more
    read_polling who On r = goes_on_read p q sent more (phase.Poll who) (phase.Poll who) k tt (λ end id i. i) r
    read_polling A Over r = goes_on_read p q sent more (phase.Poll A) (phase.Poll B) k tt (λ end id i. i) r
    read_polling A StreamOver r = goes_on_read p q sent more (phase.Poll A) (phase.Poll B) k tt (λ end id i. i) r
    read_polling A Unordered r = goes_on_read p q sent more (phase.Poll A) (phase.Poll B) k tt (λ end id i. i) r
    read_polling B Over r = goes_on_read p q sent more (phase.Poll B) phase.EmitOfA k tt (λ end id i. i) r
    read_polling B StreamOver r = goes_on_read p q sent more (phase.Poll B) phase.EmitOfA k tt (λ end id i. i) r
    read_polling B Unordered r = goes_on_read p q sent more (phase.Poll B) phase.EmitOfA k tt (λ end id i. i) r

    read_emits : (first : ℕ) (empty quiet : Bool) (going : Going) (second : ℕ) (later : Bool) → HasRead (phase.EmitOfB first empty quiet) p sent → HasRead (after_emits first empty going second later) q more
    read_emits first empty quiet going second later r = goes_on_read p q sent more (phase.EmitOfB first empty quiet) (after_emits first empty going second later) k (reader_emits first empty going second later) (passed_emits first empty going second later) r

  -- what was read up stays so behind frames of a quiet round, and nothing is said behind others
  read_frame : (payload frame : ℕ) (other : Option ℕ) (quiet : Bool) (going : Going) → (quiet ≡ true → KeepsReads p q sent more (λ end id. ⊥)) → HasRead (phase.Deliver payload frame other quiet) p sent → HasRead (after_frame payload frame other quiet going) q more
  read_frame payload frame other true going k r = goes_on_read p q sent more (phase.Deliver payload frame other true) (after_frame payload frame other true going) (k refl) (reader_frame payload frame other true going) (passed_frame payload frame other true going) r
  read_frame payload frame other false going k r = blank (after_frame payload frame other false going) q more (reader_frame payload frame other false going) (passed_frame payload frame other false going)

read_after : (a b : Origin) (h : History) (old new : PairState) → EraFrom a b h old → (at : Phase) (reply : Answer) → NextOrdinary old (step_at at) reply new → (going : Going) → going_of reply ≡ Some going → IsReadyFor at old → HasRead at (past_of h) old.sent → HasRead (phase_after at going (length old.sent) (is_quiet_at new.sent (length old.sent))) (after (past_of h) (step_at at) reply) new.sent
read_after a b h old new f (phase.Report payload quiet) reply n going e ready r = read_report (past_of h) _ old.sent new.sent (keeps_acked (past_of h) old new payload reply n) payload quiet going r
read_after a b h old new f (phase.ReportLost payload quiet) reply n going e ready r = read_report_lost (past_of h) _ old.sent new.sent (keeps_lost (past_of h) old new payload reply n) payload quiet r
read_after a b h old new f (phase.Accept who dir) reply n going e ready r = read_accept (past_of h) _ old.sent new.sent who dir going
read_after a b h old new f (phase.Read who id ordered) reply n going e ready r = has-read-one a b h old new f who id ordered reply n r going e
read_after a b h old new f (phase.Poll who) reply n going e ready r = read_polling (past_of h) _ old.sent new.sent (keeps_poll (past_of h) old new who reply n) who going r
read_after a b h old new f phase.EmitOfA reply n going e ready r =
    goes_on_read (past_of h) (past_of h) old.sent new.sent phase.EmitOfA (phase.EmitOfB (length old.sent) _ _) (keeps_stay (past_of h) old new (stay-emitted old new A (2 ^ 64 - 1) true reply (emitted-some old new A (2 ^ 64 - 1) true reply n))) tt (λ end id i. i) r
read_after a b h old new f (phase.EmitOfB first empty quiet) reply n going e ready r =
    read_emits (past_of h) (past_of h) old.sent new.sent (keeps_stay (past_of h) old new (stay-emitted old new B (2 ^ 64 - 1) true reply (emitted-some old new B (2 ^ 64 - 1) true reply n))) first empty quiet going (length old.sent) (quiet && is_quiet_at new.sent (length old.sent)) r
read_after a b h old new f (phase.Deliver payload frame other quiet) reply n going e ready r =
    read_frame (past_of h) _ old.sent new.sent payload frame other quiet going (λ q. let P : Bool → Type 0 = λ x. IsStreamlessIf x old.sent payload in keeps_deliver (past_of h) old new payload frame reply n (subst P q ready.0)) r
read_after a b h old new f (phase.Drop first) reply n going e ready r = goes_on_read (past_of h) _ old.sent new.sent (phase.Drop first) (phase.Drop first) (keeps_lost (past_of h) old new first reply n) tt (λ end id i. i) r

read_reports : (from : ℕ) (quiet : Bool) (p : Past) (sent : List Sent) → HasRead (phase.Report from quiet) p sent → HasRead (behind_reports quiet) p sent
read_reports from true p sent r = record { reader = tt; passed = r.passed }
read_reports from false p sent r = blank (phase.Accept A Bi) p sent tt (λ end id none. none)

read_sought : (at here : Phase) (p : Past) (sent : List Sent) → IsSoughtFor sent at here → HasRead at p sent → HasRead here p sent
read_sought (phase.Report from quiet) here p sent s r =
    let P : Phase → Type 0 = λ x. HasRead x p sent in
    elim s [
      | inl next_one ↦ subst P (sym next_one.2) (record { reader = tt; passed = r.passed })
      | inr none ↦ subst P (sym none.1) (read_reports from quiet p sent r)
    ]
read_sought (phase.Drop first) here p sent s r =
    let P : Phase → Type 0 = λ x. HasRead x p sent in
    elim s [
      | inl next_one ↦ subst P (sym next_one.2) (record { reader = tt; passed = r.passed })
      | inr other ↦ subst P (sym other.2) (record { reader = tt; passed = r.passed })
    ]
read_sought (phase.ReportLost payload quiet) here p sent s r = let P : Phase → Type 0 = λ x. HasRead x p sent in subst P (sym s) r
read_sought (phase.Accept who dir) here p sent s r = let P : Phase → Type 0 = λ x. HasRead x p sent in subst P (sym s) r
read_sought (phase.Read who id ordered) here p sent s r = let P : Phase → Type 0 = λ x. HasRead x p sent in subst P (sym s) r
read_sought (phase.Poll who) here p sent s r = let P : Phase → Type 0 = λ x. HasRead x p sent in subst P (sym s) r
read_sought phase.EmitOfA here p sent s r = let P : Phase → Type 0 = λ x. HasRead x p sent in subst P (sym s) r
read_sought (phase.EmitOfB first empty quiet) here p sent s r = let P : Phase → Type 0 = λ x. HasRead x p sent in subst P (sym s) r
read_sought (phase.Deliver payload frame other quiet) here p sent s r = let P : Phase → Type 0 = λ x. HasRead x p sent in subst P (sym s) r

-- each phase finds read what it passed
pub reads-phases : (a b : Origin) (h : History) (old : PairState) (taken : History) (new : PairState) (at : Phase) → EraFrom a b h old → FollowsPhases old (phase.Report 0 false) taken new at → HasRead at (past_of (h ++ taken)) new.sent
reads-phases a b h old _ _ _ f follows_none = blank (phase.Report 0 false) (past_of (h ++ [])) old.sent tt (λ end id none. none)
reads-phases a b h old _ _ _ f (follows_more {taken} {between} {new} {at} here reply going before sought n e) =
    let r = reads-phases a b h old taken between at f before in
    let g = ready-phases a b h old taken between at f before in
    let later = phase_after here going (length between.sent) (is_quiet_at new.sent (length between.sent)) in
    let P : Past → Type 0 = λ x. HasRead later x new.sent in
    let read = subst P (sym (past-after (h ++ taken) (step_at here) reply)) (read_after a b (h ++ taken) between new g.led here reply (ordinary-at here between new reply n) going e (ready-sought at here between g.ready sought) (read_sought at here (past_of (h ++ taken)) between.sent sought r)) in
    subst (λ l. HasRead later (past_of l) new.sent) (append_assoc h taken ((step_at here, reply) ∷ [])) read
