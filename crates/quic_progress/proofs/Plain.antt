-- While it is not decided whether the server takes what the client sends early, the client permits what it was made with, unless it sets
-- its receive window, or how many streams it permits.
use Rattle.std.proofs.Common.{◌≡◌, ◌⊎◌, ℕ, Bool, true, false, List, [], ◌∷◌, Option, Some, None, is_some, Result, Ok, Err, refl, sym, ap, ◌∙◌, subst, inl, inr, arith, ◌≤◌}
use Rattle.std.specs.Prelude.{ℤ, ◌+◌, nat_lt, slice_set, if◌then◌else◌}
use Rattle.std.proofs.lemmas.Bool.Decides.{nat_tests}
use Rattle.quic_values.specs.declared.memory.OutOfMemory.{OutOfMemory}
use Rattle.quic_values.specs.declared.ids.Dir.{Dir}
use Rattle.quic_values.specs.declared.ids.Dir.TheVariants.{Bi, Uni}
use Rattle.quic_values.specs.declared.ids.Side.TheVariants.{Client}
use Rattle.quic_values.specs.Ids.{initiator_of, dir_of, index_of}
use Rattle.quic_assembler.specs.declared.chunk.Chunk.{Chunk}
use Rattle.quic_assembler.specs.declared.errors.EnsureError.{EnsureError}
use Rattle.quic_assembler.specs.declared.errors.EnsureError.TheVariants as ensure_error
use Rattle.quic_wire.specs.declared.event.StreamEvent.{StreamEvent}
use Rattle.quic_wire.specs.declared.event.StreamEvent.TheVariants as stream_event
use Rattle.quic_wire.specs.declared.frame.Frame.{Frame}
use Rattle.quic_wire.specs.declared.frame.StreamMeta.{StreamMeta}
use Rattle.quic_limits.specs.Credit.{Credit, announced}
use Rattle.quic_limits.specs.Remote as remote
use Rattle.quic_limits.specs.Remote.{Remote}
use Rattle.quic_sending.specs.Source.{slice_lists}
use Rattle.quic_sending.specs.declared.errors.HandleError.{HandleError}
use Rattle.quic_sending.specs.declared.errors.HandleError.TheVariants as handle_error
use Rattle.quic_receiving.specs.Half.{Half, new_half}
use Rattle.quic_receiving.specs.declared.errors.ReadError.{ReadError}
use Rattle.quic_receiving.specs.declared.errors.ReadError.TheVariants as read_error
use Rattle.quic_receiving.specs.declared.errors.ReadableError.{ReadableError}
use Rattle.quic_receiving.specs.declared.errors.ReadableError.TheVariants as readable_error
use Rattle.quic_outgoing.specs.Outgoing.{Outgoing, own_of}
use Rattle.quic_outgoing.specs.Senders.{is_local}
use Rattle.quic_retransmits.specs.Pending.{Pending, nothing}
use Rattle.quic_history.specs.declared.control.ControlKind.{ControlKind}
use Rattle.quic_history.specs.declared.control.ControlKind.TheVariants as kinds
use Rattle.quic_history.specs.declared.progress.LastAnswer.{LastAnswer}
use Rattle.quic_history.specs.declared.progress.LastAnswer.TheVariants as last_answer
use Rattle.quic_history.specs.World.{World, is_own, remote_of, with_remote, with_receive, with_freed, released, with_credit}
use Rattle.quic_history.specs.Control.{SettlesEntry}
use Rattle.quic_history.specs.Reading.{Begins, Asks, ReadsHalf, GivesChunks, LastReads, ReadsSome, Stops, TellsReset, after_stop, bytes_in}
use Rattle.quic_history.specs.Permitting.{with_accepted}
use Rattle.quic_history.specs.Sends.{with_out, with_opened, TellsNext, PollsQueue}
use Rattle.quic_history.specs.Writes.{with_queued}
use Rattle.quic_history.specs.Acknowledged.{was_given}
use Rattle.quic_history.specs.SendEvents.{SendEvent, SendStep, OpenedOwn, SetWindow, WroteOwn, FinishedOwn, ResetOwn, SetOwnPriority, LostOwn, TookTurn, Polled}
use Rattle.quic_history.specs.OwnDoings.{is_own_sending}
use Rattle.quic_history.proofs.EarlyFacts.{same-ends}
use Rattle.quic_history.proofs.SendSteps.{either-way}
use Rattle.quic_history.proofs.Bare.{IsBare}
use Rattle.quic_streams.specs.declared.batches.ReadSome.{ReadSome}
use Rattle.quic_streams.specs.Payload.{PayloadPlace, SettlesSome, none, more, WritesKinds}
use Rattle.quic_streams.specs.Settling.{SentView, EachInOrder, LosesMeta}
use Rattle.quic_streams.specs.Sent.{sent_view, report_view}
use Rattle.quic_endpoint.specs.Ends.{EndState}
use Rattle.quic_endpoint.specs.Emitting.{PayloadView, place_at, control_in}
use Rattle.quic_endpoint.specs.Reports.{LosesPayloadAt, AcksPayloadAt}
use Rattle.quic_steps.specs.declared.steps.End.{End}
use Rattle.quic_steps.specs.declared.steps.End.TheVariants.{A, B}
use Rattle.quic_steps.specs.declared.steps.Step.{Step as PairStep}
use Rattle.quic_steps.specs.declared.steps.Step.TheVariants as steps
use Rattle.quic_steps.specs.declared.steps.Reply.TheVariants.{Done, Payload}
use Rattle.quic_steps.specs.declared.steps.PairError.TheVariants.{NoSuchPayload, NotAccepted, AlreadySettled, OutOfMemory as NoMemory}
use Rattle.quic_exchange.specs.declared.unsettled.Report.{Report}
use Rattle.quic_exchange.specs.declared.unsettled.Report.TheVariants.{Lost, Acknowledged}
use Rattle.quic_exchange.specs.Unsettled.{unsettled_after}
use Rattle.quic_exchange.specs.Replies.{Answer}
use Rattle.quic_exchange.specs.State.{PairState, the_end, with_end, with_sent}
use Rattle.quic_exchange.specs.Calls.{OnGiven, ReadsSo}
use Rattle.quic_exchange.specs.Steps.{NextOrdinary, Reports, SettlesPayload, is_server, needs_decision}
use Rattle.quic_exchange.proofs.Emissions.{EmitsSomeAt, whole, cut, EmittedSome, emitted-some, emitted-part}
use Rattle.quic_exchange.proofs.CallsSetting.{told-streams}
use Rattle.quic_exchange.proofs.Left.{AreLeft}
use Rattle.quic_exchange.proofs.OwnDoings.{AreUntaken, AreSpelled, untaken-here}
use Rattle.quic_progress.specs.Progress.{sets_permits}
use Rattle.quic_progress.proofs.Undecided.{none-parts, none-acks-still}

-- of the streams of a direction that the peer may open
abbrev pub KeepsCount : Remote → Remote → Type 0
KeepsCount r k = (k.max_remote ≡ r.max_remote) × (k.max_concurrent ≡ r.max_concurrent) × ((k.sent_max_remote ≡ r.sent_max_remote) ⊎ (k.sent_max_remote ≡ r.max_remote))

-- what an end permits is as it was, and at most announced anew
pub record KeepsPermits (u v : World) : Type 0 where
  pub size : v.credit.receive_window ≡ u.credit.receive_window
  pub debt : v.credit.shrink_debt ≤ u.credit.shrink_debt
  pub told : u.credit.sent_max_data ≤ v.credit.sent_max_data
  pub adjusted : v.adjusted ≡ u.adjusted
  pub counts : (d : Dir) → KeepsCount (remote_of u d) (remote_of v d)

count_same : (r : Remote) → KeepsCount r r
count_same r = (refl, refl, inl refl)

pub permits-same : (u : World) → KeepsPermits u u
permits-same u = record { size = refl; debt = omega arith; told = omega arith; adjusted = refl; counts = λ d. count_same (remote_of u d) }

pub permits-then : (u v w : World) → KeepsPermits u v → KeepsPermits v w → KeepsPermits u w
permits-then u v w a b = record {
  size = b.size ∙ a.size;
  debt = let x = a.debt in let y = b.debt in omega (arith, x, y);
  told = let x = a.told in let y = b.told in omega (arith, x, y);
  adjusted = b.adjusted ∙ a.adjusted;
  counts = λ d. let x = a.counts d in let y = b.counts d in (y.0 ∙ x.0, y.1 ∙ x.1, elim y.2 [ inl e ↦ elim x.2 [ inl f ↦ inl (e ∙ f) | inr f ↦ inr (e ∙ f) ] | inr e ↦ inr (e ∙ x.0) ]);
}

pub permits-at : (u v w : World) → v ≡ w → KeepsPermits u w → KeepsPermits u v
permits-at u v w e k = let P : World → Type 0 = λ x. KeepsPermits u x in subst P (sym e) k

same_so : (u v : World) → v ≡ u → KeepsPermits u v
same_so u v e = permits-at u v u e (permits-same u)

-- nothing changes of it
pub permits-beside : (u v : World) → v.credit ≡ u.credit → v.bi ≡ u.bi → v.uni ≡ u.uni → v.adjusted ≡ u.adjusted → KeepsPermits u v
permits-beside u v credit bi uni adjusted = record {
  size = ap (λ (c : Credit). c.receive_window) credit;
  debt = let e = ap (λ (c : Credit). c.shrink_debt) credit in omega (arith, e);
  told = let e = ap (λ (c : Credit). c.sent_max_data) credit in omega (arith, e);
  adjusted = adjusted;
  counts = both;
}
  where
    both : (d : Dir) → KeepsCount (remote_of u d) (remote_of v d)
    both Bi = (ap (λ (r : Remote). r.max_remote) bi, ap (λ (r : Remote). r.max_concurrent) bi, inl (ap (λ (r : Remote). r.sent_max_remote) bi))
    both Uni = (ap (λ (r : Remote). r.max_remote) uni, ap (λ (r : Remote). r.max_concurrent) uni, inl (ap (λ (r : Remote). r.sent_max_remote) uni))

receive_so : (u : World) (id : ℕ) (o : Option Half) → KeepsPermits u (with_receive u id o)
unfolding with_receive
receive_so u id o = permits-beside u (with_receive u id o) refl refl refl refl

receive_side : (u : World) (id : ℕ) (o : Option Half) → (with_receive u id o).out.side ≡ u.out.side
unfolding with_receive
receive_side u id o = refl

remote_so : (u : World) (d : Dir) (r : Remote) → KeepsCount (remote_of u d) r → KeepsPermits u (with_remote u d r)
remote_so u Bi r k = record { size = refl; debt = omega arith; told = omega arith; adjusted = refl; counts = both }
  where
    both : (d : Dir) → KeepsCount (remote_of u d) (remote_of (with_remote u Bi r) d)
    both Bi = k
    both Uni = count_same u.uni
remote_so u Uni r k = record { size = refl; debt = omega arith; told = omega arith; adjusted = refl; counts = both }
  where
    both : (d : Dir) → KeepsCount (remote_of u d) (remote_of (with_remote u Uni r) d)
    both Bi = count_same u.bi
    both Uni = k

credit_so : (u : World) (n : ℕ) → KeepsPermits u (with_credit u n)
credit_so u n = record { size = refl; debt = omega arith; told = omega arith; adjusted = refl; counts = both }
  where
    both : (d : Dir) → KeepsCount (remote_of u d) (remote_of (with_credit u n) d)
    both Bi = count_same u.bi
    both Uni = count_same u.uni

out_so : (u : World) (o : Outgoing) → KeepsPermits u (with_out u o)
out_so u o = permits-beside u (with_out u o) refl refl refl refl

queued_so : (u w : World) (id : ℕ) (o : Option ℤ) → KeepsPermits u w → KeepsPermits u (with_queued w id o)
queued_so u w id None l = l
queued_so u w id (Some priority) l = permits-then u w (with_queued w id (Some priority)) l (permits-beside w (with_queued w id (Some priority)) refl refl refl refl)

-- ---- streams that the client opened

own_at : (u : World) (id : ℕ) → u.out.side ≡ Client → is_local Client id ≡ true → is_own u id ≡ true
own_at u id side local = same-ends u.out.side (initiator_of id) ∙ ap (λ s. is_local s id) side ∙ local

-- where nothing of the peer's was opened, a stream that was given is one of them
pub given-own : (w : World) (id : ℕ) → IsBare w → was_given w id ≡ true → is_local Client id ≡ true
given-own w id b given = by (is_own w id) refl given
  where
    local : is_own w id ≡ is_local Client id
    local = same-ends w.out.side (initiator_of id) ∙ ap (λ s. is_local s id) b.client

    by : (own : Bool) → is_own w id ≡ own → (if own then nat_lt (index_of id) (own_of w.out (dir_of id)).opened else nat_lt (index_of id) (remote_of w (dir_of id)).next_reported) ≡ true → is_local Client id ≡ true
    by true e k = sym local ∙ e
    by false e k =
        let k0 = b.unopened (dir_of id) in
        let z = k0.reported in
        let below : nat_lt (index_of id) (remote_of w (dir_of id)).next_reported ≡ false = grind (arith, nat_tests) in
        let both = sym below ∙ k in cc

-- so of a client
record KeepsClient (u v : World) : Type 0 where
  permits : KeepsPermits u v
  side : v.out.side ≡ u.out.side

client_same : (u v : World) → v ≡ u → KeepsClient u v
client_same u v e = record { permits = same_so u v e; side = ap (λ (w : World). w.out.side) e }

client_then : (u v w : World) → KeepsClient u v → KeepsClient v w → KeepsClient u w
client_then u v w a b = record { permits = permits-then u v w a.permits b.permits; side = b.side ∙ a.side }

client_receive : (u v : World) (id : ℕ) (o : Option Half) → v ≡ with_receive u id o → KeepsClient u v
client_receive u v id o e = record { permits = permits-at u v (with_receive u id o) e (receive_so u id o); side = ap (λ (w : World). w.out.side) e ∙ receive_side u id o }

own_still : (u : World) (id : ℕ) (o : Option Half) → is_own u id ≡ true → is_own (with_receive u id o) id ≡ true
unfolding with_receive
own_still u id o own = own

freed_is : (u : World) (id : ℕ) → is_own u id ≡ true → with_freed u id ≡ with_receive u id None
freed_is u id own = by (is_own (with_receive u id None) id) (own_still u id None own)
  where
    by : (b : Bool) → b ≡ true → (if b then with_receive u id None else released (with_receive u id None) (dir_of id) id) ≡ with_receive u id None
    by true e = refl
    by false e = cc

client_freed : (u v : World) (id : ℕ) → is_own u id ≡ true → v ≡ with_freed u id → KeepsClient u v
client_freed u v id own e = client_receive u v id None (e ∙ freed_is u id own)

-- ---- reads

asks_so : (u : World) (id : ℕ) (ordered : Bool) (answer : Result (Unit {0}) EnsureError) (v : World) → Asks u id ordered answer v → KeepsClient u v
asks_so u id ordered answer v a = client_receive u v id (Some a.new) a.is

begins_so : (u : World) (id : ℕ) (ordered : Bool) (answer : Result (Unit {0}) ReadableError) (v : World) → Begins u id ordered answer v → KeepsClient u v
begins_so u id ordered (Ok x) v b = asks_so u id ordered (Ok x) v b
begins_so u id ordered (Err readable_error.ClosedStream) v b = client_same u v b.1
begins_so u id ordered (Err readable_error.IllegalOrderedRead) v b = asks_so u id ordered (Err ensure_error.IllegalOrderedRead) v b
begins_so u id ordered (Err readable_error.OutOfMemory) v b = elim b [ inl e ↦ client_same u v e | inr a ↦ asks_so u id ordered (Err ensure_error.OutOfMemory) v a ]

reads_so : (u : World) (id most : ℕ) (ordered : Bool) (answer : Result (Option Chunk) ReadError) (v : World) → is_own u id ≡ true → ReadsHalf u id most ordered answer v → KeepsClient u v
reads_so u id most ordered (Ok (Some chunk)) v own r = client_receive u v id (Some r.new) r.is
reads_so u id most ordered (Ok None) v own r = client_freed u v id own r.is
reads_so u id most ordered (Err read_error.Blocked) v own r = client_receive u v id (Some r.new) r.is
reads_so u id most ordered (Err (read_error.Reset code)) v own r = client_freed u v id own r.is
reads_so u id most ordered (Err read_error.OutOfMemory) v own r = client_receive u v id (Some r.new) r.is

module _ (id most : ℕ) (ordered : Bool) (local : is_local Client id ≡ true) where
  gives_so : (chunks : List Chunk) (u v : World) → u.out.side ≡ Client → GivesChunks u id most ordered chunks v → KeepsClient u v
  gives_so [] u v side g = client_same u v g
  gives_so (c ∷ cs) u v side g = let one = reads_so u id most ordered (Ok (Some c)) g.0 (own_at u id side local) g.1 in client_then u g.0 v one (gives_so cs g.0 v (one.side ∙ side) g.2)

  last_so : (last : LastAnswer) (u v : World) → u.out.side ≡ Client → LastReads u id most ordered last v → KeepsClient u v
  last_so last_answer.Blocked u v side r = reads_so u id most ordered (Err read_error.Blocked) v (own_at u id side local) r
  last_so last_answer.Ended u v side r = reads_so u id most ordered (Ok None) v (own_at u id side local) r
  last_so (last_answer.Reset code) u v side r = reads_so u id most ordered (Err (read_error.Reset code)) v (own_at u id side local) r
  last_so last_answer.Memory u v side r = reads_so u id most ordered (Err read_error.OutOfMemory) v (own_at u id side local) r
  last_so last_answer.More u v side r = client_same u v r

  reads_some : (times : ℕ) (p q : Pending) (chunks : List Chunk) (last : LastAnswer) (transmit : Bool) (u v : World) → u.out.side ≡ Client → ReadsSome u id most times ordered p chunks last transmit v q → KeepsPermits u v
  reads_some times p q chunks last transmit u v side s =
      let one = begins_so u id ordered (Ok tt) s.opened s.begins in
      let two = gives_so chunks s.opened s.read (one.side ∙ side) s.gives in
      let three = last_so last s.read s.ended (two.side ∙ one.side ∙ side) s.last_reads in
      let all = client_then u s.read s.ended (client_then u s.opened s.read one two) three in
      permits-then u s.ended v all.permits (permits-at s.ended v (with_credit s.ended (bytes_in chunks)) s.is (credit_so s.ended (bytes_in chunks)))

-- ---- stops and resets

stops_so : (u : World) (id code : ℕ) (p q : Pending) (answer : Result (Unit {0}) HandleError) (v : World) → is_own u id ≡ true → Stops u id code p answer v q → KeepsPermits u v
stops_so u id code p q (Ok x) v own t =
    let h = t.0 in
    let k = t.1 in
    let w = with_receive u id (Some k) in
    let e = if is_some h.size then with_freed u id else w in
    permits-at u v (after_stop u id h k) t.6 (permits-then u e (after_stop u id h k) (either (is_some h.size)) (credit_so e _))
  where
    either : (b : Bool) → KeepsPermits u (if b then with_freed u id else with_receive u id (Some t.1))
    either true = (client_freed u (with_freed u id) id own refl).permits
    either false = receive_so u id (Some t.1)
stops_so u id code p q (Err handle_error.ClosedStream) v own t = same_so u v t.1
stops_so u id code p q (Err handle_error.OutOfMemory) v own t = same_so u v t.0

tells_so : (u : World) (id : ℕ) (p q : Pending) (answer : Result (Option ℕ) HandleError) (v : World) → is_own u id ≡ true → TellsReset u id p answer v q → KeepsPermits u v
tells_so u id p q (Ok (Some code)) v own t = (client_freed u v id own t.4).permits
tells_so u id p q (Ok None) v own t = same_so u v t.4
tells_so u id p q (Err handle_error.ClosedStream) v own t = same_so u v t.1
tells_so u id p q (Err handle_error.OutOfMemory) v own t = same_so u v t.3

-- ---- calls of the sending side

opened_so : (u : World) (d : Dir) (id : ℕ) (o : Outgoing) → KeepsPermits u (with_opened u d id o)
opened_so u Uni id o = permits-beside u (with_opened u Uni id o) refl refl refl refl
opened_so u Bi id o =
    let w = with_receive u id (Some (new_half u.window)) in
    permits-then u w (with_opened u Bi id o) (receive_so u id (Some (new_half u.window))) (permits-beside w (with_opened u Bi id o) refl refl refl refl)

told_next_so : (u : World) (answer : Option StreamEvent) (v : World) → TellsNext u answer v → KeepsPermits u v
told_next_so u answer v t = either-way u.bi.opened t
    (λ (b : (answer ≡ Some (stream_event.Opened Bi)) × (v ≡ with_remote u Bi (remote.opening_told u.bi))). permits-at u v (with_remote u Bi (remote.opening_told u.bi)) b.1 (remote_so u Bi (remote.opening_told u.bi) (refl, refl, inl refl)))
    (λ r. either-way u.uni.opened r
    (λ (b : (answer ≡ Some (stream_event.Opened Uni)) × (v ≡ with_remote u Uni (remote.opening_told u.uni))). permits-at u v (with_remote u Uni (remote.opening_told u.uni)) b.1 (remote_so u Uni (remote.opening_told u.uni) (refl, refl, inl refl)))
    (λ k. polled k.0 (with_out u k.1) k.3 (out_so u k.1)))
  where
    polled : (o : Option ℕ) (w : World) → PollsQueue w o answer v → KeepsPermits u w → KeepsPermits u v
    polled (Some id) w p l = permits-at u v w p.1 l
    polled None w p l = permits-at u v (record w { events = p.0 }) p.2 (permits-then u w (record w { events = p.0 }) l (permits-beside w (record w { events = p.0 }) refl refl refl refl))

sending_so : (u : World) (e : SendEvent) (v : World) → is_own_sending e ≡ true → SendStep u e v → KeepsPermits u v
sending_so u (OpenedOwn dir closed (Ok None)) v own s = same_so u v s.1
sending_so u (OpenedOwn dir closed (Ok (Some id))) v own s = permits-at u v (with_opened u dir id s.1) s.3 (opened_so u dir id s.1)
sending_so u (OpenedOwn dir closed (Err x)) v own s = same_so u v s
sending_so u (SetWindow window) v own s = permits-at u v (with_out u _) s (out_so u _)
sending_so u (WroteOwn id lists closed (Ok written)) v own s = let k = s.3 in permits-at u v (with_queued (with_out u k.2) id k.1.queue_at) k.5 (queued_so u (with_out u k.2) id k.1.queue_at (out_so u k.2))
sending_so u (WroteOwn id lists closed (Err x)) v own s = elim s.3 [ inl nil ↦ same_so u v nil.2 | inr k ↦ permits-at u v (with_out u k.1) k.3 (out_so u k.1) ]
sending_so u (FinishedOwn id (Ok x)) v own s = permits-at u v (with_queued (with_out u s.1) id s.0) s.3 (queued_so u (with_out u s.1) id s.0 (out_so u s.1))
sending_so u (FinishedOwn id (Err x)) v own s = permits-at u v (with_out u s.0) s.2 (out_so u s.0)
sending_so u (ResetOwn id code answer) v own s = permits-at u v (with_out u s.2.0) s.2.2 (out_so u s.2.0)
sending_so u (SetOwnPriority id priority answer) v own s = permits-at u v (with_out u s.0) s.2 (out_so u s.0)
sending_so u (LostOwn id offsets fin (Ok x)) v own s = permits-at u v (with_queued (with_out u s.1) id s.0) s.3 (queued_so u (with_out u s.1) id s.0 (out_so u s.1))
sending_so u (LostOwn id offsets fin (Err x)) v own s = same_so u v s.1
sending_so u (TookTurn most fair None) v own s = permits-at u v _ s.is (permits-beside u _ refl refl refl refl)
sending_so u (TookTurn most fair (Some frame)) v own s = permits-at u v _ s.is (permits-beside u _ refl refl refl refl)
sending_so u (Polled answer) v own s = told_next_so u answer v s
sending_so u _ v own s = cc

accepted_count : (r : Remote) (b : Bool) → KeepsCount r (if b then record r { next_reported = r.next_reported + 1 } else r)
accepted_count r true = (refl, refl, inl refl)
accepted_count r false = (refl, refl, inl refl)

accepted_so : (u : World) (d : Dir) → KeepsPermits u (with_accepted u d)
accepted_so u d =
    let r = remote.one_accepted (remote_of u d) in
    let w = with_remote u d r in
    permits-then u w (with_accepted u d) (remote_so u d r (accepted_count (remote_of u d) (nat_lt (remote_of u d).next_reported (remote_of u d).next_remote))) (permits-beside w (with_accepted u d) refl refl refl refl)

-- ---- payloads

entry_so : (kind : ControlKind) (u : World) (p : Pending) (o : Option Frame) (v : World) (q : Pending) → SettlesEntry kind u p o v q → KeepsPermits u v
entry_so kinds.ResetStream u p o v q s = same_so u v s.end
entry_so kinds.StopSending u p o v q s = same_so u v s.end
entry_so kinds.MaxData u p o v q s = permits-at u v (record u { credit = announced u.credit }) s.end (record { size = refl; debt = omega arith; told = omega arith; adjusted = refl; counts = both })
  where
    both : (d : Dir) → KeepsCount (remote_of u d) (remote_of (record u { credit = announced u.credit }) d)
    both Bi = count_same u.bi
    both Uni = count_same u.uni
entry_so kinds.MaxStreamData u p o v q s = permits-at u v _ s.end (permits-beside u _ refl refl refl refl)
entry_so (kinds.MaxStreams d) u p o v q s = permits-at u v (with_remote u d (remote.streams_announced (remote_of u d))) s.end (remote_so u d (remote.streams_announced (remote_of u d)) (refl, refl, inr refl))
entry_so kinds.DataBlocked u p o v q s = same_so u v s.end
entry_so kinds.StreamDataBlocked u p o v q s = same_so u v s.end

some_so : {kind : ControlKind} {most : ℕ} {x y : PayloadPlace} → SettlesSome kind most x y → KeepsPermits x.end y.end
some_so (none {p}) = permits-same p.end
some_so {kind} (more {p} {q} {r} before room s) = permits-then p.end q.end r.end (some_so before) (entry_so kind q.end q.pending s.frame r.end r.pending s.settles)

kinds_so : (most : ℕ) (all : List ControlKind) (x y : PayloadPlace) (answer : Result (Unit {0}) OutOfMemory) → WritesKinds most all x answer y → KeepsPermits x.end y.end
kinds_so most [] x y (Ok r) w = same_so x.end y.end (ap (λ (k : PayloadPlace). k.end) w)
kinds_so most [] x y (Err e) w = absurd w
kinds_so most (k ∷ ks) x y answer w = elim w [
  | inl a ↦ permits-then x.end a.0.end y.end (some_so a.1.turns) (kinds_so most ks a.0 y answer a.2)
  | inr b ↦ some_so b.1
]

pub permits-emit : {most : ℕ} {fair : Bool} {e f : EndState} {payload : PayloadView} {answer : Result (Unit {0}) OutOfMemory} → EmitsSomeAt most fair e payload answer f → KeepsPermits e.streams f.streams
permits-emit {most} {fair} {e} {f} {payload} (whole between bytes c d) =
    permits-then e.streams between.streams f.streams
    (kinds_so most c.kinds (place_at e [] nothing c.before) (place_at between bytes (control_in payload) c.after) (Ok tt) c.writes)
    (permits-at between.streams f.streams (record between.streams { out = f.streams.out; queue = f.streams.queue }) d.writes.others (permits-beside between.streams _ refl refl refl refl))
permits-emit {most} {fair} {e} {f} {payload} (cut {first} between bytes c d) =
    permits-then e.streams between.streams f.streams
    (kinds_so most c.kinds (place_at e [] nothing c.before) (place_at between bytes (control_in payload) c.after) first c.writes)
    (same_so between.streams f.streams (ap (λ (k : EndState). k.streams) d.same))

each_lost : (ms : List StreamMeta) (u v : World) → EachInOrder LosesMeta u ms v → KeepsPermits u v
each_lost [] u v e = same_so u v e
each_lost (x ∷ xs) u v e = permits-then u e.0 v (sending_so u (LostOwn x.id x.offsets x.fin (Ok tt)) e.0 refl e.1) (each_lost xs e.0 v e.2)

pub permits-lost : (e f : EndState) (sent : SentView) (answer : Result (Unit {0}) SentView) → LosesPayloadAt e sent answer f → KeepsPermits e.streams f.streams
permits-lost e f sent (Ok x) d = each_lost sent.streams e.streams f.streams d.0
permits-lost e f sent (Err back) d = elim d.0 [ inl a ↦ each_lost a.frames.told e.streams f.streams a.frames.reports | inr c ↦ each_lost sent.streams e.streams f.streams c.frames ]

-- ---- steps of the client

at_client : (P : End → Type 0) (who : End) → is_server who ≡ false → P who → P A
at_client P A e p = p
at_client P B e p = cc

true_false : true ≡ false → ⊥
true_false e = cc

module _ (old new : PairState) (bare : IsBare old.a.streams) where
  same_pair : new ≡ old → KeepsPermits old.a.streams new.a.streams
  same_pair is = same_so old.a.streams new.a.streams (ap (λ (v : PairState). v.a.streams) is)

  to_end : (f : EndState) → new ≡ with_end old A f → KeepsPermits old.a.streams f.streams → KeepsPermits old.a.streams new.a.streams
  to_end f is k = permits-at old.a.streams new.a.streams f.streams (ap (λ (v : PairState). v.a.streams) is) k

  -- on a stream that was given
  on_given : (f : EndState) (id : ℕ) (reply : Answer) (Does : Type 0) → OnGiven old.a id reply f Does → (is_local Client id ≡ true → Does → KeepsPermits old.a.streams f.streams) → KeepsPermits old.a.streams f.streams
  on_given f id reply Does d known = elim d [
    | inl there ↦ known (given-own old.a.streams id bare there.0) there.1
    | inr nil ↦ same_so old.a.streams f.streams (ap (λ (k : EndState). k.streams) nil.2)
  ]

  emitted_so : (most : ℕ) (fair : Bool) (reply : Answer) → EmittedSome old A most fair reply new → KeepsPermits old.a.streams new.a.streams
  emitted_so most fair (Ok (Payload number bytes)) k = permits-at old.a.streams new.a.streams k.emits.end.streams (ap (λ (v : PairState). v.a.streams) k.emits.is) (permits-emit k.emits.emits)
  emitted_so most fair (Err NoMemory) k = elim k [
    | inl same ↦ same_pair same
    | inr part ↦ permits-at old.a.streams new.a.streams part.emits.end.streams (ap (λ (v : PairState). v.a.streams) part.emits.is) (permits-emit part.emits.emits)
  ]
  emitted_so most fair _ k = absurd k

  module _ (untaken : AreUntaken old.sent) where
    -- a report is one of the client
    of_client : (kind : Report) (At : EndState → SentView → Result (Unit {0}) SentView → EndState → Type 0) (number : ℕ) (reply : Answer) (k : Reports kind At old number reply new) → (At old.a (sent_view k.rest) (report_view k.answer) k.end → KeepsPermits old.a.streams k.end.streams) → KeepsPermits old.a.streams new.a.streams
    of_client kind At number reply k known =
        let s = k.payload.sent in
        let mine = untaken-here s k.payload.here (untaken number s k.payload.is) in
        let row = (record s { unsettled = unsettled_after kind s.unsettled k.answer }) in
        let P : End → Type 0 = λ w. At (the_end old w) (sent_view k.rest) (report_view k.answer) k.end in
        let Q : End → Type 0 = λ w. new ≡ with_sent (with_end old w k.end) (slice_set old.sent number row) in
        permits-at old.a.streams new.a.streams k.end.streams (ap (λ (v : PairState). v.a.streams) (subst Q mine.writer k.is)) (known (subst P mine.writer k.does))

    lost_so : (number : ℕ) (reply : Answer) → SettlesPayload Lost LosesPayloadAt old number reply new → KeepsPermits old.a.streams new.a.streams
    lost_so number (Ok Done) k = of_client Lost LosesPayloadAt number (Ok Done) k (permits-lost old.a k.end (sent_view k.rest) (report_view k.answer))
    lost_so number (Err NoMemory) k = of_client Lost LosesPayloadAt number (Err NoMemory) k (permits-lost old.a k.end (sent_view k.rest) (report_view k.answer))
    lost_so number (Err NoSuchPayload) k = same_pair k.1
    lost_so number (Err AlreadySettled) k = same_pair k.is
    lost_so number (Err NotAccepted) k = same_pair k.is
    lost_so number _ k = absurd k

    module _ (spelled : AreSpelled old.sent) (count : ℕ → ℕ) (left : AreLeft old.sent count) where
      acked_so : (number : ℕ) (reply : Answer) → Reports Acknowledged AcksPayloadAt old number reply new → KeepsPermits old.a.streams new.a.streams
      acked_so number reply k = of_client Acknowledged AcksPayloadAt number reply k (λ a. same_so old.a.streams k.end.streams (
          let both = none-parts old new untaken spelled count left number reply k in
          ap (λ (f : EndState). f.streams) a.is ∙ told-streams _ a.acked ∙ none-acks-still old.a.streams a.acked.streams (sent_view k.rest) (report_view k.answer) both.0 both.1 a.acks))

      acks_so : (number : ℕ) (reply : Answer) → SettlesPayload Acknowledged AcksPayloadAt old number reply new → KeepsPermits old.a.streams new.a.streams
      acks_so number (Ok Done) k = acked_so number (Ok Done) k
      acks_so number (Err NoMemory) k = acked_so number (Err NoMemory) k
      acks_so number (Err NoSuchPayload) k = same_pair k.1
      acks_so number (Err AlreadySettled) k = same_pair k.is
      acks_so number (Err NotAccepted) k = same_pair k.is
      acks_so number _ k = absurd k

  own : (id : ℕ) → is_local Client id ≡ true → is_own old.a.streams id ≡ true
  own id local = own_at old.a.streams id bare.client local

  open_so : (dir : Dir) (reply : Answer) → NextOrdinary old (steps.Open A dir) reply new → KeepsPermits old.a.streams new.a.streams
  open_so dir reply n = to_end n.end n.is (sending_so old.a.streams (OpenedOwn dir false n.does.answer) n.end.streams refl n.does.opens.0)

  accept_so : (dir : Dir) (reply : Answer) → NextOrdinary old (steps.Accept A dir) reply new → KeepsPermits old.a.streams new.a.streams
  accept_so dir reply n = to_end n.end n.is (permits-at old.a.streams n.end.streams (with_accepted old.a.streams dir) (ap (λ (k : EndState). k.streams) n.does.is) (accepted_so old.a.streams dir))

  write_so : (id : ℕ) (bytes : List ℕ) (reply : Answer) → NextOrdinary old (steps.Write A id bytes) reply new → KeepsPermits old.a.streams new.a.streams
  write_so id bytes reply n = to_end n.end n.is (on_given n.end id reply _ n.does (λ local d. sending_so old.a.streams (WroteOwn id (slice_lists bytes) false d.answer) n.end.streams refl (old.a.pending, n.end.pending, d.writes.0, d.writes.1)))

  chunks_so : (id : ℕ) (chunks : List (List ℕ)) (reply : Answer) → NextOrdinary old (steps.WriteChunks A id chunks) reply new → KeepsPermits old.a.streams new.a.streams
  chunks_so id chunks reply n = to_end n.end n.is (on_given n.end id reply _ n.does (λ local k. elim k [
    | inl d ↦ sending_so old.a.streams (WroteOwn id chunks false d.answer) n.end.streams refl (old.a.pending, n.end.pending, d.writes.0, d.writes.1)
    | inr nil ↦ same_so old.a.streams n.end.streams (ap (λ (k : EndState). k.streams) nil.1)
  ]))

  finish_so : (id : ℕ) (reply : Answer) → NextOrdinary old (steps.Finish A id) reply new → KeepsPermits old.a.streams new.a.streams
  finish_so id reply n = to_end n.end n.is (on_given n.end id reply _ n.does (λ local d. sending_so old.a.streams (FinishedOwn id d.answer) n.end.streams refl d.finishes.0))

  reset_so : (id code : ℕ) (reply : Answer) → NextOrdinary old (steps.Reset A id code) reply new → KeepsPermits old.a.streams new.a.streams
  reset_so id code reply n = to_end n.end n.is (on_given n.end id reply _ n.does (λ local d. sending_so old.a.streams (ResetOwn id code d.answer) n.end.streams refl (old.a.pending, n.end.pending, d.resets)))

  stop_so : (id code : ℕ) (reply : Answer) → NextOrdinary old (steps.Stop A id code) reply new → KeepsPermits old.a.streams new.a.streams
  stop_so id code reply n = to_end n.end n.is (on_given n.end id reply _ n.does (λ local d. let s = d.stops in
      permits-at old.a.streams n.end.streams s.stopped.streams (ap (λ (k : EndState). k.streams) s.is ∙ told-streams _ s.stopped) (stops_so old.a.streams id code old.a.pending s.stopped.pending d.answer s.stopped.streams (own id local) s.stops)))

  priority_so : (id : ℕ) (priority : ℤ) (reply : Answer) → NextOrdinary old (steps.SetPriority A id priority) reply new → KeepsPermits old.a.streams new.a.streams
  priority_so id priority reply n = to_end n.end n.is (on_given n.end id reply _ n.does (λ local d. sending_so old.a.streams (SetOwnPriority id priority d.answer) n.end.streams refl d.sets.0))

  read_so : (id most times : ℕ) (ordered : Bool) → is_local Client id ≡ true → (answer : Result ReadSome ReadableError) (f : EndState) → ReadsSo old.a id ordered most times answer f → KeepsPermits old.a.streams f.streams
  read_so id most times ordered local (Ok r) f s = permits-at old.a.streams f.streams s.read.streams (ap (λ (k : EndState). k.streams) s.is) (reads_some id most ordered local times old.a.pending s.read.pending r.chunks.items r.last r.transmit.0 old.a.streams s.read.streams bare.client s.reads)
  read_so id most times ordered local (Err error) f s = permits-at old.a.streams f.streams s.asked.streams (ap (λ (k : EndState). k.streams) s.is ∙ told-streams _ s.asked) (begins_so old.a.streams id ordered (Err error) s.asked.streams s.begins).permits

  reads_step : (id : ℕ) (ordered : Bool) (most times : ℕ) (reply : Answer) → NextOrdinary old (steps.Read A id ordered most times) reply new → KeepsPermits old.a.streams new.a.streams
  reads_step id ordered most times reply n = to_end n.end n.is (on_given n.end id reply _ n.does (λ local d. read_so id most times ordered local d.answer n.end d.reads))

  code_so : (id : ℕ) (reply : Answer) → NextOrdinary old (steps.ReceivedReset A id) reply new → KeepsPermits old.a.streams new.a.streams
  code_so id reply n = to_end n.end n.is (on_given n.end id reply _ n.does (λ local d. let s = d.tells in
      permits-at old.a.streams n.end.streams s.asked.streams (ap (λ (k : EndState). k.streams) s.is ∙ told-streams _ s.asked) (tells_so old.a.streams id old.a.pending s.asked.pending d.answer s.asked.streams (own id local) s.tells)))

  window_so : (window : ℕ) (reply : Answer) → NextOrdinary old (steps.SetSendWindow A window) reply new → KeepsPermits old.a.streams new.a.streams
  window_so window reply n = to_end n.end n.is (sending_so old.a.streams (SetWindow window) n.end.streams refl (ap (λ (k : EndState). k.streams) n.does.1))

  poll_so : (reply : Answer) → NextOrdinary old (steps.Poll A) reply new → KeepsPermits old.a.streams new.a.streams
  poll_so reply n = to_end n.end n.is (sending_so old.a.streams (Polled n.does.event) n.end.streams refl n.does.polls)

  module _ (untaken : AreUntaken old.sent) (spelled : AreSpelled old.sent) (count : ℕ → ℕ) (left : AreLeft old.sent count) where
    pub permits-next : (step : PairStep) (reply : Answer) → needs_decision step ≡ false → sets_permits step ≡ false → NextOrdinary old step reply new → KeepsPermits old.a.streams new.a.streams
    permits-next (steps.Open who dir) reply by sets n = open_so dir reply (at_client (λ w. NextOrdinary old (steps.Open w dir) reply new) who by n)
    permits-next (steps.Accept who dir) reply by sets n = accept_so dir reply (at_client (λ w. NextOrdinary old (steps.Accept w dir) reply new) who by n)
    permits-next (steps.Write who id bytes) reply by sets n = write_so id bytes reply (at_client (λ w. NextOrdinary old (steps.Write w id bytes) reply new) who by n)
    permits-next (steps.WriteChunks who id chunks) reply by sets n = chunks_so id chunks reply (at_client (λ w. NextOrdinary old (steps.WriteChunks w id chunks) reply new) who by n)
    permits-next (steps.Finish who id) reply by sets n = finish_so id reply (at_client (λ w. NextOrdinary old (steps.Finish w id) reply new) who by n)
    permits-next (steps.Reset who id code) reply by sets n = reset_so id code reply (at_client (λ w. NextOrdinary old (steps.Reset w id code) reply new) who by n)
    permits-next (steps.Stop who id code) reply by sets n = stop_so id code reply (at_client (λ w. NextOrdinary old (steps.Stop w id code) reply new) who by n)
    permits-next (steps.SetPriority who id priority) reply by sets n = priority_so id priority reply (at_client (λ w. NextOrdinary old (steps.SetPriority w id priority) reply new) who by n)
    permits-next (steps.Read who id ordered most times) reply by sets n = reads_step id ordered most times reply (at_client (λ w. NextOrdinary old (steps.Read w id ordered most times) reply new) who by n)
    permits-next (steps.ReceivedReset who id) reply by sets n = code_so id reply (at_client (λ w. NextOrdinary old (steps.ReceivedReset w id) reply new) who by n)
    permits-next (steps.SetSendWindow who window) reply by sets n = window_so window reply (at_client (λ w. NextOrdinary old (steps.SetSendWindow w window) reply new) who by n)
    permits-next (steps.SetReceiveWindow who window) reply by sets n = absurd (true_false (at_client (λ w. sets_permits (steps.SetReceiveWindow w window) ≡ false) who by sets))
    permits-next (steps.SetMaxConcurrent who dir limit) reply by sets n = absurd (true_false (at_client (λ w. sets_permits (steps.SetMaxConcurrent w dir limit) ≡ false) who by sets))
    permits-next (steps.Poll who) reply by sets n = poll_so reply (at_client (λ w. NextOrdinary old (steps.Poll w) reply new) who by n)
    permits-next (steps.Emit who most fair) reply by sets n = emitted_so most fair reply (emitted-some old new A most fair reply (at_client (λ w. NextOrdinary old (steps.Emit w most fair) reply new) who by n))
    permits-next (steps.EmitPart who most fair part) reply by sets n = emitted_so most fair reply (emitted-part old new A most fair part reply (at_client (λ w. NextOrdinary old (steps.EmitPart w most fair part) reply new) who by n))
    permits-next (steps.Deliver number index) reply by sets n = cc
    permits-next (steps.Lose number) reply by sets n = lost_so untaken number reply n
    permits-next (steps.Ack number) reply by sets n = acks_so untaken spelled count left number reply n
    permits-next _ reply by sets n = absurd n
