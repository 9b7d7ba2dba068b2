-- What the calls on the sending side leave of the receiving side.
use Rattle.std.proofs.Common.{◌≡◌, ◌⊎◌, ℕ, Bool, true, false, eqb, List, ◌∷◌, Option, Some, None, is_some, Result, Ok, Err, refl, sym, ap, ◌∙◌, subst, inl, inr, arith, ◌+◌, ◌-◌, ◌<◌, []}
use Rattle.std.specs.declared.ops.Range.{Range}
use Rattle.std.specs.Prelude.{◌==◌, ◌&&◌, not, nat_lt, nat_le, if◌then◌else◌, ℤ, MatchBool, ◌++◌, []}
use Rattle.std.specs.Option.{option_map}
use Rattle.std.specs.List.{list_any}
use Rattle.std.proofs.lemmas.Bool.Decides.{nat_tests}
use Rattle.quic_values.specs.declared.memory.OutOfMemory.{OutOfMemory}
use Rattle.quic_values.specs.declared.ids.Side.{Side}
use Rattle.quic_values.specs.declared.ids.Side.TheVariants.{Client, Server}
use Rattle.quic_values.specs.declared.ids.Dir.{Dir}
use Rattle.quic_values.specs.declared.ids.Dir.TheVariants.{Bi, Uni}
use Rattle.quic_values.specs.Ids.{stream_id, other_side, initiator_of, dir_of, index_of}
use Rattle.quic_wire.specs.declared.event.StreamEvent.{StreamEvent}
use Rattle.quic_wire.specs.declared.event.StreamEvent.TheVariants as stream_event
use Rattle.quic_wire.specs.declared.error.ReceiveError.{ReceiveError}
use Rattle.quic_wire.specs.declared.error.ReceiveError.TheVariants as receive_error
use Rattle.quic_wire.specs.Codes.{STREAM_STATE_ERROR, STREAM_LIMIT_ERROR}
use Rattle.quic_limits.specs.Own.{Own, with_next_own}
use Rattle.quic_limits.specs.Remote.{Remote, opening_told}
use Rattle.quic_limits.specs.SendingCredit.{SendingCredit, with_blocked, with_released}
use Rattle.quic_sending.specs.Buffer.{total_length}
use Rattle.quic_sending.specs.declared.send.Send.{Send}
use Rattle.quic_sending.specs.declared.send.Written.{Written}
use Rattle.quic_sending.specs.declared.send.WriteError.{WriteError}
use Rattle.quic_sending.specs.declared.send.WriteError.TheVariants as write_error
use Rattle.quic_sending.specs.declared.send.FinishError.{FinishError}
use Rattle.quic_sending.specs.declared.errors.HandleError.{HandleError}
use Rattle.quic_sending.specs.declared.errors.HandleError.TheVariants as handle_error
use Rattle.quic_retransmits.specs.Pending.{Pending}
use Rattle.quic_queue.specs.SendOrder.{SendOrder}
use Rattle.quic_outgoing.specs.Writing.{RefusesWrite, after_blocked}
use Rattle.quic_outgoing.specs.Senders.{SendersById, with_sender, raised_by, raised, first_limit}
use Rattle.quic_outgoing.specs.Outgoing.{Outgoing, own_of, with_own, with_send_half, with_params, waiting, marked, is_stuck, fresh_sender, first_of}
use Rattle.quic_outgoing.specs.Calls.{OpensStream, RaisesStream, StopsSending, PollsWritable, ResetsStream, SetsPriority, after_rise, with_rise, is_woken, without_marks}
use Rattle.quic_outgoing.specs.Calls as calls
use Rattle.quic_outgoing.specs.Acknowledging.{AcksHalf, LosesOnStream, were_sent, is_given_up}
use Rattle.quic_limits.specs.Credit.{Credit}
use Rattle.quic_history.specs.Halves.{Halves, with_half}
use Rattle.quic_history.specs.World.{World, sends, id_refusal, is_own, is_same_side, remote_of, with_remote, with_receive, with_send_streams, told, told_readable, noticed}
use Rattle.quic_history.specs.SendEvents.{SendEvent, SendStep, GaveLimits, OpenedOwn, RaisedData, RaisedCount, RaisedLimit, StoppedOwn, SetWindow, Polled, WroteOwn, FinishedOwn, ResetOwn, SetOwnPriority, AckedOwn, LostOwn, ResetAckedOwn, TookTurn}
use Rattle.quic_wire.specs.declared.frame.StreamMeta.{StreamMeta}
use Rattle.quic_writing.specs.Writer.{Writer, ServesFirst}
use Rattle.quic_history.specs.Carrying.{TakesItsTurn, with_writer}
use Rattle.quic_history.specs.Acknowledged.{AcksOwn, LosesOwn, AcksReset, with_send_freed, told_finished, frees_reset}
use Rattle.quic_history.proofs.SendFreed.{without_half, steady-send-freed, all-send-freed, remotes-send-freed}
use Rattle.quic_history.specs.Writes.{WritesOwn, FinishesOwn, with_queued}
use Rattle.quic_history.specs.Sends.{with_out, with_opened, sending_refusal, told_writable, after_first_stop, is_permitted, PollsQueue, RaisesLimit, RaisesCount, StopsOwn, TellsNext}
use Rattle.quic_history.specs.History.{Event, Sending, Goes, Trace, Facts, trace, consumed, last_window, debt, received}
use Rattle.quic_history.proofs.Credits.{credit-same}
use Rattle.quic_history.proofs.Refusals.{refusal-same, refusal-own, refusal-own-next}
use Rattle.quic_history.proofs.Remotes.{AllRemotes, SameLimits, remotes-idle, remote-same, limits-refl, opened-limits, noticed-known}
use Rattle.quic_history.proofs.ReceivingSteps.{opened-reported}
use Rattle.quic_history.proofs.StreamSteps.{AllFrom, all-same, all-one, new-half-from}
use Rattle.quic_history.proofs.Totals.{by_cases, same}
use Rattle.quic_outgoing.specs.Params.{as_waiting, with_waiting, with_woken, own_woken, after_params}
use Rattle.quic_outgoing.specs.declared.limits.PeerLimits.{PeerLimits}

-- a call that leaves the receiving side as it is
pub record Spares (u v : World) : Type 0 where
  pub side : v.out.side ≡ u.out.side
  pub window : v.window ≡ u.window
  pub credit : v.credit ≡ u.credit
  pub receive : v.receive ≡ u.receive
  pub opened : v.out.own_bi.opened ≡ u.out.own_bi.opened
  pub opened_uni : v.out.own_uni.opened ≡ u.out.own_uni.opened
  pub reported : v.bi.next_reported ≡ u.bi.next_reported
  pub count : v.send_streams ≡ u.send_streams
  pub limits : (d : Dir) → SameLimits (remote_of u d) (remote_of v d)
  pub held : (q : ℕ) → is_some (v.out.halves q) ≡ is_some (u.out.halves q)

spares_none : (u : World) → Spares u u
spares_none u = record { side = refl; window = refl; credit = refl; receive = refl; opened = refl; opened_uni = refl; reported = refl; count = refl; limits = λ d. limits-refl (remote_of u d); held = λ q. refl }

spares_then : (u v w : World) → Spares u v → Spares v w → Spares u w
spares_then u v w s t = record {
  side = t.side ∙ s.side;
  window = t.window ∙ s.window;
  credit = t.credit ∙ s.credit;
  receive = t.receive ∙ s.receive;
  opened = t.opened ∙ s.opened;
  opened_uni = t.opened_uni ∙ s.opened_uni;
  reported = t.reported ∙ s.reported;
  count = t.count ∙ s.count;
  limits = λ d. let a = s.limits d in let b = t.limits d in record { max = b.max ∙ a.max; allocated = b.allocated ∙ a.allocated; concurrent = b.concurrent ∙ a.concurrent; opened = λ k. b.opened (a.opened k); accepted = λ k. b.accepted (a.accepted k) };
  held = λ q. t.held q ∙ s.held q;
}

spares_at : (u v w : World) → v ≡ w → Spares u w → Spares u v
spares_at u v w e s = let P : World → Type 0 = λ x. Spares u x in subst P (sym e) s

spares_out : (u : World) (o : Outgoing) → o.side ≡ u.out.side → o.own_bi.opened ≡ u.out.own_bi.opened → o.own_uni.opened ≡ u.out.own_uni.opened → ((q : ℕ) → is_some (o.halves q) ≡ is_some (u.out.halves q)) → Spares u (with_out u o)
spares_out u o side opened opened_uni held = record { side = side; window = refl; credit = refl; receive = refl; opened = opened; opened_uni = opened_uni; reported = refl; count = refl; limits = both; held = held }
  where
    both : (d : Dir) → SameLimits (remote_of u d) (remote_of (with_out u o) d)
    both Bi = limits-refl u.bi
    both Uni = limits-refl u.uni

spares_told : (u : World) (e : StreamEvent) → Spares u (told u e)
spares_told u e = record { side = refl; window = refl; credit = refl; receive = refl; opened = refl; opened_uni = refl; reported = refl; count = refl; limits = both; held = λ q. refl }
  where
    both : (d : Dir) → SameLimits (remote_of u d) (remote_of (told u e) d)
    both Bi = limits-refl u.bi
    both Uni = limits-refl u.uni

spares_events : (u : World) (es : List StreamEvent) → Spares u (record u { events = es })
spares_events u es = record { side = refl; window = refl; credit = refl; receive = refl; opened = refl; opened_uni = refl; reported = refl; count = refl; limits = both; held = λ q. refl }
  where
    both : (d : Dir) → SameLimits (remote_of u d) (remote_of (record u { events = es }) d)
    both Bi = limits-refl u.bi
    both Uni = limits-refl u.uni

spares_remote : (u : World) (e : Dir) (r : Remote) → r.next_reported ≡ (remote_of u e).next_reported → SameLimits (remote_of u e) r → Spares u (with_remote u e r)
spares_remote u Bi r k s = record { side = refl; window = refl; credit = refl; receive = refl; opened = refl; opened_uni = refl; reported = k; count = refl; limits = both; held = λ q. refl }
  where
    both : (d : Dir) → SameLimits (remote_of u d) (remote_of (with_remote u Bi r) d)
    both Bi = s
    both Uni = limits-refl u.uni
spares_remote u Uni r k s = record { side = refl; window = refl; credit = refl; receive = refl; opened = refl; opened_uni = refl; reported = refl; count = refl; limits = both; held = λ q. refl }
  where
    both : (d : Dir) → SameLimits (remote_of u d) (remote_of (with_remote u Uni r) d)
    both Bi = limits-refl u.bi
    both Uni = s

spares_noticed : (u : World) (id : ℕ) → (is_own u id ≡ false → index_of id < (remote_of u (dir_of id)).max_remote) → Spares u (noticed u id false)
spares_noticed u id known = let P : World → Type 0 = λ x. Spares u x in
    noticed-known P u id false known (spares_none u)
    (λ l. spares_remote u (dir_of id) _ (opened-reported (remote_of u (dir_of id)) (index_of id) (nat_le (remote_of u (dir_of id)).next_remote (index_of id))) (opened-limits (remote_of u (dir_of id)) (index_of id) (nat_le (remote_of u (dir_of id)).next_remote (index_of id)) refl l))

-- a stream whose limit the peer may raise, or that it may stop, is this end's or one that it may open
within : (error most index : ℕ) (b : Bool) → nat_le most index ≡ b → (if b then Some error else None) ≡ None → index < most
within error most index true t k = cc
within error most index false t k = grind (arith, nat_tests)

known_raised : (w : World) (id : ℕ) → sending_refusal w id ≡ None → is_own w id ≡ false → index_of id < (remote_of w (dir_of id)).max_remote
known_raised w id k own = by_dir (dir_of id) refl
  where
    by_dir : (d : Dir) → dir_of id ≡ d → index_of id < (remote_of w (dir_of id)).max_remote
    by_dir Bi e = let l = rw (own, e) at k in rw e (within STREAM_LIMIT_ERROR w.bi.max_remote (index_of id) (nat_le w.bi.max_remote (index_of id)) refl l)
    by_dir Uni e = let l = rw (own, e) at k in cc

known_stopped : (w : World) (id : ℕ) → is_permitted w id ≡ true → is_own w id ≡ false → index_of id < (remote_of w (dir_of id)).max_remote
known_stopped w id k own = let l = rw own at k in below (index_of id) (remote_of w (dir_of id)).max_remote l
  where
    below : (i m : ℕ) → nat_lt i m ≡ true → i < m
    below i m e = grind (arith, nat_tests)

-- ---- the halves that are held

held_put : (f : SendersById) (id : ℕ) (s t : Send) → f id ≡ Some s → (q : ℕ) → is_some ((with_sender f id (Some t)) q) ≡ is_some (f q)
unfolding with_sender
held_put f id s t e q = by_cases (eqb q id)
    (λ k. let there : is_some (f q) ≡ true = ap (λ j. is_some (f j)) (same q id k) ∙ ap (λ (o : Option Send). is_some o) e in rw k (sym there))
    (λ n. rw n refl)

held_map : (g : Send → Send) (o : Option Send) → is_some (option_map g o) ≡ is_some o
held_map g None = refl
held_map g (Some s) = refl

held_raised : (side : Side) (l : _) (f : SendersById) (q : ℕ) → is_some ((raised_by side l f) q) ≡ is_some (f q)
unfolding raised_by
held_raised side l f q = held_map (raised (first_limit side l q)) (f q)

held_unmarked : (f : SendersById) (ids : List ℕ) (q : ℕ) → is_some ((without_marks f ids) q) ≡ is_some (f q)
unfolding without_marks
held_unmarked f ids q = by_test (list_any (λ id. q == id) ids)
  where
    by_test : (b : Bool) → is_some (if b then option_map (marked false) (f q) else f q) ≡ is_some (f q)
    by_test true = held_map (marked false) (f q)
    by_test false = refl

-- a step of the sending side that opens and frees nothing
record Steadies (a b : Outgoing) : Type 0 where
  pub side : b.side ≡ a.side
  pub opened : b.own_bi.opened ≡ a.own_bi.opened
  pub opened_uni : b.own_uni.opened ≡ a.own_uni.opened
  pub held : (q : ℕ) → is_some (b.halves q) ≡ is_some (a.halves q)

spares_step : (u : World) (o : Outgoing) → Steadies u.out o → Spares u (with_out u o)
spares_step u o s = spares_out u o s.side s.opened s.opened_uni s.held

steadies_at : (a b c : Outgoing) → b ≡ c → Steadies a c → Steadies a b
steadies_at a b c e s = let P : Outgoing → Type 0 = λ x. Steadies a x in subst P (sym e) s

steadies_none : (a : Outgoing) → Steadies a a
steadies_none a = record { side = refl; opened = refl; opened_uni = refl; held = λ q. refl }

steadies_put : (a : Outgoing) (id : ℕ) (s t : Send) → a.halves id ≡ Some s → Steadies a (with_send_half a id (Some t))
steadies_put a id s t e = record { side = refl; opened = refl; opened_uni = refl; held = held_put a.halves id s t e }

waits : (a : Outgoing) (id : ℕ) (s t : Send) → a.halves id ≡ Some s → Steadies a (waiting a id t)
waits a id s t e = by_mark t.connection_blocked
  where
    by_mark : (b : Bool) → Steadies a (if b then with_send_half a id (Some t) else record (with_send_half a id (Some (marked true t))) { blocked = a.blocked ++ id ∷ [] })
    by_mark true = steadies_put a id s t e
    by_mark false = record { side = refl; opened = refl; opened_uni = refl; held = held_put a.halves id s (marked true t) e }

steadies_then : (a b c : Outgoing) → Steadies a b → Steadies b c → Steadies a c
steadies_then a b c s t = record { side = t.side ∙ s.side; opened = t.opened ∙ s.opened; opened_uni = t.opened_uni ∙ s.opened_uni; held = λ q. t.held q ∙ s.held q }

steadies_as : (a : Outgoing) (id : ℕ) (o : Option Send) → a.halves id ≡ o → Steadies a (as_waiting a id o)
steadies_as a id None e = steadies_none a
steadies_as a id (Some s) e = waits a id s s e

steadies_waiting : (a : Outgoing) (ids : List ℕ) → Steadies a (with_waiting a ids)
steadies_waiting a [] = steadies_none a
steadies_waiting a (id ∷ ids) = let b = as_waiting a id (a.halves id) in steadies_then a b _ (steadies_as a id (a.halves id) refl) (steadies_waiting b ids)

steadies_woken : (a : Outgoing) (p : PeerLimits) → Steadies a (with_woken a p)
steadies_woken a p = by_stuck (is_stuck (with_params a p))
  where
    by_stuck : (b : Bool) → Steadies a (if b then with_waiting a (own_woken a p) else a)
    by_stuck true = steadies_waiting a (own_woken a p)
    by_stuck false = steadies_none a

steadies_params : (a : Outgoing) (p : PeerLimits) → Steadies a (after_params a p)
steadies_params a p = let b = with_woken a p in
    steadies_then a b _ (steadies_woken a p) (record { side = refl; opened = refl; opened_uni = refl; held = held_raised b.side (first_of p) b.halves })

steadies_rise : (a : Outgoing) (id n : ℕ) (o : Option Send) → a.halves id ≡ o → Steadies a (after_rise a id n o)
steadies_rise a id n None e = steadies_none a
steadies_rise a id n (Some s) e = by_test (is_woken s n && is_stuck a)
  where
    by_test : (b : Bool) → Steadies a (if b then waiting a id (with_rise s n) else with_send_half a id (Some (with_rise s n)))
    by_test true = waits a id s (with_rise s n) e
    by_test false = steadies_put a id s (with_rise s n) e

steadies_stop : (a : Outgoing) (id code : ℕ) (o : Option Send) → a.halves id ≡ o → Steadies a (calls.with_stop_reason a id code o)
steadies_stop a id code None e = steadies_none a
steadies_stop a id code (Some s) e = steadies_put a id s _ e

steadies_polls : (a : Outgoing) (answer : Option ℕ) (b : Outgoing) → PollsWritable a answer b → Steadies a b
steadies_polls a None b s = by_stuck (is_stuck a) refl
  where
    by_stuck : (k : Bool) → is_stuck a ≡ k → Steadies a b
    by_stuck true k = let t = rw k at s in steadies_at a b a t (steadies_none a)
    by_stuck false k = let t = rw k at s in steadies_at a b _ t.1 (record { side = refl; opened = refl; opened_uni = refl; held = held_unmarked a.halves a.blocked })
steadies_polls a (Some id) b s = steadies_at a b _ s.6 (record { side = refl; opened = refl; opened_uni = refl; held = held_unmarked a.halves (id ∷ s.3) })

own_count : (u : World) (d : Dir) (o : Own) → o.opened ≡ (own_of u.out d).opened → Spares u (with_out u (with_own u.out d o))
own_count u Bi o e = spares_out u (with_own u.out Bi o) refl e refl (λ q. refl)
own_count u Uni o e = spares_out u (with_own u.out Uni o) refl refl e (λ q. refl)

writable_told : (u : World) (id : ℕ) (b : Bool) → Spares u (told_writable u id b)
writable_told u id true = spares_told u _
writable_told u id false = spares_none u

raised_count : (u : World) (d : Dir) (o : Own) (b : Bool) → o.opened ≡ (own_of u.out d).opened → Spares u (if b then told (with_out u (with_own u.out d o)) (stream_event.Available d) else with_out u (with_own u.out d o))
raised_count u d o true e = spares_then u (with_out u (with_own u.out d o)) _ (own_count u d o e) (spares_told (with_out u (with_own u.out d o)) (stream_event.Available d))
raised_count u d o false e = own_count u d o e

known_spared : (u t : World) (id : ℕ) → Spares u t → (is_own u id ≡ false → index_of id < (remote_of u (dir_of id)).max_remote) → is_own t id ≡ false → index_of id < (remote_of t (dir_of id)).max_remote
known_spared u t id s known own =
    let side : is_own t id ≡ is_own u id = ap (λ k. is_same_side k (initiator_of id)) s.side in
    let most = s.limits (dir_of id) in
    let l = known (sym side ∙ own) in
    omega (arith, most.max)

first_stop : (u w : World) (id code : ℕ) (b : Bool) → (is_own u id ≡ false → index_of id < (remote_of u (dir_of id)).max_remote) → Spares u w → Spares u (after_first_stop w id code b)
first_stop u w id code true known s = let t = told w (stream_event.Stopped id code) in let k = spares_then u w t s (spares_told w _) in spares_then u t _ k (spares_noticed t id (known_spared u t id k known))
first_stop u w id code false known s = s

told_limits : (r : Remote) → SameLimits r (opening_told r)
told_limits r = record { max = refl; allocated = refl; concurrent = refl; opened = λ k. k; accepted = λ k. k }

polls_queue : (u w : World) (writable : Option ℕ) (answer : Option StreamEvent) (v : World) → Spares u w → PollsQueue w writable answer v → Spares u v
polls_queue u w (Some id) answer v s p = spares_at u v w p.1 s
polls_queue u w None answer v s p = spares_at u v _ p.2 (spares_then u w _ s (spares_events w p.0))

pub either-way : (b : Bool) {P Q R : Type 0} → MatchBool b P Q → (P → R) → (Q → R) → R
either-way true s f g = f s
either-way false s f g = g s

polls : (u : World) (answer : Option StreamEvent) (v : World) → TellsNext u answer v → Spares u v
polls u answer v s = either-way u.bi.opened s
    (λ t. spares_at u v _ t.1 (spares_remote u Bi (opening_told u.bi) refl (told_limits u.bi)))
    (λ t. either-way u.uni.opened t
    (λ r. spares_at u v _ r.1 (spares_remote u Uni (opening_told u.uni) refl (told_limits u.uni)))
    (λ p. polls_queue u (with_out u p.1) p.0 answer v (spares_step u p.1 (steadies_polls u.out p.0 p.1 p.2)) p.3))

raises_limit : (u : World) (id n : ℕ) (answer : Result (Unit {0}) ReceiveError) (v : World) → RaisesLimit u id n answer v → Spares u v
raises_limit u id n (Ok x) v s =
    let o = s.2 in
    let w = with_out u o in
    let t = told_writable w id s.1 in
    let k = spares_then u w t (spares_step u o (steadies_at u.out o _ s.3.1 (steadies_rise u.out id n (u.out.halves id) refl))) (writable_told w id s.1) in
    spares_at u v _ s.4 (spares_then u t _ k (spares_noticed t id (known_spared u t id k (known_raised u id s.0))))
raises_limit u id n (Err (receive_error.Transport error)) v s = spares_at u v u s.1 (spares_none u)
raises_limit u id n (Err receive_error.CompactionMemory) v s = absurd s
raises_limit u id n (Err receive_error.OutOfMemory) v s = spares_at u v u s (spares_none u)

raises_count : (u : World) (d : Dir) (n : ℕ) (answer : Result (Unit {0}) ReceiveError) (v : World) → RaisesCount u d n answer v → Spares u v
raises_count u d n (Ok x) v s = spares_at u v _ s.1 (raised_count u d _ (nat_lt (own_of u.out d).limit n) refl)
raises_count u d n (Err (receive_error.Transport error)) v s = spares_at u v u s.2 (spares_none u)
raises_count u d n (Err receive_error.CompactionMemory) v s = absurd s
raises_count u d n (Err receive_error.OutOfMemory) v s = spares_at u v u s.2 (spares_none u)

stops_own : (u : World) (id code : ℕ) (answer : Result (Unit {0}) OutOfMemory) (v : World) → StopsOwn u id code answer v → Spares u v
stops_own u id code (Ok x) v s = by_test (is_permitted u id) refl
  where
    by_test : (b : Bool) → is_permitted u id ≡ b → Spares u v
    by_test true k = let t = rw k at s in
        spares_at u v _ t.3 (first_stop u (with_out u t.1) id code t.0 (known_stopped u id k) (spares_step u t.1 (steadies_at u.out t.1 _ t.2.1 (steadies_stop u.out id code (u.out.halves id) refl))))
    by_test false k = let t = rw k at s in spares_at u v u t (spares_none u)
stops_own u id code (Err e) v s = spares_at u v u s (spares_none u)

-- ---- writes, ends, resets and priorities

queued : (u w : World) (id : ℕ) (o : Option ℤ) → Spares u w → Spares u (with_queued w id o)
queued u w id None s = s
queued u w id (Some priority) s = spares_then u w _ s (spares_queue w _)
  where
    spares_queue : (w : World) (q : SendOrder) → Spares w (record w { queue = q })
    spares_queue w q = record { side = refl; window = refl; credit = refl; receive = refl; opened = refl; opened_uni = refl; reported = refl; count = refl; limits = both; held = λ k. refl }
      where
        both : (d : Dir) → SameLimits (remote_of w d) (remote_of (record w { queue = q }) d)
        both Bi = limits-refl w.bi
        both Uni = limits-refl w.uni

steadies_budget : (a b : Outgoing) (c : SendingCredit) → Steadies a b → Steadies a (record b { budget = c })
steadies_budget a b c s = record { side = s.side; opened = s.opened; opened_uni = s.opened_uni; held = s.held }

steadies_blocked : (a : Outgoing) (id : ℕ) (o : Option Send) → a.halves id ≡ o → Steadies a (after_blocked a id o)
steadies_blocked a id None e = steadies_none a
steadies_blocked a id (Some s) e = by_stuck (is_stuck a)
  where
    by_stuck : (k : Bool) → Steadies a (if k then record (waiting a id s) { budget = with_blocked a.budget } else with_send_half a id (Some (record s { data_blocked_limit = Some s.max_data })))
    by_stuck true = steadies_budget a (waiting a id s) (with_blocked a.budget) (waits a id s s e)
    by_stuck false = steadies_put a id s _ e

steadies_refused : (a : Outgoing) (id : ℕ) (p : Pending) (e : WriteError) (b : Outgoing) (q : Pending) → RefusesWrite a id p e b q → Steadies a b
steadies_refused a id p write_error.Blocked b q s = steadies_at a b _ s.1 (steadies_blocked a id (a.halves id) refl)
steadies_refused a id p (write_error.Stopped code) b q s = steadies_at a b a s.1 (steadies_none a)
steadies_refused a id p write_error.ClosedStream b q s = steadies_at a b a s.1 (steadies_none a)
steadies_refused a id p write_error.OutOfMemory b q s = steadies_at a b a s.0 (steadies_none a)

writes : (u : World) (id : ℕ) (lists : List (List ℕ)) (closed : Bool) (p : Pending) (answer : Result Written WriteError) (v : World) (left : List (List ℕ)) (q : Pending)
    → WritesOwn u id lists closed p answer v left q → Spares u v
writes u id lists closed p (Ok written) v left q s =
    let t = s.3.0 in
    spares_at u v _ s.5
    (queued u (with_out u s.2) id s.1.queue_at (spares_step u s.2 (steadies_at u.out s.2 _ t.is (steadies_budget u.out _ _ (steadies_put u.out id t.half t.after t.is_held)))))
writes u id lists closed p (Err e) v left q (inl s) = spares_at u v u s.2 (spares_none u)
writes u id lists closed p (Err e) v left q (inr s) = spares_at u v _ s.3 (spares_step u s.1 (steadies_refused u.out id p e s.1 q s.2.1))

finishes : (u : World) (id : ℕ) (answer : Result (Unit {0}) FinishError) (v : World) → FinishesOwn u id answer v → Spares u v
finishes u id (Ok x) v s = spares_at u v _ s.3 (queued u (with_out u s.1) id s.0 (spares_step u s.1 (steadies_at u.out s.1 _ s.2.4 (steadies_put u.out id s.2.0 _ s.2.1))))
finishes u id (Err e) v s = spares_at u v _ s.2 (spares_step u s.0 (steadies_at u.out s.0 u.out s.1.1 (steadies_none u.out)))

steadies_reset : (a : Outgoing) (id code : ℕ) (p : Pending) (answer : Result (Unit {0}) HandleError) (b : Outgoing) (q : Pending) → ResetsStream a id code p answer b q → Steadies a b
steadies_reset a id code p (Ok x) b q s = steadies_at a b _ s.3 (steadies_budget a _ _ (steadies_put a id s.0 _ s.1))
steadies_reset a id code p (Err handle_error.ClosedStream) b q s = steadies_at a b a s.1 (steadies_none a)
steadies_reset a id code p (Err handle_error.OutOfMemory) b q s = steadies_at a b a s.0 (steadies_none a)

steadies_priority : (a : Outgoing) (id : ℕ) (n : ℤ) (answer : Result (Unit {0}) HandleError) (b : Outgoing) → SetsPriority a id n answer b → Steadies a b
steadies_priority a id n (Ok x) b s = steadies_at a b _ s.2 (steadies_put a id s.0 _ s.1)
steadies_priority a id n (Err handle_error.ClosedStream) b s = steadies_at a b a s.1 (steadies_none a)
steadies_priority a id n (Err handle_error.OutOfMemory) b s = steadies_at a b a s (steadies_none a)

-- ---- what it leaves is true of the end as before

pub facts-spared : (begun : Credit) (h : List Event) (u : World) (e : SendEvent) (v : World) → Facts begun h u → Spares u v → Facts begun (Sending e ∷ h) v
facts-spared begun h u e v f s = record {
  credit = rw s.credit (credit-same (last_window begun h) (consumed h) (debt begun h) (received h) _ _ _ u.credit (omega arith) (omega arith) refl f.credit);
  streams = let bi = s.limits Bi in let uni = s.limits Uni in
      all-same (trace h) u v s.window (λ q. refusal-same v u q s.side s.opened bi.max uni.max) (λ q. ap (λ (k : Halves). k q) s.receive) f.streams;
}

pub remotes-spared : (at_once b : Dir → ℕ) (f : ℕ → Trace) (u v : World) → Spares u v → AllRemotes at_once b f u → AllRemotes at_once b f v
remotes-spared at_once b f u v s x = remotes-idle at_once b f f u v (λ q. refl) (record { side = s.side; sends = λ k. λ q. s.held q k; limits = s.limits }) x

pub goes-spared : (u v : World) → Spares u v → Goes u v
goes-spared u v s = record { side = s.side; window = s.window; limit = let e : v.credit.local_max_data ≡ u.credit.local_max_data = ap (λ c. c.local_max_data) s.credit in omega arith }

-- ---- a stream is opened

next_opened : (o : Own) (b : Bool) → nat_lt o.opened o.limit ≡ b → o.opened < o.limit → (if b then record o { opened = o.opened + 1 } else o).opened ≡ o.opened + 1
next_opened o true e l = refl
next_opened o false e l = absurd (not_less o.opened o.limit e l)
  where
    not_less : (a b : ℕ) → nat_lt a b ≡ false → a < b → ⊥
    not_less a b e l = grind (arith, nat_tests)

-- the sending side with one more stream open
abbrev pub opening : World → Dir → ℕ → Outgoing
opening u d id = with_send_half (with_own u.out d (with_next_own (own_of u.out d))) id (Some (fresh_sender u.out id))

opened_all : (f : ℕ → Trace) (u : World) (d : Dir) → (own_of u.out d).opened < (own_of u.out d).limit → AllFrom f u
    → AllFrom f (with_opened u d (stream_id u.out.side d (own_of u.out d).opened) (opening u d (stream_id u.out.side d (own_of u.out d).opened)))
unfolding with_receive
opened_all f u Bi l s = let id : ℕ = stream_id u.out.side Bi u.out.own_bi.opened in
    let v = with_opened u Bi id (opening u Bi id) in
    let more : v.out.own_bi.opened ≡ u.out.own_bi.opened + 1 = next_opened u.out.own_bi (nat_lt u.out.own_bi.opened u.out.own_bi.limit) refl l in
    all-one f u v id STREAM_STATE_ERROR refl refl (refusal-own u u.out.side u.out.own_bi.opened refl ∙ at_limit u.out.own_bi.opened) (refusal-own v u.out.side u.out.own_bi.opened refl ∙ rw more (below u.out.own_bi.opened))
    (λ q n. refusal-own-next u v q refl more refl refl n) s
  where
    at_limit : (m : ℕ) → (if nat_le m m then Some STREAM_STATE_ERROR else None) ≡ Some STREAM_STATE_ERROR
    at_limit m = let e : nat_le m m ≡ true = grind (arith, nat_tests) in rw e refl

    below : (m : ℕ) → (if nat_le (m + 1) m then Some STREAM_STATE_ERROR else None) ≡ None
    below m = let e : nat_le (m + 1) m ≡ false = grind (arith, nat_tests) in rw e refl
opened_all f u Uni l s = let id : ℕ = stream_id u.out.side Uni u.out.own_uni.opened in
    let v = with_opened u Uni id (opening u Uni id) in
    all-same f u v refl (λ q. refusal-same v u q refl refl refl refl) (λ q. refl) s

pub peer-apart : (s : Side) (d e : Dir) (i n : ℕ) → eqb (stream_id (other_side s) d i) (stream_id s e n) ≡ false
peer-apart Client Bi Bi i n = grind (arith, nat_tests)
peer-apart Client Bi Uni i n = grind (arith, nat_tests)
peer-apart Client Uni Bi i n = grind (arith, nat_tests)
peer-apart Client Uni Uni i n = grind (arith, nat_tests)
peer-apart Server Bi Bi i n = grind (arith, nat_tests)
peer-apart Server Bi Uni i n = grind (arith, nat_tests)
peer-apart Server Uni Bi i n = grind (arith, nat_tests)
peer-apart Server Uni Uni i n = grind (arith, nat_tests)

peer_held : (u : World) (d : Dir) (n i : ℕ) (s : Send) → is_some ((with_sender u.out.halves (stream_id u.out.side d n) (Some s)) (stream_id (other_side u.out.side) Bi i)) ≡ sends u (stream_id (other_side u.out.side) Bi i)
unfolding with_sender
peer_held u d n i s = rw (peer-apart u.out.side Bi d i n) refl

opened_remotes : (at_once b : Dir → ℕ) (f : ℕ → Trace) (u : World) (d : Dir) → AllRemotes at_once b f u
    → AllRemotes at_once b f (with_opened u d (stream_id u.out.side d (own_of u.out d).opened) (opening u d (stream_id u.out.side d (own_of u.out d).opened)))
unfolding with_receive
opened_remotes at_once b f u Bi x Bi = remote-same (at_once Bi) (b Bi) _ _ u.bi u.bi (limits-refl u.bi)
    (λ i l. ap (λ c. (f (stream_id (other_side u.out.side) Bi i)).gone && not c) (peer_held u Bi u.out.own_bi.opened i (fresh_sender u.out (stream_id u.out.side Bi u.out.own_bi.opened)))) (x Bi)
opened_remotes at_once b f u Bi x Uni = x Uni
opened_remotes at_once b f u Uni x Bi = remote-same (at_once Bi) (b Bi) _ _ u.bi u.bi (limits-refl u.bi)
    (λ i l. ap (λ c. (f (stream_id (other_side u.out.side) Bi i)).gone && not c) (peer_held u Uni u.out.own_uni.opened i (fresh_sender u.out (stream_id u.out.side Uni u.out.own_uni.opened)))) (x Bi)
opened_remotes at_once b f u Uni x Uni = x Uni

opened_goes : (u : World) (d : Dir) (id : ℕ) → Goes u (with_opened u d id (opening u d id))
unfolding with_receive
opened_goes u Bi id = record { side = refl; window = refl; limit = omega arith }
opened_goes u Uni id = record { side = refl; window = refl; limit = omega arith }

opened_credit : (u : World) (d : Dir) (id : ℕ) (o : Outgoing) → (with_opened u d id o).credit ≡ u.credit
unfolding with_receive
opened_credit u Bi id o = refl
opened_credit u Uni id o = refl

-- the end that an opened stream led to
opened_is : (u v : World) (d : Dir) (id : ℕ) (o : Outgoing) → OpensStream u.out d (Ok (Some id)) o → v ≡ with_opened u d id o
    → v ≡ with_opened u d (stream_id u.out.side d (own_of u.out d).opened) (opening u d (stream_id u.out.side d (own_of u.out d).opened))
opened_is u v d id o s e = e ∙ ap (λ k. with_opened u d id k) s.2 ∙ ap (λ j. with_opened u d j (opening u d j)) s.1

-- ---- every call of the sending side

-- a stream was opened
pub record OpensOne (u v : World) : Type 0 where
  pub dir : Dir
  pub few : (own_of u.out dir).opened < (own_of u.out dir).limit
  pub is : v ≡ with_opened u dir (stream_id u.out.side dir (own_of u.out dir).opened) (opening u dir (stream_id u.out.side dir (own_of u.out dir).opened))

-- the send half of a stream was let go
pub record FreesOne (u v : World) : Type 0 where
  pub id : ℕ
  pub budget : SendingCredit
  pub known : is_permitted u id ≡ true
  pub held : sends u id ≡ true
  pub rest : Spares (with_send_freed (without_half u id budget) id) v

-- a frame was acknowledged
acked_half : (u : World) (id : ℕ) (offsets : Range ℕ) (fin done : Bool) (o : Outgoing) (v : World) → is_permitted u id ≡ true → AcksHalf u.out id offsets fin done o → v ≡ told_finished (with_out u o) id done
    → Spares u v ⊎ FreesOne u v
acked_half u id offsets fin true o v known a e = inr (record {
  id = id;
  budget = with_released u.out.budget (total_length a.half.pending.held - total_length a.after.pending.held);
  known = known;
  held = ap (λ (k : Option Send). is_some k) a.is_held;
  rest = let w = with_send_freed (without_half u id (with_released u.out.budget (total_length a.half.pending.held - total_length a.after.pending.held))) id in
      spares_at w v (told w (stream_event.Finished id)) (e ∙ ap (λ k. told (with_send_freed (with_out u k) id) (stream_event.Finished id)) a.is) (spares_told w (stream_event.Finished id));
})
acked_half u id offsets fin false o v known a e = inl (spares_at u v (with_out u o) e (spares_step u o (steadies_at u.out o _ a.is (steadies_budget u.out _ _ (steadies_put u.out id a.half a.after a.is_held)))))

acks : (u : World) (id : ℕ) (offsets : Range ℕ) (fin : Bool) (answer : Result (Unit {0}) OutOfMemory) (v : World) → AcksOwn u id offsets fin answer v → Spares u v ⊎ FreesOne u v
acks u id offsets fin (Ok x) v s = by_test (is_permitted u id) refl
  where
    by_test : (b : Bool) → is_permitted u id ≡ b → Spares u v ⊎ FreesOne u v
    by_test true k = let t = rw k at s in
        either-way (were_sent (u.out.halves id) offsets) t.2
        (λ a. acked_half u id offsets fin t.0 t.1 v k a t.3)
        (λ n. inl (spares_at u v (with_out u t.1) (t.3 ∙ ap (told_finished (with_out u t.1) id) n.0) (spares_step u t.1 (steadies_at u.out t.1 u.out n.1 (steadies_none u.out)))))
    by_test false k = let t = rw k at s in inl (spares_at u v u t (spares_none u))
acks u id offsets fin (Err e) v s = inl (spares_at u v u s.2 (spares_none u))

steadies_lost : (a : Outgoing) (id : ℕ) (offsets : Range ℕ) (fin : Bool) (queue : Option ℤ) (b : Outgoing) → LosesOnStream a id offsets fin (Ok queue) b → Steadies a b
steadies_lost a id offsets fin queue b s = either-way (were_sent (a.halves id) offsets) s
    (λ l. steadies_at a b _ l.is (steadies_put a id l.half l.after l.is_held))
    (λ n. steadies_at a b a n.1 (steadies_none a))

loses : (u : World) (id : ℕ) (offsets : Range ℕ) (fin : Bool) (answer : Result (Unit {0}) OutOfMemory) (v : World) → LosesOwn u id offsets fin answer v → Spares u v
loses u id offsets fin (Ok x) v s = spares_at u v _ s.3 (queued u (with_out u s.1) id s.0 (spares_step u s.1 (steadies_lost u.out id offsets fin s.0 s.1 s.2)))
loses u id offsets fin (Err e) v s = spares_at u v u s.1 (spares_none u)

given_up_held : (o : Option Send) → is_given_up o ≡ true → is_some o ≡ true
given_up_held None e = cc
given_up_held (Some s) e = refl

both_true : (b c : Bool) → (b && c) ≡ true → (b ≡ true) × (c ≡ true)
both_true true c e = (refl, e)
both_true false c e = absurd (cc)

acks_reset : (u : World) (id : ℕ) (answer : Result (Unit {0}) OutOfMemory) (v : World) → AcksReset u id answer v → Spares u v ⊎ FreesOne u v
acks_reset u id (Ok x) v s = by_test (frees_reset u id) refl
  where
    by_test : (b : Bool) → frees_reset u id ≡ b → Spares u v ⊎ FreesOne u v
    by_test true k = let t = rw k at s in let both = both_true (is_permitted u id) (is_given_up (u.out.halves id)) k in
        inr (record {
          id = id;
          budget = u.out.budget;
          known = both.0;
          held = given_up_held (u.out.halves id) both.1;
          rest = let w = with_send_freed (without_half u id u.out.budget) id in spares_at w v w t (spares_none w);
        })
    by_test false k = let t = rw k at s in inl (spares_at u v u t (spares_none u))
acks_reset u id (Err e) v s = inl (spares_at u v u s.1 (spares_none u))

-- a turn of the send queue
spares_writer : (u : World) (x : Writer) → Steadies u.out x.streams → Spares u (with_writer u x)
spares_writer u x s = record { side = s.side; window = refl; credit = refl; receive = refl; opened = s.opened; opened_uni = s.opened_uni; reported = refl; count = refl; limits = both; held = s.held }
  where
    both : (d : Dir) → SameLimits (remote_of u d) (remote_of (with_writer u x) d)
    both Bi = limits-refl u.bi
    both Uni = limits-refl u.uni

-- the streams once a frame was written
pub served-is : (most : ℕ) (fair : Bool) (a b : Writer) (t : ServesFirst most fair a b) → b.streams ≡ with_send_half a.streams t.entry.id (Some t.transmits.sent)
served-is most fair a b t = t.others ∙ ap (λ f. record a.streams { halves = f }) t.transmits.is

turns : (u : World) (most : ℕ) (fair : Bool) (frame : Option StreamMeta) (v : World) → TakesItsTurn most fair u frame v → Spares u v
turns u most fair None v s =
    let found : u.out ≡ s.before.streams = ap (λ (w : World). w.out) s.found in
    let same : s.after.streams ≡ s.before.streams = ap (λ (x : Writer). x.streams) s.turn.is in
    spares_at u v _ s.is (spares_writer u s.after (steadies_at u.out s.after.streams u.out (same ∙ sym found) (steadies_none u.out)))
turns u most fair (Some frame) v s =
    let found : u.out ≡ s.before.streams = ap (λ (w : World). w.out) s.found in
    let t = s.turn in
    let is = served-is most fair s.before s.after t ∙ ap (λ o. with_send_half o t.entry.id (Some t.transmits.sent)) (sym found) in
    spares_at u v _ s.is (spares_writer u s.after
    (steadies_at u.out s.after.streams _ is (steadies_put u.out t.entry.id t.transmits.half t.transmits.sent (ap (λ (o : Outgoing). o.halves t.entry.id) found ∙ t.transmits.is_held))))

or_frees : {u v : World} → Spares u v ⊎ FreesOne u v → Spares u v ⊎ (OpensOne u v ⊎ FreesOne u v)
or_frees (inl k) = inl k
or_frees (inr k) = inr (inr k)

-- a call spares the receiving side, or opens a stream, or lets a send half go
pub kind-of : (u : World) (e : SendEvent) (v : World) → SendStep u e v → Spares u v ⊎ (OpensOne u v ⊎ FreesOne u v)
kind-of u (GaveLimits limits (Ok x)) v s = let w = with_out u (after_params u.out limits) in
    inl (spares_at u v _ s (spares_then u w _ (spares_step u (after_params u.out limits) (steadies_params u.out limits)) (spares_events w _)))
kind-of u (GaveLimits limits (Err e)) v s = inl (spares_at u v u s (spares_none u))
kind-of u (OpenedOwn dir closed (Ok None)) v s = inl (spares_at u v u s.1 (spares_none u))
kind-of u (OpenedOwn dir closed (Ok (Some id))) v s = inr (inl (record { dir = dir; few = s.2.0; is = opened_is u v dir id s.1 s.2 s.3 }))
kind-of u (OpenedOwn dir closed (Err e)) v s = inl (spares_at u v u s (spares_none u))
kind-of u (RaisedData limit) v s = inl (spares_at u v _ s (spares_out u _ refl refl refl (λ q. refl)))
kind-of u (RaisedCount dir count answer) v s = inl (raises_count u dir count answer v s)
kind-of u (RaisedLimit id limit answer) v s = inl (raises_limit u id limit answer v s)
kind-of u (StoppedOwn id code answer) v s = inl (stops_own u id code answer v s)
kind-of u (SetWindow size) v s = inl (spares_at u v _ s (spares_out u _ refl refl refl (λ q. refl)))
kind-of u (Polled answer) v s = inl (polls u answer v s)
kind-of u (WroteOwn id lists closed answer) v s = inl (writes u id lists closed s.0 answer v s.2 s.1 s.3)
kind-of u (FinishedOwn id answer) v s = inl (finishes u id answer v s)
kind-of u (ResetOwn id code answer) v s = inl (spares_at u v _ s.2.2 (spares_step u s.2.0 (steadies_reset u.out id code s.0 answer s.2.0 s.1 s.2.1)))
kind-of u (SetOwnPriority id priority answer) v s = inl (spares_at u v _ s.2 (spares_step u s.0 (steadies_priority u.out id priority answer s.0 s.1)))
kind-of u (AckedOwn id offsets fin answer) v s = or_frees (acks u id offsets fin answer v s)
kind-of u (LostOwn id offsets fin answer) v s = inl (loses u id offsets fin answer v s)
kind-of u (ResetAckedOwn id answer) v s = or_frees (acks_reset u id answer v s)
kind-of u (TookTurn most fair frame) v s = inl (turns u most fair frame v s)

facts_opened : (begun : Credit) (h : List Event) (u : World) (e : SendEvent) (v : World) → Facts begun h u → OpensOne u v → Facts begun (Sending e ∷ h) v
facts_opened begun h u e v f k = let P : World → Type 0 = λ w. Facts begun (Sending e ∷ h) w in
    let j : ℕ = stream_id u.out.side k.dir (own_of u.out k.dir).opened in
    subst P (sym k.is) (record {
      credit = rw (opened_credit u k.dir j (opening u k.dir j)) (credit-same (last_window begun h) (consumed h) (debt begun h) (received h) _ _ _ u.credit (omega arith) (omega arith) refl f.credit);
      streams = opened_all (trace h) u k.dir k.few f.streams;
    })

-- a half that is let go leaves what is told of the streams
facts_freed : (begun : Credit) (h : List Event) (u : World) (id : ℕ) (c : SendingCredit) → Facts begun h u → Facts begun h (with_send_freed (without_half u id c) id)
facts_freed begun h u id c f = record {
  credit = rw (ap (λ k. k.credit) (steady-send-freed (without_half u id c) id)) f.credit;
  streams = all-send-freed (trace h) u id c f.streams;
}

goes_freed : (u : World) (id : ℕ) (c : SendingCredit) → Goes u (with_send_freed (without_half u id c) id)
goes_freed u id c = let e = steady-send-freed (without_half u id c) id in
    record { side = ap (λ k. k.side) e; window = ap (λ k. k.window) e; limit = let l : (with_send_freed (without_half u id c) id).credit.local_max_data ≡ u.credit.local_max_data = ap (λ k. k.credit.local_max_data) e in omega arith }

goes_then : (u w v : World) → Goes u w → Goes w v → Goes u v
goes_then u w v a b = let l = a.limit in let m = b.limit in record { side = b.side ∙ a.side; window = b.window ∙ a.window; limit = omega arith }

pub facts-sending : (begun : Credit) (h : List Event) (u : World) (e : SendEvent) (v : World) → Facts begun h u → SendStep u e v → Facts begun (Sending e ∷ h) v
facts-sending begun h u e v f s = elim (kind-of u e v s) [
  | inl k ↦ facts-spared begun h u e v f k
  | inr (inl k) ↦ facts_opened begun h u e v f k
  | inr (inr k) ↦ facts-spared begun h (with_send_freed (without_half u k.id k.budget) k.id) e v (facts_freed begun h u k.id k.budget f) k.rest
]

pub remotes-sending : (at_once b : Dir → ℕ) (f : ℕ → Trace) (u : World) (e : SendEvent) (v : World) → AllFrom f u → AllRemotes at_once b f u → SendStep u e v → AllRemotes at_once b f v
remotes-sending at_once b f u e v streams x s = elim (kind-of u e v s) [
  | inl k ↦ remotes-spared at_once b f u v k x
  | inr (inl k) ↦ (let P : World → Type 0 = λ w. AllRemotes at_once b f w in subst P (sym k.is) (opened_remotes at_once b f u k.dir x))
  | inr (inr k) ↦ remotes-spared at_once b f (with_send_freed (without_half u k.id k.budget) k.id) v k.rest (remotes-send-freed at_once b f u k.id k.budget k.held streams x k.known)
]

pub goes-sending : (u : World) (e : SendEvent) (v : World) → SendStep u e v → Goes u v
goes-sending u e v s = elim (kind-of u e v s) [
  | inl k ↦ goes-spared u v k
  | inr (inl k) ↦ (let P : World → Type 0 = λ w. Goes u w in subst P (sym k.is) (opened_goes u k.dir (stream_id u.out.side k.dir (own_of u.out k.dir).opened)))
  | inr (inr k) ↦ goes_then u (with_send_freed (without_half u k.id k.budget) k.id) v (goes_freed u k.id k.budget) (goes-spared (with_send_freed (without_half u k.id k.budget) k.id) v k.rest)
]
