-- Each stream on which something is left to be sent stands in the send queue, whatever calls were made.
use Rattle.std.proofs.Common.{◌≡◌, ◌⊎◌, ℕ, ℤ, Bool, true, false, eqb, List, [], ◌∷◌, Option, Some, None, is_some, Ok, Err, refl, sym, ap, ◌∙◌, subst, inl, inr, arith, ◌<◌, ◌≤◌, ◌^◌, ◌-◌}
use Rattle.std.specs.Prelude.{◌==◌, ◌&&◌, ◌||◌, not, drop, int_lt, is_none, min, nat_lt, nat_le, slice_get, MatchBool, if◌then◌else◌}
use Rattle.std.specs.declared.ops.Range.{Range}
use Rattle.std.proofs.lemmas.Bool.Decides.{nat_tests}
use Rattle.quic_ranges.specs.Runs.{is_in}
use Rattle.quic_values.specs.declared.ids.Side.{Side}
use Rattle.quic_values.specs.declared.ids.Dir.{Dir}
use Rattle.quic_values.specs.declared.ids.Dir.TheVariants.{Bi, Uni}
use Rattle.quic_wire.specs.declared.event.StreamEvent.{StreamEvent}
use Rattle.quic_wire.specs.declared.event.StreamEvent.TheVariants as stream_event
use Rattle.quic_wire.specs.declared.error.ReceiveError.TheVariants as receive_error
use Rattle.quic_wire.specs.declared.frame.StreamMeta.{StreamMeta}
use Rattle.quic_queue.specs.declared.queue.Entry.{Entry}
use Rattle.quic_queue.specs.declared.queue.Next.{Next}
use Rattle.quic_queue.specs.declared.queue.Next.TheVariants.{LetGo, PutAnew, KeepBack}
use Rattle.quic_queue.specs.SendOrder.{SendOrder, put, line, first, with_entry, without_next, with_turn_ended}
use Rattle.quic_sending.specs.declared.send.Send.{Send}
use Rattle.quic_sending.specs.Buffer.{is_due, is_lost, total_length}
use Rattle.quic_sending.specs.Sending.{is_ready, is_reset_sent}
use Rattle.quic_flows.specs.Flow.{SendMove, WasCarried, WasAcked, WasLost, WasResetAcked, WasWritten, WasFinished, WasGivenUp, WasAskedToStop, WasPermitted, SendFlow, new_flow, front_of, retained, with_lost, counts_for, takes_data, with_least_limit, with_acked, freed_if_whole, is_whole, with_send_move, state_told, FlowFrom, FlowAt}
use Rattle.quic_outgoing.specs.declared.limits.PeerLimits.{PeerLimits}
use Rattle.quic_outgoing.specs.Outgoing.{Outgoing, with_send_half, is_stuck, first_ids, own_ids}
use Rattle.quic_outgoing.specs.Calls.{QueuesAt, HasMore, HasNoMore}
use Rattle.quic_writing.specs.Writer.{Writer, next_of}
use Rattle.quic_history.specs.Writes.{with_queued, WritesOwn}
use Rattle.quic_history.specs.Sends.{with_out, with_opened, told_writable, after_first_stop, is_permitted, PollsQueue, TellsNext}
use Rattle.quic_history.specs.SendEvents.{SendEvent, SendStep, GaveLimits, OpenedOwn, RaisedData, RaisedCount, RaisedLimit, StoppedOwn, SetWindow, Polled, WroteOwn, FinishedOwn, ResetOwn, SetOwnPriority, AckedOwn, LostOwn, ResetAckedOwn, TookTurn}
use Rattle.quic_history.specs.SendTotals.{send_totals}
use Rattle.quic_history.specs.History.{since, Rejected, SentAgain, Event, Received, ReceivedReset, AddedCredits, Began, Gave, Ended, Stopped, ToldReset, Resized, SetConcurrent, Accepted, LeftPending, Sending, Step, SentSo, FlowsSo, limits_in, send_move_of, send_tale, flow, opened_in_all}
use Rattle.std.proofs.Common.{zero, suc, ◌/◌, ◌%◌, ◌++◌}
use Rattle.std.specs.Prelude.{nat_eq}
use Rattle.std.specs.List.{list_any}
use Rattle.quic_values.specs.declared.ids.Side.TheVariants.{Client, Server}
use Rattle.quic_values.specs.Ids.{stream_id, dir_of, index_of}
use Rattle.quic_outgoing.specs.Senders.{is_local, are_one_end}
use Rattle.quic_outgoing.specs.Transmitting.{is_data_sent}
use Rattle.quic_outgoing.specs.Early.{has_content, QueuesUnsent}
use Rattle.quic_history.specs.Early.{with_unsent, entry_at, AreUnsentOf, with_entries_put}
use Rattle.quic_history.proofs.EarlyFlows.{sent_state, reset_state}
use Rattle.quic_history.proofs.Limits.{firmly}
use Rattle.quic_history.proofs.FlowHistory.{known-by, few-retained}
use Rattle.quic_history.specs.Carrying.{PassesOver, CarriesFrame}
use Rattle.quic_history.specs.Acknowledged.{frees_reset, told_finished, with_send_freed}
use Rattle.quic_history.proofs.StreamSteps.{Steady, steady-noticed}
use Rattle.quic_history.proofs.SendFreed.{steady-send-freed}
use Rattle.quic_history.proofs.SendSteps.{either-way, served-is}
use Rattle.quic_history.proofs.SendSides.{held-flow, here_put, freed_moved}
use Rattle.quic_history.proofs.FlowSteps.{flow_held}
use Rattle.quic_history.proofs.FlowReports.{uncounted, step-carried, told_freed, told_reset}
use Rattle.quic_limits.specs.Own.{with_count}
use Rattle.quic_sending.specs.declared.send.SendState.{SendState}
use Rattle.quic_sending.specs.declared.send.SendState.TheVariants.{Ready, DataSent, ResetSent}
use Rattle.quic_sending.specs.Sending.{write_refusal, finish_refusal}
use Rattle.quic_outgoing.specs.Outgoing.{own_of, with_own}
use Rattle.quic_outgoing.specs.Writing.{refusal_of_write}
use Rattle.quic_outgoing.specs.Acknowledging.{LosesOnStream, were_sent}
use Rattle.quic_outgoing.specs.Transmitting.{sending_priority}
use Rattle.quic_history.proofs.Totals.{by_cases, same}
use Rattle.quic_history.specs.World.{World, Made, with_receive, told, noticed}
use Rattle.quic_history.specs.Flows.{has_send_side, has_side_in, is_answered_on, send_moved, with_first_limits, AllFlows, stands, HasRest, AreInQueue}

-- ---- entries of the queue

eq_comm : (a b : ℕ) → (a == b) ≡ (b == a)
eq_comm a b = grind (arith, nat_tests)

itself : (a : ℕ) → (a == a) ≡ true
itself a = grind (arith, nat_tests)

or_right : (a b : Bool) → b ≡ true → (a || b) ≡ true
or_right true b e = refl
or_right false b e = e

-- one that is put stands there
put_stands : (q : ℕ) (es : List Entry) (e : Entry) → q ≡ e.id → stands q (put es e) ≡ true
put_stands q [] e k = rw k (ap (λ b. b || false) (itself e.id))
put_stands q (x ∷ xs) e k = by_test (int_lt x.priority e.priority) (put_stands q xs e k)
  where
    by_test : (b : Bool) → stands q (put xs e) ≡ true → stands q (if b then e ∷ x ∷ xs else x ∷ put xs e) ≡ true
    by_test true l = ap (λ b. b || stands q (x ∷ xs)) (ap (λ i. q == i) (sym k) ∙ itself q)
    by_test false l = or_right (q == x.id) (stands q (put xs e)) l

-- and the others stay
put_stays : (q : ℕ) (es : List Entry) (e : Entry) → stands q es ≡ true → stands q (put es e) ≡ true
put_stays q [] e k = cc
put_stays q (x ∷ xs) e k = by_test (int_lt x.priority e.priority) (put_stays q xs e)
  where
    further : (a b c : Bool) → (a || b) ≡ true → (b ≡ true → c ≡ true) → (a || c) ≡ true
    further true b c h f = refl
    further false b c h f = f h

    by_test : (b : Bool) → (stands q xs ≡ true → stands q (put xs e) ≡ true) → stands q (if b then e ∷ x ∷ xs else x ∷ put xs e) ≡ true
    by_test true l = or_right (q == e.id) (stands q (x ∷ xs)) k
    by_test false l = further (q == x.id) (stands q xs) (stands q (put xs e)) k l

entry_stands : (w : SendOrder) (e : Entry) → stands e.id (line (with_entry w e)) ≡ true
entry_stands w e = by_kept w.kept
  where
    by_kept : (k : Option Entry) → stands e.id (line (record w { waiting = put w.waiting e; kept = k; reserved = None })) ≡ true
    by_kept None = put_stands e.id w.waiting e refl
    by_kept (Some x) = or_right (e.id == x.id) (stands e.id (put w.waiting e)) (put_stands e.id w.waiting e refl)

entry_stays : (q : ℕ) (w : SendOrder) (e : Entry) → stands q (line w) ≡ true → stands q (line (with_entry w e)) ≡ true
entry_stays q w e h = by_kept w.kept refl
  where
    further : (a b c : Bool) → (a || b) ≡ true → (b ≡ true → c ≡ true) → (a || c) ≡ true
    further true b c h f = refl
    further false b c h f = f h

    by_kept : (k : Option Entry) → w.kept ≡ k → stands q (line (record w { waiting = put w.waiting e; kept = k; reserved = None })) ≡ true
    by_kept None k = put_stays q w.waiting e (rw k at h)
    by_kept (Some x) k = further (q == x.id) (stands q w.waiting) (stands q (put w.waiting e)) (rw k at h) (put_stays q w.waiting e)

-- the first one, and the rest of the line
first_line : (w : SendOrder) (e : Entry) → first w ≡ Some e → line w ≡ e ∷ line (without_next w)
first_line w e h = by_kept w.kept refl
  where
    by_waiting : (es : List Entry) → slice_get es 0 ≡ Some e → es ≡ e ∷ drop 1 es
    by_waiting [] k = cc
    by_waiting (x ∷ xs) k = let same : x ≡ e = some_same x e k in ap (λ y. y ∷ xs) same
      where
        some_same : (a b : Entry) → Some a ≡ Some b → a ≡ b
        some_same a b k = cc

    by_kept : (k : Option Entry) → w.kept ≡ k → line w ≡ e ∷ line (without_next w)
    by_kept None k = let f = rw k at h in rw k (by_waiting w.waiting f)
    by_kept (Some x) k = let f = rw k at h in let same : x ≡ e = some_same x e f in rw k (ap (λ y. y ∷ w.waiting) same)
      where
        some_same : (a b : Entry) → Some a ≡ Some b → a ≡ b
        some_same a b k = cc

-- one that is not the first stands there after its turn
turn_stays : (w : SendOrder) (e : Entry) (n : Next) (q : ℕ) → first w ≡ Some e → (q == e.id) ≡ false → stands q (line w) ≡ true → stands q (line (with_turn_ended (without_next w) e n)) ≡ true
turn_stays w e n q f other h = by_next n
  where
    rest : stands q (line (without_next w)) ≡ true
    rest = let k = ap (stands q) (first_line w e f) in let l : ((q == e.id) || stands q (line (without_next w))) ≡ true = sym k ∙ h in rw other at l

    by_next : (n : Next) → stands q (line (with_turn_ended (without_next w) e n)) ≡ true
    by_next LetGo = rest
    by_next (PutAnew p) = entry_stays q (without_next w) (record { priority = p; id = e.id }) rest
    by_next KeepBack = or_right (q == e.id) (stands q (without_next w).waiting) rest

-- the first one does, where more is to be sent
turn_stands : (w : SendOrder) (e : Entry) (fair : Bool) (priority : ℤ) → stands e.id (line (with_turn_ended (without_next w) e (next_of fair priority true))) ≡ true
turn_stands w e true priority = entry_stands (without_next w) (record { priority = priority; id = e.id })
turn_stands w e false priority = ap (λ b. b || stands e.id (without_next w).waiting) (itself e.id)

-- ---- what is left of a stream

is_pending : (t : SendFlow) (s : Send) → FlowFrom t s → is_reset_sent s.state ≡ false → HasMore s → HasRest t
is_pending t s f open_now more = by_reset t.reset refl
  where
    closed : (code : ℕ) → t.reset ≡ Some code → ⊥
    closed code e = let k : is_reset_sent s.state ≡ true = ap is_reset_sent f.state ∙ ap (λ r. is_reset_sent (state_told r t.finished t.end_acked)) e in let l = sym open_now ∙ k in cc

    by_lost : (n : ℕ) (l a : Bool) → (l || is_in (s.pending.unsent, s.pending.offset) n) ≡ true → (l ≡ true → (t.missing n ≡ true) × (t.acked n ≡ false)) → nat_lt n s.pending.unsent ≡ t.carried n → s.pending.offset ≡ total_length t.cuts
        → ((k : ℕ) × (k < total_length t.cuts) × (t.carried k ≡ false)) ⊎ (((k : ℕ) × (t.missing k ≡ true) × (t.acked k ≡ false)) ⊎ (t.end_due ≡ true))
    by_lost n true a h was sent all = let w = was refl in inr (inl (n, w.0, w.1))
    by_lost n false a h was sent all = inl (n, below n s.pending.unsent s.pending.offset (total_length t.cuts) h all, sym sent ∙ above n s.pending.unsent s.pending.offset h)
      where
        below : (n a b c : ℕ) → is_in (a, b) n ≡ true → b ≡ c → n < c
        below n a b c h e = grind (arith, nat_tests)

        above : (n a b : ℕ) → is_in (a, b) n ≡ true → nat_lt n a ≡ false
        above n a b h = grind (arith, nat_tests)

    both : (a b : Bool) → (a && not b) ≡ true → (a ≡ true) × (b ≡ false)
    both true true e = cc
    both true false e = (refl, refl)
    both false b e = cc

    by_reset : (r : Option ℕ) → t.reset ≡ r → HasRest t
    by_reset None e =
        let o = f.offsets e in
        (e, f.there, by_fin s.fin_pending refl)
      where
        by_fin : (b : Bool) → s.fin_pending ≡ b → ((k : ℕ) × (k < total_length t.cuts) × (t.carried k ≡ false)) ⊎ (((k : ℕ) × (t.missing k ≡ true) × (t.acked k ≡ false)) ⊎ (t.end_due ≡ true))
        by_fin true k = inr (inr (sym f.end_due ∙ k))
        by_fin false k = let d = more k in
            by_lost d.0 (is_lost s.pending d.0) true d.1 (λ l. both (t.missing d.0) (t.acked d.0) (sym ((f.offsets e).lost d.0) ∙ l)) ((f.offsets e).sent d.0) f.cuts.written
    by_reset (Some code) e = absurd (closed code e)

-- nothing is left where nothing more is to be sent
not_pending : (t : SendFlow) (s : Send) → FlowFrom t s → HasNoMore s → HasRest t → ⊥
not_pending t s f none (reset, freed, inl x) =
    let o = f.offsets reset in
    let due : is_due s.pending x.0 ≡ true = in_rest x.0 (is_lost s.pending x.0) s.pending.unsent s.pending.offset (o.sent x.0 ∙ x.2) (let w = f.cuts.written in let l = x.1 in omega arith) in
    let k = none.1 x.0 in let l = sym due ∙ k in cc
  where
    in_rest : (n : ℕ) (l : Bool) (a b : ℕ) → nat_lt n a ≡ false → n < b → (l || is_in (a, b) n) ≡ true
    in_rest n true a b h k = refl
    in_rest n false a b h k = grind (arith, nat_tests)
not_pending t s f none (reset, freed, inr (inl x)) =
    let o = f.offsets reset in
    let lost : is_lost s.pending x.0 ≡ true = o.lost x.0 ∙ rw (x.1, x.2) refl in
    let due : is_due s.pending x.0 ≡ true = ap (λ b. b || is_in (s.pending.unsent, s.pending.offset) x.0) lost in
    let k = none.1 x.0 in let l = sym due ∙ k in cc
not_pending t s f none (reset, freed, inr (inr x)) = let k = sym (none.0) ∙ f.end_due ∙ x in cc

-- nothing is left of a stream that is given up, or freed
freed_none : (t : SendFlow) → t.freed ≡ true → HasRest t → ⊥
freed_none t e r = let k = sym e ∙ r.1 in cc

reset_none : (t : SendFlow) → is_some t.reset ≡ true → HasRest t → ⊥
reset_none t e r = let k = sym e ∙ ap (λ (o : Option ℕ). is_some o) r.0 in cc

-- limits change nothing of it
limits_rest : (l : Option PeerLimits) (side : Side) (q : ℕ) (t : SendFlow) → HasRest (with_first_limits l side q t) → HasRest t
limits_rest None side q t r = r
limits_rest (Some limits) side q t r = (r.0, r.1, r.2)

permitted_rest : (t : SendFlow) (limit : ℕ) → HasRest (with_send_move (WasPermitted limit) t) → HasRest t
permitted_rest t limit r = by_test (takes_data t.reset t.finished) r
  where
    by_test : (b : Bool) → HasRest (if b then with_least_limit (min limit (2 ^ 62 - 1)) t else t) → HasRest t
    by_test true k = (k.0, k.1, k.2)
    by_test false k = k

or_false : (a b : Bool) → (a || b) ≡ false → a ≡ false
or_false true b e = cc
or_false false b e = refl

whole_rest : (t : SendFlow) → HasRest (freed_if_whole t) → HasRest t
whole_rest t r = (r.0, or_false t.freed (is_whole t) r.1, r.2)

acked_rest : (t : SendFlow) (start behind : ℕ) (fin : Bool) → HasRest (with_acked start behind fin t) → HasRest t
acked_rest t start behind fin (a, b, inl x) = (a, b, inl x)
acked_rest t start behind fin (a, b, inr (inl x)) = (a, b, inr (inl (x.0, x.1, or_false (t.acked x.0) (is_in (start, behind) x.0) x.2)))
acked_rest t start behind fin (a, b, inr (inr x)) = (a, b, inr (inr x))

ack_rest : (t : SendFlow) (start behind : ℕ) (fin : Bool) → HasRest (with_send_move (WasAcked start behind fin) t) → HasRest t
ack_rest t start behind fin r = by_test (counts_for t.reset t.sent_up_to behind) r
  where
    by_test : (b : Bool) → HasRest (if b then freed_if_whole (with_acked start behind fin t) else t) → HasRest t
    by_test true k = acked_rest t start behind fin (whole_rest (with_acked start behind fin t) k)
    by_test false k = k

let_go_rest : (t : SendFlow) → HasRest (with_send_move WasResetAcked t) → HasRest t
let_go_rest t r = (r.0, or_false t.freed (is_some t.reset) r.1, r.2)

given_up_rest : (t : SendFlow) (code : ℕ) → HasRest (with_send_move (WasGivenUp code) t) → ⊥
given_up_rest t code r = let k = r.0 in cc

-- ---- one call

-- what was done to a stream leaves the others
module _ (there : ℕ → Bool) (f : ℕ → SendFlow) (u v : World) (r : AreInQueue f u.queue) where
  moved_queue : (id : ℕ) (m : SendMove) → ((q : ℕ) → eqb q id ≡ false → stands q (line u.queue) ≡ true → stands q (line v.queue) ≡ true)
      → (HasRest (send_moved (Some (id, m)) there id (f id)) → stands id (line v.queue) ≡ true)
      → AreInQueue (λ q. send_moved (Some (id, m)) there q (f q)) v.queue
  moved_queue id m others here q k = by_cases (eqb q id)
      (λ t. let P : ℕ → Type 0 = λ x. HasRest (send_moved (Some (id, m)) there x (f x)) → stands x (line v.queue) ≡ true in
      let at : P q = subst P (sym (same q id t)) here in at k)
      (λ n. others q n (r q (let P : SendFlow → Type 0 = λ x. HasRest x in subst P (unmoved q id m n) k)))
    where
      unmoved : (q id : ℕ) (m : SendMove) → eqb q id ≡ false → send_moved (Some (id, m)) there q (f q) ≡ f q
      unmoved q id m n = rw n refl

  -- nothing more is left by it, and every entry stays
  stayed_queue : (id : ℕ) (m : SendMove) → ((q : ℕ) → stands q (line u.queue) ≡ true → stands q (line v.queue) ≡ true) → (there id ≡ true → HasRest (with_send_move m (f id)) → HasRest (f id))
      → AreInQueue (λ q. send_moved (Some (id, m)) there q (f q)) v.queue
  stayed_queue id m stay less = moved_queue id m (λ q n. stay q) (λ k. stay id (r id (by_there (id == id) (there id) refl k)))
    where
      by_there : (a b : Bool) → there id ≡ b → HasRest (if a && b then with_send_move m (f id) else f id) → HasRest (f id)
      by_there true true e k = less e k
      by_there true false e k = k
      by_there false b e k = k

  same_queue : v.queue ≡ u.queue → (q : ℕ) → stands q (line u.queue) ≡ true → stands q (line v.queue) ≡ true
  same_queue e q h = ap (λ (x : SendOrder). stands q (line x)) e ∙ h

  kept_queue : (l : Option PeerLimits) (side : Side) → v.queue ≡ u.queue → AreInQueue (λ q. with_first_limits l side q (f q)) v.queue
  kept_queue l side e q k = same_queue e q (r q (limits_rest l side q (f q) k))

-- a stream on which something was done is queued where it was not, and so it stands there
queued_stands : (f : ℕ → SendFlow) (w : World) (id : ℕ) (s : Send) (queue : Option ℤ) → AreInQueue f w.queue → FlowFrom (f id) s → is_reset_sent s.state ≡ false → QueuesAt s queue → stands id (line (with_queued w id queue).queue) ≡ true
queued_stands f w id s None r k open_now more = r id (is_pending (f id) s k open_now more)
queued_stands f w id s (Some priority) r k open_now more = entry_stands w.queue (record { priority = priority; id = id })

queued_stays : (w : World) (id : ℕ) (queue : Option ℤ) (q : ℕ) → stands q (line w.queue) ≡ true → stands q (line (with_queued w id queue).queue) ≡ true
queued_stays w id None q h = h
queued_stays w id (Some priority) q h = entry_stays q w.queue (record { priority = priority; id = id }) h

-- ---- which calls leave the queue

queue_opened : (u : World) (d : Dir) (id : ℕ) (o : Outgoing) → (with_opened u d id o).queue ≡ u.queue
unfolding with_receive
queue_opened u Bi id o = refl
queue_opened u Uni id o = refl

queue_if : (u w x : World) (b : Bool) → w.queue ≡ u.queue → x.queue ≡ u.queue → (if b then w else x).queue ≡ u.queue
queue_if u w x true e k = e
queue_if u w x false e k = k

queue_noticed : (u : World) (id : ℕ) → (noticed u id false).queue ≡ u.queue
queue_noticed u id = ap (λ (s : Steady). s.queue) (steady-noticed u id false)

queue_writable : (u : World) (id : ℕ) (b : Bool) → (told_writable u id b).queue ≡ u.queue
queue_writable u id true = refl
queue_writable u id false = refl

queue_stopped : (u : World) (id code : ℕ) (b : Bool) → (after_first_stop u id code b).queue ≡ u.queue
queue_stopped u id code true = queue_noticed (told u (stream_event.Stopped id code)) id
queue_stopped u id code false = refl

queue_polled : (w : World) (writable : Option ℕ) (answer : Option StreamEvent) (v : World) → PollsQueue w writable answer v → v.queue ≡ w.queue
queue_polled w (Some id) answer v s = ap (λ (x : World). x.queue) s.1
queue_polled w None answer v s = ap (λ (x : World). x.queue) s.2

queue_told : (u : World) (answer : Option StreamEvent) (v : World) → TellsNext u answer v → v.queue ≡ u.queue
queue_told u answer v s = either-way u.bi.opened s
    (λ t. ap (λ (x : World). x.queue) t.1)
    (λ t. either-way u.uni.opened t
    (λ k. ap (λ (x : World). x.queue) k.1)
    (λ p. queue_polled (with_out u p.1) p.0 answer v p.3))

queue_freed : (u : World) (id : ℕ) → (with_send_freed u id).queue ≡ u.queue
queue_freed u id = ap (λ (s : Steady). s.queue) (steady-send-freed u id)

queue_finished : (u : World) (id : ℕ) (b : Bool) → (told_finished u id b).queue ≡ u.queue
queue_finished u id true = queue_freed u id
queue_finished u id false = refl

-- ---- which halves were not given up

not_reset : (st : SendState) → is_ready st ≡ true → is_reset_sent st ≡ false
not_reset Ready k = refl
not_reset (DataSent b) k = refl
not_reset ResetSent k = cc

taken_open : (s : Send) → write_refusal s ≡ None → is_reset_sent s.state ≡ false
taken_open s e = by_ready (is_ready s.state) refl
  where
    by_ready : (b : Bool) → is_ready s.state ≡ b → is_reset_sent s.state ≡ false
    by_ready true k = not_reset s.state k
    by_ready false k = absurd (let l = rw k at e in cc)

wrote_open : (o : Outgoing) (s : Send) → refusal_of_write o (Some s) ≡ None → is_reset_sent s.state ≡ false
wrote_open o s e = by_stuck (is_stuck o) refl
  where
    by_stuck : (b : Bool) → is_stuck o ≡ b → is_reset_sent s.state ≡ false
    by_stuck true k = absurd (let l = rw k at e in cc)
    by_stuck false k = taken_open s (rw k at e)

ended_open : (s : Send) → finish_refusal s ≡ None → is_reset_sent s.state ≡ false
ended_open s e = by_stop s.stop_reason refl
  where
    by_ready : (b : Bool) → is_ready s.state ≡ b → s.stop_reason ≡ None → is_reset_sent s.state ≡ false
    by_ready true k n = not_reset s.state k
    by_ready false k n = absurd (let l = rw (n, k) at e in cc)

    by_stop : (o : Option ℕ) → s.stop_reason ≡ o → is_reset_sent s.state ≡ false
    by_stop None k = by_ready (is_ready s.state) refl k
    by_stop (Some code) k = absurd (let l = rw k at e in cc)

sent_open : (o : Option Send) (s : Send) (offsets : Range ℕ) → o ≡ Some s → were_sent o offsets ≡ true → is_reset_sent s.state ≡ false
sent_open o s offsets e w = by_test (is_reset_sent s.state) refl
  where
    told_sent : (not (is_reset_sent s.state) && nat_le offsets.end s.pending.unsent) ≡ true
    told_sent = ap (λ (x : Option Send). were_sent x offsets) (sym e) ∙ w

    by_test : (b : Bool) → is_reset_sent s.state ≡ b → b ≡ false
    by_test true k = absurd (let l = rw k at told_sent in cc)
    by_test false k = refl

-- what is not open has no rest
absent_rest : (first : ℕ) (t : SendFlow) (k : Bool) (o : Option Send) → o ≡ None → FlowAt first t k o → HasRest t → ⊥
absent_rest first t true None e a r = freed_none t a r
absent_rest first t true (Some s) e a r = cc
absent_rest first t false (Some s) e a r = absurd a
absent_rest first t false None e a r = fresh_none first (rw a at r)
  where
    fresh_none : (first : ℕ) → HasRest (new_flow first) → ⊥
    fresh_none first (x, y, inl z) = let l = z.1 in omega arith
    fresh_none first (x, y, inr (inl z)) = let l = z.1 in cc
    fresh_none first (x, y, inr (inr z)) = cc

closed_rest : (first : ℕ) (t : SendFlow) (k : Bool) (o : Option Send) → sending_priority o ≡ None → FlowAt first t k o → HasRest t → ⊥
closed_rest first t k None e a r = absent_rest first t k None refl a r
closed_rest first t true (Some s) e a r = by_test (is_reset_sent s.state) refl
  where
    by_test : (b : Bool) → is_reset_sent s.state ≡ b → ⊥
    by_test true h = reset_none t (told_reset t s a h) r
    by_test false h = let l = rw h at e in cc
closed_rest first t false (Some s) e a r = absurd a

-- ---- every call of the sending side

module _ (side : Side) (there : ℕ → Bool) (f : ℕ → SendFlow) (u : World) (known : (q : ℕ) → there q ≡ has_side_in u.out u.bi.max_remote q) (all : AllFlows f u.out u.bi.max_remote)
    (is_side : u.out.side ≡ side) (few : (q : ℕ) → retained (f q) ≤ u.out.budget.buffered_data) (r : AreInQueue f u.queue) where
  idle : (l : Option PeerLimits) (v : World) → v.queue ≡ u.queue → AreInQueue (λ q. with_first_limits l side q (f q)) v.queue
  idle l v e = kept_queue there f u v r l side e

  at_queue : (v w : World) (q : ℕ) → v ≡ w → stands q (line w.queue) ≡ true → stands q (line v.queue) ≡ true
  at_queue v w q e h = ap (λ (x : World). stands q (line x.queue)) e ∙ h

  -- something was done to a stream, which is queued where it was not
  queued_so : (id : ℕ) (m : SendMove) (s : Send) (queue : Option ℤ) (o : Outgoing) (v : World) → u.out.halves id ≡ Some s → is_reset_sent s.state ≡ false → QueuesAt s queue → v ≡ with_queued (with_out u o) id queue
      → AreInQueue (λ q. send_moved (Some (id, m)) there q (f q)) v.queue
  queued_so id m s queue o v held open_now at e =
      let flow = flow_held side there f u known all id s held in
      moved_queue there f u v r id m
      (λ q n h. at_queue v (with_queued (with_out u o) id queue) q e (queued_stays (with_out u o) id queue q h))
      (λ k. at_queue v (with_queued (with_out u o) id queue) id e (queued_stands f (with_out u o) id s queue r flow open_now at))

  stay : (v : World) → v.queue ≡ u.queue → (id : ℕ) (m : SendMove) → (there id ≡ true → HasRest (with_send_move m (f id)) → HasRest (f id)) → AreInQueue (λ q. send_moved (Some (id, m)) there q (f q)) v.queue
  stay v e id m less = stayed_queue there f u v r id m (same_queue there f u v r e) less

  lost_less : (id : ℕ) (offsets : Range ℕ) (fin : Bool) (o : Option Send) → u.out.halves id ≡ o → were_sent o offsets ≡ false → there id ≡ true → HasRest (with_send_move (WasLost offsets.start offsets.end fin) (f id)) → HasRest (f id)
  lost_less id offsets fin None e w t k =
      let freed = told_freed _ (f id) (has_side_in u.out u.bi.max_remote id) (u.out.halves id) (sym (known id) ∙ t) e (all id) in
      absurd (freed_none (with_send_move (WasLost offsets.start offsets.end fin) (f id)) (freed_moved (WasLost offsets.start offsets.end fin) (f id) freed) k)
  lost_less id offsets fin (Some s) e w t k =
      let n = uncounted (f id) s offsets.end (flow_held side there f u known all id s e) w in
      let P : Bool → Type 0 = λ b. HasRest (if b then with_lost offsets.start offsets.end fin (f id) else f id) in
      subst P n k

  lost_so : (id : ℕ) (offsets : Range ℕ) (fin : Bool) (queue : Option ℤ) (o : Outgoing) (v : World) (b : Bool) → were_sent (u.out.halves id) offsets ≡ b → LosesOnStream u.out id offsets fin (Ok queue) o → v ≡ with_queued (with_out u o) id queue
      → AreInQueue (λ q. send_moved (Some (id, WasLost offsets.start offsets.end fin)) there q (f q)) v.queue
  lost_so id offsets fin queue o v true w a e = let x = rw w at a in
      queued_so id (WasLost offsets.start offsets.end fin) x.half queue o v x.is_held (sent_open (u.out.halves id) x.half offsets x.is_held w) x.queues e
  lost_so id offsets fin queue o v false w a e = let x = rw w at a in
      let P : Option ℤ → Type 0 = λ y. v ≡ with_queued (with_out u o) id y in
      let k : v ≡ with_out u o = subst P x.0 e in
      stay v (ap (λ (y : World). y.queue) k) id (WasLost offsets.start offsets.end fin) (lost_less id offsets fin (u.out.halves id) refl w)

  passed_so : (v : World) → PassesOver u v → AreInQueue f v.queue
  passed_so v s q k =
      let t = s.turn in
      let found : u.out ≡ s.before.streams = ap (λ (w : World). w.out) s.found in
      let queue : u.queue ≡ s.before.queue = ap (λ (w : World). w.queue) s.found in
      let after : v.queue ≡ with_turn_ended (without_next s.before.queue) t.entry LetGo = ap (λ (w : World). w.queue) s.is ∙ ap (λ (x : Writer). x.queue) t.is in
      by_cases (eqb q t.entry.id)
      (λ e. absurd (closed_rest _ (f q) (has_side_in u.out u.bi.max_remote q) (u.out.halves q)
      (ap (λ (o : Outgoing). sending_priority (o.halves q)) found ∙ ap (λ i. sending_priority (s.before.streams.halves i)) (same q t.entry.id e) ∙ t.closed) (all q) k))
      (λ n. ap (λ (x : SendOrder). stands q (line x)) after ∙ turn_stays s.before.queue t.entry LetGo q t.is_first n (ap (λ (x : SendOrder). stands q (line x)) (sym queue) ∙ r q k))

  carried_so : (most : ℕ) (fair : Bool) (frame : StreamMeta) (v : World) → CarriesFrame most fair u frame v
      → AreInQueue (λ q. send_moved (Some (frame.id, WasCarried frame.offsets.start frame.offsets.end frame.fin)) there q (f q)) v.queue
  carried_so most fair frame v s =
      let t = s.turn in
      let m = WasCarried frame.offsets.start frame.offsets.end frame.fin in
      let queue : u.queue ≡ s.before.queue = ap (λ (w : World). w.queue) s.found in
      let after : v.queue ≡ with_turn_ended (without_next s.before.queue) t.entry (next_of fair t.priority t.frame.has_more) = ap (λ (w : World). w.queue) s.is ∙ t.queue in
      let same_id : frame.id ≡ t.entry.id = ap (λ (x : StreamMeta). x.id) s.meta ∙ t.transmits.appends.id_is in
      let step = step-carried side there f u known all most fair frame v s in
      let g : ℕ → SendFlow = λ q. send_moved (Some (frame.id, m)) there q (f q) in
      let out : v.out ≡ s.after.streams = ap (λ (w : World). w.out) s.is in
      let held : v.out.halves frame.id ≡ Some t.transmits.sent = ap (λ (o : Outgoing). o.halves frame.id) (out ∙ served-is most fair s.before s.after t)
      ∙ ap (with_send_half s.before.streams t.entry.id (Some t.transmits.sent)).halves same_id ∙ here_put s.before.streams.halves t.entry.id (Some t.transmits.sent) in
      let flow : FlowFrom (g frame.id) t.transmits.sent = held-flow _ (g frame.id) (has_side_in v.out v.bi.max_remote frame.id) t.transmits.sent (v.out.halves frame.id) held (step.flows frame.id) in
      moved_queue there f u v r frame.id m
      (λ q n h. ap (λ (x : SendOrder). stands q (line x)) after
      ∙ turn_stays s.before.queue t.entry (next_of fair t.priority t.frame.has_more) q t.is_first (ap (λ i. q == i) (sym same_id) ∙ n) (ap (λ (x : SendOrder). stands q (line x)) (sym queue) ∙ h))
      (λ k. ap (λ (x : SendOrder). stands frame.id (line x)) after ∙ ap (λ i. stands i (line (with_turn_ended (without_next s.before.queue) t.entry (next_of fair t.priority t.frame.has_more)))) same_id
      ∙ by_more (g frame.id) t.transmits.sent s.before.queue t.entry fair t.priority t.frame.has_more t.transmits.appends.more flow k)
    where
      by_more : (x : SendFlow) (y : Send) (w : SendOrder) (e : Entry) (fair : Bool) (priority : ℤ) (b : Bool) → MatchBool b (HasMore y) (HasNoMore y) → FlowFrom x y → HasRest x
          → stands e.id (line (with_turn_ended (without_next w) e (next_of fair priority b))) ≡ true
      by_more x y w e fair priority true more flow k = turn_stands w e fair priority
      by_more x y w e fair priority false more flow k = absurd (not_pending x y flow more k)

  rest_sending : (e : SendEvent) (v : World) → SendStep u e v → AreInQueue (λ q. with_first_limits (limits_in (Sending e)) side q (send_moved (send_move_of (Sending e)) there q (f q))) v.queue
  rest_sending (GaveLimits limits (Ok x)) v s = idle (Some limits) v (ap (λ (x : World). x.queue) s)
  rest_sending (GaveLimits limits (Err e)) v s = idle None v (ap (λ (x : World). x.queue) s)
  rest_sending (OpenedOwn dir closed (Ok None)) v s = idle None v (ap (λ (x : World). x.queue) s.1)
  rest_sending (OpenedOwn dir closed (Ok (Some id))) v s = idle None v (ap (λ (x : World). x.queue) s.3 ∙ queue_opened u dir id s.1)
  rest_sending (OpenedOwn dir closed (Err e)) v s = idle None v (ap (λ (x : World). x.queue) s)
  rest_sending (RaisedData limit) v s = idle None v (ap (λ (x : World). x.queue) s)
  rest_sending (RaisedCount dir count (Ok x)) v s =
      let w = with_out u (with_own u.out dir (with_count (own_of u.out dir) count)) in
      idle None v (ap (λ (x : World). x.queue) s.1 ∙ queue_if u (told w (stream_event.Available dir)) w (nat_lt (own_of u.out dir).limit count) refl refl)
  rest_sending (RaisedCount dir count (Err (receive_error.Transport error))) v s = idle None v (ap (λ (x : World). x.queue) s.2)
  rest_sending (RaisedCount dir count (Err receive_error.CompactionMemory)) v s = absurd s
  rest_sending (RaisedCount dir count (Err receive_error.OutOfMemory)) v s = idle None v (ap (λ (x : World). x.queue) s.2)
  rest_sending (RaisedLimit id limit (Ok x)) v s =
      let w = with_out u s.2 in
      stay v (ap (λ (x : World). x.queue) s.4 ∙ queue_noticed (told_writable w id s.1) id ∙ queue_writable w id s.1) id (WasPermitted limit) (λ t. permitted_rest (f id) limit)
  rest_sending (RaisedLimit id limit (Err (receive_error.Transport error))) v s = idle None v (ap (λ (x : World). x.queue) s.1)
  rest_sending (RaisedLimit id limit (Err receive_error.CompactionMemory)) v s = absurd s
  rest_sending (RaisedLimit id limit (Err receive_error.OutOfMemory)) v s = idle None v (ap (λ (x : World). x.queue) s)
  rest_sending (StoppedOwn id code (Ok x)) v s = stay v (either-way (is_permitted u id) s
      (λ t. ap (λ (x : World). x.queue) t.3 ∙ queue_stopped (with_out u t.1) id code t.0)
      (λ t. ap (λ (x : World). x.queue) t)) id (WasAskedToStop code) (λ t k. (k.0, k.1, k.2))
  rest_sending (StoppedOwn id code (Err e)) v s = idle None v (ap (λ (x : World). x.queue) s)
  rest_sending (SetWindow size) v s = idle None v (ap (λ (x : World). x.queue) s)
  rest_sending (Polled answer) v s = idle None v (queue_told u answer v s)
  rest_sending (WroteOwn id lists closed (Ok written)) v s =
      let t = s.3.3.0 in
      queued_so id (WasWritten (front_of written.bytes lists)) t.half s.3.1.queue_at s.3.2 v t.is_held (wrote_open u.out t.half t.free) t.queue s.3.5
  rest_sending (WroteOwn id lists closed (Err e)) v s = idle None v (refused s.3)
    where
      refused : WritesOwn u id lists closed s.0 (Err e) v s.2 s.1 → v.queue ≡ u.queue
      refused (inl t) = ap (λ (x : World). x.queue) t.2
      refused (inr t) = ap (λ (x : World). x.queue) t.3
  rest_sending (FinishedOwn id (Ok x)) v s = queued_so id WasFinished s.2.0 s.0 s.1 v s.2.1 (ended_open s.2.0 s.2.2) s.2.3 s.3
  rest_sending (FinishedOwn id (Err e)) v s = idle None v (ap (λ (x : World). x.queue) s.2)
  rest_sending (ResetOwn id code (Ok x)) v s = stay v (ap (λ (x : World). x.queue) s.2.2) id (WasGivenUp code) (λ t k. absurd (given_up_rest (f id) code k))
  rest_sending (ResetOwn id code (Err e)) v s = idle None v (ap (λ (x : World). x.queue) s.2.2)
  rest_sending (SetOwnPriority id priority answer) v s = idle None v (ap (λ (x : World). x.queue) s.2)
  rest_sending (AckedOwn id offsets fin (Ok x)) v s = stay v (either-way (is_permitted u id) s
      (λ t. ap (λ (x : World). x.queue) t.3 ∙ queue_finished (with_out u t.1) id t.0)
      (λ t. ap (λ (x : World). x.queue) t)) id (WasAcked offsets.start offsets.end fin) (λ t. ack_rest (f id) offsets.start offsets.end fin)
  rest_sending (AckedOwn id offsets fin (Err e)) v s = idle None v (ap (λ (x : World). x.queue) s.2)
  rest_sending (LostOwn id offsets fin (Ok x)) v s = lost_so id offsets fin s.0 s.1 v (were_sent (u.out.halves id) offsets) refl s.2 s.3
  rest_sending (LostOwn id offsets fin (Err e)) v s = idle None v (ap (λ (x : World). x.queue) s.1)
  rest_sending (ResetAckedOwn id (Ok x)) v s = stay v (either-way (frees_reset u id) s
      (λ t. ap (λ (x : World). x.queue) t ∙ queue_freed (with_out u (with_send_half u.out id None)) id)
      (λ t. ap (λ (x : World). x.queue) t)) id WasResetAcked (λ t. let_go_rest (f id))
  rest_sending (ResetAckedOwn id (Err e)) v s = idle None v (ap (λ (x : World). x.queue) s.1)
  rest_sending (TookTurn most fair None) v s = passed_so v s
  rest_sending (TookTurn most fair (Some frame)) v s = carried_so most fair frame v s

-- ---- all is sent again

entries_stay : (q : ℕ) (w : SendOrder) (es : List Entry) → stands q (line w) ≡ true → stands q (line (with_entries_put w es)) ≡ true
entries_stay q w [] h = h
entries_stay q w (e ∷ es) h = entries_stay q (with_entry w e) es (entry_stays q w e h)

entries_stand : (q : ℕ) (w : SendOrder) (es : List Entry) → stands q es ≡ true → stands q (line (with_entries_put w es)) ≡ true
entries_stand q w [] h = cc
entries_stand q w (e ∷ es) h = by_cases (q == e.id)
    (λ t. entries_stay q (with_entry w e) es (ap (λ i. stands i (line (with_entry w e))) (same q e.id t) ∙ entry_stands w e))
    (λ n. entries_stand q (with_entry w e) es (or_rest (q == e.id) (stands q es) n h))
  where
    or_rest : (a b : Bool) → a ≡ false → (a || b) ≡ true → b ≡ true
    or_rest true b n h = cc
    or_rest false b n h = h

any_append : (p : ℕ → Bool) (xs ys : List ℕ) → list_any p (xs ++ ys) ≡ (list_any p xs || list_any p ys)
any_append p [] ys = refl
any_append p (x ∷ xs) ys = ap (λ b. p x || b) (any_append p xs ys) ∙ further (p x) (list_any p xs) (list_any p ys)
  where
    further : (a b c : Bool) → (a || (b || c)) ≡ ((a || b) || c)
    further true b c = refl
    further false b c = refl

first_has : (s : Side) (d : Dir) (n i : ℕ) → i < n → list_any (nat_eq (stream_id s d i)) (first_ids s d n) ≡ true
first_has s d zero i l = absurd (omega arith)
first_has s d (suc n) i l = any_append (nat_eq (stream_id s d i)) (first_ids s d n) (stream_id s d n ∷ []) ∙ by_cases (eqb i n)
    (λ t. ap (λ j. list_any (nat_eq (stream_id s d j)) (first_ids s d n) || (nat_eq (stream_id s d j) (stream_id s d n) || false)) (same i n t)
    ∙ or_right (list_any (nat_eq (stream_id s d n)) (first_ids s d n)) (nat_eq (stream_id s d n) (stream_id s d n) || false) (ap (λ b. b || false) (itself (stream_id s d n))))
    (λ m. let less : i < n = below i n l m in ap (λ b. b || (nat_eq (stream_id s d i) (stream_id s d n) || false)) (first_has s d n i less))
  where
    below : (i n : ℕ) → i < suc n → eqb i n ≡ false → i < n
    below i n l m = grind (arith, nat_tests)

id_parts : (s : Side) (q : ℕ) → is_local s q ≡ true → q ≡ stream_id s (dir_of q) (index_of q)
id_parts s q e = by s (q % 2 == 0) (q / 2 % 2 == 0) refl refl e
  where
    by : (s : Side) (b c : Bool) → (q % 2 == 0) ≡ b → (q / 2 % 2 == 0) ≡ c → are_one_end s (if b then Client else Server) ≡ true → q ≡ stream_id s (if c then Bi else Uni) (q / 4)
    by Client true true e k o = grind (arith, nat_tests)
    by Client true false e k o = grind (arith, nat_tests)
    by Client false c e k o = cc
    by Server true c e k o = cc
    by Server false true e k o = grind (arith, nat_tests)
    by Server false false e k o = grind (arith, nat_tests)

own_has : (o : Outgoing) (q : ℕ) → is_local o.side q ≡ true → nat_lt (index_of q) (own_of o (dir_of q)).opened ≡ true → list_any (nat_eq q) (own_ids o) ≡ true
own_has o q e l = ap (λ i. list_any (nat_eq i) (own_ids o)) (id_parts o.side q e) ∙ by (dir_of q) (index_of q) l
  where
    by : (d : Dir) (i : ℕ) → nat_lt i (own_of o d).opened ≡ true → list_any (nat_eq (stream_id o.side d i)) (own_ids o) ≡ true
    by Bi i l = let less : i < o.own_bi.opened = grind (arith, nat_tests) in
        any_append (nat_eq (stream_id o.side Bi i)) (first_ids o.side Bi o.own_bi.opened) (first_ids o.side Uni o.own_uni.opened)
        ∙ ap (λ b. b || list_any (nat_eq (stream_id o.side Bi i)) (first_ids o.side Uni o.own_uni.opened)) (first_has o.side Bi o.own_bi.opened i less)
    by Uni i l = let less : i < o.own_uni.opened = grind (arith, nat_tests) in
        any_append (nat_eq (stream_id o.side Uni i)) (first_ids o.side Bi o.own_bi.opened) (first_ids o.side Uni o.own_uni.opened)
        ∙ or_right (list_any (nat_eq (stream_id o.side Uni i)) (first_ids o.side Bi o.own_bi.opened)) _ (first_has o.side Uni o.own_uni.opened i less)

-- each of those streams is queued, or need not be
unsent_of : (o : Outgoing) (ids : List ℕ) (es : List Entry) → AreUnsentOf o ids es → (q : ℕ) → list_any (nat_eq q) ids ≡ true
    → (queue : Option ℤ) × QueuesUnsent (o.halves q) queue × ((p : ℤ) → queue ≡ Some p → stands q es ≡ true)
unsent_of o [] es a q h = cc
unsent_of o (id ∷ ids) es a q h = by_cases (nat_eq q id)
    (λ t. let e : q ≡ id = same q id t in
    (a.0, subst (λ i. QueuesUnsent (o.halves i) a.0) (sym e) a.1, λ p k. ap (stands q) a.4 ∙ ap (λ x. stands q (entry_at id x ++ a.2)) k ∙ ap (λ i. (q == i) || stands q a.2) (sym e) ∙ ap (λ b. b || stands q a.2) (itself q)))
    (λ n. let later = unsent_of o ids a.2 a.3 q (or_rest (nat_eq q id) (list_any (nat_eq q) ids) n h) in
    (later.0, later.1, λ p k. ap (stands q) a.4 ∙ behind a.0 (later.2 p k)))
  where
    or_rest : (a b : Bool) → a ≡ false → (a || b) ≡ true → b ≡ true
    or_rest true b n h = cc
    or_rest false b n h = h

    behind : (x : Option ℤ) → stands q a.2 ≡ true → stands q (entry_at id x ++ a.2) ≡ true
    behind None k = k
    behind (Some p) k = or_right (q == id) (stands q a.2) k

-- what is left then is what was written, and an end
unsent_rest : (t : SendFlow) → HasRest (with_unsent t) → (t.reset ≡ None) × (t.freed ≡ false) × ((0 < total_length t.cuts) ⊎ ((t.finished ≡ true) ⊎ (t.end_due ≡ true)))
unsent_rest t r = by t.reset refl
  where
    either : (a b : Bool) → (a || b) ≡ true → (b ≡ true) ⊎ (a ≡ true)
    either true b e = inr refl
    either false b e = inl e

    left : HasRest (record t { carried = λ n. false; sent_up_to = 0; missing = λ n. false; end_due = t.end_due || t.finished })
        → (t.reset ≡ None) × (t.freed ≡ false) × ((0 < total_length t.cuts) ⊎ ((t.finished ≡ true) ⊎ (t.end_due ≡ true)))
    left (a, b, inl x) = (a, b, inl (let l = x.1 in omega arith))
    left (a, b, inr (inl x)) = cc
    left (a, b, inr (inr e)) = (a, b, inr (either t.end_due t.finished e))

    by : (o : Option ℕ) → t.reset ≡ o → (t.reset ≡ None) × (t.freed ≡ false) × ((0 < total_length t.cuts) ⊎ ((t.finished ≡ true) ⊎ (t.end_due ≡ true)))
    by None e = left (subst (λ (b : Bool). HasRest (if b then record t { carried = λ n. false; sent_up_to = 0; missing = λ n. false; end_due = t.end_due || t.finished } else t)) (ap (λ (o : Option ℕ). is_none o) e) r)
    by (Some code) e = let x : HasRest t = subst (λ (b : Bool). HasRest (if b then record t { carried = λ n. false; sent_up_to = 0; missing = λ n. false; end_due = t.end_due || t.finished } else t)) (ap (λ (o : Option ℕ). is_none o) e) r in
        let k = sym e ∙ x.0 in cc

-- a stream on which something is left is open
left_open : (first : ℕ) (t : SendFlow) (k : Bool) (o : Option Send) → FlowAt first t k o → t.freed ≡ false → (0 < total_length t.cuts) ⊎ ((t.finished ≡ true) ⊎ (t.end_due ≡ true))
    → (s : Send) × (o ≡ Some s) × (k ≡ true) × FlowFrom t s
left_open first t true (Some s) f there some = (s, refl, refl, f)
left_open first t true None f there some = let k = sym there ∙ f in cc
left_open first t false (Some s) f there some = absurd f
left_open first t false None f there (inl x) = absurd (let l : 0 < 0 = subst (λ (y : SendFlow). 0 < total_length y.cuts) f x in omega arith)
left_open first t false None f there (inr (inl x)) = let k = sym (ap (λ (y : SendFlow). y.finished) f) ∙ x in cc
left_open first t false None f there (inr (inr x)) = let k = sym (ap (λ (y : SendFlow). y.end_due) f) ∙ x in cc

-- without data and without an end nothing but an end that was due before is left
no_content : (t : SendFlow) (s : Send) → FlowFrom t s → t.reset ≡ None → has_content s ≡ false → (0 < total_length t.cuts) ⊎ ((t.finished ≡ true) ⊎ (t.end_due ≡ true)) → t.end_due ≡ true
no_content t s f e none some =
    let open_now : is_reset_sent s.state ≡ false = ap is_reset_sent f.state ∙ reset_state t.reset t.finished t.end_acked ∙ ap (λ (o : Option ℕ). is_some o) e in
    let ended : is_data_sent s.state ≡ t.finished = ap is_data_sent f.state ∙ ap (λ (x : Option ℕ). is_data_sent (state_told x t.finished t.end_acked)) e ∙ sent_state t.finished t.end_acked in
    let parts = neither (is_reset_sent s.state) (nat_lt 0 s.pending.offset) (is_data_sent s.state) open_now none in
    by some parts.0 (sym ended ∙ parts.1)
  where
    neither : (a b c : Bool) → a ≡ false → (not a && (b || c)) ≡ false → (b ≡ false) × (c ≡ false)
    neither true b c e k = cc
    neither false true c e k = cc
    neither false false c e k = (refl, k)

    empty : nat_lt 0 s.pending.offset ≡ false → 0 < total_length t.cuts → ⊥
    empty n l = let w = f.cuts.written in let less : 0 < s.pending.offset = omega arith in let k : nat_lt 0 s.pending.offset ≡ true = grind (arith, nat_tests) in let j = sym n ∙ k in cc

    by : (0 < total_length t.cuts) ⊎ ((t.finished ≡ true) ⊎ (t.end_due ≡ true)) → nat_lt 0 s.pending.offset ≡ false → t.finished ≡ false → t.end_due ≡ true
    by (inl x) n m = absurd (empty n x)
    by (inr (inl x)) n m = let k = sym m ∙ x in cc
    by (inr (inr x)) n m = x

again_rest : (f : ℕ → SendFlow) (u : World) (es : List Entry) → AllFlows f u.out u.bi.max_remote → AreInQueue f u.queue → AreUnsentOf u.out (own_ids u.out) es
    → AreInQueue (λ q. if is_local u.out.side q then with_unsent (f q) else f q) (with_entries_put u.queue es)
again_rest f u es all r a q k = by (is_local u.out.side q) refl
  where
    queued : (s : Send) → u.out.halves q ≡ Some s → FlowFrom (f q) s → (f q).reset ≡ None → (f q).freed ≡ false → (0 < total_length (f q).cuts) ⊎ (((f q).finished ≡ true) ⊎ ((f q).end_due ≡ true))
        → (queue : Option ℤ) → QueuesUnsent (Some s) queue → ((p : ℤ) → queue ≡ Some p → stands q es ≡ true) → stands q (line (with_entries_put u.queue es)) ≡ true
    queued s held flow reset there some None (inl none) at = entries_stay q u.queue es (r q (reset, there, inr (inr (no_content (f q) s flow reset none some))))
    queued s held flow reset there some None (inr more) at =
        let open_now : is_reset_sent s.state ≡ false = ap is_reset_sent flow.state ∙ reset_state (f q).reset (f q).finished (f q).end_acked ∙ ap (λ (o : Option ℕ). is_some o) reset in
        entries_stay q u.queue es (r q (is_pending (f q) s flow open_now more))
    queued s held flow reset there some (Some p) c at = entries_stand q u.queue es (at p refl)

    own : is_local u.out.side q ≡ true → HasRest (with_unsent (f q)) → stands q (line (with_entries_put u.queue es)) ≡ true
    own e x =
        let left = unsent_rest (f q) x in
        let half = left_open _ (f q) (has_side_in u.out u.bi.max_remote q) (u.out.halves q) (all q) left.1 left.2 in
        let opened : nat_lt (index_of q) (own_of u.out (dir_of q)).opened ≡ true =
        sym (ap (λ b. if b then nat_lt (index_of q) (own_of u.out (dir_of q)).opened else is_answered_on (dir_of q) u.bi.max_remote (index_of q)) e) ∙ half.2 in
        let entry = unsent_of u.out (own_ids u.out) es a q (own_has u.out q e opened) in
        queued half.0 half.1 half.3 left.0 left.1 left.2 entry.0 (subst (λ (o : Option Send). QueuesUnsent o entry.0) half.1 entry.1) entry.2

    by : (b : Bool) → is_local u.out.side q ≡ b → stands q (line (with_entries_put u.queue es)) ≡ true
    by true e = own e (subst (λ (b : Bool). HasRest (if b then with_unsent (f q) else f q)) e k)
    by false e = entries_stay q u.queue es (r q (subst (λ (b : Bool). HasRest (if b then with_unsent (f q) else f q)) e k))

-- ---- every call

pub kept-rest : (m : Made) (h : List Event) (u : World) (e : Event) (v : World) → u.credit.local_max_data < 2 ^ 64 → u.out.side ≡ m.side → SentSo (since h) (send_totals u.out) → FlowsSo m h u → AreInQueue (flow m h) u.queue → Step u e v
    → AreInQueue (flow m (e ∷ h)) v.queue
kept-rest m h u (Sending e) v fits side sent f r s =
    let kept = f.retained in
    rest_sending m.side (has_send_side m.side (opened_in_all (since h)) (send_tale m h).may_open) (flow m h) u (known-by m h u side f.may_open sent) f.flows side (λ q. let k = few-retained m h q in omega arith) r e v s
kept-rest m h u (Received id offset bytes fin answer) v fits side sent f r s = let w = firmly h u (Received id offset bytes fin answer) v fits refl s in λ q k. ap (λ (x : SendOrder). stands q (line x)) w.queue ∙ r q k
kept-rest m h u (ReceivedReset id code final answer) v fits side sent f r s = let w = firmly h u (ReceivedReset id code final answer) v fits refl s in λ q k. ap (λ (x : SendOrder). stands q (line x)) w.queue ∙ r q k
kept-rest m h u (AddedCredits count answer) v fits side sent f r s = let w = firmly h u (AddedCredits count answer) v fits refl s in λ q k. ap (λ (x : SendOrder). stands q (line x)) w.queue ∙ r q k
kept-rest m h u (Began id ordered answer) v fits side sent f r s = let w = firmly h u (Began id ordered answer) v fits refl s in λ q k. ap (λ (x : SendOrder). stands q (line x)) w.queue ∙ r q k
kept-rest m h u (Gave id most ordered answer) v fits side sent f r s = let w = firmly h u (Gave id most ordered answer) v fits refl s in λ q k. ap (λ (x : SendOrder). stands q (line x)) w.queue ∙ r q k
kept-rest m h u (Ended id count) v fits side sent f r s = let w = firmly h u (Ended id count) v fits refl s in λ q k. ap (λ (x : SendOrder). stands q (line x)) w.queue ∙ r q k
kept-rest m h u (Stopped id code answer) v fits side sent f r s = let w = firmly h u (Stopped id code answer) v fits refl s in λ q k. ap (λ (x : SendOrder). stands q (line x)) w.queue ∙ r q k
kept-rest m h u (ToldReset id answer) v fits side sent f r s = let w = firmly h u (ToldReset id answer) v fits refl s in λ q k. ap (λ (x : SendOrder). stands q (line x)) w.queue ∙ r q k
kept-rest m h u (Resized size answer) v fits side sent f r s = let w = firmly h u (Resized size answer) v fits refl s in λ q k. ap (λ (x : SendOrder). stands q (line x)) w.queue ∙ r q k
kept-rest m h u (SetConcurrent dir count (Ok j)) v fits side sent f r s = let w = firmly h u (SetConcurrent dir count (Ok j)) v fits refl s in λ q k. ap (λ (x : SendOrder). stands q (line x)) w.queue ∙ r q k
kept-rest m h u (SetConcurrent dir count (Err j)) v fits side sent f r s = let w = firmly h u (SetConcurrent dir count (Err j)) v fits refl s in λ q k. ap (λ (x : SendOrder). stands q (line x)) w.queue ∙ r q k
kept-rest m h u (Accepted dir answer) v fits side sent f r s = let w = firmly h u (Accepted dir answer) v fits refl s in λ q k. ap (λ (x : SendOrder). stands q (line x)) w.queue ∙ r q k
kept-rest m h u (LeftPending kind frame) v fits side sent f r s = let w = firmly h u (LeftPending kind frame) v fits refl s in λ q k. ap (λ (x : SendOrder). stands q (line x)) w.queue ∙ r q k
kept-rest m h u Rejected v fits side sent f r s = λ q k. absurd (absent_rest 0 (new_flow 0) false None refl refl k)
kept-rest m h u (SentAgain (Ok x)) v fits side sent f r s =
    let queue : v.queue ≡ with_entries_put u.queue s.1.0 = ap (λ (w : World). w.queue) s.1.2 in
    subst (λ (k : SendOrder). AreInQueue (flow m (SentAgain (Ok x) ∷ h)) k) (sym queue)
    (subst (λ (j : Side). AreInQueue (λ q. if is_local j q then with_unsent (flow m h q) else flow m h q) (with_entries_put u.queue s.1.0)) side (again_rest (flow m h) u s.1.0 f.flows r s.1.1))
kept-rest m h u (SentAgain (Err x)) v fits side sent f r s = λ q k. ap (λ (w : World). stands q (line w.queue)) s.1 ∙ r q k

-- nothing is left at first
pub rest-start : (m : Made) (w : SendOrder) → AreInQueue (flow m []) w
rest-start m w q r = absurd (absent_rest 0 (new_flow 0) false None refl refl r)
