-- What a history says of what an end sent and opened.
use Rattle.std.proofs.Common.{◌≡◌, ℕ, Bool, true, false, List, [], ◌∷◌, Option, Some, None, Result, Ok, Err, refl, sym, ap, ◌∙◌, subst, inl, inr, arith, ◌+◌, ◌-◌, ◌<◌, ◌≤◌}
use Rattle.std.specs.declared.ops.Range.{Range}
use Rattle.std.specs.Prelude.{max, min, ◌^◌, ◌++◌, ℤ, ◌&&◌, nat_lt, if◌then◌else◌}
use Rattle.std.proofs.lemmas.Bool.Decides.{nat_tests}
use Rattle.quic_values.specs.declared.memory.OutOfMemory.{OutOfMemory}
use Rattle.quic_values.specs.declared.ids.Dir.{Dir}
use Rattle.quic_values.specs.declared.ids.Dir.TheVariants.{Bi, Uni}
use Rattle.quic_wire.specs.declared.event.StreamEvent.{StreamEvent}
use Rattle.quic_wire.specs.declared.event.StreamEvent.TheVariants as stream_event
use Rattle.quic_wire.specs.declared.error.ReceiveError.{ReceiveError}
use Rattle.quic_wire.specs.declared.error.ReceiveError.TheVariants as receive_error
use Rattle.quic_limits.specs.Own.{Own, no_own, with_next_own, with_count}
use Rattle.quic_limits.specs.SendingCredit.{SendingCredit, with_blocked, is_blocked_due}
use Rattle.quic_sending.specs.declared.send.Send.{Send}
use Rattle.quic_sending.specs.Sending.{stream_room}
use Rattle.quic_sending.specs.Buffer.{total_length}
use Rattle.quic_sending.specs.declared.send.Written.{Written}
use Rattle.quic_sending.specs.declared.send.WriteError.{WriteError}
use Rattle.quic_sending.specs.declared.send.WriteError.TheVariants as write_error
use Rattle.quic_sending.specs.declared.send.FinishError.{FinishError}
use Rattle.quic_sending.specs.declared.errors.HandleError.{HandleError}
use Rattle.quic_sending.specs.declared.errors.HandleError.TheVariants as handle_error
use Rattle.quic_retransmits.specs.Pending.{Pending}
use Rattle.quic_outgoing.specs.declared.limits.PeerLimits.{PeerLimits}
use Rattle.quic_outgoing.specs.History.{count_in, given_for}
use Rattle.quic_outgoing.specs.Outgoing.{with_params, Outgoing, own_of, with_own, with_send_half, waiting, marked, is_stuck, fresh_sender}
use Rattle.quic_outgoing.specs.Calls.{PollsWritable, ResetsStream, SetsPriority, after_rise, with_rise, is_woken, with_stop_reason}
use Rattle.quic_outgoing.specs.Writing.{RefusesWrite, after_blocked}
use Rattle.quic_history.specs.World.{World, told, noticed}
use Rattle.quic_history.specs.Sends.{with_out, with_opened, told_writable, after_first_stop, is_permitted, RaisesLimit, StopsOwn, TellsNext, PollsQueue}
use Rattle.quic_history.specs.Writes.{WritesOwn, FinishesOwn, with_queued}
use Rattle.quic_history.specs.SendEvents.{SendEvent, SendStep, GaveLimits, OpenedOwn, RaisedData, RaisedCount, RaisedLimit, StoppedOwn, SetWindow, Polled, WroteOwn, FinishedOwn, ResetOwn, SetOwnPriority, AckedOwn, LostOwn, ResetAckedOwn, TookTurn}
use Rattle.quic_wire.specs.declared.frame.StreamMeta.{StreamMeta}
use Rattle.quic_writing.specs.Writer.{Writer}
use Rattle.quic_history.specs.Carrying.{TakesItsTurn}
use Rattle.quic_outgoing.specs.Acknowledging.{were_sent}
use Rattle.quic_history.specs.Acknowledged.{AcksOwn, LosesOwn, AcksReset, told_finished, with_send_freed, frees_reset}
use Rattle.quic_history.proofs.SendFreed.{steady-send-freed}
use Rattle.quic_history.specs.SendTotals.{SendTotals, send_totals, own_total}
use Rattle.quic_history.specs.History.{Event, Received, ReceivedReset, AddedCredits, Began, Gave, Ended, Stopped, ToldReset, Resized, SetConcurrent, Accepted, LeftPending, Sending, Rejected, SentAgain, with_call, Step, SentSo, taken_in_all, greatest_limit, greatest_count, opened_in_all, taken_by, limit_by, count_by, opens_by}
use Rattle.quic_history.proofs.Limits.{firmly}
use Rattle.quic_history.proofs.SendSteps.{either-way}
use Rattle.quic_history.proofs.StreamSteps.{steady-noticed}
use Rattle.quic_outgoing.specs.Params.{as_waiting, with_waiting, with_woken, own_woken}

-- ---- calls that leave the totals

abbrev Keeps : Outgoing → Outgoing → Type 0
Keeps a b = send_totals b ≡ send_totals a

waits : (a : Outgoing) (id : ℕ) (t : Send) → Keeps a (waiting a id t)
waits a id t = by_mark t.connection_blocked
  where
    by_mark : (b : Bool) → Keeps a (if b then with_send_half a id (Some t) else record (with_send_half a id (Some (marked true t))) { blocked = a.blocked ++ id ∷ [] })
    by_mark true = refl
    by_mark false = refl

keeps_as : (a : Outgoing) (id : ℕ) (o : Option Send) → Keeps a (as_waiting a id o)
keeps_as a id None = refl
keeps_as a id (Some s) = waits a id s

keeps_waiting : (a : Outgoing) (ids : List ℕ) → Keeps a (with_waiting a ids)
keeps_waiting a [] = refl
keeps_waiting a (id ∷ ids) = keeps_waiting (as_waiting a id (a.halves id)) ids ∙ keeps_as a id (a.halves id)

keeps_woken : (a : Outgoing) (p : PeerLimits) → Keeps a (with_woken a p)
keeps_woken a p = by_stuck (is_stuck (with_params a p))
  where
    by_stuck : (b : Bool) → Keeps a (if b then with_waiting a (own_woken a p) else a)
    by_stuck true = keeps_waiting a (own_woken a p)
    by_stuck false = refl

keeps_if : (a b c : Outgoing) (k : Bool) → Keeps a b → Keeps a c → Keeps a (if k then b else c)
keeps_if a b c true s t = s
keeps_if a b c false s t = t

keeps_rise : (a : Outgoing) (id n : ℕ) (o : Option Send) → Keeps a (after_rise a id n o)
keeps_rise a id n None = refl
keeps_rise a id n (Some s) = keeps_if a (waiting a id (with_rise s n)) (with_send_half a id (Some (with_rise s n))) (is_woken s n && is_stuck a) (waits a id (with_rise s n)) refl

keeps_stop : (a : Outgoing) (id code : ℕ) (o : Option Send) → Keeps a (with_stop_reason a id code o)
keeps_stop a id code None = refl
keeps_stop a id code (Some s) = refl

keeps_polls : (a : Outgoing) (answer : Option ℕ) (b : Outgoing) → PollsWritable a answer b → Keeps a b
keeps_polls a None b s = either-way (is_stuck a) s (λ t. ap send_totals t) (λ t. ap send_totals t.1)
keeps_polls a (Some id) b s = ap send_totals s.6

blocked_sent : (c : SendingCredit) (b : Bool) → (if b then record c { blocked_at = Some c.max_data } else c).data_sent ≡ c.data_sent
blocked_sent c true = refl
blocked_sent c false = refl

blocked_max : (c : SendingCredit) (b : Bool) → (if b then record c { blocked_at = Some c.max_data } else c).max_data ≡ c.max_data
blocked_max c true = refl
blocked_max c false = refl

keeps_noted : (a b : Outgoing) → Keeps a b → Keeps a (record b { budget = with_blocked a.budget })
keeps_noted a b k =
    ap (λ n. record { data_sent = n; max_data = (with_blocked a.budget).max_data; own_bi = b.own_bi; own_uni = b.own_uni }) (blocked_sent a.budget (is_blocked_due a.budget))
    ∙ ap (λ n. record { data_sent = a.budget.data_sent; max_data = n; own_bi = b.own_bi; own_uni = b.own_uni }) (blocked_max a.budget (is_blocked_due a.budget))
    ∙ ap (λ (x : SendTotals). record { data_sent = a.budget.data_sent; max_data = a.budget.max_data; own_bi = x.own_bi; own_uni = x.own_uni }) k

keeps_blocked : (a : Outgoing) (id : ℕ) (o : Option Send) → Keeps a (after_blocked a id o)
keeps_blocked a id None = refl
keeps_blocked a id (Some s) = keeps_if a (record (waiting a id s) { budget = with_blocked a.budget }) (with_send_half a id (Some (record s { data_blocked_limit = Some s.max_data }))) (is_stuck a)
    (keeps_noted a (waiting a id s) (waits a id s)) refl

keeps_refused : (a : Outgoing) (id : ℕ) (p : Pending) (e : WriteError) (b : Outgoing) (q : Pending) → RefusesWrite a id p e b q → Keeps a b
keeps_refused a id p write_error.Blocked b q s = ap send_totals s.1 ∙ keeps_blocked a id (a.halves id)
keeps_refused a id p (write_error.Stopped code) b q s = ap send_totals s.1
keeps_refused a id p write_error.ClosedStream b q s = ap send_totals s.1
keeps_refused a id p write_error.OutOfMemory b q s = ap send_totals s.0

keeps_reset : (a : Outgoing) (id code : ℕ) (p : Pending) (answer : Result (Unit {0}) HandleError) (b : Outgoing) (q : Pending) → ResetsStream a id code p answer b q → Keeps a b
keeps_reset a id code p (Ok x) b q s = ap send_totals s.3
keeps_reset a id code p (Err handle_error.ClosedStream) b q s = ap send_totals s.1
keeps_reset a id code p (Err handle_error.OutOfMemory) b q s = ap send_totals s.0

keeps_priority : (a : Outgoing) (id : ℕ) (n : ℤ) (answer : Result (Unit {0}) HandleError) (b : Outgoing) → SetsPriority a id n answer b → Keeps a b
keeps_priority a id n (Ok x) b s = ap send_totals s.2
keeps_priority a id n (Err handle_error.ClosedStream) b s = ap send_totals s.1
keeps_priority a id n (Err handle_error.OutOfMemory) b s = ap send_totals s

-- the same of an end
abbrev Same : World → World → Type 0
Same u v = send_totals v.out ≡ send_totals u.out

same_at : (u v : World) → v ≡ u → Same u v
same_at u v e = ap (λ w. send_totals w.out) e

same_noticed : (u : World) (id : ℕ) → Same u (noticed u id false)
same_noticed u id = ap (λ s. s.send_totals) (steady-noticed u id false)

same_writable : (u : World) (id : ℕ) (b : Bool) → Same u (told_writable u id b)
same_writable u id true = refl
same_writable u id false = refl

same_queued : (u : World) (id : ℕ) (o : Option ℤ) → Same u (with_queued u id o)
same_queued u id None = refl
same_queued u id (Some priority) = refl

same_limit : (u : World) (id n : ℕ) (answer : Result (Unit {0}) ReceiveError) (v : World) → RaisesLimit u id n answer v → Same u v
same_limit u id n (Ok x) v s =
    let w = with_out u s.2 in
    let t = told_writable w id s.1 in
    same_at (noticed t id false) v s.4 ∙ same_noticed t id ∙ same_writable w id s.1 ∙ ap send_totals s.3.1 ∙ keeps_rise u.out id n (u.out.halves id)
same_limit u id n (Err (receive_error.Transport error)) v s = same_at u v s.1
same_limit u id n (Err receive_error.CompactionMemory) v s = absurd s
same_limit u id n (Err receive_error.OutOfMemory) v s = same_at u v s

same_first_stop : (u : World) (id code : ℕ) (b : Bool) → Same u (after_first_stop u id code b)
same_first_stop u id code true = same_noticed (told u (stream_event.Stopped id code)) id
same_first_stop u id code false = refl

same_stop : (u : World) (id code : ℕ) (answer : Result (Unit {0}) OutOfMemory) (v : World) → StopsOwn u id code answer v → Same u v
same_stop u id code (Ok x) v s = either-way (is_permitted u id) s
    (λ t. same_at (after_first_stop (with_out u t.1) id code t.0) v t.3 ∙ same_first_stop (with_out u t.1) id code t.0 ∙ ap send_totals t.2.1 ∙ keeps_stop u.out id code (u.out.halves id))
    (λ t. same_at u v t)
same_stop u id code (Err e) v s = same_at u v s

same_queue : (u w : World) (writable : Option ℕ) (answer : Option StreamEvent) (v : World) → Same u w → PollsQueue w writable answer v → Same u v
same_queue u w (Some id) answer v s p = same_at w v p.1 ∙ s
same_queue u w None answer v s p = ap (λ x. send_totals x.out) p.2 ∙ s

same_polls : (u : World) (answer : Option StreamEvent) (v : World) → TellsNext u answer v → Same u v
same_polls u answer v s = either-way u.bi.opened s
    (λ t. ap (λ x. send_totals x.out) t.1)
    (λ t. either-way u.uni.opened t
    (λ r. ap (λ x. send_totals x.out) r.1)
    (λ p. same_queue u (with_out u p.1) p.0 answer v (keeps_polls u.out p.0 p.1 p.2) p.3))

same_refused : (u : World) (id : ℕ) (lists : List (List ℕ)) (closed : Bool) (p : Pending) (e : WriteError) (v : World) (left : List (List ℕ)) (q : Pending) → WritesOwn u id lists closed p (Err e) v left q → Same u v
same_refused u id lists closed p e v left q (inl s) = same_at u v s.2
same_refused u id lists closed p e v left q (inr s) = ap (λ x. send_totals x.out) s.3 ∙ keeps_refused u.out id p e s.1 q s.2.1

same_finish : (u : World) (id : ℕ) (answer : Result (Unit {0}) FinishError) (v : World) → FinishesOwn u id answer v → Same u v
same_finish u id (Ok x) v s = ap (λ x. send_totals x.out) s.3 ∙ same_queued (with_out u s.1) id s.0 ∙ ap send_totals s.2.4
same_finish u id (Err e) v s = ap (λ x. send_totals x.out) s.2 ∙ ap send_totals s.1.1

same_freed : (u : World) (id : ℕ) → Same u (with_send_freed u id)
same_freed u id = ap (λ s. s.send_totals) (steady-send-freed u id)

same_finished : (u : World) (id : ℕ) (done : Bool) → Same u (told_finished u id done)
same_finished u id true = same_freed u id
same_finished u id false = refl

same_ack : (u : World) (id : ℕ) (offsets : Range ℕ) (fin : Bool) (answer : Result (Unit {0}) OutOfMemory) (v : World) → AcksOwn u id offsets fin answer v → Same u v
same_ack u id offsets fin (Ok x) v s = either-way (is_permitted u id) s
    (λ t. same_at (told_finished (with_out u t.1) id t.0) v t.3 ∙ same_finished (with_out u t.1) id t.0
    ∙ either-way (were_sent (u.out.halves id) offsets) t.2 (λ a. ap send_totals a.is) (λ n. ap send_totals n.1))
    (λ t. same_at u v t)
same_ack u id offsets fin (Err e) v s = same_at u v s.2

same_loss : (u : World) (id : ℕ) (offsets : Range ℕ) (fin : Bool) (answer : Result (Unit {0}) OutOfMemory) (v : World) → LosesOwn u id offsets fin answer v → Same u v
same_loss u id offsets fin (Ok x) v s = same_at (with_queued (with_out u s.1) id s.0) v s.3 ∙ same_queued (with_out u s.1) id s.0
    ∙ either-way (were_sent (u.out.halves id) offsets) s.2 (λ l. ap send_totals l.is) (λ n. ap send_totals n.1)
same_loss u id offsets fin (Err e) v s = same_at u v s.1

same_reset : (u : World) (id : ℕ) (answer : Result (Unit {0}) OutOfMemory) (v : World) → AcksReset u id answer v → Same u v
same_reset u id (Ok x) v s = either-way (frees_reset u id) s
    (λ t. let w = with_out u (with_send_half u.out id None) in same_at (with_send_freed w id) v t ∙ same_freed w id)
    (λ t. same_at u v t)
same_reset u id (Err e) v s = same_at u v s.1

-- ---- what a history says

module _ (h : List Event) (a : SendTotals) (s : SentSo h a) where
  -- a call that leaves the totals
  sent_same : (e : Event) (b : SendTotals) → b ≡ a → taken_by e ≡ 0 → limit_by e ≡ 0 → ((d : Dir) → count_by e d ≡ 0) → ((d : Dir) → opens_by e d ≡ 0) → SentSo (e ∷ h) b
  sent_same e b is t l c o =
      let P : SendTotals → Type 0 = λ x. SentSo (e ∷ h) x in
      let taken = s.taken in
      let limit = s.limit in
      let within = s.within in
      subst P (sym is) (record {
        taken = omega arith;
        limit = let k : a.max_data ≡ max (greatest_limit h) (limit_by e) = omega arith in k;
        within = let k : taken_in_all h + taken_by e ≤ max (greatest_limit h) (limit_by e) = omega arith in k;
        opened = λ d. let x = s.opened d in let y = o d in omega arith;
        counted = λ d. let x = s.counted d in let y = c d in let k : (own_total a d).limit ≡ max (greatest_count h d) (count_by e d) = omega arith in k;
        few = λ d. let x = s.few d in let y = c d in let z = o d in let k : opened_in_all h d + opens_by e d ≤ max (greatest_count h d) (count_by e d) = omega arith in k;
      })

  -- a limit of the connection
  sent_limit : (limit : ℕ) → SentSo (Sending (RaisedData limit) ∷ h) (record a { max_data = max a.max_data limit })
  sent_limit limit =
      let within = s.within in
      record {
        taken = let t = s.taken in omega arith;
        limit = ap (λ n. max n limit) s.limit;
        within = let k : taken_in_all h + 0 ≤ max (greatest_limit h) limit = omega arith in k;
        opened = λ d. let x = s.opened d in omega arith;
        counted = λ d. let x = s.counted d in let k : (own_total a d).limit ≡ max (greatest_count h d) 0 = omega arith in k;
        few = λ d. let x = s.few d in let k : opened_in_all h d + 0 ≤ max (greatest_count h d) 0 = omega arith in k;
      }

abbrev with_account : SendTotals → Dir → Own → SendTotals
with_account a Bi o = record a { own_bi = o }
with_account a Uni o = record a { own_uni = o }

abbrev with_limits : SendTotals → PeerLimits → SendTotals
with_limits a limits = record {
  data_sent = a.data_sent;
  max_data = max a.max_data limits.initial_max_data;
  own_bi = with_count a.own_bi limits.initial_max_streams_bidi;
  own_uni = with_count a.own_uni limits.initial_max_streams_uni;
}

limits_opened : (h : List Event) (a : SendTotals) (s : SentSo h a) (limits : PeerLimits) (d : Dir) → (own_total (with_limits a limits) d).opened ≡ opened_in_all h d + 0
limits_opened h a s limits Bi = let x = s.opened Bi in omega arith
limits_opened h a s limits Uni = let x = s.opened Uni in omega arith

limits_counted : (h : List Event) (a : SendTotals) (s : SentSo h a) (limits : PeerLimits) (d : Dir) → (own_total (with_limits a limits) d).limit ≡ max (greatest_count h d) (min (count_in limits d) (2 ^ 60))
limits_counted h a s limits Bi = ap (λ n. max n (min limits.initial_max_streams_bidi (2 ^ 60))) (s.counted Bi)
limits_counted h a s limits Uni = ap (λ n. max n (min limits.initial_max_streams_uni (2 ^ 60))) (s.counted Uni)

sent_limits : (h : List Event) (a : SendTotals) (s : SentSo h a) (limits : PeerLimits) → SentSo (Sending (GaveLimits limits (Ok tt)) ∷ h) (with_limits a limits)
sent_limits h a s limits =
    let within = s.within in
    record {
      taken = let t = s.taken in omega arith;
      limit = ap (λ n. max n limits.initial_max_data) s.limit;
      within = let k : taken_in_all h + 0 ≤ max (greatest_limit h) limits.initial_max_data = omega arith in k;
      opened = limits_opened h a s limits;
      counted = limits_counted h a s limits;
      few = λ d. let x = s.few d in let k : opened_in_all h d + 0 ≤ max (greatest_count h d) (min (count_in limits d) (2 ^ 60)) = omega arith in k;
    }

-- the peer gave a count of streams
count_opened : (h : List Event) (a : SendTotals) (s : SentSo h a) (dir : Dir) (count : ℕ) (d : Dir) → (own_total (with_account a dir (with_count (own_total a dir) count)) d).opened ≡ opened_in_all h d + 0
count_opened h a s Bi count Bi = let x = s.opened Bi in omega arith
count_opened h a s Bi count Uni = let x = s.opened Uni in omega arith
count_opened h a s Uni count Bi = let x = s.opened Bi in omega arith
count_opened h a s Uni count Uni = let x = s.opened Uni in omega arith

no_more : (n : ℕ) → n ≡ max n (min 0 (2 ^ 60))
no_more n = omega arith

count_counted : (h : List Event) (a : SendTotals) (s : SentSo h a) (dir : Dir) (count : ℕ) (d : Dir) → (own_total (with_account a dir (with_count (own_total a dir) count)) d).limit ≡ max (greatest_count h d) (min (given_for dir d count) (2 ^ 60))
count_counted h a s Bi count Bi = ap (λ n. max n (min count (2 ^ 60))) (s.counted Bi)
count_counted h a s Bi count Uni = s.counted Uni ∙ no_more (greatest_count h Uni)
count_counted h a s Uni count Bi = s.counted Bi ∙ no_more (greatest_count h Bi)
count_counted h a s Uni count Uni = ap (λ n. max n (min count (2 ^ 60))) (s.counted Uni)

account_sent : (a : SendTotals) (d : Dir) (o : Own) → (with_account a d o).data_sent ≡ a.data_sent
account_sent a Bi o = refl
account_sent a Uni o = refl

account_max : (a : SendTotals) (d : Dir) (o : Own) → (with_account a d o).max_data ≡ a.max_data
account_max a Bi o = refl
account_max a Uni o = refl

sent_count : (h : List Event) (a : SendTotals) (s : SentSo h a) (dir : Dir) (count : ℕ) (x : Unit {0}) → SentSo (Sending (RaisedCount dir count (Ok x)) ∷ h) (with_account a dir (with_count (own_total a dir) count))
sent_count h a s dir count x =
    let within = s.within in
    let sent = account_sent a dir (with_count (own_total a dir) count) in
    let most = account_max a dir (with_count (own_total a dir) count) in
    record {
      taken = let t = s.taken in omega arith;
      limit = let l = s.limit in let k : (with_account a dir (with_count (own_total a dir) count)).max_data ≡ max (greatest_limit h) 0 = omega arith in k;
      within = let k : taken_in_all h + 0 ≤ max (greatest_limit h) 0 = omega arith in k;
      opened = count_opened h a s dir count;
      counted = count_counted h a s dir count;
      few = λ d. let y = s.few d in let k : opened_in_all h d + 0 ≤ max (greatest_count h d) (min (given_for dir d count) (2 ^ 60)) = omega arith in k;
    }

-- a stream was opened
abbrev one_opened : SendTotals → Dir → SendTotals
one_opened a d = with_account a d (record (own_total a d) { opened = (own_total a d).opened + 1 })

one_more : (h : List Event) (a : SendTotals) (s : SentSo h a) (dir d : Dir) → (own_total (one_opened a dir) d).opened ≡ opened_in_all h d + given_for dir d 1
one_more h a s Bi Bi = let x = s.opened Bi in omega arith
one_more h a s Bi Uni = let x = s.opened Uni in omega arith
one_more h a s Uni Bi = let x = s.opened Bi in omega arith
one_more h a s Uni Uni = let x = s.opened Uni in omega arith

one_limit : (h : List Event) (a : SendTotals) (s : SentSo h a) (dir d : Dir) → (own_total (one_opened a dir) d).limit ≡ max (greatest_count h d) 0
one_limit h a s Bi Bi = let x = s.counted Bi in omega arith
one_limit h a s Bi Uni = let x = s.counted Uni in omega arith
one_limit h a s Uni Bi = let x = s.counted Bi in omega arith
one_limit h a s Uni Uni = let x = s.counted Uni in omega arith

one_few : (h : List Event) (a : SendTotals) (s : SentSo h a) (dir d : Dir) → (own_total a dir).opened < (own_total a dir).limit → opened_in_all h d + given_for dir d 1 ≤ max (greatest_count h d) 0
one_few h a s Bi Bi l = let x = s.opened Bi in let y = s.counted Bi in omega arith
one_few h a s Bi Uni l = let x = s.few Uni in omega arith
one_few h a s Uni Bi l = let x = s.few Bi in omega arith
one_few h a s Uni Uni l = let x = s.opened Uni in let y = s.counted Uni in omega arith

sent_opened : (h : List Event) (a : SendTotals) (s : SentSo h a) (dir : Dir) (closed : Bool) (id : ℕ) → (own_total a dir).opened < (own_total a dir).limit
    → SentSo (Sending (OpenedOwn dir closed (Ok (Some id))) ∷ h) (one_opened a dir)
sent_opened h a s dir closed id l =
    let within = s.within in
    let sent = account_sent a dir (record (own_total a dir) { opened = (own_total a dir).opened + 1 }) in
    let most = account_max a dir (record (own_total a dir) { opened = (own_total a dir).opened + 1 }) in
    record {
      taken = let t = s.taken in omega arith;
      limit = let m = s.limit in let k : (one_opened a dir).max_data ≡ max (greatest_limit h) 0 = omega arith in k;
      within = let k : taken_in_all h + 0 ≤ max (greatest_limit h) 0 = omega arith in k;
      opened = one_more h a s dir;
      counted = one_limit h a s dir;
      few = λ d. one_few h a s dir d l;
    }

-- bytes were written
sent_wrote : (h : List Event) (a : SendTotals) (s : SentSo h a) (id : ℕ) (lists : List (List ℕ)) (closed : Bool) (written : Written) → written.bytes ≤ a.max_data - a.data_sent
    → SentSo (Sending (WroteOwn id lists closed (Ok written)) ∷ h) (record a { data_sent = a.data_sent + written.bytes })
sent_wrote h a s id lists closed written l =
    let within = s.within in
    let taken = s.taken in
    let limit = s.limit in
    record {
      taken = ap (λ n. n + written.bytes) s.taken;
      limit = let k : a.max_data ≡ max (greatest_limit h) 0 = omega arith in k;
      within = let k : taken_in_all h + written.bytes ≤ max (greatest_limit h) 0 = omega arith in k;
      opened = λ d. let x = s.opened d in omega arith;
      counted = λ d. let x = s.counted d in let k : (own_total a d).limit ≡ max (greatest_count h d) 0 = omega arith in k;
      few = λ d. let x = s.few d in let k : opened_in_all h d + 0 ≤ max (greatest_count h d) 0 = omega arith in k;
    }

-- ---- every call

sent_is : (h : List Event) (a b : SendTotals) → b ≡ a → SentSo h a → SentSo h b
sent_is h a b e s = let P : SendTotals → Type 0 = λ x. SentSo h x in subst P (sym e) s

next_is : (o : Own) → o.opened < o.limit → with_next_own o ≡ record o { opened = o.opened + 1 }
next_is o l = let t : nat_lt o.opened o.limit ≡ true = grind (arith, nat_tests) in rw t refl

accounts_opened : (u : World) (d : Dir) (id : ℕ) (o : Outgoing) → send_totals (with_opened u d id o).out ≡ send_totals o
accounts_opened u Bi id o = refl
accounts_opened u Uni id o = refl

opening_accounts : (a : Outgoing) (d : Dir) (id : ℕ) (f : Option Send) → (own_of a d).opened < (own_of a d).limit
    → send_totals (with_send_half (with_own a d (with_next_own (own_of a d))) id f) ≡ one_opened (send_totals a) d
opening_accounts a Bi id f l = ap (λ k. record (send_totals a) { own_bi = k }) (next_is a.own_bi l)
opening_accounts a Uni id f l = ap (λ k. record (send_totals a) { own_uni = k }) (next_is a.own_uni l)

room_of : (a : Outgoing) (d : Dir) → (own_of a d).opened < (own_of a d).limit → (own_total (send_totals a) d).opened < (own_total (send_totals a) d).limit
room_of a Bi l = l
room_of a Uni l = l

count_accounts : (a : Outgoing) (d : Dir) (n : ℕ) → send_totals (with_own a d (with_count (own_of a d) n)) ≡ with_account (send_totals a) d (with_count (own_total (send_totals a) d) n)
count_accounts a Bi n = refl
count_accounts a Uni n = refl

told_accounts : (w : World) (e : StreamEvent) (b : Bool) → send_totals (if b then told w e else w).out ≡ send_totals w.out
told_accounts w e true = refl
told_accounts w e false = refl

least_room : (b m k r n : ℕ) → b ≡ min (min (min m k) r) n → b ≤ m
least_room b m k r n e = omega arith

-- a turn of the send queue sends nothing that was not written
same_turn : (u : World) (most : ℕ) (fair : Bool) (frame : Option StreamMeta) (v : World) → TakesItsTurn most fair u frame v → send_totals v.out ≡ send_totals u.out
same_turn u most fair None v s =
    let found : u.out ≡ s.before.streams = ap (λ (w : World). w.out) s.found in
    let same : s.after.streams ≡ s.before.streams = ap (λ (x : Writer). x.streams) s.turn.is in
    ap (λ (w : World). send_totals w.out) s.is ∙ ap send_totals (same ∙ sym found)
same_turn u most fair (Some frame) v s =
    let found : u.out ≡ s.before.streams = ap (λ (w : World). w.out) s.found in
    ap (λ (w : World). send_totals w.out) s.is ∙ ap send_totals s.turn.others ∙ ap send_totals (sym found)

pub sent-sending : (h : List Event) (u : World) (e : SendEvent) (v : World) → SentSo h (send_totals u.out) → SendStep u e v → SentSo (Sending e ∷ h) (send_totals v.out)
sent-sending h u (GaveLimits limits (Ok x)) v f s =
    sent_is _ (with_limits (send_totals u.out) limits) (send_totals v.out) (ap (λ x. send_totals x.out) s ∙ ap (λ a. with_limits a limits) (keeps_woken u.out limits)) (sent_limits h (send_totals u.out) f limits)
sent-sending h u (GaveLimits limits (Err e)) v f s = sent_same h (send_totals u.out) f _ (send_totals v.out) (same_at u v s) refl refl (λ d. refl) (λ d. refl)
sent-sending h u (OpenedOwn dir closed (Ok None)) v f s = sent_same h (send_totals u.out) f _ (send_totals v.out) (same_at u v s.1) refl refl (λ d. refl) (λ d. refl)
sent-sending h u (OpenedOwn dir closed (Ok (Some id))) v f s =
    sent_is _ (one_opened (send_totals u.out) dir) (send_totals v.out)
    (ap (λ x. send_totals x.out) s.3 ∙ accounts_opened u dir id s.1 ∙ ap send_totals s.2.2 ∙ opening_accounts u.out dir id (Some (fresh_sender u.out id)) s.2.0)
    (sent_opened h (send_totals u.out) f dir closed id (room_of u.out dir s.2.0))
sent-sending h u (OpenedOwn dir closed (Err e)) v f s = sent_same h (send_totals u.out) f _ (send_totals v.out) (same_at u v s) refl refl (λ d. refl) (λ d. refl)
sent-sending h u (RaisedData limit) v f s = sent_is _ _ (send_totals v.out) (ap (λ x. send_totals x.out) s) (sent_limit h (send_totals u.out) f limit)
sent-sending h u (RaisedCount dir count (Ok x)) v f s =
    sent_is _ (with_account (send_totals u.out) dir (with_count (own_total (send_totals u.out) dir) count)) (send_totals v.out)
    (ap (λ x. send_totals x.out) s.1 ∙ told_accounts (with_out u (with_own u.out dir (with_count (own_of u.out dir) count))) (stream_event.Available dir) (nat_lt (own_of u.out dir).limit count) ∙ count_accounts u.out dir count)
    (sent_count h (send_totals u.out) f dir count x)
sent-sending h u (RaisedCount dir count (Err (receive_error.Transport error))) v f s = sent_same h (send_totals u.out) f _ (send_totals v.out) (same_at u v s.2) refl refl (λ d. refl) (λ d. refl)
sent-sending h u (RaisedCount dir count (Err receive_error.CompactionMemory)) v f s = absurd s
sent-sending h u (RaisedCount dir count (Err receive_error.OutOfMemory)) v f s = sent_same h (send_totals u.out) f _ (send_totals v.out) (same_at u v s.2) refl refl (λ d. refl) (λ d. refl)
sent-sending h u (RaisedLimit id limit answer) v f s = sent_same h (send_totals u.out) f _ (send_totals v.out) (same_limit u id limit answer v s) refl refl (λ d. refl) (λ d. refl)
sent-sending h u (StoppedOwn id code answer) v f s = sent_same h (send_totals u.out) f _ (send_totals v.out) (same_stop u id code answer v s) refl refl (λ d. refl) (λ d. refl)
sent-sending h u (SetWindow size) v f s = sent_same h (send_totals u.out) f _ (send_totals v.out) (ap (λ x. send_totals x.out) s) refl refl (λ d. refl) (λ d. refl)
sent-sending h u (Polled answer) v f s = sent_same h (send_totals u.out) f _ (send_totals v.out) (same_polls u answer v s) refl refl (λ d. refl) (λ d. refl)
sent-sending h u (WroteOwn id lists closed (Ok written)) v f s =
    let t = s.3.3.0 in
    let bytes = ap (λ (w : Written). w.bytes) s.3.4 ∙ t.bytes in
    sent_is _ _ (send_totals v.out)
    (ap (λ x. send_totals x.out) s.3.5 ∙ same_queued (with_out u s.3.2) id s.3.1.queue_at ∙ ap send_totals t.is
    ∙ ap (λ (w : Written). record (send_totals u.out) { data_sent = u.out.budget.data_sent + w.bytes }) (sym s.3.4))
    (sent_wrote h (send_totals u.out) f id lists closed written
    (least_room written.bytes (u.out.budget.max_data - u.out.budget.data_sent) (u.out.budget.send_window - u.out.budget.buffered_data) (stream_room t.half) (total_length lists) bytes))
sent-sending h u (WroteOwn id lists closed (Err e)) v f s = sent_same h (send_totals u.out) f _ (send_totals v.out) (same_refused u id lists closed s.0 e v s.2 s.1 s.3) refl refl (λ d. refl) (λ d. refl)
sent-sending h u (FinishedOwn id answer) v f s = sent_same h (send_totals u.out) f _ (send_totals v.out) (same_finish u id answer v s) refl refl (λ d. refl) (λ d. refl)
sent-sending h u (ResetOwn id code answer) v f s = sent_same h (send_totals u.out) f _ (send_totals v.out) (ap (λ x. send_totals x.out) s.2.2 ∙ keeps_reset u.out id code s.0 answer s.2.0 s.1 s.2.1) refl refl (λ d. refl) (λ d. refl)
sent-sending h u (SetOwnPriority id priority answer) v f s = sent_same h (send_totals u.out) f _ (send_totals v.out) (ap (λ x. send_totals x.out) s.2 ∙ keeps_priority u.out id priority answer s.0 s.1) refl refl (λ d. refl) (λ d. refl)
sent-sending h u (AckedOwn id offsets fin answer) v f s = sent_same h (send_totals u.out) f _ (send_totals v.out) (same_ack u id offsets fin answer v s) refl refl (λ d. refl) (λ d. refl)
sent-sending h u (LostOwn id offsets fin answer) v f s = sent_same h (send_totals u.out) f _ (send_totals v.out) (same_loss u id offsets fin answer v s) refl refl (λ d. refl) (λ d. refl)
sent-sending h u (TookTurn most fair frame) v f s = sent_same h (send_totals u.out) f _ (send_totals v.out) (same_turn u most fair frame v s) refl refl (λ d. refl) (λ d. refl)
sent-sending h u (ResetAckedOwn id answer) v f s = sent_same h (send_totals u.out) f _ (send_totals v.out) (same_reset u id answer v s) refl refl (λ d. refl) (λ d. refl)

-- nothing was sent and opened at first
pub sent-start : (a : SendTotals) → a.data_sent ≡ 0 → a.max_data ≡ 0 → a.own_bi ≡ no_own → a.own_uni ≡ no_own → SentSo [] a
sent-start a s m bi uni = record {
  taken = s;
  limit = m;
  within = omega arith;
  opened = opened;
  counted = counted;
  few = λ d. omega arith;
}
  where
    opened : (d : Dir) → (own_total a d).opened ≡ 0
    opened Bi = ap (λ (o : Own). o.opened) bi
    opened Uni = ap (λ (o : Own). o.opened) uni

    counted : (d : Dir) → (own_total a d).limit ≡ 0
    counted Bi = ap (λ (o : Own). o.limit) bi
    counted Uni = ap (λ (o : Own). o.limit) uni

pub kept-sent : (h : List Event) (u : World) (e : Event) (v : World) → u.credit.local_max_data < 2 ^ 64 → SentSo h (send_totals u.out) → Step u e v → SentSo (with_call e h) (send_totals v.out)
kept-sent h u (Received id offset bytes fin answer) v fits f s = let went = firmly h u (Received id offset bytes fin answer) v fits refl s in sent_same h (send_totals u.out) f (Received id offset bytes fin answer) (send_totals v.out) went.same refl refl (λ d. refl) (λ d. refl)
kept-sent h u (ReceivedReset id code final answer) v fits f s = let went = firmly h u (ReceivedReset id code final answer) v fits refl s in sent_same h (send_totals u.out) f (ReceivedReset id code final answer) (send_totals v.out) went.same refl refl (λ d. refl) (λ d. refl)
kept-sent h u (AddedCredits count answer) v fits f s = let went = firmly h u (AddedCredits count answer) v fits refl s in sent_same h (send_totals u.out) f (AddedCredits count answer) (send_totals v.out) went.same refl refl (λ d. refl) (λ d. refl)
kept-sent h u (Began id ordered answer) v fits f s = let went = firmly h u (Began id ordered answer) v fits refl s in sent_same h (send_totals u.out) f (Began id ordered answer) (send_totals v.out) went.same refl refl (λ d. refl) (λ d. refl)
kept-sent h u (Gave id most ordered answer) v fits f s = let went = firmly h u (Gave id most ordered answer) v fits refl s in sent_same h (send_totals u.out) f (Gave id most ordered answer) (send_totals v.out) went.same refl refl (λ d. refl) (λ d. refl)
kept-sent h u (Ended id count) v fits f s = let went = firmly h u (Ended id count) v fits refl s in sent_same h (send_totals u.out) f (Ended id count) (send_totals v.out) went.same refl refl (λ d. refl) (λ d. refl)
kept-sent h u (Stopped id code answer) v fits f s = let went = firmly h u (Stopped id code answer) v fits refl s in sent_same h (send_totals u.out) f (Stopped id code answer) (send_totals v.out) went.same refl refl (λ d. refl) (λ d. refl)
kept-sent h u (ToldReset id answer) v fits f s = let went = firmly h u (ToldReset id answer) v fits refl s in sent_same h (send_totals u.out) f (ToldReset id answer) (send_totals v.out) went.same refl refl (λ d. refl) (λ d. refl)
kept-sent h u (Resized size answer) v fits f s = let went = firmly h u (Resized size answer) v fits refl s in sent_same h (send_totals u.out) f (Resized size answer) (send_totals v.out) went.same refl refl (λ d. refl) (λ d. refl)
kept-sent h u (SetConcurrent dir count (Ok k)) v fits f s = let went = firmly h u (SetConcurrent dir count (Ok k)) v fits refl s in sent_same h (send_totals u.out) f (SetConcurrent dir count (Ok k)) (send_totals v.out) went.same refl refl (λ d. refl) (λ d. refl)
kept-sent h u (SetConcurrent dir count (Err k)) v fits f s = let went = firmly h u (SetConcurrent dir count (Err k)) v fits refl s in sent_same h (send_totals u.out) f (SetConcurrent dir count (Err k)) (send_totals v.out) went.same refl refl (λ d. refl) (λ d. refl)
kept-sent h u (Accepted dir answer) v fits f s = let went = firmly h u (Accepted dir answer) v fits refl s in sent_same h (send_totals u.out) f (Accepted dir answer) (send_totals v.out) went.same refl refl (λ d. refl) (λ d. refl)
kept-sent h u (LeftPending kind frame) v fits f s = let went = firmly h u (LeftPending kind frame) v fits refl s in sent_same h (send_totals u.out) f (LeftPending kind frame) (send_totals v.out) went.same refl refl (λ d. refl) (λ d. refl)
kept-sent h u (Sending e) v fits f s = sent-sending h u e v f s
kept-sent h u Rejected v fits f s =
    let o = ap (λ (w : World). send_totals w.out) s.1 in
    sent-start (send_totals v.out) (ap (λ (a : SendTotals). a.data_sent) o) (ap (λ (a : SendTotals). a.max_data) o) (ap (λ (a : SendTotals). a.own_bi) o) (ap (λ (a : SendTotals). a.own_uni) o)
kept-sent h u (SentAgain (Ok x)) v fits f s = sent_same h (send_totals u.out) f (SentAgain (Ok x)) (send_totals v.out) (ap (λ (w : World). send_totals w.out) s.1.2) refl refl (λ d. refl) (λ d. refl)
kept-sent h u (SentAgain (Err x)) v fits f s = sent_same h (send_totals u.out) f (SentAgain (Err x)) (send_totals v.out) (ap (λ (w : World). send_totals w.out) s.1) refl refl (λ d. refl) (λ d. refl)
