-- Which streams come into the send queue: those that are written, ended, or of which a frame was lost.
use Rattle.std.proofs.Common.{◌≡◌, ◌⊎◌, ℕ, ℤ, Bool, true, false, List, [], ◌∷◌, Option, Some, None, Ok, Err, refl, sym, ap, ◌∙◌, inl, inr, arith}
use Rattle.std.specs.Prelude.{◌++◌, ◌==◌, ◌||◌, ◌^◌, ◌<◌, drop, int_lt, is_some, slice_get, nat_lt, if◌then◌else◌}
use Rattle.std.proofs.lemmas.Bool.Decides.{nat_tests}
use Rattle.quic_values.specs.declared.ids.Dir.{Dir}
use Rattle.quic_values.specs.declared.ids.Dir.TheVariants.{Bi, Uni}
use Rattle.quic_wire.specs.declared.event.StreamEvent.{StreamEvent}
use Rattle.quic_wire.specs.declared.event.StreamEvent.TheVariants as stream_event
use Rattle.quic_wire.specs.declared.error.ReceiveError.TheVariants as receive_error
use Rattle.quic_queue.specs.declared.queue.Entry.{Entry}
use Rattle.quic_queue.specs.declared.queue.Next.{Next}
use Rattle.quic_queue.specs.declared.queue.Next.TheVariants.{LetGo, PutAnew, KeepBack}
use Rattle.quic_queue.specs.SendOrder.{SendOrder, put, line, first, with_entry, without_next, with_turn_ended}
use Rattle.quic_limits.specs.Own.{with_count}
use Rattle.quic_outgoing.specs.Outgoing.{Outgoing, own_of, with_own, with_send_half, own_ids}
use Rattle.quic_writing.specs.Writer.{Writer, next_of}
use Rattle.quic_history.specs.World.{World, with_receive, told, noticed}
use Rattle.quic_history.specs.Flows.{stands}
use Rattle.quic_history.specs.Sends.{with_out, with_opened, told_writable, after_first_stop, is_permitted, PollsQueue, TellsNext}
use Rattle.quic_history.specs.Writes.{with_queued, WritesOwn}
use Rattle.quic_history.specs.Acknowledged.{with_send_freed, told_finished, frees_reset}
use Rattle.quic_history.specs.SendEvents.{SendEvent, SendStep, GaveLimits, RaisedData, RaisedCount, RaisedLimit, StoppedOwn, SetWindow, OpenedOwn, WroteOwn, FinishedOwn, ResetOwn, SetOwnPriority, AckedOwn, LostOwn, ResetAckedOwn, TookTurn, Polled}
use Rattle.quic_history.specs.History.{Event, Received, ReceivedReset, AddedCredits, Began, Gave, Ended, Stopped, ToldReset, Resized, SetConcurrent, Accepted, LeftPending, Sending, Step, Rejected, SentAgain, joint_move_of}
use Rattle.quic_history.specs.Early.{begins_anew, entry_at, AreUnsentOf, with_entries_put}
use Rattle.quic_history.proofs.Limits.{firmly, is_of_sending}
use Rattle.quic_history.proofs.StreamSteps.{Steady, steady-noticed}
use Rattle.quic_history.proofs.SendFreed.{steady-send-freed}
use Rattle.quic_history.proofs.SendSteps.{either-way}
use Rattle.quic_link.specs.Endpoints.{IsOneOf}
use Rattle.quic_link.proofs.Basics.{either_true, or_left, or_right, same_id}

-- ---- entries

itself : (a : ℕ) → (a == a) ≡ true
itself a = grind (arith, nat_tests)

-- one that stands in a list with one more stood there before, or is that one
put_from : (q : ℕ) (es : List Entry) (e : Entry) → stands q (put es e) ≡ true → (stands q es ≡ true) ⊎ (q ≡ e.id)
put_from q [] e h = elim (either_true (q == e.id) false h) [ inl a ↦ inr (same_id q e.id a) | inr b ↦ inl b ]
put_from q (x ∷ xs) e h = by_test (int_lt x.priority e.priority) h (put_from q xs e)
  where
    by_test : (b : Bool) → stands q (if b then e ∷ x ∷ xs else x ∷ put xs e) ≡ true → (stands q (put xs e) ≡ true → (stands q xs ≡ true) ⊎ (q ≡ e.id)) → (((q == x.id) || stands q xs) ≡ true) ⊎ (q ≡ e.id)
    by_test true k before = elim (either_true (q == e.id) ((q == x.id) || stands q xs) k) [ inl a ↦ inr (same_id q e.id a) | inr b ↦ inl b ]
    by_test false k before = elim (either_true (q == x.id) (stands q (put xs e)) k) [
      | inl a ↦ inl (or_left (q == x.id) (stands q xs) a)
      | inr b ↦ elim (before b) [ inl c ↦ inl (or_right (q == x.id) (stands q xs) c) | inr c ↦ inr c ]
    ]

entry_from : (q : ℕ) (w : SendOrder) (e : Entry) → stands q (line (with_entry w e)) ≡ true → (stands q (line w) ≡ true) ⊎ (q ≡ e.id)
entry_from q w e h = by_kept w.kept refl h
  where
    by_kept : (k : Option Entry) → w.kept ≡ k → stands q (line (record w { waiting = put w.waiting e; kept = k; reserved = None })) ≡ true → (stands q (line w) ≡ true) ⊎ (q ≡ e.id)
    by_kept None k s = rw k (put_from q w.waiting e s)
    by_kept (Some x) k s = rw k (elim (either_true (q == x.id) (stands q (put w.waiting e)) s) [
      | inl a ↦ inl (or_left (q == x.id) (stands q w.waiting) a)
      | inr b ↦ elim (put_from q w.waiting e b) [ inl c ↦ inl (or_right (q == x.id) (stands q w.waiting) c) | inr c ↦ inr c ]
    ])

rest_from : (q : ℕ) (es : List Entry) → stands q (drop 1 es) ≡ true → stands q es ≡ true
rest_from q [] h = h
rest_from q (x ∷ xs) h = or_right (q == x.id) (stands q xs) h

left_from : (q : ℕ) (w : SendOrder) → stands q (line (without_next w)) ≡ true → stands q (line w) ≡ true
left_from q w h = by_kept w.kept refl h
  where
    by_kept : (k : Option Entry) → w.kept ≡ k → stands q (if is_some k then w.waiting else drop 1 w.waiting) ≡ true → stands q (line w) ≡ true
    by_kept None k s = rw k (rest_from q w.waiting s)
    by_kept (Some x) k s = rw k (or_right (q == x.id) (stands q w.waiting) s)

-- the first one stands there
pub first-stands : (w : SendOrder) (e : Entry) → first w ≡ Some e → stands e.id (line w) ≡ true
first-stands w e h = by_line (line w) h
  where
    by_line : (es : List Entry) → slice_get es 0 ≡ Some e → stands e.id es ≡ true
    by_line [] k = cc
    by_line (x ∷ xs) k = let same : x ≡ e = some_same x e k in or_left (e.id == x.id) (stands e.id xs) (ap (λ (y : Entry). e.id == y.id) same ∙ itself e.id)
      where
        some_same : (a b : Entry) → Some a ≡ Some b → a ≡ b
        some_same a b k = cc

-- after a turn none stands there that did not
turn_from : (q : ℕ) (w : SendOrder) (e : Entry) (n : Next) → first w ≡ Some e → stands q (line (with_turn_ended (without_next w) e n)) ≡ true → stands q (line w) ≡ true
turn_from q w e n f h = by_next n h
  where
    here : q ≡ e.id → stands q (line w) ≡ true
    here k = ap (λ i. stands i (line w)) k ∙ first-stands w e f

    by_next : (n : Next) → stands q (line (with_turn_ended (without_next w) e n)) ≡ true → stands q (line w) ≡ true
    by_next LetGo k = left_from q w k
    by_next (PutAnew p) k = elim (entry_from q (without_next w) (record { priority = p; id = e.id }) k) [ inl a ↦ left_from q w a | inr b ↦ here b ]
    by_next KeepBack k = elim (either_true (q == e.id) (stands q (without_next w).waiting) k) [ inl a ↦ here (same_id q e.id a) | inr b ↦ left_from q w b ]

-- one that stands there once entries were put stood there before, or is of one of them
entries_from : (q : ℕ) (w : SendOrder) (es : List Entry) → stands q (line (with_entries_put w es)) ≡ true → (stands q (line w) ≡ true) ⊎ (stands q es ≡ true)
entries_from q w [] h = inl h
entries_from q w (e ∷ es) h = elim (entries_from q (with_entry w e) es h) [
  | inl a ↦ elim (entry_from q w e a) [ inl b ↦ inl b | inr b ↦ inr (or_left (q == e.id) (stands q es) (ap (λ (i : ℕ). i == e.id) b ∙ itself e.id)) ]
  | inr b ↦ inr (or_right (q == e.id) (stands q es) b)
]

-- the entries of some streams are of no others
unsent_from : (o : Outgoing) (q : ℕ) (ids : List ℕ) (es : List Entry) → AreUnsentOf o ids es → stands q es ≡ true → IsOneOf q ids
unsent_from o q [] es a h = let k = sym (ap (stands q) a) ∙ h in cc
unsent_from o q (id ∷ ids) es a h = by_queue a.0 (sym (ap (stands q) a.4) ∙ h) (λ k. unsent_from o q ids a.2 a.3 k)
  where
    by_queue : (x : Option ℤ) → stands q (entry_at id x ++ a.2) ≡ true → (stands q a.2 ≡ true → IsOneOf q ids) → IsOneOf q (id ∷ ids)
    by_queue None k later = inr (later k)
    by_queue (Some p) k later = elim (either_true (q == id) (stands q a.2) k) [ inl b ↦ inl (same_id q id b) | inr b ↦ inr (later b) ]

-- ---- calls

-- the stream that a call puts into the queue
abbrev pub queued_id : Event → Option ℕ
queued_id (Sending (WroteOwn id lists closed (Ok written))) = Some id
queued_id (Sending (FinishedOwn id (Ok x))) = Some id
queued_id (Sending (LostOwn id offsets fin (Ok x))) = Some id
queued_id _ = None

abbrev pub QueuesBy : World → World → Option ℕ → Type 0
QueuesBy u v o = (q : ℕ) → stands q (line v.queue) ≡ true → (stands q (line u.queue) ≡ true) ⊎ (o ≡ Some q)

queues_same : (u v : World) (o : Option ℕ) → v.queue ≡ u.queue → QueuesBy u v o
queues_same u v o e q h = inl (sym (ap (λ (x : SendOrder). stands q (line x)) e) ∙ h)

queues_put : (u w v : World) (id : ℕ) (o : Option ℤ) → v ≡ with_queued w id o → w.queue ≡ u.queue → QueuesBy u v (Some id)
queues_put u w v id None e s q h = queues_same u v (Some id) (ap (λ (x : World). x.queue) e ∙ s) q h
queues_put u w v id (Some priority) e s q h =
    let k : stands q (line (with_entry w.queue (record { priority = priority; id = id }))) ≡ true = sym (ap (λ (x : World). stands q (line x.queue)) e) ∙ h in
    elim (entry_from q w.queue (record { priority = priority; id = id }) k) [
      | inl a ↦ inl (sym (ap (λ (x : SendOrder). stands q (line x)) s) ∙ a)
      | inr b ↦ inr (ap (λ (i : ℕ). Some i) (sym b))
    ]

queue_if : (u w x : World) (b : Bool) → w.queue ≡ u.queue → x.queue ≡ u.queue → (if b then w else x).queue ≡ u.queue
queue_if u w x true e k = e
queue_if u w x false e k = k

queue_opened : (u : World) (d : Dir) (id : ℕ) (o : Outgoing) → (with_opened u d id o).queue ≡ u.queue
unfolding with_receive
queue_opened u Bi id o = refl
queue_opened u Uni id o = refl

queue_noticed : (u : World) (id : ℕ) → (noticed u id false).queue ≡ u.queue
queue_noticed u id = ap (λ (s : Steady). s.queue) (steady-noticed u id false)

queue_writable : (u : World) (id : ℕ) (b : Bool) → (told_writable u id b).queue ≡ u.queue
queue_writable u id true = refl
queue_writable u id false = refl

queue_stopped : (u : World) (id code : ℕ) (b : Bool) → (after_first_stop u id code b).queue ≡ u.queue
queue_stopped u id code true = queue_noticed (told u (stream_event.Stopped id code)) id
queue_stopped u id code false = refl

queue_polled : (w : World) (writable : Option ℕ) (answer : Option StreamEvent) (v : World) → PollsQueue w writable answer v → v.queue ≡ w.queue
queue_polled w (Some id) answer v s = ap (λ (x : World). x.queue) s.1
queue_polled w None answer v s = ap (λ (x : World). x.queue) s.2

queue_told : (u : World) (answer : Option StreamEvent) (v : World) → TellsNext u answer v → v.queue ≡ u.queue
queue_told u answer v s = either-way u.bi.opened s
    (λ t. ap (λ (x : World). x.queue) t.1)
    (λ t. either-way u.uni.opened t
    (λ k. ap (λ (x : World). x.queue) k.1)
    (λ p. queue_polled (with_out u p.1) p.0 answer v p.3))

queue_freed : (u : World) (id : ℕ) → (with_send_freed u id).queue ≡ u.queue
queue_freed u id = ap (λ (s : Steady). s.queue) (steady-send-freed u id)

queue_finished : (u : World) (id : ℕ) (b : Bool) → (told_finished u id b).queue ≡ u.queue
queue_finished u id true = queue_freed u id
queue_finished u id false = refl

queue_at : (u v w : World) → v ≡ w → w.queue ≡ u.queue → v.queue ≡ u.queue
queue_at u v w e k = ap (λ (x : World). x.queue) e ∙ k

-- a turn
queues_turn : (u v : World) (a b : Writer) (e : Entry) (n : Next) → u.queue ≡ a.queue → v.queue ≡ b.queue → first a.queue ≡ Some e → b.queue ≡ with_turn_ended (without_next a.queue) e n → QueuesBy u v None
queues_turn u v a b e n before after f s q h =
    let k : stands q (line (with_turn_ended (without_next a.queue) e n)) ≡ true = sym (ap (λ (x : SendOrder). stands q (line x)) (after ∙ s)) ∙ h in
    inl (ap (λ (x : SendOrder). stands q (line x)) before ∙ turn_from q a.queue e n f k)

queues_send : (u : World) (e : SendEvent) (v : World) → SendStep u e v → QueuesBy u v (queued_id (Sending e))
queues_send u (GaveLimits limits (Ok x)) v s = queues_same u v None (ap (λ (w : World). w.queue) s)
queues_send u (GaveLimits limits (Err e)) v s = queues_same u v None (ap (λ (w : World). w.queue) s)
queues_send u (OpenedOwn dir closed (Ok None)) v s = queues_same u v None (ap (λ (x : World). x.queue) s.1)
queues_send u (OpenedOwn dir closed (Ok (Some id))) v s = queues_same u v None (queue_at u v (with_opened u dir id s.1) s.3 (queue_opened u dir id s.1))
queues_send u (OpenedOwn dir closed (Err e)) v s = queues_same u v None (ap (λ (x : World). x.queue) s)
queues_send u (RaisedData limit) v s = queues_same u v None (ap (λ (x : World). x.queue) s)
queues_send u (RaisedCount dir count (Ok x)) v s =
    let w = with_out u (with_own u.out dir (with_count (own_of u.out dir) count)) in
    queues_same u v None (ap (λ (x : World). x.queue) s.1 ∙ queue_if u (told w (stream_event.Available dir)) w (nat_lt (own_of u.out dir).limit count) refl refl)
queues_send u (RaisedCount dir count (Err (receive_error.Transport error))) v s = queues_same u v None (ap (λ (x : World). x.queue) s.2)
queues_send u (RaisedCount dir count (Err receive_error.CompactionMemory)) v s = absurd s
queues_send u (RaisedCount dir count (Err receive_error.OutOfMemory)) v s = queues_same u v None (ap (λ (x : World). x.queue) s.2)
queues_send u (RaisedLimit id limit (Ok x)) v s =
    let w = with_out u s.2 in
    queues_same u v None (ap (λ (x : World). x.queue) s.4 ∙ queue_noticed (told_writable w id s.1) id ∙ queue_writable w id s.1)
queues_send u (RaisedLimit id limit (Err (receive_error.Transport error))) v s = queues_same u v None (ap (λ (x : World). x.queue) s.1)
queues_send u (RaisedLimit id limit (Err receive_error.CompactionMemory)) v s = absurd s
queues_send u (RaisedLimit id limit (Err receive_error.OutOfMemory)) v s = queues_same u v None (ap (λ (x : World). x.queue) s)
queues_send u (StoppedOwn id code (Ok x)) v s = queues_same u v None (either-way (is_permitted u id) s
    (λ t. ap (λ (x : World). x.queue) t.3 ∙ queue_stopped (with_out u t.1) id code t.0)
    (λ t. ap (λ (x : World). x.queue) t))
queues_send u (StoppedOwn id code (Err e)) v s = queues_same u v None (ap (λ (x : World). x.queue) s)
queues_send u (SetWindow window) v s = queues_same u v None (ap (λ (x : World). x.queue) s)
queues_send u (Polled answer) v s = queues_same u v None (queue_told u answer v s)
queues_send u (WroteOwn id lists closed (Ok written)) v s = queues_put u (with_out u s.3.2) v id s.3.1.queue_at s.3.5 refl
queues_send u (WroteOwn id lists closed (Err e)) v s = queues_same u v None (refused s.3)
  where
    refused : WritesOwn u id lists closed s.0 (Err e) v s.2 s.1 → v.queue ≡ u.queue
    refused (inl t) = ap (λ (x : World). x.queue) t.2
    refused (inr t) = ap (λ (x : World). x.queue) t.3
queues_send u (FinishedOwn id (Ok x)) v s = queues_put u (with_out u s.1) v id s.0 s.3 refl
queues_send u (FinishedOwn id (Err e)) v s = queues_same u v None (ap (λ (x : World). x.queue) s.2)
queues_send u (ResetOwn id code answer) v s = queues_same u v None (ap (λ (x : World). x.queue) s.2.2)
queues_send u (SetOwnPriority id priority answer) v s = queues_same u v None (ap (λ (x : World). x.queue) s.2)
queues_send u (AckedOwn id offsets fin (Ok x)) v s = queues_same u v None (either-way (is_permitted u id) s
    (λ t. ap (λ (x : World). x.queue) t.3 ∙ queue_finished (with_out u t.1) id t.0)
    (λ t. ap (λ (x : World). x.queue) t))
queues_send u (AckedOwn id offsets fin (Err e)) v s = queues_same u v None (ap (λ (x : World). x.queue) s.2)
queues_send u (LostOwn id offsets fin (Ok x)) v s = queues_put u (with_out u s.1) v id s.0 s.3 refl
queues_send u (LostOwn id offsets fin (Err e)) v s = queues_same u v None (ap (λ (x : World). x.queue) s.1)
queues_send u (ResetAckedOwn id (Ok x)) v s = queues_same u v None (either-way (frees_reset u id) s
    (λ t. ap (λ (x : World). x.queue) t ∙ queue_freed (with_out u (with_send_half u.out id None)) id)
    (λ t. ap (λ (x : World). x.queue) t))
queues_send u (ResetAckedOwn id (Err e)) v s = queues_same u v None (ap (λ (x : World). x.queue) s.1)
queues_send u (TookTurn most fair None) v s =
    queues_turn u v s.before s.after s.turn.entry LetGo (ap (λ (w : World). w.queue) s.found) (ap (λ (w : World). w.queue) s.is) s.turn.is_first (ap (λ (x : Writer). x.queue) s.turn.is)
queues_send u (TookTurn most fair (Some frame)) v s =
    queues_turn u v s.before s.after s.turn.entry (next_of fair s.turn.priority s.turn.frame.has_more) (ap (λ (w : World). w.queue) s.found) (ap (λ (w : World). w.queue) s.is) s.turn.is_first s.turn.queue

module _ (h : List Event) (u : World) (e : Event) (v : World) where
  firm_queue : u.credit.local_max_data < 2 ^ 64 → is_of_sending e ≡ false → Step u e v → QueuesBy u v None
  firm_queue fits n s = let f = firmly h u e v fits n s in queues_same u v None f.queue

-- the streams that a call may put into the queue: where all is sent again, those that the end opened
abbrev pub MayQueue : World → Event → ℕ → Type 0
MayQueue u (SentAgain (Ok x)) q = IsOneOf q (own_ids u.out)
MayQueue u e q = queued_id e ≡ Some q

-- it puts no others
pub queues-step : (h : List Event) (u : World) (e : Event) (v : World) → u.credit.local_max_data < 2 ^ 64 → begins_anew (joint_move_of e) ≡ false → Step u e v → (q : ℕ) → stands q (line v.queue) ≡ true
    → (stands q (line u.queue) ≡ true) ⊎ MayQueue u e q
queues-step h u (Sending e) v fits p s = queues_send u e v s
queues-step h u (Received id offset bytes fin answer) v fits p s = firm_queue h u (Received id offset bytes fin answer) v fits refl s
queues-step h u (ReceivedReset id code final answer) v fits p s = firm_queue h u (ReceivedReset id code final answer) v fits refl s
queues-step h u (AddedCredits count answer) v fits p s = firm_queue h u (AddedCredits count answer) v fits refl s
queues-step h u (Began id ordered answer) v fits p s = firm_queue h u (Began id ordered answer) v fits refl s
queues-step h u (Gave id most ordered answer) v fits p s = firm_queue h u (Gave id most ordered answer) v fits refl s
queues-step h u (Ended id count) v fits p s = firm_queue h u (Ended id count) v fits refl s
queues-step h u (Stopped id code answer) v fits p s = firm_queue h u (Stopped id code answer) v fits refl s
queues-step h u (ToldReset id answer) v fits p s = firm_queue h u (ToldReset id answer) v fits refl s
queues-step h u (Resized window answer) v fits p s = firm_queue h u (Resized window answer) v fits refl s
queues-step h u (SetConcurrent dir count answer) v fits p s = firm_queue h u (SetConcurrent dir count answer) v fits refl s
queues-step h u (Accepted dir answer) v fits p s = firm_queue h u (Accepted dir answer) v fits refl s
queues-step h u (LeftPending kind frame) v fits p s = firm_queue h u (LeftPending kind frame) v fits refl s
queues-step h u Rejected v fits p s = cc
queues-step h u (SentAgain (Ok x)) v fits p s = λ q k. elim (entries_from q u.queue s.1.0 (sym (ap (λ (w : World). stands q (line w.queue)) s.1.2) ∙ k)) [
  | inl a ↦ inl a
  | inr b ↦ inr (unsent_from u.out q (own_ids u.out) s.1.0 s.1.1 b)
]
queues-step h u (SentAgain (Err x)) v fits p s = queues_same u v None (ap (λ (x : World). x.queue) s.1)
