-- No room is kept in the send queue of an end between its calls.
use Rattle.std.proofs.Common.{◌≡◌, ℕ, ℤ, Bool, true, false, List, [], ◌∷◌, Option, Some, None, Ok, Err, refl, ap, ◌∙◌, inl, inr, arith, ◌<◌, ◌^◌}
use Rattle.std.specs.Prelude.{nat_lt, if◌then◌else◌}
use Rattle.quic_values.specs.declared.ids.Dir.{Dir}
use Rattle.quic_values.specs.declared.ids.Dir.TheVariants.{Bi, Uni}
use Rattle.quic_wire.specs.declared.event.StreamEvent.{StreamEvent}
use Rattle.quic_wire.specs.declared.event.StreamEvent.TheVariants as stream_event
use Rattle.quic_wire.specs.declared.error.ReceiveError.TheVariants as receive_error
use Rattle.quic_queue.specs.declared.queue.Entry.{Entry}
use Rattle.quic_queue.specs.declared.queue.Next.{Next}
use Rattle.quic_queue.specs.declared.queue.Next.TheVariants.{LetGo, PutAnew, KeepBack}
use Rattle.quic_queue.specs.SendOrder.{SendOrder, with_entry, without_next, with_turn_ended}
use Rattle.quic_limits.specs.Own.{with_count}
use Rattle.quic_outgoing.specs.Outgoing.{Outgoing, own_of, with_own, with_send_half}
use Rattle.quic_writing.specs.Writer.{Writer, next_of}
use Rattle.quic_history.specs.World.{World, Made, with_receive, told, noticed}
use Rattle.quic_history.specs.Sends.{with_out, with_opened, told_writable, after_first_stop, is_permitted, PollsQueue, TellsNext}
use Rattle.quic_history.specs.Writes.{with_queued, WritesOwn}
use Rattle.quic_history.specs.Early.{with_entries_put}
use Rattle.quic_history.specs.Acknowledged.{with_send_freed, told_finished, frees_reset}
use Rattle.quic_history.specs.SendEvents.{SendEvent, SendStep, GaveLimits, RaisedData, RaisedCount, RaisedLimit, StoppedOwn, SetWindow, OpenedOwn, WroteOwn, FinishedOwn, ResetOwn, SetOwnPriority, AckedOwn, LostOwn, ResetAckedOwn, TookTurn, Polled}
use Rattle.quic_history.specs.History.{Event, Received, ReceivedReset, AddedCredits, Began, Gave, Ended, Stopped, ToldReset, Resized, SetConcurrent, Accepted, LeftPending, Sending, Step, Rejected, SentAgain, IsRun, From}
use Rattle.quic_history.proofs.Limits.{firmly}
use Rattle.quic_history.proofs.Credits.{limit-fits}
use Rattle.quic_history.proofs.StreamSteps.{Steady, steady-noticed}
use Rattle.quic_history.proofs.SendFreed.{steady-send-freed}
use Rattle.quic_history.proofs.SendSteps.{either-way}

-- no room is kept
abbrev IsBare : World → Type 0
IsBare w = w.queue.reserved ≡ None

-- a call keeps none, if none was kept before
abbrev BareBy : World → World → Type 0
BareBy u v = IsBare u → IsBare v

bare_same : (u v : World) → v.queue ≡ u.queue → BareBy u v
bare_same u v e b = ap (λ (x : SendOrder). x.reserved) e ∙ b

bare_put : (u w v : World) (id : ℕ) (o : Option ℤ) → v ≡ with_queued w id o → w.queue ≡ u.queue → BareBy u v
bare_put u w v id None e s b = ap (λ (x : World). x.queue.reserved) e ∙ ap (λ (x : SendOrder). x.reserved) s ∙ b
bare_put u w v id (Some priority) e s b = ap (λ (x : World). x.queue.reserved) e

bare_settled : (w : SendOrder) (e : Entry) (n : Next) → (with_turn_ended w e n).reserved ≡ None
bare_settled w e LetGo = refl
bare_settled w e (PutAnew p) = refl
bare_settled w e KeepBack = refl

bare_turn : (u v : World) (a b : Writer) (e : Entry) (n : Next) → v.queue ≡ b.queue → b.queue ≡ with_turn_ended (without_next a.queue) e n → BareBy u v
bare_turn u v a b e n after s bare = ap (λ (x : SendOrder). x.reserved) (after ∙ s) ∙ bare_settled (without_next a.queue) e n

bare_entries : (q : SendOrder) (es : List Entry) → q.reserved ≡ None → (with_entries_put q es).reserved ≡ None
bare_entries q [] b = b
bare_entries q (e ∷ es) b = bare_entries (with_entry q e) es refl

-- ---- calls

queue_if : (u w x : World) (b : Bool) → w.queue ≡ u.queue → x.queue ≡ u.queue → (if b then w else x).queue ≡ u.queue
queue_if u w x true e k = e
queue_if u w x false e k = k

queue_opened : (u : World) (d : Dir) (id : ℕ) (o : Outgoing) → (with_opened u d id o).queue ≡ u.queue
unfolding with_receive
queue_opened u Bi id o = refl
queue_opened u Uni id o = refl

queue_noticed : (u : World) (id : ℕ) → (noticed u id false).queue ≡ u.queue
queue_noticed u id = ap (λ (s : Steady). s.queue) (steady-noticed u id false)

queue_writable : (u : World) (id : ℕ) (b : Bool) → (told_writable u id b).queue ≡ u.queue
queue_writable u id true = refl
queue_writable u id false = refl

queue_stopped : (u : World) (id code : ℕ) (b : Bool) → (after_first_stop u id code b).queue ≡ u.queue
queue_stopped u id code true = queue_noticed (told u (stream_event.Stopped id code)) id
queue_stopped u id code false = refl

queue_polled : (w : World) (writable : Option ℕ) (answer : Option StreamEvent) (v : World) → PollsQueue w writable answer v → v.queue ≡ w.queue
queue_polled w (Some id) answer v s = ap (λ (x : World). x.queue) s.1
queue_polled w None answer v s = ap (λ (x : World). x.queue) s.2

queue_told : (u : World) (answer : Option StreamEvent) (v : World) → TellsNext u answer v → v.queue ≡ u.queue
queue_told u answer v s = either-way u.bi.opened s
    (λ t. ap (λ (x : World). x.queue) t.1)
    (λ t. either-way u.uni.opened t
    (λ k. ap (λ (x : World). x.queue) k.1)
    (λ p. queue_polled (with_out u p.1) p.0 answer v p.3))

queue_freed : (u : World) (id : ℕ) → (with_send_freed u id).queue ≡ u.queue
queue_freed u id = ap (λ (s : Steady). s.queue) (steady-send-freed u id)

queue_finished : (u : World) (id : ℕ) (b : Bool) → (told_finished u id b).queue ≡ u.queue
queue_finished u id true = queue_freed u id
queue_finished u id false = refl

queue_at : (u v w : World) → v ≡ w → w.queue ≡ u.queue → v.queue ≡ u.queue
queue_at u v w e k = ap (λ (x : World). x.queue) e ∙ k

bare_send : (u : World) (e : SendEvent) (v : World) → SendStep u e v → BareBy u v
bare_send u (GaveLimits limits (Ok x)) v s = bare_same u v (ap (λ (w : World). w.queue) s)
bare_send u (GaveLimits limits (Err e)) v s = bare_same u v (ap (λ (w : World). w.queue) s)
bare_send u (OpenedOwn dir closed (Ok None)) v s = bare_same u v (ap (λ (x : World). x.queue) s.1)
bare_send u (OpenedOwn dir closed (Ok (Some id))) v s = bare_same u v (queue_at u v (with_opened u dir id s.1) s.3 (queue_opened u dir id s.1))
bare_send u (OpenedOwn dir closed (Err e)) v s = bare_same u v (ap (λ (x : World). x.queue) s)
bare_send u (RaisedData limit) v s = bare_same u v (ap (λ (x : World). x.queue) s)
bare_send u (RaisedCount dir count (Ok x)) v s =
    let w = with_out u (with_own u.out dir (with_count (own_of u.out dir) count)) in
    bare_same u v (ap (λ (x : World). x.queue) s.1 ∙ queue_if u (told w (stream_event.Available dir)) w (nat_lt (own_of u.out dir).limit count) refl refl)
bare_send u (RaisedCount dir count (Err (receive_error.Transport error))) v s = bare_same u v (ap (λ (x : World). x.queue) s.2)
bare_send u (RaisedCount dir count (Err receive_error.CompactionMemory)) v s = absurd s
bare_send u (RaisedCount dir count (Err receive_error.OutOfMemory)) v s = bare_same u v (ap (λ (x : World). x.queue) s.2)
bare_send u (RaisedLimit id limit (Ok x)) v s =
    let w = with_out u s.2 in
    bare_same u v (ap (λ (x : World). x.queue) s.4 ∙ queue_noticed (told_writable w id s.1) id ∙ queue_writable w id s.1)
bare_send u (RaisedLimit id limit (Err (receive_error.Transport error))) v s = bare_same u v (ap (λ (x : World). x.queue) s.1)
bare_send u (RaisedLimit id limit (Err receive_error.CompactionMemory)) v s = absurd s
bare_send u (RaisedLimit id limit (Err receive_error.OutOfMemory)) v s = bare_same u v (ap (λ (x : World). x.queue) s)
bare_send u (StoppedOwn id code (Ok x)) v s = bare_same u v (either-way (is_permitted u id) s
    (λ t. ap (λ (x : World). x.queue) t.3 ∙ queue_stopped (with_out u t.1) id code t.0)
    (λ t. ap (λ (x : World). x.queue) t))
bare_send u (StoppedOwn id code (Err e)) v s = bare_same u v (ap (λ (x : World). x.queue) s)
bare_send u (SetWindow window) v s = bare_same u v (ap (λ (x : World). x.queue) s)
bare_send u (Polled answer) v s = bare_same u v (queue_told u answer v s)
bare_send u (WroteOwn id lists closed (Ok written)) v s = bare_put u (with_out u s.3.2) v id s.3.1.queue_at s.3.5 refl
bare_send u (WroteOwn id lists closed (Err e)) v s = bare_same u v (refused s.3)
  where
    refused : WritesOwn u id lists closed s.0 (Err e) v s.2 s.1 → v.queue ≡ u.queue
    refused (inl t) = ap (λ (x : World). x.queue) t.2
    refused (inr t) = ap (λ (x : World). x.queue) t.3
bare_send u (FinishedOwn id (Ok x)) v s = bare_put u (with_out u s.1) v id s.0 s.3 refl
bare_send u (FinishedOwn id (Err e)) v s = bare_same u v (ap (λ (x : World). x.queue) s.2)
bare_send u (ResetOwn id code answer) v s = bare_same u v (ap (λ (x : World). x.queue) s.2.2)
bare_send u (SetOwnPriority id priority answer) v s = bare_same u v (ap (λ (x : World). x.queue) s.2)
bare_send u (AckedOwn id offsets fin (Ok x)) v s = bare_same u v (either-way (is_permitted u id) s
    (λ t. ap (λ (x : World). x.queue) t.3 ∙ queue_finished (with_out u t.1) id t.0)
    (λ t. ap (λ (x : World). x.queue) t))
bare_send u (AckedOwn id offsets fin (Err e)) v s = bare_same u v (ap (λ (x : World). x.queue) s.2)
bare_send u (LostOwn id offsets fin (Ok x)) v s = bare_put u (with_out u s.1) v id s.0 s.3 refl
bare_send u (LostOwn id offsets fin (Err e)) v s = bare_same u v (ap (λ (x : World). x.queue) s.1)
bare_send u (ResetAckedOwn id (Ok x)) v s = bare_same u v (either-way (frees_reset u id) s
    (λ t. ap (λ (x : World). x.queue) t ∙ queue_freed (with_out u (with_send_half u.out id None)) id)
    (λ t. ap (λ (x : World). x.queue) t))
bare_send u (ResetAckedOwn id (Err e)) v s = bare_same u v (ap (λ (x : World). x.queue) s.1)
bare_send u (TookTurn most fair None) v s =
    bare_turn u v s.before s.after s.turn.entry LetGo (ap (λ (w : World). w.queue) s.is) (ap (λ (x : Writer). x.queue) s.turn.is)
bare_send u (TookTurn most fair (Some frame)) v s =
    bare_turn u v s.before s.after s.turn.entry (next_of fair s.turn.priority s.turn.frame.has_more) (ap (λ (w : World). w.queue) s.is) s.turn.queue

bare_step : (h : List Event) (u : World) (e : Event) (v : World) → u.credit.local_max_data < 2 ^ 64 → Step u e v → BareBy u v
bare_step h u (Sending e) v fits s = bare_send u e v s
bare_step h u (Received id offset bytes fin answer) v fits s = bare_same u v (let f = firmly h u (Received id offset bytes fin answer) v fits refl s in f.queue)
bare_step h u (ReceivedReset id code final answer) v fits s = bare_same u v (let f = firmly h u (ReceivedReset id code final answer) v fits refl s in f.queue)
bare_step h u (AddedCredits count answer) v fits s = bare_same u v (let f = firmly h u (AddedCredits count answer) v fits refl s in f.queue)
bare_step h u (Began id ordered answer) v fits s = bare_same u v (let f = firmly h u (Began id ordered answer) v fits refl s in f.queue)
bare_step h u (Gave id most ordered answer) v fits s = bare_same u v (let f = firmly h u (Gave id most ordered answer) v fits refl s in f.queue)
bare_step h u (Ended id count) v fits s = bare_same u v (let f = firmly h u (Ended id count) v fits refl s in f.queue)
bare_step h u (Stopped id code answer) v fits s = bare_same u v (let f = firmly h u (Stopped id code answer) v fits refl s in f.queue)
bare_step h u (ToldReset id answer) v fits s = bare_same u v (let f = firmly h u (ToldReset id answer) v fits refl s in f.queue)
bare_step h u (Resized window answer) v fits s = bare_same u v (let f = firmly h u (Resized window answer) v fits refl s in f.queue)
bare_step h u (SetConcurrent dir count answer) v fits s = bare_same u v (let f = firmly h u (SetConcurrent dir count answer) v fits refl s in f.queue)
bare_step h u (Accepted dir answer) v fits s = bare_same u v (let f = firmly h u (Accepted dir answer) v fits refl s in f.queue)
bare_step h u (LeftPending kind frame) v fits s = bare_same u v (let f = firmly h u (LeftPending kind frame) v fits refl s in f.queue)
bare_step h u Rejected v fits s = λ b. ap (λ (x : World). x.queue.reserved) s.1
bare_step h u (SentAgain (Ok x)) v fits s = λ b. ap (λ (x : World). x.queue.reserved) s.1.2 ∙ bare_entries u.queue s.1.0 b
bare_step h u (SentAgain (Err x)) v fits s = bare_same u v (ap (λ (x : World). x.queue) s.1)

bare_run : (m : Made) (h : List Event) (v : World) → IsRun m h v → v.credit.local_max_data < 2 ^ 64 → IsBare v
bare_run m [] v run fits = ap (λ (x : World). x.queue.reserved) run.is
bare_run m (e ∷ h) v run fits =
    let before : run.0.credit.local_max_data < 2 ^ 64 = omega (arith, run.4.limit) in
    bare_step h run.0 e v before run.3 (bare_run m h run.0 run.1 before)

-- whatever calls led to an end, none is kept
pub queue-bare : (m : Made) (h : List Event) (v : World) → From m h v → v.queue.reserved ≡ None
queue-bare m h v f = bare_run m h v f.run (limit-fits _ _ _ _ v.credit f.facts.credit)
