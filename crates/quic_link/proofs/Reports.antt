-- Which streams of the peer count as accepted: one more by each call that accepts one.
use Rattle.std.proofs.Common.{◌≡◌, ℕ, ℤ, Bool, true, false, List, Option, Some, None, is_some, Result, Ok, Err, refl, sym, ap, ◌∙◌, inl, inr, ◌+◌, ◌-◌}
use Rattle.std.specs.Prelude.{not, nat_lt, ◌==◌, if◌then◌else◌}
use Rattle.quic_values.specs.declared.ids.Dir.{Dir}
use Rattle.quic_values.specs.declared.ids.Dir.TheVariants.{Bi, Uni}
use Rattle.quic_values.specs.Ids.{dir_of, index_of}
use Rattle.quic_wire.specs.declared.event.StreamEvent.{StreamEvent}
use Rattle.quic_wire.specs.declared.event.StreamEvent.TheVariants as stream_event
use Rattle.quic_wire.specs.declared.error.ReceiveError.{ReceiveError}
use Rattle.quic_wire.specs.declared.error.ReceiveError.TheVariants as receive_error
use Rattle.quic_limits.specs.Remote.{Remote, freed, one_permitted, lacks_streams, replaced, replacement, opened_up_to, opening_told, streams_announced}
use Rattle.quic_limits.specs.Own.{with_count}
use Rattle.quic_receiving.specs.Half.{Half}
use Rattle.quic_receiving.specs.declared.transmit.ShouldTransmit.{ShouldTransmit}
use Rattle.quic_receiving.specs.declared.errors.ReadError.TheVariants as read_error
use Rattle.quic_receiving.specs.declared.errors.ReadableError.TheVariants as readable_error
use Rattle.quic_sending.specs.declared.errors.HandleError.TheVariants as handle_error
use Rattle.quic_retransmits.specs.Pending.{Pending}
use Rattle.quic_assembler.specs.declared.chunk.Chunk.{Chunk}
use Rattle.quic_outgoing.specs.Outgoing.{Outgoing, own_of, with_own, with_send_half}
use Rattle.quic_receiving.specs.declared.errors.ReadError.{ReadError}
use Rattle.quic_history.specs.World.{World, is_own, remote_of, with_remote, with_receive, with_permitted, permitted_if, replaced_in, released, with_freed, sends, told, told_readable, noticed, with_credit, advanced}
use Rattle.quic_history.specs.Permitting.{after_concurrent}
use Rattle.quic_history.specs.Receiving.{Receives, ReceivesReset, after_data, credited_to}
use Rattle.quic_history.specs.Reading.{after_read}
use Rattle.quic_history.specs.Control.{SettlesEntry}
use Rattle.quic_history.specs.declared.control.ControlKind.{ControlKind}
use Rattle.quic_history.specs.declared.control.ControlKind.TheVariants as kinds
use Rattle.quic_wire.specs.declared.frame.Frame.{Frame}
use Rattle.quic_history.specs.Sends.{with_out, with_opened, told_writable, after_first_stop, is_permitted, PollsQueue, TellsNext}
use Rattle.quic_history.specs.Writes.{with_queued, WritesOwn}
use Rattle.quic_history.specs.Acknowledged.{with_send_freed, send_released, told_finished, frees_reset, without_sender, without_send_half}
use Rattle.quic_history.specs.SendEvents.{SendEvent, SendStep, GaveLimits, RaisedData, RaisedCount, RaisedLimit, StoppedOwn, SetWindow, OpenedOwn, WroteOwn, FinishedOwn, ResetOwn, SetOwnPriority, AckedOwn, LostOwn, ResetAckedOwn, TookTurn, Polled}
use Rattle.quic_history.specs.Early.{begins_anew}
use Rattle.quic_history.specs.History.{Event, Received, ReceivedReset, AddedCredits, Began, Gave, Ended, Stopped, ToldReset, Resized, SetConcurrent, Accepted, LeftPending, Sending, Step, Rejected, SentAgain, joint_move_of}
use Rattle.quic_history.proofs.SendSteps.{either-way}
use Rattle.quic_history.proofs.StreamSteps.{noticed-any}

-- the lowest index of each direction that the application did not accept
abbrev pub reports : World → ℕ × ℕ
reports w = (w.bi.next_reported, w.uni.next_reported)

abbrev Stays : World → World → Type 0
Stays u v = reports v ≡ reports u

stays_put : (w : World) (id : ℕ) (o : Option Half) → Stays w (with_receive w id o)
unfolding with_receive
stays_put w id o = refl

stays_remote : (w : World) (d : Dir) (r : Remote) → r.next_reported ≡ (remote_of w d).next_reported → Stays w (with_remote w d r)
stays_remote w Bi r e = ap (λ (n : ℕ). (n, w.uni.next_reported)) e
stays_remote w Uni r e = ap (λ (n : ℕ). (w.bi.next_reported, n)) e

stays_permitted : (w : World) (d : Dir) (index : ℕ) → Stays w (with_permitted w d index)
unfolding with_receive
stays_permitted w Bi index = refl
stays_permitted w Uni index = refl

stays_permitted_if : (w : World) (d : Dir) (o : Option ℕ) → Stays w (permitted_if w d o)
stays_permitted_if w d None = refl
stays_permitted_if w d (Some index) = stays_permitted w d index

same_replaced : (r : Remote) (b : Bool) → (if b then one_permitted (freed r) else freed r).next_reported ≡ r.next_reported
same_replaced r true = refl
same_replaced r false = refl

stays_replaced : (w : World) (d : Dir) → Stays w (replaced_in w d)
stays_replaced w d = stays_permitted_if (with_remote w d (replaced (remote_of w d))) d (replacement (remote_of w d)) ∙ stays_remote w d _ (same_replaced (remote_of w d) (lacks_streams (freed (remote_of w d))))

stays_if : (u v w : World) (b : Bool) → Stays u v → Stays u w → Stays u (if b then v else w)
stays_if u v w true s t = s
stays_if u v w false s t = t

stays_released : (w : World) (d : Dir) (id : ℕ) → Stays w (released w d id)
stays_released w Uni id = stays_replaced w Uni
stays_released w Bi id = stays_if w w (replaced_in w Bi) (sends w id) refl (stays_replaced w Bi)

stays_freed : (w : World) (id : ℕ) → Stays w (with_freed w id)
stays_freed w id =
    let u = with_receive w id None in
    stays_if w u (released u (dir_of id) id) (is_own u id) (stays_put w id None) (stays_released u (dir_of id) id ∙ stays_put w id None)

stays_at : (u v w : World) → v ≡ w → Stays u w → Stays u v
stays_at u v w e s = ap reports e ∙ s

stays_readable : (w : World) (id : ℕ) (b : Bool) → Stays w (told_readable w id b)
stays_readable w id true = refl
stays_readable w id false = refl

same_opened : (r : Remote) (index : ℕ) (b : Bool) → (if b then record r { next_remote = index + 1; opened = true } else r).next_reported ≡ r.next_reported
same_opened r index true = refl
same_opened r index false = refl

stays_noticed : (w : World) (id : ℕ) (b : Bool) → Stays w (noticed w id b)
stays_noticed w id b =
    let P : World → Type 0 = λ x. Stays w x in
    noticed-any P w id b (stays_readable w id b) (stays_remote w (dir_of id) (opened_up_to (remote_of w (dir_of id)) (index_of id)) (same_opened (remote_of w (dir_of id)) (index_of id) _))

stays_data : (u : World) (id : ℕ) (old new : Half) (fin : Bool) → Stays u (after_data u id old new fin)
stays_data u id old new fin =
    let w = advanced u id old new in
    let s : Stays u w = stays_put u id (Some new) in
    stays_if u (with_credit (if fin then with_freed w id else w) (new.end - old.end)) (noticed w id true) old.stopped
    (stays_if u (with_freed w id) w fin (stays_freed w id ∙ s) s)
    (stays_noticed w id true ∙ s)

stays_received : (u v : World) (id offset : ℕ) (bytes : List ℕ) (fin : Bool) (answer : Result ShouldTransmit ReceiveError) → Receives u id offset bytes fin answer v → Stays u v
stays_received u v id offset bytes fin (Ok transmit) (inl s) = ap reports s.3
stays_received u v id offset bytes fin (Ok transmit) (inr s) = ap reports s.5 ∙ stays_data u id s.1 s.2 fin
stays_received u v id offset bytes fin (Err (receive_error.Transport error)) (inl s) = ap reports s.1
stays_received u v id offset bytes fin (Err (receive_error.Transport error)) (inr s) = ap reports s.3 ∙ stays_put u id (Some s.1)
stays_received u v id offset bytes fin (Err receive_error.CompactionMemory) s = ap reports s.3 ∙ stays_put u id (Some s.1)
stays_received u v id offset bytes fin (Err receive_error.OutOfMemory) s = ap reports s

stays_reset : (u v : World) (id code final : ℕ) (answer : Result ShouldTransmit ReceiveError) → ReceivesReset u id code final answer v → Stays u v
stays_reset u v id code final (Ok transmit) (inl s) = ap reports s.3
stays_reset u v id code final (Ok transmit) (inr (inl s)) = ap reports s.4
stays_reset u v id code final (Ok transmit) (inr (inr s)) =
    let old = s.0 in
    let new = s.1 in
    let w = advanced u id old new in
    let x = noticed w id (not old.stopped) in
    let y = if old.stopped then with_freed x id else x in
    let m : Stays u x = stays_noticed w id (not old.stopped) ∙ stays_put u id (Some new) in
    let n : Stays u y = stays_if u (with_freed x id) x old.stopped (stays_freed x id ∙ m) m in
    ap reports s.4 ∙ stays_if u y (with_credit y (new.end - credited_to old)) (new.end - credited_to old == 0) n n
stays_reset u v id code final (Err (receive_error.Transport error)) (inl s) = ap reports s.1
stays_reset u v id code final (Err (receive_error.Transport error)) (inr s) = ap reports s.3
stays_reset u v id code final (Err receive_error.CompactionMemory) s = absurd s
stays_reset u v id code final (Err receive_error.OutOfMemory) s = ap reports s

stays_concurrent : (u : World) (d : Dir) (count : ℕ) → Stays u (after_concurrent u d count)
stays_concurrent u Bi count = refl
stays_concurrent u Uni count = refl

stays_settled : (kind : ControlKind) (u : World) (p : Pending) (o : Option Frame) (v : World) (q : Pending) → SettlesEntry kind u p o v q → Stays u v
stays_settled kinds.ResetStream u p o v q s = ap reports s.end
stays_settled kinds.StopSending u p o v q s = ap reports s.end
stays_settled kinds.MaxData u p o v q s = ap reports s.end
stays_settled kinds.MaxStreamData u p o v q s = ap reports s.end
stays_settled (kinds.MaxStreams d) u p o v q s = ap reports s.end ∙ stays_remote u d (streams_announced (remote_of u d)) refl
stays_settled kinds.DataBlocked u p o v q s = ap reports s.end
stays_settled kinds.StreamDataBlocked u p o v q s = ap reports s.end

stays_queued : (u : World) (id : ℕ) (o : Option ℤ) → Stays u (with_queued u id o)
stays_queued u id None = refl
stays_queued u id (Some priority) = refl

stays_send_released : (w : World) (d : Dir) (id : ℕ) → Stays w (send_released w d id)
stays_send_released w Uni id = refl
stays_send_released w Bi id = stays_if w w (replaced_in w Bi) (is_some (w.receive id)) refl (stays_replaced w Bi)

stays_send_half : (w : World) (id : ℕ) → Stays w (without_send_half w id)
stays_send_half w id = stays_if w w (send_released w (dir_of id) id) (is_own w id) refl (stays_send_released w (dir_of id) id)

stays_send_freed : (w : World) (id : ℕ) → Stays w (with_send_freed w id)
stays_send_freed w id = stays_send_half (without_sender w id) id

stays_finished : (w : World) (id : ℕ) (b : Bool) → Stays w (told_finished w id b)
stays_finished w id true = stays_send_freed w id
stays_finished w id false = refl

stays_opened : (u : World) (d : Dir) (id : ℕ) (o : Outgoing) → Stays u (with_opened u d id o)
unfolding with_receive
stays_opened u Bi id o = refl
stays_opened u Uni id o = refl

stays_queue : (w : World) (writable : Option ℕ) (answer : Option StreamEvent) (v : World) → PollsQueue w writable answer v → Stays w v
stays_queue w (Some id) answer v s = ap reports s.1
stays_queue w None answer v s = ap reports s.2

stays_polled : (u : World) (answer : Option StreamEvent) (v : World) → TellsNext u answer v → Stays u v
stays_polled u answer v s = either-way u.bi.opened s
    (λ t. ap reports t.1 ∙ stays_remote u Bi (opening_told u.bi) refl)
    (λ t. either-way u.uni.opened t
    (λ k. ap reports k.1 ∙ stays_remote u Uni (opening_told u.uni) refl)
    (λ p. stays_queue (with_out u p.1) p.0 answer v p.3))

stays_read : (u : World) (id : ℕ) (new : Half) (answer : Result (Option Chunk) ReadError) → Stays u (after_read u id new answer)
stays_read u id new (Ok (Some chunk)) = stays_put u id (Some new)
stays_read u id new (Ok None) = stays_freed u id
stays_read u id new (Err read_error.Blocked) = stays_put u id (Some new)
stays_read u id new (Err (read_error.Reset code)) = stays_freed u id
stays_read u id new (Err read_error.OutOfMemory) = stays_put u id (Some new)

stays_writable : (w : World) (id : ℕ) (b : Bool) → Stays w (told_writable w id b)
stays_writable w id true = refl
stays_writable w id false = refl

stays_first_stop : (w : World) (id code : ℕ) (b : Bool) → Stays w (after_first_stop w id code b)
stays_first_stop w id code true = stays_noticed (told w (stream_event.Stopped id code)) id false
stays_first_stop w id code false = refl

stays_send : (u : World) (e : SendEvent) (v : World) → SendStep u e v → Stays u v
stays_send u (GaveLimits limits (Ok x)) v s = ap reports s
stays_send u (GaveLimits limits (Err e)) v s = ap reports s
stays_send u (OpenedOwn dir closed (Ok None)) v s = ap reports s.1
stays_send u (OpenedOwn dir closed (Ok (Some id))) v s = ap reports s.3 ∙ stays_opened u dir id s.1
stays_send u (OpenedOwn dir closed (Err e)) v s = ap reports s
stays_send u (RaisedData limit) v s = ap reports s
stays_send u (RaisedCount dir count (Ok x)) v s =
    let w = with_out u (with_own u.out dir (with_count (own_of u.out dir) count)) in
    ap reports s.1 ∙ stays_if u (told w (stream_event.Available dir)) w (nat_lt (own_of u.out dir).limit count) refl refl
stays_send u (RaisedCount dir count (Err (receive_error.Transport error))) v s = ap reports s.2
stays_send u (RaisedCount dir count (Err receive_error.CompactionMemory)) v s = absurd s
stays_send u (RaisedCount dir count (Err receive_error.OutOfMemory)) v s = ap reports s.2
stays_send u (RaisedLimit id limit (Ok x)) v s = ap reports s.4 ∙ stays_noticed (told_writable (with_out u s.2) id s.1) id false ∙ stays_writable (with_out u s.2) id s.1
stays_send u (RaisedLimit id limit (Err (receive_error.Transport error))) v s = ap reports s.1
stays_send u (RaisedLimit id limit (Err receive_error.CompactionMemory)) v s = absurd s
stays_send u (RaisedLimit id limit (Err receive_error.OutOfMemory)) v s = ap reports s
stays_send u (StoppedOwn id code (Ok x)) v s = either-way (is_permitted u id) s
    (λ t. ap reports t.3 ∙ stays_first_stop (with_out u t.1) id code t.0)
    (λ t. ap reports t)
stays_send u (StoppedOwn id code (Err e)) v s = ap reports s
stays_send u (SetWindow window) v s = ap reports s
stays_send u (Polled answer) v s = stays_polled u answer v s
stays_send u (WroteOwn id lists closed (Ok written)) v s = ap reports s.3.5 ∙ stays_queued (with_out u s.3.2) id s.3.1.queue_at
stays_send u (WroteOwn id lists closed (Err e)) v s = refused s.3
  where
    refused : WritesOwn u id lists closed s.0 (Err e) v s.2 s.1 → reports v ≡ reports u
    refused (inl t) = ap reports t.2
    refused (inr t) = ap reports t.3
stays_send u (FinishedOwn id (Ok x)) v s = ap reports s.3 ∙ stays_queued (with_out u s.1) id s.0
stays_send u (FinishedOwn id (Err e)) v s = ap reports s.2
stays_send u (ResetOwn id code answer) v s = ap reports s.2.2
stays_send u (SetOwnPriority id priority answer) v s = ap reports s.2
stays_send u (AckedOwn id offsets fin (Ok x)) v s = either-way (is_permitted u id) s
    (λ t. ap reports t.3 ∙ stays_finished (with_out u t.1) id t.0)
    (λ t. ap reports t)
stays_send u (AckedOwn id offsets fin (Err e)) v s = ap reports s.2
stays_send u (LostOwn id offsets fin (Ok x)) v s = ap reports s.3 ∙ stays_queued (with_out u s.1) id s.0
stays_send u (LostOwn id offsets fin (Err e)) v s = ap reports s.1
stays_send u (ResetAckedOwn id (Ok x)) v s = either-way (frees_reset u id) s
    (λ t. ap reports t ∙ stays_send_freed (with_out u (with_send_half u.out id None)) id)
    (λ t. ap reports t)
stays_send u (ResetAckedOwn id (Err e)) v s = ap reports s.1
stays_send u (TookTurn most fair None) v s = ap reports s.is ∙ sym (ap reports s.found)
stays_send u (TookTurn most fair (Some frame)) v s = ap reports s.is ∙ sym (ap reports s.found)

-- whether a call accepts a stream
abbrev pub is_accepting : Event → Bool
is_accepting (Accepted dir answer) = true
is_accepting _ = false

-- no other call makes one count as accepted
pub reports-step : (u : World) (e : Event) (v : World) → begins_anew (joint_move_of e) ≡ false → is_accepting e ≡ false → Step u e v → reports v ≡ reports u
reports-step u (Received id offset bytes fin answer) v p n s = stays_received u v id offset bytes fin answer s
reports-step u (ReceivedReset id code final answer) v p n s = stays_reset u v id code final answer s
reports-step u (AddedCredits count answer) v p n s = ap reports s.0
reports-step u (Began id ordered (Ok x)) v p n s = ap reports s.is ∙ stays_put u id (Some s.new)
reports-step u (Began id ordered (Err readable_error.ClosedStream)) v p n s = ap reports s.1
reports-step u (Began id ordered (Err readable_error.IllegalOrderedRead)) v p n s = ap reports s.is ∙ stays_put u id (Some s.new)
reports-step u (Began id ordered (Err readable_error.OutOfMemory)) v p n s = elim s [ inl t ↦ ap reports t | inr t ↦ ap reports t.is ∙ stays_put u id (Some t.new) ]
reports-step u (Gave id most ordered answer) v p n s = ap reports s.is ∙ stays_read u id s.new answer
reports-step u (Ended id count) v p n s = ap reports s
reports-step u (Stopped id code (Ok x)) v p n s =
    ap reports s.2.6 ∙ stays_if u (with_freed u id) (with_receive u id (Some s.2.1)) (is_some s.2.0.size) (stays_freed u id) (stays_put u id (Some s.2.1))
reports-step u (Stopped id code (Err handle_error.ClosedStream)) v p n s = ap reports s.2.1
reports-step u (Stopped id code (Err handle_error.OutOfMemory)) v p n s = ap reports s.2.0
reports-step u (ToldReset id (Ok (Some code))) v p n s = ap reports s.2.4 ∙ stays_freed u id
reports-step u (ToldReset id (Ok None)) v p n s = ap reports s.2.4
reports-step u (ToldReset id (Err handle_error.ClosedStream)) v p n s = ap reports s.2.1
reports-step u (ToldReset id (Err handle_error.OutOfMemory)) v p n s = ap reports s.2.3
reports-step u (Resized window answer) v p n s = ap reports s.0
reports-step u (SetConcurrent dir count (Ok k)) v p n s = ap reports s ∙ stays_concurrent u dir count
reports-step u (SetConcurrent dir count (Err k)) v p n s = ap reports s
reports-step u (Accepted dir answer) v p n s = cc
reports-step u (LeftPending kind frame) v p n s = stays_settled kind u s.0 frame v s.1 s.2
reports-step u (Sending e) v p n s = stays_send u e v s
reports-step u Rejected v p n s = cc
reports-step u (SentAgain (Ok x)) v p n s = ap reports s.1.2
reports-step u (SentAgain (Err x)) v p n s = ap reports s.1
