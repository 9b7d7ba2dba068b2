-- Which streams of the peer count as opened: those of frames that came, and those below.
use Rattle.std.proofs.Common.{◌≡◌, ◌⊎◌, ℕ, ℤ, Bool, true, false, List, [], ◌∷◌, Option, Some, None, is_some, Result, Ok, Err, refl, sym, ap, ◌∙◌, subst, inl, inr, arith, ◌+◌, ◌-◌, ◌≤◌}
use Rattle.std.specs.Prelude.{◌++◌, ◌&&◌, not, nat_le, nat_lt, ◌==◌, if◌then◌else◌}
use Rattle.quic_values.specs.declared.ids.Dir.{Dir}
use Rattle.quic_values.specs.declared.ids.Dir.TheVariants.{Bi, Uni}
use Rattle.quic_values.specs.Ids.{dir_of, index_of}
use Rattle.quic_wire.specs.declared.event.StreamEvent.{StreamEvent}
use Rattle.quic_wire.specs.declared.event.StreamEvent.TheVariants as stream_event
use Rattle.quic_wire.specs.declared.error.ReceiveError.{ReceiveError}
use Rattle.quic_wire.specs.declared.error.ReceiveError.TheVariants as receive_error
use Rattle.quic_limits.specs.Remote.{Remote, freed, one_permitted, lacks_streams, replaced, replacement, opened_up_to, one_accepted, opening_told, streams_announced}
use Rattle.quic_limits.specs.Own.{with_count}
use Rattle.quic_receiving.specs.Half.{Half}
use Rattle.quic_receiving.specs.declared.transmit.ShouldTransmit.{ShouldTransmit}
use Rattle.quic_receiving.specs.declared.errors.ReadError.TheVariants as read_error
use Rattle.quic_receiving.specs.declared.errors.ReadableError.TheVariants as readable_error
use Rattle.quic_sending.specs.declared.errors.HandleError.TheVariants as handle_error
use Rattle.quic_retransmits.specs.Pending.{Pending}
use Rattle.quic_assembler.specs.declared.chunk.Chunk.{Chunk}
use Rattle.quic_sending.specs.declared.send.Send.{Send}
use Rattle.quic_outgoing.specs.Outgoing.{Outgoing, own_of, with_own, with_send_half, waiting, marked, is_stuck}
use Rattle.quic_outgoing.specs.Calls.{after_rise, with_rise, is_woken, with_stop_reason}
use Rattle.quic_receiving.specs.declared.errors.ReadError.{ReadError}
use Rattle.quic_history.specs.World.{World, is_own, remote_of, with_remote, with_receive, with_permitted, permitted_if, replaced_in, released, with_freed, sends, told, told_readable, noticed, with_credit, advanced}
use Rattle.quic_history.specs.Permitting.{after_concurrent}
use Rattle.quic_history.specs.Receiving.{Receives, ReceivesReset, after_data, after_reset, credited_to}
use Rattle.quic_history.specs.Reading.{after_read}
use Rattle.quic_history.specs.Control.{SettlesEntry}
use Rattle.quic_history.specs.declared.control.ControlKind.{ControlKind}
use Rattle.quic_history.specs.declared.control.ControlKind.TheVariants as kinds
use Rattle.quic_wire.specs.declared.frame.Frame.{Frame}
use Rattle.quic_history.specs.Sends.{with_out, with_opened, told_writable, after_first_stop, is_permitted, PollsQueue, TellsNext}
use Rattle.quic_history.specs.Writes.{with_queued, WritesOwn}
use Rattle.quic_history.specs.Acknowledged.{with_send_freed, send_released, told_finished, frees_reset, without_sender, without_send_half}
use Rattle.quic_history.specs.SendEvents.{SendEvent, SendStep, GaveLimits, RaisedData, RaisedCount, RaisedLimit, StoppedOwn, SetWindow, OpenedOwn, WroteOwn, FinishedOwn, ResetOwn, SetOwnPriority, AckedOwn, LostOwn, ResetAckedOwn, TookTurn, Polled}
use Rattle.quic_history.specs.Early.{begins_anew}
use Rattle.quic_history.specs.History.{Event, Received, ReceivedReset, AddedCredits, Began, Gave, Ended, Stopped, ToldReset, Resized, SetConcurrent, Accepted, LeftPending, Sending, Step, Rejected, SentAgain, joint_move_of}
use Rattle.quic_history.proofs.SendSteps.{either-way}

-- the lowest index of each direction that the peer did not open
abbrev pub nexts : World → ℕ × ℕ
nexts w = (w.bi.next_remote, w.uni.next_remote)

abbrev pub next_of_dir : ℕ × ℕ → Dir → ℕ
next_of_dir p Bi = p.0
next_of_dir p Uni = p.1

abbrev pub Stays : World → World → Type 0
Stays u v = nexts v ≡ nexts u

-- a frame on a stream of the peer opens it, and those below
abbrev pub Meets : World → World → ℕ → Type 0
Meets u v id = (d : Dir) → (next_of_dir (nexts v) d ≤ next_of_dir (nexts u) d) ⊎ ((is_own u id ≡ false) × (dir_of id ≡ d) × (next_of_dir (nexts v) d ≤ index_of id + 1))

pub stays_put : (w : World) (id : ℕ) (o : Option Half) → Stays w (with_receive w id o)
unfolding with_receive
stays_put w id o = refl

side_put : (w : World) (id : ℕ) (o : Option Half) → (with_receive w id o).out ≡ w.out
unfolding with_receive
side_put w id o = refl

stays_remote : (w : World) (d : Dir) (r : Remote) → r.next_remote ≡ (remote_of w d).next_remote → Stays w (with_remote w d r)
stays_remote w Bi r e = ap (λ (n : ℕ). (n, w.uni.next_remote)) e
stays_remote w Uni r e = ap (λ (n : ℕ). (w.bi.next_remote, n)) e

stays_permitted : (w : World) (d : Dir) (index : ℕ) → Stays w (with_permitted w d index)
unfolding with_receive
stays_permitted w Bi index = refl
stays_permitted w Uni index = refl

stays_permitted_if : (w : World) (d : Dir) (o : Option ℕ) → Stays w (permitted_if w d o)
stays_permitted_if w d None = refl
stays_permitted_if w d (Some index) = stays_permitted w d index

same_replaced : (r : Remote) (b : Bool) → (if b then one_permitted (freed r) else freed r).next_remote ≡ r.next_remote
same_replaced r true = refl
same_replaced r false = refl

stays_replaced : (w : World) (d : Dir) → Stays w (replaced_in w d)
stays_replaced w d = stays_permitted_if (with_remote w d (replaced (remote_of w d))) d (replacement (remote_of w d)) ∙ stays_remote w d _ (same_replaced (remote_of w d) (lacks_streams (freed (remote_of w d))))

pub stays_if : (u v w : World) (b : Bool) → Stays u v → Stays u w → Stays u (if b then v else w)
stays_if u v w true s t = s
stays_if u v w false s t = t

stays_released : (w : World) (d : Dir) (id : ℕ) → Stays w (released w d id)
stays_released w Uni id = stays_replaced w Uni
stays_released w Bi id = stays_if w w (replaced_in w Bi) (sends w id) refl (stays_replaced w Bi)

pub stays_freed : (w : World) (id : ℕ) → Stays w (with_freed w id)
stays_freed w id =
    let u = with_receive w id None in
    stays_if w u (released u (dir_of id) id) (is_own u id) (stays_put w id None) (stays_released u (dir_of id) id ∙ stays_put w id None)

stays_at : (u v w : World) → v ≡ w → Stays u w → Stays u v
stays_at u v w e s = ap nexts e ∙ s

side_if : (u v w : World) (b : Bool) → v.out.side ≡ u.out.side → w.out.side ≡ u.out.side → (if b then v else w).out.side ≡ u.out.side
side_if u v w true s t = s
side_if u v w false s t = t

-- ---- a frame that is noticed

meets-same : (u v : World) (id : ℕ) → Stays u v → Meets u v id
meets-same u v id s d = let k : next_of_dir (nexts v) d ≡ next_of_dir (nexts u) d = ap (λ p. next_of_dir p d) s in inl (omega arith)

meets_at : (u v w : World) (id : ℕ) → v ≡ w → Meets u w id → Meets u v id
meets_at u v w id e m = let P : World → Type 0 = λ x. Meets u x id in subst P (sym e) m

-- what was noticed of a world that stays
meets_from : (u w v : World) (id : ℕ) → Stays u w → is_own w id ≡ is_own u id → Meets w v id → Meets u v id
meets_from u w v id s o m d =
    let k : next_of_dir (nexts w) d ≡ next_of_dir (nexts u) d = ap (λ p. next_of_dir p d) s in
    elim (m d) [ inl a ↦ inl (omega arith) | inr b ↦ inr (sym o ∙ b.0, b.1, b.2) ]

opened_next : (r : Remote) (index : ℕ) (b : Bool) → ((if b then record r { next_remote = index + 1; opened = true } else r).next_remote ≤ r.next_remote) ⊎ ((if b then record r { next_remote = index + 1; opened = true } else r).next_remote ≤ index + 1)
opened_next r index true = inr (omega arith)
opened_next r index false = inl (omega arith)

meets_remote : (w : World) (e : Dir) (r : Remote) (n : ℕ) (id : ℕ) → is_own w id ≡ false → dir_of id ≡ e → (r.next_remote ≤ (remote_of w e).next_remote) ⊎ (r.next_remote ≤ index_of id + 1) → Meets w (with_remote w e r) id
meets_remote w Bi r n id o e k Bi = elim k [ inl a ↦ inl a | inr b ↦ inr (o, e, b) ]
meets_remote w Bi r n id o e k Uni = inl (omega arith)
meets_remote w Uni r n id o e k Bi = inl (omega arith)
meets_remote w Uni r n id o e k Uni = elim k [ inl a ↦ inl a | inr b ↦ inr (o, e, b) ]

pub stays_readable : (w : World) (id : ℕ) (b : Bool) → Stays w (told_readable w id b)
stays_readable w id true = refl
stays_readable w id false = refl

meets_noticed : (w : World) (id : ℕ) (b : Bool) → Meets w (noticed w id b) id
meets_noticed w id b = by_own (is_own w id) refl
  where
    by_first : (c : Bool) → is_own w id ≡ false → Meets w (if c then with_remote w (dir_of id) (opened_up_to (remote_of w (dir_of id)) (index_of id)) else told_readable w id b) id
    by_first true o = meets_remote w (dir_of id) (opened_up_to (remote_of w (dir_of id)) (index_of id)) 0 id o refl (opened_next (remote_of w (dir_of id)) (index_of id) (nat_le (remote_of w (dir_of id)).next_remote (index_of id)))
    by_first false o = meets-same w (told_readable w id b) id (stays_readable w id b)

    by_own : (c : Bool) → is_own w id ≡ c
        → Meets w (if c then told_readable w id b else (if nat_le (remote_of w (dir_of id)).next_remote (index_of id) then with_remote w (dir_of id) (opened_up_to (remote_of w (dir_of id)) (index_of id)) else told_readable w id b)) id
    by_own true o = meets-same w (told_readable w id b) id (stays_readable w id b)
    by_own false o = by_first (nat_le (remote_of w (dir_of id)).next_remote (index_of id)) o

meets_if : (u v w : World) (id : ℕ) (b : Bool) → Meets u v id → Meets u w id → Meets u (if b then v else w) id
meets_if u v w id true s t = s
meets_if u v w id false s t = t

-- what came after it stays
meets_then : (u w v : World) (id : ℕ) → Meets u w id → Stays w v → Meets u v id
meets_then u w v id m s d =
    let k : next_of_dir (nexts v) d ≡ next_of_dir (nexts w) d = ap (λ p. next_of_dir p d) s in
    elim (m d) [ inl a ↦ inl (omega arith) | inr b ↦ inr (b.0, b.1, omega arith) ]

own_put : (u : World) (id q : ℕ) (o : Option Half) → is_own (with_receive u id o) q ≡ is_own u q
unfolding with_receive
own_put u id q o = refl

meets_data : (u : World) (id : ℕ) (old new : Half) (fin : Bool) → Meets u (after_data u id old new fin) id
meets_data u id old new fin =
    let w = advanced u id old new in
    let s : Stays u w = stays_put u id (Some new) in
    meets_if u (with_credit (if fin then with_freed w id else w) (new.end - old.end)) (noticed w id true) id old.stopped
    (meets-same u (with_credit (if fin then with_freed w id else w) (new.end - old.end)) id (stays_if u (with_freed w id) w fin (stays_freed w id ∙ s) s))
    (meets_from u w (noticed w id true) id s (own_put u id id (Some new)) (meets_noticed w id true))

meets_received : (u v : World) (id offset : ℕ) (bytes : List ℕ) (fin : Bool) (answer : Result ShouldTransmit ReceiveError) → Receives u id offset bytes fin answer v → Meets u v id
meets_received u v id offset bytes fin (Ok transmit) (inl s) = meets-same u v id (ap nexts s.3)
meets_received u v id offset bytes fin (Ok transmit) (inr s) = meets_at u v _ id s.5 (meets_data u id s.1 s.2 fin)
meets_received u v id offset bytes fin (Err (receive_error.Transport error)) (inl s) = meets-same u v id (ap nexts s.1)
meets_received u v id offset bytes fin (Err (receive_error.Transport error)) (inr s) = meets-same u v id (ap nexts s.3 ∙ stays_put u id (Some s.1))
meets_received u v id offset bytes fin (Err receive_error.CompactionMemory) s = meets-same u v id (ap nexts s.3 ∙ stays_put u id (Some s.1))
meets_received u v id offset bytes fin (Err receive_error.OutOfMemory) s = meets-same u v id (ap nexts s)

meets_reset : (u v : World) (id code final : ℕ) (answer : Result ShouldTransmit ReceiveError) → ReceivesReset u id code final answer v → Meets u v id
meets_reset u v id code final (Ok transmit) (inl s) = meets-same u v id (ap nexts s.3)
meets_reset u v id code final (Ok transmit) (inr (inl s)) = meets-same u v id (ap nexts s.4)
meets_reset u v id code final (Ok transmit) (inr (inr s)) =
    let old = s.0 in
    let new = s.1 in
    let w = advanced u id old new in
    let x = noticed w id (not old.stopped) in
    let y = if old.stopped then with_freed x id else x in
    let m : Meets u x id = meets_from u w x id (stays_put u id (Some new)) (own_put u id id (Some new)) (meets_noticed w id (not old.stopped)) in
    meets_at u v _ id s.4
    (meets_then u x (after_reset u id old new) id m
    (stays_if x y (with_credit y (new.end - credited_to old)) (new.end - credited_to old == 0)
    (stays_if x (with_freed x id) x old.stopped (stays_freed x id) refl)
    (stays_if x (with_freed x id) x old.stopped (stays_freed x id) refl)))
meets_reset u v id code final (Err (receive_error.Transport error)) (inl s) = meets-same u v id (ap nexts s.1)
meets_reset u v id code final (Err (receive_error.Transport error)) (inr s) = meets-same u v id (ap nexts s.3)
meets_reset u v id code final (Err receive_error.CompactionMemory) s = absurd s
meets_reset u v id code final (Err receive_error.OutOfMemory) s = meets-same u v id (ap nexts s)

-- ---- reads, stops, and what is permitted

stays_concurrent : (u : World) (d : Dir) (count : ℕ) → Stays u (after_concurrent u d count)
stays_concurrent u Bi count = refl
stays_concurrent u Uni count = refl

accepted_next : (r : Remote) (b : Bool) → (if b then record r { next_reported = r.next_reported + 1 } else r).next_remote ≡ r.next_remote
accepted_next r true = refl
accepted_next r false = refl

stays_settled : (kind : ControlKind) (u : World) (p : Pending) (o : Option Frame) (v : World) (q : Pending) → SettlesEntry kind u p o v q → Stays u v
stays_settled kinds.ResetStream u p o v q s = ap nexts s.end
stays_settled kinds.StopSending u p o v q s = ap nexts s.end
stays_settled kinds.MaxData u p o v q s = ap nexts s.end
stays_settled kinds.MaxStreamData u p o v q s = ap nexts s.end
stays_settled (kinds.MaxStreams d) u p o v q s = ap nexts s.end ∙ stays_remote u d (streams_announced (remote_of u d)) refl
stays_settled kinds.DataBlocked u p o v q s = ap nexts s.end
stays_settled kinds.StreamDataBlocked u p o v q s = ap nexts s.end

-- ---- the sending side

stays_queued : (u : World) (id : ℕ) (o : Option ℤ) → Stays u (with_queued u id o)
stays_queued u id None = refl
stays_queued u id (Some priority) = refl

stays_send_released : (w : World) (d : Dir) (id : ℕ) → Stays w (send_released w d id)
stays_send_released w Uni id = refl
stays_send_released w Bi id = stays_if w w (replaced_in w Bi) (is_some (w.receive id)) refl (stays_replaced w Bi)

stays_send_half : (w : World) (id : ℕ) → Stays w (without_send_half w id)
stays_send_half w id = stays_if w w (send_released w (dir_of id) id) (is_own w id) refl (stays_send_released w (dir_of id) id)

stays_send_freed : (w : World) (id : ℕ) → Stays w (with_send_freed w id)
stays_send_freed w id = stays_send_half (without_sender w id) id

stays_finished : (w : World) (id : ℕ) (b : Bool) → Stays w (told_finished w id b)
stays_finished w id true = stays_send_freed w id
stays_finished w id false = refl

stays_opened : (u : World) (d : Dir) (id : ℕ) (o : Outgoing) → Stays u (with_opened u d id o)
unfolding with_receive
stays_opened u Bi id o = refl
stays_opened u Uni id o = refl

stays_queue : (w : World) (writable : Option ℕ) (answer : Option StreamEvent) (v : World) → PollsQueue w writable answer v → Stays w v
stays_queue w (Some id) answer v s = ap nexts s.1
stays_queue w None answer v s = ap nexts s.2

stays_polled : (u : World) (answer : Option StreamEvent) (v : World) → TellsNext u answer v → Stays u v
stays_polled u answer v s = either-way u.bi.opened s
    (λ t. ap nexts t.1 ∙ stays_remote u Bi (opening_told u.bi) refl)
    (λ t. either-way u.uni.opened t
    (λ k. ap nexts k.1 ∙ stays_remote u Uni (opening_told u.uni) refl)
    (λ p. stays_queue (with_out u p.1) p.0 answer v p.3))

meets_limit : (u : World) (id : ℕ) (o : Outgoing) (b : Bool) → o.side ≡ u.out.side → Meets u (noticed (told_writable (with_out u o) id b) id false) id
meets_limit u id o b e =
    let w = told_writable (with_out u o) id b in
    meets_from u w (noticed w id false) id (stays_writable (with_out u o) id b) (own_writable (with_out u o) id b ∙ ap (λ s. is_own (record u { out = record u.out { side = s } }) id) e) (meets_noticed w id false)
  where
    stays_writable : (w : World) (id : ℕ) (b : Bool) → Stays w (told_writable w id b)
    stays_writable w id true = refl
    stays_writable w id false = refl

    own_writable : (w : World) (id : ℕ) (b : Bool) → is_own (told_writable w id b) id ≡ is_own w id
    own_writable w id true = refl
    own_writable w id false = refl

meets_stop : (u : World) (id code : ℕ) (o : Outgoing) (b : Bool) → o.side ≡ u.out.side → Meets u (after_first_stop (with_out u o) id code b) id
meets_stop u id code o true e =
    let w = told (with_out u o) (stream_event.Stopped id code) in
    meets_from u w (noticed w id false) id refl (ap (λ s. is_own (record u { out = record u.out { side = s } }) id) e) (meets_noticed w id false)
meets_stop u id code o false e = meets-same u (with_out u o) id refl

side_out_if : (a b c : Outgoing) (k : Bool) → b.side ≡ a.side → c.side ≡ a.side → (if k then b else c).side ≡ a.side
side_out_if a b c true s t = s
side_out_if a b c false s t = t

side_waiting : (a : Outgoing) (id : ℕ) (s : Send) → (waiting a id s).side ≡ a.side
side_waiting a id s = side_out_if a (with_send_half a id (Some s)) (record (with_send_half a id (Some (marked true s))) { blocked = a.blocked ++ id ∷ [] }) s.connection_blocked refl refl

side_rise : (a : Outgoing) (id n : ℕ) (o : Option Send) → (after_rise a id n o).side ≡ a.side
side_rise a id n None = refl
side_rise a id n (Some s) = side_out_if a (waiting a id (with_rise s n)) (with_send_half a id (Some (with_rise s n))) (is_woken s n && is_stuck a) (side_waiting a id (with_rise s n)) refl

side_stop : (a : Outgoing) (id code : ℕ) (o : Option Send) → (with_stop_reason a id code o).side ≡ a.side
side_stop a id code None = refl
side_stop a id code (Some s) = refl

-- the stream of a frame that came
abbrev pub frame_id : Event → Option ℕ
frame_id (Received id offset bytes fin answer) = Some id
frame_id (ReceivedReset id code final answer) = Some id
frame_id (Sending (RaisedLimit id limit answer)) = Some id
frame_id (Sending (StoppedOwn id code answer)) = Some id
frame_id _ = None

abbrev pub MeetsBy : World → World → Option ℕ → Type 0
MeetsBy u v None = nexts v ≡ nexts u
MeetsBy u v (Some id) = Meets u v id

meets_send : (u : World) (e : SendEvent) (v : World) → SendStep u e v → MeetsBy u v (frame_id (Sending e))
meets_send u (GaveLimits limits (Ok x)) v s = ap nexts s
meets_send u (GaveLimits limits (Err e)) v s = ap nexts s
meets_send u (OpenedOwn dir closed (Ok None)) v s = ap nexts s.1
meets_send u (OpenedOwn dir closed (Ok (Some id))) v s = ap nexts s.3 ∙ stays_opened u dir id s.1
meets_send u (OpenedOwn dir closed (Err e)) v s = ap nexts s
meets_send u (RaisedData limit) v s = ap nexts s
meets_send u (RaisedCount dir count (Ok x)) v s =
    let w = with_out u (with_own u.out dir (with_count (own_of u.out dir) count)) in
    ap nexts s.1 ∙ stays_if u (told w (stream_event.Available dir)) w (nat_lt (own_of u.out dir).limit count) refl refl
meets_send u (RaisedCount dir count (Err (receive_error.Transport error))) v s = ap nexts s.2
meets_send u (RaisedCount dir count (Err receive_error.CompactionMemory)) v s = absurd s
meets_send u (RaisedCount dir count (Err receive_error.OutOfMemory)) v s = ap nexts s.2
meets_send u (RaisedLimit id limit (Ok x)) v s = meets_at u v _ id s.4 (meets_limit u id s.2 s.1 (ap (λ (o : Outgoing). o.side) s.3.1 ∙ side_rise u.out id limit (u.out.halves id)))
meets_send u (RaisedLimit id limit (Err (receive_error.Transport error))) v s = meets-same u v id (ap nexts s.1)
meets_send u (RaisedLimit id limit (Err receive_error.CompactionMemory)) v s = absurd s
meets_send u (RaisedLimit id limit (Err receive_error.OutOfMemory)) v s = meets-same u v id (ap nexts s)
meets_send u (StoppedOwn id code (Ok x)) v s = either-way (is_permitted u id) s
    (λ t. meets_at u v _ id t.3 (meets_stop u id code t.1 t.0 (ap (λ (o : Outgoing). o.side) t.2.1 ∙ side_stop u.out id code (u.out.halves id))))
    (λ t. meets-same u v id (ap nexts t))
meets_send u (StoppedOwn id code (Err e)) v s = meets-same u v id (ap nexts s)
meets_send u (SetWindow window) v s = ap nexts s
meets_send u (Polled answer) v s = stays_polled u answer v s
meets_send u (WroteOwn id lists closed (Ok written)) v s = ap nexts s.3.5 ∙ stays_queued (with_out u s.3.2) id s.3.1.queue_at
meets_send u (WroteOwn id lists closed (Err e)) v s = refused s.3
  where
    refused : WritesOwn u id lists closed s.0 (Err e) v s.2 s.1 → nexts v ≡ nexts u
    refused (inl t) = ap nexts t.2
    refused (inr t) = ap nexts t.3
meets_send u (FinishedOwn id (Ok x)) v s = ap nexts s.3 ∙ stays_queued (with_out u s.1) id s.0
meets_send u (FinishedOwn id (Err e)) v s = ap nexts s.2
meets_send u (ResetOwn id code answer) v s = ap nexts s.2.2
meets_send u (SetOwnPriority id priority answer) v s = ap nexts s.2
meets_send u (AckedOwn id offsets fin (Ok x)) v s = either-way (is_permitted u id) s
    (λ t. ap nexts t.3 ∙ stays_finished (with_out u t.1) id t.0)
    (λ t. ap nexts t)
meets_send u (AckedOwn id offsets fin (Err e)) v s = ap nexts s.2
meets_send u (LostOwn id offsets fin (Ok x)) v s = ap nexts s.3 ∙ stays_queued (with_out u s.1) id s.0
meets_send u (LostOwn id offsets fin (Err e)) v s = ap nexts s.1
meets_send u (ResetAckedOwn id (Ok x)) v s = either-way (frees_reset u id) s
    (λ t. ap nexts t ∙ stays_send_freed (with_out u (with_send_half u.out id None)) id)
    (λ t. ap nexts t)
meets_send u (ResetAckedOwn id (Err e)) v s = ap nexts s.1
meets_send u (TookTurn most fair None) v s = ap nexts s.is ∙ sym (ap nexts s.found)
meets_send u (TookTurn most fair (Some frame)) v s = ap nexts s.is ∙ sym (ap nexts s.found)

stays_read : (u : World) (id : ℕ) (new : Half) (answer : Result (Option Chunk) ReadError) → Stays u (after_read u id new answer)
stays_read u id new (Ok (Some chunk)) = stays_put u id (Some new)
stays_read u id new (Ok None) = stays_freed u id
stays_read u id new (Err read_error.Blocked) = stays_put u id (Some new)
stays_read u id new (Err (read_error.Reset code)) = stays_freed u id
stays_read u id new (Err read_error.OutOfMemory) = stays_put u id (Some new)

-- a call makes the peer's streams count as opened only by a frame
pub meets-step : (u : World) (e : Event) (v : World) → begins_anew (joint_move_of e) ≡ false → Step u e v → MeetsBy u v (frame_id e)
meets-step u (Received id offset bytes fin answer) v p s = meets_received u v id offset bytes fin answer s
meets-step u (ReceivedReset id code final answer) v p s = meets_reset u v id code final answer s
meets-step u (AddedCredits count answer) v p s = ap nexts s.0
meets-step u (Began id ordered (Ok x)) v p s = ap nexts s.is ∙ stays_put u id (Some s.new)
meets-step u (Began id ordered (Err readable_error.ClosedStream)) v p s = ap nexts s.1
meets-step u (Began id ordered (Err readable_error.IllegalOrderedRead)) v p s = ap nexts s.is ∙ stays_put u id (Some s.new)
meets-step u (Began id ordered (Err readable_error.OutOfMemory)) v p s = elim s [ inl t ↦ ap nexts t | inr t ↦ ap nexts t.is ∙ stays_put u id (Some t.new) ]
meets-step u (Gave id most ordered answer) v p s = ap nexts s.is ∙ stays_read u id s.new answer
meets-step u (Ended id count) v p s = ap nexts s
meets-step u (Stopped id code (Ok x)) v p s =
    ap nexts s.2.6 ∙ stays_if u (with_freed u id) (with_receive u id (Some s.2.1)) (is_some s.2.0.size) (stays_freed u id) (stays_put u id (Some s.2.1))
meets-step u (Stopped id code (Err handle_error.ClosedStream)) v p s = ap nexts s.2.1
meets-step u (Stopped id code (Err handle_error.OutOfMemory)) v p s = ap nexts s.2.0
meets-step u (ToldReset id (Ok (Some code))) v p s = ap nexts s.2.4 ∙ stays_freed u id
meets-step u (ToldReset id (Ok None)) v p s = ap nexts s.2.4
meets-step u (ToldReset id (Err handle_error.ClosedStream)) v p s = ap nexts s.2.1
meets-step u (ToldReset id (Err handle_error.OutOfMemory)) v p s = ap nexts s.2.3
meets-step u (Resized window answer) v p s = ap nexts s.0
meets-step u (SetConcurrent dir count (Ok k)) v p s = ap nexts s ∙ stays_concurrent u dir count
meets-step u (SetConcurrent dir count (Err k)) v p s = ap nexts s
meets-step u (Accepted dir answer) v p s = ap nexts s.0 ∙ stays_remote u dir (one_accepted (remote_of u dir)) (accepted_next (remote_of u dir) (nat_lt (remote_of u dir).next_reported (remote_of u dir).next_remote))
meets-step u (LeftPending kind frame) v p s = stays_settled kind u s.0 frame v s.1 s.2
meets-step u (Sending e) v p s = meets_send u e v s
meets-step u Rejected v p s = cc
meets-step u (SentAgain (Ok x)) v p s = ap nexts s.1.2
meets-step u (SentAgain (Err x)) v p s = ap nexts s.1
