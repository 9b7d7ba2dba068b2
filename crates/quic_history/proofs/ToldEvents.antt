-- What is queued to be told to the application is what the calls tell.
use Rattle.std.proofs.Common.{◌≡◌, ◌⊎◌, ℕ, Bool, true, false, List, [], ◌∷◌, ◌++◌, Option, Some, None, is_some, Result, Ok, Err, refl, sym, ap, ◌∙◌, subst, inl, inr, ◌-◌}
use Rattle.std.specs.Prelude.{◌==◌, ◌&&◌, not, min, is_none, nat_lt, if◌then◌else◌, ℤ, map}
use Rattle.std.proofs.lemmas.List.{append-nil}
use Rattle.quic_values.specs.declared.ids.Dir.{Dir}
use Rattle.quic_values.specs.declared.ids.Dir.TheVariants.{Bi, Uni}
use Rattle.quic_values.specs.Ids.{dir_of}
use Rattle.quic_assembler.specs.declared.chunk.Chunk.{Chunk}
use Rattle.quic_wire.specs.declared.event.StreamEvent.{StreamEvent}
use Rattle.quic_wire.specs.declared.event.StreamEvent.TheVariants as stream_event
use Rattle.quic_wire.specs.declared.error.ReceiveError.{ReceiveError}
use Rattle.quic_wire.specs.declared.error.ReceiveError.TheVariants as receive_error
use Rattle.quic_limits.specs.Remote as remote
use Rattle.quic_limits.specs.Remote.{Remote, one_accepted}
use Rattle.quic_limits.specs.Own.{with_count}
use Rattle.quic_limits.specs.SendingCredit.{writable}
use Rattle.quic_receiving.specs.Half.{Half}
use Rattle.quic_receiving.specs.declared.transmit.ShouldTransmit.{ShouldTransmit}
use Rattle.quic_receiving.specs.declared.errors.ReadError.{ReadError}
use Rattle.quic_receiving.specs.declared.errors.ReadError.TheVariants as read_error
use Rattle.quic_receiving.specs.declared.errors.ReadableError.{ReadableError}
use Rattle.quic_receiving.specs.declared.errors.ReadableError.TheVariants as readable_error
use Rattle.quic_sending.specs.declared.errors.HandleError.{HandleError}
use Rattle.quic_sending.specs.declared.errors.HandleError.TheVariants as handle_error
use Rattle.quic_retransmits.specs.Pending.{Pending}
use Rattle.quic_sending.specs.declared.send.Send.{Send}
use Rattle.quic_flows.specs.Flow.{SendFlow, FlowAt}
use Rattle.quic_flows.proofs.FlowSteps.{ready-is}
use Rattle.quic_outgoing.specs.Outgoing.{Outgoing, own_of, with_own, own_ids, first_ids, first_of, is_stuck, with_params}
use Rattle.quic_outgoing.specs.Calls.{tells_writable, is_first_stop}
use Rattle.quic_history.specs.World.{World, Made, sends, is_own, remote_of, with_remote, with_receive, permitted_if, replaced_in, released, with_freed, told, told_readable, noticed, with_credit, advanced}
use Rattle.quic_history.specs.Receiving.{Receives, ReceivesReset, after_data, after_reset, credited_to}
use Rattle.quic_history.specs.Reading.{Begins, Stops, TellsReset, after_read}
use Rattle.quic_history.specs.Permitting.{after_concurrent}
use Rattle.quic_history.specs.Sends.{with_out, with_opened, told_writable, after_first_stop, is_permitted, RaisesCount, RaisesLimit, StopsOwn, TellsNext, PollsQueue, TakesOldest, with_params_given}
use Rattle.quic_history.specs.Writes.{WritesOwn, with_queued}
use Rattle.quic_history.specs.SendTotals.{send_totals, own_total}
use Rattle.quic_history.specs.SendEvents.{SendEvent, SendStep, GaveLimits, OpenedOwn, RaisedData, RaisedCount, RaisedLimit, StoppedOwn, SetWindow, Polled, WroteOwn, FinishedOwn, ResetOwn, SetOwnPriority, AckedOwn, LostOwn, ResetAckedOwn, TookTurn}
use Rattle.quic_history.specs.History.{since, Rejected, SentAgain, Event, Received, ReceivedReset, AddedCredits, Began, Gave, Ended, Stopped, ToldReset, Resized, SetConcurrent, Accepted, LeftPending, Sending, Step, SentSo, FlowsSo, opened_in_all, greatest_count, send_tale, flow, is_sent_on, room_in_connection, room_in_window, QueuesSo, opened_ids, room_with, told_of_limits}
use Rattle.std.specs.declared.ops.Range.{Range}
use Rattle.quic_wire.specs.declared.frame.Frame.{Frame}
use Rattle.quic_flows.specs.Flow.{is_whole, with_acked}
use Rattle.quic_flows.proofs.FrameFlows.{ends-told}
use Rattle.quic_outgoing.specs.Outgoing.{with_send_half}
use Rattle.quic_outgoing.specs.Acknowledging.{AcksStream, were_sent}
use Rattle.quic_history.specs.declared.control.ControlKind.{ControlKind}
use Rattle.quic_history.specs.declared.control.ControlKind.TheVariants as kinds
use Rattle.quic_history.specs.Control.{SettlesEntry}
use Rattle.quic_history.specs.Acknowledged.{AcksOwn, frees_reset, told_finished, with_send_freed, without_sender}
use Rattle.quic_history.proofs.SendFreed.{send-freed}
use Rattle.quic_history.proofs.FlowReports.{uncounted, counted}
use Rattle.quic_history.proofs.SendSides.{held-flow}
use Rattle.quic_history.specs.Flows.{ends_by, has_send_side, has_side_in, wakes, told_if, TakesQueued}
use Rattle.quic_history.proofs.SendSteps.{either-way}
use Rattle.quic_history.proofs.StreamSteps.{noticed-any}
use Rattle.quic_history.proofs.FlowHistory.{known-by}
use Rattle.quic_history.proofs.FlowSteps.{unpermitted}
use Rattle.quic_history.proofs.WritesTold.{all-room, room-given}
use Rattle.quic_outgoing.specs.Params.{is_woken_in, woken_among}
use Rattle.quic_outgoing.specs.Senders.{first_limit}
use Rattle.quic_outgoing.specs.declared.limits.PeerLimits.{PeerLimits}
use Rattle.quic_values.specs.declared.ids.Side.{Side}

-- ---- what queues nothing

told_none : (es : List StreamEvent) → es ≡ es ++ []
told_none es = sym (append-nil es)

-- the same events
same_as : (u v : World) → v ≡ u → v.events ≡ u.events ++ []
same_as u v e = ap (λ (w : World). w.events) e ∙ told_none u.events

events_if : (u v w : World) (b : Bool) → v.events ≡ u.events → w.events ≡ u.events → (if b then v else w).events ≡ u.events
events_if u v w true s t = s
events_if u v w false s t = t

events_put : (u : World) (id : ℕ) (o : Option Half) → (with_receive u id o).events ≡ u.events
unfolding with_receive
events_put u id o = refl

events_remote : (u : World) (d : Dir) (r : Remote) → (with_remote u d r).events ≡ u.events
events_remote u Bi r = refl
events_remote u Uni r = refl

events_permitted : (u : World) (d : Dir) (o : Option ℕ) → (permitted_if u d o).events ≡ u.events
unfolding with_receive
events_permitted u d None = refl
events_permitted u Bi (Some index) = refl
events_permitted u Uni (Some index) = refl

events_replaced : (u : World) (d : Dir) → (replaced_in u d).events ≡ u.events
events_replaced u d = events_permitted (with_remote u d (remote.replaced (remote_of u d))) d (remote.replacement (remote_of u d)) ∙ events_remote u d _

events_released : (u : World) (d : Dir) (id : ℕ) → (released u d id).events ≡ u.events
events_released u Uni id = events_replaced u Uni
events_released u Bi id = events_if u u (replaced_in u Bi) ((sends u) id) refl (events_replaced u Bi)

events_freed : (u : World) (id : ℕ) → (with_freed u id).events ≡ u.events
events_freed u id =
    let w = with_receive u id None in
    events_if u w (released w (dir_of id) id) (is_own w id) (events_put u id None) (events_released w (dir_of id) id ∙ events_put u id None)

events_concurrent : (u : World) (d : Dir) (count : ℕ) → (after_concurrent u d count).events ≡ u.events
events_concurrent u Bi count = refl
events_concurrent u Uni count = refl

events_noticed : (u : World) (id : ℕ) → (noticed u id false).events ≡ u.events
events_noticed u id =
    let P : World → Type 0 = λ x. x.events ≡ u.events in
    noticed-any P u id false refl (events_remote u (dir_of id) _)

-- a frame of the peer may add that a stream may be read
abbrev MayTell : ℕ → World → World → Type 0
MayTell id u v = (v.events ≡ u.events) ⊎ (v.events ≡ u.events ++ stream_event.Readable id ∷ [])

tell_from : (id : ℕ) (u w v : World) → w.events ≡ u.events → MayTell id w v → MayTell id u v
tell_from id u w v e (inl s) = inl (s ∙ e)
tell_from id u w v e (inr s) = inr (s ∙ ap (λ es. es ++ stream_event.Readable id ∷ []) e)

tell_at : (id : ℕ) (u w v : World) → v ≡ w → MayTell id u w → MayTell id u v
tell_at id u w v e s = let P : World → Type 0 = λ x. MayTell id u x in subst P (sym e) s

tell_if : (id : ℕ) (u v w : World) (b : Bool) → MayTell id u v → MayTell id u w → MayTell id u (if b then v else w)
tell_if id u v w true s t = s
tell_if id u v w false s t = t

tell_readable : (w : World) (id : ℕ) (b : Bool) → MayTell id w (told_readable w id b)
tell_readable w id true = inr refl
tell_readable w id false = inl refl

tell_noticed : (w : World) (id : ℕ) (b : Bool) → MayTell id w (noticed w id b)
tell_noticed w id b =
    let P : World → Type 0 = λ x. MayTell id w x in
    noticed-any P w id b (tell_readable w id b) (inl (events_remote w (dir_of id) _))

tell_data : (u : World) (id : ℕ) (old new : Half) (fin stopped : Bool)
    → MayTell id u (if stopped then with_credit (if fin then with_freed (advanced u id old new) id else advanced u id old new) (new.end - old.end) else noticed (advanced u id old new) id true)
tell_data u id old new fin true =
    let w = advanced u id old new in
    inl (events_if u (with_freed w id) w fin (events_freed w id ∙ events_put u id (Some new)) (events_put u id (Some new)))
tell_data u id old new fin false =
    let w = advanced u id old new in
    tell_from id u w (noticed w id true) (events_put u id (Some new)) (tell_noticed w id true)

tell_rest : (id : ℕ) (u v : World) (n : ℕ) (b : Bool) → MayTell id u v → MayTell id u (if b then v else with_credit v n)
tell_rest id u v n true s = s
tell_rest id u v n false s = s

tell_reset : (u : World) (id : ℕ) (old new : Half) → MayTell id u (after_reset u id old new)
tell_reset u id old new =
    let w = advanced u id old new in
    let x = noticed w id (not old.stopped) in
    let at_x = tell_from id u w x (events_put u id (Some new)) (tell_noticed w id (not old.stopped)) in
    tell_rest id u (if old.stopped then with_freed x id else x) (new.end - credited_to old) (new.end - credited_to old == 0)
    (tell_if id u (with_freed x id) x old.stopped (freed_too x at_x) at_x)
  where
    freed_too : (x : World) → MayTell id u x → MayTell id u (with_freed x id)
    freed_too x (inl s) = inl (events_freed x id ∙ s)
    freed_too x (inr s) = inr (events_freed x id ∙ s)

received : (m : Made) (h : List Event) (u v : World) (id offset : ℕ) (bytes : List ℕ) (fin : Bool) (answer : Result ShouldTransmit ReceiveError) → Receives u id offset bytes fin answer v
    → QueuesSo m h (Received id offset bytes fin answer) u.events v.events
received m h u v id offset bytes fin (Ok transmit) (inl s) = inl (ap (λ (w : World). w.events) s.3)
received m h u v id offset bytes fin (Ok transmit) (inr s) = tell_at id u (after_data u id s.1 s.2 fin) v s.5 (tell_data u id s.1 s.2 fin s.1.stopped)
received m h u v id offset bytes fin (Err (receive_error.Transport error)) (inl s) = same_as u v s.1
received m h u v id offset bytes fin (Err (receive_error.Transport error)) (inr s) = ap (λ (w : World). w.events) s.3 ∙ events_put u id (Some s.1) ∙ told_none u.events
received m h u v id offset bytes fin (Err receive_error.CompactionMemory) s = ap (λ (w : World). w.events) s.3 ∙ events_put u id (Some s.1) ∙ told_none u.events
received m h u v id offset bytes fin (Err receive_error.OutOfMemory) s = same_as u v s

was_reset : (m : Made) (h : List Event) (u v : World) (id code final : ℕ) (answer : Result ShouldTransmit ReceiveError) → ReceivesReset u id code final answer v
    → QueuesSo m h (ReceivedReset id code final answer) u.events v.events
was_reset m h u v id code final (Ok transmit) (inl s) = inl (ap (λ (w : World). w.events) s.3)
was_reset m h u v id code final (Ok transmit) (inr (inl s)) = inl (ap (λ (w : World). w.events) s.4)
was_reset m h u v id code final (Ok transmit) (inr (inr s)) = tell_at id u (after_reset u id s.0 s.1) v s.4 (tell_reset u id s.0 s.1)
was_reset m h u v id code final (Err (receive_error.Transport error)) (inl s) = same_as u v s.1
was_reset m h u v id code final (Err (receive_error.Transport error)) (inr s) = same_as u v s.3
was_reset m h u v id code final (Err receive_error.CompactionMemory) s = absurd s
was_reset m h u v id code final (Err receive_error.OutOfMemory) s = same_as u v s

began : (u v : World) (id : ℕ) (ordered : Bool) (answer : Result (Unit {0}) ReadableError) → Begins u id ordered answer v → v.events ≡ u.events ++ []
began u v id ordered (Ok x) s = ap (λ (w : World). w.events) s.is ∙ events_put u id (Some s.new) ∙ told_none u.events
began u v id ordered (Err readable_error.ClosedStream) s = same_as u v s.1
began u v id ordered (Err readable_error.IllegalOrderedRead) s = ap (λ (w : World). w.events) s.is ∙ events_put u id (Some s.new) ∙ told_none u.events
began u v id ordered (Err readable_error.OutOfMemory) (inl s) = same_as u v s
began u v id ordered (Err readable_error.OutOfMemory) (inr s) = ap (λ (w : World). w.events) s.is ∙ events_put u id (Some s.new) ∙ told_none u.events

events_read : (u : World) (id : ℕ) (new : Half) (answer : Result (Option Chunk) ReadError) → (after_read u id new answer).events ≡ u.events
events_read u id new (Ok (Some chunk)) = events_put u id (Some new)
events_read u id new (Ok None) = events_freed u id
events_read u id new (Err read_error.Blocked) = events_put u id (Some new)
events_read u id new (Err (read_error.Reset code)) = events_freed u id
events_read u id new (Err read_error.OutOfMemory) = events_put u id (Some new)

was_stopped : (u v : World) (id code : ℕ) (answer : Result (Unit {0}) HandleError) (p q : Pending) → Stops u id code p answer v q → v.events ≡ u.events ++ []
was_stopped u v id code (Ok x) p q s =
    ap (λ (w : World). w.events) s.6
    ∙ events_if u (with_freed u id) (with_receive u id (Some s.1)) (is_some s.0.size) (events_freed u id) (events_put u id (Some s.1)) ∙ told_none u.events
was_stopped u v id code (Err handle_error.ClosedStream) p q s = same_as u v s.1
was_stopped u v id code (Err handle_error.OutOfMemory) p q s = same_as u v s.0

told_reset : (u v : World) (id : ℕ) (answer : Result (Option ℕ) HandleError) (p q : Pending) → TellsReset u id p answer v q → v.events ≡ u.events ++ []
told_reset u v id (Ok (Some code)) p q s = ap (λ (w : World). w.events) s.4 ∙ events_freed u id ∙ told_none u.events
told_reset u v id (Ok None) p q s = same_as u v s.4
told_reset u v id (Err handle_error.ClosedStream) p q s = same_as u v s.1
told_reset u v id (Err handle_error.OutOfMemory) p q s = same_as u v s.3

-- ---- the sending side

events_writable : (w : World) (id : ℕ) (b : Bool) → (told_writable w id b).events ≡ w.events ++ told_if b (stream_event.Writable id)
events_writable w id true = refl
events_writable w id false = told_none w.events

events_stopped : (w : World) (id code : ℕ) (b : Bool) → (after_first_stop w id code b).events ≡ w.events ++ told_if b (stream_event.Stopped id code)
events_stopped w id code true = events_noticed (told w (stream_event.Stopped id code)) id
events_stopped w id code false = told_none w.events

events_available : (w : World) (e : StreamEvent) (b : Bool) → (if b then told w e else w).events ≡ w.events ++ told_if b e
events_available w e true = refl
events_available w e false = told_none w.events

events_queued : (w : World) (id : ℕ) (o : Option ℤ) → (with_queued w id o).events ≡ w.events
events_queued w id None = refl
events_queued w id (Some priority) = refl

events_opened : (u : World) (d : Dir) (id : ℕ) (o : Outgoing) → (with_opened u d id o).events ≡ u.events
unfolding with_receive
events_opened u Bi id o = refl
events_opened u Uni id o = refl

oldest : (before : List StreamEvent) (answer : Option StreamEvent) (after : List StreamEvent) → TakesOldest before answer after → TakesQueued before answer after
oldest before None after s = s
oldest before (Some (stream_event.Opened dir)) after s = inr s
oldest before (Some (stream_event.Writable id)) after s = inr s
oldest before (Some (stream_event.Readable id)) after s = s
oldest before (Some (stream_event.Finished id)) after s = s
oldest before (Some (stream_event.Stopped id code)) after s = s
oldest before (Some (stream_event.Available dir)) after s = s

-- whether a limit wakes a half is told of its stream
woken_by : (o : Outgoing) (first room n : ℕ) (t : SendFlow) (k : Bool) (h : Option Send) → writable o.budget ≡ room → FlowAt first t k h
    → tells_writable o n h ≡ ((k && not t.freed) && (wakes n t && not (room == 0)))
woken_by o first room n t true (Some s) e f =
    let there = f.there in
    let written = f.cuts.written in
    let limit = f.limit in
    let ready = ready-is t s f in
    rw (there, ready, written, limit, e) refl
woken_by o first room n t true None e f = rw f refl
woken_by o first room n t false (Some s) e f = absurd f
woken_by o first room n t false None e f = refl

stopped_by : (first : ℕ) (t : SendFlow) (k : Bool) (h : Option Send) → FlowAt first t k h → is_first_stop h ≡ ((k && not t.freed) && is_none t.stopped)
stopped_by first t true (Some s) f = let there = f.there in let stopped = f.stopped in rw (there, stopped) refl
stopped_by first t true None f = rw f refl
stopped_by first t false (Some s) f = absurd f
stopped_by first t false None f = refl

-- ---- acknowledgements

-- whether a half is held is told
held_told : (first : ℕ) (t : SendFlow) (k : Bool) (o : Option Send) → FlowAt first t k o → is_some o ≡ (k && not t.freed)
held_told first t true (Some s) f = let there = f.there in rw there refl
held_told first t true None f = rw f refl
held_told first t false (Some s) f = absurd f
held_told first t false None f = refl

-- what was acknowledged is the last that a stream waits for, as is told
last_told : (u : Outgoing) (id : ℕ) (offsets : Range ℕ) (fin done : Bool) (o : Outgoing) (first : ℕ) (t : SendFlow) (k : Bool) → FlowAt first t k (u.halves id) → AcksStream u id offsets fin (Ok done) o
    → done ≡ ((k && not t.freed) && ends_by offsets.start offsets.end fin t)
last_told u id offsets fin done o first t k f a = by_half (u.halves id) refl
  where
    uncounted_half : (s : Send) → u.halves id ≡ Some s → were_sent (Some s) offsets ≡ false → done ≡ false → done ≡ ((k && not t.freed) && ends_by offsets.start offsets.end fin t)
    uncounted_half s e w d =
        let flow = held-flow first t k s (u.halves id) e f in
        let n = uncounted t s offsets.end flow w in
        d ∙ sym (ap (λ b. (k && not t.freed) && (b && is_whole (with_acked offsets.start offsets.end fin t))) n ∙ none_then (k && not t.freed))
      where
        none_then : (b : Bool) → (b && false) ≡ false
        none_then true = refl
        none_then false = refl

    by_sent : (s : Send) → u.halves id ≡ Some s → (b : Bool) → were_sent (Some s) offsets ≡ b → done ≡ ((k && not t.freed) && ends_by offsets.start offsets.end fin t)
    by_sent s e false w =
        let x = rw (e, w) at a in
        uncounted_half s e w x.0
    by_sent s e true w =
        let x = rw (ap (λ (y : Option Send). were_sent y offsets) e ∙ w) at a in
        let flow = held-flow first t k x.half (u.halves id) x.is_held f in
        let y = x.acks in
        let c = counted t x.half offsets.end flow (ap (λ (z : Option Send). were_sent z offsets) (sym x.is_held ∙ e) ∙ w) in
        let held : (k && not t.freed) ≡ true = sym (held_told first t k (u.halves id) f) ∙ ap (λ (z : Option Send). is_some z) e in
        x.done_is ∙ ends-told t x.half x.after offsets.start offsets.end fin flow c.kept c.sent y.sound y.cuts y.unsent y.acked y.lost y.others
        ∙ sym (ap (λ b. b && ends_by offsets.start offsets.end fin t) held)

    by_half : (h : Option Send) → u.halves id ≡ h → done ≡ ((k && not t.freed) && ends_by offsets.start offsets.end fin t)
    by_half None e =
        let x = rw e at a in
        let none : (k && not t.freed) ≡ false = sym (held_told first t k (u.halves id) f) ∙ ap (λ (z : Option Send). is_some z) e in
        x.0 ∙ sym (ap (λ b. b && ends_by offsets.start offsets.end fin t) none)
    by_half (Some s) e = by_sent s e (were_sent (Some s) offsets) refl

events_send_freed : (w : World) (id : ℕ) → (with_send_freed w id).events ≡ w.events
events_send_freed w id = send-freed (λ x. x.events ≡ w.events) w id refl (events_replaced (without_sender w id) Bi)

events_finished : (w : World) (id : ℕ) (b : Bool) → (told_finished w id b).events ≡ w.events ++ told_if b (stream_event.Finished id)
events_finished w id true = ap (λ es. es ++ stream_event.Finished id ∷ []) (events_send_freed w id)
events_finished w id false = told_none w.events

settled_so : (u : World) (k : ControlKind) (p : Pending) (o : Option Frame) (v : World) (q : Pending) → SettlesEntry k u p o v q → v.events ≡ u.events ++ []
settled_so u kinds.ResetStream p o v q s = same_as u v s.end
settled_so u kinds.StopSending p o v q s = same_as u v s.end
settled_so u kinds.MaxData p o v q s = ap (λ (w : World). w.events) s.end ∙ told_none u.events
settled_so u kinds.MaxStreamData p o v q s = ap (λ (w : World). w.events) s.end ∙ told_none u.events
settled_so u (kinds.MaxStreams d) p o v q s = ap (λ (w : World). w.events) s.end ∙ events_remote u d _ ∙ told_none u.events
settled_so u kinds.DataBlocked p o v q s = same_as u v s.end
settled_so u kinds.StreamDataBlocked p o v q s = same_as u v s.end

counted_is : (u : World) (d : Dir) (n : ℕ) → (own_total (send_totals u.out) d).limit ≡ n → (own_of u.out d).limit ≡ n
counted_is u Bi n e = e
counted_is u Uni n e = e

not_queued : (before : List StreamEvent) (answer : Option StreamEvent) (after : List StreamEvent) (d : Dir) → answer ≡ Some (stream_event.Opened d) → after ≡ before → TakesQueued before answer after
not_queued before answer after d e s = let P : Option StreamEvent → Type 0 = λ o. TakesQueued before o after in subst P (sym e) (inl s)

writable_told : (before : List StreamEvent) (answer : Option StreamEvent) (after : List StreamEvent) (id : ℕ) → answer ≡ Some (stream_event.Writable id) → after ≡ before → TakesQueued before answer after
writable_told before answer after id e s = let P : Option StreamEvent → Type 0 = λ o. TakesQueued before o after in subst P (sym e) (inl s)

polls_queue : (w : World) (writable : Option ℕ) (answer : Option StreamEvent) (v : World) → PollsQueue w writable answer v → TakesQueued w.events answer v.events
polls_queue w (Some id) answer v s = writable_told w.events answer v.events id s.0 (ap (λ (x : World). x.events) s.1)
polls_queue w None answer v s =
    let P : List StreamEvent → Type 0 = λ es. TakesQueued w.events answer es in
    subst P (sym (ap (λ (x : World). x.events) s.2)) (oldest w.events answer s.0 s.1)

polled : (u : World) (answer : Option StreamEvent) (v : World) → TellsNext u answer v → TakesQueued u.events answer v.events
polled u answer v s = either-way u.bi.opened s
    (λ t. not_queued u.events answer v.events Bi t.0 (ap (λ (x : World). x.events) t.1))
    (λ t. either-way u.uni.opened t
    (λ r. not_queued u.events answer v.events Uni r.0 (ap (λ (x : World). x.events) r.1))
    (λ p. polls_queue (with_out u p.1) p.0 answer v p.3))

-- of a stream that may be woken it is told where something may be written
told_cell : (stuck : Bool) (id : ℕ) (ids : List ℕ) (woken : Bool) → map stream_event.Writable (if stuck then [] else (if woken then id ∷ ids else ids))
    ≡ told_if (woken && not stuck) (stream_event.Writable id) ++ map stream_event.Writable (if stuck then [] else ids)
told_cell true id ids true = refl
told_cell true id ids false = refl
told_cell false id ids true = refl
told_cell false id ids false = refl

told_nothing : (stuck : Bool) → map stream_event.Writable (if stuck then [] else []) ≡ []
told_nothing true = refl
told_nothing false = refl

woken_cell : (o : Outgoing) (n : ℕ) (h : Option Send) → (is_woken_in n h && not (is_stuck o)) ≡ tells_writable o n h
woken_cell o n None = refl
woken_cell o n (Some s) = refl

module _ (m : Made) (h : List Event) (u : World) (side : u.out.side ≡ m.side) (sent : SentSo (since h) (send_totals u.out)) (f : FlowsSo m h u) where
  sent_on : (id : ℕ) → has_side_in u.out u.bi.max_remote id ≡ has_send_side m.side (opened_in_all (since h)) (send_tale m h).may_open id
  sent_on id = sym (known-by m h u side f.may_open sent id)

  limit_told : (id n : ℕ) → tells_writable u.out n (u.out.halves id) ≡ (is_sent_on m h id && (wakes n (flow m h id) && not (min (room_in_connection h) (room_in_window m h) == 0)))
  limit_told id n =
      woken_by u.out _ (min (room_in_connection h) (room_in_window m h)) n (flow m h id) (has_side_in u.out u.bi.max_remote id) (u.out.halves id) (all-room m h u side sent f) (f.flows id)
      ∙ ap (λ k. (k && not (flow m h id).freed) && (wakes n (flow m h id) && not (min (room_in_connection h) (room_in_window m h) == 0))) (sent_on id)

  stop_told : (id : ℕ) → is_first_stop (u.out.halves id) ≡ (is_sent_on m h id && is_none (flow m h id).stopped)
  stop_told id =
      stopped_by _ (flow m h id) (has_side_in u.out u.bi.max_remote id) (u.out.halves id) (f.flows id)
      ∙ ap (λ k. (k && not (flow m h id).freed) && is_none (flow m h id).stopped) (sent_on id)

  not_there : (id : ℕ) → is_permitted u id ≡ false → is_first_stop (u.out.halves id) ≡ false
  not_there id e =
      ap is_first_stop (unpermitted m.side (has_send_side m.side (opened_in_all (since h)) (send_tale m h).may_open) (flow m h) u (known-by m h u side f.may_open sent) f.flows id e)

  stopped_so : (id code : ℕ) (x : Unit {0}) (v : World) → StopsOwn u id code (Ok x) v → QueuesSo m h (Sending (StoppedOwn id code (Ok x))) u.events v.events
  stopped_so id code x v s = by_test (is_permitted u id) refl
    where
      by_test : (b : Bool) → is_permitted u id ≡ b → v.events ≡ u.events ++ told_if (is_sent_on m h id && is_none (flow m h id).stopped) (stream_event.Stopped id code)
      by_test true k = let t = rw k at s in
          ap (λ (w : World). w.events) t.3 ∙ events_stopped (with_out u t.1) id code t.0
          ∙ ap (λ b. u.events ++ told_if b (stream_event.Stopped id code)) (t.2.0 ∙ stop_told id)
      by_test false k = let t = rw k at s in
          same_as u v t ∙ ap (λ b. u.events ++ told_if b (stream_event.Stopped id code)) (sym (not_there id k) ∙ stop_told id)

  acked_so : (id : ℕ) (offsets : Range ℕ) (fin : Bool) (x : Unit {0}) (v : World) → AcksOwn u id offsets fin (Ok x) v → QueuesSo m h (Sending (AckedOwn id offsets fin (Ok x))) u.events v.events
  acked_so id offsets fin x v s = by_test (is_permitted u id) refl
    where
      held : is_some (u.out.halves id) ≡ is_sent_on m h id
      held = held_told _ (flow m h id) (has_side_in u.out u.bi.max_remote id) (u.out.halves id) (f.flows id) ∙ ap (λ k. k && not (flow m h id).freed) (sent_on id)

      by_test : (b : Bool) → is_permitted u id ≡ b → v.events ≡ u.events ++ told_if (is_sent_on m h id && ends_by offsets.start offsets.end fin (flow m h id)) (stream_event.Finished id)
      by_test true k = let t = rw k at s in
          ap (λ (w : World). w.events) t.3 ∙ events_finished (with_out u t.1) id t.0
          ∙ ap (λ b. u.events ++ told_if b (stream_event.Finished id))
          (last_told u.out id offsets fin t.0 t.1 _ (flow m h id) (has_side_in u.out u.bi.max_remote id) (f.flows id) t.2
          ∙ ap (λ j. (j && not (flow m h id).freed) && ends_by offsets.start offsets.end fin (flow m h id)) (sent_on id))
      by_test false k = let t = rw k at s in
          let none = unpermitted m.side (has_send_side m.side (opened_in_all (since h)) (send_tale m h).may_open) (flow m h) u (known-by m h u side f.may_open sent) f.flows id k in
          let not_on : is_sent_on m h id ≡ false = sym held ∙ ap (λ (o : Option Send). is_some o) none in
          same_as u v t ∙ ap (λ b. u.events ++ told_if (b && ends_by offsets.start offsets.end fin (flow m h id)) (stream_event.Finished id)) (sym not_on)

  limit_so : (id n : ℕ) (x : Unit {0}) (v : World) → RaisesLimit u id n (Ok x) v → QueuesSo m h (Sending (RaisedLimit id n (Ok x))) u.events v.events
  limit_so id n x v s =
      ap (λ (w : World). w.events) s.4 ∙ events_noticed (told_writable (with_out u s.2) id s.1) id ∙ events_writable (with_out u s.2) id s.1
      ∙ ap (λ b. u.events ++ told_if b (stream_event.Writable id)) (s.3.0 ∙ limit_told id n)

  count_so : (d : Dir) (n : ℕ) (x : Unit {0}) (v : World) → RaisesCount u d n (Ok x) v → QueuesSo m h (Sending (RaisedCount d n (Ok x))) u.events v.events
  count_so d n x v s =
      ap (λ (w : World). w.events) s.1 ∙ events_available (with_out u (with_own u.out d (with_count (own_of u.out d) n))) (stream_event.Available d) (nat_lt (own_of u.out d).limit n)
      ∙ ap (λ k. u.events ++ told_if (nat_lt k n) (stream_event.Available d)) (counted_is u d (greatest_count (since h) d) (sent.counted d))

  -- which streams limits let be written on is told
  woken_told : (limits : PeerLimits) (id : ℕ) → (is_woken_in (first_limit u.out.side (first_of limits) id) (u.out.halves id) && not (is_stuck (with_params u.out limits)))
      ≡ (is_sent_on m h id && (wakes (first_limit m.side (first_of limits) id) (flow m h id) && not (min (room_with limits h) (room_in_window m h) == 0)))
  woken_told limits id =
      let o = with_params u.out limits in
      let room = min (room_with limits h) (room_in_window m h) in
      let n : Side → ℕ = λ s. first_limit s (first_of limits) id in
      woken_cell o (n u.out.side) (u.out.halves id)
      ∙ woken_by o _ room (n u.out.side) (flow m h id) (has_side_in u.out u.bi.max_remote id) (u.out.halves id) (room-given m h u side sent f limits) (f.flows id)
      ∙ ap (λ k. (k && not (flow m h id).freed) && (wakes (n u.out.side) (flow m h id) && not (room == 0))) (sent_on id)
      ∙ ap (λ s. is_sent_on m h id && (wakes (n s) (flow m h id) && not (room == 0))) side

  told_among : (limits : PeerLimits) (ids : List ℕ) → map stream_event.Writable (if is_stuck (with_params u.out limits) then [] else woken_among u.out (first_of limits) ids) ≡ told_of_limits m h limits ids
  told_among limits [] = told_nothing (is_stuck (with_params u.out limits))
  told_among limits (id ∷ ids) =
      let stuck = is_stuck (with_params u.out limits) in
      let e = stream_event.Writable id in
      let told = is_sent_on m h id && (wakes (first_limit m.side (first_of limits) id) (flow m h id) && not (min (room_with limits h) (room_in_window m h) == 0)) in
      told_cell stuck id (woken_among u.out (first_of limits) ids) (is_woken_in (first_limit u.out.side (first_of limits) id) (u.out.halves id))
      ∙ ap (λ b. told_if b e ++ map stream_event.Writable (if stuck then [] else woken_among u.out (first_of limits) ids)) (woken_told limits id)
      ∙ ap (λ es. told_if told e ++ es) (told_among limits ids)

  opened_are : own_ids u.out ≡ opened_ids m.side (since h)
  opened_are =
      ap (λ s. first_ids s Bi u.out.own_bi.opened ++ first_ids s Uni u.out.own_uni.opened) side
      ∙ ap (λ n. first_ids m.side Bi n ++ first_ids m.side Uni u.out.own_uni.opened) (sent.opened Bi)
      ∙ ap (λ n. first_ids m.side Bi (opened_in_all (since h) Bi) ++ first_ids m.side Uni n) (sent.opened Uni)

  limits_so : (limits : PeerLimits) (v : World) → v ≡ with_params_given u limits → v.events ≡ u.events ++ told_of_limits m h limits (opened_ids m.side (since h))
  limits_so limits v s =
      ap (λ (w : World). w.events) s
      ∙ ap (λ es. u.events ++ es) (told_among limits (own_ids u.out) ∙ ap (λ ids. told_of_limits m h limits ids) opened_are)

  queues_sending : (e : SendEvent) (v : World) → SendStep u e v → QueuesSo m h (Sending e) u.events v.events
  queues_sending (GaveLimits limits (Ok x)) v s = limits_so limits v s
  queues_sending (GaveLimits limits (Err e)) v s = same_as u v s
  queues_sending (OpenedOwn dir closed (Ok None)) v s = same_as u v s.1
  queues_sending (OpenedOwn dir closed (Ok (Some id))) v s = ap (λ (w : World). w.events) s.3 ∙ events_opened u dir id s.1 ∙ told_none u.events
  queues_sending (OpenedOwn dir closed (Err e)) v s = same_as u v s
  queues_sending (RaisedData limit) v s = ap (λ (w : World). w.events) s ∙ told_none u.events
  queues_sending (RaisedCount dir count (Ok x)) v s = count_so dir count x v s
  queues_sending (RaisedCount dir count (Err (receive_error.Transport error))) v s = same_as u v s.2
  queues_sending (RaisedCount dir count (Err receive_error.CompactionMemory)) v s = absurd s
  queues_sending (RaisedCount dir count (Err receive_error.OutOfMemory)) v s = same_as u v s.2
  queues_sending (RaisedLimit id limit (Ok x)) v s = limit_so id limit x v s
  queues_sending (RaisedLimit id limit (Err (receive_error.Transport error))) v s = same_as u v s.1
  queues_sending (RaisedLimit id limit (Err receive_error.CompactionMemory)) v s = absurd s
  queues_sending (RaisedLimit id limit (Err receive_error.OutOfMemory)) v s = same_as u v s
  queues_sending (StoppedOwn id code (Ok x)) v s = stopped_so id code x v s
  queues_sending (StoppedOwn id code (Err e)) v s = same_as u v s
  queues_sending (SetWindow size) v s = ap (λ (w : World). w.events) s ∙ told_none u.events
  queues_sending (Polled answer) v s = polled u answer v s
  queues_sending (WroteOwn id lists closed (Ok written)) v s = ap (λ (w : World). w.events) s.3.5 ∙ events_queued (with_out u s.3.2) id s.3.1.queue_at ∙ told_none u.events
  queues_sending (WroteOwn id lists closed (Err e)) v s = refused_write s.3
    where
      refused_write : WritesOwn u id lists closed s.0 (Err e) v s.2 s.1 → v.events ≡ u.events ++ []
      refused_write (inl t) = same_as u v t.2
      refused_write (inr t) = ap (λ (w : World). w.events) t.3 ∙ told_none u.events
  queues_sending (FinishedOwn id (Ok x)) v s = ap (λ (w : World). w.events) s.3 ∙ events_queued (with_out u s.1) id s.0 ∙ told_none u.events
  queues_sending (FinishedOwn id (Err e)) v s = ap (λ (w : World). w.events) s.2 ∙ told_none u.events
  queues_sending (ResetOwn id code answer) v s = ap (λ (w : World). w.events) s.2.2 ∙ told_none u.events
  queues_sending (AckedOwn id offsets fin (Ok x)) v s = acked_so id offsets fin x v s
  queues_sending (AckedOwn id offsets fin (Err e)) v s = same_as u v s.2
  queues_sending (LostOwn id offsets fin (Ok x)) v s = ap (λ (w : World). w.events) s.3 ∙ events_queued (with_out u s.1) id s.0 ∙ told_none u.events
  queues_sending (LostOwn id offsets fin (Err e)) v s = same_as u v s.1
  queues_sending (ResetAckedOwn id (Ok x)) v s = either-way (frees_reset u id) s
      (λ t. ap (λ (w : World). w.events) t ∙ events_send_freed (with_out u (with_send_half u.out id None)) id ∙ told_none u.events)
      (λ t. same_as u v t)
  queues_sending (ResetAckedOwn id (Err e)) v s = same_as u v s.1
  queues_sending (TookTurn most fair None) v s = ap (λ (w : World). w.events) s.is ∙ told_none u.events
  queues_sending (TookTurn most fair (Some frame)) v s = ap (λ (w : World). w.events) s.is ∙ told_none u.events
  queues_sending (SetOwnPriority id priority answer) v s = ap (λ (w : World). w.events) s.2 ∙ told_none u.events

  -- each call queues what the calls before it tell
  pub queues : (e : Event) (v : World) → Step u e v → QueuesSo m h e u.events v.events
  queues (Received id offset bytes fin answer) v s = received m h u v id offset bytes fin answer s
  queues (ReceivedReset id code final answer) v s = was_reset m h u v id code final answer s
  queues (AddedCredits count answer) v s = ap (λ (w : World). w.events) s.0 ∙ told_none u.events
  queues (Began id ordered answer) v s = began u v id ordered answer s
  queues (Gave id most ordered answer) v s = ap (λ (w : World). w.events) s.is ∙ events_read u id s.new answer ∙ told_none u.events
  queues (Ended id count) v s = ap (λ (w : World). w.events) s ∙ told_none u.events
  queues (Stopped id code answer) v s = was_stopped u v id code answer s.0 s.1 s.2
  queues (ToldReset id answer) v s = told_reset u v id answer s.0 s.1 s.2
  queues (Resized size answer) v s = ap (λ (w : World). w.events) s.0 ∙ told_none u.events
  queues (SetConcurrent dir count (Ok k)) v s = ap (λ (w : World). w.events) s ∙ events_concurrent u dir count ∙ told_none u.events
  queues (SetConcurrent dir count (Err k)) v s = same_as u v s
  queues (Accepted dir answer) v s = ap (λ (w : World). w.events) s.0 ∙ events_remote u dir (one_accepted (remote_of u dir)) ∙ told_none u.events
  queues (LeftPending kind frame) v s = settled_so u kind s.0 frame v s.1 s.2
  queues (Sending e) v s = queues_sending e v s
  queues Rejected v s = ap (λ (w : World). w.events) s.1 ∙ told_none u.events
  queues (SentAgain (Ok x)) v s = ap (λ (w : World). w.events) s.1.2 ∙ told_none u.events
  queues (SentAgain (Err x)) v s = same_as u v s.1
