-- A stop that a writer is told of came.
use Rattle.std.proofs.Common.{◌≡◌, ◌⊎◌, ℕ, Bool, true, false, List, [], ◌∷◌, ◌++◌, Option, Some, None, Ok, refl, sym, ap, ◌∙◌, subst, inl, inr}
use Rattle.std.specs.Prelude.{◌==◌, ◌&&◌, ◌^◌, ◌-◌, if◌then◌else◌, min, is_none, unwrap_or}
use Rattle.std.proofs.lemmas.Option.{same_Some}
use Rattle.quic_wire.specs.declared.event.StreamEvent.{StreamEvent}
use Rattle.quic_wire.specs.declared.event.StreamEvent.TheVariants as stream_event
use Rattle.quic_sending.specs.declared.send.Send.{Send}
use Rattle.quic_sending.specs.declared.send.WriteError.TheVariants as write_error
use Rattle.quic_sending.specs.declared.send.FinishError.TheVariants as finish_error
use Rattle.quic_sending.specs.Sending.{is_ready, finish_refusal}
use Rattle.quic_outgoing.specs.Calls.{end_refusal}
use Rattle.quic_outgoing.specs.Senders.{is_local}
use Rattle.quic_flows.specs.Flow.{SendMove, SendFlow, WasWritten, WasFinished, WasGivenUp, WasAskedToStop, WasPermitted, WasCarried, WasAcked, WasLost, WasResetAcked, with_send_move, with_least_limit, with_carried, with_acked, with_lost, freed_if_whole, takes_data, counts_for, front_of}
use Rattle.quic_history.specs.World.{World, Made}
use Rattle.quic_history.specs.Early.{with_unsent}
use Rattle.quic_history.specs.Flows.{room_on, refusal_where, refusal_told, told_if, TakesQueued, send_moved, has_send_side}
use Rattle.quic_history.specs.SendEvents.{RaisedCount, RaisedLimit, StoppedOwn, WroteOwn, FinishedOwn, ResetOwn, AckedOwn, LostOwn, ResetAckedOwn, TookTurn, Polled, GaveLimits}
use Rattle.quic_history.specs.History.{Event, Received, ReceivedReset, Sending, Rejected, SentAgain, From, flow, send_tale, since, opened_in_all, QueuesSo, AreQueued, told_of_limits, opened_ids}
use Rattle.quic_link.specs.Endpoints.{IsOneOf}
use Rattle.quic_link.proofs.Basics.{same_id, either-of, only}
use Rattle.quic_link.proofs.Growth.{held-told}
use Rattle.quic_outgoing.specs.declared.limits.PeerLimits.{PeerLimits}

-- ---- a flow that is stopped was stopped by a frame

stopped_if : (b : Bool) (x t : SendFlow) (c : ℕ) → x.stopped ≡ t.stopped → (if b then x else t).stopped ≡ Some c → t.stopped ≡ Some c
stopped_if true x t c e k = sym e ∙ k
stopped_if false x t c e k = k

-- what is done to a flow stops it, or it was stopped before
move_stopped : (m : SendMove) (t : SendFlow) (c : ℕ) → (with_send_move m t).stopped ≡ Some c → (t.stopped ≡ Some c) ⊎ (m ≡ WasAskedToStop c)
move_stopped (WasWritten pieces) t c k = inl k
move_stopped WasFinished t c k = inl k
move_stopped (WasGivenUp code) t c k = inl k
move_stopped (WasAskedToStop code) t c k = by_first t.stopped refl k
  where
    by_first : (o : Option ℕ) → t.stopped ≡ o → Some (unwrap_or o code) ≡ Some c → (t.stopped ≡ Some c) ⊎ (WasAskedToStop code ≡ WasAskedToStop c)
    by_first None e j = inr (ap WasAskedToStop (same_Some code c j))
    by_first (Some d) e j = inl (e ∙ j)
move_stopped (WasPermitted limit) t c k = inl (stopped_if (takes_data t.reset t.finished) (with_least_limit (min limit (2 ^ 62 - 1)) t) t c refl k)
move_stopped (WasCarried first behind fin) t c k = inl (stopped_if (is_none t.reset) (with_carried first behind fin t) t c refl k)
move_stopped (WasAcked first behind fin) t c k = inl (stopped_if (counts_for t.reset t.sent_up_to behind) (freed_if_whole (with_acked first behind fin t)) t c refl k)
move_stopped (WasLost first behind fin) t c k = inl (stopped_if (counts_for t.reset t.sent_up_to behind) (with_lost first behind fin t) t c refl k)
move_stopped WasResetAcked t c k = inl k

-- so of the flow of each stream
moved_stopped : (id : ℕ) (m : SendMove) (there : ℕ → Bool) (q : ℕ) (t : SendFlow) (c : ℕ) → (send_moved (Some (id, m)) there q t).stopped ≡ Some c → (t.stopped ≡ Some c) ⊎ ((q ≡ id) × (m ≡ WasAskedToStop c))
moved_stopped id m there q t c k = by_both (q == id) (there q) refl k
  where
    by_both : (a b : Bool) → (q == id) ≡ a → (if a && b then with_send_move m t else t).stopped ≡ Some c → (t.stopped ≡ Some c) ⊎ ((q ≡ id) × (m ≡ WasAskedToStop c))
    by_both true true e j = elim (move_stopped m t c j) [ inl old ↦ inl old | inr now ↦ inr (same_id q id e, now) ]
    by_both true false e j = inl j
    by_both false b e j = inl j

abbrev is_stop : SendMove → Bool
is_stop (WasAskedToStop code) = true
is_stop _ = false

no_stop : (m : SendMove) (c : ℕ) → is_stop m ≡ false → m ≡ WasAskedToStop c → ⊥
no_stop m c e k = let l : false ≡ true = sym e ∙ ap is_stop k in cc

-- of another kind of call
old_stop : {P : Type 0} (id : ℕ) (m : SendMove) (there : ℕ → Bool) (q : ℕ) (t : SendFlow) (c : ℕ) → (m ≡ WasAskedToStop c → ⊥) → (send_moved (Some (id, m)) there q t).stopped ≡ Some c → (t.stopped ≡ Some c) ⊎ P
old_stop id m there q t c other k = elim (moved_stopped id m there q t c k) [ inl old ↦ inl old | inr now ↦ absurd (other now.1) ]

-- which streams have a sending side
abbrev has_sides : Made → List Event → ℕ → Bool
has_sides m h = has_send_side m.side (opened_in_all (since h)) (send_tale m h).may_open

-- a call stopped a flow, or it was stopped before
stop_step : (m : Made) (e : Event) (h : List Event) (q c : ℕ) → (flow m (e ∷ h) q).stopped ≡ Some c → ((flow m h q).stopped ≡ Some c) ⊎ (Sending (StoppedOwn q c (Ok tt)) ≡ e)
stop_step m (Sending (StoppedOwn id code (Ok u))) h q c k = elim (moved_stopped id (WasAskedToStop code) (has_sides m h) q (flow m h q) c k) [
  | inl old ↦ inl old
  | inr now ↦ inr (ap (λ (j : ℕ). Sending (StoppedOwn j c (Ok tt))) now.0 ∙ sym (ap (λ (d : ℕ). Sending (StoppedOwn id d (Ok u))) (same_code code c now.1)))
]
  where
    code_of : ℕ → SendMove → ℕ
    code_of d (WasAskedToStop e) = e
    code_of d _ = d

    same_code : (a b : ℕ) → WasAskedToStop a ≡ WasAskedToStop b → a ≡ b
    same_code a b e = ap (code_of a) e
stop_step m (Sending (GaveLimits limits (Ok u))) h q c k = inl k
stop_step m (Sending (RaisedLimit id limit (Ok u))) h q c k = old_stop id (WasPermitted limit) (has_sides m h) q (flow m h q) c (no_stop (WasPermitted limit) c refl) k
stop_step m (Sending (WroteOwn id lists closed (Ok written))) h q c k = old_stop id (WasWritten (front_of written.bytes lists)) (has_sides m h) q (flow m h q) c (no_stop (WasWritten (front_of written.bytes lists)) c refl) k
stop_step m (Sending (FinishedOwn id (Ok u))) h q c k = old_stop id WasFinished (has_sides m h) q (flow m h q) c (no_stop WasFinished c refl) k
stop_step m (Sending (ResetOwn id code (Ok u))) h q c k = old_stop id (WasGivenUp code) (has_sides m h) q (flow m h q) c (no_stop (WasGivenUp code) c refl) k
stop_step m (Sending (AckedOwn id offsets fin (Ok u))) h q c k = old_stop id (WasAcked offsets.start offsets.end fin) (has_sides m h) q (flow m h q) c (no_stop (WasAcked offsets.start offsets.end fin) c refl) k
stop_step m (Sending (LostOwn id offsets fin (Ok u))) h q c k = old_stop id (WasLost offsets.start offsets.end fin) (has_sides m h) q (flow m h q) c (no_stop (WasLost offsets.start offsets.end fin) c refl) k
stop_step m (Sending (ResetAckedOwn id (Ok u))) h q c k = old_stop id WasResetAcked (has_sides m h) q (flow m h q) c (no_stop WasResetAcked c refl) k
stop_step m (Sending (TookTurn most fair (Some frame))) h q c k = old_stop frame.id (WasCarried frame.offsets.start frame.offsets.end frame.fin) (has_sides m h) q (flow m h q) c (no_stop (WasCarried frame.offsets.start frame.offsets.end frame.fin) c refl) k
stop_step m Rejected h q c k = cc
stop_step m (SentAgain (Ok u)) h q c k = inl (by_side (is_local m.side q) k)
  where
    by_side : (b : Bool) → (if b then with_unsent (flow m h q) else flow m h q).stopped ≡ Some c → (flow m h q).stopped ≡ Some c
    by_side true j = stopped_if (is_none (flow m h q).reset) _ (flow m h q) c refl j
    by_side false j = j
stop_step m _ h q c k = inl k

pub stop-came : (m : Made) (h : List Event) (q c : ℕ) → (flow m h q).stopped ≡ Some c → IsOneOf (Sending (StoppedOwn q c (Ok tt))) h
stop-came m [] q c k = cc
stop-came m (e ∷ h) q c k = elim (stop_step m e h q c k) [ inl old ↦ inr (stop-came m h q c old) | inr now ↦ inl now ]

-- ---- a stop that is queued to be told was one

told_only : (b : Bool) (e f : StreamEvent) → (e ≡ f → ⊥) → IsOneOf e (told_if b f) → ⊥
told_only true e f other h = other (only e f h)
told_only false e f other h = absurd h

told_one : (b : Bool) (e f : StreamEvent) → IsOneOf e (told_if b f) → e ≡ f
told_one true e f h = only e f h
told_one false e f h = absurd h

-- it was queued before, where nothing like it is
queued_still : {P : Type 0} (e : StreamEvent) (before more after : List StreamEvent) → after ≡ before ++ more → (IsOneOf e more → ⊥) → IsOneOf e after → IsOneOf e before ⊎ P
queued_still e before more after is other h =
    let P : List StreamEvent → Type 0 = λ l. IsOneOf e l in
    elim (either-of e before more (subst P is h)) [ inl old ↦ inl old | inr new ↦ absurd (other new) ]

queued_read : {P : Type 0} (e : StreamEvent) (id : ℕ) (before after : List StreamEvent) → (e ≡ stream_event.Readable id → ⊥) → (after ≡ before) ⊎ (after ≡ before ++ stream_event.Readable id ∷ []) → IsOneOf e after → IsOneOf e before ⊎ P
queued_read e id before after other is h = elim is [
  | inl same ↦ (let P : List StreamEvent → Type 0 = λ l. IsOneOf e l in inl (subst P same h))
  | inr more ↦ queued_still e before (stream_event.Readable id ∷ []) after more (λ k. other (only e (stream_event.Readable id) k)) h
]

taken_before : (e : StreamEvent) (before after : List StreamEvent) (answer : Option StreamEvent) → TakesQueued before answer after → IsOneOf e after → IsOneOf e before
taken_before e before after None t h = let P : List StreamEvent → Type 0 = λ l. IsOneOf e l in absurd (subst P t.1 h)
taken_before e before after (Some (stream_event.Opened dir)) t h = elim t [
  | inl same ↦ (let P : List StreamEvent → Type 0 = λ l. IsOneOf e l in subst P same h)
  | inr first ↦ (let P : List StreamEvent → Type 0 = λ l. IsOneOf e l in subst P (sym first) (inr h))
]
taken_before e before after (Some (stream_event.Writable id)) t h = elim t [
  | inl same ↦ (let P : List StreamEvent → Type 0 = λ l. IsOneOf e l in subst P same h)
  | inr first ↦ (let P : List StreamEvent → Type 0 = λ l. IsOneOf e l in subst P (sym first) (inr h))
]
taken_before e before after (Some _) t h = let P : List StreamEvent → Type 0 = λ l. IsOneOf e l in subst P (sym t) (inr h)

-- limits tell of no stop
limits_stop_none : (m : Made) (h : List Event) (limits : PeerLimits) (ids : List ℕ) (id c : ℕ) → IsOneOf (stream_event.Stopped id c) (told_of_limits m h limits ids) → ⊥
limits_stop_none m h limits [] id c k = k
limits_stop_none m h limits (q ∷ ids) id c k = elim (either-of (stream_event.Stopped id c) (told_if _ (stream_event.Writable q)) (told_of_limits m h limits ids) k) [
  | inl now ↦ told_only _ (stream_event.Stopped id c) (stream_event.Writable q) (λ e. cc) now
  | inr others ↦ limits_stop_none m h limits ids id c others
]

stop_queued : (m : Made) (h : List Event) (e : Event) (before after : List StreamEvent) (id c : ℕ) → QueuesSo m h e before after → IsOneOf (stream_event.Stopped id c) after → IsOneOf (stream_event.Stopped id c) before ⊎ (Sending (StoppedOwn id c (Ok tt)) ≡ e)
stop_queued m h (Sending (Polled answer)) before after id c q i = inl (taken_before (stream_event.Stopped id c) before after answer q i)
stop_queued m h (Received at offset bytes fin (Ok transmit)) before after id c q i = queued_read (stream_event.Stopped id c) at before after (λ e. cc) q i
stop_queued m h (ReceivedReset at code final (Ok transmit)) before after id c q i = queued_read (stream_event.Stopped id c) at before after (λ e. cc) q i
stop_queued m h (Sending (StoppedOwn at code (Ok u))) before after id c q i =
    let P : List StreamEvent → Type 0 = λ l. IsOneOf (stream_event.Stopped id c) l in
    elim (either-of (stream_event.Stopped id c) before _ (subst P q i)) [
      | inl old ↦ inl old
      | inr now ↦ inr (same_call (told_one _ (stream_event.Stopped id c) (stream_event.Stopped at code) now))
    ]
  where
    call_of : StreamEvent → Event
    call_of (stream_event.Stopped j d) = Sending (StoppedOwn j d (Ok tt))
    call_of _ = Sending (StoppedOwn at code (Ok u))

    same_call : stream_event.Stopped id c ≡ stream_event.Stopped at code → Sending (StoppedOwn id c (Ok tt)) ≡ Sending (StoppedOwn at code (Ok u))
    same_call e = ap call_of e
stop_queued m h (Sending (GaveLimits limits (Ok u))) before after id c q i = queued_still (stream_event.Stopped id c) before _ after q (limits_stop_none m h limits (opened_ids m.side (since h)) id c) i
stop_queued m h (Sending (RaisedCount dir count (Ok u))) before after id c q i = queued_still (stream_event.Stopped id c) before _ after q (told_only _ (stream_event.Stopped id c) (stream_event.Available dir) (λ e. cc)) i
stop_queued m h (Sending (RaisedLimit at limit (Ok u))) before after id c q i = queued_still (stream_event.Stopped id c) before _ after q (told_only _ (stream_event.Stopped id c) (stream_event.Writable at) (λ e. cc)) i
stop_queued m h (Sending (AckedOwn at offsets fin (Ok u))) before after id c q i = queued_still (stream_event.Stopped id c) before _ after q (told_only _ (stream_event.Stopped id c) (stream_event.Finished at) (λ e. cc)) i
stop_queued m h e before after id c q i = queued_still (stream_event.Stopped id c) before [] after q (λ k. k) i

queued_came : (m : Made) (h : List Event) (events : List StreamEvent) (id c : ℕ) → AreQueued m h events → IsOneOf (stream_event.Stopped id c) events → IsOneOf (Sending (StoppedOwn id c (Ok tt))) h
queued_came m [] events id c q i = let P : List StreamEvent → Type 0 = λ l. IsOneOf (stream_event.Stopped id c) l in absurd (subst P q i)
queued_came m (e ∷ h) events id c q i = elim (stop_queued m h e q.0 events id c q.2 i) [ inl old ↦ inr (queued_came m h q.0 id c q.1 old) | inr now ↦ inl now ]

-- one that is told was
pub event-came : (m : Made) (h : List Event) (v : World) (id c : ℕ) → From m (Sending (Polled (Some (stream_event.Stopped id c))) ∷ h) v → IsOneOf (Sending (StoppedOwn id c (Ok tt))) h
event-came m h v id c f =
    let q = f.queued in
    let P : List StreamEvent → Type 0 = λ l. IsOneOf (stream_event.Stopped id c) l in
    queued_came m h q.0 id c q.1 (subst P (sym q.2) (inl refl))

-- ---- why nothing was written, or ended

stopped_where : (o : Option ℕ) (room code : ℕ) → refusal_where o room ≡ Some (write_error.Stopped code) → o ≡ Some code
stopped_where None room code e = by_room (room == 0) e
  where
    by_room : (b : Bool) → (if b then Some write_error.Blocked else None) ≡ Some (write_error.Stopped code) → None ≡ Some code
    by_room true k = cc
    by_room false k = cc
stopped_where (Some d) room code e = cc

pub write-stopped : (there : Bool) (room code : ℕ) (t : SendFlow) → refusal_told there room t ≡ Some (write_error.Stopped code) → t.stopped ≡ Some code
write-stopped false room code t e = cc
write-stopped true room code t e = by_room (room == 0) e
  where
    by_takes : (b : Bool) → (if b then refusal_where t.stopped (room_on t) else Some write_error.ClosedStream) ≡ Some (write_error.Stopped code) → t.stopped ≡ Some code
    by_takes true k = stopped_where t.stopped (room_on t) code k
    by_takes false k = cc

    by_room : (b : Bool) → (if b then Some write_error.Blocked else (if takes_data t.reset t.finished then refusal_where t.stopped (room_on t) else Some write_error.ClosedStream)) ≡ Some (write_error.Stopped code) → t.stopped ≡ Some code
    by_room true k = cc
    by_room false k = by_takes (takes_data t.reset t.finished) k

finish_stopped : (h : Send) (code : ℕ) (o : Option ℕ) → h.stop_reason ≡ o → finish_refusal h ≡ Some (finish_error.Stopped code) → o ≡ Some code
finish_stopped h code None e k = by_ready (is_ready h.state) refl
  where
    by_ready : (b : Bool) → is_ready h.state ≡ b → None ≡ Some code
    by_ready true l = let j = rw (e, l) at k in cc
    by_ready false l = let j = rw (e, l) at k in cc
finish_stopped h code (Some d) e k = let j = rw e at k in cc

pub finish-stopped : (m : Made) (h : List Event) (w : World) (f : From m h w) (id code : ℕ) (o : Option Send) → w.out.halves id ≡ o → end_refusal o ≡ Some (finish_error.Stopped code) → (flow m h id).stopped ≡ Some code
finish-stopped m h w f id code None e k = cc
finish-stopped m h w f id code (Some s) e k =
    let t = held-told m h w w f id s e in
    sym t.stopped ∙ finish_stopped s code s.stop_reason refl k
