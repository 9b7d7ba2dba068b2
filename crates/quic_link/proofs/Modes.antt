-- A half that reads bytes as they come never reads in order again.
use Rattle.std.proofs.Common.{◌≡◌, ◌⊎◌, ℕ, ℤ, Bool, true, false, eqb, List, Option, Some, None, is_some, Result, Ok, Err, refl, sym, ap, ◌∙◌, subst, inl, inr, arith, ◌+◌, ◌-◌, ◌≤◌}
use Rattle.std.specs.Prelude.{not, ◌==◌, ◌&&◌, max, nat_lt, if◌then◌else◌}
use Rattle.quic_values.specs.declared.ids.Dir.{Dir}
use Rattle.quic_values.specs.declared.ids.Dir.TheVariants.{Bi, Uni}
use Rattle.quic_values.specs.Ids.{stream_id, other_side, dir_of, index_of}
use Rattle.quic_assembler.specs.declared.chunk.Chunk.{Chunk}
use Rattle.quic_wire.specs.declared.event.StreamEvent.{StreamEvent}
use Rattle.quic_wire.specs.declared.event.StreamEvent.TheVariants as stream_event
use Rattle.quic_wire.specs.declared.error.ReceiveError.{ReceiveError}
use Rattle.quic_wire.specs.declared.error.ReceiveError.TheVariants as receive_error
use Rattle.quic_wire.specs.Codes.{INTERNAL_ERROR}
use Rattle.quic_assembler.specs.Reassembly.{Reassembly, piece_count}
use Rattle.quic_wire.specs.declared.frame.Frame.{Frame}
use Rattle.quic_limits.specs.Remote.{Remote, replaced, replacement, opened_up_to, one_accepted, opening_told, streams_announced}
use Rattle.quic_limits.specs.Own.{with_count}
use Rattle.quic_receiving.specs.Half.{Half, new_half, is_open, window_end, internal_error}
use Rattle.quic_receiving.specs.Calls.{Ingests, TakesFrame, KeepsBytes, Clears, Rests, Orders, Reads}
use Rattle.quic_receiving.specs.declared.transmit.ShouldTransmit.{ShouldTransmit}
use Rattle.quic_receiving.specs.declared.errors.ReadError.{ReadError}
use Rattle.quic_receiving.specs.declared.errors.ReadError.TheVariants as read_error
use Rattle.quic_receiving.specs.declared.errors.ReadableError.{ReadableError}
use Rattle.quic_receiving.specs.declared.errors.ReadableError.TheVariants as readable_error
use Rattle.quic_sending.specs.declared.errors.HandleError.TheVariants as handle_error
use Rattle.quic_retransmits.specs.Pending.{Pending}
use Rattle.quic_outgoing.specs.Senders.{is_between}
use Rattle.quic_outgoing.specs.Outgoing.{Outgoing, own_of, with_own, with_send_half}
use Rattle.quic_history.specs.World.{World, is_own, remote_of, with_remote, with_receive, with_permitted, permitted_if, replaced_in, released, with_freed, sends, told, told_readable, noticed, with_credit, advanced}
use Rattle.quic_history.specs.Halves.{Halves, with_half, with_more}
use Rattle.quic_history.specs.Permitting.{after_concurrent}
use Rattle.quic_history.specs.Receiving.{Receives, ReceivesReset, after_data, after_reset, credited_to}
use Rattle.quic_history.specs.Reading.{Begins, after_read}
use Rattle.quic_history.specs.Control.{SettlesEntry, after_announced, with_announced}
use Rattle.quic_history.specs.declared.control.ControlKind.{ControlKind}
use Rattle.quic_history.specs.declared.control.ControlKind.TheVariants as kinds
use Rattle.quic_history.specs.Sends.{with_out, with_opened, told_writable, after_first_stop, is_permitted, PollsQueue, TellsNext}
use Rattle.quic_history.specs.Writes.{with_queued, WritesOwn}
use Rattle.quic_history.specs.Acknowledged.{with_send_freed, send_released, told_finished, frees_reset, without_sender, without_send_half}
use Rattle.quic_history.specs.SendEvents.{SendEvent, SendStep, GaveLimits, RaisedData, RaisedCount, RaisedLimit, StoppedOwn, SetWindow, OpenedOwn, WroteOwn, FinishedOwn, ResetOwn, SetOwnPriority, AckedOwn, LostOwn, ResetAckedOwn, TookTurn, Polled}
use Rattle.quic_history.specs.Early.{begins_anew}
use Rattle.quic_history.specs.History.{Event, Received, ReceivedReset, AddedCredits, Began, Gave, Ended, Stopped, ToldReset, Resized, SetConcurrent, Accepted, LeftPending, Sending, Step, is_frame_kept, Rejected, SentAgain, joint_move_of}
use Rattle.quic_history.proofs.SendSteps.{either-way}
use Rattle.quic_history.proofs.StreamSteps.{noticed-any}
use Rattle.quic_history.proofs.Totals.{by_cases, same}
use Rattle.quic_history.proofs.Traces.{itself}
use Rattle.quic_link.specs.Promises.{frames_kept}
use Rattle.quic_link.proofs.Basics.{some_same}

-- nothing came of a half
pub record IsNewHalf (h : Half) : Type 0 where
  pub read : h.buffer.bytes_read ≡ 0
  pub ordered : h.buffer.ordered ≡ true
  pub pieces : piece_count h.buffer ≡ 0

-- the half of a stream after a call, and before it. begun: the stream of which a reader was begun that reads bytes as they
-- come; kept: how many frames of a stream were kept
pub record Follows (begun : Option ℕ) (kept : ℕ → ℕ) (q : ℕ) (g h : Half) : Type 0 where
  pub ordered : h.buffer.ordered ≡ true → g.buffer.ordered ≡ true
  pub unordered : h.buffer.ordered ≡ false → (g.buffer.ordered ≡ false) ⊎ (begun ≡ Some q)
  pub pieces : h.buffer.ordered ≡ true → piece_count h.buffer ≤ piece_count g.buffer + kept q

follows_same : (begun : Option ℕ) (kept : ℕ → ℕ) (q : ℕ) (g h : Half) → h.buffer.ordered ≡ g.buffer.ordered → piece_count h.buffer ≤ piece_count g.buffer → Follows begun kept q g h
follows_same begun kept q g h e l = record { ordered = λ k. sym e ∙ k; unordered = λ k. inl (sym e ∙ k); pieces = λ k. omega arith }

-- a half of v is one of u, or new
abbrev Tails : World → World → Type 0
Tails u v = (q : ℕ) (h : Half) → v.receive q ≡ Some h → IsNewHalf h ⊎ (u.receive q ≡ Some h)

-- or it follows one of u
abbrev pub Modes : Option ℕ → (ℕ → ℕ) → World → World → Type 0
Modes begun kept u v = (q : ℕ) (h : Half) → v.receive q ≡ Some h → IsNewHalf h ⊎ ((g : Half) × (u.receive q ≡ Some g) × Follows begun kept q g h)

tails_same : (u v : World) → v.receive ≡ u.receive → Tails u v
tails_same u v e q h k = inr (sym (ap (λ (f : Halves). f q) e) ∙ k)

modes_tail : (begun : Option ℕ) (kept : ℕ → ℕ) (u w v : World) → Modes begun kept u w → Tails w v → Modes begun kept u v
modes_tail begun kept u w v m t q h k = elim (t q h k) [ inl a ↦ inl a | inr b ↦ m q h b ]

tails_then : (u w v : World) → Tails u w → Tails w v → Tails u v
tails_then u w v m t q h k = elim (t q h k) [ inl a ↦ inl a | inr b ↦ m q h b ]

modes_of : (begun : Option ℕ) (kept : ℕ → ℕ) (u v : World) → Tails u v → Modes begun kept u v
modes_of begun kept u v t q h k = elim (t q h k) [ inl a ↦ inl a | inr b ↦ inr (h, b, follows_same begun kept q h h refl (omega arith)) ]

tails_at : (u v w : World) → v ≡ w → Tails u w → Tails u v
tails_at u v w e t = let P : World → Type 0 = λ x. Tails u x in subst P (sym e) t

modes_at : (begun : Option ℕ) (kept : ℕ → ℕ) (u v w : World) → v ≡ w → Modes begun kept u w → Modes begun kept u v
modes_at begun kept u v w e t = let P : World → Type 0 = λ x. Modes begun kept u x in subst P (sym e) t

-- one half is another now
put_half : (f : Halves) (id q : ℕ) (o : Option Half) (h : Half) {P : Type 0} → (with_half f id o) q ≡ Some h → (q ≡ id → o ≡ Some h → P) → (f q ≡ Some h → P) → P
unfolding with_half
put_half f id q o h k here other = by_cases (eqb q id)
    (λ t. here (same q id t) (let l = rw t at k in l))
    (λ n. other (let l = rw n at k in l))

modes_put : (begun : Option ℕ) (kept : ℕ → ℕ) (u : World) (id : ℕ) (g h : Half) → u.receive id ≡ Some g → Follows begun kept id g h → Modes begun kept u (with_receive u id (Some h))
unfolding with_receive
modes_put begun kept u id g h e o q k at = put_half u.receive id q (Some h) k at
    (λ i s. inr (
      g,
      ap u.receive i ∙ e,
      let P : Half → Type 0 = λ x. Follows begun kept q g x in
          let Q : ℕ → Type 0 = λ j. Follows begun kept j g h in
          subst P (some_same h k s) (subst Q (sym i) o),
    ))
    (λ s. inr (k, s, follows_same begun kept q k k refl (omega arith)))

tails_drop : (u : World) (id : ℕ) → Tails u (with_receive u id None)
unfolding with_receive
tails_drop u id q h at = put_half u.receive id q None h at (λ i s. cc) (λ s. inr s)

pub read_none : (h : Half) (window : ℕ) → new_half window ≡ h → IsNewHalf h
read_none h window e = let P : Half → Type 0 = λ x. IsNewHalf x in subst P e (record { read = refl; ordered = refl; pieces = refl })

tails_new : (u v : World) (id : ℕ) → v.receive ≡ with_half u.receive id (Some (new_half u.window)) → Tails u v
tails_new u v id e q h at = put_half u.receive id q (Some (new_half u.window)) h (sym (ap (λ (f : Halves). f q) e) ∙ at)
    (λ i s. inl (read_none h u.window (some_same (new_half u.window) h s)))
    (λ s. inr s)

tails_remote : (u : World) (d : Dir) (r : Remote) → Tails u (with_remote u d r)
tails_remote u Bi r = tails_same u (with_remote u Bi r) refl
tails_remote u Uni r = tails_same u (with_remote u Uni r) refl

tails_permitted : (u : World) (d : Dir) (index : ℕ) → Tails u (with_permitted u d index)
unfolding with_receive
tails_permitted u Bi index = tails_new u (with_permitted u Bi index) (stream_id (other_side u.out.side) Bi index) refl
tails_permitted u Uni index = tails_new u (with_permitted u Uni index) (stream_id (other_side u.out.side) Uni index) refl

tails_permitted_if : (u : World) (d : Dir) (o : Option ℕ) → Tails u (permitted_if u d o)
tails_permitted_if u d None = tails_same u u refl
tails_permitted_if u d (Some index) = tails_permitted u d index

tails_replaced : (u : World) (d : Dir) → Tails u (replaced_in u d)
tails_replaced u d =
    let w = with_remote u d (replaced (remote_of u d)) in
    tails_then u w (replaced_in u d) (tails_remote u d (replaced (remote_of u d))) (tails_permitted_if w d (replacement (remote_of u d)))

tails_if : (u v w : World) (b : Bool) → Tails u v → Tails u w → Tails u (if b then v else w)
tails_if u v w true s t = s
tails_if u v w false s t = t

modes_if : (begun : Option ℕ) (kept : ℕ → ℕ) (u v w : World) (b : Bool) → Modes begun kept u v → Modes begun kept u w → Modes begun kept u (if b then v else w)
modes_if begun kept u v w true s t = s
modes_if begun kept u v w false s t = t

tails_released : (u : World) (d : Dir) (id : ℕ) → Tails u (released u d id)
tails_released u Uni id = tails_replaced u Uni
tails_released u Bi id = tails_if u u (replaced_in u Bi) (sends u id) (tails_same u u refl) (tails_replaced u Bi)

tails_freed : (u : World) (id : ℕ) → Tails u (with_freed u id)
tails_freed u id =
    let w = with_receive u id None in
    let t = tails_drop u id in
    tails_if u w (released w (dir_of id) id) (is_own w id) t (tails_then u w (released w (dir_of id) id) t (tails_released w (dir_of id) id))

tails_readable : (w : World) (id : ℕ) (b : Bool) → Tails w (told_readable w id b)
tails_readable w id true = tails_same w (told_readable w id true) refl
tails_readable w id false = tails_same w w refl

tails_noticed : (w : World) (id : ℕ) (b : Bool) → Tails w (noticed w id b)
tails_noticed w id b =
    let P : World → Type 0 = λ x. Tails w x in
    noticed-any P w id b (tails_readable w id b) (tails_remote w (dir_of id) (opened_up_to (remote_of w (dir_of id)) (index_of id)))

-- ---- frames

follows_kept : (begun : Option ℕ) (kept : ℕ → ℕ) (id offset : ℕ) (bytes : List ℕ) (fin : Bool) (old new : Half) → 1 ≤ kept id → KeepsBytes old offset bytes fin new → Follows begun kept id old new
follows_kept begun kept id offset bytes fin old new l k =
    let e = k.inserted.ordered in
    record { ordered = λ o. sym e ∙ o; unordered = λ o. inl (sym e ∙ o); pieces = λ o. let n = k.inserted.pieces (sym e ∙ o) in omega arith }

follows_at : (begun : Option ℕ) (kept : ℕ → ℕ) (id : ℕ) (old new : Half) → new.buffer ≡ old.buffer → Follows begun kept id old new
follows_at begun kept id old new e = let n : piece_count new.buffer ≡ piece_count old.buffer = ap piece_count e in follows_same begun kept id old new (ap (λ (a : Reassembly). a.ordered) e) (omega arith)

follows_taken : (begun : Option ℕ) (kept : ℕ → ℕ) (id offset : ℕ) (bytes : List ℕ) (fin : Bool) (old new : Half) → 1 ≤ kept id → TakesFrame old offset bytes fin new → Follows begun kept id old new
follows_taken begun kept id offset bytes fin old new l t = by_cases old.stopped
    (λ s. follows_at begun kept id old new (ap (λ (h : Half). h.buffer) (t.stopped s)))
    (λ n. follows_kept begun kept id offset bytes fin old new l (t.running n))

modes_data : (begun : Option ℕ) (kept : ℕ → ℕ) (u : World) (id : ℕ) (old new : Half) (fin : Bool) → u.receive id ≡ Some old → Follows begun kept id old new → Modes begun kept u (after_data u id old new fin)
modes_data begun kept u id old new fin e o =
    let w = advanced u id old new in
    let m : Modes begun kept u w = modes_put begun kept u id old new e o in
    modes_if begun kept u (with_credit (if fin then with_freed w id else w) (new.end - old.end)) (noticed w id true) old.stopped
    (modes_if_fin w m fin)
    (modes_tail begun kept u w (noticed w id true) m (tails_noticed w id true))
  where
    modes_if_fin : (w : World) → Modes begun kept u w → (b : Bool) → Modes begun kept u (with_credit (if b then with_freed w id else w) (new.end - old.end))
    modes_if_fin w m true = modes_tail begun kept u w (with_credit (with_freed w id) (new.end - old.end)) m (tails_freed w id)
    modes_if_fin w m false = m

modes_frame : (begun : Option ℕ) (kept : ℕ → ℕ) (u v : World) (id offset : ℕ) (bytes : List ℕ) (fin : Bool) (answer : Result ShouldTransmit ReceiveError) → (is_frame_kept answer ≡ true → 1 ≤ kept id) → Receives u id offset bytes fin answer v → Modes begun kept u v
modes_frame begun kept u v id offset bytes fin (Ok transmit) l (inl s) = modes_of begun kept u v (tails_at u v u s.3 (tails_same u u refl))
modes_frame begun kept u v id offset bytes fin (Ok transmit) l (inr s) =
    let r = s.3 in
    modes_at begun kept u v _ s.5 (modes_data begun kept u id s.1 s.2 fin r.half (follows_taken begun kept id offset bytes fin s.1 s.2 (l refl) r.ingests.3))
modes_frame begun kept u v id offset bytes fin (Err (receive_error.Transport error)) l (inl s) = modes_of begun kept u v (tails_at u v u s.1 (tails_same u u refl))
modes_frame begun kept u v id offset bytes fin (Err (receive_error.Transport error)) l (inr s) = by_answer s.2.ingests
  where
    internal : (c : ℕ) → c ≡ internal_error → (c == INTERNAL_ERROR) ≡ true
    internal c e = rw e refl

    by_answer : Ingests s.0 offset bytes fin u.credit.data_recvd u.credit.local_max_data (Err (receive_error.Transport error)) s.1 → Modes begun kept u v
    by_answer (inl t) = modes_at begun kept u v (advanced u id s.0 s.1) s.3 (modes_put begun kept u id s.0 s.1 s.2.half (follows_at begun kept id s.0 s.1 (ap (λ (h : Half). h.buffer) t.1)))
    by_answer (inr t) = modes_at begun kept u v (advanced u id s.0 s.1) s.3 (modes_put begun kept u id s.0 s.1 s.2.half (follows_kept begun kept id offset bytes fin s.0 s.1 (l (internal error.code t.1)) t.4))
modes_frame begun kept u v id offset bytes fin (Err receive_error.CompactionMemory) l s =
    modes_at begun kept u v (advanced u id s.0 s.1) s.3 (modes_put begun kept u id s.0 s.1 s.2.half (follows_kept begun kept id offset bytes fin s.0 s.1 (l refl) s.2.ingests.2))
modes_frame begun kept u v id offset bytes fin (Err receive_error.OutOfMemory) l s = modes_of begun kept u v (tails_at u v u s (tails_same u u refl))

follows_cleared : (begun : Option ℕ) (kept : ℕ → ℕ) (id : ℕ) (old new : Half) → Clears old.buffer new.buffer → Follows begun kept id old new
follows_cleared begun kept id old new c = let n = c.pieces in follows_same begun kept id old new c.ordered (omega arith)

modes_reset : (begun : Option ℕ) (kept : ℕ → ℕ) (u v : World) (id code final : ℕ) (answer : Result ShouldTransmit ReceiveError) → ReceivesReset u id code final answer v → Modes begun kept u v
modes_reset begun kept u v id code final (Ok transmit) (inl s) = modes_of begun kept u v (tails_at u v u s.3 (tails_same u u refl))
modes_reset begun kept u v id code final (Ok transmit) (inr (inl s)) = modes_of begun kept u v (tails_at u v u s.4 (tails_same u u refl))
modes_reset begun kept u v id code final (Ok transmit) (inr (inr s)) =
    let old = s.0 in
    let new = s.1 in
    let r = s.2 in
    let w = advanced u id old new in
    let x = noticed w id (not old.stopped) in
    let y = if old.stopped then with_freed x id else x in
    let m : Modes begun kept u w = modes_put begun kept u id old new r.half (follows_cleared begun kept id old new r.resets.2) in
    let t : Tails w y = tails_then w x y (tails_noticed w id (not old.stopped)) (tails_if x (with_freed x id) x old.stopped (tails_freed x id) (tails_same x x refl)) in
    modes_at begun kept u v _ s.4 (modes_tail begun kept u w (after_reset u id old new) m (tails_if w y (with_credit y (new.end - credited_to old)) (new.end - credited_to old == 0) t t))
modes_reset begun kept u v id code final (Err (receive_error.Transport error)) (inl s) = modes_of begun kept u v (tails_at u v u s.1 (tails_same u u refl))
modes_reset begun kept u v id code final (Err (receive_error.Transport error)) (inr s) = modes_of begun kept u v (tails_at u v u s.3 (tails_same u u refl))
modes_reset begun kept u v id code final (Err receive_error.CompactionMemory) s = absurd s
modes_reset begun kept u v id code final (Err receive_error.OutOfMemory) s = modes_of begun kept u v (tails_at u v u s (tails_same u u refl))

-- ---- readers

follows_asked : (begun : Option ℕ) (kept : ℕ → ℕ) (id : ℕ) (old new : Half) (ordered : Bool) → (ordered ≡ false → begun ≡ Some id) → Orders old ordered (Ok tt) new → Follows begun kept id old new
follows_asked begun kept id old new ordered l (inl s) = follows_at begun kept id old new (ap (λ (h : Half). h.buffer) s.1)
follows_asked begun kept id old new ordered l (inr s) =
    let n = s.1.leaves.ordered in
    record { ordered = λ k. let e = sym n ∙ k in cc; unordered = λ k. inr (l s.0); pieces = λ k. let e = sym n ∙ k in cc }

follows_rests : (begun : Option ℕ) (kept : ℕ → ℕ) (id : ℕ) (old new : Half) → Rests old.buffer new.buffer → Follows begun kept id old new
follows_rests begun kept id old new r = follows_same begun kept id old new r.ordered r.pieces

modes_began : (begun : Option ℕ) (kept : ℕ → ℕ) (u v : World) (id : ℕ) (ordered : Bool) (answer : Result (Unit {0}) ReadableError) → (answer ≡ Ok tt → ordered ≡ false → begun ≡ Some id) → Begins u id ordered answer v → Modes begun kept u v
modes_began begun kept u v id ordered (Ok x) l s = modes_at begun kept u v _ s.is (modes_put begun kept u id s.old s.new s.half (follows_asked begun kept id s.old s.new ordered (l refl) s.orders))
modes_began begun kept u v id ordered (Err readable_error.ClosedStream) l s = modes_of begun kept u v (tails_at u v u s.1 (tails_same u u refl))
modes_began begun kept u v id ordered (Err readable_error.IllegalOrderedRead) l s = modes_at begun kept u v _ s.is (modes_put begun kept u id s.old s.new s.half (follows_rests begun kept id s.old s.new s.orders.2))
modes_began begun kept u v id ordered (Err readable_error.OutOfMemory) l (inl s) = modes_of begun kept u v (tails_at u v u s (tails_same u u refl))
modes_began begun kept u v id ordered (Err readable_error.OutOfMemory) l (inr s) = modes_at begun kept u v _ s.is (modes_put begun kept u id s.old s.new s.half (follows_rests begun kept id s.old s.new s.orders.1))

modes_read : (begun : Option ℕ) (kept : ℕ → ℕ) (u : World) (id most : ℕ) (old new : Half) (answer : Result (Option Chunk) ReadError) → u.receive id ≡ Some old → Reads old most answer new → Modes begun kept u (after_read u id new answer)
modes_read begun kept u id most old new (Ok (Some chunk)) e r = modes_put begun kept u id old new e (follows_same begun kept id old new r.1.ordered r.1.pieces)
modes_read begun kept u id most old new (Ok None) e r = modes_of begun kept u (with_freed u id) (tails_freed u id)
modes_read begun kept u id most old new (Err read_error.Blocked) e r = modes_put begun kept u id old new e (follows_rests begun kept id old new r.2.rests)
modes_read begun kept u id most old new (Err (read_error.Reset code)) e r = modes_of begun kept u (with_freed u id) (tails_freed u id)
modes_read begun kept u id most old new (Err read_error.OutOfMemory) e r = modes_put begun kept u id old new e (follows_rests begun kept id old new r.1.rests)

-- ---- what is permitted

tails_more : (u v : World) (d : Dir) (first n : ℕ) → v.receive ≡ with_more u.receive (other_side u.out.side) d first n (Some (new_half u.window)) → Tails u v
unfolding with_more
tails_more u v d first n e q h at = by_between (is_between (other_side u.out.side) d first n q) (sym (ap (λ (f : Halves). f q) e) ∙ at)
  where
    by_between : (b : Bool) → (if b then Some (new_half u.window) else u.receive q) ≡ Some h → IsNewHalf h ⊎ (u.receive q ≡ Some h)
    by_between true k = inl (read_none h u.window (some_same (new_half u.window) h k))
    by_between false k = inr k

tails_concurrent : (u : World) (d : Dir) (count : ℕ) → Tails u (after_concurrent u d count)
tails_concurrent u Bi count = tails_more u (after_concurrent u Bi count) Bi u.bi.max_remote _ refl
tails_concurrent u Uni count = tails_more u (after_concurrent u Uni count) Uni u.uni.max_remote _ refl

announced_buffer : (h : Half) (b : Bool) (n : ℕ) → (if b then record h { sent_max = n } else h).buffer ≡ h.buffer
announced_buffer h true n = refl
announced_buffer h false n = refl

modes_announced : (begun : Option ℕ) (kept : ℕ → ℕ) (u : World) (window id : ℕ) (o : Option Half) → u.receive id ≡ o → Modes begun kept u (record u { receive = after_announced u.receive window id o })
unfolding with_receive
modes_announced begun kept u window id None e = modes_of begun kept u u (tails_same u u refl)
modes_announced begun kept u window id (Some h) e = modes_put begun kept u id h (with_announced window h) e (follows_at begun kept id h (with_announced window h) (announced_buffer h (is_open h) (max h.sent_max (window_end h window))))

modes_settled : (begun : Option ℕ) (kept : ℕ → ℕ) (kind : ControlKind) (u : World) (p : Pending) (o : Option Frame) (v : World) (q : Pending) → SettlesEntry kind u p o v q → Modes begun kept u v
modes_settled begun kept kinds.ResetStream u p o v q s = modes_of begun kept u v (tails_at u v u s.end (tails_same u u refl))
modes_settled begun kept kinds.StopSending u p o v q s = modes_of begun kept u v (tails_at u v u s.end (tails_same u u refl))
modes_settled begun kept kinds.MaxData u p o v q s = modes_of begun kept u v (tails_same u v (ap (λ (w : World). w.receive) s.end))
modes_settled begun kept kinds.MaxStreamData u p o v q s = modes_at begun kept u v _ s.end (modes_announced begun kept u u.window s.id (u.receive s.id) refl)
modes_settled begun kept (kinds.MaxStreams d) u p o v q s = modes_of begun kept u v (tails_at u v _ s.end (tails_remote u d (streams_announced (remote_of u d))))
modes_settled begun kept kinds.DataBlocked u p o v q s = modes_of begun kept u v (tails_at u v u s.end (tails_same u u refl))
modes_settled begun kept kinds.StreamDataBlocked u p o v q s = modes_of begun kept u v (tails_at u v u s.end (tails_same u u refl))

-- ---- the sending side

tails_opened : (u : World) (d : Dir) (id : ℕ) (o : Outgoing) → Tails u (with_opened u d id o)
unfolding with_receive
tails_opened u Bi id o = tails_new u (with_opened u Bi id o) id refl
tails_opened u Uni id o = tails_same u (with_opened u Uni id o) refl

tails_writable : (w : World) (id : ℕ) (b : Bool) → Tails w (told_writable w id b)
tails_writable w id true = tails_same w (told_writable w id true) refl
tails_writable w id false = tails_same w w refl

tails_first_stop : (w : World) (id code : ℕ) (b : Bool) → Tails w (after_first_stop w id code b)
tails_first_stop w id code true = let x = told w (stream_event.Stopped id code) in tails_then w x (noticed x id false) (tails_same w x refl) (tails_noticed x id false)
tails_first_stop w id code false = tails_same w w refl

tails_queue : (w : World) (writable : Option ℕ) (answer : Option StreamEvent) (v : World) → PollsQueue w writable answer v → Tails w v
tails_queue w (Some id) answer v s = tails_at w v w s.1 (tails_same w w refl)
tails_queue w None answer v s = tails_same w v (ap (λ (x : World). x.receive) s.2)

tails_polled : (u : World) (answer : Option StreamEvent) (v : World) → TellsNext u answer v → Tails u v
tails_polled u answer v s = either-way u.bi.opened s
    (λ t. tails_at u v _ t.1 (tails_remote u Bi (opening_told u.bi)))
    (λ t. either-way u.uni.opened t
    (λ k. tails_at u v _ k.1 (tails_remote u Uni (opening_told u.uni)))
    (λ p. tails_queue (with_out u p.1) p.0 answer v p.3))

tails_queued : (u : World) (id : ℕ) (o : Option ℤ) → Tails u (with_queued u id o)
tails_queued u id None = tails_same u u refl
tails_queued u id (Some priority) = tails_same u (with_queued u id (Some priority)) refl

tails_send_released : (w : World) (d : Dir) (id : ℕ) → Tails w (send_released w d id)
tails_send_released w Uni id = tails_same w w refl
tails_send_released w Bi id = tails_if w w (replaced_in w Bi) (is_some (w.receive id)) (tails_same w w refl) (tails_replaced w Bi)

tails_send_half : (w : World) (id : ℕ) → Tails w (without_send_half w id)
tails_send_half w id = tails_if w w (send_released w (dir_of id) id) (is_own w id) (tails_same w w refl) (tails_send_released w (dir_of id) id)

tails_send_freed : (w : World) (id : ℕ) → Tails w (with_send_freed w id)
tails_send_freed w id = tails_send_half (without_sender w id) id

tails_finished : (w : World) (id : ℕ) (b : Bool) → Tails w (told_finished w id b)
tails_finished w id true = tails_send_freed w id
tails_finished w id false = tails_same w w refl

tails_send : (u : World) (e : SendEvent) (v : World) → SendStep u e v → Tails u v
tails_send u (GaveLimits limits (Ok x)) v s = tails_same u v (ap (λ (w : World). w.receive) s)
tails_send u (GaveLimits limits (Err e)) v s = tails_same u v (ap (λ (w : World). w.receive) s)
tails_send u (OpenedOwn dir closed (Ok None)) v s = tails_same u v (ap (λ (w : World). w.receive) s.1)
tails_send u (OpenedOwn dir closed (Ok (Some id))) v s = tails_at u v _ s.3 (tails_opened u dir id s.1)
tails_send u (OpenedOwn dir closed (Err e)) v s = tails_same u v (ap (λ (w : World). w.receive) s)
tails_send u (RaisedData limit) v s = tails_same u v (ap (λ (w : World). w.receive) s)
tails_send u (RaisedCount dir count (Ok x)) v s =
    let w = with_out u (with_own u.out dir (with_count (own_of u.out dir) count)) in
    tails_at u v _ s.1 (tails_if u (told w (stream_event.Available dir)) w (nat_lt (own_of u.out dir).limit count) (tails_same u (told w (stream_event.Available dir)) refl) (tails_same u w refl))
tails_send u (RaisedCount dir count (Err (receive_error.Transport error))) v s = tails_same u v (ap (λ (w : World). w.receive) s.2)
tails_send u (RaisedCount dir count (Err receive_error.CompactionMemory)) v s = absurd s
tails_send u (RaisedCount dir count (Err receive_error.OutOfMemory)) v s = tails_same u v (ap (λ (w : World). w.receive) s.2)
tails_send u (RaisedLimit id limit (Ok x)) v s =
    let w = told_writable (with_out u s.2) id s.1 in
    tails_at u v _ s.4 (tails_then (with_out u s.2) w (noticed w id false) (tails_writable (with_out u s.2) id s.1) (tails_noticed w id false))
tails_send u (RaisedLimit id limit (Err (receive_error.Transport error))) v s = tails_same u v (ap (λ (w : World). w.receive) s.1)
tails_send u (RaisedLimit id limit (Err receive_error.CompactionMemory)) v s = absurd s
tails_send u (RaisedLimit id limit (Err receive_error.OutOfMemory)) v s = tails_same u v (ap (λ (w : World). w.receive) s)
tails_send u (StoppedOwn id code (Ok x)) v s = either-way (is_permitted u id) s
    (λ t. tails_at u v _ t.3 (tails_first_stop (with_out u t.1) id code t.0))
    (λ t. tails_same u v (ap (λ (w : World). w.receive) t))
tails_send u (StoppedOwn id code (Err e)) v s = tails_same u v (ap (λ (w : World). w.receive) s)
tails_send u (SetWindow window) v s = tails_same u v (ap (λ (w : World). w.receive) s)
tails_send u (Polled answer) v s = tails_polled u answer v s
tails_send u (WroteOwn id lists closed (Ok written)) v s = tails_at u v _ s.3.5 (tails_queued (with_out u s.3.2) id s.3.1.queue_at)
tails_send u (WroteOwn id lists closed (Err e)) v s = refused s.3
  where
    refused : WritesOwn u id lists closed s.0 (Err e) v s.2 s.1 → Tails u v
    refused (inl t) = tails_same u v (ap (λ (w : World). w.receive) t.2)
    refused (inr t) = tails_same u v (ap (λ (w : World). w.receive) t.3)
tails_send u (FinishedOwn id (Ok x)) v s = tails_at u v _ s.3 (tails_queued (with_out u s.1) id s.0)
tails_send u (FinishedOwn id (Err e)) v s = tails_same u v (ap (λ (w : World). w.receive) s.2)
tails_send u (ResetOwn id code answer) v s = tails_same u v (ap (λ (w : World). w.receive) s.2.2)
tails_send u (SetOwnPriority id priority answer) v s = tails_same u v (ap (λ (w : World). w.receive) s.2)
tails_send u (AckedOwn id offsets fin (Ok x)) v s = either-way (is_permitted u id) s
    (λ t. tails_at u v _ t.3 (tails_finished (with_out u t.1) id t.0))
    (λ t. tails_same u v (ap (λ (w : World). w.receive) t))
tails_send u (AckedOwn id offsets fin (Err e)) v s = tails_same u v (ap (λ (w : World). w.receive) s.2)
tails_send u (LostOwn id offsets fin (Ok x)) v s = tails_at u v _ s.3 (tails_queued (with_out u s.1) id s.0)
tails_send u (LostOwn id offsets fin (Err e)) v s = tails_same u v (ap (λ (w : World). w.receive) s.1)
tails_send u (ResetAckedOwn id (Ok x)) v s = either-way (frees_reset u id) s
    (λ t. tails_at u v _ t (tails_send_freed (with_out u (with_send_half u.out id None)) id))
    (λ t. tails_same u v (ap (λ (w : World). w.receive) t))
tails_send u (ResetAckedOwn id (Err e)) v s = tails_same u v (ap (λ (w : World). w.receive) s.1)
tails_send u (TookTurn most fair None) v s = tails_same u v (ap (λ (w : World). w.receive) s.is ∙ sym (ap (λ (w : World). w.receive) s.found))
tails_send u (TookTurn most fair (Some frame)) v s = tails_same u v (ap (λ (w : World). w.receive) s.is ∙ sym (ap (λ (w : World). w.receive) s.found))

-- the stream of which a call began a reader that reads bytes as they come
abbrev pub begun_by : Event → Option ℕ
begun_by (Began id false (Ok x)) = Some id
begun_by _ = None

kept_one : (id : ℕ) (b : Bool) → b ≡ true → 1 ≤ (if (id == id) && b then 1 else 0)
kept_one id b e = rw (itself id, e) (omega arith)

begun_so : (id : ℕ) (ordered : Bool) → ordered ≡ false → begun_by (Began id ordered (Ok tt)) ≡ Some id
begun_so id true e = cc
begun_so id false e = refl

begun_here : (id : ℕ) (ordered : Bool) (answer : Result (Unit {0}) ReadableError) → answer ≡ Ok tt → ordered ≡ false → begun_by (Began id ordered answer) ≡ Some id
begun_here id ordered answer e k = ap (λ a. begun_by (Began id ordered a)) e ∙ begun_so id ordered k

abbrev pub ModesBy : Event → World → World → Type 0
ModesBy e u v = Modes (begun_by e) (frames_kept e) u v

-- a call leaves each half in its mode, or lets it read bytes as they come
pub modes-step : (u : World) (e : Event) (v : World) → begins_anew (joint_move_of e) ≡ false → Step u e v → ModesBy e u v
modes-step u (Received id offset bytes fin answer) v p s = modes_frame (begun_by (Received id offset bytes fin answer)) (frames_kept (Received id offset bytes fin answer)) u v id offset bytes fin answer (kept_one id (is_frame_kept answer)) s
modes-step u (ReceivedReset id code final answer) v p s = modes_reset (begun_by (ReceivedReset id code final answer)) (frames_kept (ReceivedReset id code final answer)) u v id code final answer s
modes-step u (AddedCredits count answer) v p s = modes_of (begun_by (AddedCredits count answer)) (frames_kept (AddedCredits count answer)) u v (tails_same u v (ap (λ (w : World). w.receive) s.0))
modes-step u (Began id ordered answer) v p s = modes_began (begun_by (Began id ordered answer)) (frames_kept (Began id ordered answer)) u v id ordered answer (begun_here id ordered answer) s
modes-step u (Gave id most ordered answer) v p s = modes_at (begun_by (Gave id most ordered answer)) (frames_kept (Gave id most ordered answer)) u v _ s.is (modes_read (begun_by (Gave id most ordered answer)) (frames_kept (Gave id most ordered answer)) u id most s.old s.new answer s.half s.reads)
modes-step u (Ended id count) v p s = modes_of (begun_by (Ended id count)) (frames_kept (Ended id count)) u v (tails_same u v (ap (λ (w : World). w.receive) s))
modes-step u (Stopped id code (Ok x)) v p s =
    let t = s.2 in
    modes_at (begun_by (Stopped id code (Ok x))) (frames_kept (Stopped id code (Ok x))) u v _ t.6 (modes_if (begun_by (Stopped id code (Ok x))) (frames_kept (Stopped id code (Ok x))) u (with_freed u id) (with_receive u id (Some t.1)) (is_some t.0.size) (modes_of (begun_by (Stopped id code (Ok x))) (frames_kept (Stopped id code (Ok x))) u (with_freed u id) (tails_freed u id))
    (modes_put (begun_by (Stopped id code (Ok x))) (frames_kept (Stopped id code (Ok x))) u id t.0 t.1 t.2 (follows_cleared (begun_by (Stopped id code (Ok x))) (frames_kept (Stopped id code (Ok x))) id t.0 t.1 t.4)))
modes-step u (Stopped id code (Err handle_error.ClosedStream)) v p s = modes_of (begun_by (Stopped id code (Err handle_error.ClosedStream))) (frames_kept (Stopped id code (Err handle_error.ClosedStream))) u v (tails_same u v (ap (λ (w : World). w.receive) s.2.1))
modes-step u (Stopped id code (Err handle_error.OutOfMemory)) v p s = modes_of (begun_by (Stopped id code (Err handle_error.OutOfMemory))) (frames_kept (Stopped id code (Err handle_error.OutOfMemory))) u v (tails_same u v (ap (λ (w : World). w.receive) s.2.0))
modes-step u (ToldReset id (Ok (Some code))) v p s = modes_of (begun_by (ToldReset id (Ok (Some code)))) (frames_kept (ToldReset id (Ok (Some code)))) u v (tails_at u v _ s.2.4 (tails_freed u id))
modes-step u (ToldReset id (Ok None)) v p s = modes_of (begun_by (ToldReset id (Ok None))) (frames_kept (ToldReset id (Ok None))) u v (tails_same u v (ap (λ (w : World). w.receive) s.2.4))
modes-step u (ToldReset id (Err handle_error.ClosedStream)) v p s = modes_of (begun_by (ToldReset id (Err handle_error.ClosedStream))) (frames_kept (ToldReset id (Err handle_error.ClosedStream))) u v (tails_same u v (ap (λ (w : World). w.receive) s.2.1))
modes-step u (ToldReset id (Err handle_error.OutOfMemory)) v p s = modes_of (begun_by (ToldReset id (Err handle_error.OutOfMemory))) (frames_kept (ToldReset id (Err handle_error.OutOfMemory))) u v (tails_same u v (ap (λ (w : World). w.receive) s.2.3))
modes-step u (Resized window answer) v p s = modes_of (begun_by (Resized window answer)) (frames_kept (Resized window answer)) u v (tails_same u v (ap (λ (w : World). w.receive) s.0))
modes-step u (SetConcurrent dir count (Ok k)) v p s = modes_of (begun_by (SetConcurrent dir count (Ok k))) (frames_kept (SetConcurrent dir count (Ok k))) u v (tails_at u v _ s (tails_concurrent u dir count))
modes-step u (SetConcurrent dir count (Err k)) v p s = modes_of (begun_by (SetConcurrent dir count (Err k))) (frames_kept (SetConcurrent dir count (Err k))) u v (tails_same u v (ap (λ (w : World). w.receive) s))
modes-step u (Accepted dir answer) v p s = modes_of (begun_by (Accepted dir answer)) (frames_kept (Accepted dir answer)) u v (tails_at u v _ s.0 (tails_remote u dir (one_accepted (remote_of u dir))))
modes-step u (LeftPending kind frame) v p s = modes_settled (begun_by (LeftPending kind frame)) (frames_kept (LeftPending kind frame)) kind u s.0 frame v s.1 s.2
modes-step u (Sending e) v p s = modes_of (begun_by (Sending e)) (frames_kept (Sending e)) u v (tails_send u e v s)
modes-step u Rejected v p s = cc
modes-step u (SentAgain (Ok x)) v p s = modes_of (begun_by (SentAgain (Ok x))) (frames_kept (SentAgain (Ok x))) u v (tails_same u v (ap (λ (w : World). w.receive) s.1.2))
modes-step u (SentAgain (Err x)) v p s = modes_of (begun_by (SentAgain (Err x))) (frames_kept (SentAgain (Err x))) u v (tails_same u v (ap (λ (w : World). w.receive) s.1))
