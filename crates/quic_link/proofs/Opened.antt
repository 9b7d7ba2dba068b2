-- A stream of the peer counts as opened once a frame with data of it was taken, unless it is over.
use Rattle.std.proofs.Common.{◌≡◌, ◌⊎◌, ℕ, Bool, true, false, List, [], Option, Some, None, is_some, Result, Ok, Err, refl, sym, ap, ◌∙◌, subst, inl, inr, arith, ◌+◌, ◌-◌, ◌≤◌, ◌<◌}
use Rattle.std.specs.Prelude.{◌&&◌, ◌==◌, not, nat_le, if◌then◌else◌}
use Rattle.std.proofs.lemmas.Bool.Decides.{nat_tests}
use Rattle.quic_values.specs.declared.ids.Dir.{Dir}
use Rattle.quic_values.specs.declared.ids.Dir.TheVariants.{Bi, Uni}
use Rattle.quic_values.specs.declared.ids.Side.TheVariants.{Client}
use Rattle.quic_values.specs.Ids.{dir_of, index_of, initiator_of}
use Rattle.quic_wire.specs.declared.event.StreamEvent.TheVariants as stream_event
use Rattle.quic_wire.specs.declared.error.ReceiveError.{ReceiveError}
use Rattle.quic_wire.specs.declared.error.ReceiveError.TheVariants as receive_error
use Rattle.quic_limits.specs.Remote.{Remote, opened_up_to}
use Rattle.quic_receiving.specs.Half.{Half}
use Rattle.quic_receiving.specs.declared.transmit.ShouldTransmit.{ShouldTransmit}
use Rattle.quic_receiving.specs.declared.errors.ReadError.TheVariants as read_error
use Rattle.quic_outgoing.specs.Outgoing.{Outgoing}
use Rattle.quic_outgoing.specs.Senders.{is_local}
use Rattle.quic_history.specs.World.{World, is_own, is_same_side, with_receive, id_refusal, remote_of, with_remote, with_freed, told, told_readable, noticed, with_credit, advanced}
use Rattle.quic_history.specs.Receiving.{Receives, ReceivesReset, IsDropped, after_data, after_reset, credited_to}
use Rattle.quic_history.specs.Sends.{with_out, told_writable, after_first_stop, is_permitted}
use Rattle.quic_history.specs.SendEvents.{RaisedLimit, StoppedOwn}
use Rattle.quic_history.specs.Early.{begins_anew}
use Rattle.quic_history.specs.History.{Event, Received, ReceivedReset, Sending, Step, Trace, Move, Framed, WasReset, WasRead, WasStopped, WasTold, WasAnnounced, trace, untouched, moved, move_of, with_move, with_kept_frame, is_frame_kept, is_closed, joint_move_of}
use Rattle.quic_history.proofs.SendSteps.{either-way}
use Rattle.quic_history.proofs.StreamSteps.{half-from, gone-from}
use Rattle.quic_link.specs.Endpoints.{LinkedEnd, IsOneOf, MayAct, acted, Linked, begun, first_acts, second_acts, came_on}
use Rattle.quic_link.specs.Promises.{IsOver}
use Rattle.quic_link.proofs.Ends.{comes-acted, plain-call}
use Rattle.quic_link.proofs.Meets.{nexts, next_of_dir, stays_put, stays_freed, stays_if, stays_readable, meets-step}
use Rattle.quic_link.proofs.Joint.{Agrees, agrees}

-- ---- what is over stays so

over_if : (a b : Trace) (k : Bool) → IsOver a → IsOver b → IsOver (if k then a else b)
over_if a b true g h = g
over_if a b false g h = h

over_move : (m : Move) (t : Trace) → IsOver t → IsOver (with_move m t)
over_move (Framed offset bytes fin answer) t o = over_if (with_kept_frame offset bytes fin t) t (is_frame_kept answer) (over_if t _ (is_closed t) o o) o
over_move (WasReset code final) t o = over_if t _ (is_closed t) o (inr (inr refl))
over_move (WasRead ordered (Ok (Some chunk))) t o = o
over_move (WasRead ordered (Ok None)) t o = inl refl
over_move (WasRead ordered (Err read_error.Blocked)) t o = o
over_move (WasRead ordered (Err (read_error.Reset code))) t o = o
over_move (WasRead ordered (Err read_error.OutOfMemory)) t o = o
over_move WasStopped t o = inr (inl refl)
over_move WasTold t o = o
over_move (WasAnnounced limit) t o = o

over_moved : (o : Option (ℕ × Move)) (q : ℕ) (t : Trace) → IsOver t → IsOver (moved o q t)
over_moved None q t k = k
over_moved (Some m) q t k = over_if (with_move m.1 t) t (q == m.0) (over_move m.1 t k) k

came_acted : (x : LinkedEnd) (e : Event) (v : World) (q : ℕ) → begins_anew (joint_move_of e) ≡ false → moved (move_of e) q (came_on x q) ≡ came_on (acted x e v) q
came_acted x e v q plain = ap (λ b. moved (move_of e) q (if b && is_local Client q then untouched else trace x.calls q)) (sym plain)

-- ---- as many streams count as opened, or more

abbrev Grows : World → World → Type 0
Grows u v = (d : Dir) → next_of_dir (nexts u) d ≤ next_of_dir (nexts v) d

grows_same : (u v : World) → nexts v ≡ nexts u → Grows u v
grows_same u v s d = let k : next_of_dir (nexts v) d ≡ next_of_dir (nexts u) d = ap (λ p. next_of_dir p d) s in omega (arith, k)

grows_then : (u w v : World) → Grows u w → Grows w v → Grows u v
grows_then u w v g h d = let a = g d in let b = h d in omega (arith, a, b)

grows_if : (u v w : World) (b : Bool) → Grows u v → Grows u w → Grows u (if b then v else w)
grows_if u v w true g h = g
grows_if u v w false g h = h

grows_at : (u v w : World) → v ≡ w → Grows u w → Grows u v
grows_at u v w e g = let P : World → Type 0 = λ x. Grows u x in subst P (sym e) g

grows_remote : (w : World) (d : Dir) (r : Remote) → (remote_of w d).next_remote ≤ r.next_remote → Grows w (with_remote w d r)
grows_remote w Bi r l Bi = l
grows_remote w Bi r l Uni = omega arith
grows_remote w Uni r l Bi = omega arith
grows_remote w Uni r l Uni = l

opened_more : (r : Remote) (index : ℕ) (b : Bool) → nat_le r.next_remote index ≡ b → r.next_remote ≤ (if b then record r { next_remote = index + 1; opened = true } else r).next_remote
opened_more r index true e = let l : r.next_remote ≤ index = grind (arith, nat_tests, e) in omega (arith, l)
opened_more r index false e = omega arith

grows_noticed : (w : World) (id : ℕ) (b : Bool) → Grows w (noticed w id b)
grows_noticed w id b = by_own (is_own w id)
  where
    by_first : (c : Bool) → Grows w (if c then with_remote w (dir_of id) (opened_up_to (remote_of w (dir_of id)) (index_of id)) else told_readable w id b)
    by_first true = grows_remote w (dir_of id) (opened_up_to (remote_of w (dir_of id)) (index_of id)) (opened_more (remote_of w (dir_of id)) (index_of id) (nat_le (remote_of w (dir_of id)).next_remote (index_of id)) refl)
    by_first false = grows_same w (told_readable w id b) (stays_readable w id b)

    by_own : (c : Bool) → Grows w (if c then told_readable w id b else (if nat_le (remote_of w (dir_of id)).next_remote (index_of id) then with_remote w (dir_of id) (opened_up_to (remote_of w (dir_of id)) (index_of id)) else told_readable w id b))
    by_own true = grows_same w (told_readable w id b) (stays_readable w id b)
    by_own false = by_first (nat_le (remote_of w (dir_of id)).next_remote (index_of id))

grows_data : (u : World) (id : ℕ) (old new : Half) (fin : Bool) → Grows u (after_data u id old new fin)
grows_data u id old new fin =
    let w = advanced u id old new in
    let s = stays_put u id (Some new) in
    grows_if u (with_credit (if fin then with_freed w id else w) (new.end - old.end)) (noticed w id true) old.stopped
    (grows_same u (with_credit (if fin then with_freed w id else w) (new.end - old.end)) (stays_if u (with_freed w id) w fin (stays_freed w id ∙ s) s))
    (grows_then u w (noticed w id true) (grows_same u w s) (grows_noticed w id true))

grows_received : (u v : World) (id offset : ℕ) (bytes : List ℕ) (fin : Bool) (answer : Result ShouldTransmit ReceiveError) → Receives u id offset bytes fin answer v → Grows u v
grows_received u v id offset bytes fin (Ok transmit) (inl s) = grows_same u v (ap nexts s.3)
grows_received u v id offset bytes fin (Ok transmit) (inr s) = grows_at u v _ s.5 (grows_data u id s.1 s.2 fin)
grows_received u v id offset bytes fin (Err (receive_error.Transport error)) (inl s) = grows_same u v (ap nexts s.1)
grows_received u v id offset bytes fin (Err (receive_error.Transport error)) (inr s) = grows_same u v (ap nexts s.3 ∙ stays_put u id (Some s.1))
grows_received u v id offset bytes fin (Err receive_error.CompactionMemory) s = grows_same u v (ap nexts s.3 ∙ stays_put u id (Some s.1))
grows_received u v id offset bytes fin (Err receive_error.OutOfMemory) s = grows_same u v (ap nexts s)

grows_reset : (u v : World) (id code final : ℕ) (answer : Result ShouldTransmit ReceiveError) → ReceivesReset u id code final answer v → Grows u v
grows_reset u v id code final (Ok transmit) (inl s) = grows_same u v (ap nexts s.3)
grows_reset u v id code final (Ok transmit) (inr (inl s)) = grows_same u v (ap nexts s.4)
grows_reset u v id code final (Ok transmit) (inr (inr s)) =
    let old = s.0 in
    let new = s.1 in
    let w = advanced u id old new in
    let x = noticed w id (not old.stopped) in
    let y = if old.stopped then with_freed x id else x in
    grows_at u v _ s.4
    (grows_then u x (after_reset u id old new) (grows_then u w x (grows_same u w (stays_put u id (Some new))) (grows_noticed w id (not old.stopped)))
    (grows_same x (after_reset u id old new)
    (stays_if x y (with_credit y (new.end - credited_to old)) (new.end - credited_to old == 0)
    (stays_if x (with_freed x id) x old.stopped (stays_freed x id) refl)
    (stays_if x (with_freed x id) x old.stopped (stays_freed x id) refl))))
grows_reset u v id code final (Err (receive_error.Transport error)) (inl s) = grows_same u v (ap nexts s.1)
grows_reset u v id code final (Err (receive_error.Transport error)) (inr s) = grows_same u v (ap nexts s.3)
grows_reset u v id code final (Err receive_error.CompactionMemory) s = absurd s
grows_reset u v id code final (Err receive_error.OutOfMemory) s = grows_same u v (ap nexts s)

grows_limit : (u : World) (id : ℕ) (o : Outgoing) (b : Bool) → Grows u (noticed (told_writable (with_out u o) id b) id false)
grows_limit u id o b = grows_then u (told_writable (with_out u o) id b) (noticed (told_writable (with_out u o) id b) id false) (grows_same u (told_writable (with_out u o) id b) (stays_writable b)) (grows_noticed (told_writable (with_out u o) id b) id false)
  where
    stays_writable : (b : Bool) → nexts (told_writable (with_out u o) id b) ≡ nexts u
    stays_writable true = refl
    stays_writable false = refl

grows_stop : (u : World) (id code : ℕ) (o : Outgoing) (b : Bool) → Grows u (after_first_stop (with_out u o) id code b)
grows_stop u id code o true = let w = told (with_out u o) (stream_event.Stopped id code) in grows_then u w (noticed w id false) (grows_same u w refl) (grows_noticed w id false)
grows_stop u id code o false = grows_same u (with_out u o) refl

-- no call takes back that a stream counts as opened
grows_step : (u : World) (e : Event) (v : World) → begins_anew (joint_move_of e) ≡ false → Step u e v → Grows u v
grows_step u (Received id offset bytes fin answer) v p s = grows_received u v id offset bytes fin answer s
grows_step u (ReceivedReset id code final answer) v p s = grows_reset u v id code final answer s
grows_step u (Sending (RaisedLimit id limit (Ok x))) v p s = grows_at u v _ s.4 (grows_limit u id s.2 s.1)
grows_step u (Sending (RaisedLimit id limit (Err (receive_error.Transport error)))) v p s = grows_same u v (ap nexts s.1)
grows_step u (Sending (RaisedLimit id limit (Err receive_error.CompactionMemory))) v p s = absurd s
grows_step u (Sending (RaisedLimit id limit (Err receive_error.OutOfMemory))) v p s = grows_same u v (ap nexts s)
grows_step u (Sending (StoppedOwn id code (Ok x))) v p s = either-way (is_permitted u id) s
    (λ t. grows_at u v _ t.3 (grows_stop u id code t.1 t.0))
    (λ t. grows_same u v (ap nexts t))
grows_step u (Sending (StoppedOwn id code (Err e))) v p s = grows_same u v (ap nexts s)
grows_step u e v p s = grows_same u v (meets-step u e v p s)

-- ---- a frame that was taken opens its stream

next_behind : (w : World) (id : ℕ) (b : Bool) (d : Dir) (index : ℕ) (c : Bool) → nat_le (remote_of w d).next_remote index ≡ c → index < next_of_dir (nexts (if c then with_remote w d (opened_up_to (remote_of w d) index) else told_readable w id b)) d
next_behind w id b Bi index true e = rw e (omega arith)
next_behind w id b Uni index true e = rw e (omega arith)
next_behind w id true Bi index false e = grind (arith, nat_tests, e)
next_behind w id false Bi index false e = grind (arith, nat_tests, e)
next_behind w id true Uni index false e = grind (arith, nat_tests, e)
next_behind w id false Uni index false e = grind (arith, nat_tests, e)

opened_by : (w : World) (id : ℕ) (b : Bool) → is_own w id ≡ false → index_of id < next_of_dir (nexts (noticed w id b)) (dir_of id)
opened_by w id b own =
    let P : Bool → Type 0 = λ c. index_of id < next_of_dir (nexts (if c then told_readable w id b else (if nat_le (remote_of w (dir_of id)).next_remote (index_of id) then with_remote w (dir_of id) (opened_up_to (remote_of w (dir_of id)) (index_of id)) else told_readable w id b))) (dir_of id) in
    subst P (sym own) (next_behind w id b (dir_of id) (index_of id) (nat_le (remote_of w (dir_of id)).next_remote (index_of id)) refl)

-- a frame with data of a stream was answered Ok
pub record WasTaken (calls : List Event) (q : ℕ) : Type 0 where
  pub offset : ℕ
  pub bytes : List ℕ
  pub fin : Bool
  pub transmit : ShouldTransmit
  pub is : IsOneOf (Received q offset bytes fin (Ok transmit)) calls

-- each stream of the peer of which one was counts as opened, or is over
abbrev pub HasOpened : LinkedEnd → Type 0
HasOpened x = (q : ℕ) → is_own x.world q ≡ false → WasTaken x.calls q → IsOver (came_on x q) ⊎ (index_of q < next_of_dir (nexts x.world) (dir_of q))

own_put : (u : World) (i j : ℕ) (o : Option Half) → is_own (with_receive u i o) j ≡ is_own u j
unfolding with_receive
own_put u i j o = refl

module _ (x y : LinkedEnd) (a : Agrees x y) (q offset : ℕ) (bytes : List ℕ) (fin : Bool) (transmit : ShouldTransmit) (v : World) (own : is_own x.world q ≡ false) where
  dropped_over : (o : Option Half) → x.world.receive q ≡ o → id_refusal x.world q ≡ None → IsDropped o → IsOver (came_on x q)
  dropped_over None e k d = (a.reads.traces q).over (gone-from (came_on x) x.world q a.comes.facts.streams k e)
  dropped_over (Some h) e k d = let t = half-from (came_on x) x.world q h a.comes.facts.streams k e in inr (inr (ap is_some (sym t.reset) ∙ d))

  data_opens : (h new : Half) (b : Bool) → h.stopped ≡ b → id_refusal x.world q ≡ None → x.world.receive q ≡ Some h → v ≡ after_data x.world q h new fin → IsOver (came_on x q) ⊎ (index_of q < next_of_dir (nexts v) (dir_of q))
  data_opens h new true e k half is = let t = half-from (came_on x) x.world q h a.comes.facts.streams k half in inl (inr (inl (sym t.stopped ∙ e)))
  data_opens h new false e k half is =
      let w = advanced x.world q h new in
      let P : World → Type 0 = λ z. index_of q < next_of_dir (nexts z) (dir_of q) in
      let noticed_is : v ≡ noticed w q true = is ∙ ap (λ b. if b then with_credit (if fin then with_freed w q else w) (new.end - h.end) else noticed w q true) e in
      inr (subst P (sym noticed_is) (opened_by w q true (own_put x.world q q (Some new) ∙ own)))

  taken_opens : Receives x.world q offset bytes fin (Ok transmit) v → IsOver (came_on x q) ⊎ (index_of q < next_of_dir (nexts v) (dir_of q))
  taken_opens (inl s) = inl (dropped_over (x.world.receive q) refl s.0 s.1)
  taken_opens (inr s) = data_opens s.1 s.2 s.1.stopped refl s.3.known s.3.half s.5

opened_acted : (x y : LinkedEnd) (e : Event) (v : World) → Agrees x y → MayAct x y e v → HasOpened x → HasOpened (acted x e v)
opened_acted x y e v a may before q own t =
    let plain = plain-call x y e may.honest in
    let side : x.world.out.side ≡ v.out.side = a.comes.side ∙ sym (comes-acted x y e v a.comes may).side in
    let own_then : is_own x.world q ≡ false = ap (λ s. is_same_side s (initiator_of q)) side ∙ own in
    let P : Trace → Type 0 = λ k. IsOver k in
    let still : IsOver (came_on x q) → IsOver (came_on (acted x e v) q) = λ o. subst P (came_acted x e v q plain) (over_moved (move_of e) q (came_on x q) o) in
    elim t.is [
      | inl now ↦ (
          let S : Event → Type 0 = λ k. Step x.world k v in
          elim (taken_opens x y a q t.offset t.bytes t.fin t.transmit v own_then (subst S (sym now) may.step)) [ inl over ↦ inl (still over) | inr less ↦ inr less ]
          )
      | inr old ↦ elim (before q own_then (record { offset = t.offset; bytes = t.bytes; fin = t.fin; transmit = t.transmit; is = old })) [
        | inl over ↦ inl (still over)
        | inr less ↦ inr (let more = grows_step x.world e v plain may.step (dir_of q) in omega (arith, less, more))
      ]
    ]

-- whatever two linked ends did
pub has-opened : {x y : LinkedEnd} → Linked x y → HasOpened x × HasOpened y
has-opened {x} {y} (begun a b other) = (none_taken x a.calls, none_taken y b.calls)
  where
    none_taken : (z : LinkedEnd) → z.calls ≡ [] → HasOpened z
    none_taken z e q own t = let P : List Event → Type 0 = λ l. IsOneOf (Received q t.offset t.bytes t.fin (Ok t.transmit)) l in absurd (subst P e t.is)
has-opened (first_acts {x} {y} e v l a) = let k = has-opened l in (opened_acted x y e v (agrees l).0 a k.0, k.1)
has-opened (second_acts {x} {y} e v l a) = let k = has-opened l in (k.0, opened_acted y x e v (agrees l).1 a k.1)
