-- Each call keeps what a history says of the sending sides.
use Rattle.std.proofs.Common.{◌≡◌, ℕ, Bool, true, false, eqb, List, [], ◌∷◌, Option, Some, None, is_some, Ok, Err, refl, sym, ap, ◌∙◌, subst, inl, inr, arith, ◌+◌, ◌-◌, ◌/◌, ◌%◌, ◌<◌, ◌≤◌}
use Rattle.std.specs.Prelude.{◌==◌, ◌&&◌, ◌||◌, not, max, min, ◌^◌, nat_eq, nat_lt, if◌then◌else◌, unwrap_or}
use Rattle.std.specs.List.{list_any}
use Rattle.std.proofs.lemmas.Bool.Decides.{nat_tests}
use Rattle.quic_values.specs.declared.ids.Side.{Side}
use Rattle.quic_values.specs.declared.ids.Side.TheVariants.{Client, Server}
use Rattle.quic_values.specs.declared.ids.Dir.{Dir}
use Rattle.quic_values.specs.declared.ids.Dir.TheVariants.{Bi, Uni}
use Rattle.quic_values.specs.Ids.{stream_id, other_side, is_client_side, dir_of, index_of}
use Rattle.quic_wire.specs.declared.event.StreamEvent.{StreamEvent}
use Rattle.quic_wire.specs.declared.event.StreamEvent.TheVariants as stream_event
use Rattle.quic_wire.specs.declared.error.ReceiveError.TheVariants as receive_error
use Rattle.quic_limits.specs.Own.{with_count, with_next_own}
use Rattle.quic_limits.specs.Remote.{Remote, opening_told, one_accepted}
use Rattle.quic_limits.specs.SendingCredit.{with_window}
use Rattle.quic_sending.specs.declared.send.Send.{Send}
use Rattle.quic_sending.specs.declared.send.WriteError.{WriteError}
use Rattle.quic_sending.specs.declared.send.WriteError.TheVariants as write_error
use Rattle.quic_receiving.specs.Counted.{number}
use Rattle.quic_sending.specs.declared.errors.HandleError.TheVariants as handle_error
use Rattle.quic_retransmits.specs.Pending.{Pending}
use Rattle.quic_flows.specs.Flow.{SendMove, SendFlow, new_flow, with_least_limit, with_send_move, retained, FlowAt}
use Rattle.quic_outgoing.specs.declared.limits.PeerLimits.{PeerLimits}
use Rattle.quic_outgoing.specs.Senders.{is_local, are_one_end, first_limit, first_for, no_limits, joined}
use Rattle.quic_outgoing.specs.Outgoing.{Outgoing, no_streams, own_of, with_own, with_send_half, with_more_streams, with_params, first_of, is_stuck, fresh_sender}
use Rattle.quic_outgoing.specs.Calls.{OpensStream, PollsWritable}
use Rattle.quic_outgoing.specs.Writing.{RefusesWrite}
use Rattle.quic_history.specs.World.{World, Made, start, count_of, sends, remote_of, with_remote, with_receive, told}
use Rattle.quic_history.specs.Sends.{with_out, with_opened, with_own_count, TellsNext, PollsQueue, with_params_given}
use Rattle.quic_history.specs.Writes.{WritesOwn}
use Rattle.quic_history.specs.SendTotals.{send_totals, own_total}
use Rattle.quic_history.specs.SendEvents.{SendEvent, SendStep, GaveLimits, OpenedOwn, RaisedData, RaisedCount, RaisedLimit, StoppedOwn, SetWindow, Polled, WroteOwn, FinishedOwn, ResetOwn, SetOwnPriority, AckedOwn, LostOwn, ResetAckedOwn, TookTurn}
use Rattle.quic_history.specs.History.{since, Event, Received, ReceivedReset, AddedCredits, Began, Gave, Ended, Stopped, ToldReset, Resized, SetConcurrent, Accepted, LeftPending, Sending, Rejected, SentAgain, joint_move_of, limits_given, Step, SentSo, RemoteFrom, is_freed, trace, counts, opened_in_all, total_over, send_move_of, limits_in, send_window_in, flow_after, is_over, may_open_after, send_tale, flow, with_moved_stream, moved_streams, retained_in_all, FlowsSo}
use Rattle.quic_history.specs.Flows.{has_send_side, has_side_in, is_answered_on, send_moved, with_first_limits, with_limits_in, AllFlows}
use Rattle.quic_history.specs.Early.{JointMove, with_joint_move, begins_anew, announced_anew, with_unsent}
use Rattle.quic_outgoing.specs.Early.{after_rejection, with_all_unsent}
use Rattle.quic_history.proofs.EarlyFlows.{flows-rejected, flows-unsent, none-in-all, unsent-retained}
use Rattle.quic_history.proofs.JointMoves.{Alone, alone, joint-cuts, joint-freed}
use Rattle.quic_history.proofs.FlowReports.{step-acked, step-lost, step-reset-acked, step-carried, leaves-passed, leaves-settled}
use Rattle.quic_history.proofs.Totals.{by_cases, same, IsOnce, once_with, total_with, total_same}
use Rattle.quic_history.proofs.Traces.{absent}
use Rattle.quic_history.proofs.Refusals.{side-bit, dir-bit, index-id}
use Rattle.quic_history.proofs.Remotes.{number-same}
use Rattle.quic_history.proofs.Permits.{number-more}
use Rattle.quic_history.proofs.SendSteps.{either-way}
use Rattle.quic_history.proofs.SendSides.{SameSides, sides-none, sides-at, sides-put, sides-unmarked, sides-blocked, side-is, side_by, none-done, flows-halves, flows-opened, flows-more, flows-limits, with_one_open, sides-woken, flows-same}
use Rattle.quic_history.proofs.FlowLeaves.{Leaves, leaves-then, leaves-at, leaves-same, leaves-sides, leaves-remote, leaves-counted, leaves-told, leaves-concurrent, leaves-received, leaves-reset, leaves-began, leaves-gave, leaves-stopped, leaves-told-reset}
use Rattle.quic_history.proofs.FlowSteps.{Buffers, FlowStep, step-left, step-at, step-limit, step-stop, step-wrote, step-finished, step-given-up}
use Rattle.quic_outgoing.specs.Params.{with_woken, after_params}

-- ---- calls of the sending side that did nothing to a stream

opened_leaves : (u : World) (d : Dir) (id : ℕ) → (own_of u.out d).opened < (own_of u.out d).limit → Leaves u (with_opened u d id (with_one_open u.out d))
unfolding with_receive
opened_leaves u Bi id l = record { flows = λ f all. flows-opened f u.out Bi u.bi.max_remote l all; first = refl; buffered = refl; window = refl }
opened_leaves u Uni id l = record { flows = λ f all. flows-opened f u.out Uni u.bi.max_remote l all; first = refl; buffered = refl; window = refl }

leaves_opened : (u v : World) (d : Dir) (id : ℕ) (o : Outgoing) → OpensStream u.out d (Ok (Some id)) o → v ≡ with_opened u d id o → Leaves u v
leaves_opened u v d id o s e =
    let is : o ≡ with_one_open u.out d = s.2 ∙ ap (λ j. with_send_half (with_own u.out d (with_next_own (own_of u.out d))) j (Some (fresh_sender u.out j))) s.1 in
    leaves-at u v (with_opened u d id (with_one_open u.out d)) (e ∙ ap (λ k. with_opened u d id k) is) (opened_leaves u d id s.0)

count_sides : (a : Outgoing) (d : Dir) (n : ℕ) → SameSides a (with_own a d (with_count (own_of a d) n))
count_sides a Bi n = record { side = refl; first = refl; bi = refl; uni = refl; cores = λ q. refl; buffered = refl; window = refl }
count_sides a Uni n = record { side = refl; first = refl; bi = refl; uni = refl; cores = λ q. refl; buffered = refl; window = refl }

leaves_if : (u v w : World) (b : Bool) → Leaves u v → Leaves u w → Leaves u (if b then v else w)
leaves_if u v w true s t = s
leaves_if u v w false s t = t

leaves_count : (u : World) (d : Dir) (n : ℕ) → Leaves u (with_own_count u d n)
leaves_count u d n =
    let w = with_out u (with_own u.out d (with_count (own_of u.out d) n)) in
    let s = leaves-sides u w (count_sides u.out d n) refl in
    leaves_if u (told w (stream_event.Available d)) w (nat_lt (own_of u.out d).limit n) (leaves-then u w _ s (leaves-told w (stream_event.Available d))) s

polls_sides : (a : Outgoing) (answer : Option ℕ) (b : Outgoing) → PollsWritable a answer b → SameSides a b
polls_sides a None b s = either-way (is_stuck a) s (λ t. sides-at a b a t (sides-none a)) (λ t. sides-at a b _ t.1 (sides-unmarked a a.blocked []))
polls_sides a (Some id) b s = sides-at a b _ s.6 (sides-unmarked a (id ∷ s.3) s.2)

leaves_queue : (u w : World) (writable : Option ℕ) (answer : Option StreamEvent) (v : World) → Leaves u w → PollsQueue w writable answer v → Leaves u v
leaves_queue u w (Some id) answer v s p = leaves-at u v w p.1 s
leaves_queue u w None answer v s p = leaves-at u v _ p.2 (leaves-then u w _ s (leaves-sides w (record w { events = p.0 }) (sides-none w.out) refl))

leaves_polls : (u : World) (answer : Option StreamEvent) (v : World) → TellsNext u answer v → Leaves u v
leaves_polls u answer v s = either-way u.bi.opened s
    (λ t. leaves-at u v _ t.1 (leaves-remote u Bi (opening_told u.bi) refl))
    (λ t. either-way u.uni.opened t
    (λ r. leaves-at u v _ r.1 (leaves-remote u Uni (opening_told u.uni) refl))
    (λ p. leaves_queue u (with_out u p.1) p.0 answer v (leaves-sides u (with_out u p.1) (polls_sides u.out p.0 p.1 p.2) refl) p.3))

refused_sides : (a : Outgoing) (id : ℕ) (p : Pending) (e : WriteError) (b : Outgoing) (q : Pending) → RefusesWrite a id p e b q → SameSides a b
refused_sides a id p write_error.Blocked b q s = sides-at a b _ s.1 (sides-blocked a id (a.halves id) refl)
refused_sides a id p (write_error.Stopped code) b q s = sides-at a b a s.1 (sides-none a)
refused_sides a id p write_error.ClosedStream b q s = sides-at a b a s.1 (sides-none a)
refused_sides a id p write_error.OutOfMemory b q s = sides-at a b a s.0 (sides-none a)

leaves_out : (u v : World) (o : Outgoing) → v ≡ with_out u o → SameSides u.out o → Leaves u v
leaves_out u v o e s = leaves-at u v (with_out u o) e (leaves-sides u (with_out u o) s refl)

leaves_refused : (u : World) (id : ℕ) (lists : List (List ℕ)) (closed : Bool) (p : Pending) (e : WriteError) (v : World) (left : List (List ℕ)) (q : Pending) → WritesOwn u id lists closed p (Err e) v left q → Leaves u v
leaves_refused u id lists closed p e v left q (inl s) = leaves-same u v s.2
leaves_refused u id lists closed p e v left q (inr s) = leaves_out u v s.1 s.3 (refused_sides u.out id p e s.1 q s.2.1)

-- ---- every call

module _ (side : Side) (there : ℕ → Bool) (f : ℕ → SendFlow) (u : World) (known : (q : ℕ) → there q ≡ has_side_in u.out u.bi.max_remote q) (all : AllFlows f u.out u.bi.max_remote)
    (is_side : u.out.side ≡ side) (few : (q : ℕ) → retained (f q) ≤ u.out.budget.buffered_data) where
  left : (v : World) → Leaves u v → FlowStep None None None side there f u v
  left v s = step-left side there f u v all s

  step_sending : (e : SendEvent) (v : World) → SendStep u e v → FlowStep (send_move_of (Sending e)) (limits_in (Sending e)) (send_window_in (Sending e)) side there f u v
  step_sending (GaveLimits limits (Ok x)) v s =
      let w = with_woken u.out limits in
      let k = sides-woken u.out limits in
      let P : Side → Type 0 = λ k. AllFlows (λ q. with_least_limit (first_limit k (first_of limits) q) (f q)) (with_params w limits) u.bi.max_remote in
      step-at None (Some limits) None side there f u (with_params_given u limits) v s (record {
        flows = subst P (k.side ∙ is_side) (flows-limits f w limits u.bi.max_remote (flows-same f u.out w u.bi.max_remote k all));
        first = ap (λ l. joined l (first_of limits)) k.first;
        window = k.window;
        buffered = k.buffered;
      })
  step_sending (GaveLimits limits (Err e)) v s = left v (leaves-same u v s)
  step_sending (OpenedOwn dir closed (Ok None)) v s = left v (leaves-same u v s.1)
  step_sending (OpenedOwn dir closed (Ok (Some id))) v s = left v (leaves_opened u v dir id s.1 s.2 s.3)
  step_sending (OpenedOwn dir closed (Err e)) v s = left v (leaves-same u v s)
  step_sending (RaisedData limit) v s = left v (leaves_out u v _ s (record { side = refl; first = refl; bi = refl; uni = refl; cores = λ q. refl; buffered = refl; window = refl }))
  step_sending (RaisedCount dir count (Ok x)) v s = left v (leaves-at u v _ s.1 (leaves_count u dir count))
  step_sending (RaisedCount dir count (Err (receive_error.Transport error))) v s = left v (leaves-same u v s.2)
  step_sending (RaisedCount dir count (Err receive_error.CompactionMemory)) v s = absurd s
  step_sending (RaisedCount dir count (Err receive_error.OutOfMemory)) v s = left v (leaves-same u v s.2)
  step_sending (RaisedLimit id limit (Ok x)) v s = step-limit side there f u known all id limit x v s
  step_sending (RaisedLimit id limit (Err (receive_error.Transport error))) v s = left v (leaves-same u v s.1)
  step_sending (RaisedLimit id limit (Err receive_error.CompactionMemory)) v s = absurd s
  step_sending (RaisedLimit id limit (Err receive_error.OutOfMemory)) v s = left v (leaves-same u v s)
  step_sending (StoppedOwn id code (Ok x)) v s = step-stop side there f u known all id code x v s
  step_sending (StoppedOwn id code (Err e)) v s = left v (leaves-same u v s)
  step_sending (SetWindow size) v s = step-at None None (Some size) side there f u (with_out u (record u.out { budget = with_window u.out.budget size })) v s (record {
    flows = flows-halves f u.out (record u.out { budget = with_window u.out.budget size }) u.bi.max_remote refl refl refl refl (λ q. refl) all;
    first = refl;
    window = refl;
    buffered = refl;
  })
  step_sending (Polled answer) v s = left v (leaves_polls u answer v s)
  step_sending (WroteOwn id lists closed (Ok written)) v s = step-wrote side there f u known all id lists closed written s.0 s.1 s.2 v s.3
  step_sending (WroteOwn id lists closed (Err e)) v s = left v (leaves_refused u id lists closed s.0 e v s.2 s.1 s.3)
  step_sending (FinishedOwn id (Ok x)) v s = step-finished side there f u known all id x v s
  step_sending (FinishedOwn id (Err e)) v s = left v (leaves_out u v s.0 s.2 (sides-at u.out s.0 u.out s.1.1 (sides-none u.out)))
  step_sending (ResetOwn id code (Ok x)) v s = step-at _ None None side there f u (with_out u s.2.0) v s.2.2 (step-given-up side there f u known all id code x s.0 s.1 s.2.0 (few id) s.2.1)
  step_sending (ResetOwn id code (Err handle_error.ClosedStream)) v s = left v (leaves_out u v s.2.0 s.2.2 (sides-at u.out s.2.0 u.out s.2.1.1 (sides-none u.out)))
  step_sending (ResetOwn id code (Err handle_error.OutOfMemory)) v s = left v (leaves_out u v s.2.0 s.2.2 (sides-at u.out s.2.0 u.out s.2.1.0 (sides-none u.out)))
  step_sending (AckedOwn id offsets fin (Ok x)) v s = step-acked side there f u known all id offsets fin x v (few id) s
  step_sending (AckedOwn id offsets fin (Err e)) v s = left v (leaves-same u v s.2)
  step_sending (LostOwn id offsets fin (Ok x)) v s = step-lost side there f u known all id offsets fin x v s
  step_sending (LostOwn id offsets fin (Err e)) v s = left v (leaves-same u v s.1)
  step_sending (ResetAckedOwn id (Ok x)) v s = step-reset-acked side there f u known all id x v s
  step_sending (ResetAckedOwn id (Err e)) v s = left v (leaves-same u v s.1)
  step_sending (TookTurn most fair None) v s = left v (leaves-passed u most fair v s)
  step_sending (TookTurn most fair (Some frame)) v s = step-carried side there f u known all most fair frame v s
  step_sending (SetOwnPriority id priority (Ok x)) v s = left v (leaves_out u v s.0 s.2 (sides-at u.out s.0 _ s.1.2 (sides-put u.out id s.1.0 _ s.1.1 refl)))
  step_sending (SetOwnPriority id priority (Err handle_error.ClosedStream)) v s = left v (leaves_out u v s.0 s.2 (sides-at u.out s.0 u.out s.1.1 (sides-none u.out)))
  step_sending (SetOwnPriority id priority (Err handle_error.OutOfMemory)) v s = left v (leaves_out u v s.0 s.2 (sides-at u.out s.0 u.out s.1 (sides-none u.out)))

  pub step-any : (e : Event) (v : World) → Step u e v → Alone (joint_move_of e) (FlowStep (send_move_of e) (limits_in e) (send_window_in e) side there f u v)
  step-any (Received id offset bytes fin answer) v s = left v (leaves-received u v id offset bytes fin answer s)
  step-any (ReceivedReset id code final answer) v s = left v (leaves-reset u v id code final answer s)
  step-any (AddedCredits count answer) v s = left v (leaves-at u v _ s.0 (leaves-sides u _ (sides-none u.out) refl))
  step-any (Began id ordered answer) v s = left v (leaves-began u v id ordered answer s)
  step-any (Gave id most ordered answer) v s = left v (leaves-gave u v id s.new answer s.is)
  step-any (Ended id count) v s = left v (leaves-at u v _ s (leaves-sides u _ (sides-none u.out) refl))
  step-any (Stopped id code answer) v s = left v (leaves-stopped u v id code answer s.0 s.1 s.2)
  step-any (ToldReset id answer) v s = left v (leaves-told-reset u v id answer s.0 s.1 s.2)
  step-any (Resized size answer) v s = left v (leaves-at u v _ s.0 (leaves-sides u _ (sides-none u.out) refl))
  step-any (SetConcurrent dir count (Ok k)) v s = left v (leaves-at u v _ s (leaves-concurrent u dir count))
  step-any (SetConcurrent dir count (Err k)) v s = left v (leaves-same u v s)
  step-any (Accepted dir answer) v s = left v (leaves-at u v _ s.0 (leaves-counted u (with_remote u dir (one_accepted (remote_of u dir))) _ (leaves-remote u dir (one_accepted (remote_of u dir)) (accepted_max (remote_of u dir) (nat_lt (remote_of u dir).next_reported (remote_of u dir).next_remote)))))
    where
      accepted_max : (r : Remote) (b : Bool) → (if b then record r { next_reported = r.next_reported + 1 } else r).max_remote ≡ r.max_remote
      accepted_max r true = refl
      accepted_max r false = refl
  step-any (LeftPending kind frame) v s = left v (leaves-settled u kind s.0 frame v s.1 s.2)
  step-any (Sending e) v s = step_sending e v s
  step-any Rejected v s = tt
  step-any (SentAgain (Ok x)) v s = tt
  step-any (SentAgain (Err x)) v s = left v (leaves-same u v s.1)

-- ---- what is retained

once_moved : (o : Option (ℕ × SendMove)) (ids : List ℕ) → IsOnce ids → IsOnce (with_moved_stream o ids)
once_moved None ids i = i
once_moved (Some m) ids i = once_with m.0 ids i

moved_once : (h : List Event) → IsOnce (moved_streams h)
moved_once [] = tt
moved_once (e ∷ h) = once_moved (send_move_of e) (moved_streams h) (moved_once h)

limits_cuts : (l : Option PeerLimits) (side : Side) (q : ℕ) (t : SendFlow) → (with_first_limits l side q t).cuts ≡ t.cuts
limits_cuts None side q t = refl
limits_cuts (Some limits) side q t = refl

limits_retained : (l : Option PeerLimits) (side : Side) (q : ℕ) (t : SendFlow) → retained (with_first_limits l side q t) ≡ retained t
limits_retained None side q t = refl
limits_retained (Some limits) side q t = refl

limits_freed : (l : Option PeerLimits) (side : Side) (q : ℕ) (t : SendFlow) → (with_first_limits l side q t).freed ≡ t.freed
limits_freed None side q t = refl
limits_freed (Some limits) side q t = refl

unmoved_cuts : (o : Option (ℕ × SendMove)) (there : ℕ → Bool) (q : ℕ) (ids : List ℕ) (t : SendFlow) → list_any (nat_eq q) (with_moved_stream o ids) ≡ false
    → (list_any (nat_eq q) ids ≡ false → t.cuts ≡ []) → (send_moved o there q t).cuts ≡ []
unmoved_cuts None there q ids t a was = was a
unmoved_cuts (Some m) there q ids t a was = let k = absent q m.0 ids a in let n : eqb q m.0 ≡ false = k.0 in rw n (was k.1)

-- on a stream that no call touched nothing was written
unwritten : (m : Made) (h : List Event) (q : ℕ) → list_any (nat_eq q) (moved_streams h) ≡ false → (flow m h q).cuts ≡ []
unwritten m [] q a = refl
unwritten m (e ∷ h) q a =
    let tale = send_tale m h in
    limits_cuts (limits_in e) m.side q _ ∙ unmoved_cuts (send_move_of e) (has_send_side m.side (opened_in_all (since h)) tale.may_open) q (moved_streams h) (with_joint_move (joint_move_of e) m.side q (flow m h q)) a
    (λ n. joint-cuts (joint_move_of e) m.side q (flow m h q) (unwritten m h q n))

none_retained : (t : SendFlow) → t.cuts ≡ [] → retained t ≡ 0
none_retained t e = rw e (none_if 0 (is_some t.reset || t.freed) refl)
  where
    none_if : (n : ℕ) (b : Bool) → n ≡ 0 → (if b then 0 else n) ≡ 0
    none_if n true k = refl
    none_if n false k = k

or_true : (b c : Bool) → (b || c) ≡ true → b ≡ false → c ≡ true
or_true true c h n = absurd (cc)
or_true false c h n = h

at_least : (g : ℕ → ℕ) (q : ℕ) (xs : List ℕ) → list_any (nat_eq q) xs ≡ true → g q ≤ total_over g xs
at_least g q [] is = absurd (cc)
at_least g q (x ∷ xs) is = by_cases (eqb q x)
    (λ t. let e : g q ≡ g x = ap g (same q x t) in omega arith)
    (λ n. let k = at_least g q xs (or_true (eqb q x) (list_any (nat_eq q) xs) is n) in omega arith)

-- what is retained of one stream is no more than of all
pub few-retained : (m : Made) (h : List Event) (q : ℕ) → retained (flow m h q) ≤ retained_in_all m h
few-retained m h q = by_cases (list_any (nat_eq q) (moved_streams h))
    (λ t. at_least (λ k. retained (flow m h k)) q (moved_streams h) t)
    (λ n. let e = none_retained (flow m h q) (unwritten m h q n) in omega arith)

kept_total : (o : Option (ℕ × SendMove)) (l : Option PeerLimits) (side : Side) (there : ℕ → Bool) (f : ℕ → SendFlow) (ids : List ℕ) (n k : ℕ) → IsOnce ids
    → ((q : ℕ) → list_any (nat_eq q) ids ≡ false → retained (f q) ≡ 0) → Buffers o f (λ q. send_moved o there q (f q)) n k → n ≡ total_over (λ q. retained (f q)) ids
    → k ≡ total_over (λ q. retained (with_first_limits l side q (send_moved o there q (f q)))) (with_moved_stream o ids)
kept_total None l side there f ids n k once quiet b e =
    let sums = total_same (λ q. retained (f q)) (λ q. retained (with_first_limits l side q (f q))) ids (λ q. limits_retained l side q (f q)) in
    omega arith
kept_total (Some m) l side there f ids n k once quiet b e =
    let sums = total_with (λ q. retained (f q)) (λ q. retained (with_first_limits l side q (send_moved (Some m) there q (f q)))) m.0 ids once (quiet m.0)
    (λ q a. limits_retained l side q (send_moved (Some m) there q (f q)) ∙ ap retained (other m there q (f q) a)) in
    let here = limits_retained l side m.0 (send_moved (Some m) there m.0 (f m.0)) in
    omega arith
  where
    other : (m : ℕ × SendMove) (there : ℕ → Bool) (q : ℕ) (t : SendFlow) → eqb q m.0 ≡ false → send_moved (Some m) there q t ≡ t
    other m there q t a = rw a refl

-- ---- how many streams the peer may open

other_end : (s : Side) → are_one_end s (if is_client_side (other_side s) then Client else Server) ≡ false
other_end Client = refl
other_end Server = refl

peer_side : (o : Outgoing) (n i : ℕ) (s : Side) → o.side ≡ s → has_side_in o n (stream_id (other_side s) Bi i) ≡ nat_lt i n
peer_side o n i s e =
    let peer : is_local s (stream_id (other_side s) Bi i) ≡ false = ap (λ b. are_one_end s (if b then Client else Server)) (side-bit (other_side s) Bi i) ∙ other_end s in
    side-is o n (stream_id (other_side s) Bi i) ∙ rw (e, peer, dir-bit (other_side s) Bi i, index-id (other_side s) Bi i) refl

-- an open stream whose half is not held was freed
held_or_freed : (first : ℕ) (t : SendFlow) (k : Bool) (o : Option Send) → k ≡ true → FlowAt first t k o → not (is_some o) ≡ t.freed
held_or_freed first t true (Some s) e f = sym f.there
held_or_freed first t true None e f = sym f
held_or_freed first t false o e f = cc

unmoved_at : (o : Option (ℕ × SendMove)) (there : ℕ → Bool) (q : ℕ) (t : SendFlow) → there q ≡ false → send_moved o there q t ≡ t
unmoved_at None there q t e = refl
unmoved_at (Some m) there q t e = rw e (by_test (eqb q m.0))
  where
    by_test : (b : Bool) → (if b && false then with_send_move m.1 t else t) ≡ t
    by_test true = refl
    by_test false = refl

below_if : (b c : Bool) → c ≡ true → (b && c) ≡ b
below_if true c e = e
below_if false c e = refl

above_if : (b c : Bool) → c ≡ false → (b && c) ≡ false
above_if true c e = e
above_if false c e = refl

module _ (m : Made) (h : List Event) (e : Event) (u v : World) (side : u.out.side ≡ m.side) (after : v.out.side ≡ m.side) (may : u.bi.max_remote ≡ (send_tale m h).may_open)
    (known : (q : ℕ) → has_send_side m.side (opened_in_all (since h)) (send_tale m h).may_open q ≡ has_side_in u.out u.bi.max_remote q)
    (was : AllFlows (flow m h) u.out u.bi.max_remote) (is : AllFlows (flow m (e ∷ h)) v.out v.bi.max_remote)
    (r : RemoteFrom (counts (count_of m) (e ∷ h) Bi) u.bi.max_remote (is_freed (trace (e ∷ h)) v.out.side (sends v) Bi) v.bi) where
  -- the bidirectional stream of the peer with an index
  abbrev peer_at : ℕ → ℕ
  peer_at i = stream_id (other_side m.side) Bi i

  grown : u.bi.max_remote ≤ v.bi.max_remote
  grown = let p = r.permitted in omega arith

  held_is : (i : ℕ) → i < v.bi.max_remote → not (is_some (v.out.halves (peer_at i))) ≡ (flow m (e ∷ h) (peer_at i)).freed
  held_is i l =
      let k : nat_lt i v.bi.max_remote ≡ true = grind (arith, nat_tests) in
      held_or_freed _ (flow m (e ∷ h) (peer_at i)) (has_side_in v.out v.bi.max_remote (peer_at i)) (v.out.halves (peer_at i)) (peer_side v.out v.bi.max_remote i m.side after ∙ k) (is (peer_at i))

  freed_now : (i : ℕ) → i < v.bi.max_remote → is_freed (trace (e ∷ h)) v.out.side (sends v) Bi i ≡ is_over m.side (e ∷ h) (flow_after m.side e h (send_tale m h)) i
  freed_now i l = ap (λ s. is_freed (trace (e ∷ h)) s (sends v) Bi i) after ∙ ap (λ b. (trace (e ∷ h) (peer_at i)).gone && b) (held_is i l)

  -- nothing was done on one that the peer may open only now
  new_one : (i : ℕ) → u.bi.max_remote ≤ i → (flow m (e ∷ h) (peer_at i)).freed ≡ false
  new_one i l =
      let k : nat_lt i u.bi.max_remote ≡ false = grind (arith, nat_tests) in
      let none : has_side_in u.out u.bi.max_remote (peer_at i) ≡ false = peer_side u.out u.bi.max_remote i m.side side ∙ k in
      limits_freed (limits_in e) m.side (peer_at i) _
      ∙ ap (λ (t : SendFlow). t.freed) (unmoved_at (send_move_of e) (has_send_side m.side (opened_in_all (since h)) (send_tale m h).may_open) (peer_at i) (with_joint_move (joint_move_of e) m.side (peer_at i) (flow m h (peer_at i))) (known (peer_at i) ∙ none))
      ∙ joint-freed (joint_move_of e) m.side (peer_at i) (flow m h (peer_at i)) (ap (λ (t : SendFlow). t.freed) (none-done _ (flow m h (peer_at i)) (has_side_in u.out u.bi.max_remote (peer_at i)) (u.out.halves (peer_at i)) none (was (peer_at i))))

  none_above : (i : ℕ) → u.bi.max_remote ≤ i → (is_freed (trace (e ∷ h)) v.out.side (sends v) Bi i && nat_lt i v.bi.max_remote) ≡ false
  none_above i l = by_cases (nat_lt i v.bi.max_remote)
      (λ t. let k : i < v.bi.max_remote = grind (arith, nat_tests) in
      ap (λ b. b && nat_lt i v.bi.max_remote) (freed_now i k ∙ above_if (trace (e ∷ h) (peer_at i)).gone (flow m (e ∷ h) (peer_at i)).freed (new_one i l)))
      (λ n. above_if (is_freed (trace (e ∷ h)) v.out.side (sends v) Bi i) (nat_lt i v.bi.max_remote) n)

  counted : number (is_freed (trace (e ∷ h)) v.out.side (sends v) Bi) v.bi.max_remote ≡ number (is_over m.side (e ∷ h) (flow_after m.side e h (send_tale m h))) u.bi.max_remote
  counted =
      let g : ℕ → Bool = λ i. is_freed (trace (e ∷ h)) v.out.side (sends v) Bi i && nat_lt i v.bi.max_remote in
      let f : ℕ → Bool = is_over m.side (e ∷ h) (flow_after m.side e h (send_tale m h)) in
      let more = grown in
      let all_of : u.bi.max_remote + (v.bi.max_remote - u.bi.max_remote) ≡ v.bi.max_remote = omega arith in
      let P : ℕ → Type 0 = λ n. number g n ≡ number f u.bi.max_remote in
      number-same v.bi.max_remote g (is_freed (trace (e ∷ h)) v.out.side (sends v) Bi)
      (λ i l. let k : nat_lt i v.bi.max_remote ≡ true = grind (arith, nat_tests) in sym (below_if (is_freed (trace (e ∷ h)) v.out.side (sends v) Bi i) (nat_lt i v.bi.max_remote) k))
      ∙ subst P all_of (number-more u.bi.max_remote (v.bi.max_remote - u.bi.max_remote) f g
      (λ i l. let k : nat_lt i v.bi.max_remote ≡ true = grind (arith, nat_tests) in below_if (is_freed (trace (e ∷ h)) v.out.side (sends v) Bi i) (nat_lt i v.bi.max_remote) k ∙ freed_now i (omega arith))
      none_above)

  kept_may_open : v.bi.max_remote ≡ may_open_after m e h (send_tale m h)
  kept_may_open =
      let f : ℕ → Bool = is_over m.side (e ∷ h) (flow_after m.side e h (send_tale m h)) in
      let p : v.bi.max_remote ≡ max u.bi.max_remote (min (v.bi.max_concurrent + number (is_freed (trace (e ∷ h)) v.out.side (sends v) Bi) v.bi.max_remote) (2 ^ 60)) = r.permitted in
      let c = r.concurrent in
      p
      ∙ ap (λ n. max u.bi.max_remote (min (n + number (is_freed (trace (e ∷ h)) v.out.side (sends v) Bi) v.bi.max_remote) (2 ^ 60))) c
      ∙ ap (λ n. max u.bi.max_remote (min (counts (count_of m) (e ∷ h) Bi + n) (2 ^ 60))) counted
      ∙ ap (λ n. max n (min (counts (count_of m) (e ∷ h) Bi + number f n) (2 ^ 60))) may

-- ---- what a history says

opened_is : (o : Outgoing) (d : Dir) (n : ℕ) → (own_total (send_totals o) d).opened ≡ n → (own_of o d).opened ≡ n
opened_is o Bi n e = e
opened_is o Uni n e = e

pub known-by : (m : Made) (h : List Event) (u : World) → u.out.side ≡ m.side → u.bi.max_remote ≡ (send_tale m h).may_open → SentSo (since h) (send_totals u.out) → (q : ℕ)
    → has_send_side m.side (opened_in_all (since h)) (send_tale m h).may_open q ≡ has_side_in u.out u.bi.max_remote q
known-by m h u side may s q =
    ap (λ k. has_send_side k (opened_in_all (since h)) (send_tale m h).may_open q) (sym side)
    ∙ ap (λ n. has_send_side u.out.side (opened_in_all (since h)) n q) (sym may)
    ∙ ap (λ n. if is_local u.out.side q then nat_lt (index_of q) n else is_answered_on (dir_of q) u.bi.max_remote (index_of q)) (sym (opened_is u.out (dir_of q) (opened_in_all (since h) (dir_of q)) (s.opened (dir_of q))))

-- a call that does nothing to all streams at once
plain_sends : (m : Made) (h : List Event) (u : World) (e : Event) (v : World) → joint_move_of e ≡ None → u.out.side ≡ m.side → v.out.side ≡ m.side → SentSo (since h) (send_totals u.out) → FlowsSo m h u
    → RemoteFrom (counts (count_of m) (e ∷ h) Bi) u.bi.max_remote (is_freed (trace (e ∷ h)) v.out.side (sends v) Bi) v.bi → Step u e v → FlowsSo m (e ∷ h) v
plain_sends m h u e v none side after sent f r s =
    let there : ℕ → Bool = has_send_side m.side (opened_in_all (since h)) (send_tale m h).may_open in
    let known = known-by m h u side f.may_open sent in
    let kept = f.retained in
    let step : FlowStep (send_move_of e) (limits_in e) (send_window_in e) m.side there (flow m h) u v =
    alone (FlowStep (send_move_of e) (limits_in e) (send_window_in e) m.side there (flow m h) u v) (joint_move_of e) none
    (step-any m.side there (flow m h) u known f.flows side (λ q. let k = few-retained m h q in omega arith) e v s) in
    let g : Option JointMove → ℕ → SendFlow = λ o q. with_first_limits (limits_in e) m.side q (send_moved (send_move_of e) there q (with_joint_move o m.side q (flow m h q))) in
    let flows : AllFlows (flow m (e ∷ h)) v.out v.bi.max_remote = subst (λ (o : Option JointMove). AllFlows (g o) v.out v.bi.max_remote) (sym none) step.flows in
    let total : v.out.budget.buffered_data ≡ total_over (λ q. retained (g None q)) (with_moved_stream (send_move_of e) (moved_streams h)) =
    kept_total (send_move_of e) (limits_in e) m.side there (flow m h) (moved_streams h) u.out.budget.buffered_data v.out.budget.buffered_data (moved_once h)
    (λ q a. none_retained (flow m h q) (unwritten m h q a)) step.buffered f.retained in
    record {
      flows = flows;
      first = subst (λ (o : Option JointMove). v.out.first ≡ limits_given (if begins_anew o then [] else e ∷ since h)) (sym none) (step.first ∙ ap (λ l. with_limits_in (limits_in e) l) f.first);
      may_open = kept_may_open m h e u v side after f.may_open known f.flows flows r;
      send_window = step.window ∙ ap (λ n. unwrap_or (send_window_in e) n) f.send_window;
      retained = subst (λ (o : Option JointMove). v.out.budget.buffered_data ≡ total_over (λ q. retained (g o q)) (with_moved_stream (send_move_of e) (moved_streams h))) (sym none) total;
    }

pub kept-sends : (m : Made) (h : List Event) (u : World) (e : Event) (v : World) → u.out.side ≡ m.side → v.out.side ≡ m.side → SentSo (since h) (send_totals u.out) → FlowsSo m h u
    → RemoteFrom (counts (count_of m) (e ∷ h) Bi) u.bi.max_remote (is_freed (trace (e ∷ h)) v.out.side (sends v) Bi) v.bi → Step u e v → FlowsSo m (e ∷ h) v
kept-sends m h u Rejected v side after sent f r s =
    let most : v.bi.max_remote ≡ u.bi.max_remote = ap (λ (w : World). w.bi.max_remote) s.1 ∙ announced_most u.adjusted u.bi in
    let out : v.out ≡ after_rejection u.out = ap (λ (w : World). w.out) s.1 in
    let there : AllFlows (λ q. new_flow 0) v.out u.bi.max_remote = subst (λ (o : Outgoing). AllFlows (λ q. new_flow 0) o u.bi.max_remote) (sym out) (flows-rejected (flow m h) u s.0 f.flows) in
    let flows : AllFlows (flow m (Rejected ∷ h)) v.out v.bi.max_remote = subst (λ n. AllFlows (λ q. new_flow 0) v.out n) (sym most) there in
    record {
      flows = flows;
      first = ap (λ (o : Outgoing). o.first) out;
      may_open = kept_may_open m h Rejected u v side after f.may_open (known-by m h u side f.may_open sent) f.flows flows r;
      send_window = ap (λ (o : Outgoing). o.budget.send_window) out ∙ f.send_window;
      retained = ap (λ (o : Outgoing). o.budget.buffered_data) out ∙ none-in-all (moved_streams h);
    }
  where
    announced_most : (b : Bool) (r : Remote) → (announced_anew b r).max_remote ≡ r.max_remote
    announced_most true r = refl
    announced_most false r = refl
kept-sends m h u (SentAgain (Ok x)) v side after sent f r s =
    let out : v.out ≡ with_all_unsent u.out = ap (λ (w : World). w.out) s.1.2 in
    let most : v.bi.max_remote ≡ u.bi.max_remote = ap (λ (w : World). w.bi.max_remote) s.1.2 in
    let there : AllFlows (flow m (SentAgain (Ok x) ∷ h)) v.out u.bi.max_remote =
    subst (λ (o : Outgoing). AllFlows (flow m (SentAgain (Ok x) ∷ h)) o u.bi.max_remote) (sym out) (flows-unsent (flow m h) m.side u.out u.bi.max_remote side f.flows) in
    let flows : AllFlows (flow m (SentAgain (Ok x) ∷ h)) v.out v.bi.max_remote = subst (λ n. AllFlows (flow m (SentAgain (Ok x) ∷ h)) v.out n) (sym most) there in
    let sums = total_same (λ q. retained (flow m h q)) (λ q. retained (flow m (SentAgain (Ok x) ∷ h) q)) (moved_streams h) (λ q. same_retained (flow m h q) (is_local m.side q)) in
    record {
      flows = flows;
      first = ap (λ (o : Outgoing). o.first) out ∙ f.first;
      may_open = kept_may_open m h (SentAgain (Ok x)) u v side after f.may_open (known-by m h u side f.may_open sent) f.flows flows r;
      send_window = ap (λ (o : Outgoing). o.budget.send_window) out ∙ f.send_window;
      retained = ap (λ (o : Outgoing). o.budget.buffered_data) out ∙ f.retained ∙ sym sums;
    }
  where
    same_retained : (t : SendFlow) (b : Bool) → retained (if b then with_unsent t else t) ≡ retained t
    same_retained t true = unsent-retained t
    same_retained t false = refl
kept-sends m h u e v side after sent f r s = plain_sends m h u e v refl side after sent f r s

-- ---- at first

first_none : (own : Bool) (d : Dir) → first_for own d no_limits ≡ 0
first_none true Bi = refl
first_none true Uni = refl
first_none false Bi = refl
first_none false Uni = refl

none_there : (own bi : Bool) (i : ℕ) → side_by own bi 0 0 0 i ≡ false
none_there true true i = grind (arith, nat_tests)
none_there true false i = grind (arith, nat_tests)
none_there false true i = grind (arith, nat_tests)
none_there false false i = refl

flow_at_first : (first : ℕ) (k : Bool) → k ≡ false → first ≡ 0 → FlowAt first (new_flow 0) k None
flow_at_first first true e z = cc
flow_at_first first false e z = ap new_flow (sym z)

flows_first : (side : Side) (window : ℕ) → AllFlows (λ q. new_flow 0) (no_streams side window) 0
flows_first side window q =
    let o = no_streams side window in
    flow_at_first (first_limit side no_limits q) (has_side_in o 0 q) (side-is o 0 q ∙ none_there (is_local side q) (q / 2 % 2 == 0) (index_of q)) (first_none (is_local side q) (dir_of q))

pub sends-start : (m : Made) → FlowsSo m [] (start m)
sends-start m =
    let o = no_streams m.side m.send_window in
    let P : ℕ → Type 0 = λ n. AllFlows (λ q. new_flow 0) (with_more_streams o 0 m.bi.max_remote) n in
    let sum : 0 + m.bi.max_remote ≡ m.bi.max_remote = omega arith in
    record {
      flows = subst P sum (flows-more (λ q. new_flow 0) o 0 m.bi.max_remote (flows_first m.side m.send_window));
      first = refl;
      may_open = refl;
      send_window = refl;
      retained = refl;
    }
