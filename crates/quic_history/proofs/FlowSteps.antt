-- What each call does to what is told of the sending sides.
use Rattle.std.proofs.Common.{◌≡◌, ℕ, Bool, true, false, eqb, List, [], ◌∷◌, ◌++◌, Option, Some, None, Ok, refl, sym, ap, ◌∙◌, subst, arith, ◌+◌, ◌/◌, ◌%◌, ◌≤◌}
use Rattle.std.specs.Prelude.{◌==◌, ◌&&◌, ℤ, min, nat_lt, if◌then◌else◌, unwrap_or}
use Rattle.std.specs.Option.{option_map}
use Rattle.quic_values.specs.declared.ids.Side.{Side}
use Rattle.quic_values.specs.declared.ids.Side.TheVariants.{Client, Server}
use Rattle.quic_values.specs.declared.ids.Dir.TheVariants.{Bi, Uni}
use Rattle.quic_values.specs.Ids.{index_of, initiator_of}
use Rattle.quic_wire.specs.declared.event.StreamEvent.TheVariants as stream_event
use Rattle.quic_limits.specs.SendingCredit.{writable}
use Rattle.quic_sending.specs.declared.send.Send.{Send}
use Rattle.quic_sending.specs.declared.send.Written.{Written}
use Rattle.quic_sending.specs.Buffer.{Buffered, total_length}
use Rattle.quic_sending.specs.Sending.{write_refusal, permitted}
use Rattle.quic_sending.proofs.Pieces.{total-append}
use Rattle.quic_retransmits.specs.Pending.{Pending}
use Rattle.quic_flows.specs.Flow.{SendMove, WasWritten, WasFinished, WasGivenUp, WasAskedToStop, WasPermitted, SendFlow, takes_data, with_least_limit, with_send_move, front_of, retained, FlowFrom}
use Rattle.quic_flows.proofs.Fronts.{front-least, front-length, front-taken}
use Rattle.quic_flows.proofs.FlowSteps.{core, flow-written, flow-finished, flow-given-up, flow-asked, flow-permitted, flow-retained}
use Rattle.quic_outgoing.specs.declared.limits.PeerLimits.{PeerLimits}
use Rattle.quic_outgoing.specs.Senders.{with_sender, is_local, are_one_end}
use Rattle.quic_outgoing.specs.Outgoing.{Outgoing, with_send_half, waiting, marked, is_stuck}
use Rattle.quic_outgoing.specs.Calls.{ResetsStream, after_rise, with_rise, is_woken, with_stop_reason, finished, given_up}
use Rattle.quic_outgoing.specs.Writing.{refusal_of_write}
use Rattle.quic_history.specs.World.{World, is_own, is_same_side, remote_of, told, noticed}
use Rattle.quic_history.specs.Sends.{with_out, told_writable, after_first_stop, is_permitted, RaisesLimit, StopsOwn}
use Rattle.quic_history.specs.Writes.{WritesOwn, FinishesOwn, with_queued}
use Rattle.quic_history.specs.Flows.{has_side_in, send_moved, with_first_limits, with_limits_in, AllFlows}
use Rattle.quic_history.proofs.Traces.{itself}
use Rattle.quic_history.proofs.SendSides.{SameSides, sides-none, side-is, side_by, none-held, held-side, held-flow, flows-moved, MovesHalf, moves-put, cores-rest}
use Rattle.quic_history.proofs.FlowLeaves.{Leaves, leaves-none, leaves-then, leaves-sides, leaves-told, leaves-noticed}

-- how what counts as retained changes, by what was done
abbrev pub Buffers : Option (ℕ × SendMove) → (ℕ → SendFlow) → (ℕ → SendFlow) → ℕ → ℕ → Type 0
Buffers None f g before after = after ≡ before
Buffers (Some m) f g before after = after + retained (f m.0) ≡ before + retained (g m.0)

-- a call did this to a stream, handed in these limits, and set this window
pub record FlowStep (o : Option (ℕ × SendMove)) (l : Option PeerLimits) (w : Option ℕ) (side : Side) (there : ℕ → Bool) (f : ℕ → SendFlow) (u v : World) : Type 0 where
  pub flows : AllFlows (λ q. with_first_limits l side q (send_moved o there q (f q))) v.out v.bi.max_remote
  pub first : v.out.first ≡ with_limits_in l u.out.first
  pub window : v.out.budget.send_window ≡ unwrap_or w u.out.budget.send_window
  pub buffered : Buffers o f (λ q. send_moved o there q (f q)) u.out.budget.buffered_data v.out.budget.buffered_data

buffers_at : (o : Option (ℕ × SendMove)) (f g : ℕ → SendFlow) (n m k : ℕ) → k ≡ m → Buffers o f g n m → Buffers o f g n k
buffers_at o f g n m k e b = let P : ℕ → Type 0 = λ x. Buffers o f g n x in subst P (sym e) b

-- ---- calls that did nothing to a stream

module _ (side : Side) (there : ℕ → Bool) (f : ℕ → SendFlow) (u v : World) (all : AllFlows f u.out u.bi.max_remote) where
  pub step-left : Leaves u v → FlowStep None None None side there f u v
  step-left s = record { flows = s.flows f all; first = s.first; window = s.window; buffered = s.buffered }

pub step_then : (o : Option (ℕ × SendMove)) (l : Option PeerLimits) (w : Option ℕ) (side : Side) (there : ℕ → Bool) (f : ℕ → SendFlow) (u x v : World) → FlowStep o l w side there f u x → Leaves x v
    → FlowStep o l w side there f u v
step_then o l w side there f u x v s t = record {
  flows = t.flows (λ q. with_first_limits l side q (send_moved o there q (f q))) s.flows;
  first = t.first ∙ s.first;
  window = t.window ∙ s.window;
  buffered = buffers_at o f (λ q. send_moved o there q (f q)) u.out.budget.buffered_data x.out.budget.buffered_data v.out.budget.buffered_data t.buffered s.buffered;
}

pub step-at : (o : Option (ℕ × SendMove)) (l : Option PeerLimits) (w : Option ℕ) (side : Side) (there : ℕ → Bool) (f : ℕ → SendFlow) (u x v : World) → v ≡ x → FlowStep o l w side there f u x → FlowStep o l w side there f u v
step-at o l w side there f u x v e s = let P : World → Type 0 = λ k. FlowStep o l w side there f u k in subst P (sym e) s

-- ---- something was done to one stream

pub moved_here : (id : ℕ) (m : SendMove) (there : ℕ → Bool) (t : SendFlow) (k : Bool) → there id ≡ k → send_moved (Some (id, m)) there id t ≡ (if k then with_send_move m t else t)
moved_here id m there t k e = rw (itself id, e) refl

moved_other : (id q : ℕ) (m : SendMove) (there : ℕ → Bool) (t : SendFlow) → eqb q id ≡ false → send_moved (Some (id, m)) there q t ≡ t
moved_other id q m there t e = rw e refl

module _ (side : Side) (there : ℕ → Bool) (f : ℕ → SendFlow) (u : World) (known : (q : ℕ) → there q ≡ has_side_in u.out u.bi.max_remote q) (all : AllFlows f u.out u.bi.max_remote) where
  -- the sending side is another
  pub step_moved : (o : Outgoing) (id : ℕ) (m : SendMove) → o.side ≡ u.out.side → o.first ≡ u.out.first → o.own_bi.opened ≡ u.out.own_bi.opened → o.own_uni.opened ≡ u.out.own_uni.opened
      → ((q : ℕ) → eqb q id ≡ false → option_map core (o.halves q) ≡ option_map core (u.out.halves q)) → MovesHalf m (f id) (u.out.halves id) (o.halves id)
      → o.budget.send_window ≡ u.out.budget.send_window
      → o.budget.buffered_data + retained (f id) ≡ u.out.budget.buffered_data + retained (send_moved (Some (id, m)) there id (f id))
      → FlowStep (Some (id, m)) None None side there f u (with_out u o)
  step_moved o id m e first bi uni rest here window buffered = record {
    flows = flows-moved f (λ q. send_moved (Some (id, m)) there q (f q)) u.out o u.bi.max_remote id m e first bi uni rest here
        (moved_here id m there (f id) (has_side_in u.out u.bi.max_remote id) (known id)) (λ q k. moved_other id q m there (f q) k) all;
    first = first;
    window = window;
    buffered = buffered;
  }

  plain_if : (m : SendMove) (t : SendFlow) (b : Bool) → retained (with_send_move m t) ≡ retained t → retained (if b then with_send_move m t else t) ≡ retained t
  plain_if m t true e = e
  plain_if m t false e = refl

  -- as much is retained
  plainly : (id n : ℕ) (m : SendMove) → retained (with_send_move m (f id)) ≡ retained (f id) → n + retained (f id) ≡ n + retained (send_moved (Some (id, m)) there id (f id))
  plainly id n m e = let k = plain_if m (f id) (eqb id id && there id) e in omega arith

  -- no half is held
  step_idle : (id : ℕ) (m : SendMove) → u.out.halves id ≡ None → retained (with_send_move m (f id)) ≡ retained (f id) → FlowStep (Some (id, m)) None None side there f u u
  step_idle id m e plain = step_moved u.out id m refl refl refl refl (λ q k. refl)
      (record { none = λ k. k; some = λ s k t. absurd (none_some s (sym e ∙ k)) }) refl (plainly id u.out.budget.buffered_data m plain)
    where
      none_some : (s : Send) → None ≡ Some s → ⊥
      none_some s e = cc

  -- the half is another
  step_put : (id : ℕ) (m : SendMove) (s s' : Send) → u.out.halves id ≡ Some s → retained (with_send_move m (f id)) ≡ retained (f id) → (FlowFrom (f id) s → FlowFrom (with_send_move m (f id)) s')
      → FlowStep (Some (id, m)) None None side there f u (with_out u (with_send_half u.out id (Some s')))
  step_put id m s s' e plain k = step_moved (with_send_half u.out id (Some s')) id m refl refl refl refl (λ q n. cores-rest u.out.halves id q (Some s') n)
      (moves-put m (f id) u.out.halves id s s' e k) refl (plainly id u.out.budget.buffered_data m plain)

  plain_permitted : (t : SendFlow) (limit : ℕ) (b : Bool) → retained (if b then with_least_limit limit t else t) ≡ retained t
  plain_permitted t limit true = refl
  plain_permitted t limit false = refl

  -- ---- MAX_STREAM_DATA

  sides_rise : (a : Outgoing) (id : ℕ) (t : Send) (b : Bool) → SameSides (with_send_half a id (Some t)) (if b then waiting a id t else with_send_half a id (Some t))
  unfolding with_sender
  sides_rise a id t false = sides-none (with_send_half a id (Some t))
  sides_rise a id t true = by_mark t.connection_blocked
    where
      cores : (b : Bool) (g : Option Send) → option_map core (if b then Some (marked true t) else g) ≡ option_map core (if b then Some t else g)
      cores true g = refl
      cores false g = refl

      waits : SameSides (with_send_half a id (Some t)) (record (with_send_half a id (Some (marked true t))) { blocked = a.blocked ++ id ∷ [] })
      waits = record { side = refl; first = refl; bi = refl; uni = refl; cores = λ q. cores (eqb q id) (a.halves q); buffered = refl; window = refl }

      by_mark : (b : Bool) → SameSides (with_send_half a id (Some t)) (if b then with_send_half a id (Some t) else record (with_send_half a id (Some (marked true t))) { blocked = a.blocked ++ id ∷ [] })
      by_mark true = sides-none (with_send_half a id (Some t))
      by_mark false = waits

  step_rise : (id n : ℕ) (h : Option Send) → u.out.halves id ≡ h → FlowStep (Some (id, WasPermitted n)) None None side there f u (with_out u (after_rise u.out id n h))
  step_rise id n None e = step_idle id (WasPermitted n) e (plain_permitted (f id) _ (takes_data (f id).reset (f id).finished))
  step_rise id n (Some s) e =
      let x = with_out u (with_send_half u.out id (Some (with_rise s n))) in
      step_then (Some (id, WasPermitted n)) None None side there f u x _
      (step_put id (WasPermitted n) s (with_rise s n) e (plain_permitted (f id) _ (takes_data (f id).reset (f id).finished)) (λ k. flow-permitted (f id) s n k))
      (leaves-sides x (with_out u (after_rise u.out id n (Some s))) (sides_rise u.out id (with_rise s n) (is_woken s n && is_stuck u.out)) refl)

  told_leaves : (w : World) (id : ℕ) (b : Bool) → Leaves w (told_writable w id b)
  told_leaves w id true = leaves-told w _
  told_leaves w id false = leaves-none w

  pub step-limit : (id n : ℕ) (x : Unit {0}) (v : World) → RaisesLimit u id n (Ok x) v → FlowStep (Some (id, WasPermitted n)) None None side there f u v
  step-limit id n x v s =
      let w = with_out u s.2 in
      let t = told_writable w id s.1 in
      step-at (Some (id, WasPermitted n)) None None side there f u (noticed t id false) v s.4
      (step_then (Some (id, WasPermitted n)) None None side there f u w (noticed t id false)
      (step-at (Some (id, WasPermitted n)) None None side there f u (with_out u (after_rise u.out id n (u.out.halves id))) w (ap (λ o. with_out u o) s.3.1) (step_rise id n (u.out.halves id) refl))
      (leaves-then w t _ (told_leaves w id s.1) (leaves-noticed t id false)))

  -- ---- STOP_SENDING

  step_stop : (id code : ℕ) (h : Option Send) → u.out.halves id ≡ h → FlowStep (Some (id, WasAskedToStop code)) None None side there f u (with_out u (with_stop_reason u.out id code h))
  step_stop id code None e = step_idle id (WasAskedToStop code) e refl
  step_stop id code (Some s) e = step_put id (WasAskedToStop code) s _ e refl (λ k. flow-asked (f id) s code k)

  first_leaves : (w : World) (id code : ℕ) (b : Bool) → Leaves w (after_first_stop w id code b)
  first_leaves w id code true = let t = told w (stream_event.Stopped id code) in leaves-then w t _ (leaves-told w _) (leaves-noticed t id false)
  first_leaves w id code false = leaves-none w

  same_end : (a b : Side) → is_same_side a b ≡ are_one_end a b
  same_end Client Client = refl
  same_end Client Server = refl
  same_end Server Client = refl
  same_end Server Server = refl

  none_by : (own own' bi : Bool) (i : ℕ) → own ≡ own' → (if own then true else nat_lt i (remote_of u (if bi then Bi else Uni)).max_remote) ≡ false
      → side_by own' bi u.out.own_bi.opened u.out.own_uni.opened u.bi.max_remote i ≡ false
  none_by true own' bi i e k = cc
  none_by false true bi i e k = cc
  none_by false false true i e k = k
  none_by false false false i e k = refl

  pub unpermitted : (id : ℕ) → is_permitted u id ≡ false → u.out.halves id ≡ None
  unpermitted id e = none-held _ (f id) (has_side_in u.out u.bi.max_remote id) (u.out.halves id)
      (side-is u.out u.bi.max_remote id ∙ none_by (is_own u id) (is_local u.out.side id) (id / 2 % 2 == 0) (index_of id) (same_end u.out.side (initiator_of id)) e) (all id)

  pub step-stop : (id code : ℕ) (x : Unit {0}) (v : World) → StopsOwn u id code (Ok x) v → FlowStep (Some (id, WasAskedToStop code)) None None side there f u v
  step-stop id code x v s = by_test (is_permitted u id) refl
    where
      by_test : (b : Bool) → is_permitted u id ≡ b → FlowStep (Some (id, WasAskedToStop code)) None None side there f u v
      by_test true k = let t = rw k at s in
          let w = with_out u t.1 in
          step-at (Some (id, WasAskedToStop code)) None None side there f u (after_first_stop w id code t.0) v t.3
          (step_then (Some (id, WasAskedToStop code)) None None side there f u w _
          (step-at (Some (id, WasAskedToStop code)) None None side there f u (with_out u (with_stop_reason u.out id code (u.out.halves id))) w (ap (λ o. with_out u o) t.2.1) (step_stop id code (u.out.halves id) refl))
          (first_leaves w id code t.0))
      by_test false k = let t = rw k at s in
          step-at (Some (id, WasAskedToStop code)) None None side there f u u v t (step_idle id (WasAskedToStop code) (unpermitted id k) refl)

  -- ---- writes, ends and resets

  pub queued_leaves : (w : World) (id : ℕ) (o : Option ℤ) → Leaves w (with_queued w id o)
  queued_leaves w id None = leaves-none w
  queued_leaves w id (Some priority) = leaves-sides w (with_queued w id (Some priority)) (sides-none w.out) refl

  -- what a stream with a half becomes
  pub moved_held : (id : ℕ) (m : SendMove) (s : Send) → u.out.halves id ≡ Some s → send_moved (Some (id, m)) there id (f id) ≡ with_send_move m (f id)
  moved_held id m s e = moved_here id m there (f id) true (known id ∙ held-side _ (f id) (has_side_in u.out u.bi.max_remote id) s (u.out.halves id) e (all id))

  pub flow_held : (id : ℕ) (s : Send) → u.out.halves id ≡ Some s → FlowFrom (f id) s
  flow_held id s e = held-flow _ (f id) (has_side_in u.out u.bi.max_remote id) s (u.out.halves id) e (all id)

  write_free : (s : Send) (b : Bool) → is_stuck u.out ≡ b → refusal_of_write u.out (Some s) ≡ None → write_refusal s ≡ None
  write_free s true e r = let k = rw e at r in cc
  write_free s false e r = let k = rw e at r in k

  -- the front of the lists that a write took, by how many bytes it took
  front_by : (n k b : ℕ) (lists : List (List ℕ)) → b ≡ min n (total_length lists) → front_of b lists ≡ front_of n lists
  front_by n k b lists e = ap (λ x. front_of x lists) e ∙ front-least n lists

  pub step-wrote : (id : ℕ) (lists : List (List ℕ)) (closed : Bool) (written : Written) (p q : Pending) (left : List (List ℕ)) (v : World) → WritesOwn u id lists closed p (Ok written) v left q
      → FlowStep (Some (id, WasWritten (front_of written.bytes lists))) None None side there f u v
  step-wrote id lists closed written p q left v s =
      let t = s.3.0 in
      let o = s.2 in
      let m = WasWritten (front_of written.bytes lists) in
      let limit : ℕ = permitted t.half (writable u.out.budget) in
      let same_bytes : s.1.written.bytes ≡ written.bytes = ap (λ (w : Written). w.bytes) (sym s.4) in
      let bytes : written.bytes ≡ min limit (total_length lists) = sym same_bytes ∙ t.bytes in
      let front : front_of written.bytes lists ≡ front_of limit lists = front_by limit 0 written.bytes lists bytes in
      let old = flow_held id t.half t.is_held in
      let free = write_free t.half (is_stuck u.out) refl t.free in
      let flow : FlowFrom (with_send_move m (f id)) t.after =
      let P : Send → Type 0 = λ x. FlowFrom (with_send_move m (f id)) x in
      let Q : List (List ℕ) → Type 0 = λ ps. FlowFrom (with_send_move (WasWritten ps) (f id)) (record t.half { pending = t.after.pending }) in
      subst P (sym t.others) (subst Q (sym front) (flow-written (f id) t.half t.after.pending limit lists old free t.appends)) in
      let was = flow-retained (f id) t.half old in
      let is = flow-retained (with_send_move m (f id)) t.after flow in
      let held = ap (λ (b : Buffered). total_length b.held) t.appends.buffer in
      let sum = total-append t.half.pending.held t.appends.pieces in
      let pieces = ap total_length (front-taken limit lists t.appends.pieces t.appends.front) ∙ front-length limit lists in
      let moved = ap retained (moved_held id m t.half t.is_held) in
      let buffered = ap (λ (x : Outgoing). x.budget.buffered_data) t.is in
      step-at (Some (id, m)) None None side there f u (with_queued (with_out u o) id s.1.queue_at) v s.5
      (step_then (Some (id, m)) None None side there f u (with_out u o) _
      (step_moved o id m (ap (λ (x : Outgoing). x.side) t.is) (ap (λ (x : Outgoing). x.first) t.is) (ap (λ (x : Outgoing). x.own_bi.opened) t.is) (ap (λ (x : Outgoing). x.own_uni.opened) t.is)
      (λ k n. ap (λ (x : Outgoing). option_map core (x.halves k)) t.is ∙ cores-rest u.out.halves id k (Some t.after) n)
      (let P : Outgoing → Type 0 = λ x. MovesHalf m (f id) (u.out.halves id) (x.halves id) in subst P (sym t.is) (moves-put m (f id) u.out.halves id t.half t.after t.is_held (λ k. flow)))
      (ap (λ (x : Outgoing). x.budget.send_window) t.is)
      (omega arith))
      (queued_leaves (with_out u o) id s.1.queue_at))

  pub step-finished : (id : ℕ) (x : Unit {0}) (v : World) → FinishesOwn u id (Ok x) v → FlowStep (Some (id, WasFinished)) None None side there f u v
  step-finished id x v s =
      let r = s.2 in
      let w = with_out u s.1 in
      step-at (Some (id, WasFinished)) None None side there f u (with_queued w id s.0) v s.3
      (step_then (Some (id, WasFinished)) None None side there f u w _
      (step-at (Some (id, WasFinished)) None None side there f u (with_out u (with_send_half u.out id (Some (finished r.0)))) w (ap (λ o. with_out u o) r.4)
      (step_put id WasFinished r.0 (finished r.0) r.1 refl (λ k. flow-finished (f id) r.0 k r.2)))
      (queued_leaves w id s.0))

  pub step-given-up : (id code : ℕ) (x : Unit {0}) (p q : Pending) (o : Outgoing) → retained (f id) ≤ u.out.budget.buffered_data → ResetsStream u.out id code p (Ok x) o q
      → FlowStep (Some (id, WasGivenUp code)) None None side there f u (with_out u o)
  step-given-up id code x p q o few s =
      let half = s.0 in
      let is = s.3 in
      let was = flow-retained (f id) half (flow_held id half s.1) in
      let moved = ap retained (moved_held id (WasGivenUp code) half s.1) in
      let buffered = ap (λ (x : Outgoing). x.budget.buffered_data) is in
      step_moved o id (WasGivenUp code) (ap (λ (x : Outgoing). x.side) is) (ap (λ (x : Outgoing). x.first) is) (ap (λ (x : Outgoing). x.own_bi.opened) is) (ap (λ (x : Outgoing). x.own_uni.opened) is)
      (λ k n. ap (λ (x : Outgoing). option_map core (x.halves k)) is ∙ cores-rest u.out.halves id k (Some (given_up half)) n)
      (let P : Outgoing → Type 0 = λ x. MovesHalf (WasGivenUp code) (f id) (u.out.halves id) (x.halves id) in subst P (sym is)
      (moves-put (WasGivenUp code) (f id) u.out.halves id half (given_up half) s.1 (λ k. flow-given-up (f id) half code k)))
      (ap (λ (x : Outgoing). x.budget.send_window) is)
      (omega arith)
