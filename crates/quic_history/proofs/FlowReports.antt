-- What acknowledgements, losses and frames do to what is told of the sending sides.
use Rattle.std.proofs.Common.{◌≡◌, ◌⊎◌, ℕ, ℤ, Bool, true, false, List, [], ◌∷◌, Option, Some, None, is_some, Ok, refl, sym, ap, ◌∙◌, subst, inl, inr, arith, ◌+◌, ◌-◌, ◌<◌, ◌≤◌}
use Rattle.std.specs.Prelude.{◌&&◌, ◌||◌, not, ◌==◌, is_none, length, max, nat_le, nat_lt, if◌then◌else◌, unwrap_or}
use Rattle.std.specs.Option.{option_map}
use Rattle.std.specs.declared.ops.Range.{Range}
use Rattle.std.proofs.lemmas.Bool.Decides.{nat_tests}
use Rattle.quic_values.specs.declared.ids.Side.{Side}
use Rattle.quic_values.specs.declared.ids.Dir.{Dir}
use Rattle.quic_values.specs.declared.ids.Dir.TheVariants.{Bi, Uni}
use Rattle.quic_values.specs.Ids.{dir_of}
use Rattle.quic_wire.specs.declared.event.StreamEvent.TheVariants as stream_event
use Rattle.quic_wire.specs.declared.frame.Frame.{Frame}
use Rattle.quic_wire.specs.declared.frame.StreamMeta.{StreamMeta}
use Rattle.quic_limits.specs.SendingCredit.{with_released}
use Rattle.quic_sending.specs.declared.send.Send.{Send}
use Rattle.quic_sending.specs.declared.send.SendState.{SendState}
use Rattle.quic_sending.specs.Buffer.{Buffered, IsNextRange, frame_end, total_length, uncovered, is_lost}
use Rattle.quic_sending.specs.Sending.{is_ready, is_reset_sent}
use Rattle.quic_outgoing.specs.Transmitting.{sending_priority, room_behind_id}
use Rattle.quic_retransmits.specs.Pending.{Pending}
use Rattle.quic_flows.specs.Flow.{SendMove, WasCarried, WasAcked, WasLost, WasResetAcked, SendFlow, counts_for, with_lost, with_carried, state_told, with_send_move, retained, FlowFrom, FlowAt}
use Rattle.quic_flows.proofs.FlowSteps.{core, flow-retained}
use Rattle.quic_flows.proofs.FrameFlows.{AfterAck, flow-acked, flow-lost, flow-carried}
use Rattle.quic_outgoing.specs.Senders.{with_sender}
use Rattle.quic_outgoing.specs.Outgoing.{Outgoing, with_send_half}
use Rattle.quic_outgoing.specs.Acknowledging.{AcksHalf, LosesOnHalf, AcksStream, LosesOnStream, were_sent, is_complete, is_given_up}
use Rattle.quic_writing.specs.Writer.{Writer}
use Rattle.quic_history.specs.World.{World, is_own, remote_of, replaced_in, told}
use Rattle.quic_history.specs.Sends.{with_out, is_permitted}
use Rattle.quic_history.specs.Control.{SettlesEntry}
use Rattle.quic_history.specs.declared.control.ControlKind.{ControlKind}
use Rattle.quic_history.specs.Carrying.{PassesOver, CarriesFrame, with_writer}
use Rattle.quic_history.specs.Acknowledged.{AcksOwn, LosesOwn, AcksReset, frees_reset, told_finished, with_send_freed, without_sender}
use Rattle.quic_history.proofs.SendFreed.{send-freed}
use Rattle.quic_history.specs.Writes.{with_queued}
use Rattle.quic_history.specs.Flows.{has_side_in, send_moved, AllFlows}
use Rattle.quic_history.proofs.ControlSteps.{announces}
use Rattle.quic_history.proofs.SendSteps.{either-way, served-is}
use Rattle.quic_history.proofs.SendSides.{sides-none, sides-at, HalfAfter, MovesHalf, after_at, here_put, cores-rest, moves-put, freed_moved}
use Rattle.quic_history.proofs.FlowLeaves.{Leaves, leaves-none, leaves-then, leaves-at, leaves-same, leaves-sides, leaves-told, leaves-replaced}
use Rattle.quic_history.proofs.FlowSteps.{FlowStep, step-at, step_then, step_moved, moved_here, moved_held, flow_held, unpermitted, queued_leaves}

-- ---- calls that leave the sending sides

pub leaves-passed : (u : World) (most : ℕ) (fair : Bool) (v : World) → PassesOver u v → Leaves u v
leaves-passed u most fair v s =
    let found : u.out ≡ s.before.streams = ap (λ (w : World). w.out) s.found in
    let same : s.after.streams ≡ s.before.streams = ap (λ (x : Writer). x.streams) s.turn.is in
    leaves-at u v _ s.is (leaves-sides u (with_writer u s.after) (sides-at u.out s.after.streams u.out (same ∙ sym found) (sides-none u.out)) refl)

pub leaves-settled : (u : World) (k : ControlKind) (p : Pending) (o : Option Frame) (v : World) (q : Pending) → SettlesEntry k u p o v q → Leaves u v
leaves-settled u k p o v q s =
    let a = announces k u p o v q s in
    let bi = a.limits Bi in
    leaves-sides u v (sides-at u.out v.out u.out a.out (sides-none u.out)) bi.max

leaves_uncounted : (u : World) (id : ℕ) → Leaves u (without_sender u id)
leaves_uncounted u id = leaves-sides u (without_sender u id) (sides-none u.out) refl

leaves_freed : (u : World) (id : ℕ) → Leaves u (with_send_freed u id)
leaves_freed u id = let w = without_sender u id in send-freed (Leaves u) u id (leaves_uncounted u id) (leaves-then u w _ (leaves_uncounted u id) (leaves-replaced w Bi))

leaves_finished : (u : World) (id : ℕ) (b : Bool) → Leaves u (told_finished u id b)
leaves_finished u id true = leaves-then u (with_send_freed u id) _ (leaves_freed u id) (leaves-told (with_send_freed u id) (stream_event.Finished id))
leaves_finished u id false = leaves-none u

-- ---- which reports count

none_retained : (r : Option ℕ) (freed : Bool) (n : ℕ) → freed ≡ true → (if is_some r || freed then 0 else n) ≡ 0
none_retained None true n e = refl
none_retained None false n e = cc
none_retained (Some code) freed n e = refl

freed_retained : (t : SendFlow) → t.freed ≡ true → retained t ≡ 0
freed_retained t e = none_retained t.reset t.freed _ e

pub told_freed : (first : ℕ) (t : SendFlow) (k : Bool) (o : Option Send) → k ≡ true → o ≡ None → FlowAt first t k o → t.freed ≡ true
told_freed first t true None e n f = f
told_freed first t true (Some s) e n f = cc
told_freed first t false o e n f = cc

open_state : (r : Option ℕ) (finished acked : Bool) → r ≡ None → is_reset_sent (state_told r finished acked) ≡ false
open_state None true acked e = refl
open_state None false acked e = refl
open_state (Some code) finished acked e = cc

reset_state : (r : Option ℕ) (finished acked : Bool) → is_some r ≡ true → is_reset_sent (state_told r finished acked) ≡ true
reset_state None finished acked e = cc
reset_state (Some code) finished acked e = refl

-- a report on a stream that was given up, or of offsets that were not sent, does not count
pub uncounted : (t : SendFlow) (s : Send) (behind : ℕ) → FlowFrom t s → (not (is_reset_sent s.state) && nat_le behind s.pending.unsent) ≡ false → counts_for t.reset t.sent_up_to behind ≡ false
uncounted t s behind f h = by_reset t.reset refl
  where
    by_reset : (r : Option ℕ) → t.reset ≡ r → counts_for r t.sent_up_to behind ≡ false
    by_reset None e =
        let open_now : is_reset_sent s.state ≡ false = ap is_reset_sent f.state ∙ open_state t.reset t.finished t.end_acked e in
        let o = f.offsets e in
        let k = rw open_now at h in
        ap (nat_le behind) (sym o.unsent) ∙ k
    by_reset (Some code) e = refl

-- another one counts
pub record Counts (t : SendFlow) (s : Send) (behind : ℕ) : Type 0 where
  pub kept : t.reset ≡ None
  pub sent : behind ≤ s.pending.unsent

pub counted : (t : SendFlow) (s : Send) (behind : ℕ) → FlowFrom t s → (not (is_reset_sent s.state) && nat_le behind s.pending.unsent) ≡ true → Counts t s behind
counted t s behind f h = by_reset t.reset refl
  where
    by_reset : (r : Option ℕ) → t.reset ≡ r → Counts t s behind
    by_reset None e =
        let open_now : is_reset_sent s.state ≡ false = ap is_reset_sent f.state ∙ open_state t.reset t.finished t.end_acked e in
        let k = rw open_now at h in
        record { kept = e; sent = grind (arith, nat_tests) }
    by_reset (Some code) e =
        let closed : is_reset_sent s.state ≡ true = ap is_reset_sent f.state ∙ reset_state t.reset t.finished t.end_acked (ap (λ (r : Option ℕ). is_some r) e) in
        let k = rw closed at h in
        absurd (cc)

less_uncovered : (d : ℕ) (ps : List (List ℕ)) → total_length (uncovered d ps) ≤ total_length ps
less_uncovered d [] = omega arith
less_uncovered d (p ∷ ps) = by_test (nat_lt d (length p)) (less_uncovered (d - length p) ps)
  where
    by_test : (b : Bool) → total_length (uncovered (d - length p) ps) ≤ total_length ps → total_length (if b then p ∷ ps else uncovered (d - length p) ps) ≤ total_length (p ∷ ps)
    by_test true l = omega arith
    by_test false l = omega arith

unchanged_acked : (t : SendFlow) (first behind : ℕ) (fin : Bool) → counts_for t.reset t.sent_up_to behind ≡ false → with_send_move (WasAcked first behind fin) t ≡ t
unchanged_acked t first behind fin e = rw e refl

unchanged_lost : (t : SendFlow) (first behind : ℕ) (fin : Bool) → counts_for t.reset t.sent_up_to behind ≡ false → with_send_move (WasLost first behind fin) t ≡ t
unchanged_lost t first behind fin e = rw e refl

lost_retained : (t : SendFlow) (first behind : ℕ) (fin : Bool) → retained (with_send_move (WasLost first behind fin) t) ≡ retained t
lost_retained t first behind fin = by_test (counts_for t.reset t.sent_up_to behind)
  where
    by_test : (b : Bool) → retained (if b then with_lost first behind fin t else t) ≡ retained t
    by_test true = refl
    by_test false = refl

carried_retained : (t : SendFlow) (first behind : ℕ) (fin : Bool) → retained (with_send_move (WasCarried first behind fin) t) ≡ retained t
carried_retained t first behind fin = by_test (is_none t.reset)
  where
    by_test : (b : Bool) → retained (if b then with_carried first behind fin t else t) ≡ retained t
    by_test true = refl
    by_test false = refl

or_none : (b : Bool) → (b || false) ≡ b
or_none true = refl
or_none false = refl

or_all : (b c : Bool) → c ≡ true → (b || c) ≡ true
or_all true c e = refl
or_all false c e = e

not_given_up : (o : Option Send) (s : Send) → o ≡ Some s → is_given_up o ≡ is_reset_sent s.state
not_given_up o s e = rw e refl

reset_none : (t : SendFlow) (s : Send) → FlowFrom t s → is_reset_sent s.state ≡ false → is_some t.reset ≡ false
reset_none t s f h = by_reset t.reset refl
  where
    by_reset : (r : Option ℕ) → t.reset ≡ r → is_some r ≡ false
    by_reset None e = refl
    by_reset (Some code) e = absurd (let k = sym h ∙ ap is_reset_sent f.state ∙ reset_state t.reset t.finished t.end_acked (ap (λ (r : Option ℕ). is_some r) e) in cc)

pub told_reset : (t : SendFlow) (s : Send) → FlowFrom t s → is_reset_sent s.state ≡ true → is_some t.reset ≡ true
told_reset t s f h = by_reset t.reset refl
  where
    by_reset : (r : Option ℕ) → t.reset ≡ r → is_some r ≡ true
    by_reset None e = absurd (let k = sym h ∙ ap is_reset_sent f.state ∙ open_state t.reset t.finished t.end_acked e in cc)
    by_reset (Some code) e = refl

given_up_some : (o : Option Send) → is_given_up o ≡ true → (s : Send) × (o ≡ Some s) × (is_reset_sent s.state ≡ true)
given_up_some None e = cc
given_up_some (Some s) e = (s, refl, e)

and_false : (a b : Bool) → (a && b) ≡ false → a ≡ true → b ≡ false
and_false true b e k = e
and_false false b e k = cc

and_right : (a b : Bool) → (a && b) ≡ true → b ≡ true
and_right true b e = e
and_right false b e = cc

none_if : (r : Option ℕ) → is_some r ≡ false → r ≡ None
none_if None e = refl
none_if (Some code) e = cc

-- a stream whose turn comes with a frame was not given up
sending_open : (o : Option Send) (s : Send) (priority : ℤ) → o ≡ Some s → sending_priority o ≡ Some priority → is_reset_sent s.state ≡ false
sending_open o s priority e k = by_test (is_reset_sent s.state) refl
  where
    told : (if is_reset_sent s.state then None else Some s.priority) ≡ Some priority
    told = ap sending_priority (sym e) ∙ k

    by_test : (b : Bool) → is_reset_sent s.state ≡ b → b ≡ false
    by_test true r = absurd (let t = rw r at told in cc)
    by_test false r = refl

-- what is sent next begins where it was sent before, or just behind
begins_sent : (v : Buffered) (a b : ℕ) → IsNextRange v a b → ((n : ℕ) → is_lost v n ≡ true → n < v.unsent) → a ≤ v.unsent
begins_sent v a b (inl s) l = let r = s.run in let k = l a (r.inside a (omega arith) r.some) in omega arith
begins_sent v a b (inr s) l = let e = s.1 in omega arith

-- and where it goes beyond what was sent, just behind
goes_on : (v : Buffered) (a e b : ℕ) → IsNextRange v a b → ((n : ℕ) → is_lost v n ≡ true → n < v.unsent) → e ≤ b → a < e → v.unsent < e → a ≡ v.unsent
goes_on v a e b (inl s) l w less k = let r = s.run in let x = l (e - 1) (r.inside (e - 1) (omega arith) (omega arith)) in absurd (let y : e - 1 < v.unsent = x in omega arith)
goes_on v a e b (inr s) l w less k = s.1

front_of_next : (a b room e : ℕ) → e ≡ frame_end a b room → e ≤ b
front_of_next a b room e k = omega arith

-- ---- the calls

module _ (side : Side) (there : ℕ → Bool) (f : ℕ → SendFlow) (u : World) (known : (q : ℕ) → there q ≡ has_side_in u.out u.bi.max_remote q) (all : AllFlows f u.out u.bi.max_remote) where
  -- no half is held
  step_none : (id : ℕ) (m : SendMove) → u.out.halves id ≡ None → FlowStep (Some (id, m)) None None side there f u u
  step_none id m e = step_moved side there f u known all u.out id m refl refl refl refl (λ q k. refl)
      (record { none = λ k. k; some = λ s k t. absurd (let n = sym e ∙ k in cc) }) refl (by_there (there id) refl)
    where
      by_there : (b : Bool) → there id ≡ b → u.out.budget.buffered_data + retained (f id) ≡ u.out.budget.buffered_data + retained (send_moved (Some (id, m)) there id (f id))
      by_there true k =
          let freed = told_freed _ (f id) (has_side_in u.out u.bi.max_remote id) (u.out.halves id) (sym (known id) ∙ k) e (all id) in
          let after = ap retained (moved_here id m there (f id) true k) in
          let one = freed_retained (f id) freed in
          let two = freed_retained (with_send_move m (f id)) (freed_moved m (f id) freed) in
          omega arith
      by_there false k = let after = ap retained (moved_here id m there (f id) false k) in omega arith

  -- what was done changed nothing
  step_same : (id : ℕ) (m : SendMove) (s : Send) → u.out.halves id ≡ Some s → with_send_move m (f id) ≡ f id → FlowStep (Some (id, m)) None None side there f u u
  step_same id m s e same = step_moved side there f u known all u.out id m refl refl refl refl (λ q k. refl)
      (record {
        none = λ k. k;
        some = λ x k t. let P : SendFlow → Type 0 = λ y. HalfAfter y (u.out.halves id) in
            subst P (sym same) (after_at (f id) (u.out.halves id) (Some x) k t);
      }) refl
      (let after = ap retained (moved_held side there f u known all id m s e ∙ same) in omega arith)

  -- a report that does not count
  step_uncounted : (id : ℕ) (m : SendMove) (offsets : Range ℕ) (o : Option Send) → u.out.halves id ≡ o → were_sent o offsets ≡ false
      → ((t : SendFlow) → counts_for t.reset t.sent_up_to offsets.end ≡ false → with_send_move m t ≡ t) → FlowStep (Some (id, m)) None None side there f u u
  step_uncounted id m offsets None e w same = step_none id m e
  step_uncounted id m offsets (Some s) e w same = step_same id m s e (same (f id) (uncounted (f id) s offsets.end (flow_held side there f u known all id s e) w))

  step_acked_half : (id : ℕ) (offsets : Range ℕ) (fin done : Bool) (o : Outgoing) → retained (f id) ≤ u.out.budget.buffered_data → were_sent (u.out.halves id) offsets ≡ true → AcksHalf u.out id offsets fin done o
      → FlowStep (Some (id, WasAcked offsets.start offsets.end fin)) None None side there f u (with_out u o)
  step_acked_half id offsets fin done o few w a =
      let m = WasAcked offsets.start offsets.end fin in
      let flow = flow_held side there f u known all id a.half a.is_held in
      let k = a.acks in
      let c = counted (f id) a.half offsets.end flow (ap (λ (x : Option Send). were_sent x offsets) (sym a.is_held) ∙ w) in
      let after : AfterAck (with_send_move m (f id)) a.after = flow-acked (f id) a.half a.after offsets.start offsets.end fin flow c.kept c.sent k.sound k.cuts k.unsent k.acked k.lost k.others in
      let was = flow-retained (f id) a.half flow in
      let is = after.kept in
      let less = less_uncovered (a.after.pending.prefix - a.half.pending.gone) a.half.pending.held in
      let held = ap total_length k.held in
      let moved = ap retained (moved_held side there f u known all id m a.half a.is_held) in
      let buffered = ap (λ (x : Outgoing). x.budget.buffered_data) a.is in
      step_moved side there f u known all o id m (ap (λ (x : Outgoing). x.side) a.is) (ap (λ (x : Outgoing). x.first) a.is) (ap (λ (x : Outgoing). x.own_bi.opened) a.is) (ap (λ (x : Outgoing). x.own_uni.opened) a.is)
      (λ q n. ap (λ (x : Outgoing). option_map core (x.halves q)) a.is ∙ cores-rest u.out.halves id q (if done then None else Some a.after) n)
      (record {
        none = λ n. absurd (let x = sym a.is_held ∙ n in cc);
        some = λ x n t. after_at (with_send_move m (f id)) (o.halves id) (if done then None else Some a.after)
            (ap (λ (y : Outgoing). y.halves id) a.is ∙ here_put u.out.halves id (if done then None else Some a.after)) (by_done done a.done_is after);
      })
      (ap (λ (x : Outgoing). x.budget.send_window) a.is)
      (omega arith)
    where
      by_done : {t : SendFlow} {s : Send} (b : Bool) → b ≡ is_complete s → AfterAck t s → HalfAfter t (if b then None else Some s)
      by_done true e k = k.freed (sym e)
      by_done false e k = k.held (sym e)

  ack_sent : (id : ℕ) (offsets : Range ℕ) (fin : Bool) → retained (f id) ≤ u.out.budget.buffered_data → (b : Bool) → were_sent (u.out.halves id) offsets ≡ b → (done : Bool) (o : Outgoing)
      → AcksStream u.out id offsets fin (Ok done) o → FlowStep (Some (id, WasAcked offsets.start offsets.end fin)) None None side there f u (with_out u o)
  ack_sent id offsets fin few true w done o a = let t = rw w at a in step_acked_half id offsets fin done o few w t
  ack_sent id offsets fin few false w done o a = let t = rw w at a in
      step-at (Some (id, WasAcked offsets.start offsets.end fin)) None None side there f u u (with_out u o) (ap (with_out u) t.1)
      (step_uncounted id (WasAcked offsets.start offsets.end fin) offsets (u.out.halves id) refl w (λ y n. unchanged_acked y offsets.start offsets.end fin n))

  pub step-acked : (id : ℕ) (offsets : Range ℕ) (fin : Bool) (x : Unit {0}) (v : World) → retained (f id) ≤ u.out.budget.buffered_data → AcksOwn u id offsets fin (Ok x) v
      → FlowStep (Some (id, WasAcked offsets.start offsets.end fin)) None None side there f u v
  step-acked id offsets fin x v few s = by_test (is_permitted u id) refl
    where
      m : SendMove
      m = WasAcked offsets.start offsets.end fin

      by_test : (b : Bool) → is_permitted u id ≡ b → FlowStep (Some (id, m)) None None side there f u v
      by_test true k = let t = rw k at s in
          step-at (Some (id, m)) None None side there f u (told_finished (with_out u t.1) id t.0) v t.3
          (step_then (Some (id, m)) None None side there f u (with_out u t.1) _
          (ack_sent id offsets fin few (were_sent (u.out.halves id) offsets) refl t.0 t.1 t.2)
          (leaves_finished (with_out u t.1) id t.0))
      by_test false k = let t = rw k at s in
          step-at (Some (id, m)) None None side there f u u v t (step_none id m (unpermitted side there f u known all id k))

  -- ---- losses

  step_lost_half : (id : ℕ) (offsets : Range ℕ) (fin : Bool) (queue : Option ℤ) (o : Outgoing) → were_sent (u.out.halves id) offsets ≡ true → LosesOnHalf u.out id offsets fin queue o
      → FlowStep (Some (id, WasLost offsets.start offsets.end fin)) None None side there f u (with_out u o)
  step_lost_half id offsets fin queue o w a =
      let m = WasLost offsets.start offsets.end fin in
      let flow = flow_held side there f u known all id a.half a.is_held in
      let k = a.loses in
      let c = counted (f id) a.half offsets.end flow (ap (λ (x : Option Send). were_sent x offsets) (sym a.is_held) ∙ w) in
      let pending : a.after.pending ≡ record a.half.pending { lost = a.after.pending.lost } = ap (λ (x : Send). x.pending) k.others in
      let others : a.after ≡ record a.half { fin_pending = a.half.fin_pending || (fin && not (is_ready a.half.state)); pending = a.after.pending } =
      k.others ∙ ap (λ (y : Buffered). record a.half { fin_pending = a.half.fin_pending || (fin && not (is_ready a.half.state)); pending = y }) (sym pending) in
      let after : FlowFrom (with_send_move m (f id)) a.after = flow-lost (f id) a.half a.after offsets.start offsets.end fin flow c.kept c.sent pending k.lost others in
      let moved = ap retained (moved_held side there f u known all id m a.half a.is_held) ∙ lost_retained (f id) offsets.start offsets.end fin in
      let buffered = ap (λ (x : Outgoing). x.budget.buffered_data) a.is in
      step_moved side there f u known all o id m (ap (λ (x : Outgoing). x.side) a.is) (ap (λ (x : Outgoing). x.first) a.is) (ap (λ (x : Outgoing). x.own_bi.opened) a.is) (ap (λ (x : Outgoing). x.own_uni.opened) a.is)
      (λ q n. ap (λ (x : Outgoing). option_map core (x.halves q)) a.is ∙ cores-rest u.out.halves id q (Some a.after) n)
      (let P : Outgoing → Type 0 = λ x. MovesHalf m (f id) (u.out.halves id) (x.halves id) in subst P (sym a.is) (moves-put m (f id) u.out.halves id a.half a.after a.is_held (λ y. after)))
      (ap (λ (x : Outgoing). x.budget.send_window) a.is)
      (omega arith)

  loss_sent : (id : ℕ) (offsets : Range ℕ) (fin : Bool) (b : Bool) → were_sent (u.out.halves id) offsets ≡ b → (queue : Option ℤ) (o : Outgoing)
      → LosesOnStream u.out id offsets fin (Ok queue) o → FlowStep (Some (id, WasLost offsets.start offsets.end fin)) None None side there f u (with_out u o)
  loss_sent id offsets fin true w queue o a = let t = rw w at a in step_lost_half id offsets fin queue o w t
  loss_sent id offsets fin false w queue o a = let t = rw w at a in
      step-at (Some (id, WasLost offsets.start offsets.end fin)) None None side there f u u (with_out u o) (ap (with_out u) t.1)
      (step_uncounted id (WasLost offsets.start offsets.end fin) offsets (u.out.halves id) refl w (λ y n. unchanged_lost y offsets.start offsets.end fin n))

  pub step-lost : (id : ℕ) (offsets : Range ℕ) (fin : Bool) (x : Unit {0}) (v : World) → LosesOwn u id offsets fin (Ok x) v
      → FlowStep (Some (id, WasLost offsets.start offsets.end fin)) None None side there f u v
  step-lost id offsets fin x v s =
      let m = WasLost offsets.start offsets.end fin in
      step-at (Some (id, m)) None None side there f u (with_queued (with_out u s.1) id s.0) v s.3
      (step_then (Some (id, m)) None None side there f u (with_out u s.1) _
      (loss_sent id offsets fin (were_sent (u.out.halves id) offsets) refl s.0 s.1 s.2)
      (queued_leaves side there f u known all (with_out u s.1) id s.0))

  -- ---- RESET_STREAM was acknowledged

  step_let_go : (id : ℕ) (s : Send) → u.out.halves id ≡ Some s → is_reset_sent s.state ≡ true → FlowStep (Some (id, WasResetAcked)) None None side there f u (with_out u (with_send_half u.out id None))
  step_let_go id s e r =
      let flow = flow_held side there f u known all id s e in
      let reset = told_reset (f id) s flow r in
      let freed : (with_send_move WasResetAcked (f id)).freed ≡ true = or_all (f id).freed (is_some (f id).reset) reset in
      let two = freed_retained (with_send_move WasResetAcked (f id)) freed in
      let one : retained (f id) ≡ 0 = reset_retained (f id).reset (f id).freed _ reset in
      let moved = ap retained (moved_held side there f u known all id WasResetAcked s e) in
      step_moved side there f u known all (with_send_half u.out id None) id WasResetAcked refl refl refl refl (λ q n. cores-rest u.out.halves id q None n)
      (record {
        none = λ n. absurd (let x = sym e ∙ n in cc);
        some = λ x n t. after_at (with_send_move WasResetAcked (f id)) ((with_sender u.out.halves id None) id) None (here_put u.out.halves id None) freed;
      }) refl (omega arith)
    where
      reset_retained : (r : Option ℕ) (b : Bool) (n : ℕ) → is_some r ≡ true → (if is_some r || b then 0 else n) ≡ 0
      reset_retained None b n k = cc
      reset_retained (Some code) b n k = refl

  not_let_go : (id : ℕ) (o : Option Send) → u.out.halves id ≡ o → is_given_up o ≡ false → FlowStep (Some (id, WasResetAcked)) None None side there f u u
  not_let_go id None e g = step_none id WasResetAcked e
  not_let_go id (Some s) e g =
      let none = reset_none (f id) s (flow_held side there f u known all id s e) g in
      step_same id WasResetAcked s e (λ i. record (f id) { freed = (ap (λ b. (f id).freed || b) none ∙ or_none (f id).freed) i })

  pub step-reset-acked : (id : ℕ) (x : Unit {0}) (v : World) → AcksReset u id (Ok x) v → FlowStep (Some (id, WasResetAcked)) None None side there f u v
  step-reset-acked id x v s = by_test (frees_reset u id) refl
    where
      unfreed : (b : Bool) → is_permitted u id ≡ b → is_given_up (u.out.halves id) ≡ false ⊎ (b ≡ false) → FlowStep (Some (id, WasResetAcked)) None None side there f u u
      unfreed b k (inl n) = not_let_go id (u.out.halves id) refl n
      unfreed b k (inr n) = step_none id WasResetAcked (unpermitted side there f u known all id (k ∙ n))

      which : (a b : Bool) → (a && b) ≡ false → (b ≡ false) ⊎ (a ≡ false)
      which true b e = inl e
      which false b e = inr refl

      by_test : (b : Bool) → frees_reset u id ≡ b → FlowStep (Some (id, WasResetAcked)) None None side there f u v
      by_test true k = let t = rw k at s in
          let g = given_up_some (u.out.halves id) (and_right (is_permitted u id) (is_given_up (u.out.halves id)) k) in
          let w = with_out u (with_send_half u.out id None) in
          step-at (Some (id, WasResetAcked)) None None side there f u (with_send_freed w id) v t
          (step_then (Some (id, WasResetAcked)) None None side there f u w _ (step_let_go id g.0 g.1 g.2) (leaves_freed w id))
      by_test false k = let t = rw k at s in
          step-at (Some (id, WasResetAcked)) None None side there f u u v t
          (unfreed (is_permitted u id) refl (which (is_permitted u id) (is_given_up (u.out.halves id)) k))

  -- ---- frames

  pub step-carried : (most : ℕ) (fair : Bool) (frame : StreamMeta) (v : World) → CarriesFrame most fair u frame v
      → FlowStep (Some (frame.id, WasCarried frame.offsets.start frame.offsets.end frame.fin)) None None side there f u v
  step-carried most fair frame v s =
      let t = s.turn in
      let a = t.transmits.appends in
      let found : u.out ≡ s.before.streams = ap (λ (w : World). w.out) s.found in
      let id : ℕ = t.entry.id in
      let meta = t.frame.meta in
      let m = WasCarried meta.offsets.start meta.offsets.end meta.fin in
      let half = t.transmits.half in
      let after = t.transmits.sent in
      let held : u.out.halves id ≡ Some half = ap (λ (o : Outgoing). o.halves id) found ∙ t.transmits.is_held in
      let is : s.after.streams ≡ with_send_half u.out id (Some after) = served-is most fair s.before s.after t ∙ ap (λ o. with_send_half o id (Some after)) (sym found) in
      let flow = flow_held side there f u known all id half held in
      let open_now = sending_open (s.before.streams.halves id) half t.priority t.transmits.is_held t.free in
      let kept = none_if (f id).reset (reset_none (f id) half flow open_now) in
      let o = flow.offsets kept in
      let pending : after.pending ≡ record half.pending { unsent = max half.pending.unsent meta.offsets.end; lost = after.pending.lost } = ap (λ (x : Send). x.pending) a.after in
      let others : after ≡ record half { fin_pending = half.fin_pending && not meta.fin; pending = after.pending } =
      a.after ∙ ap (λ (y : Buffered). record half { fin_pending = half.fin_pending && not meta.fin; pending = y }) (sym pending) in
      let moved_flow : FlowFrom (with_send_move m (f id)) after =
      flow-carried (f id) half after meta.offsets.start meta.offsets.end meta.fin flow kept
      (begins_sent half.pending meta.offsets.start a.limit a.next o.lost_sent)
      (λ l k. goes_on half.pending meta.offsets.start meta.offsets.end a.limit a.next o.lost_sent (front_of_next meta.offsets.start a.limit (room_behind_id most id s.before.bytes) meta.offsets.end a.end_is) l k)
      pending a.lost others in
      let w = with_out u s.after.streams in
      let moved = ap retained (moved_held side there f u known all id m half held) ∙ carried_retained (f id) meta.offsets.start meta.offsets.end meta.fin in
      let buffered = ap (λ (x : Outgoing). x.budget.buffered_data) is in
      let P : ℕ → StreamMeta → Type 0 = λ k x. FlowStep (Some (k, WasCarried x.offsets.start x.offsets.end x.fin)) None None side there f u v in
      let same_id : id ≡ frame.id = sym a.id_is ∙ ap (λ (x : StreamMeta). x.id) (sym s.meta) in
      let Q : ℕ → Type 0 = λ k. P k frame in
      let R : StreamMeta → Type 0 = λ x. P id x in
      subst Q same_id (subst R (sym s.meta)
      (step-at (Some (id, m)) None None side there f u (with_writer u s.after) v s.is
      (step_then (Some (id, m)) None None side there f u w (with_writer u s.after)
      (step_moved side there f u known all s.after.streams id m (ap (λ (x : Outgoing). x.side) is) (ap (λ (x : Outgoing). x.first) is) (ap (λ (x : Outgoing). x.own_bi.opened) is) (ap (λ (x : Outgoing). x.own_uni.opened) is)
      (λ q n. ap (λ (x : Outgoing). option_map core (x.halves q)) is ∙ cores-rest u.out.halves id q (Some after) n)
      (let S : Outgoing → Type 0 = λ x. MovesHalf m (f id) (u.out.halves id) (x.halves id) in subst S (sym is) (moves-put m (f id) u.out.halves id half after held (λ y. moved_flow)))
      (ap (λ (x : Outgoing). x.budget.send_window) is)
      (omega arith))
      (leaves-sides w (with_writer u s.after) (sides-none w.out) refl))))
