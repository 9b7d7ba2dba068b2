-- While a peer has not answered, an early start of a client can be rejected, or sent again.
use Rattle.std.proofs.Common.{◌≡◌, ℕ, Bool, true, false, List, [], ◌∷◌, Option, Some, None, is_some, Ok, Err, refl, sym, ap, ◌∙◌, subst}
use Rattle.std.specs.Prelude.{◌&&◌, ◌==◌, is_none, if◌then◌else◌}
use Rattle.quic_values.specs.declared.ids.Side.{Side}
use Rattle.quic_values.specs.declared.ids.Side.TheVariants.{Client}
use Rattle.quic_sending.specs.declared.send.Send.{Send}
use Rattle.quic_sending.specs.Buffer.{is_acked}
use Rattle.quic_sending.specs.Sending.{is_reset_sent}
use Rattle.quic_receiving.specs.Half.{Half}
use Rattle.quic_receiving.specs.declared.errors.ReadError.TheVariants as read_error
use Rattle.quic_wire.specs.declared.frame.Frame.TheVariants as frames
use Rattle.quic_flows.specs.Flow.{SendMove, SendFlow, WasWritten, WasFinished, WasGivenUp, WasAskedToStop, WasPermitted, WasCarried, WasLost, with_send_move, counts_for, takes_data, front_of, FlowFrom, FlowAt}
use Rattle.quic_outgoing.specs.declared.limits.PeerLimits.{PeerLimits}
use Rattle.quic_outgoing.specs.Senders.{is_local}
use Rattle.quic_outgoing.specs.Early.{NoneAcked}
use Rattle.quic_history.specs.World.{World, Made}
use Rattle.quic_history.specs.Early.{IsEarly, JointMove, WereDropped, WereUnsent, with_joint_move, with_unsent, begins_anew}
use Rattle.quic_history.specs.Flows.{has_send_side, has_side_in, send_moved, with_first_limits}
use Rattle.quic_history.specs.SendEvents.{RaisedLimit, StoppedOwn, WroteOwn, FinishedOwn, ResetOwn, AckedOwn, LostOwn, ResetAckedOwn, TookTurn}
use Rattle.quic_history.specs.History.{Event, Received, ReceivedReset, Gave, Stopped, ToldReset, LeftPending, Sending, WasRead, WasStopped, WasAnnounced, Trace, untouched, trace, moved, move_of, told_still, joint_move_of, with_move, send_move_of, limits_in, opened_in_all, since, send_tale, flow, StreamFrom, From, tells_answer, IsUnanswered}
use Rattle.quic_history.proofs.SendSides.{held-flow}
use Rattle.quic_history.proofs.EarlyFlows.{reset_state}

-- ---- what was received

-- nothing came on a stream
pub record IsQuiet (t : Trace) : Type 0 where
  pub high : t.high ≡ 0
  pub sized : t.sized ≡ false
  pub there : t.gone ≡ false
  pub reset : t.reset ≡ None
  pub kept : t.kept ≡ []

quiet_still : (e : Event) (q : ℕ) (t : Trace) → IsQuiet t → IsQuiet (told_still e q t)
quiet_still e q t k = by (begins_anew (joint_move_of e) && is_local Client q)
  where
    by : (b : Bool) → IsQuiet (if b then untouched else t)
    by true = record { high = refl; sized = refl; there = refl; reset = refl; kept = refl }
    by false = k

quiet_if : (b : Bool) (t u : Trace) → IsQuiet t → IsQuiet u → IsQuiet (if b then t else u)
quiet_if true t u s k = s
quiet_if false t u s k = k

-- a call that is no answer
quiet_moved : (e : Event) (q : ℕ) (t : Trace) → tells_answer e ≡ false → IsQuiet t → IsQuiet (moved (move_of e) q t)
quiet_moved (Received id offset bytes fin answer) q t n k = cc
quiet_moved (ReceivedReset id code final answer) q t n k = cc
quiet_moved (Gave id most ordered (Ok (Some chunk))) q t n k =
    quiet_if (q == id) (with_move (WasRead ordered (Ok (Some chunk))) t) t (record { high = k.high; sized = k.sized; there = k.there; reset = k.reset; kept = k.kept }) k
quiet_moved (Gave id most ordered (Ok None)) q t n k = cc
quiet_moved (Gave id most ordered (Err read_error.Blocked)) q t n k = quiet_if (q == id) t t k k
quiet_moved (Gave id most ordered (Err (read_error.Reset code))) q t n k = cc
quiet_moved (Gave id most ordered (Err read_error.OutOfMemory)) q t n k = quiet_if (q == id) t t k k
quiet_moved (Stopped id code (Ok x)) q t n k = quiet_if (q == id) (with_move WasStopped t) t (record { high = k.high; sized = k.sized; there = k.sized; reset = k.reset; kept = k.kept }) k
quiet_moved (ToldReset id (Ok (Some code))) q t n k = cc
quiet_moved (LeftPending kind (Some (frames.MaxStreamData id limit))) q t n k =
    quiet_if (q == id) (with_move (WasAnnounced limit) t) t (record { high = k.high; sized = k.sized; there = k.there; reset = k.reset; kept = k.kept }) k
quiet_moved _ q t n k = k

pub quiet-trace : (h : List Event) → IsUnanswered h → (q : ℕ) → IsQuiet (trace h q)
quiet-trace [] u q = record { high = refl; sized = refl; there = refl; reset = refl; kept = refl }
quiet-trace (e ∷ h) u q = quiet_moved e q (told_still e q (trace h q)) u.0 (quiet_still e q (trace h q) (quiet-trace h u.1 q))

-- ---- what was sent

-- nothing is acknowledged on a stream, and its half was not freed
record IsUnacked (t : SendFlow) : Type 0 where
  there : t.freed ≡ false
  acked : (n : ℕ) → t.acked n ≡ false

unacked_if : (b : Bool) (t u : SendFlow) → IsUnacked t → IsUnacked u → IsUnacked (if b then t else u)
unacked_if true t u s k = s
unacked_if false t u s k = k

unacked_joint : (o : Option JointMove) (side : Side) (q : ℕ) (t : SendFlow) → IsUnacked t → IsUnacked (with_joint_move o side q t)
unacked_joint None side q t k = k
unacked_joint (Some WereDropped) side q t k = record { there = refl; acked = λ n. refl }
unacked_joint (Some WereUnsent) side q t k = unacked_if (is_local side q) (with_unsent t) t (unacked_if (is_none t.reset) _ t (record { there = k.there; acked = k.acked }) k) k

unacked_limits : (l : Option PeerLimits) (side : Side) (q : ℕ) (t : SendFlow) → IsUnacked t → IsUnacked (with_first_limits l side q t)
unacked_limits None side q t k = k
unacked_limits (Some limits) side q t k = record { there = k.there; acked = k.acked }

unacked_here : (id q : ℕ) (m : SendMove) (there : ℕ → Bool) (t : SendFlow) → IsUnacked (with_send_move m t) → IsUnacked t → IsUnacked (send_moved (Some (id, m)) there q t)
unacked_here id q m there t s k = unacked_if ((q == id) && there q) (with_send_move m t) t s k

unacked_moved : (e : Event) (there : ℕ → Bool) (q : ℕ) (t : SendFlow) → tells_answer e ≡ false → IsUnacked t → IsUnacked (send_moved (send_move_of e) there q t)
unacked_moved (Sending (RaisedLimit id limit (Ok x))) there q t n k =
    unacked_here id q (WasPermitted limit) there t (unacked_if (takes_data t.reset t.finished) _ t (record { there = k.there; acked = k.acked }) k) k
unacked_moved (Sending (StoppedOwn id code (Ok x))) there q t n k = unacked_here id q (WasAskedToStop code) there t (record { there = k.there; acked = k.acked }) k
unacked_moved (Sending (WroteOwn id lists closed (Ok written))) there q t n k =
    unacked_here id q (WasWritten (front_of written.bytes lists)) there t (record { there = k.there; acked = k.acked }) k
unacked_moved (Sending (FinishedOwn id (Ok x))) there q t n k = unacked_here id q WasFinished there t (record { there = k.there; acked = k.acked }) k
unacked_moved (Sending (ResetOwn id code (Ok x))) there q t n k = unacked_here id q (WasGivenUp code) there t (record { there = k.there; acked = k.acked }) k
unacked_moved (Sending (AckedOwn id offsets fin answer)) there q t n k = cc
unacked_moved (Sending (ResetAckedOwn id answer)) there q t n k = cc
unacked_moved (Sending (LostOwn id offsets fin (Ok x))) there q t n k =
    unacked_here id q (WasLost offsets.start offsets.end fin) there t (unacked_if (counts_for t.reset t.sent_up_to offsets.end) _ t (record { there = k.there; acked = k.acked }) k) k
unacked_moved (Sending (TookTurn most fair (Some frame))) there q t n k =
    unacked_here frame.id q (WasCarried frame.offsets.start frame.offsets.end frame.fin) there t (unacked_if (is_none t.reset) _ t (record { there = k.there; acked = k.acked }) k) k
unacked_moved _ there q t n k = k

unacked_flow : (m : Made) (h : List Event) → IsUnanswered h → (q : ℕ) → IsUnacked (flow m h q)
unacked_flow m [] u q = record { there = refl; acked = λ n. refl }
unacked_flow m (e ∷ h) u q =
    unacked_limits (limits_in e) m.side q _
    (unacked_moved e (has_send_side m.side (opened_in_all (since h)) (send_tale m h).may_open) q (with_joint_move (joint_move_of e) m.side q (flow m h q)) u.0
    (unacked_joint (joint_move_of e) m.side q (flow m h q) (unacked_flow m h u.1 q)))

-- ---- the end

held_half : (n : ℕ) (t : Trace) (o : Option Half) → IsQuiet t → StreamFrom n t None o → (h : Half) × (o ≡ Some h) × (h.end ≡ 0)
held_half n t (Some h) k f = (h, refl, f.high ∙ k.high)
held_half n t None k f = let j = sym k.there ∙ f in cc

held_send : (first : ℕ) (t : SendFlow) (b : Bool) (o : Option Send) → IsUnacked t → b ≡ true → FlowAt first t b o → is_some o ≡ true
held_send first t true (Some s) k e f = refl
held_send first t true None k e f = let j = sym k.there ∙ f in cc
held_send first t false o k e f = cc

-- an end whose peer has not answered is early
pub is-early : (m : Made) (h : List Event) (u : World) → m.side ≡ Client → IsUnanswered h → From m h u → IsEarly u
is-early m h u client quiet f = record {
  client = f.side ∙ client;
  own = λ q e k. held_half u.window (trace h q) (u.receive q) (quiet-trace h quiet q) (subst (λ (r : Option ℕ). StreamFrom u.window (trace h q) r (u.receive q)) k (f.facts.streams q));
  peer = λ q e k. held_send _ (flow m h q) (has_side_in u.out u.bi.max_remote q) (u.out.halves q) (unacked_flow m h quiet q) k (f.sends.flows q);
}

-- and nothing that it sent is acknowledged
pub none-acked : (m : Made) (h : List Event) (u : World) → IsUnanswered h → From m h u → NoneAcked u.out.side u.out.halves
none-acked m h u quiet f q s own held open_now n = by (flow m h q).reset refl
  where
    is : FlowFrom (flow m h q) s
    is = held-flow _ (flow m h q) (has_side_in u.out u.bi.max_remote q) s (u.out.halves q) held (f.sends.flows q)

    told : (flow m h q).acked n ≡ false
    told = let k = unacked_flow m h quiet q in k.acked n

    by : (o : Option ℕ) → (flow m h q).reset ≡ o → is_acked s.pending n ≡ false
    by None e = (is.offsets e).acked n ∙ told
    by (Some code) e =
        let k = sym open_now ∙ ap is_reset_sent is.state ∙ reset_state (flow m h q).reset (flow m h q).finished (flow m h q).end_acked ∙ ap (λ (o : Option ℕ). is_some o) e in cc
