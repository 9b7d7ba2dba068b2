-- What is told of the sending side of a stream only grows: what was written stays, and once the stream is ended or given
-- up nothing more is.
use Rattle.std.proofs.Common.{◌≡◌, ℕ, Bool, true, false, eqb, List, [], ◌∷◌, Option, Some, None, is_some, Ok, Err, refl, sym, ap, ◌∙◌, subst}
use Rattle.std.specs.Prelude.{◌++◌, ◌==◌, ◌&&◌, min, if◌then◌else◌}
use Rattle.std.proofs.lemmas.List.{append-nil}
use Rattle.quic_values.specs.declared.ids.Side.{Side}
use Rattle.quic_sending.specs.declared.send.Send.{Send}
use Rattle.quic_sending.specs.declared.send.WriteError.TheVariants as write_error
use Rattle.quic_flows.specs.Flow.{SendMove, WasWritten, WasFinished, WasGivenUp, WasAskedToStop, WasPermitted, WasCarried, WasAcked, WasLost, WasResetAcked, SendFlow, takes_data, with_send_move, FlowFrom}
use Rattle.quic_flows.proofs.FlowSteps.{reset-is, ready-is, finishable-ready}
use Rattle.quic_outgoing.specs.declared.limits.PeerLimits.{PeerLimits}
use Rattle.quic_history.specs.World.{World, Made}
use Rattle.quic_history.specs.Flows.{has_side_in, send_moved, with_first_limits, refusal_told, refusal_where, room_on}
use Rattle.quic_history.specs.SendEvents.{SendEvent, SendStep, RaisedLimit, StoppedOwn, WroteOwn, FinishedOwn, ResetOwn, AckedOwn, LostOwn, ResetAckedOwn, TookTurn}
use Rattle.quic_history.specs.History.{Event, Sending, Step, From, flow, send_move_of, limits_in, is_sent_on, room_in_connection, room_in_window, joint_move_of}
use Rattle.quic_history.specs.Early.{begins_anew}
use Rattle.quic_history.proofs.Totals.{by_cases, same}
use Rattle.quic_history.proofs.SendSides.{held-flow}
use Rattle.quic_link.proofs.Unsent.{flow_unsent, flow-called}

pub record Grows (t t' : SendFlow) : Type 0 where
  pub more : List (List ℕ)
  pub cuts : t'.cuts ≡ t.cuts ++ more
  pub closed : takes_data t.reset t.finished ≡ false → more ≡ []
  pub finished : t.finished ≡ true → t'.finished ≡ true
  pub reset : (code : ℕ) → t.reset ≡ Some code → t'.reset ≡ Some code

pub grows-same : (t t' : SendFlow) → t'.cuts ≡ t.cuts → (t.finished ≡ true → t'.finished ≡ true) → ((code : ℕ) → t.reset ≡ Some code → t'.reset ≡ Some code) → Grows t t'
grows-same t t' cuts finished reset = record { more = []; cuts = cuts ∙ sym (append-nil t.cuts); closed = λ e. refl; finished = finished; reset = reset }

pub grows-refl : (t : SendFlow) → Grows t t
grows-refl t = grows-same t t refl (λ e. e) (λ code e. e)

grows-if : (t a b : SendFlow) (k : Bool) → Grows t a → Grows t b → Grows t (if k then a else b)
grows-if t a b true g h = g
grows-if t a b false g h = h

-- a stream that takes no new data never does again
pub still-closed : (t t' : SendFlow) → Grows t t' → takes_data t.reset t.finished ≡ false → takes_data t'.reset t'.finished ≡ false
still-closed t t' g e = by_reset t.reset refl
  where
    ended : (r : Option ℕ) → takes_data r true ≡ false
    ended None = refl
    ended (Some code) = refl

    by_finished : (b : Bool) → t.finished ≡ b → t.reset ≡ None → takes_data t'.reset t'.finished ≡ false
    by_finished true k n = ap (takes_data t'.reset) (g.finished k) ∙ ended t'.reset
    by_finished false k n = let l = rw (n, k) at e in cc

    by_reset : (r : Option ℕ) → t.reset ≡ r → takes_data t'.reset t'.finished ≡ false
    by_reset None k = by_finished t.finished refl k
    by_reset (Some code) k = ap (λ (r : Option ℕ). takes_data r t'.finished) (g.reset code k)

-- what is done to a stream may be done: it is written and ended only where it takes data, and given up once
abbrev pub MayMove : SendMove → SendFlow → Type 0
MayMove (WasWritten pieces) t = takes_data t.reset t.finished ≡ true
MayMove WasFinished t = takes_data t.reset t.finished ≡ true
MayMove (WasGivenUp code) t = t.reset ≡ None
MayMove _ t = Unit {0}

abbrev pub CanMove : (ℕ → SendFlow) → Option (ℕ × SendMove) → Type 0
CanMove f None = Unit {0}
CanMove f (Some m) = MayMove m.1 (f m.0)

grows_move : (m : SendMove) (t : SendFlow) → MayMove m t → Grows t (with_send_move m t)
grows_move (WasWritten pieces) t k = record { more = pieces; cuts = refl; closed = λ e. absurd (let l = sym k ∙ e in cc); finished = λ e. e; reset = λ code e. e }
grows_move WasFinished t k = grows-same t _ refl (λ e. refl) (λ code e. e)
grows_move (WasGivenUp code) t k = grows-same t _ refl (λ e. e) (λ c e. absurd (let l = sym k ∙ e in cc))
grows_move (WasAskedToStop code) t k = grows-same t _ refl (λ e. e) (λ c e. e)
grows_move (WasPermitted limit) t k = grows-if t _ t (takes_data t.reset t.finished) (grows-same t _ refl (λ e. e) (λ c e. e)) (grows-refl t)
grows_move (WasCarried first behind fin) t k = grows-if t _ t _ (grows-same t _ refl (λ e. e) (λ c e. e)) (grows-refl t)
grows_move (WasAcked first behind fin) t k = grows-if t _ t _ (grows-same t _ refl (λ e. e) (λ c e. e)) (grows-refl t)
grows_move (WasLost first behind fin) t k = grows-if t _ t _ (grows-same t _ refl (λ e. e) (λ c e. e)) (grows-refl t)
grows_move WasResetAcked t k = grows-same t _ refl (λ e. e) (λ c e. e)

grows_moved : (o : Option (ℕ × SendMove)) (there : ℕ → Bool) (f : ℕ → SendFlow) (q : ℕ) → CanMove f o → Grows (f q) (send_moved o there q (f q))
grows_moved None there f q k = grows-refl (f q)
grows_moved (Some m) there f q k = by_cases (eqb q m.0)
    (λ e. let P : ℕ → Type 0 = λ i. MayMove m.1 (f i) in
    let at : MayMove m.1 (f q) = subst P (sym (same q m.0 e)) k in
    grows-if (f q) _ (f q) (eqb q m.0 && there q) (grows_move m.1 (f q) at) (grows-refl (f q)))
    (λ n. rw n (grows-refl (f q)))

grows_limits : (l : Option PeerLimits) (side : Side) (q : ℕ) (t t' : SendFlow) → Grows t t' → Grows t (with_first_limits l side q t')
grows_limits None side q t t' g = g
grows_limits (Some limits) side q t t' g = record { more = g.more; cuts = g.cuts; closed = g.closed; finished = g.finished; reset = g.reset }

grows_unsent : (t t' : SendFlow) → Grows t t' → Grows t (flow_unsent t')
grows_unsent t t' g = record { more = g.more; cuts = g.cuts; closed = g.closed; finished = g.finished; reset = g.reset }

-- ---- what a call does may be done

unrefused : (sent : Bool) (room : ℕ) (t : SendFlow) → refusal_told sent room t ≡ None → takes_data t.reset t.finished ≡ true
unrefused false room t e = cc
unrefused true room t e = by_room (room == 0) e
  where
    by_takes : (b : Bool) → (if b then refusal_where t.stopped (room_on t) else Some write_error.ClosedStream) ≡ None → b ≡ true
    by_takes true k = refl
    by_takes false k = cc

    by_room : (b : Bool) → (if b then Some write_error.Blocked else (if takes_data t.reset t.finished then refusal_where t.stopped (room_on t) else Some write_error.ClosedStream)) ≡ None → takes_data t.reset t.finished ≡ true
    by_room true k = cc
    by_room false k = by_takes (takes_data t.reset t.finished) k

none_of : (r : Option ℕ) → is_some r ≡ false → r ≡ None
none_of None e = refl
none_of (Some code) e = cc

module _ (m : Made) (h : List Event) (u v : World) (f : From m h u) where
  -- a half that is held is as is told of its stream
  pub held-told : (id : ℕ) (s : Send) → u.out.halves id ≡ Some s → FlowFrom (flow m h id) s
  held-told id s e = held-flow _ (flow m h id) (has_side_in u.out u.bi.max_remote id) s (u.out.halves id) e (f.sends.flows id)

  can_send : (e : SendEvent) → SendStep u e v → CanMove (flow m h) (send_move_of (Sending e))
  can_send (WroteOwn id lists closed (Ok written)) s =
      let w = f.writes id lists closed s.0 (Ok written) v s.2 s.1 s.3 in
      unrefused (is_sent_on m h id) (min (room_in_connection h) (room_in_window m h)) (flow m h id) w.1
  can_send (WroteOwn id lists closed (Err e)) s = tt
  can_send (ResetOwn id code (Ok x)) s =
      let r = s.2.1 in
      none_of (flow m h id).reset (sym (reset-is (flow m h id) r.0 (held-told id r.0 r.1)) ∙ r.2)
  can_send (ResetOwn id code (Err e)) s = tt
  can_send (RaisedLimit id limit (Ok x)) s = tt
  can_send (RaisedLimit id limit (Err e)) s = tt
  can_send (StoppedOwn id code (Ok x)) s = tt
  can_send (StoppedOwn id code (Err e)) s = tt
  can_send (FinishedOwn id (Ok x)) s =
      let r = s.2 in
      sym (ready-is (flow m h id) r.0 (held-told id r.0 r.1)) ∙ finishable-ready r.0 r.2
  can_send (FinishedOwn id (Err e)) s = tt
  can_send (AckedOwn id offsets fin (Ok x)) s = tt
  can_send (AckedOwn id offsets fin (Err e)) s = tt
  can_send (LostOwn id offsets fin (Ok x)) s = tt
  can_send (LostOwn id offsets fin (Err e)) s = tt
  can_send (ResetAckedOwn id (Ok x)) s = tt
  can_send (ResetAckedOwn id (Err e)) s = tt
  can_send (TookTurn most fair None) s = tt
  can_send (TookTurn most fair (Some frame)) s = tt
  can_send _ s = tt

  pub can-move : (e : Event) → Step u e v → CanMove (flow m h) (send_move_of e)
  can-move (Sending e) s = can_send e s
  can-move _ s = tt

  -- each call lets what is told of a sending side grow
  pub grows : (e : Event) → begins_anew (joint_move_of e) ≡ false → Step u e v → (q : ℕ) → Grows (flow m h q) (flow m (e ∷ h) q)
  grows e plain s q = flow-called (λ t. Grows (flow m h q) t) m e h q plain (λ t g. grows_unsent (flow m h q) t g)
      (grows_limits (limits_in e) m.side q (flow m h q) _ (grows_moved (send_move_of e) _ (flow m h) q (can-move e s)))
