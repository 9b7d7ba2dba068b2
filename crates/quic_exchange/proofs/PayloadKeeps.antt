-- Calls that change nothing of what the steps tell of an end.
use Rattle.std.proofs.Common.{◌≡◌, ℕ, Bool, true, false, List, [], ◌∷◌, Option, Some, None, Result, Ok, Err, refl, ◌∙◌, inl, inr}
use Rattle.std.specs.Prelude.{◌++◌, ◌==◌, ◌&&◌, ◌||◌, ◌+◌, max, length, if◌then◌else◌}
use Rattle.quic_wire.specs.declared.frame.Frame.{Frame}
use Rattle.quic_wire.specs.declared.frame.Frame.TheVariants as frames
use Rattle.quic_receiving.specs.declared.transmit.ShouldTransmit.{ShouldTransmit}
use Rattle.quic_wire.specs.declared.error.ReceiveError.{ReceiveError}
use Rattle.quic_retransmits.specs.Pending.{Pending}
use Rattle.quic_flows.specs.Flow.{SendFlow, SendMove, WasWritten, WasFinished, WasGivenUp, WasAskedToStop, WasPermitted, WasCarried, WasAcked, WasLost, WasResetAcked, with_send_move}
use Rattle.quic_history.specs.World.{World}
use Rattle.quic_history.specs.Flows.{send_moved, has_send_side}
use Rattle.quic_history.specs.declared.control.ControlKind.{ControlKind}
use Rattle.quic_history.specs.SendEvents.{SendEvent, OpenedOwn, RaisedData, RaisedCount, RaisedLimit, StoppedOwn, AckedOwn, LostOwn, ResetAckedOwn, TookTurn}
use Rattle.quic_history.specs.History.{Event, Received, ReceivedReset, Began, Stopped, LeftPending, Sending, Trace, Framed, WasReset, moved, with_move, with_kept_frame, move_of, is_frame_kept, is_closed, opened_in_all, since, send_tale}
use Rattle.quic_link.specs.Endpoints.{LinkedEnd, Linked, MayAct, acted, written_by, IsOneOf, sent_on, came_on, WasStoppedWith}
use Rattle.quic_link.specs.Promises.{WasReadUnordered}
use Rattle.quic_link.specs.Asked.{AreAsked}
use Rattle.quic_link.proofs.Joint.{agrees}
use Rattle.quic_link.proofs.AskedFor.{asked-acted}
use Rattle.quic_exchange.proofs.KeptFrames.{HearsNothing, IsNoFrame, hears-call}
use Rattle.quic_exchange.proofs.Gives.{GivesNone, GaveNone, gave-none}

-- the sending side of a stream, as far as the steps tell it
pub record SameFlow (a b : SendFlow) : Type 0 where
  pub cuts : a.cuts ≡ b.cuts
  pub finished : a.finished ≡ b.finished
  pub reset : a.reset ≡ b.reset

-- and its receiving side
pub record SameTrace (a b : Trace) : Type 0 where
  pub given : a.given ≡ b.given
  pub ended : a.ended ≡ b.ended

-- x became z by calls that change nothing of these
pub record Keeps (x z : LinkedEnd) : Type 0 where
  pub made : z.made ≡ x.made
  pub given : GaveNone x z
  pub flows : (q : ℕ) → SameFlow (sent_on z q) (sent_on x q)
  pub traces : (q : ℕ) → SameTrace (came_on z q) (came_on x q)
  pub stops : (q code : ℕ) → WasStoppedWith z.calls q code → WasStoppedWith x.calls q code
  pub modes : (q : ℕ) → WasReadUnordered z.calls q → WasReadUnordered x.calls q
  pub calls : (e : Event) → IsOneOf e x.calls → IsOneOf e z.calls
  pub wrote : (g : Frame) → IsOneOf g x.wrote → IsOneOf g z.wrote
  pub asked : (p : Pending) → AreAsked x p → AreAsked z p

pub flow-refl : (t : SendFlow) → SameFlow t t
flow-refl t = record { cuts = refl; finished = refl; reset = refl }

pub trace-refl : (t : Trace) → SameTrace t t
trace-refl t = record { given = refl; ended = refl }

pub keeps-refl : (x : LinkedEnd) → Keeps x x
keeps-refl x = record { made = refl; given = λ id h. h; flows = λ q. flow-refl (sent_on x q); traces = λ q. trace-refl (came_on x q); stops = λ q code h. h; modes = λ q h. h; calls = λ e h. h; wrote = λ g h. h; asked = λ p h. h }

pub keeps-both : (x y z : LinkedEnd) → Keeps x y → Keeps y z → Keeps x z
keeps-both x y z a b = record {
  made = b.made ∙ a.made;
  given = λ id h. a.given id (b.given id h);
  flows = λ q. record { cuts = (b.flows q).cuts ∙ (a.flows q).cuts; finished = (b.flows q).finished ∙ (a.flows q).finished; reset = (b.flows q).reset ∙ (a.flows q).reset };
  traces = λ q. record { given = (b.traces q).given ∙ (a.traces q).given; ended = (b.traces q).ended ∙ (a.traces q).ended };
  stops = λ q code h. a.stops q code (b.stops q code h);
  modes = λ q h. a.modes q (b.modes q h);
  calls = λ e h. b.calls e (a.calls e h);
  wrote = λ g h. b.wrote g (a.wrote g h);
  asked = λ p h. b.asked p (a.asked p h);
}

flow_if : (a b t : SendFlow) (k : Bool) → SameFlow a t → SameFlow b t → SameFlow (if k then a else b) t
flow_if a b t true g h = g
flow_if a b t false g h = h

trace_if : (a b t : Trace) (k : Bool) → SameTrace a t → SameTrace b t → SameTrace (if k then a else b) t
trace_if a b t true g h = g
trace_if a b t false g h = h

pub behind : {X : Type 0} (a : X) (xs ys : List X) → IsOneOf a ys → IsOneOf a (xs ++ ys)
behind a [] ys h = h
behind a (x ∷ xs) ys h = inr (behind a xs ys h)

-- ---- one call

keeps_call : (x y : LinkedEnd) (e : Event) (v : World) → GivesNone e → Linked x y → MayAct x y e v → ((q : ℕ) → SameFlow (sent_on (acted x e v) q) (sent_on x q)) → ((q : ℕ) → SameTrace (came_on (acted x e v) q) (came_on x q))
    → ((q code : ℕ) → Stopped q code (Ok tt) ≡ e → ⊥) → ((q : ℕ) → Began q false (Ok tt) ≡ e → ⊥) → Keeps x (acted x e v)
keeps_call x y e v g l a f t n m = record {
  made = refl;
  given = gave-none x e v g;
  flows = f;
  traces = t;
  stops = λ q code h. elim h [ inl k ↦ absurd (n q code k) | inr k ↦ k ];
  modes = λ q h. elim h [ inl k ↦ absurd (m q k) | inr k ↦ k ];
  calls = λ d h. inr h;
  wrote = λ g h. behind g (written_by x e) x.wrote h;
  asked = λ p h. asked-acted x y e v ((agrees l).0).comes a p h;
}

-- ---- calls on the sending side

-- what is told of the bytes, the end and a reset of a stream stays
abbrev IsQuietMove : SendMove → Type 0
IsQuietMove (WasWritten pieces) = ⊥
IsQuietMove WasFinished = ⊥
IsQuietMove (WasGivenUp code) = ⊥
IsQuietMove _ = Unit {0}

quiet_move : (m : SendMove) (t : SendFlow) → IsQuietMove m → SameFlow (with_send_move m t) t
quiet_move (WasWritten pieces) t k = absurd k
quiet_move WasFinished t k = absurd k
quiet_move (WasGivenUp code) t k = absurd k
quiet_move (WasAskedToStop code) t k = record { cuts = refl; finished = refl; reset = refl }
quiet_move (WasPermitted limit) t k = flow_if _ t t _ (record { cuts = refl; finished = refl; reset = refl }) (flow-refl t)
quiet_move (WasCarried first behind fin) t k = flow_if _ t t _ (record { cuts = refl; finished = refl; reset = refl }) (flow-refl t)
quiet_move (WasAcked first behind fin) t k = flow_if _ t t _ (record { cuts = refl; finished = refl; reset = refl }) (flow-refl t)
quiet_move (WasLost first behind fin) t k = flow_if _ t t _ (record { cuts = refl; finished = refl; reset = refl }) (flow-refl t)
quiet_move WasResetAcked t k = record { cuts = refl; finished = refl; reset = refl }

quiet_moved : (id : ℕ) (m : SendMove) (there : ℕ → Bool) (q : ℕ) (t : SendFlow) → IsQuietMove m → SameFlow (send_moved (Some (id, m)) there q t) t
quiet_moved id m there q t k = flow_if (with_send_move m t) t t ((q == id) && there q) (quiet_move m t k) (flow-refl t)

-- the calls on the sending side that frames of the peer and reports are, and turns of the send queue
abbrev pub IsQuietSend : SendEvent → Type 0
IsQuietSend (RaisedData limit) = Unit {0}
IsQuietSend (RaisedCount dir count answer) = Unit {0}
IsQuietSend (RaisedLimit id limit answer) = Unit {0}
IsQuietSend (StoppedOwn id code answer) = Unit {0}
IsQuietSend (AckedOwn id offsets fin answer) = Unit {0}
IsQuietSend (LostOwn id offsets fin answer) = Unit {0}
IsQuietSend (ResetAckedOwn id answer) = Unit {0}
IsQuietSend (TookTurn most fair frame) = Unit {0}
IsQuietSend _ = ⊥

-- which streams have a sending side, as the calls tell
abbrev sides : LinkedEnd → ℕ → Bool
sides x = has_send_side x.made.side (opened_in_all (since x.calls)) (send_tale x.made x.calls).may_open

quiet_flow : (x : LinkedEnd) (e : SendEvent) (v : World) (q : ℕ) → IsQuietSend e → SameFlow (sent_on (acted x (Sending e) v) q) (sent_on x q)
quiet_flow x (RaisedData limit) v q k = flow-refl (sent_on x q)
quiet_flow x (RaisedCount dir count answer) v q k = flow-refl (sent_on x q)
quiet_flow x (RaisedLimit id limit (Ok u)) v q k = quiet_moved id (WasPermitted limit) (sides x) q (sent_on x q) tt
quiet_flow x (RaisedLimit id limit (Err u)) v q k = flow-refl (sent_on x q)
quiet_flow x (StoppedOwn id code (Ok u)) v q k = quiet_moved id (WasAskedToStop code) (sides x) q (sent_on x q) tt
quiet_flow x (StoppedOwn id code (Err u)) v q k = flow-refl (sent_on x q)
quiet_flow x (AckedOwn id offsets fin (Ok u)) v q k = quiet_moved id (WasAcked offsets.start offsets.end fin) (sides x) q (sent_on x q) tt
quiet_flow x (AckedOwn id offsets fin (Err u)) v q k = flow-refl (sent_on x q)
quiet_flow x (LostOwn id offsets fin (Ok u)) v q k = quiet_moved id (WasLost offsets.start offsets.end fin) (sides x) q (sent_on x q) tt
quiet_flow x (LostOwn id offsets fin (Err u)) v q k = flow-refl (sent_on x q)
quiet_flow x (ResetAckedOwn id (Ok u)) v q k = quiet_moved id WasResetAcked (sides x) q (sent_on x q) tt
quiet_flow x (ResetAckedOwn id (Err u)) v q k = flow-refl (sent_on x q)
quiet_flow x (TookTurn most fair (Some frame)) v q k = quiet_moved frame.id (WasCarried frame.offsets.start frame.offsets.end frame.fin) (sides x) q (sent_on x q) tt
quiet_flow x (TookTurn most fair None) v q k = flow-refl (sent_on x q)
quiet_flow x _ v q k = absurd k

quiet_given : (e : SendEvent) → IsQuietSend e → GivesNone (Sending e)
quiet_given (OpenedOwn dir closed answer) k = absurd k
quiet_given _ k = tt

pub keeps-send : (x y : LinkedEnd) (e : SendEvent) (v : World) → IsQuietSend e → Linked x y → MayAct x y (Sending e) v → Keeps x (acted x (Sending e) v)
keeps-send x y e v k l a = keeps_call x y (Sending e) v (quiet_given e k) l a (λ q. quiet_flow x e v q k) (λ q. trace-refl (came_on x q)) (λ q code h. cc) (λ q h. cc)

pub hears-send : (x : LinkedEnd) (e : SendEvent) (v : World) → IsNoFrame (Sending e) → HearsNothing x (acted x (Sending e) v)
hears-send x e v w = hears-call x (Sending e) v w

-- ---- frames that come

-- a stream on which a frame was kept, and one that was reset
abbrev kept_trace : ℕ → List ℕ → Bool → Trace → Trace
kept_trace offset bytes fin t = record t { high = max t.high (offset + length bytes); sized = t.sized || fin; gone = t.stopped && fin; kept = record { offset = offset; bytes = bytes } ∷ t.kept }

abbrev reset_trace : ℕ → ℕ → Trace → Trace
reset_trace code final t = record t { high = final; sized = true; reset = Some code; gone = t.stopped }

pub keeps-received : (x y : LinkedEnd) (id offset : ℕ) (bytes : List ℕ) (fin : Bool) (answer : Result ShouldTransmit ReceiveError) (v : World) → Linked x y → MayAct x y (Received id offset bytes fin answer) v
    → Keeps x (acted x (Received id offset bytes fin answer) v)
keeps-received x y id offset bytes fin answer v l a = keeps_call x y (Received id offset bytes fin answer) v tt l a (λ q. flow-refl (sent_on x q)) (λ q. came q) (λ q code h. cc) (λ q h. cc)
  where
    framed : (t : Trace) → SameTrace (with_move (Framed offset bytes fin answer) t) t
    framed t = trace_if (with_kept_frame offset bytes fin t) t t (is_frame_kept answer) (trace_if t (kept_trace offset bytes fin t) t (is_closed t) (trace-refl t) (record { given = refl; ended = refl })) (trace-refl t)

    came : (q : ℕ) → SameTrace (moved (Some (id, Framed offset bytes fin answer)) q (came_on x q)) (came_on x q)
    came q = trace_if (with_move (Framed offset bytes fin answer) (came_on x q)) (came_on x q) (came_on x q) (q == id) (framed (came_on x q)) (trace-refl (came_on x q))

pub keeps-reset : (x y : LinkedEnd) (id code final : ℕ) (answer : Result ShouldTransmit ReceiveError) (v : World) → Linked x y → MayAct x y (ReceivedReset id code final answer) v
    → Keeps x (acted x (ReceivedReset id code final answer) v)
keeps-reset x y id code final (Err error) v l a = keeps_call x y (ReceivedReset id code final (Err error)) v tt l a (λ q. flow-refl (sent_on x q)) (λ q. trace-refl (came_on x q)) (λ q code h. cc) (λ q h. cc)
keeps-reset x y id code final (Ok transmit) v l a = keeps_call x y (ReceivedReset id code final (Ok transmit)) v tt l a (λ q. flow-refl (sent_on x q)) (λ q. came q) (λ q code h. cc) (λ q h. cc)
  where
    was_reset : (t : Trace) → SameTrace (with_move (WasReset code final) t) t
    was_reset t = trace_if t (reset_trace code final t) t (is_closed t) (trace-refl t) (record { given = refl; ended = refl })

    came : (q : ℕ) → SameTrace (moved (Some (id, WasReset code final)) q (came_on x q)) (came_on x q)
    came q = trace_if (with_move (WasReset code final) (came_on x q)) (came_on x q) (came_on x q) (q == id) (was_reset (came_on x q)) (trace-refl (came_on x q))

-- ---- entries that are written

settled_trace : (kind : ControlKind) (frame : Option Frame) (q : ℕ) (t : Trace) → SameTrace (moved (move_of (LeftPending kind frame)) q t) t
settled_trace kind None q t = trace-refl t
settled_trace kind (Some (frames.MaxStreamData id limit)) q t = trace_if _ t t (q == id) (record { given = refl; ended = refl }) (trace-refl t)
settled_trace kind (Some _) q t = trace-refl t

pub keeps-settled : (x y : LinkedEnd) (kind : ControlKind) (frame : Option Frame) (v : World) → Linked x y → MayAct x y (LeftPending kind frame) v → Keeps x (acted x (LeftPending kind frame) v)
keeps-settled x y kind frame v l a = keeps_call x y (LeftPending kind frame) v tt l a (λ q. flow-refl (sent_on x q)) (λ q. settled_trace kind frame q (came_on x q)) (λ q code h. cc) (λ q h. cc)

pub hears-settled : (x : LinkedEnd) (kind : ControlKind) (frame : Option Frame) (v : World) → HearsNothing x (acted x (LeftPending kind frame) v)
hears-settled x kind frame v = hears-call x (LeftPending kind frame) v tt
