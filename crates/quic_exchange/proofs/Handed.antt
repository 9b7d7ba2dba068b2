-- Each frame of a payload is one that the other endpoint takes.
use Rattle.std.proofs.Common.{◌≡◌, ℕ, Some, None, refl, sym, subst}
use Rattle.std.specs.Prelude.{slice_get}
use Rattle.quic_wire.specs.declared.frame.Datagram.{Datagram}
use Rattle.quic_wire.specs.declared.frame.Frame.{Frame}
use Rattle.quic_wire.specs.declared.frame.Frame.TheVariants as frames
use Rattle.quic_history.specs.World.{World}
use Rattle.quic_link.specs.Endpoints.{LinkedEnd, IsOneOf}
use Rattle.quic_link.specs.Promises.{IsWelcome, Promises}
use Rattle.quic_link.specs.Truths.{IsFrameTrue}
use Rattle.quic_link.proofs.Promised.{promised}
use Rattle.quic_steps.specs.declared.steps.End.{End}
use Rattle.quic_steps.specs.declared.steps.End.TheVariants.{A, B}
use Rattle.quic_exchange.specs.Sent.{Sent}
use Rattle.quic_exchange.specs.Payloads.{IsFrameAt}
use Rattle.quic_exchange.specs.State.{PairState, peer, the_end}
use Rattle.quic_exchange.specs.History.{Past, History, past_of}
use Rattle.quic_exchange.specs.From.{Beginning, PairFrom}
use Rattle.quic_exchange.proofs.Origins.{Origin}
use Rattle.quic_exchange.proofs.Eras.{EraFrom}
use Rattle.quic_exchange.proofs.Joined.{Stands, IsPayloadOf, Joined}
use Rattle.quic_exchange.proofs.Reports.{frame-wrote}
use Rattle.quic_exchange.proofs.Grown.{joined-from}
use Rattle.quic_exchange.proofs.LedSteps.{led-from}
use Rattle.quic_exchange.proofs.Wide.{as_linked, decided-same}

-- a frame at a place of a payload is welcome to the endpoint to which it is handed, and no datagram
abbrev pub IsTakenAt : PairState → Sent → ℕ → Frame → Type 0
IsTakenAt v s index g = IsFrameAt s.text.bytes index g → IsWelcome (the_end v (peer s.writer)).streams g × ((d : Datagram) → g ≡ frames.Datagram d → ⊥)

taken_at : (v : PairState) (s : Sent) (who : End) (x y : LinkedEnd) → s.writer ≡ who → Promises x y → IsPayloadOf x y s → Stands y (the_end v (peer who)) → (index : ℕ) (g : Frame) → IsTakenAt v s index g
taken_at v s who x y e p of there index g at =
    let P : World → Type 0 = λ w. IsWelcome w g in
    let Q : End → Type 0 = λ k. IsWelcome (the_end v (peer k)).streams g in
    let R : Frame → Type 0 = λ k. IsFrameTrue x k in
    let wrote : IsOneOf g x.wrote = frame-wrote x y s of index g at in
    (subst Q (sym e) (subst P there.world (p.welcome g wrote)), λ d is. subst R is (p.frames_true g wrote))

taken_of : (a b : Origin) (p : Past) (v : PairState) → Joined a b p v → (number : ℕ) (s : Sent) → slice_get v.sent number ≡ Some s → (w : End) → s.writer ≡ w → (index : ℕ) (g : Frame) → IsTakenAt v s index g
taken_of a b p v j number s is A e = taken_at v s A j.first j.second e (promised j.seen.linked).0 (j.seen.own number s is e) j.seen.there
taken_of a b p v j number s is B e = taken_at v s B j.second j.first e (promised j.seen.linked).1 (j.seen.others number s is e) j.seen.here

taken-from : {a b : Origin} {h : History} {v : PairState} → EraFrom a b h v → (number : ℕ) (s : Sent) → slice_get v.sent number ≡ Some s → (index : ℕ) (g : Frame) → IsTakenAt v s index g
taken-from {a} {b} {h} {v} f number s is = taken_of a b (past_of h) v (joined-from f) number s is s.writer refl

-- whatever steps led to the pair, once it is decided what becomes of what the client sent early
pub taken-led : {s : Beginning} {h : History} {v : PairState} → PairFrom s h v → v.waits ≡ None → (number : ℕ) (x : Sent) → slice_get v.sent number ≡ Some x → (index : ℕ) (g : Frame) → IsTakenAt v x index g
taken-led {s} {h} {v} f decided =
    let P : PairState → Type 0 = λ u. (n : ℕ) (y : Sent) → slice_get u.sent n ≡ Some y → (index : ℕ) (g : Frame) → IsTakenAt u y index g in
    let l = led-from f in
    let all : P (as_linked s v) = λ n y g. taken-from l.at.era n y g in
    subst P (decided-same s v decided) all
