-- Each frame of a pair to which steps led passes the checks of the session to which it is handed.
use Rattle.std.proofs.Common.{◌≡◌, ℕ, ◌<◌, Bool, true, false, None, refl, arith, nat_le}
use Rattle.std.proofs.lemmas.Bool.Decides.{nat_tests}
use Rattle.std.proofs.Props.{props}
use Rattle.quic_values.specs.declared.ids.Dir.{Dir}
use Rattle.quic_values.specs.declared.ids.Dir.TheVariants.{Bi, Uni}
use Rattle.quic_values.specs.Ids.{dir_of, index_of}
use Rattle.quic_wire.specs.declared.frame.Frame.{Frame}
use Rattle.quic_wire.specs.declared.frame.Frame.TheVariants as frames
use Rattle.quic_history.specs.World.{World, is_own, remote_of}
use Rattle.quic_link.specs.Promises.{IsWelcome, TakesBlocked}
use Rattle.quic_session.specs.Receiving.{direction_refusal, blocked_refusal}
use Rattle.quic_exchange.specs.State.{PairState, peer, the_end}
use Rattle.quic_exchange.proofs.Handed.{taken-led}
use Rattle.quic_pair.specs.declared.ends.Ends.{Ends}
use Rattle.quic_pair.specs.Ends.{AreHonestOnce, AreConsistent}
use Rattle.quic_pair.specs.Reached.{WasReached}

-- STREAM_DATA_BLOCKED that is welcome is checked with no error
blocked-directed : (w : World) (id : ℕ) → TakesBlocked w id → blocked_refusal w id ≡ None
blocked-directed w id t = by (is_own w id) refl (dir_of id) refl
  where
    by : (own : Bool) → is_own w id ≡ own → (dir : Dir) → dir_of id ≡ dir → blocked_refusal w id ≡ None
    by true e Bi d = rw (e, d) refl
    by true e Uni d = let k = t.both_ways e in cc
    by false e dir d =
        let within : index_of id < (remote_of w (dir_of id)).max_remote = t.within e in
        let past : nat_le (remote_of w (dir_of id)).max_remote (index_of id) ≡ false = grind (arith, nat_tests) in
        rw (e, past) refl

pub directed : (w : World) (g : Frame) → IsWelcome w g → direction_refusal w g ≡ None
directed w (frames.StopSending f) h = h
directed w (frames.StreamDataBlocked id limit) h = blocked-directed w id h
directed w _ h = refl

-- so it is with each frame of a pair to which steps led
pub honest-reached : (v : PairState) → WasReached v → AreHonestOnce v
honest-reached v r decided number s is index g at =
    let f = taken-led r.2 decided number s is index g at in
    (directed (the_end v (peer s.writer)).streams g f.0, f.1)

pub honest-once : (v : PairState) → IsProp (AreHonestOnce v)
honest-once v = hlevel props

pub consistent-once : (e : Ends) → IsProp (AreConsistent e)
consistent-once e = hlevel props
