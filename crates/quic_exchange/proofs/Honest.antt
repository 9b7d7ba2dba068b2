-- What every frame between two ends says is true.
use Rattle.std.proofs.Common.{◌≡◌, ℕ, Bool, true, false, List, [], ◌∷◌, length, ◌≤◌, ◌+◌, Option, Some, None, Ok, Err, refl, sym, ap, ◌∙◌, subst, arith}
use Rattle.std.specs.Prelude.{◌==◌, ◌&&◌, if◌then◌else◌, slice_get}
use Rattle.quic_outgoing.specs.Senders.{is_local}
use Rattle.quic_values.specs.declared.ids.Side.TheVariants.{Client}
use Rattle.quic_receiving.specs.declared.errors.ReadError.TheVariants as read_error
use Rattle.quic_sending.proofs.Cuts.{length-concat}
use Rattle.quic_wire.specs.declared.frame.Frame.{Frame}
use Rattle.quic_wire.specs.declared.frame.Frame.TheVariants as frames
use Rattle.quic_wire.specs.declared.frame.Stream.{Stream}
use Rattle.quic_history.specs.World.{World, remote_of}
use Rattle.quic_history.specs.Early.{begins_anew}
use Rattle.quic_history.specs.History.{Event, Move, Framed, WasReset, WasRead, WasStopped, WasTold, WasAnnounced, Trace, untouched, trace, move_of, moved, with_move, with_kept_frame, is_frame_kept, is_closed, told_still, joint_move_of}
use Rattle.quic_link.specs.Endpoints.{LinkedEnd, sent_on, came_on}
use Rattle.quic_link.specs.Truths.{AreBytesOf, IsFrameTrue, IsTrueData, amount_on}
use Rattle.quic_link.specs.Promises.{Promises}
use Rattle.quic_link.proofs.Promised.{promised}
use Rattle.quic_steps.specs.declared.steps.End.{End}
use Rattle.quic_steps.specs.declared.steps.End.TheVariants.{A, B}
use Rattle.quic_exchange.proofs.Origins.{Origin}
use Rattle.quic_exchange.specs.Sent.{Sent}
use Rattle.quic_exchange.specs.State.{PairState, peer, the_end}
use Rattle.quic_exchange.specs.History.{History, Past, Flow, past_of}
use Rattle.quic_exchange.proofs.Eras.{EraFrom}
use Rattle.quic_exchange.specs.Honest.{AreHonest, IsHonestData, IsHonestFrame, IsHonestPayload, amount_given, greatest_permitted, most_to, most_on}
use Rattle.quic_exchange.proofs.Joined.{Knows, Stands, IsPayloadOf, Joined}
use Rattle.quic_exchange.proofs.Grown.{joined-from}

-- ---- how many bytes were read

abbrev HasRead : Trace → Type 0
HasRead t = t.read ≡ amount_given t.given

read_if : (a b : Trace) (k : Bool) → HasRead a → HasRead b → HasRead (if k then a else b)
read_if a b true g h = g
read_if a b false g h = h

read_move : (m : Move) (t : Trace) → HasRead t → HasRead (with_move m t)
read_move (Framed offset bytes fin answer) t k =
    read_if (with_kept_frame offset bytes fin t) t (is_frame_kept answer) (read_if t _ (is_closed t) k k) k
read_move (WasReset code final) t k = read_if t _ (is_closed t) k k
read_move (WasRead ordered (Ok (Some chunk))) t k = ap (λ n. n + length chunk.bytes) k
read_move (WasRead ordered (Ok None)) t k = k
read_move (WasRead ordered (Err read_error.Blocked)) t k = k
read_move (WasRead ordered (Err (read_error.Reset code))) t k = k
read_move (WasRead ordered (Err read_error.OutOfMemory)) t k = k
read_move WasStopped t k = k
read_move WasTold t k = k
read_move (WasAnnounced limit) t k = k

read_moved : (o : Option (ℕ × Move)) (q : ℕ) (t : Trace) → HasRead t → HasRead (moved o q t)
read_moved None q t k = k
read_moved (Some m) q t k = read_if (with_move m.1 t) t (q == m.0) (read_move m.1 t k) k

-- as many bytes were read as the chunks have that reads gave
read-given : (h : List Event) (q : ℕ) → HasRead (trace h q)
read-given [] q = refl
read-given (e ∷ h) q =
    read_moved (move_of e) q (told_still e q (trace h q)) (read_if untouched (trace h q) (begins_anew (joint_move_of e) && is_local Client q) refl (read-given h q))

-- ---- what may be sent to an end

most-to-least : (v : PairState) (who : End) → (the_end v who).streams.credit.local_max_data ≤ most_to v who
most-to-least v A = omega arith
most-to-least v B = omega arith

most-on-least : (f : Flow) (v : PairState) (who : End) → greatest_permitted f (the_end v who) ≤ most_on f v who
most-on-least f v A = omega arith
most-on-least f v B = omega arith

up_to : (a b c : ℕ) → a ≤ b → b ≤ c → a ≤ c
up_to a b c k l = omega (arith, k, l)

-- ---- frames

module _ (p : Past) (v : PairState) (who : End) (x y : LinkedEnd) (k : Knows p v.sent who x y) (l : Knows p v.sent (peer who) y x)
    (here : Stands x (the_end v who)) (there : Stands y (the_end v (peer who))) (all : Promises x y) (back : Promises y x) where
  amount_known : (q : ℕ) → amount_on x q ≡ length (p.flow who q).written
  amount_known q = sym (length-concat (sent_on x q).cuts) ∙ ap length (k.written q)

  -- what x permits on a stream, and what y does
  permitted_here : (q : ℕ) → (came_on x q).read + x.made.window ≡ greatest_permitted (p.flow (peer who) q) (the_end v who)
  permitted_here q =
      let read : (came_on x q).read ≡ amount_given (p.flow (peer who) q).given = read-given x.calls q ∙ ap amount_given (l.given q) in
      let window : x.made.window ≡ (the_end v who).streams.window = sym all.comes.window ∙ ap (λ (w : World). w.window) here.world in
      omega arith

  permitted_there : (q : ℕ) → (came_on y q).read + y.made.window ≡ greatest_permitted (p.flow who q) (the_end v (peer who))
  permitted_there q =
      let read : (came_on y q).read ≡ amount_given (p.flow who q).given = read-given y.calls q ∙ ap amount_given (k.given q) in
      let window : y.made.window ≡ (the_end v (peer who)).streams.window = sym back.comes.window ∙ ap (λ (w : World). w.window) there.world in
      omega arith

  honest_data : (s : Stream) → IsTrueData x s → IsHonestData (p.flow who s.id) s
  honest_data s t = record {
    bytes = subst (AreBytesOf s.offset s.bytes) (k.written s.id) t.bytes;
    within = subst (λ n. s.offset + length s.bytes ≤ n) (amount_known s.id) t.within;
    finished = λ e. sym (k.finished s.id) ∙ t.finished e;
    ends = λ e. t.ends e ∙ amount_known s.id;
  }

  honest_frame : (g : Frame) → IsFrameTrue x g → IsHonestFrame p v who g
  honest_frame (frames.Stream s) t = honest_data s t
  honest_frame (frames.ResetStream f) t = (k.resets f.id f.error_code t.0, t.1 ∙ amount_known f.id)
  honest_frame (frames.StopSending f) t = l.stops f.id f.error_code t
  honest_frame (frames.MaxData limit) t = subst (λ (w : World). limit ≤ w.credit.local_max_data) here.world t
  honest_frame (frames.MaxStreams dir count) t = subst (λ (w : World). count ≤ (remote_of w dir).max_remote) here.world t
  honest_frame (frames.MaxStreamData id limit) t = subst (λ n. limit ≤ n) (permitted_here id) t.1
  honest_frame (frames.DataBlocked limit) t =
      let enforced = all.limits.all in
      let within : limit ≤ y.world.credit.local_max_data = omega arith in
      up_to limit (the_end v (peer who)).streams.credit.local_max_data (most_to v (peer who)) (subst (λ (w : World). limit ≤ w.credit.local_max_data) there.world within) (most-to-least v (peer who))
  honest_frame (frames.StreamDataBlocked id limit) t =
      let enforced = all.limits.each id in
      let within : limit ≤ (came_on y id).read + y.made.window = omega arith in
      up_to limit (greatest_permitted (p.flow who id) (the_end v (peer who))) (most_on (p.flow who id) v (peer who)) (subst (λ n. limit ≤ n) (permitted_there id) within) (most-on-least (p.flow who id) v (peer who))
  honest_frame _ t = t

  honest_payload : (s : Sent) → s.writer ≡ who → IsPayloadOf x y s → IsHonestPayload p v s
  honest_payload s w of = record {
    all = of.all;
    spelled = of.spelled;
    honest = λ g listed. subst (λ k. IsHonestFrame p v k g) (sym w) (honest_frame g (all.frames_true g (of.wrote g listed)));
  }

honest_of : (a b : Origin) (p : Past) (v : PairState) → Joined a b p v → (s : Sent) (number : ℕ) → slice_get v.sent number ≡ Some s → (w : End) → s.writer ≡ w → IsHonestPayload p v s
honest_of a b p v j s number is A e =
    let told = promised j.seen.linked in
    honest_payload p v A j.first j.second j.seen.sends j.seen.receives j.seen.here j.seen.there told.0 told.1 s e (j.seen.own number s is e)
honest_of a b p v j s number is B e =
    let told = promised j.seen.linked in
    honest_payload p v B j.second j.first j.seen.receives j.seen.sends j.seen.there j.seen.here told.1 told.0 s e (j.seen.others number s is e)

-- whatever the network did, every frame that was ever sent is true
pub honest-from : {a b : Origin} {h : History} {v : PairState} → EraFrom a b h v → AreHonest (past_of h) v
honest-from {a} {b} {h} {v} f = λ number s is. honest_of a b (past_of h) v (joined-from f) s number is s.writer refl
