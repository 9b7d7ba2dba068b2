-- While a client does nothing but its own doings, it sends nothing on the streams of its peer.
use Rattle.std.proofs.Common.{◌≡◌, ◌⊎◌, ℕ, Bool, true, false, List, [], ◌∷◌, Option, Some, None, is_some, Ok, refl, sym, ap, ◌∙◌, arith, ◌≤◌}
use Rattle.std.specs.Prelude.{◌==◌, ◌&&◌, ◌||◌, is_none, nat_le, nat_lt, if◌then◌else◌}
use Rattle.std.proofs.lemmas.Bool.Decides.{nat_tests}
use Rattle.quic_values.specs.declared.ids.Side.TheVariants.{Client}
use Rattle.quic_ranges.specs.Runs.{is_in}
use Rattle.quic_wire.specs.declared.frame.StreamMeta.{StreamMeta}
use Rattle.quic_sending.specs.declared.send.Send.{Send}
use Rattle.quic_sending.specs.declared.send.SendState.TheVariants.{Ready}
use Rattle.quic_sending.specs.Buffer.{total_length}
use Rattle.quic_flows.specs.Flow.{SendFlow, SendMove, WasWritten, WasFinished, WasGivenUp, WasCarried, WasLost, with_send_move, with_carried, counts_for, front_of, state_told, FlowAt}
use Rattle.quic_outgoing.specs.Senders.{is_local}
use Rattle.quic_history.specs.World.{World, Made}
use Rattle.quic_history.specs.Early.{with_unsent}
use Rattle.quic_history.specs.Flows.{has_send_side, has_side_in, send_moved}
use Rattle.quic_history.specs.SendEvents.{GaveLimits, RaisedLimit, StoppedOwn, WroteOwn, FinishedOwn, ResetOwn, AckedOwn, LostOwn, ResetAckedOwn, TookTurn}
use Rattle.quic_history.specs.History.{Event, Rejected, SentAgain, Sending, Step, From, IsRun, flow, limits_in, opened_in_all, since, send_tale}
use Rattle.quic_history.specs.OwnDoings.{is_own_doing, AreOwnDoings}
use Rattle.quic_history.proofs.Histories.{next}
use Rattle.quic_history.proofs.Beginnings.{begins}
use Rattle.quic_history.proofs.Bare.{mine, not-mine}
use Rattle.quic_link.specs.Endpoints.{LinkedEnd}
use Rattle.quic_link.proofs.Basics.{same_id}
use Rattle.quic_link.proofs.Growth.{held-told}
use Rattle.quic_link.proofs.TrueFrames.{turn-so}
use Rattle.quic_exchange.proofs.OwnDoings.{IsOnOwn, AreOnOwn, DidOwn}

-- nothing was done on a stream, but that its limit may have been raised, and something told as lost
record IsUntouched (t : SendFlow) : Type 0 where
  cuts : t.cuts ≡ []
  finished : t.finished ≡ false
  reset : t.reset ≡ None
  freed : t.freed ≡ false
  carried : (n : ℕ) → t.carried n ≡ false

untouched_if : (b : Bool) (t u : SendFlow) → IsUntouched t → IsUntouched u → IsUntouched (if b then t else u)
untouched_if true t u s k = s
untouched_if false t u s k = k

-- what is done to another stream
elsewhere : (q id : ℕ) → is_local Client id ≡ true → is_local Client q ≡ false → (q == id) ≡ false
elsewhere q id own peer = by (q == id) refl
  where
    by : (b : Bool) → (q == id) ≡ b → b ≡ false
    by true e = let k : is_local Client q ≡ true = ap (is_local Client) (same_id q id e) ∙ own in cc
    by false e = refl

untouched_other : (id q : ℕ) (move : SendMove) (there : ℕ → Bool) (t : SendFlow) → is_local Client id ≡ true → is_local Client q ≡ false → IsUntouched t → IsUntouched (send_moved (Some (id, move)) there q t)
untouched_other id q move there t own peer k = rw (elsewhere q id own peer) k

-- a frame without bytes
none_in : (first behind n : ℕ) → behind ≤ 0 → is_in (first, behind) n ≡ false
none_in first behind n e = by (nat_le first n) (nat_lt n behind) (grind (arith, nat_tests))
  where
    by : (a b : Bool) → b ≡ false → (a && b) ≡ false
    by true b k = k
    by false b k = refl

neither : (a b : Bool) → a ≡ false → b ≡ false → (a || b) ≡ false
neither true b e k = cc
neither false b e k = k

untouched_carried : (first behind : ℕ) (fin : Bool) (t : SendFlow) → behind ≤ 0 → IsUntouched t → IsUntouched (with_send_move (WasCarried first behind fin) t)
untouched_carried first behind fin t none k = untouched_if (is_none t.reset) (with_carried first behind fin t) t
    (record { cuts = k.cuts; finished = k.finished; reset = k.reset; freed = k.freed; carried = λ n. neither (t.carried n) (is_in (first, behind) n) (k.carried n) (none_in first behind n none) }) k

untouched_lost : (first behind : ℕ) (fin : Bool) (t : SendFlow) → IsUntouched t → IsUntouched (with_send_move (WasLost first behind fin) t)
untouched_lost first behind fin t k = untouched_if (counts_for t.reset t.sent_up_to behind) _ t (record { cuts = k.cuts; finished = k.finished; reset = k.reset; freed = k.freed; carried = k.carried }) k

abbrev alone : Made → List Event → World → LinkedEnd
alone m h w = record { made = m; calls = h; world = w; wrote = [] }

module _ (m : Made) (h : List Event) (u v : World) (f : From m h u) (q : ℕ) (peer : is_local Client q ≡ false) (k : IsUntouched (flow m h q)) where
  -- the frame of a turn is of bytes that were written
  turned : (most : ℕ) (fair : Bool) (frame : StreamMeta) → Step u (Sending (TookTurn most fair (Some frame))) v → q ≡ frame.id → frame.offsets.end ≤ 0
  turned most fair frame s e =
      let so = turn-so (alone m h u) most fair frame v s in
      let told = held-told m h u v f frame.id so.half so.held in
      let size = told.cuts.written in
      let within = so.within in
      let none : total_length (flow m h frame.id).cuts ≡ 0 = ap (λ i. total_length (flow m h i).cuts) (sym e) ∙ ap total_length k.cuts in
      omega arith

  carried_by : (most : ℕ) (fair : Bool) (frame : StreamMeta) (there : ℕ → Bool) → Step u (Sending (TookTurn most fair (Some frame))) v → IsUntouched (send_moved (Some (frame.id, WasCarried frame.offsets.start frame.offsets.end frame.fin)) there q (flow m h q))
  carried_by most fair frame there s = by (q == frame.id) refl (there q)
    where
      by : (b : Bool) → (q == frame.id) ≡ b → (c : Bool) → IsUntouched (if b && c then with_send_move (WasCarried frame.offsets.start frame.offsets.end frame.fin) (flow m h q) else flow m h q)
      by true e true = untouched_carried frame.offsets.start frame.offsets.end frame.fin (flow m h q) (turned most fair frame s (same_id q frame.id e)) k
      by true e false = k
      by false e c = k

  -- which streams have a sending side, as the calls tell
  abbrev sides : ℕ → Bool
  sides = has_send_side m.side (opened_in_all (since h)) (send_tale m h).may_open

  untouched_step : (e : Event) → (is_own_doing e ≡ true) ⊎ ((is_some (limits_in e) ≡ true) × (h ≡ [])) → IsOnOwn e → Step u e v → IsUntouched (flow m (e ∷ h) q)
  untouched_step (Sending (GaveLimits limits (Ok x))) own on s = record { cuts = k.cuts; finished = k.finished; reset = k.reset; freed = k.freed; carried = k.carried }
  untouched_step (Sending (RaisedLimit id limit (Ok x))) own on s = not-mine (mine h (Sending (RaisedLimit id limit (Ok x))) refl own)
  untouched_step (Sending (StoppedOwn id code (Ok x))) own on s = not-mine (mine h (Sending (StoppedOwn id code (Ok x))) refl own)
  untouched_step (Sending (AckedOwn id offsets fin (Ok x))) own on s = not-mine (mine h (Sending (AckedOwn id offsets fin (Ok x))) refl own)
  untouched_step (Sending (ResetAckedOwn id (Ok x))) own on s = not-mine (mine h (Sending (ResetAckedOwn id (Ok x))) refl own)
  untouched_step (Sending (WroteOwn id lists closed (Ok written))) own on s = untouched_other id q (WasWritten (front_of written.bytes lists)) sides (flow m h q) on peer k
  untouched_step (Sending (FinishedOwn id (Ok x))) own on s = untouched_other id q WasFinished sides (flow m h q) on peer k
  untouched_step (Sending (ResetOwn id code (Ok x))) own on s = untouched_other id q (WasGivenUp code) sides (flow m h q) on peer k
  untouched_step (Sending (LostOwn id offsets fin (Ok x))) own on s = untouched_if ((q == id) && sides q) _ (flow m h q) (untouched_lost offsets.start offsets.end fin (flow m h q) k) k
  untouched_step (Sending (TookTurn most fair (Some frame))) own on s = carried_by most fair frame sides s
  untouched_step (SentAgain (Ok x)) own on s =
      untouched_if (is_local m.side q) (with_unsent (flow m h q)) (flow m h q)
      (untouched_if (is_none (flow m h q).reset) _ (flow m h q) (record { cuts = k.cuts; finished = k.finished; reset = k.reset; freed = k.freed; carried = λ n. refl }) k) k
  untouched_step Rejected own on s = not-mine (mine h Rejected refl own)
  untouched_step _ own on s = k

-- by the calls one after another
untouched_run : (m : Made) (h : List Event) (w : World) → IsRun m h w → AreOwnDoings h → AreOnOwn h → From m h w × ((q : ℕ) → is_local Client q ≡ false → IsUntouched (flow m h q))
untouched_run m [] w run own on = (begins m w run, λ q peer. record { cuts = refl; finished = refl; reset = refl; freed = refl; carried = λ n. refl })
untouched_run m (e ∷ h) w run own on =
    let before = untouched_run m h run.0 run.1 own.1 on.1 in
    (next m h run.0 e w run.2 before.0 run.3, λ q peer. untouched_step m h run.0 w before.0 q peer (before.1 q peer) e own.0 on.0 run.3)

-- ---- whatever calls it came from

-- a stream that was not given up has nothing that was sent, and was not ended
pub record HasNoneSent (f : SendFlow) : Type 0 where
  pub carried : f.reset ≡ None → (n : ℕ) → f.carried n ≡ false
  pub finished : f.reset ≡ None → f.finished ≡ false

ready_only : (o : Option ℕ) (b acked : Bool) → o ≡ None → state_told o b acked ≡ Ready → b ≡ false
ready_only None true acked e k = cc
ready_only None false acked e k = refl
ready_only (Some code) b acked e k = cc

state_none : (o : Option ℕ) (b acked : Bool) → o ≡ None → b ≡ false → state_told o b acked ≡ Ready
state_none None false acked e k = refl
state_none None true acked e k = cc
state_none (Some code) b acked e k = cc

none_by : (first second : ℕ) (t f : SendFlow) (b : Bool) (o : Option Send) → IsUntouched t → FlowAt first t b o → FlowAt second f b o → HasNoneSent f
none_by first second t f true (Some s) k is at = record {
  carried = λ r n. sym ((at.offsets r).sent n) ∙ (is.offsets k.reset).sent n ∙ k.carried n;
  finished = λ r. ready_only f.reset f.finished f.end_acked r (sym at.state ∙ is.state ∙ state_none t.reset t.finished t.end_acked k.reset k.finished);
}
none_by first second t f true None k is at = let both = sym k.freed ∙ is in cc
none_by first second t f false (Some s) k is at = absurd is
none_by first second t f false None k is at = record { carried = λ r n. ap (λ (g : SendFlow). g.carried n) at; finished = λ r. ap (λ (g : SendFlow). g.finished) at }

-- so is each stream of the peer, by what is told of its half
pub own-unsent : (m : Made) (w : World) → DidOwn m w → (q : ℕ) → is_local Client q ≡ false → (first : ℕ) (f : SendFlow) → FlowAt first f (has_side_in w.out w.bi.max_remote q) (w.out.halves q) → HasNoneSent f
own-unsent m w d q peer first f at =
    let k = untouched_run m d.calls w d.from.run d.own d.on_own in
    none_by _ first (flow m d.calls q) f (has_side_in w.out w.bi.max_remote q) (w.out.halves q) (k.1 q peer) (d.from.sends.flows q) at
