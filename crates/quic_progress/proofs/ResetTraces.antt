-- A stream of which a reset was taken was reset, or was freed with a final size.
use Rattle.std.proofs.Common.{◌≡◌, ◌⊎◌, ℕ, Bool, true, false, List, [], ◌∷◌, Option, Some, None, is_some, Ok, Err, refl, subst, inl, inr}
use Rattle.std.specs.Prelude.{◌==◌, ◌||◌, if◌then◌else◌}
use Rattle.quic_receiving.specs.declared.errors.ReadError.TheVariants as read_error
use Rattle.quic_receiving.specs.declared.transmit.ShouldTransmit.{ShouldTransmit}
use Rattle.quic_history.specs.World.{World, Made}
use Rattle.quic_history.specs.History.{Event, Move, Framed, WasReset, WasRead, WasStopped, WasTold, WasAnnounced, ReceivedReset, IsRun, Trace, trace, move_of, moved, with_move, with_kept_frame, with_reset, is_frame_kept, is_closed}
use Rattle.quic_history.proofs.Traces.{itself}
use Rattle.quic_link.proofs.Basics.{either_true}
use Rattle.quic_link.proofs.Ends.{ArePlain}
use Rattle.quic_progress.proofs.Traces.{IsSettledSo, gone-settled}
use Rattle.quic_progress.proofs.Heard.{WasResetIn}

abbrev pub IsOverSo : Trace → Type 0
IsOverSo t = (is_some t.reset ≡ true) ⊎ ((t.gone ≡ true) × (t.sized ≡ true))

or_left : (a b : Bool) → a ≡ true → (a || b) ≡ true
or_left true b e = refl
or_left false b e = cc

or_right : (a b : Bool) → b ≡ true → (a || b) ≡ true
or_right true b e = refl
or_right false b e = e

closed_so : (t : Trace) → IsOverSo t → is_closed t ≡ true
closed_so t (inl r) = or_left (is_some t.reset) t.gone r
closed_so t (inr g) = or_right (is_some t.reset) t.gone g.0

over_if : (a b : Trace) (k : Bool) → IsOverSo a → IsOverSo b → IsOverSo (if k then a else b)
over_if a b true g h = g
over_if a b false g h = h

over_gone : (t : Trace) → IsOverSo t → (is_some t.reset ≡ true) ⊎ ((true ≡ true) × (t.sized ≡ true))
over_gone t (inl r) = inl r
over_gone t (inr g) = inr (refl, g.1)

over_stopped : (t : Trace) → IsOverSo t → (is_some t.reset ≡ true) ⊎ ((t.sized ≡ true) × (t.sized ≡ true))
over_stopped t (inl r) = inl r
over_stopped t (inr g) = inr (g.1, g.1)

over_move : (m : Move) (t : Trace) → IsOverSo t → IsOverSo (with_move m t)
over_move (Framed offset bytes fin answer) t s = over_if (with_kept_frame offset bytes fin t) t (is_frame_kept answer) (rw (closed_so t s) s) s
over_move (WasReset code final) t s = rw (closed_so t s) s
over_move (WasRead ordered (Ok (Some chunk))) t s = s
over_move (WasRead ordered (Ok None)) t s = over_gone t s
over_move (WasRead ordered (Err read_error.Blocked)) t s = s
over_move (WasRead ordered (Err (read_error.Reset code))) t s = over_gone t s
over_move (WasRead ordered (Err read_error.OutOfMemory)) t s = s
over_move WasStopped t s = over_stopped t s
over_move WasTold t s = over_gone t s
over_move (WasAnnounced limit) t s = s

over_moved : (o : Option (ℕ × Move)) (q : ℕ) (t : Trace) → IsOverSo t → IsOverSo (moved o q t)
over_moved None q t s = s
over_moved (Some m) q t s = over_if (with_move m.1 t) t (q == m.0) (over_move m.1 t s) s

-- a reset is taken now
reset_now : (code final : ℕ) (t : Trace) → IsSettledSo t → IsOverSo (with_reset code final t)
reset_now code final t k = by (is_closed t) refl
  where
    settled : (t.sized ≡ true) ⊎ (is_some t.reset ≡ true) → t.gone ≡ true → IsOverSo t
    settled (inl sized) g = inr (g, sized)
    settled (inr reset) g = inl reset

    by : (b : Bool) → is_closed t ≡ b → IsOverSo (if b then t else record t { high = final; sized = true; reset = Some code; gone = t.stopped })
    by true e = elim (either_true (is_some t.reset) t.gone e) [ inl r ↦ inl r | inr g ↦ settled (k g) g ]
    by false e = inl refl

taken_now : (q code final : ℕ) (transmit : ShouldTransmit) (t : Trace) → IsSettledSo t → IsOverSo (moved (move_of (ReceivedReset q code final (Ok transmit))) q t)
taken_now q code final transmit t k = rw (itself q) (reset_now code final t k)

pub reset-taken : (m : Made) (h : List Event) (v : World) → IsRun m h v → ArePlain h → (q : ℕ) → WasResetIn h q → IsOverSo (trace h q)
reset-taken m [] v r plain q w = absurd w.3
reset-taken m (e ∷ h) v r plain q w =
    rw (plain.0) (elim w.3 [
      | inl now ↦ (let P : Event → Type 0 = λ j. IsOverSo (moved (move_of j) q (trace h q)) in subst P now (taken_now q w.0 w.1 w.2 (trace h q) (gone-settled m h r.0 r.1 plain.1 q)))
      | inr before ↦ over_moved (move_of e) q (trace h q) (reset-taken m h r.0 r.1 plain.1 q (w.0, w.1, w.2, before))
    ])
