-- What calls tell of the streams that an end receives: what was kept lies below the highest offset, a stream that is freed has a final size
-- or was reset, and one that was stopped stays so.
use Rattle.std.proofs.Common.{◌≡◌, ◌⊎◌, ℕ, Bool, true, false, eqb, List, [], ◌∷◌, Option, Some, None, is_some, Ok, Err, refl, sym, ap, ◌∙◌, subst, inl, inr, arith, ◌<◌}
use Rattle.std.specs.Prelude.{◌==◌, ◌||◌, ◌&&◌, if◌then◌else◌}
use Rattle.quic_values.specs.declared.ids.Side.TheVariants.{Client}
use Rattle.quic_receiving.specs.Data.{Carries}
use Rattle.quic_receiving.specs.declared.errors.ReadError.TheVariants as read_error
use Rattle.quic_wire.specs.declared.frame.Frame.TheVariants as frames
use Rattle.quic_outgoing.specs.Senders.{is_local}
use Rattle.quic_history.specs.World.{World, Made}
use Rattle.quic_history.specs.Early.{begins_anew}
use Rattle.quic_history.specs.History.{Event, Move, Framed, WasReset, WasRead, WasStopped, WasTold, WasAnnounced, ReceivedReset, Gave, Stopped, ToldReset, LeftPending, From, IsRun, Step, Trace, untouched, trace, told_still, move_of, moved, with_move, with_kept_frame, is_frame_kept, is_closed, joint_move_of}
use Rattle.quic_history.proofs.StreamSteps.{half-from, known-from}
use Rattle.quic_history.proofs.Totals.{by_cases, same}
use Rattle.quic_history.proofs.Traces.{itself}
use Rattle.quic_link.specs.Endpoints.{WasStoppedWith}
use Rattle.quic_link.proofs.Ends.{ArePlain}
use Rattle.quic_progress.proofs.Reruns.{from-run}

-- ---- what was kept lies below the highest offset

abbrev IsLow : Trace → Type 0
IsLow t = t.reset ≡ None → (at byte : ℕ) → Carries t.kept at byte → at < t.high

low_if : (a b : Trace) (k : Bool) → IsLow a → IsLow b → IsLow (if k then a else b)
low_if a b true g h = g
low_if a b false g h = h

low_framed : (offset : ℕ) (bytes : List ℕ) (fin : Bool) (t : Trace) → IsLow t → IsLow (with_kept_frame offset bytes fin t)
low_framed offset bytes fin t s = low_if t _ (is_closed t) s (λ none at byte k. elim k [
  | inl now ↦ (let l = now.1 in omega (arith, l))
  | inr before ↦ (let l = s none at byte before in omega (arith, l))
])

low_move : (m : Move) (t : Trace) → IsLow t → IsLow (with_move m t)
low_move (Framed offset bytes fin answer) t s = low_if (with_kept_frame offset bytes fin t) t (is_frame_kept answer) (low_framed offset bytes fin t s) s
low_move (WasReset code final) t s = low_if t _ (is_closed t) s (λ none at byte k. cc)
low_move (WasRead ordered (Ok (Some chunk))) t s = s
low_move (WasRead ordered (Ok None)) t s = s
low_move (WasRead ordered (Err read_error.Blocked)) t s = s
low_move (WasRead ordered (Err (read_error.Reset code))) t s = s
low_move (WasRead ordered (Err read_error.OutOfMemory)) t s = s
low_move WasStopped t s = s
low_move WasTold t s = s
low_move (WasAnnounced limit) t s = s

low_moved : (o : Option (ℕ × Move)) (q : ℕ) (t : Trace) → IsLow t → IsLow (moved o q t)
low_moved None q t s = s
low_moved (Some m) q t s = low_if (with_move m.1 t) t (q == m.0) (low_move m.1 t s) s

low_still : (e : Event) (q : ℕ) (t : Trace) → IsLow t → IsLow (told_still e q t)
low_still e q t s = low_if untouched t (begins_anew (joint_move_of e) && is_local Client q) (λ none at byte k. absurd k) s

pub kept-low : (h : List Event) (q : ℕ) → IsLow (trace h q)
kept-low [] q = λ none at byte k. absurd k
kept-low (e ∷ h) q = low_moved (move_of e) q (told_still e q (trace h q)) (low_still e q (trace h q) (kept-low h q))

-- ---- one that was stopped stays so

stopped_if : (a b : Trace) (k : Bool) → a.stopped ≡ true → b.stopped ≡ true → (if k then a else b).stopped ≡ true
stopped_if a b true g h = g
stopped_if a b false g h = h

stopped_move : (m : Move) (t : Trace) → t.stopped ≡ true → (with_move m t).stopped ≡ true
stopped_move (Framed offset bytes fin answer) t s = stopped_if (with_kept_frame offset bytes fin t) t (is_frame_kept answer) (stopped_if t _ (is_closed t) s s) s
stopped_move (WasReset code final) t s = stopped_if t _ (is_closed t) s s
stopped_move (WasRead ordered (Ok (Some chunk))) t s = s
stopped_move (WasRead ordered (Ok None)) t s = s
stopped_move (WasRead ordered (Err read_error.Blocked)) t s = s
stopped_move (WasRead ordered (Err (read_error.Reset code))) t s = s
stopped_move (WasRead ordered (Err read_error.OutOfMemory)) t s = s
stopped_move WasStopped t s = refl
stopped_move WasTold t s = s
stopped_move (WasAnnounced limit) t s = s

stopped_moved : (o : Option (ℕ × Move)) (q : ℕ) (t : Trace) → t.stopped ≡ true → (moved o q t).stopped ≡ true
stopped_moved None q t s = s
stopped_moved (Some m) q t s = stopped_if (with_move m.1 t) t (q == m.0) (stopped_move m.1 t s) s

stopped_now : (q code : ℕ) (t : Trace) → (moved (move_of (Stopped q code (Ok tt))) q t).stopped ≡ true
stopped_now q code t = rw (itself q) refl

pub stopped-still : (h : List Event) (q code : ℕ) → ArePlain h → WasStoppedWith h q code → (trace h q).stopped ≡ true
stopped-still [] q code plain i = absurd i
stopped-still (e ∷ h) q code plain i =
    rw (plain.0) (elim i [
      | inl now ↦ (let P : Event → Type 0 = λ j. (moved (move_of j) q (trace h q)).stopped ≡ true in subst P now (stopped_now q code (trace h q)))
      | inr before ↦ stopped_moved (move_of e) q (trace h q) (stopped-still h q code plain.1 before)
    ])

-- ---- what is freed has a final size, or was reset

abbrev pub IsSettledSo : Trace → Type 0
IsSettledSo t = t.gone ≡ true → (t.sized ≡ true) ⊎ (is_some t.reset ≡ true)

-- what a read told of it
abbrev EndsIt : Trace → Move → Type 0
EndsIt t (WasRead ordered (Ok None)) = t.sized ≡ true
EndsIt t (WasRead ordered (Err (read_error.Reset code))) = is_some t.reset ≡ true
EndsIt t WasTold = is_some t.reset ≡ true
EndsIt t _ = Unit {0}

abbrev EndsOne : (ℕ → Trace) → Option (ℕ × Move) → Type 0
EndsOne f None = Unit {0}
EndsOne f (Some m) = EndsIt (f m.0) m.1

both : (a b : Bool) → (a && b) ≡ true → b ≡ true
both true b k = k
both false b k = cc

or_right : (a b : Bool) → b ≡ true → (a || b) ≡ true
or_right true b e = refl
or_right false b e = e

settled_if : (a b : Trace) (k : Bool) → IsSettledSo a → IsSettledSo b → IsSettledSo (if k then a else b)
settled_if a b true g h = g
settled_if a b false g h = h

settled_move : (m : Move) (t : Trace) → EndsIt t m → IsSettledSo t → IsSettledSo (with_move m t)
settled_move (Framed offset bytes fin answer) t k s = settled_if (with_kept_frame offset bytes fin t) t (is_frame_kept answer) (settled_if t _ (is_closed t) s (λ g. inl (or_right t.sized fin (both t.stopped fin g)))) s
settled_move (WasReset code final) t k s = settled_if t _ (is_closed t) s (λ g. inl refl)
settled_move (WasRead ordered (Ok (Some chunk))) t k s = s
settled_move (WasRead ordered (Ok None)) t k s = λ g. inl k
settled_move (WasRead ordered (Err read_error.Blocked)) t k s = s
settled_move (WasRead ordered (Err (read_error.Reset code))) t k s = λ g. inr k
settled_move (WasRead ordered (Err read_error.OutOfMemory)) t k s = s
settled_move WasStopped t k s = λ g. inl g
settled_move WasTold t k s = λ g. inr k
settled_move (WasAnnounced limit) t k s = s

settled_moved : (f : ℕ → Trace) (o : Option (ℕ × Move)) (q : ℕ) → EndsOne f o → IsSettledSo (f q) → IsSettledSo (moved o q (f q))
settled_moved f None q k s = s
settled_moved f (Some m) q k s = by_cases (eqb q m.0)
    (λ t. let P : ℕ → Type 0 = λ i. EndsIt (f i) m.1 in
    let at : EndsIt (f q) m.1 = subst P (sym (same q m.0 t)) k in
    settled_if (with_move m.1 (f q)) (f q) (eqb q m.0) (settled_move m.1 (f q) at s) s)
    (λ n. rw n s)

module _ (m : Made) (h : List Event) (u : World) (f : From m h u) where
  ended_sized : (id most : ℕ) (ordered : Bool) (v : World) → From m (Gave id most ordered (Ok None) ∷ h) v → (trace h id).sized ≡ true
  ended_sized id most ordered v g =
      let e : (trace (Gave id most ordered (Ok None) ∷ h) id).ended ≡ true = rw (itself id) refl in
      let k : (trace (Gave id most ordered (Ok None) ∷ h) id).sized ≡ (trace h id).sized = rw (itself id) refl in
      sym k ∙ (g.ends id).sized e

  ends_one : (e : Event) (v : World) → Step u e v → From m (e ∷ h) v → EndsOne (trace h) (move_of e)
  ends_one (Gave id most ordered (Ok None)) v s g = ended_sized id most ordered v g
  ends_one (Gave id most ordered (Ok (Some chunk))) v s g = tt
  ends_one (Gave id most ordered (Err read_error.Blocked)) v s g = tt
  ends_one (Gave id most ordered (Err (read_error.Reset code))) v s g =
      let told = half-from (trace h) u id s.old f.facts.streams (known-from (trace h) u id s.old f.facts.streams s.half) s.half in
      ap (λ (o : Option ℕ). is_some o) (sym told.reset ∙ s.reads.0)
  ends_one (Gave id most ordered (Err read_error.OutOfMemory)) v s g = tt
  ends_one (ReceivedReset id code final (Ok transmit)) v s g = tt
  ends_one (ReceivedReset id code final (Err error)) v s g = tt
  ends_one (Stopped id code (Ok x)) v s g = tt
  ends_one (Stopped id code (Err error)) v s g = tt
  ends_one (ToldReset id (Ok (Some code))) v s g =
      let t = s.2 in
      let told = half-from (trace h) u id t.0 f.facts.streams (known-from (trace h) u id t.0 f.facts.streams t.1) t.1 in
      ap (λ (o : Option ℕ). is_some o) (sym told.reset ∙ t.3)
  ends_one (ToldReset id (Ok None)) v s g = tt
  ends_one (ToldReset id (Err error)) v s g = tt
  ends_one (LeftPending kind None) v s g = tt
  ends_one (LeftPending kind (Some (frames.MaxStreamData id limit))) v s g = tt
  ends_one (LeftPending kind (Some _)) v s g = tt
  ends_one _ v s g = tt

pub gone-settled : (m : Made) (h : List Event) (v : World) → IsRun m h v → ArePlain h → (q : ℕ) → IsSettledSo (trace h q)
gone-settled m [] v r plain q = λ g. cc
gone-settled m (e ∷ h) v r plain q =
    let k = ends_one m h r.0 (from-run m h r.0 r.1) e v r.3 (from-run m (e ∷ h) v r) in
    rw (plain.0) (settled_moved (trace h) (move_of e) q k (gone-settled m h r.0 r.1 plain.1 q))
