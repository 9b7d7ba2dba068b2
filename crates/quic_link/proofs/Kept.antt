-- Each frame that was kept counts, as long as its stream is neither reset nor freed.
use Rattle.std.proofs.Common.{◌≡◌, ℕ, Bool, true, false, eqb, List, [], ◌∷◌, length, Option, Some, None, is_some, Result, Ok, Err, refl, sym, ◌∙◌, subst, inl, inr, ◌+◌}
use Rattle.std.specs.Prelude.{◌==◌, ◌||◌, if◌then◌else◌}
use Rattle.quic_assembler.specs.Piece.{lies}
use Rattle.quic_wire.specs.declared.frame.Frame.TheVariants as frames
use Rattle.quic_wire.specs.declared.error.ReceiveError.{ReceiveError}
use Rattle.quic_receiving.specs.Data.{is_in_slices}
use Rattle.quic_receiving.specs.declared.transmit.ShouldTransmit.{ShouldTransmit}
use Rattle.quic_receiving.specs.declared.errors.ReadError.TheVariants as read_error
use Rattle.quic_history.specs.World.{World, Made}
use Rattle.quic_history.specs.Early.{begins_anew}
use Rattle.quic_history.specs.History.{Event, Move, Framed, WasReset, WasRead, WasStopped, WasTold, WasAnnounced, Received, ReceivedReset, Stopped, ToldReset, LeftPending, Step, From, Trace, trace, move_of, moved, with_move, with_kept_frame, is_frame_kept, is_closed, joint_move_of}
use Rattle.quic_history.proofs.StreamSteps.{half-from, known-from}
use Rattle.quic_history.proofs.Totals.{by_cases, same}
use Rattle.quic_history.proofs.Traces.{itself}
use Rattle.quic_link.specs.Promises.{KeptAt, EndKept}
use Rattle.quic_link.proofs.Basics.{or_left, or_right}

pub record KeptSo (h : List Event) : Type 0 where
  pub bytes : (q at : ℕ) → KeptAt h q at → is_closed (trace h q) ≡ false → is_in_slices (trace h q).kept at ≡ true
  pub ends : (q : ℕ) → EndKept h q → is_closed (trace h q) ≡ false → (trace h q).sized ≡ true

pub kept-new : KeptSo []
kept-new = record { bytes = λ q at k n. absurd k.is; ends = λ q k n. absurd k.is }

first_of_two : (a b : Bool) → (a || b) ≡ true → b ≡ false → a ≡ true
first_of_two true b e n = refl
first_of_two false b e n = let k = sym e ∙ n in cc

-- a stop is of a stream that was not freed
abbrev StopTrue : Trace → Move → Type 0
StopTrue t WasStopped = t.gone ≡ false
StopTrue t _ = Unit {0}

abbrev StopsTrue : (ℕ → Trace) → Option (ℕ × Move) → Type 0
StopsTrue f None = Unit {0}
StopsTrue f (Some m) = StopTrue (f m.0) m.1

closed_if : (a b : Trace) (k : Bool) → is_closed a ≡ true → is_closed b ≡ true → is_closed (if k then a else b) ≡ true
closed_if a b true g h = g
closed_if a b false g h = h

-- a stream that is closed stays so
closed_move : (m : Move) (t : Trace) → StopTrue t m → is_closed t ≡ true → is_closed (with_move m t) ≡ true
closed_move (Framed offset bytes fin answer) t k c = closed_if (with_kept_frame offset bytes fin t) t (is_frame_kept answer) (rw c c) c
closed_move (WasReset code final) t k c = rw c c
closed_move (WasRead ordered (Ok (Some chunk))) t k c = c
closed_move (WasRead ordered (Ok None)) t k c = or_right (is_some t.reset) true refl
closed_move (WasRead ordered (Err read_error.Blocked)) t k c = c
closed_move (WasRead ordered (Err (read_error.Reset code))) t k c = or_right (is_some t.reset) true refl
closed_move (WasRead ordered (Err read_error.OutOfMemory)) t k c = c
closed_move WasStopped t k c = or_left (is_some t.reset) t.sized (first_of_two (is_some t.reset) t.gone c k)
closed_move WasTold t k c = or_right (is_some t.reset) true refl
closed_move (WasAnnounced limit) t k c = c

closed_moved : (f : ℕ → Trace) (o : Option (ℕ × Move)) (q : ℕ) → StopsTrue f o → is_closed (f q) ≡ true → is_closed (moved o q (f q)) ≡ true
closed_moved f None q k c = c
closed_moved f (Some m) q k c = by_cases (eqb q m.0)
    (λ e. let P : ℕ → Type 0 = λ i. StopTrue (f i) m.1 in
    let at : StopTrue (f q) m.1 = subst P (sym (same q m.0 e)) k in
    closed_if (with_move m.1 (f q)) (f q) (eqb q m.0) (closed_move m.1 (f q) at c) c)
    (λ n. rw n c)

open_before : (f : ℕ → Trace) (o : Option (ℕ × Move)) (q : ℕ) → StopsTrue f o → is_closed (moved o q (f q)) ≡ false → is_closed (f q) ≡ false
open_before f o q k n = by_cases (is_closed (f q)) (λ c. absurd (let e = sym (closed_moved f o q k c) ∙ n in cc)) (λ c. c)

-- what was kept stays so
in_if : (a b : Trace) (k : Bool) (at : ℕ) → is_in_slices a.kept at ≡ true → is_in_slices b.kept at ≡ true → is_in_slices (if k then a else b).kept at ≡ true
in_if a b true at g h = g
in_if a b false at g h = h

in_move : (m : Move) (t : Trace) (at : ℕ) → is_in_slices t.kept at ≡ true → is_in_slices (with_move m t).kept at ≡ true
in_move (Framed offset bytes fin answer) t at k =
    in_if (with_kept_frame offset bytes fin t) t (is_frame_kept answer) at (in_if t _ (is_closed t) at k (or_right (lies offset (offset + length bytes) at) (is_in_slices t.kept at) k)) k
in_move (WasReset code final) t at k = in_if t _ (is_closed t) at k k
in_move (WasRead ordered (Ok (Some chunk))) t at k = k
in_move (WasRead ordered (Ok None)) t at k = k
in_move (WasRead ordered (Err read_error.Blocked)) t at k = k
in_move (WasRead ordered (Err (read_error.Reset code))) t at k = k
in_move (WasRead ordered (Err read_error.OutOfMemory)) t at k = k
in_move WasStopped t at k = k
in_move WasTold t at k = k
in_move (WasAnnounced limit) t at k = k

in_moved : (o : Option (ℕ × Move)) (q : ℕ) (t : Trace) (at : ℕ) → is_in_slices t.kept at ≡ true → is_in_slices (moved o q t).kept at ≡ true
in_moved None q t at k = k
in_moved (Some m) q t at k = in_if (with_move m.1 t) t (q == m.0) at (in_move m.1 t at k) k

sized_if : (a b : Trace) (k : Bool) → a.sized ≡ true → b.sized ≡ true → (if k then a else b).sized ≡ true
sized_if a b true g h = g
sized_if a b false g h = h

sized_move : (m : Move) (t : Trace) → t.sized ≡ true → (with_move m t).sized ≡ true
sized_move (Framed offset bytes fin answer) t k = sized_if (with_kept_frame offset bytes fin t) t (is_frame_kept answer) (sized_if t _ (is_closed t) k (or_left t.sized fin k)) k
sized_move (WasReset code final) t k = sized_if t _ (is_closed t) k refl
sized_move (WasRead ordered (Ok (Some chunk))) t k = k
sized_move (WasRead ordered (Ok None)) t k = k
sized_move (WasRead ordered (Err read_error.Blocked)) t k = k
sized_move (WasRead ordered (Err (read_error.Reset code))) t k = k
sized_move (WasRead ordered (Err read_error.OutOfMemory)) t k = k
sized_move WasStopped t k = k
sized_move WasTold t k = k
sized_move (WasAnnounced limit) t k = k

sized_moved : (o : Option (ℕ × Move)) (q : ℕ) (t : Trace) → t.sized ≡ true → (moved o q t).sized ≡ true
sized_moved None q t k = k
sized_moved (Some m) q t k = sized_if (with_move m.1 t) t (q == m.0) (sized_move m.1 t k) k

-- a frame that is kept now
now_bytes : (q offset : ℕ) (bytes : List ℕ) (fin : Bool) (answer : Result ShouldTransmit ReceiveError) (t : Trace) (at : ℕ) → is_frame_kept answer ≡ true → is_closed t ≡ false → lies offset (offset + length bytes) at ≡ true
    → is_in_slices (moved (move_of (Received q offset bytes fin answer)) q t).kept at ≡ true
now_bytes q offset bytes fin answer t at k n l = rw (itself q, k, n) (or_left (lies offset (offset + length bytes) at) (is_in_slices t.kept at) l)

now_end : (q offset : ℕ) (bytes : List ℕ) (answer : Result ShouldTransmit ReceiveError) (t : Trace) → is_frame_kept answer ≡ true → is_closed t ≡ false → (moved (move_of (Received q offset bytes true answer)) q t).sized ≡ true
now_end q offset bytes answer t k n = rw (itself q, k, n) (or_right t.sized true refl)

module _ (m : Made) (h : List Event) (u : World) (f : From m h u) where
  stops_true : (e : Event) (v : World) → Step u e v → StopsTrue (trace h) (move_of e)
  stops_true (Stopped id code (Ok x)) v s =
      let t = s.2 in
      let told = half-from (trace h) u id t.0 f.facts.streams (known-from (trace h) u id t.0 f.facts.streams t.2) t.2 in
      told.there
  stops_true (Stopped id code (Err error)) v s = tt
  stops_true (ReceivedReset id code final (Ok transmit)) v s = tt
  stops_true (ReceivedReset id code final (Err error)) v s = tt
  stops_true (ToldReset id (Ok (Some code))) v s = tt
  stops_true (ToldReset id (Ok None)) v s = tt
  stops_true (ToldReset id (Err error)) v s = tt
  stops_true (LeftPending kind None) v s = tt
  stops_true (LeftPending kind (Some (frames.MaxStreamData id limit))) v s = tt
  stops_true (LeftPending kind (Some _)) v s = tt
  stops_true _ v s = tt

  pub kept-step : (e : Event) (v : World) → begins_anew (joint_move_of e) ≡ false → Step u e v → KeptSo h → KeptSo (e ∷ h)
  kept-step e v plain s k =
      let t = stops_true e v s in
      record {
        bytes = λ q at b closed. let n = rw plain at closed in rw plain (elim b.is [
          | inl now ↦ (let P : Event → Type 0 = λ j. is_closed (moved (move_of j) q (trace h q)) ≡ false → StopsTrue (trace h) (move_of j) → is_in_slices (moved (move_of j) q (trace h q)).kept at ≡ true in
              subst P now (λ open_now stops. now_bytes q b.offset b.bytes b.fin b.answer (trace h q) at b.kept (open_before (trace h) (move_of (Received q b.offset b.bytes b.fin b.answer)) q stops open_now) b.has) n t)
          | inr old ↦ in_moved (move_of e) q (trace h q) at (k.bytes q at (record { offset = b.offset; bytes = b.bytes; fin = b.fin; answer = b.answer; is = old; kept = b.kept; has = b.has }) (open_before (trace h) (move_of e) q t n))
        ]);
        ends = λ q b closed. let n = rw plain at closed in rw plain (elim b.is [
          | inl now ↦ (let P : Event → Type 0 = λ j. is_closed (moved (move_of j) q (trace h q)) ≡ false → StopsTrue (trace h) (move_of j) → (moved (move_of j) q (trace h q)).sized ≡ true in
              subst P now (λ open_now stops. now_end q b.offset b.bytes b.answer (trace h q) b.kept (open_before (trace h) (move_of (Received q b.offset b.bytes true b.answer)) q stops open_now)) n t)
          | inr old ↦ sized_moved (move_of e) q (trace h q) (k.ends q (record { offset = b.offset; bytes = b.bytes; answer = b.answer; is = old; kept = b.kept }) (open_before (trace h) (move_of e) q t n))
        ]);
      }
