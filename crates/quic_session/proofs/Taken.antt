-- Frames of a payload that were taken from a place on.
use Rattle.std.proofs.Common.{◌≡◌, ℕ, ◌+◌, ◌<◌, ◌≤◌, inl, inr, Bool, true, false, List, [], ◌∷◌, ◌++◌, length, drop, reverse, Result, Ok, Err, refl, sym, ap, ◌∙◌, subst, arith}
use Rattle.std.specs.Prelude.{map}
use Rattle.std.proofs.Math.ListN.{drop_of_length-le}
use Rattle.std.proofs.lemmas.List.{drop-append-le, map-append, length-map, length-drop, length-append, length_push, reverse-append}
use Rattle.std.proofs.lemmas.Bool.{false≢true}
use Rattle.std.specs.Prelude.{All}
use Rattle.std.proofs.Math.ListN.{get_or}
use Rattle.std.proofs.Math.Seq.{get_or-append_seam}
use Rattle.quic_wire.specs.declared.frame.Frame.{Frame}
use Rattle.quic_session.specs.declared.session.Session.{Session}
use Rattle.quic_session.specs.declared.receiving.PayloadError.{PayloadError}
use Rattle.quic_session.specs.Receiving.{FrameCall, TakesFrames, none, more, GoesOnWithCalls, ReceivesFrom, TakesAll, StopsAtRefused}
use Rattle.quic_session.proofs.Traced.{no-calls, more-calls}

-- of the frames so far, those from a place on were taken
pub record Past (size first : ℕ) (s : Session) (seen : List Frame) (t : Session) : Type 0 where
  pub calls : List FrameCall
  pub frames : drop first seen ≡ map (λ c. c.frame) calls
  pub takes : TakesFrames size s calls t
  pub from : GoesOnWithCalls calls s t

pub past-none : (size first : ℕ) (s : Session) → Past size first s [] s
past-none size first s = record { calls = []; frames = drop_of_length-le [] (omega arith); takes = none; from = no-calls s }

abbrev frame_of : FrameCall → Frame
frame_of c = c.frame

drop-below : (first : ℕ) (seen : List Frame) (f : Frame) → length seen < first → drop first (seen ++ f ∷ []) ≡ drop first seen
drop-below first seen f h =
    let longer = length_push seen f in
    drop_of_length-le (seen ++ f ∷ []) (omega (arith, longer)) ∙ sym (drop_of_length-le seen (omega arith))

past-one : (size first : ℕ) (s : Session) (seen : List Frame) (t : Session) (f : Frame) (u : Session)
    → Past size first s seen t → ReceivesFrom (length seen) first t f size (Ok tt) u → Past size first s (seen ++ f ∷ []) u
past-one size first s seen t f u p (inl o) =
    let P : Session → Type 0 = λ x. TakesFrames size s p.calls x in
    record { calls = p.calls; frames = drop-below first seen f o.below ∙ p.frames; takes = subst P (sym o.same) p.takes; from = subst (GoesOnWithCalls p.calls s) (sym o.same) p.from }
past-one size first s seen t f u p (inr o) =
    let call : FrameCall = record { frame = f; answer = o.answer } in
    record {
      calls = p.calls ++ call ∷ [];
      frames = drop-append-le first seen (f ∷ []) o.above ∙ ap (λ l. l ++ f ∷ []) p.frames ∙ sym (map-append frame_of p.calls (call ∷ []));
      takes = more p.takes call o.receives (sym o.answers);
      from = more-calls p.calls (call ∷ []) s t u p.from o.from;
    }

pub past-step : (size first : ℕ) (s : Session) (seen : List Frame) (t : Session) (f : Frame) (u : Session) (at : ℕ) (r : Result (Unit {0}) PayloadError)
    → Past size first s seen t → at ≡ length seen → ((e : PayloadError) → r ≡ Err e → ⊥) → ReceivesFrom at first t f size r u → Past size first s (seen ++ f ∷ []) u
past-step size first s seen t f u at (Ok x) p here fine o = let P : ℕ → Type 0 = λ n. ReceivesFrom n first t f size (Ok tt) u in past-one size first s seen t f u p (subst P here o)
past-step size first s seen t f u at (Err e) p here fine o = absurd (fine e refl)

-- how many were taken
past-count : (size first : ℕ) (s : Session) (seen : List Frame) (t : Session) (p : Past size first s seen t) → first ≤ length seen → length seen ≡ first + length p.calls
past-count size first s seen t p h = omega (arith, ap length p.frames, length-map p.calls frame_of, length-drop first seen)

pub past-all : (size first : ℕ) (s : Session) (seen : List Frame) (t : Session) (at : ℕ) → Past size first s seen t → at ≡ length seen → TakesAll size first seen s (record { next = at; answer = Ok tt }) t
past-all size first s seen t at p here = record { calls = p.calls; frames = p.frames; takes = p.takes; from = p.from; next = here; answer = refl }

-- whether an answer is a refusal
is_error : Result (Unit {0}) PayloadError → Bool
is_error (Ok x) = false
is_error (Err e) = true

no-error : (e : PayloadError) → ◌≡◌ {A = Result (Unit {0}) PayloadError} (Err e) (Ok tt) → ⊥
unfolding is_error
no-error e h = false≢true (sym (ap is_error h))

past-stopped : (size first : ℕ) (s : Session) (seen : List Frame) (t : Session) (f : Frame) (rest : List Frame) (e : PayloadError) (u : Session)
    → Past size first s seen t → ReceivesFrom (length seen) first t f size (Err e) u → StopsAtRefused size first (seen ++ f ∷ rest) s (record { next = length seen; answer = Err e }) u
past-stopped size first s seen t f rest e u p (inl o) = absurd (no-error e o.done)
past-stopped size first s seen t f rest e u p (inr o) = record {
  calls = p.calls;
  between = t;
  takes = p.takes;
  refused = record { frame = f; answer = o.answer };
  rest = rest;
  frames = drop-append-le first seen (f ∷ rest) o.above ∙ ap (λ l. l ++ f ∷ rest) p.frames;
  receives = o.receives;
  from = more-calls p.calls (record { frame = f; answer = o.answer } ∷ []) s t u p.from o.from;
  error = e;
  why = sym o.answers;
  answer = refl;
  next = past-count size first s seen t p o.above;
}

pub past-refused : (size first : ℕ) (s : Session) (all seen : List Frame) (t : Session) (f : Frame) (rest : List Frame) (e : PayloadError) (u : Session) (at : ℕ)
    → Past size first s seen t → at ≡ length seen → all ≡ seen ++ f ∷ rest → ReceivesFrom at first t f size (Err e) u
    → StopsAtRefused size first all s (record { next = at; answer = Err e }) u
past-refused size first s all seen t f rest e u at p here parted o =
    let P : ℕ → Type 0 = λ n. ReceivesFrom n first t f size (Err e) u in
    let Q : ℕ → Type 0 = λ n. StopsAtRefused size first (seen ++ f ∷ rest) s (record { next = n; answer = Err e }) u in
    let R : List Frame → Type 0 = λ l. StopsAtRefused size first l s (record { next = at; answer = Err e }) u in
    subst R (sym parted) (subst Q (sym here) (past-stopped size first s seen t f rest e u p (subst P here o)))

-- of all frames the first ones were handed in, and the others are left, the next one last
pub record Handed (size first : ℕ) (s : Session) (all left : List Frame) (at : ℕ) (t : Session) : Type 0 where
  pub seen : List Frame
  pub past : Past size first s seen t
  pub count : at ≡ length seen
  pub rest : all ≡ seen ++ reverse left

-- what is left begins with the one that is last in the list
pub next-left : (all seen left after : List Frame) (f : Frame) → all ≡ seen ++ reverse left → left ≡ after ++ f ∷ [] → all ≡ seen ++ f ∷ reverse after
next-left all seen left after f parted last = parted ∙ ap (λ l. seen ++ reverse l) last ∙ ap (λ l. seen ++ l) (reverse-append after (f ∷ []))

-- what holds of all holds of the next one
pub holds-of-next : (P : Frame → Type 0) (all seen after : List Frame) (f : Frame) → all ≡ seen ++ f ∷ after → All P all → P f
holds-of-next P all seen after f parted each =
    subst P (ap (λ l. get_or l (length seen) f) parted ∙ get_or-append_seam seen f after f) (each (length seen) f (omega (arith, ap length parted ∙ length-append seen (f ∷ after))))
