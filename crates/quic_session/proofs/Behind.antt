-- Runs of frames in a payload.
use Rattle.std.proofs.Common.{◌≡◌, ℕ, ◌-◌, ◌<◌, ◌≤◌, ◌^◌, Bool, true, false, ◌||◌, leb, List, [], ◌∷◌, ◌++◌, length, drop, Option, Some, None, refl, sym, ap, subst, ◌∙◌, arith, inl, inr, append_assoc}
use Rattle.std.specs.Prelude.{slice_index_or}
use Rattle.std.proofs.lemmas.Bool.{and_parts, leb-true}
use Rattle.std.proofs.lemmas.List.{append-nil}
use Rattle.quic_wire.specs.declared.frame.Frame.{Frame}
use Rattle.quic_wire.specs.Frames.{BeginsWith, BeginsFrames}
use Rattle.quic_wire.specs.Reading.{AreLast, number_at, frame_at}
use Rattle.quic_wire.proofs.Steps.{IsBytes, IsBytes-rest, some_is}
use Rattle.quic_wire.proofs.Numbers.{number_begins, number_takes}
use Rattle.quic_wire.proofs.Read.{frame_begins}
use Rattle.quic_wire.proofs.Joins.{join}
use Rattle.quic_wire.proofs.Whole.{dropped_behind}
use Rattle.quic_session.specs.Runs.{is_own_type, is_skipped_type, begins_with, BeginsSkipped, BeginsRun, bytes_behind}

or-right : (a b : Bool) → (a || b) ≡ true → a ≡ false → b ≡ true
or-right true b h e = absurd cc
or-right false b h e = h

above-one : (kind : ℕ) → 1 < kind → leb kind 1 ≡ false
above-one kind h = cases (leb kind 1) refl
  where
    cases : (b : Bool) → leb kind 1 ≡ b → b ≡ false
    cases true e = absurd (omega (arith, leb-true kind 1 e, h))
    cases false e = refl

-- a skipped frame of a type above 1 has a count
pub skipped-count : (bytes rest : List ℕ) → 1 < slice_index_or bytes 0 0 → BeginsSkipped bytes rest → (n : ℕ) × (number_at (drop 1 bytes) ≡ Some (n, rest)) × (n ≤ 2 ^ 60)
skipped-count [] rest above h = absurd h
skipped-count (kind ∷ fields) rest above (inl h) = absurd (omega (arith, above, h.0))
skipped-count (kind ∷ fields) rest above (inr h) = (h.2, number_begins fields h.2 rest h.3, h.4)

-- what was read of such a frame is one
pub skipped-is : (bytes rest : List ℕ) (n : ℕ) → IsBytes bytes → 1 < slice_index_or bytes 0 0 → begins_with is_skipped_type bytes ≡ true → number_at (drop 1 bytes) ≡ Some (n, rest) → n ≤ 2 ^ 60 → BeginsSkipped bytes rest
skipped-is [] rest n fits above is e small = absurd (omega (arith, above))
skipped-is (kind ∷ fields) rest n fits above is e small =
    let h = or-right _ _ is (above-one kind above) in
    let p = and_parts (leb 22 kind) (leb kind 23) h in
    let t = number_takes fields n rest (IsBytes-rest kind fields fits) e in
    inr (leb-true 22 kind p.0, leb-true kind 23 p.1, n, t.begins, small)

-- a frame stands before the bytes behind it
pub frame-before : (bytes rest : List ℕ) → bytes_behind (frame_at bytes) ≡ Some rest → (f : Frame) × (frame_at bytes ≡ Some (f, rest))
frame-before bytes rest e = cases (frame_at bytes) refl e
  where
    cases : (o : Option (Frame × List ℕ)) → frame_at bytes ≡ o → bytes_behind o ≡ Some rest → (f : Frame) × (frame_at bytes ≡ Some (f, rest))
    cases None h e = absurd cc
    cases (Some x) h e = (x.0, h ∙ ap (λ (r : List ℕ). Some (x.0, r)) (some_is x.1 rest e))

pub none-before : (bytes : List ℕ) → bytes_behind (frame_at bytes) ≡ None → frame_at bytes ≡ None
none-before bytes e = cases (frame_at bytes) refl e
  where
    cases : (o : Option (Frame × List ℕ)) → frame_at bytes ≡ o → bytes_behind o ≡ None → frame_at bytes ≡ None
    cases None h e = h
    cases (Some x) h e = absurd cc

-- one more frame of a run
pub one-more : (bytes b c : List ℕ) (fs : List Frame) (f : Frame) → BeginsFrames bytes fs b → BeginsWith b f c → BeginsFrames bytes (fs ++ f ∷ []) c
one-more bytes b c fs f found begins = join bytes b c fs (f ∷ []) found (c, begins, refl)

-- a run that stands here goes on behind the first frame
pub run-behind : (bytes rest after : List ℕ) (f : Frame) (fs : List Frame) → begins_with is_own_type bytes ≡ true → frame_at bytes ≡ Some (f, after) → BeginsRun bytes fs rest → (gs : List Frame) × BeginsRun after gs rest
run-behind bytes rest after f [] own e run = absurd (let a = ap (begins_with is_own_type) run.0 in let b = run.1 in cc)
run-behind bytes rest after f (g ∷ gs) own e run =
    let is = some_is (g, run.0.0) (f, after) (sym (frame_begins bytes g run.0.0 run.0.1) ∙ e) in
    let behind : run.0.0 ≡ after = ap (λ (p : Frame × List ℕ). p.1) is in
    (gs, (subst (λ b. BeginsFrames b gs rest) behind run.0.2, run.1))

-- where no frame can be read, no run stands
pub no-run : (bytes rest : List ℕ) (fs : List Frame) → begins_with is_own_type bytes ≡ true → frame_at bytes ≡ None → BeginsRun bytes fs rest → ⊥
no-run bytes rest [] own e run = let a = ap (begins_with is_own_type) run.0 in let b = run.1 in absurd cc
no-run bytes rest (g ∷ gs) own e run = let h = frame_begins bytes g run.0.0 run.0.1 in absurd cc

-- the last bytes are those behind as many as are before them
pub last-behind : (rest bytes : List ℕ) → AreLast rest bytes → drop (length bytes - length rest) bytes ≡ rest
last-behind rest bytes h = ap (λ k. drop k bytes) (omega arith) ∙ dropped_behind rest bytes 0 h

-- frames that bytes begin with, divided where some are left
pub record Divided (bytes : List ℕ) (fs gs : List Frame) (rest : List ℕ) (left : ℕ) (here : List ℕ) : Type 0 where
  pub front : List Frame
  pub back : List Frame
  pub all : fs ≡ front ++ back
  pub count : length back ≡ left
  pub before : BeginsFrames bytes front here
  pub behind : BeginsFrames here (back ++ gs) rest

-- what was read was read
pub some-not-none : {A : Type 0} (o : Option A) (x : A) → o ≡ Some x → o ≡ None → ⊥
some-not-none o x e h = absurd cc

pub same-count : (o : Option (ℕ × List ℕ)) (m n : ℕ) (b c : List ℕ) → o ≡ Some (m, b) → o ≡ Some (n, c) → m ≡ n
same-count o m n b c e h = ap (λ (p : ℕ × List ℕ). p.0) (some_is (m, b) (n, c) (sym e ∙ h))

-- one more frame is passed over
pub passed : (bytes here after : List ℕ) (f : Frame) (fs gs : List Frame) (rest : List ℕ) (left : ℕ) → 0 < left → frame_at here ≡ Some (f, after) → Divided bytes fs gs rest left here → Divided bytes fs gs rest (left - 1) after
passed bytes here after f fs gs rest left some e d = by-back d.back d.count d.all d.behind
  where
    by-back : (back : List Frame) → length back ≡ left → fs ≡ d.front ++ back → BeginsFrames here (back ++ gs) rest → Divided bytes fs gs rest (left - 1) after
    by-back [] count all behind = absurd (omega (arith, count, some))
    by-back (g ∷ back) count all behind =
        let is = some_is (g, behind.0) (f, after) (sym (frame_begins here g behind.0 behind.1) ∙ e) in
        let next : behind.0 ≡ after = ap (λ (p : Frame × List ℕ). p.1) is in
        record {
          front = d.front ++ g ∷ [];
          back = back;
          all = all ∙ sym (append_assoc d.front (g ∷ []) back);
          count = omega (arith, count);
          before = one-more bytes here after d.front g d.before (subst (λ b. BeginsWith here g b) next behind.1);
          behind = subst (λ b. BeginsFrames b (back ++ gs) rest) next behind.2;
        }

-- while some are left a frame can be read
pub none-left : (bytes here : List ℕ) (fs gs : List Frame) (rest : List ℕ) (left : ℕ) → frame_at here ≡ None → Divided bytes fs gs rest left here → left ≡ 0
none-left bytes here fs gs rest left e d = by-back d.back d.count d.behind
  where
    by-back : (back : List Frame) → length back ≡ left → BeginsFrames here (back ++ gs) rest → left ≡ 0
    by-back [] count behind = omega (arith, count)
    by-back (g ∷ back) count behind = let h = frame_begins here g behind.0 behind.1 in absurd cc

-- where none is left the frames are divided here
pub divided-here : (bytes here : List ℕ) (fs gs : List Frame) (rest : List ℕ) (left : ℕ) → left ≡ 0 → Divided bytes fs gs rest left here → BeginsFrames bytes fs here × BeginsFrames here gs rest
divided-here bytes here fs gs rest left none d = by-back d.back d.count d.all d.behind
  where
    by-back : (back : List Frame) → length back ≡ left → fs ≡ d.front ++ back → BeginsFrames here (back ++ gs) rest → BeginsFrames bytes fs here × BeginsFrames here gs rest
    by-back [] count all behind = (subst (λ l. BeginsFrames bytes l here) (sym (all ∙ append-nil d.front)) d.before, behind)
    by-back (g ∷ back) count all behind = absurd (omega (arith, count, none))

-- at first all are left
pub all-left : (bytes : List ℕ) (fs gs : List Frame) (rest : List ℕ) (n : ℕ) → length fs ≡ n → BeginsFrames bytes (fs ++ gs) rest → Divided bytes fs gs rest n bytes
all-left bytes fs gs rest n long behind = record { front = []; back = fs; all = refl; count = long; before = refl; behind = behind }
