-- Frames at their places, and the marks with which they are marked.
use Rattle.std.proofs.Common.{◌≡◌, ◌⊎◌, ℕ, List, [], ◌∷◌, Bool, false, Option, Some, None, refl, ap, sym, subst, ◌∙◌, inl, inr, arith, length, ◌≤◌}
use Rattle.std.specs.Prelude.{All, slice_get, replicate}
use Rattle.std.specs.Global.{Vec}
use Rattle.std.proofs.lemmas.Option.{slice_get_within, get_or_from_slice_get}
use Rattle.std.proofs.lemmas.List.{length-replicate}
use Rattle.quic_wire.specs.declared.frame.Frame.{Frame}
use Rattle.quic_wire.specs.declared.frame.Frame.TheVariants as frames
use Rattle.quic_wire.specs.Frames.{AreFrames, IsFrameWithin}
use Rattle.quic_wire.proofs.Joins.{same}
use Rattle.quic_endpoint.specs.Receiving.{data_length}
use Rattle.quic_exchange.specs.Payloads.{AreRead, AreMarks, IsFrameAt, LacksFrame, IsReadyToMark, AreFreshMarks, SentText, AreAllAccepted}

-- what holds of all holds of one
pub all-at : {X : Type 0} (P : X → Type 0) (xs : List X) (n : ℕ) (x : X) → All P xs → slice_get xs n ≡ Some x → P x
all-at P xs n x a h = subst P (get_or_from_slice_get xs n x x h) (a n x (slice_get_within xs n x h))

length-within : (n : ℕ) (f : Frame) → IsFrameWithin n f → data_length f ≤ n
length-within n (frames.Stream s) h = h.1
length-within n _ h = omega arith

module _ (bytes : List ℕ) (all : List Frame) (r : AreRead bytes all) where
  pub length-within-at : (index : ℕ) (f : Frame) → slice_get all index ≡ Some f → data_length f ≤ length bytes
  length-within-at index f h = length-within (length bytes) f (all-at (IsFrameWithin (length bytes)) all index f r.within h)

  pub frame-there : (index : ℕ) (f : Frame) → slice_get all index ≡ Some f → IsFrameAt bytes index f
  frame-there index f h = record { all = all; spelled = r.spelled; at = h }

  pub lacks-past : (index : ℕ) → length all ≤ index → LacksFrame bytes index
  lacks-past index h other s = let e = ap length (same bytes other all s r.spelled) in omega (arith, e, h)

  pub are-marks : (marks : List Bool) → length marks ≡ length all → AreMarks bytes marks
  are-marks marks h other s = let e = ap length (same bytes other all s r.spelled) in omega (arith, e, h)

  pub ready-so : (accepted : List Bool) (index : ℕ) (f : Frame) (marks : Option (Vec Bool)) → slice_get all index ≡ Some f → (accepted ≡ []) ⊎ AreMarks bytes accepted → AreFreshMarks accepted (length all) marks
      → IsReadyToMark (record { bytes = bytes; accepted = accepted }) index marks
  ready-so accepted index f None h (inl e) fresh = let z = ap length e in absurd (omega (arith, z, fresh))
  ready-so accepted index f None h (inr m) fresh = omega (arith, m all r.spelled, slice_get_within all index f h)
  ready-so accepted index f (Some marks) h k fresh =
      let n : length marks.items ≡ length all = ap length fresh.1 ∙ length-replicate (length all) false in
      let w = slice_get_within all index f h in
      (fresh.0, omega (arith, n, w), fresh.1 ∙ ap (λ m. replicate m false) (sym n), are-marks marks.items n)

-- ---- whether every frame was accepted

-- no bytes spell no frames
none_spelled : (all : List Frame) → AreFrames [] all → all ≡ []
none_spelled all spelled = same [] all [] spelled refl

pub empty-list : {X : Type 0} (xs : List X) → length xs ≡ 0 → xs ≡ []
empty-list [] e = refl
empty-list (x ∷ xs) e = absurd (omega (arith, e))

-- a payload without frames may be acknowledged at once
pub empty-accepted : (s : SentText) → s.bytes ≡ [] → AreAllAccepted s
empty-accepted s e all spelled index within =
    let P : List ℕ → Type 0 = λ b. AreFrames b all in
    let z = ap length (none_spelled all (subst P e spelled)) in
    absurd (omega (arith, z, within))
