-- Frames one after the other.
use Rattle.std.proofs.Common.{◌≡◌, ℕ, ◌<◌, List, [], ◌∷◌, ◌++◌, length, Some, None, refl, sym, ap, ◌∙◌, arith}
use Rattle.quic_wire.specs.declared.frame.Frame.{Frame}
use Rattle.quic_wire.specs.declared.frame.DecodeError.{DecodeError}
use Rattle.quic_wire.specs.declared.frame.DecodeError.TheVariants as errors
use Rattle.quic_wire.specs.Frames.{BeginsFrames, AreFrames}
use Rattle.quic_wire.specs.Reading.{frame_at, Fails}
use Rattle.quic_wire.proofs.Steps.{some_is}
use Rattle.quic_wire.proofs.Read.{frame_begins}

-- after a frame was read, the frames that bytes are begin with it
pub first_is : (bytes : List ℕ) (f : Frame) (after : List ℕ) (fs : List Frame) → frame_at bytes ≡ Some (f, after) → 0 < length bytes → AreFrames bytes fs → (gs : List Frame) × (fs ≡ f ∷ gs) × AreFrames after gs
first_is bytes f after [] e some is = absurd (omega (arith, ap length is))
first_is bytes f after (g ∷ gs) e some is =
    let same = some_is (g, is.0) (f, after) (sym (frame_begins bytes g is.0 is.1) ∙ e) in
    let f-is : g ≡ f = ap (λ (p : Frame × List ℕ). p.0) same in
    let after-is : is.0 ≡ after = ap (λ (p : Frame × List ℕ). p.1) same in
    (gs, ap (λ h. h ∷ gs) f-is, rw after-is at is.2)

-- what cannot be read begins no frames
pub none_begins : (bytes : List ℕ) (fs : List Frame) → frame_at bytes ≡ None → 0 < length bytes → AreFrames bytes fs → ⊥
none_begins bytes [] e some is = omega (arith, ap length is)
none_begins bytes (g ∷ gs) e some is = let h = frame_begins bytes g is.0 is.1 in cc

pub fails_then : (d : DecodeError) (bytes : List ℕ) (fs gs : List Frame) → Fails d (frame_at bytes) → 0 < length bytes → AreFrames bytes gs → Fails d (Some fs)
fails_then errors.OutOfMemory bytes fs gs h some is = tt
fails_then errors.Malformed bytes fs gs h some is = absurd (none_begins bytes gs h some is)

pub join : (a b c : List ℕ) (fs gs : List Frame) → BeginsFrames a fs b → BeginsFrames b gs c → BeginsFrames a (fs ++ gs) c
join a b c [] gs first second = rw first second
join a b c (f ∷ fs) gs first second = (first.0, first.1, join first.0 b c fs gs first.2 second)

no_empty : (f : Frame) (fs : List Frame) → AreFrames [] (f ∷ fs) → ⊥
no_empty f fs is = is.1

pub same : (bytes : List ℕ) (fs gs : List Frame) → AreFrames bytes fs → AreFrames bytes gs → fs ≡ gs
same bytes [] [] first second = refl
same bytes [] (g ∷ gs) first second = absurd (no_empty g gs (rw first at second))
same bytes (f ∷ fs) [] first second = absurd (no_empty f fs (rw second at first))
same bytes (f ∷ fs) (g ∷ gs) first second =
    let is = some_is (f, first.0) (g, second.0) (sym (frame_begins bytes f first.0 first.1) ∙ frame_begins bytes g second.0 second.1) in
    let f-is : f ≡ g = ap (λ (p : Frame × List ℕ). p.0) is in
    let rest-is : first.0 ≡ second.0 = ap (λ (p : Frame × List ℕ). p.1) is in
    let tails = same second.0 fs gs (rw rest-is at first.2) second.2 in
    cc
