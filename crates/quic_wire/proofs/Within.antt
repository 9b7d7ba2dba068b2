-- What bytes can spell: small numbers, and no more data than there are bytes.
use Rattle.std.proofs.Common.{ℕ, ◌+◌, ◌^◌, ◌<◌, ◌≤◌, Bool, true, false, List, [], ◌∷◌, ◌++◌, length, ap, arith, inl, inr}
use Rattle.std.specs.List.{All}
use Rattle.std.proofs.lemmas.List.{length-append}
use Rattle.std.proofs.lemmas.List.Elements.{All-cons, All-nil}
use Rattle.quic_values.specs.Numbers.{BeginsNumber, SpellsNumber}
use Rattle.quic_wire.specs.declared.frame.Stream.{Stream}
use Rattle.quic_wire.specs.declared.frame.Frame.{Frame}
use Rattle.quic_wire.specs.declared.frame.Frame.TheVariants as frames
use Rattle.quic_wire.specs.Frames.{has_bit, BeginsTwo, BeginsOffset, BeginsContent, BeginsStream, BeginsWith, BeginsFrames, IsFrameWithin}

record LeavesNumber (bytes : List ℕ) (n : ℕ) (rest : List ℕ) : Type 0 where
  small : n < 2 ^ 62
  left : length rest ≤ length bytes

spelled_small : (text : List ℕ) (n : ℕ) → SpellsNumber text n → n < 2 ^ 62
spelled_small text n is = elim is [ inl one ↦ omega (arith, one.0) | inr (inl two) ↦ omega (arith, two.0) | inr (inr (inl four)) ↦ omega (arith, four.0) | inr (inr (inr eight)) ↦ eight.0 ]

number_leaves : (bytes : List ℕ) (n : ℕ) (rest : List ℕ) → BeginsNumber bytes n rest → LeavesNumber bytes n rest
number_leaves bytes n rest is = record { small = spelled_small is.0 n is.1; left = omega (arith, length-append is.0 rest, ap length is.2) }

two_leaves : (bytes : List ℕ) (m n : ℕ) (rest : List ℕ) → BeginsTwo bytes m n rest → (n < 2 ^ 62) × (length rest ≤ length bytes)
two_leaves bytes m n rest is =
    let a = number_leaves bytes m is.0 is.1 in
    let b = number_leaves is.0 n rest is.2 in
    (b.small, omega (arith, a.left, b.left))

offset_leaves : (with_offset : Bool) (bytes : List ℕ) (n : ℕ) (rest : List ℕ) → BeginsOffset with_offset bytes n rest → (n < 2 ^ 62) × (length rest ≤ length bytes)
offset_leaves true bytes n rest is = let h = number_leaves bytes n rest is in (h.small, h.left)
offset_leaves false bytes n rest is = (omega (arith, is.0), omega (arith, ap length is.1))

content_leaves : (with_length : Bool) (bytes xs rest : List ℕ) → BeginsContent with_length bytes xs rest → length xs + length rest ≤ length bytes
content_leaves true bytes xs rest is = let h = number_leaves bytes (length xs) (xs ++ rest) is in omega (arith, h.left, length-append xs rest)
content_leaves false bytes xs rest is = omega (arith, ap length is.0, ap length is.1)

stream_leaves : (kind : ℕ) (bytes : List ℕ) (s : Stream) (rest : List ℕ) → BeginsStream kind bytes s rest → (s.offset < 2 ^ 62) × (length s.bytes + length rest ≤ length bytes)
stream_leaves kind bytes s rest is =
    let a = number_leaves bytes s.id is.3 is.4 in
    let b = offset_leaves (has_bit kind 4) is.3 s.offset is.5 is.6 in
    let c = content_leaves (has_bit kind 2) is.5 s.bytes rest is.7 in
    (b.0, omega (arith, a.left, b.1, c))

record LeavesFrame (bytes : List ℕ) (f : Frame) (rest : List ℕ) : Type 0 where
  within : (len : ℕ) → length bytes ≤ len → IsFrameWithin len f
  left : length rest ≤ length bytes

frame_leaves : (bytes : List ℕ) (f : Frame) (rest : List ℕ) → BeginsWith bytes f rest → LeavesFrame bytes f rest
frame_leaves [] f rest is = absurd is
frame_leaves (kind ∷ bytes) (frames.ResetStream f) rest is =
    let a = number_leaves bytes f.id is.1 is.2 in
    let b = two_leaves is.1 f.error_code f.final_offset rest is.3 in
    record { within = λ len le. tt; left = omega (arith, a.left, b.1) }
frame_leaves (kind ∷ bytes) (frames.StopSending f) rest is = let h = two_leaves bytes f.id f.error_code rest is.1 in record { within = λ len le. tt; left = omega (arith, h.1) }
frame_leaves (kind ∷ bytes) (frames.Stream s) rest is = let h = stream_leaves kind bytes s rest is in record { within = λ len le. (h.0, omega (arith, h.1)); left = omega (arith, h.1) }
frame_leaves (kind ∷ bytes) (frames.MaxData n) rest is = let h = number_leaves bytes n rest is.1 in record { within = λ len le. tt; left = omega (arith, h.left) }
frame_leaves (kind ∷ bytes) (frames.MaxStreamData id n) rest is = let h = two_leaves bytes id n rest is.1 in record { within = λ len le. h.0; left = omega (arith, h.1) }
frame_leaves (kind ∷ bytes) (frames.MaxStreams dir n) rest is = let h = number_leaves bytes n rest is.1 in record { within = λ len le. h.small; left = omega (arith, h.left) }
frame_leaves (kind ∷ bytes) (frames.DataBlocked n) rest is = let h = number_leaves bytes n rest is.1 in record { within = λ len le. h.small; left = omega (arith, h.left) }
frame_leaves (kind ∷ bytes) (frames.StreamDataBlocked id n) rest is = let h = two_leaves bytes id n rest is.1 in record { within = λ len le. h.0; left = omega (arith, h.1) }
frame_leaves (kind ∷ bytes) (frames.Datagram d) rest is = let h = content_leaves (has_bit kind 1) bytes d.bytes rest is.2 in record { within = λ len le. omega (arith, h); left = omega (arith, h) }
frame_leaves (kind ∷ bytes) _ rest is = absurd is

pub all_within : (len : ℕ) (bytes : List ℕ) (fs : List Frame) (rest : List ℕ) → length bytes ≤ len → BeginsFrames bytes fs rest → All (IsFrameWithin len) fs
all_within len bytes [] rest le is = All-nil (IsFrameWithin len)
all_within len bytes (f ∷ fs) rest le is =
    let h = frame_leaves bytes f is.0 is.1 in
    All-cons (IsFrameWithin len) f fs (h.within len le) (all_within len is.0 fs rest (omega (arith, h.left)) is.2)
