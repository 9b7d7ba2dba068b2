-- Which bytes are a frame (RFC 9000 section 19, RFC 9221 section 4).
use Rattle.std.specs.Prelude.{◌≡◌, ℕ, ◌+◌, ◌^◌, ◌<◌, ◌≤◌, Bool, not, List, [], ◌∷◌, ◌++◌, length, ◌==◌, bit_and, MatchBool}
use Rattle.quic_values.specs.Numbers.{BeginsNumber}
use Rattle.quic_values.specs.Ids.{dir_bit}
use Rattle.quic_wire.specs.declared.frame.Stream.{Stream}
use Rattle.quic_wire.specs.declared.frame.Frame.{Frame}
use Rattle.quic_wire.specs.declared.frame.Frame.TheVariants as frames

-- whether a bit of a type is set
abbrev pub has_bit : ℕ → ℕ → Bool
has_bit kind bit = not (bit_and kind bit == 0)

-- the bytes are two numbers, and then the rest
abbrev pub BeginsTwo : List ℕ → ℕ → ℕ → List ℕ → Type 0
BeginsTwo bytes m n rest = (b : List ℕ) × BeginsNumber bytes m b × BeginsNumber b n rest

-- an offset, where it is written, and else 0
abbrev pub BeginsOffset : Bool → List ℕ → ℕ → List ℕ → Type 0
BeginsOffset with_offset bytes offset rest = MatchBool with_offset (BeginsNumber bytes offset rest) ((offset ≡ 0) × (bytes ≡ rest))

-- their length and the content, or, without a length, the content up to the end
abbrev pub BeginsContent : Bool → List ℕ → List ℕ → List ℕ → Type 0
BeginsContent with_length bytes content rest = MatchBool with_length (BeginsNumber bytes (length content) (content ++ rest)) ((bytes ≡ content) × (rest ≡ []))

-- the fields of a STREAM frame: bit 04 of its type is for an offset, 02 for a length, 01 for FIN
abbrev pub BeginsStream : ℕ → List ℕ → Stream → List ℕ → Type 0
BeginsStream kind bytes s rest =
    (0x08 ≤ kind) × (kind ≤ 0x0f) × (s.fin ≡ has_bit kind 0x01)
    × (b : List ℕ) × BeginsNumber bytes s.id b × (c : List ℕ) × BeginsOffset (has_bit kind 0x04) b s.offset c × BeginsContent (has_bit kind 0x02) c s.bytes rest

-- the fields of a frame of a type, and then the rest
abbrev pub BeginsFields : ℕ → List ℕ → Frame → List ℕ → Type 0
BeginsFields kind bytes (frames.ResetStream f) rest = (kind ≡ 0x04) × (b : List ℕ) × BeginsNumber bytes f.id b × BeginsTwo b f.error_code f.final_offset rest
BeginsFields kind bytes (frames.StopSending f) rest = (kind ≡ 0x05) × BeginsTwo bytes f.id f.error_code rest
BeginsFields kind bytes (frames.Stream s) rest = BeginsStream kind bytes s rest
BeginsFields kind bytes (frames.MaxData n) rest = (kind ≡ 0x10) × BeginsNumber bytes n rest
BeginsFields kind bytes (frames.MaxStreamData id offset) rest = (kind ≡ 0x11) × BeginsTwo bytes id offset rest
BeginsFields kind bytes (frames.MaxStreams dir count) rest = (kind ≡ 0x12 + dir_bit dir) × BeginsNumber bytes count rest
BeginsFields kind bytes (frames.DataBlocked offset) rest = (kind ≡ 0x14) × BeginsNumber bytes offset rest
BeginsFields kind bytes (frames.StreamDataBlocked id offset) rest = (kind ≡ 0x15) × BeginsTwo bytes id offset rest
BeginsFields kind bytes (frames.Datagram d) rest = (0x30 ≤ kind) × (kind ≤ 0x31) × BeginsContent (has_bit kind 0x01) bytes d.bytes rest
BeginsFields kind bytes _ rest = ⊥

-- the bytes are a spelling of the frame, and then the rest
abbrev pub BeginsWith : List ℕ → Frame → List ℕ → Type 0
BeginsWith [] f rest = ⊥
BeginsWith (kind ∷ bytes) f rest = BeginsFields kind bytes f rest

-- the bytes are spellings of the frames, one after the other, and then the rest
abbrev pub BeginsFrames : List ℕ → List Frame → List ℕ → Type 0
BeginsFrames bytes [] rest = bytes ≡ rest
BeginsFrames bytes (f ∷ fs) rest = (b : List ℕ) × BeginsWith bytes f b × BeginsFrames b fs rest

-- the bytes are spellings of the frames, one after the other; only the last can lack a length, since it leaves nothing
abbrev pub AreFrames : List ℕ → List Frame → Type 0
AreFrames bytes fs = BeginsFrames bytes fs []

-- numbers below 2^62, and at most len bytes of data
abbrev pub IsFrameWithin : ℕ → Frame → Type 0
IsFrameWithin len (frames.Stream s) = (s.offset < 2 ^ 62) × (length s.bytes ≤ len)
IsFrameWithin len (frames.MaxStreamData id offset) = offset < 2 ^ 62
IsFrameWithin len (frames.MaxStreams dir count) = count < 2 ^ 62
IsFrameWithin len (frames.DataBlocked offset) = offset < 2 ^ 62
IsFrameWithin len (frames.StreamDataBlocked id offset) = offset < 2 ^ 62
IsFrameWithin len (frames.Datagram d) = length d.bytes ≤ len
IsFrameWithin len _ = Unit {0}
