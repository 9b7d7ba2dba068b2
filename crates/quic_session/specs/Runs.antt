-- Payloads in which frames of the library stand between other frames (RFC 9000 section 12.4).
use Rattle.std.specs.Prelude.{ℕ, Bool, ◌≡◌, ◌⊎◌, ◌||◌, ◌&&◌, ◌<◌, ◌≤◌, ◌^◌, not, true, false, nat_le, List, [], ◌∷◌, length, drop, Option, Some, None}
use Rattle.quic_values.specs.Numbers.{BeginsNumber}
use Rattle.quic_wire.specs.declared.frame.Frame.{Frame}
use Rattle.quic_wire.specs.Frames.{BeginsFrames}
use Rattle.quic_session.specs.declared.runs.Front.{Front}
use Rattle.quic_session.specs.declared.runs.Front.TheVariants as front

-- whether a frame type is the library's: RESET_STREAM, STOP_SENDING, STREAM, MAX_DATA, MAX_STREAM_DATA, MAX_STREAMS,
-- DATA_BLOCKED, STREAM_DATA_BLOCKED, DATAGRAM
abbrev pub is_own_type : ℕ → Bool
is_own_type kind = (nat_le 0x04 kind && nat_le kind 0x05) || (nat_le 0x08 kind && nat_le kind 0x15) || (nat_le 0x30 kind && nat_le kind 0x31)

-- whether a frame type is skipped: PADDING, PING, STREAMS_BLOCKED
abbrev pub is_skipped_type : ℕ → Bool
is_skipped_type kind = nat_le kind 0x01 || (nat_le 0x16 kind && nat_le kind 0x17)

-- whether a frame type is neither: the host processes the frame
abbrev pub is_other_type : ℕ → Bool
is_other_type kind = not (is_own_type kind || is_skipped_type kind)

-- whether some bytes begin with a frame of such a type
abbrev pub begins_with : (ℕ → Bool) → List ℕ → Bool
begins_with is_type [] = false
begins_with is_type (kind ∷ bytes) = is_type kind

-- the bytes are a skipped frame, and then the rest. The count of STREAMS_BLOCKED is at most 2^60 (section 19.14)
abbrev pub BeginsSkipped : List ℕ → List ℕ → Type 0
BeginsSkipped [] rest = ⊥
BeginsSkipped (kind ∷ bytes) rest = ((kind ≤ 0x01) × (rest ≡ bytes)) ⊎ ((0x16 ≤ kind) × (kind ≤ 0x17) × (n : ℕ) × BeginsNumber bytes n rest × (n ≤ 2 ^ 60))

-- the bytes are a run of the library's frames, which ends in front of another frame or with the payload, and then the rest
abbrev pub BeginsRun : List ℕ → List Frame → List ℕ → Type 0
BeginsRun bytes fs rest = BeginsFrames bytes fs rest × (begins_with is_own_type rest ≡ false)

-- the bytes begin with a frame of the library or a skipped one by its type, and are not one
abbrev pub BeginsMalformed : List ℕ → Type 0
BeginsMalformed bytes = ((begins_with is_own_type bytes ≡ true) × ((fs : List Frame) (rest : List ℕ) → BeginsRun bytes fs rest → ⊥))
    ⊎ ((begins_with is_skipped_type bytes ≡ true) × ((rest : List ℕ) → BeginsSkipped bytes rest → ⊥))

-- so many of the first bytes are a part of them
abbrev pub IsFrontOf : ℕ → List ℕ → Type 0
IsFrontOf n bytes = (0 < n) × (n ≤ length bytes)

-- what the bytes begin with
abbrev pub BeginsAs : List ℕ → Front → Type 0
BeginsAs bytes front.End = bytes ≡ []
BeginsAs bytes front.Other = begins_with is_other_type bytes ≡ true
BeginsAs bytes (front.Skipped n) = IsFrontOf n bytes × BeginsSkipped bytes (drop n bytes)
BeginsAs bytes (front.Run n) = (begins_with is_own_type bytes ≡ true) × IsFrontOf n bytes × (fs : List Frame) × BeginsRun bytes fs (drop n bytes)
BeginsAs bytes front.Malformed = BeginsMalformed bytes

-- what was read is what reading gives
abbrev pub ParsesAs : {X Y : Type 0} → (X → Y) → Option X → Option Y → Type 0
ParsesAs view (Some x) read = read ≡ Some (view x)
ParsesAs view None read = read ≡ None

-- the bytes behind what was read
abbrev pub bytes_behind : {A : Type 0} → Option (A × List ℕ) → Option (List ℕ)
bytes_behind (Some x) = Some x.1
bytes_behind None = None

abbrev pub bytes_behind_two : Option (ℕ × ℕ × List ℕ) → Option (List ℕ)
bytes_behind_two (Some x) = Some x.2
bytes_behind_two None = None
