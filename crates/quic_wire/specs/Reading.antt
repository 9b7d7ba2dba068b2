-- Reading from left to right.
use Rattle.std.specs.Prelude.{◌≡◌, ℕ, ◌++◌, ◌^◌, ◌%◌, ◌&&◌, Bool, List, [], ◌∷◌, length, take, drop, Option, Some, None, Result, Ok, Err, nat_lt, nat_le, ◌==◌, if◌then◌else◌, option_and_then}
use Rattle.std.specs.Int.{Width, w16, w32, w64, byte_len, from_be_bytes}
use Rattle.quic_values.specs.declared.ids.Dir.{Dir}
use Rattle.quic_values.specs.declared.ids.Dir.TheVariants as dirs
use Rattle.quic_wire.specs.declared.frame.DecodeError.{DecodeError}
use Rattle.quic_wire.specs.declared.frame.DecodeError.TheVariants as errors
use Rattle.quic_wire.specs.declared.frame.Frame.{Frame}
use Rattle.quic_wire.specs.declared.frame.Frame.TheVariants as frames
use Rattle.quic_wire.specs.declared.reading.LastStream.{LastStream}
use Rattle.quic_wire.specs.Frames.{has_bit}

infixl 10 ◌>>=◌
abbrev pub ◌>>=◌ : {A B : Type 0} → Option A → (A → Option B) → Option B
o >>= f = option_and_then f o

-- what a function returned, seen by view, is what reading gives, unless memory ran out
abbrev pub Fails : {Y : Type 0} → DecodeError → Option Y → Type 0
Fails errors.OutOfMemory read = Unit {0}
Fails errors.Malformed read = read ≡ None

abbrev pub ReadsAs : {X Y : Type 0} → (X → Y) → Result X DecodeError → Option Y → Type 0
ReadsAs view (Ok x) read = read ≡ Some (view x)
ReadsAs view (Err e) read = Fails e read

-- a number of a width, below the two bits that say the width, and the bytes after it
abbrev pub wide_at : Width → ℕ → List ℕ → Option (ℕ × List ℕ)
wide_at w limit bytes = if nat_lt (length bytes) (byte_len w) then None else Some (from_be_bytes w (take (byte_len w) bytes) % limit, drop (byte_len w) bytes)

unfoldable pub number_at : List ℕ → Option (ℕ × List ℕ)
number_at [] = None
number_at (b ∷ rest) =
    if nat_lt b 0x40 then Some (b, rest)
    else if nat_lt b 0x80 then wide_at w16 (2 ^ 14) (b ∷ rest)
    else if nat_lt b 0xc0 then wide_at w32 (2 ^ 30) (b ∷ rest)
    else wide_at w64 (2 ^ 62) (b ∷ rest)

-- two numbers, and the bytes after them
unfoldable pub two_at : List ℕ → Option (ℕ × ℕ × List ℕ)
two_at bytes = do
  m ← number_at bytes
  n ← number_at m.1
  Some (m.0, n.0, n.1)

unfoldable pub offset_at : Bool → List ℕ → Option (ℕ × List ℕ)
offset_at with_offset bytes = if with_offset then number_at bytes else Some (0, bytes)

abbrev pub split_at : ℕ → List ℕ → Option (List ℕ × List ℕ)
split_at n bytes = if nat_lt (length bytes) n then None else Some (take n bytes, drop n bytes)

abbrev pub all_of : List ℕ → Option (List ℕ × List ℕ)
all_of bytes = Some (bytes, [])

unfoldable pub content_at : Bool → List ℕ → Option (List ℕ × List ℕ)
content_at with_length bytes = if with_length then (do
  n ← number_at bytes
  split_at n.0 n.1) else all_of bytes

unfoldable pub reset_at : List ℕ → Option (Frame × List ℕ)
reset_at bytes = do
  id ← number_at bytes
  end ← two_at id.1
  Some (frames.ResetStream (record { id = id.0; error_code = end.0; final_offset = end.1 }), end.2)

unfoldable pub stop_at : List ℕ → Option (Frame × List ℕ)
stop_at bytes = do
  n ← two_at bytes
  Some (frames.StopSending (record { id = n.0; error_code = n.1 }), n.2)

unfoldable pub stream_at : ℕ → List ℕ → Option (Frame × List ℕ)
stream_at kind bytes = do
  id ← number_at bytes
  offset ← offset_at (has_bit kind 0x04) id.1
  content ← content_at (has_bit kind 0x02) offset.1
  Some (frames.Stream (record { id = id.0; offset = offset.0; fin = has_bit kind 0x01; bytes = content.0 }), content.1)

unfoldable pub max_data_at : List ℕ → Option (Frame × List ℕ)
max_data_at bytes = do
  n ← number_at bytes
  Some (frames.MaxData n.0, n.1)

unfoldable pub max_stream_data_at : List ℕ → Option (Frame × List ℕ)
max_stream_data_at bytes = do
  n ← two_at bytes
  Some (frames.MaxStreamData n.0 n.1, n.2)

unfoldable pub max_streams_at : Dir → List ℕ → Option (Frame × List ℕ)
max_streams_at dir bytes = do
  n ← number_at bytes
  Some (frames.MaxStreams dir n.0, n.1)

unfoldable pub data_blocked_at : List ℕ → Option (Frame × List ℕ)
data_blocked_at bytes = do
  n ← number_at bytes
  Some (frames.DataBlocked n.0, n.1)

unfoldable pub stream_data_blocked_at : List ℕ → Option (Frame × List ℕ)
stream_data_blocked_at bytes = do
  n ← two_at bytes
  Some (frames.StreamDataBlocked n.0 n.1, n.2)

unfoldable pub datagram_at : ℕ → List ℕ → Option (Frame × List ℕ)
datagram_at kind bytes = do
  content ← content_at (has_bit kind 0x01) bytes
  Some (frames.Datagram (record { bytes = content.0 }), content.1)

-- a frame, and the bytes after it
unfoldable pub frame_at : List ℕ → Option (Frame × List ℕ)
frame_at [] = None
frame_at (kind ∷ bytes) =
    if kind == 0x04 then reset_at bytes
    else if kind == 0x05 then stop_at bytes
    else if nat_le 0x08 kind && nat_le kind 0x0f then stream_at kind bytes
    else if kind == 0x10 then max_data_at bytes
    else if kind == 0x11 then max_stream_data_at bytes
    else if kind == 0x12 then max_streams_at dirs.Bi bytes
    else if kind == 0x13 then max_streams_at dirs.Uni bytes
    else if kind == 0x14 then data_blocked_at bytes
    else if kind == 0x15 then stream_data_blocked_at bytes
    else if nat_le 0x30 kind && nat_le kind 0x31 then datagram_at kind bytes
    else None

-- some bytes are the last of others
abbrev pub AreLast : List ℕ → List ℕ → Type 0
AreLast rest bytes = (front : List ℕ) × (bytes ≡ front ++ rest)

-- the STREAM frame whose data are the last bytes of a payload, behind those that are skipped
abbrev pub last_frame : LastStream → List ℕ → Frame
last_frame w payload = frames.Stream (record { id = w.id; offset = w.offset; fin = w.fin; bytes = drop w.skip payload })

-- frames, and the one that ends a payload where there is one
abbrev pub with_last_frame : List Frame → Option LastStream → List ℕ → List Frame
with_last_frame fs None payload = fs
with_last_frame fs (Some w) payload = fs ++ (last_frame w payload ∷ [])
