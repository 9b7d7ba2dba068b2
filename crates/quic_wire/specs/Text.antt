-- What is written for a frame: the shortest numbers, and an offset only where it is not 0.
use Rattle.std.specs.Prelude.{◌≡◌, ℕ, ◌+◌, ◌-◌, ◌^◌, ◌<◌, ◌≤◌, Bool, true, Option, Some, None, List, [], ◌∷◌, ◌++◌, length, take, ◌==◌, if◌then◌else◌}
use Rattle.quic_values.specs.Numbers.{shortest}
use Rattle.quic_values.specs.Ids.{dir_bit}
use Rattle.quic_wire.specs.declared.frame.Stream.{Stream}
use Rattle.quic_wire.specs.declared.frame.StreamMeta.{StreamMeta}
use Rattle.quic_wire.specs.declared.frame.ResetStream.{ResetStream}
use Rattle.quic_wire.specs.declared.frame.StopSending.{StopSending}
use Rattle.quic_wire.specs.declared.frame.Datagram.{Datagram}
use Rattle.quic_wire.specs.declared.frame.Frame.{Frame}
use Rattle.quic_wire.specs.declared.frame.Frame.TheVariants as frames
use Rattle.quic_wire.specs.declared.frame.TheConstants.Stream as stream
use Rattle.quic_wire.specs.declared.frame.TheConstants.ResetStream as reset_stream
use Rattle.quic_wire.specs.declared.frame.TheConstants.StopSending as stop_sending
use Rattle.quic_wire.specs.declared.frame.TheConstants.Datagram as datagram
use Rattle.quic_wire.specs.declared.frame.TheConstants.Frame as frame

-- a length, where it is to be written
abbrev pub asked : Bool → ℕ → Option ℕ
asked with_length len = if with_length then Some len else None

abbrev pub length_text : Option ℕ → List ℕ
length_text None = []
length_text (Some len) = shortest len

abbrev pub offset_text : ℕ → List ℕ
offset_text offset = if offset == 0 then [] else shortest offset

abbrev pub length_bit : Option ℕ → ℕ
length_bit None = 0x00
length_bit (Some len) = 0x02

-- the type of a STREAM frame
abbrev pub stream_kind : ℕ → Bool → Option ℕ → ℕ
stream_kind offset fin len = 0x08 + (if offset == 0 then 0x00 else 0x04) + length_bit len + (if fin then 0x01 else 0x00)

-- a STREAM frame up to its data
abbrev pub stream_head : ℕ → ℕ → Bool → Option ℕ → List ℕ
stream_head id offset fin len = stream_kind offset fin len ∷ (shortest id ++ offset_text offset ++ length_text len)

abbrev pub meta_text : StreamMeta → Bool → List ℕ
meta_text m with_length = stream_head m.id m.offsets.start m.fin (asked with_length (m.offsets.end - m.offsets.start))

abbrev pub stream_text : Stream → Bool → List ℕ
stream_text s with_length = stream_head s.id s.offset s.fin (asked with_length (length s.bytes)) ++ s.bytes

abbrev pub reset_text : ResetStream → List ℕ
reset_text f = 0x04 ∷ (shortest f.id ++ shortest f.error_code ++ shortest f.final_offset)

abbrev pub stop_text : StopSending → List ℕ
stop_text f = 0x05 ∷ (shortest f.id ++ shortest f.error_code)

abbrev pub datagram_text : Datagram → Bool → List ℕ
datagram_text d with_length = (0x30 + (if with_length then 0x01 else 0x00)) ∷ (length_text (asked with_length (length d.bytes)) ++ d.bytes)

-- what is written for a frame, nothing for those that are only named
abbrev pub text : Frame → List ℕ
text (frames.ResetStream f) = reset_text f
text (frames.StopSending f) = stop_text f
text (frames.Stream s) = stream_text s true
text (frames.MaxData n) = 0x10 ∷ shortest n
text (frames.MaxStreamData id offset) = 0x11 ∷ (shortest id ++ shortest offset)
text (frames.MaxStreams dir count) = (0x12 + dir_bit dir) ∷ shortest count
text (frames.DataBlocked offset) = 0x14 ∷ shortest offset
text (frames.StreamDataBlocked id offset) = 0x15 ∷ (shortest id ++ shortest offset)
text (frames.Datagram d) = datagram_text d true
text _ = []

-- the STREAM frame with some content
abbrev pub stream_of : StreamMeta → List ℕ → Frame
stream_of m content = frames.Stream (record { id = m.id; offset = m.offsets.start; fin = m.fin; bytes = content })

-- what can be written: the kinds that have a spelling here, and numbers below 2^62
abbrev pub CanEncode : Frame → Type 0
CanEncode (frames.ResetStream f) = Unit {0}
CanEncode (frames.StopSending f) = Unit {0}
CanEncode (frames.Stream s) = (s.offset < 2 ^ 62) × (length s.bytes < 2 ^ 62)
CanEncode (frames.MaxData n) = Unit {0}
CanEncode (frames.MaxStreamData id offset) = offset < 2 ^ 62
CanEncode (frames.MaxStreams dir count) = count < 2 ^ 62
CanEncode (frames.DataBlocked offset) = offset < 2 ^ 62
CanEncode (frames.StreamDataBlocked id offset) = offset < 2 ^ 62
CanEncode (frames.Datagram d) = length d.bytes < 2 ^ 62
CanEncode _ = ⊥

-- what has a spelling, when ids, codes and limits are bare numbers
abbrev pub HasSpelling : Frame → Type 0
HasSpelling (frames.ResetStream f) = (f.id < 2 ^ 62) × (f.error_code < 2 ^ 62) × (f.final_offset < 2 ^ 62)
HasSpelling (frames.StopSending f) = (f.id < 2 ^ 62) × (f.error_code < 2 ^ 62)
HasSpelling (frames.Stream s) = (s.id < 2 ^ 62) × (s.offset < 2 ^ 62) × (length s.bytes < 2 ^ 62)
HasSpelling (frames.MaxData n) = n < 2 ^ 62
HasSpelling (frames.MaxStreamData id offset) = (id < 2 ^ 62) × (offset < 2 ^ 62)
HasSpelling (frames.MaxStreams dir count) = count < 2 ^ 62
HasSpelling (frames.DataBlocked offset) = offset < 2 ^ 62
HasSpelling (frames.StreamDataBlocked id offset) = (id < 2 ^ 62) × (offset < 2 ^ 62)
HasSpelling (frames.Datagram d) = length d.bytes < 2 ^ 62
HasSpelling _ = ⊥

-- how many bytes are written at most
abbrev pub size_bound : Frame → ℕ
size_bound (frames.ResetStream f) = reset_stream.SIZE_BOUND
size_bound (frames.StopSending f) = stop_sending.SIZE_BOUND
size_bound (frames.Stream s) = stream.SIZE_BOUND + length s.bytes
size_bound (frames.MaxData n) = frame.MAX_DATA_SIZE_BOUND
size_bound (frames.MaxStreamData id offset) = frame.MAX_STREAM_DATA_SIZE_BOUND
size_bound (frames.MaxStreams dir count) = frame.MAX_STREAMS_SIZE_BOUND
size_bound (frames.DataBlocked offset) = frame.DATA_BLOCKED_SIZE_BOUND
size_bound (frames.StreamDataBlocked id offset) = frame.STREAM_DATA_BLOCKED_SIZE_BOUND
size_bound (frames.Datagram d) = datagram.SIZE_BOUND + length d.bytes
size_bound _ = 0

-- numbers of 2^30 or more, which take eight bytes each
abbrev pub HasLongNumbers : Frame → Type 0
HasLongNumbers (frames.ResetStream f) = (2 ^ 30 ≤ f.id) × (2 ^ 30 ≤ f.error_code) × (2 ^ 30 ≤ f.final_offset)
HasLongNumbers (frames.StopSending f) = (2 ^ 30 ≤ f.id) × (2 ^ 30 ≤ f.error_code)
HasLongNumbers (frames.Stream s) = (2 ^ 30 ≤ s.id) × (2 ^ 30 ≤ s.offset) × (2 ^ 30 ≤ length s.bytes)
HasLongNumbers (frames.MaxData n) = 2 ^ 30 ≤ n
HasLongNumbers (frames.MaxStreamData id offset) = (2 ^ 30 ≤ id) × (2 ^ 30 ≤ offset)
HasLongNumbers (frames.MaxStreams dir count) = 2 ^ 30 ≤ count
HasLongNumbers (frames.DataBlocked offset) = 2 ^ 30 ≤ offset
HasLongNumbers (frames.StreamDataBlocked id offset) = (2 ^ 30 ≤ id) × (2 ^ 30 ≤ offset)
HasLongNumbers (frames.Datagram d) = 2 ^ 30 ≤ length d.bytes
HasLongNumbers _ = ⊥

-- new begins with old
abbrev pub KeepsFront : List ℕ → List ℕ → Type 0
KeepsFront old new = take (length old) new ≡ old
