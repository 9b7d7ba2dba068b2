-- How long a frame is.
use Rattle.std.proofs.Common.{◌≡◌, ℕ, ◌+◌, ◌-◌, ◌<◌, ◌≤◌, Bool, true, false, cond, eqb, List, [], ◌++◌, length, min, refl, sym, ap, ◌∙◌, arith, length-append}
use Rattle.std.specs.Prelude.{nat_lt, ◌==◌, if◌then◌else◌}
use Rattle.std.proofs.lemmas.Bool.Decides.{nat_tests}
use Rattle.quic_values.specs.Numbers.{size_of, shortest}
use Rattle.quic_wire.specs.declared.frame.StreamMeta.{StreamMeta}
use Rattle.quic_wire.specs.Text.{meta_text, offset_text, length_text, asked}
use Rattle.quic_wire.proofs.Written.{shortest_length}
use Rattle.quic_sending.specs.declared.send.Send.{Send}
use Rattle.quic_sending.specs.Buffer.{data_room}
use Rattle.quic_outgoing.specs.declared.transmitting.WrittenFrame.{WrittenFrame}
use Rattle.quic_outgoing.specs.Transmitting.{AppendsFrame, room_behind_id}

pub size_small : (n : ℕ) → size_of n ≤ 8
size_small n = grind (arith, nat_tests)

-- how many bytes the offset takes
abbrev pub offset_size : ℕ → ℕ
offset_size start = if start == 0 then 0 else size_of start

offset-length : (b : Bool) (n : ℕ) → length (cond b [] (shortest n)) ≡ cond b 0 (size_of n)
offset-length true n = refl
offset-length false n = shortest_length n

length-length : (b : Bool) (n : ℕ) → length (length_text (asked b n)) ≡ cond b (size_of n) 0
length-length true n = shortest_length n
length-length false n = refl

-- a frame up to its data
pub head-length : (m : StreamMeta) (b : Bool) → length (meta_text m b) ≡ 1 + size_of m.id + offset_size m.offsets.start + cond b (size_of (m.offsets.end - m.offsets.start)) 0
head-length m b =
    let start = offset_text m.offsets.start in
    let len = length_text (asked b (m.offsets.end - m.offsets.start)) in
    let offset : length start ≡ offset_size m.offsets.start = offset-length (eqb m.offsets.start 0) m.offsets.start in
    let size : length len ≡ cond b (size_of (m.offsets.end - m.offsets.start)) 0 = length-length b (m.offsets.end - m.offsets.start) in
    omega (arith, shortest_length m.id, offset, size, length-append (shortest m.id) start, length-append (shortest m.id ++ start) len)

split : (start size room : ℕ) → size ≤ 8 → 16 ≤ room → (if nat_lt 0 start then room - size else room) + (if start == 0 then 0 else size) ≡ room
split start size room small large = grind (arith, nat_tests)

-- the room for the data and that for the offset
room-split : (start room : ℕ) → 16 ≤ room → data_room start room + offset_size start ≡ room
room-split start room large = split start (size_of start) room (size_small start) large

room-large : (start size room : ℕ) → size ≤ 8 → 16 ≤ room → 8 ≤ (if nat_lt 0 start then room - size else room)
room-large start size room small large = grind (arith, nat_tests)

-- without a length, the data fill the room
filled : (start limit room stop : ℕ) → nat_lt (limit - start) room ≡ false → stop ≡ min limit (start + (room - (if nat_lt (limit - start) room then 8 else 0))) → stop - start ≡ room
filled start limit room stop lacks is = grind (arith, nat_tests)

-- with one, eight bytes are left
left : (start limit room stop : ℕ) → 8 ≤ room → nat_lt (limit - start) room ≡ true → stop ≡ min limit (start + (room - (if nat_lt (limit - start) room then 8 else 0))) → (stop - start) + 8 ≤ room
left start limit room stop large has is = grind (arith, nat_tests)

-- a frame is within the payload, and fills it where it has no length
ends : (most id : ℕ) (s t : Send) (bytes new : List ℕ) (frame : WrittenFrame) (h : AppendsFrame most id s bytes frame t new) (b : Bool) → h.with_length ≡ b → length bytes + 25 < most
    → (length new ≤ most) × (b ≡ false → length new ≡ most)
ends most id s t bytes new frame h true is small =
    let room = room_behind_id most id bytes in
    let large : 16 ≤ room = omega (arith, size_small id, small) in
    let start = frame.meta.offsets.start in
    let head = ap (λ n. size_of n) h.id_is in
    let parts = room-split start room large in
    let eight = room-large start (size_of start) room (size_small start) large in
    let data' = left start h.limit (data_room start room) frame.meta.offsets.end eight (sym h.length_is ∙ is) h.end_is in
    let len = size_small (frame.meta.offsets.end - start) in
    let size : length new ≡ length bytes + (1 + size_of frame.meta.id + offset_size start + size_of (frame.meta.offsets.end - start)) + (frame.meta.offsets.end - start) =
    h.size ∙ ap (λ (w : Bool). length bytes + length (meta_text frame.meta w) + (frame.meta.offsets.end - start)) is
    ∙ ap (λ n. length bytes + n + (frame.meta.offsets.end - start)) (head-length frame.meta true) in
    (omega (arith, size, head, parts, data', len, small, size_small id), λ e. absurd (let x = e in cc))
ends most id s t bytes new frame h false is small =
    let room = room_behind_id most id bytes in
    let large : 16 ≤ room = omega (arith, size_small id, small) in
    let start = frame.meta.offsets.start in
    let head = ap (λ n. size_of n) h.id_is in
    let parts = room-split start room large in
    let data' = filled start h.limit (data_room start room) frame.meta.offsets.end (sym h.length_is ∙ is) h.end_is in
    let size : length new ≡ length bytes + (1 + size_of frame.meta.id + offset_size start + 0) + (frame.meta.offsets.end - start) =
    h.size ∙ ap (λ (w : Bool). length bytes + length (meta_text frame.meta w) + (frame.meta.offsets.end - start)) is
    ∙ ap (λ n. length bytes + n + (frame.meta.offsets.end - start)) (head-length frame.meta false) in
    let exact : length new ≡ most = omega (arith, size, head, parts, data', small, size_small id) in
    (omega (arith, exact), λ e. exact)

pub frame-within : (most id : ℕ) (s t : Send) (bytes new : List ℕ) (frame : WrittenFrame) → AppendsFrame most id s bytes frame t new → length bytes + 25 < most → length new ≤ most
frame-within most id s t bytes new frame h small = (ends most id s t bytes new frame h h.with_length refl small).0

pub frame-fills : (most id : ℕ) (s t : Send) (bytes new : List ℕ) (frame : WrittenFrame) (h : AppendsFrame most id s bytes frame t new) → length bytes + 25 < most → h.with_length ≡ false → length new ≡ most
frame-fills most id s t bytes new frame h small lacks = (ends most id s t bytes new frame h h.with_length refl small).1 lacks
