-- What is written is spelled so, and how long it is at most.
use Rattle.std.proofs.Common.{◌≡◌, ℕ, ◌+◌, ◌-◌, ◌^◌, ◌<◌, ◌≤◌, Bool, true, false, cond, not, eqb, ltb, Option, Some, None, List, [], ◌∷◌, ◌++◌, length, refl, append_assoc, arith, inl, inr}
use Rattle.std.specs.Prelude.{MatchBool}
use Rattle.std.specs.List.{All, flat_map}
use Rattle.std.proofs.lemmas.List.Elements.{All-head, All-tail}
use Rattle.std.proofs.lemmas.Bool.{eqb-true, cases_lt, lt-ltb, le-ltb}
use Rattle.std.proofs.lemmas.List.{append-nil, length-append}
use Rattle.quic_values.specs.declared.ids.Dir.{Dir}
use Rattle.quic_values.specs.Numbers.{BeginsNumber, shortest, size_of}
use Rattle.quic_wire.specs.declared.frame.Stream.{Stream}
use Rattle.quic_wire.specs.declared.frame.StreamMeta.{StreamMeta}
use Rattle.quic_wire.specs.declared.frame.Datagram.{Datagram}
use Rattle.quic_wire.specs.declared.frame.Frame.{Frame}
use Rattle.quic_wire.specs.declared.frame.Frame.TheVariants as frames
use Rattle.quic_wire.specs.Frames.{has_bit, BeginsTwo, BeginsOffset, BeginsContent, BeginsWith, BeginsFrames}
use Rattle.quic_wire.specs.Text.{HasLongNumbers, HasSpelling, asked, text, stream_text, stream_head, stream_kind, meta_text, stream_of, offset_text, length_text, datagram_text, size_bound}
use Rattle.quic_wire.proofs.Numbers.{shortest_spells}

number_written : (n : ℕ) (bytes rest : List ℕ) → n < 2 ^ 62 → bytes ≡ shortest n ++ rest → BeginsNumber bytes n rest
number_written n bytes rest lt e = (shortest n, shortest_spells n lt, e)

two_written : (m n : ℕ) (rest : List ℕ) → m < 2 ^ 62 → n < 2 ^ 62 → BeginsTwo (shortest m ++ shortest n ++ rest) m n rest
two_written m n rest lt-m lt-n = (shortest n ++ rest, number_written m _ _ lt-m (simp append_assoc), number_written n _ rest lt-n refl)

-- the bits of a type
abbrev kind_from : Bool → Bool → Bool → ℕ
kind_from o l f = 8 + cond o 0 4 + cond l 2 0 + cond f 1 0

record KindBits (o l f : Bool) : Type 0 where
  offset : has_bit (kind_from o l f) 4 ≡ not o
  len : has_bit (kind_from o l f) 2 ≡ l
  fin : f ≡ has_bit (kind_from o l f) 1
  low : 8 ≤ kind_from o l f
  high : kind_from o l f ≤ 15

kind_bits : (o l f : Bool) → KindBits o l f
kind_bits true true true = record { offset = refl; len = refl; fin = refl; low = omega arith; high = omega arith }
kind_bits true true false = record { offset = refl; len = refl; fin = refl; low = omega arith; high = omega arith }
kind_bits true false true = record { offset = refl; len = refl; fin = refl; low = omega arith; high = omega arith }
kind_bits true false false = record { offset = refl; len = refl; fin = refl; low = omega arith; high = omega arith }
kind_bits false true true = record { offset = refl; len = refl; fin = refl; low = omega arith; high = omega arith }
kind_bits false true false = record { offset = refl; len = refl; fin = refl; low = omega arith; high = omega arith }
kind_bits false false true = record { offset = refl; len = refl; fin = refl; low = omega arith; high = omega arith }
kind_bits false false false = record { offset = refl; len = refl; fin = refl; low = omega arith; high = omega arith }

offset_written : (kind offset : ℕ) (rest : List ℕ) → offset < 2 ^ 62 → has_bit kind 4 ≡ not (eqb offset 0) → BeginsOffset (has_bit kind 4) (offset_text offset ++ rest) offset rest
offset_written kind offset rest lt bit = rw bit (by (eqb offset 0) refl)
  where
    by : (t : Bool) → eqb offset 0 ≡ t → MatchBool (not t) (BeginsNumber (cond t [] (shortest offset) ++ rest) offset rest) ((offset ≡ 0) × (cond t [] (shortest offset) ++ rest ≡ rest))
    by true e = (eqb-true offset 0 e, refl)
    by false e = number_written offset _ rest lt refl

-- without a length, nothing follows
content_written : (with_length : Bool) (xs rest : List ℕ) → (with_length ≡ true → length xs < 2 ^ 62) → (with_length ≡ false → rest ≡ []) → BeginsContent with_length (length_text (asked with_length (length xs)) ++ (xs ++ rest)) xs rest
content_written true xs rest lt ends = number_written (length xs) _ (xs ++ rest) (lt refl) refl
content_written false xs rest lt ends = let none = ends refl in (rw none (append-nil xs), none)

pub stream_written : (id offset : ℕ) (fin with_length : Bool) (xs rest : List ℕ) → id < 2 ^ 62 → offset < 2 ^ 62 → (with_length ≡ true → length xs < 2 ^ 62) → (with_length ≡ false → rest ≡ [])
    → BeginsWith ((stream_head id offset fin (asked with_length (length xs)) ++ xs) ++ rest) (frames.Stream (record { id = id; offset = offset; fin = fin; bytes = xs })) rest
stream_written id offset fin true xs rest lt-id lt-offset lt-len ends =
    let bits = kind_bits (eqb offset 0) true fin in
    let after = shortest (length xs) ++ (xs ++ rest) in (
      bits.low,
      bits.high,
      bits.fin,
      offset_text offset ++ after,
      number_written id _ _ lt-id (simp append_assoc),
      after,
      offset_written _ offset after lt-offset bits.offset,
      rw bits.len (content_written true xs rest lt-len ends),
    )
stream_written id offset fin false xs rest lt-id lt-offset lt-len ends =
    let bits = kind_bits (eqb offset 0) false fin in
    let after = xs ++ rest in (
      bits.low,
      bits.high,
      bits.fin,
      offset_text offset ++ after,
      number_written id _ _ lt-id (simp (append_assoc, append-nil)),
      after,
      offset_written _ offset after lt-offset bits.offset,
      rw bits.len (content_written false xs rest lt-len ends),
    )

-- a head, and as much content as it says
pub meta_written : (m : StreamMeta) (with_length : Bool) (content rest : List ℕ) → m.id < 2 ^ 62 → m.offsets.start < 2 ^ 62 → (with_length ≡ true → length content < 2 ^ 62) → (with_length ≡ false → rest ≡ [])
    → length content ≡ m.offsets.end - m.offsets.start → BeginsWith ((meta_text m with_length ++ content) ++ rest) (stream_of m content) rest
meta_written m with_length content rest lt-id lt-offset lt-len ends len =
    rw (← len) (stream_written m.id m.offsets.start m.fin with_length content rest lt-id lt-offset lt-len ends)

pub datagram_written : (xs rest : List ℕ) (with_length : Bool) → (with_length ≡ true → length xs < 2 ^ 62) → (with_length ≡ false → rest ≡ [])
    → BeginsWith (datagram_text (record { bytes = xs }) with_length ++ rest) (frames.Datagram (record { bytes = xs })) rest
datagram_written xs rest true lt ends = (omega arith, omega arith, rw append_assoc (content_written true xs rest lt ends))
datagram_written xs rest false lt ends = (omega arith, omega arith, content_written false xs rest lt ends)

dir_written : (dir : Dir) (n : ℕ) (rest : List ℕ) → n < 2 ^ 62 → BeginsWith (text (frames.MaxStreams dir n) ++ rest) (frames.MaxStreams dir n) rest
dir_written dir n rest lt = (refl, number_written n _ rest lt refl)

pub frame_written : (f : Frame) (rest : List ℕ) → HasSpelling f → BeginsWith (text f ++ rest) f rest
frame_written (frames.ResetStream f) rest can =
    (refl, shortest f.error_code ++ shortest f.final_offset ++ rest, number_written f.id _ _ can.0 (simp append_assoc), two_written f.error_code f.final_offset rest can.1 can.2)
frame_written (frames.StopSending f) rest can = (refl, two_written f.id f.error_code rest can.0 can.1)
frame_written (frames.Stream s) rest can = stream_written s.id s.offset s.fin true s.bytes rest can.0 can.1 (λ e. can.2) (λ e. absurd cc)
frame_written (frames.MaxData n) rest can = (refl, number_written n _ rest can refl)
frame_written (frames.MaxStreamData id n) rest can = (refl, two_written id n rest can.0 can.1)
frame_written (frames.MaxStreams dir n) rest can = dir_written dir n rest can
frame_written (frames.DataBlocked n) rest can = (refl, number_written n _ rest can refl)
frame_written (frames.StreamDataBlocked id n) rest can = (refl, two_written id n rest can.0 can.1)
frame_written (frames.Datagram d) rest can = datagram_written d.bytes rest true (λ e. can) (λ e. absurd cc)
frame_written _ rest can = absurd can

pub frames_written : (fs : List Frame) (rest : List ℕ) → All HasSpelling fs → BeginsFrames (flat_map text fs ++ rest) fs rest
frames_written [] rest can = refl
frames_written (f ∷ fs) rest can =
    let after = flat_map text fs ++ rest in
    let first = frame_written f after (All-head HasSpelling f fs can) in
    (after, rw append_assoc first, frames_written fs rest (All-tail HasSpelling f fs can))

-- ---- sizes

pub shortest_length : (n : ℕ) → length (shortest n) ≡ size_of n
unfolding shortest
shortest_length n =
    elim (cases_lt n (2 ^ 6)) [
      | inl one ↦ rw (lt-ltb n (2 ^ 6) one) refl
      | inr more ↦ elim (cases_lt n (2 ^ 14)) [
        | inl two ↦ rw (le-ltb n (2 ^ 6) more, lt-ltb n (2 ^ 14) two) refl
        | inr more' ↦ elim (cases_lt n (2 ^ 30)) [
          | inl four ↦ rw (le-ltb n (2 ^ 6) more, le-ltb n (2 ^ 14) more', lt-ltb n (2 ^ 30) four) refl
          | inr eight ↦ rw (le-ltb n (2 ^ 6) more, le-ltb n (2 ^ 14) more', le-ltb n (2 ^ 30) eight) refl
        ]
      ]
    ]

size_small : (n : ℕ) → size_of n ≤ 8
size_small n = by (ltb n (2 ^ 6)) (ltb n (2 ^ 14)) (ltb n (2 ^ 30))
  where
    by : (a b c : Bool) → cond a 1 (cond b 2 (cond c 4 8)) ≤ 8
    by true b c = omega arith
    by false true c = omega arith
    by false false true = omega arith
    by false false false = omega arith

shortest_size : (n : ℕ) → length (shortest n) ≤ 8
shortest_size n = rw (shortest_length n) (size_small n)

offset_size : (offset : ℕ) → length (offset_text offset) ≤ 8
offset_size offset = by (eqb offset 0)
  where
    by : (t : Bool) → length (cond t [] (shortest offset)) ≤ 8
    by true = omega arith
    by false = shortest_size offset

length_size : (len : Option ℕ) → length (length_text len) ≤ 8
length_size None = omega arith
length_size (Some n) = shortest_size n

two_size : (kind : ℕ) (a b : List ℕ) → length a ≤ 8 → length b ≤ 8 → length (kind ∷ (a ++ b)) ≤ 17
two_size kind a b ha hb = omega (arith, length-append a b)

three_size : (kind : ℕ) (a b c : List ℕ) → length a ≤ 8 → length b ≤ 8 → length c ≤ 8 → length (kind ∷ (a ++ b ++ c)) ≤ 25
three_size kind a b c ha hb hc = omega (arith, length-append (a ++ b) c, length-append a b)

pub head_size : (id offset : ℕ) (fin : Bool) (len : Option ℕ) → length (stream_head id offset fin len) ≤ 25
head_size id offset fin len = three_size (stream_kind offset fin len) (shortest id) (offset_text offset) (length_text len) (shortest_size id) (offset_size offset) (length_size len)

pub stream_size : (s : Stream) (with_length : Bool) → length (stream_text s with_length) ≤ 25 + length s.bytes
stream_size s with_length = omega (arith, length-append (stream_head s.id s.offset s.fin (asked with_length (length s.bytes))) s.bytes, head_size s.id s.offset s.fin (asked with_length (length s.bytes)))

pub datagram_size : (d : Datagram) (with_length : Bool) → length (datagram_text d with_length) ≤ 9 + length d.bytes
datagram_size d with_length = omega (arith, length-append (length_text (asked with_length (length d.bytes))) d.bytes, length_size (asked with_length (length d.bytes)))

pub frame_size : (f : Frame) → length (text f) ≤ size_bound f
frame_size (frames.ResetStream f) = three_size 4 (shortest f.id) (shortest f.error_code) (shortest f.final_offset) (shortest_size f.id) (shortest_size f.error_code) (shortest_size f.final_offset)
frame_size (frames.StopSending f) = two_size 5 (shortest f.id) (shortest f.error_code) (shortest_size f.id) (shortest_size f.error_code)
frame_size (frames.Stream s) = stream_size s true
frame_size (frames.MaxData n) = omega (arith, shortest_size n)
frame_size (frames.MaxStreamData id n) = two_size 17 (shortest id) (shortest n) (shortest_size id) (shortest_size n)
frame_size (frames.MaxStreams dir n) = omega (arith, shortest_size n)
frame_size (frames.DataBlocked n) = omega (arith, shortest_size n)
frame_size (frames.StreamDataBlocked id n) = two_size 21 (shortest id) (shortest n) (shortest_size id) (shortest_size n)
frame_size (frames.Datagram d) = datagram_size d true
frame_size _ = omega arith

-- a number of 2^30 or more has eight bytes
long_size : (n : ℕ) → 2 ^ 30 ≤ n → length (shortest n) ≡ 8
long_size n le =
    let two : 2 ^ 14 ≤ n = omega (arith, le) in
    let one : 2 ^ 6 ≤ n = omega (arith, le) in
    rw (shortest_length n, le-ltb n (2 ^ 6) one, le-ltb n (2 ^ 14) two, le-ltb n (2 ^ 30) le) refl

long_offset : (offset : ℕ) → 2 ^ 30 ≤ offset → length (offset_text offset) ≡ 8
long_offset offset le = by (eqb offset 0) refl
  where
    by : (t : Bool) → eqb offset 0 ≡ t → length (cond t [] (shortest offset)) ≡ 8
    by true e = absurd (omega (arith, le, eqb-true offset 0 e))
    by false e = long_size offset le

two_long : (kind a b : ℕ) → 2 ^ 30 ≤ a → 2 ^ 30 ≤ b → length (kind ∷ (shortest a ++ shortest b)) ≡ 17
two_long kind a b le-a le-b = omega (arith, length-append (shortest a) (shortest b), long_size a le-a, long_size b le-b)

three_long : (kind : ℕ) (a b c : List ℕ) → length a ≡ 8 → length b ≡ 8 → length c ≡ 8 → length (kind ∷ (a ++ b ++ c)) ≡ 25
three_long kind a b c ha hb hc = omega (arith, length-append (a ++ b) c, length-append a b)

stream_long : (s : Stream) → 2 ^ 30 ≤ s.id → 2 ^ 30 ≤ s.offset → 2 ^ 30 ≤ length s.bytes → length (stream_text s true) ≡ 25 + length s.bytes
stream_long s id offset len =
    let head = three_long (stream_kind s.offset s.fin (Some (length s.bytes))) (shortest s.id) (offset_text s.offset) (shortest (length s.bytes)) (long_size s.id id) (long_offset s.offset offset) (long_size (length s.bytes) len) in
    omega (arith, length-append (stream_head s.id s.offset s.fin (Some (length s.bytes))) s.bytes, head)

datagram_long : (d : Datagram) → 2 ^ 30 ≤ length d.bytes → length (datagram_text d true) ≡ 9 + length d.bytes
datagram_long d len = omega (arith, length-append (shortest (length d.bytes)) d.bytes, long_size (length d.bytes) len)

pub frame_long : (f : Frame) → HasLongNumbers f → length (text f) ≡ size_bound f
frame_long (frames.ResetStream f) long = three_long 4 (shortest f.id) (shortest f.error_code) (shortest f.final_offset) (long_size f.id long.0) (long_size f.error_code long.1) (long_size f.final_offset long.2)
frame_long (frames.StopSending f) long = two_long 5 f.id f.error_code long.0 long.1
frame_long (frames.Stream s) long = stream_long s long.0 long.1 long.2
frame_long (frames.MaxData n) long = omega (arith, long_size n long)
frame_long (frames.MaxStreamData id n) long = two_long 17 id n long.0 long.1
frame_long (frames.MaxStreams dir n) long = omega (arith, long_size n long)
frame_long (frames.DataBlocked n) long = omega (arith, long_size n long)
frame_long (frames.StreamDataBlocked id n) long = two_long 21 id n long.0 long.1
frame_long (frames.Datagram d) long = datagram_long d long
frame_long _ long = absurd long

pub datagram_length : (d : Datagram) (number : ℕ) → number ≡ size_of (length d.bytes) → length (datagram_text d true) ≡ 1 + number + length d.bytes
datagram_length d number is = omega (arith, is, shortest_length (length d.bytes), length-append (shortest (length d.bytes)) d.bytes)
