-- A frame that is spelled so is read, and a frame that is read is spelled so.
use Rattle.std.proofs.Common.{◌≡◌, ℕ, ◌+◌, ◌<◌, ◌≤◌, Bool, true, false, cond, ◌&&◌, ◌⊎◌, ltb, leb, eqb, List, [], ◌∷◌, ◌++◌, length, take, drop, Option, Some, None, refl, sym, ap, subst, ◌∙◌, arith, inl, inr}
use Rattle.std.proofs.lemmas.Bool.{cases_lt, ltb-false, le-ltb, le-leb, ne_eqb, eqb-true, and_parts, leb-true}
use Rattle.std.proofs.lemmas.List.{take_at, drop_at, take-append-drop, length-append, length-take}
use Rattle.quic_values.specs.declared.ids.Dir.{Dir}
use Rattle.quic_values.specs.declared.ids.Dir.TheVariants as dirs
use Rattle.quic_values.specs.Ids.{dir_bit}
use Rattle.quic_values.specs.Numbers.{BeginsNumber}
use Rattle.quic_wire.specs.declared.frame.Stream.{Stream}
use Rattle.quic_wire.specs.declared.frame.Frame.{Frame}
use Rattle.quic_wire.specs.declared.frame.Frame.TheVariants as frames
use Rattle.quic_wire.specs.Frames.{has_bit, BeginsTwo, BeginsOffset, BeginsContent, BeginsStream, BeginsWith}
use Rattle.quic_wire.specs.Reading.{◌>>=◌, number_at, two_at, offset_at, content_at, split_at, reset_at, stop_at, stream_at, max_data_at, max_stream_data_at, max_streams_at, data_blocked_at, stream_data_blocked_at, datagram_at, frame_at}
use Rattle.quic_wire.proofs.Steps.{IsBytes, IsBytes-drop, IsBytes-rest, bind_some, guard_some, some_is}
use Rattle.quic_wire.proofs.Numbers.{number_begins, number_takes}

-- ---- what is spelled is read

two_begins : (bytes : List ℕ) (m n : ℕ) (rest : List ℕ) → BeginsTwo bytes m n rest → two_at bytes ≡ Some (m, n, rest)
unfolding two_at
two_begins bytes m n rest h = rw (number_begins bytes m h.0 h.1, number_begins h.0 n rest h.2) refl

offset_begins : (with_offset : Bool) (bytes : List ℕ) (n : ℕ) (rest : List ℕ) → BeginsOffset with_offset bytes n rest → offset_at with_offset bytes ≡ Some (n, rest)
unfolding offset_at
offset_begins true bytes n rest h = number_begins bytes n rest h
offset_begins false bytes n rest h = rw (h.0, h.1) refl

cut_again : (xs rest : List ℕ) → split_at (length xs) (xs ++ rest) ≡ Some (xs, rest)
cut_again xs rest = rw (le-ltb (length (xs ++ rest)) (length xs) (omega (arith, length-append xs rest)), take_at xs rest (length xs) refl, drop_at xs rest (length xs) refl) refl

content_begins : (with_length : Bool) (bytes xs rest : List ℕ) → BeginsContent with_length bytes xs rest → content_at with_length bytes ≡ Some (xs, rest)
unfolding content_at
content_begins true bytes xs rest h = rw (number_begins bytes (length xs) (xs ++ rest) h) (cut_again xs rest)
content_begins false bytes xs rest h = rw (h.0, h.1) refl

stream_begins : (kind : ℕ) (bytes : List ℕ) (s : Stream) (rest : List ℕ) → BeginsStream kind bytes s rest → stream_at kind bytes ≡ Some (frames.Stream s, rest)
unfolding stream_at
stream_begins kind bytes s rest h =
    rw (number_begins bytes s.id h.3 h.4, offset_begins (has_bit kind 4) h.3 s.offset h.5 h.6, content_begins (has_bit kind 2) h.5 s.bytes rest h.7, ← h.2) refl

datagram_begins : (kind : ℕ) (bytes xs rest : List ℕ) → BeginsContent (has_bit kind 1) bytes xs rest → datagram_at kind bytes ≡ Some (frames.Datagram (record { bytes = xs }), rest)
unfolding datagram_at
datagram_begins kind bytes xs rest h = rw (content_begins (has_bit kind 1) bytes xs rest h) refl

datagram_frame_begins : (kind : ℕ) (bytes xs rest : List ℕ) → 48 ≤ kind → kind ≤ 49 → BeginsContent (has_bit kind 1) bytes xs rest → frame_at (kind ∷ bytes) ≡ Some (frames.Datagram (record { bytes = xs }), rest)
unfolding frame_at
datagram_frame_begins kind bytes xs rest low high h =
    elim (cases_lt kind 49) [
      | inl lt ↦ let is : kind ≡ 48 = omega arith in rw is (datagram_begins 48 bytes xs rest (rw is at h))
      | inr le ↦ let is : kind ≡ 49 = omega arith in rw is (datagram_begins 49 bytes xs rest (rw is at h))
    ]

max_streams_begins : (dir : Dir) (kind : ℕ) (bytes : List ℕ) (n : ℕ) (rest : List ℕ) → kind ≡ 18 + dir_bit dir → BeginsNumber bytes n rest → frame_at (kind ∷ bytes) ≡ Some (frames.MaxStreams dir n, rest)
unfolding frame_at max_streams_at
max_streams_begins dirs.Bi kind bytes n rest is h = rw (is, number_begins bytes n rest h) refl
max_streams_begins dirs.Uni kind bytes n rest is h = rw (is, number_begins bytes n rest h) refl

pub frame_begins : (bytes : List ℕ) (f : Frame) (rest : List ℕ) → BeginsWith bytes f rest → frame_at bytes ≡ Some (f, rest)
unfolding frame_at reset_at stop_at max_data_at max_stream_data_at data_blocked_at stream_data_blocked_at
frame_begins [] f rest h = absurd h
frame_begins (kind ∷ bytes) (frames.ResetStream f) rest h = rw (h.0, number_begins bytes f.id h.1 h.2, two_begins h.1 f.error_code f.final_offset rest h.3) refl
frame_begins (kind ∷ bytes) (frames.StopSending f) rest h = rw (h.0, two_begins bytes f.id f.error_code rest h.1) refl
frame_begins (kind ∷ bytes) (frames.Stream s) rest h =
    rw (ne_eqb kind 4 (λ e. omega arith), ne_eqb kind 5 (λ e. omega arith), le-leb 8 kind h.0, le-leb kind 15 h.1) (stream_begins kind bytes s rest h)
frame_begins (kind ∷ bytes) (frames.MaxData n) rest h = rw (h.0, number_begins bytes n rest h.1) refl
frame_begins (kind ∷ bytes) (frames.MaxStreamData id n) rest h = rw (h.0, two_begins bytes id n rest h.1) refl
frame_begins (kind ∷ bytes) (frames.MaxStreams dir n) rest h = max_streams_begins dir kind bytes n rest h.0 h.1
frame_begins (kind ∷ bytes) (frames.DataBlocked n) rest h = rw (h.0, number_begins bytes n rest h.1) refl
frame_begins (kind ∷ bytes) (frames.StreamDataBlocked id n) rest h = rw (h.0, two_begins bytes id n rest h.1) refl
frame_begins (kind ∷ bytes) (frames.Datagram d) rest h = datagram_frame_begins kind bytes d.bytes rest h.0 h.1 h.2
frame_begins (kind ∷ bytes) _ rest h = absurd h

-- ---- what is read is spelled so

record TakesTwo (bytes : List ℕ) (m n : ℕ) (rest : List ℕ) : Type 0 where
  begins : BeginsTwo bytes m n rest
  fits : IsBytes rest
  shorter : length rest < length bytes

two_takes : (bytes : List ℕ) (x : ℕ × ℕ × List ℕ) → IsBytes bytes → two_at bytes ≡ Some x → TakesTwo bytes x.0 x.1 x.2
unfolding two_at
two_takes bytes x fits e =
    let a = bind_some (number_at bytes) (λ m. number_at m.1 >>= λ n. Some (m.0, n.0, n.1)) x e in
    let b = bind_some (number_at a.0.1) (λ n. Some (a.0.0, n.0, n.1)) x a.2 in
    let t0 = number_takes bytes a.0.0 a.0.1 fits a.1 in
    let t1 = number_takes a.0.1 b.0.0 b.0.1 t0.fits b.1 in
    let made : ℕ × ℕ × List ℕ = (a.0.0, b.0.0, b.0.1) in
    subst (λ (y : ℕ × ℕ × List ℕ). TakesTwo bytes y.0 y.1 y.2) (some_is made x b.2)
    (record { begins = (a.0.1, t0.begins, t1.begins); fits = t1.fits; shorter = omega (arith, t0.shorter, t1.shorter) })

pub record TakesOffset (with_offset : Bool) (bytes : List ℕ) (n : ℕ) (rest : List ℕ) : Type 0 where
  pub begins : BeginsOffset with_offset bytes n rest
  pub fits : IsBytes rest
  pub shorter : length rest ≤ length bytes

pub offset_takes : (with_offset : Bool) (bytes : List ℕ) (n : ℕ) (rest : List ℕ) → IsBytes bytes → offset_at with_offset bytes ≡ Some (n, rest) → TakesOffset with_offset bytes n rest
unfolding offset_at
offset_takes true bytes n rest fits e =
    let h = number_takes bytes n rest fits e in record { begins = h.begins; fits = h.fits; shorter = omega (arith, h.shorter) }
offset_takes false bytes n rest fits e =
    let is = some_is (0, bytes) (n, rest) e in
    let n-is : 0 ≡ n = ap (λ (p : ℕ × List ℕ). p.0) is in
    let rest-is : bytes ≡ rest = ap (λ (p : ℕ × List ℕ). p.1) is in
    record { begins = (sym n-is, rest-is); fits = rw (← rest-is) fits; shorter = rw (← rest-is) (omega arith) }

pub record TakesContent (with_length : Bool) (bytes xs rest : List ℕ) : Type 0 where
  pub begins : BeginsContent with_length bytes xs rest
  pub fits : IsBytes rest
  pub shorter : length rest ≤ length bytes

IsBytes-nil : IsBytes []
IsBytes-nil i = omega arith

pub content_takes : (with_length : Bool) (bytes xs rest : List ℕ) → IsBytes bytes → content_at with_length bytes ≡ Some (xs, rest) → TakesContent with_length bytes xs rest
unfolding content_at
content_takes true bytes xs rest fits e =
    let a = bind_some (number_at bytes) (λ n. split_at n.0 n.1) (xs, rest) e in
    let n = a.0.0 in
    let after = a.0.1 in
    let g = guard_some (ltb (length after) n) (take n after, drop n after) (xs, rest) a.2 in
    let long : n ≤ length after = ltb-false _ _ g.0 in
    let xs-is : take n after ≡ xs = ap (λ (p : List ℕ × List ℕ). p.0) g.1 in
    let rest-is : drop n after ≡ rest = ap (λ (p : List ℕ × List ℕ). p.1) g.1 in
    let h = number_takes bytes n after fits a.1 in
    let front : length (take n after) ≡ n = omega (arith, length-take n after) in
    let len : n ≡ length xs = sym front ∙ ap length xs-is in
    let whole : after ≡ xs ++ rest = sym (take-append-drop n after) ∙ ap (λ (p : List ℕ). p ++ drop n after) xs-is ∙ ap (λ (p : List ℕ). xs ++ p) rest-is in
    record {
      begins = subst (λ k. BeginsNumber bytes k (xs ++ rest)) len (subst (λ p. BeginsNumber bytes n p) whole h.begins);
      fits = subst IsBytes rest-is (IsBytes-drop n after h.fits);
      shorter = omega (arith, h.shorter, length-append xs rest, ap length whole);
    }
content_takes false bytes xs rest fits e =
    let is = some_is (bytes, []) (xs, rest) e in
    let xs-is : bytes ≡ xs = ap (λ (p : List ℕ × List ℕ). p.0) is in
    let rest-is : [] ≡ rest = ap (λ (p : List ℕ × List ℕ). p.1) is in
    record { begins = (xs-is, sym rest-is); fits = rw (← rest-is) IsBytes-nil; shorter = rw (← rest-is) (omega arith) }

pub record TakesFrame (bytes : List ℕ) (f : Frame) (rest : List ℕ) : Type 0 where
  pub begins : BeginsWith bytes f rest
  pub fits : IsBytes rest
  pub shorter : length rest < length bytes

-- a frame of one number
one_takes : (kind : ℕ) (make : ℕ → Frame) (bytes : List ℕ) (x : Frame × List ℕ) → ((n : ℕ) (rest : List ℕ) → BeginsNumber bytes n rest → BeginsWith (kind ∷ bytes) (make n) rest) → IsBytes bytes
    → (number_at bytes >>= λ n. Some (make n.0, n.1)) ≡ Some x → TakesFrame (kind ∷ bytes) x.0 x.1
one_takes kind make bytes x is fits e =
    let a = bind_some (number_at bytes) (λ n. Some (make n.0, n.1)) x e in
    let t = number_takes bytes a.0.0 a.0.1 fits a.1 in
    let made : Frame × List ℕ = (make a.0.0, a.0.1) in
    subst (λ (y : Frame × List ℕ). TakesFrame (kind ∷ bytes) y.0 y.1) (some_is made x a.2) (record { begins = is a.0.0 a.0.1 t.begins; fits = t.fits; shorter = omega (arith, t.shorter) })

-- a frame of two numbers
of_two_takes : (kind : ℕ) (make : ℕ → ℕ → Frame) (bytes : List ℕ) (x : Frame × List ℕ) → ((m n : ℕ) (rest : List ℕ) → BeginsTwo bytes m n rest → BeginsWith (kind ∷ bytes) (make m n) rest) → IsBytes bytes
    → (two_at bytes >>= λ n. Some (make n.0 n.1, n.2)) ≡ Some x → TakesFrame (kind ∷ bytes) x.0 x.1
of_two_takes kind make bytes x is fits e =
    let a = bind_some (two_at bytes) (λ n. Some (make n.0 n.1, n.2)) x e in
    let t = two_takes bytes a.0 fits a.1 in
    let made : Frame × List ℕ = (make a.0.0 a.0.1, a.0.2) in
    subst (λ (y : Frame × List ℕ). TakesFrame (kind ∷ bytes) y.0 y.1) (some_is made x a.2) (record { begins = is a.0.0 a.0.1 a.0.2 t.begins; fits = t.fits; shorter = omega (arith, t.shorter) })

reset_takes : (bytes : List ℕ) (x : Frame × List ℕ) → IsBytes bytes → reset_at bytes ≡ Some x → TakesFrame (4 ∷ bytes) x.0 x.1
unfolding reset_at
reset_takes bytes x fits e =
    let a = bind_some (number_at bytes) (λ id. two_at id.1 >>= λ end. Some (frames.ResetStream (record { id = id.0; error_code = end.0; final_offset = end.1 }), end.2)) x e in
    let b = bind_some (two_at a.0.1) (λ end. Some (frames.ResetStream (record { id = a.0.0; error_code = end.0; final_offset = end.1 }), end.2)) x a.2 in
    let t0 = number_takes bytes a.0.0 a.0.1 fits a.1 in
    let t1 = two_takes a.0.1 b.0 t0.fits b.1 in
    let made : Frame × List ℕ = (frames.ResetStream (record { id = a.0.0; error_code = b.0.0; final_offset = b.0.1 }), b.0.2) in
    subst (λ (y : Frame × List ℕ). TakesFrame (4 ∷ bytes) y.0 y.1) (some_is made x b.2)
    (record { begins = (refl, a.0.1, t0.begins, t1.begins); fits = t1.fits; shorter = omega (arith, t0.shorter, t1.shorter) })

stop_takes : (bytes : List ℕ) (x : Frame × List ℕ) → IsBytes bytes → stop_at bytes ≡ Some x → TakesFrame (5 ∷ bytes) x.0 x.1
unfolding stop_at
stop_takes bytes x fits e = of_two_takes 5 (λ m n. frames.StopSending (record { id = m; error_code = n })) bytes x (λ m n rest h. (refl, h)) fits e

stream_takes : (kind : ℕ) (bytes : List ℕ) (x : Frame × List ℕ) → IsBytes bytes → 8 ≤ kind → kind ≤ 15 → stream_at kind bytes ≡ Some x → TakesFrame (kind ∷ bytes) x.0 x.1
unfolding stream_at
stream_takes kind bytes x fits low high e =
    let o = has_bit kind 4 in
    let l = has_bit kind 2 in
    let fin = has_bit kind 1 in
    let a = bind_some (number_at bytes) (λ id. offset_at o id.1 >>= λ offset. content_at l offset.1 >>= λ content. Some (frames.Stream (record { id = id.0; offset = offset.0; fin = fin; bytes = content.0 }), content.1)) x e in
    let b = bind_some (offset_at o a.0.1) (λ offset. content_at l offset.1 >>= λ content. Some (frames.Stream (record { id = a.0.0; offset = offset.0; fin = fin; bytes = content.0 }), content.1)) x a.2 in
    let c = bind_some (content_at l b.0.1) (λ content. Some (frames.Stream (record { id = a.0.0; offset = b.0.0; fin = fin; bytes = content.0 }), content.1)) x b.2 in
    let t0 = number_takes bytes a.0.0 a.0.1 fits a.1 in
    let t1 = offset_takes o a.0.1 b.0.0 b.0.1 t0.fits b.1 in
    let t2 = content_takes l b.0.1 c.0.0 c.0.1 t1.fits c.1 in
    let made : Frame × List ℕ = (frames.Stream (record { id = a.0.0; offset = b.0.0; fin = fin; bytes = c.0.0 }), c.0.1) in
    subst (λ (y : Frame × List ℕ). TakesFrame (kind ∷ bytes) y.0 y.1) (some_is made x c.2)
    (record {
      begins = (low, high, refl, a.0.1, t0.begins, b.0.1, t1.begins, t2.begins);
      fits = t2.fits;
      shorter = omega (arith, t0.shorter, t1.shorter, t2.shorter);
    })

max_data_takes : (bytes : List ℕ) (x : Frame × List ℕ) → IsBytes bytes → max_data_at bytes ≡ Some x → TakesFrame (16 ∷ bytes) x.0 x.1
unfolding max_data_at
max_data_takes bytes x fits e = one_takes 16 (λ n. frames.MaxData n) bytes x (λ n rest h. (refl, h)) fits e

max_stream_data_takes : (bytes : List ℕ) (x : Frame × List ℕ) → IsBytes bytes → max_stream_data_at bytes ≡ Some x → TakesFrame (17 ∷ bytes) x.0 x.1
unfolding max_stream_data_at
max_stream_data_takes bytes x fits e = of_two_takes 17 (λ id n. frames.MaxStreamData id n) bytes x (λ m n rest h. (refl, h)) fits e

max_streams_takes : (dir : Dir) (bytes : List ℕ) (x : Frame × List ℕ) → IsBytes bytes → max_streams_at dir bytes ≡ Some x → TakesFrame ((18 + dir_bit dir) ∷ bytes) x.0 x.1
unfolding max_streams_at
max_streams_takes dir bytes x fits e = one_takes (18 + dir_bit dir) (λ n. frames.MaxStreams dir n) bytes x (λ n rest h. (refl, h)) fits e

data_blocked_takes : (bytes : List ℕ) (x : Frame × List ℕ) → IsBytes bytes → data_blocked_at bytes ≡ Some x → TakesFrame (20 ∷ bytes) x.0 x.1
unfolding data_blocked_at
data_blocked_takes bytes x fits e = one_takes 20 (λ n. frames.DataBlocked n) bytes x (λ n rest h. (refl, h)) fits e

stream_data_blocked_takes : (bytes : List ℕ) (x : Frame × List ℕ) → IsBytes bytes → stream_data_blocked_at bytes ≡ Some x → TakesFrame (21 ∷ bytes) x.0 x.1
unfolding stream_data_blocked_at
stream_data_blocked_takes bytes x fits e = of_two_takes 21 (λ id n. frames.StreamDataBlocked id n) bytes x (λ m n rest h. (refl, h)) fits e

datagram_takes : (kind : ℕ) (bytes : List ℕ) (x : Frame × List ℕ) → IsBytes bytes → 48 ≤ kind → kind ≤ 49 → datagram_at kind bytes ≡ Some x → TakesFrame (kind ∷ bytes) x.0 x.1
unfolding datagram_at
datagram_takes kind bytes x fits low high e =
    let l = has_bit kind 1 in
    let a = bind_some (content_at l bytes) (λ content. Some (frames.Datagram (record { bytes = content.0 }), content.1)) x e in
    let t = content_takes l bytes a.0.0 a.0.1 fits a.1 in
    let made : Frame × List ℕ = (frames.Datagram (record { bytes = a.0.0 }), a.0.1) in
    subst (λ (y : Frame × List ℕ). TakesFrame (kind ∷ bytes) y.0 y.1) (some_is made x a.2) (record { begins = (low, high, t.begins); fits = t.fits; shorter = omega (arith, t.shorter) })

-- which way a test went
chosen : {A : Type 0} (b : Bool) (x y z : Option A) → cond b x y ≡ z → ((b ≡ true) × (x ≡ z)) ⊎ ((b ≡ false) × (y ≡ z))
chosen true x y z e = inl (refl, e)
chosen false x y z e = inr (refl, e)

-- what was read of the types from 10 on
rest_takes : (kind : ℕ) (bytes : List ℕ) (x : Frame × List ℕ) → IsBytes bytes
    → cond (eqb kind 16) (max_data_at bytes) (cond (eqb kind 17) (max_stream_data_at bytes) (cond (eqb kind 18) (max_streams_at dirs.Bi bytes) (cond (eqb kind 19) (max_streams_at dirs.Uni bytes)
    (cond (eqb kind 20) (data_blocked_at bytes) (cond (eqb kind 21) (stream_data_blocked_at bytes) (cond (leb 48 kind && leb kind 49) (datagram_at kind bytes) None)))))) ≡ Some x
    → TakesFrame (kind ∷ bytes) x.0 x.1
rest_takes kind bytes x fits e =
    elim (chosen (eqb kind 16) _ _ (Some x) e) [
      | inl is ↦ let k = eqb-true kind 16 is.0 in rw k (max_data_takes bytes x fits is.1)
      | inr e1 ↦ elim (chosen (eqb kind 17) _ _ (Some x) e1.1) [
        | inl is ↦ let k = eqb-true kind 17 is.0 in rw k (max_stream_data_takes bytes x fits is.1)
        | inr e2 ↦ elim (chosen (eqb kind 18) _ _ (Some x) e2.1) [
          | inl is ↦ let k = eqb-true kind 18 is.0 in rw k (max_streams_takes dirs.Bi bytes x fits is.1)
          | inr e3 ↦ elim (chosen (eqb kind 19) _ _ (Some x) e3.1) [
            | inl is ↦ let k = eqb-true kind 19 is.0 in rw k (max_streams_takes dirs.Uni bytes x fits is.1)
            | inr e4 ↦ elim (chosen (eqb kind 20) _ _ (Some x) e4.1) [
              | inl is ↦ let k = eqb-true kind 20 is.0 in rw k (data_blocked_takes bytes x fits is.1)
              | inr e5 ↦ elim (chosen (eqb kind 21) _ _ (Some x) e5.1) [
                | inl is ↦ let k = eqb-true kind 21 is.0 in rw k (stream_data_blocked_takes bytes x fits is.1)
                | inr e6 ↦ elim (chosen (leb 48 kind && leb kind 49) _ _ (Some x) e6.1) [
                  | inl is ↦ let p = and_parts (leb 48 kind) (leb kind 49) is.0 in datagram_takes kind bytes x fits (leb-true 48 kind p.0) (leb-true kind 49 p.1) is.1
                  | inr none ↦ absurd (let h = none.1 in cc)
                ]
              ]
            ]
          ]
        ]
      ]
    ]

pub frame_takes : (bytes : List ℕ) (x : Frame × List ℕ) → IsBytes bytes → frame_at bytes ≡ Some x → TakesFrame bytes x.0 x.1
unfolding frame_at
frame_takes [] x fits e = absurd cc
frame_takes (kind ∷ bytes) x fits e =
    let more = IsBytes-rest kind bytes fits in
    elim (chosen (eqb kind 4) _ _ (Some x) e) [
      | inl is ↦ let k = eqb-true kind 4 is.0 in rw k (reset_takes bytes x more is.1)
      | inr e1 ↦ elim (chosen (eqb kind 5) _ _ (Some x) e1.1) [
        | inl is ↦ let k = eqb-true kind 5 is.0 in rw k (stop_takes bytes x more is.1)
        | inr e2 ↦ elim (chosen (leb 8 kind && leb kind 15) _ _ (Some x) e2.1) [
          | inl is ↦ let p = and_parts (leb 8 kind) (leb kind 15) is.0 in stream_takes kind bytes x more (leb-true 8 kind p.0) (leb-true kind 15 p.1) is.1
          | inr e3 ↦ rest_takes kind bytes x more e3.1
        ]
      ]
    ]
