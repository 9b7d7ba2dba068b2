-- A STREAM frame that ends with a payload.
use Rattle.std.proofs.Common.{◌≡◌, ℕ, ◌+◌, ◌-◌, ◌≤◌, Bool, true, false, List, [], ◌∷◌, ◌++◌, length, drop, Some, refl, sym, ap, ◌∙◌, subst, arith, append_assoc, length-append}
use Rattle.std.specs.Prelude.{slice_index_or}
use Rattle.std.proofs.lemmas.List.{append-nil, drop-drop}
use Rattle.std.proofs.Math.Seq.{drop-append_seam}
use Rattle.quic_wire.specs.declared.frame.Frame.{Frame}
use Rattle.quic_wire.specs.declared.frame.Frame.TheVariants as frames
use Rattle.quic_values.specs.Numbers.{BeginsNumber}
use Rattle.quic_wire.specs.declared.reading.LastStream.{LastStream}
use Rattle.quic_wire.specs.Frames.{BeginsTwo, BeginsOffset, BeginsContent, BeginsWith, AreFrames, has_bit}
use Rattle.quic_wire.specs.Reading.{number_at, offset_at, content_at, AreLast, last_frame}
use Rattle.quic_wire.proofs.Steps.{IsBytes, IsBytes-rest}
use Rattle.quic_wire.proofs.Numbers.{number_takes}
use Rattle.quic_wire.proofs.Read.{offset_takes, content_takes}
use Rattle.quic_wire.proofs.Joins.{same}

pub behind_number : (bytes : List ℕ) (n : ℕ) (rest : List ℕ) → IsBytes bytes → number_at bytes ≡ Some (n, rest) → AreLast rest bytes
behind_number bytes n rest fits e = let t = number_takes bytes n rest fits e in (t.begins.0, t.begins.2)

behind_offset : (o : Bool) (bytes : List ℕ) (n : ℕ) (rest : List ℕ) → BeginsOffset o bytes n rest → AreLast rest bytes
behind_offset true bytes n rest h = (h.0, h.2)
behind_offset false bytes n rest h = ([], h.1)

pub behind_both : (a b c : List ℕ) → AreLast b a → AreLast c b → AreLast c a
behind_both a b c f g = (f.0 ++ g.0, f.1 ∙ (ap (λ (xs : List ℕ). f.0 ++ xs) g.1 ∙ sym (append_assoc f.0 g.0 c)))

pub behind_length : (rest bytes : List ℕ) → AreLast rest bytes → length rest ≤ length bytes
behind_length rest bytes h = let l = ap length h.1 in omega (arith, l, length-append h.0 rest)

behind_dropped : (rest bytes : List ℕ) → AreLast rest bytes → drop (length bytes - length rest) bytes ≡ rest
behind_dropped rest bytes h =
    let l = ap length h.1 in
    let n : length bytes - length rest ≡ length h.0 = omega (arith, l, length-append h.0 rest) in
    ap (λ (k : ℕ). drop k bytes) n ∙ (ap (drop (length h.0)) h.1 ∙ drop-append_seam h.0 rest)

-- more bytes before the last ones, and as many more that are skipped, leave the same
pub dropped_behind : (rest bytes : List ℕ) (n : ℕ) → AreLast rest bytes → drop (n + (length bytes - length rest)) bytes ≡ drop n rest
dropped_behind rest bytes n h =
    let d = behind_dropped rest bytes h in
    ap (λ (k : ℕ). drop k bytes) (omega arith) ∙ (sym (drop-drop n (length bytes - length rest) bytes) ∙ ap (drop n) d)

behind_one : (bytes : List ℕ) (n : ℕ) (rest : List ℕ) → BeginsNumber bytes n rest → AreLast rest bytes
behind_one bytes n rest h = (h.0, h.2)

behind_two : (bytes : List ℕ) (m n : ℕ) (rest : List ℕ) → BeginsTwo bytes m n rest → AreLast rest bytes
behind_two bytes m n rest h = behind_both bytes h.0 rest (behind_one bytes m h.0 h.1) (behind_one h.0 n rest h.2)

behind_content : (l : Bool) (bytes content rest : List ℕ) → BeginsContent l bytes content rest → AreLast rest bytes
behind_content true bytes content rest h = behind_both bytes (content ++ rest) rest (behind_one bytes (length content) (content ++ rest) h) (content, refl)
behind_content false bytes content rest h = (bytes, rw h.1 (sym (append-nil bytes)))

behind_kind : (kind : ℕ) (bytes rest : List ℕ) → AreLast rest bytes → AreLast rest (kind ∷ bytes)
behind_kind kind bytes rest h = (kind ∷ h.0, ap (λ (xs : List ℕ). kind ∷ xs) h.1)

behind_fields : (kind : ℕ) (bytes : List ℕ) (f : Frame) (rest : List ℕ) → BeginsWith (kind ∷ bytes) f rest → AreLast rest bytes
behind_fields kind bytes (frames.ResetStream f) rest h = behind_both bytes h.1 rest (behind_one bytes f.id h.1 h.2) (behind_two h.1 f.error_code f.final_offset rest h.3)
behind_fields kind bytes (frames.StopSending f) rest h = behind_two bytes f.id f.error_code rest h.1
behind_fields kind bytes (frames.Stream s) rest h =
    behind_both bytes h.3 rest (behind_one bytes s.id h.3 h.4)
    (behind_both h.3 h.5 rest (behind_offset (has_bit kind 4) h.3 s.offset h.5 h.6) (behind_content (has_bit kind 2) h.5 s.bytes rest h.7))
behind_fields kind bytes (frames.MaxData n) rest h = behind_one bytes n rest h.1
behind_fields kind bytes (frames.MaxStreamData id n) rest h = behind_two bytes id n rest h.1
behind_fields kind bytes (frames.MaxStreams dir n) rest h = behind_one bytes n rest h.1
behind_fields kind bytes (frames.DataBlocked n) rest h = behind_one bytes n rest h.1
behind_fields kind bytes (frames.StreamDataBlocked id n) rest h = behind_two bytes id n rest h.1
behind_fields kind bytes (frames.Datagram d) rest h = behind_content (has_bit kind 1) bytes d.bytes rest h.2
behind_fields kind bytes _ rest h = absurd h

-- what follows a frame are the last bytes
pub behind_frame : (bytes : List ℕ) (f : Frame) (rest : List ℕ) → BeginsWith bytes f rest → AreLast rest bytes
behind_frame [] f rest h = absurd h
behind_frame (kind ∷ bytes) f rest h = behind_kind kind bytes rest (behind_fields kind bytes f rest h)

-- the data that a whole frame ends with lie behind its kind
pub whole_behind : (bytes after rest content : List ℕ) (id offset : ℕ) → IsBytes bytes → 1 ≤ length bytes → number_at (drop 1 bytes) ≡ Some (id, after) → offset_at (has_bit (slice_index_or bytes 0 0) 4) after ≡ Some (offset, rest) → AreLast content rest → AreLast content bytes
whole_behind [] after rest content id offset fits some e0 e1 h = absurd (omega arith)
whole_behind (kind ∷ fields) after rest content id offset fits some e0 e1 h =
    let t0 = number_takes fields id after (IsBytes-rest kind fields fits) e0 in
    let t1 = offset_takes (has_bit kind 4) after offset rest t0.fits e1 in
    let b = behind_both fields after content (t0.begins.0, t0.begins.2) (behind_both after rest content (behind_offset (has_bit kind 4) after offset rest t1.begins) h) in
    behind_both (kind ∷ fields) fields content (kind ∷ [], refl) b

pub whole_begins : (bytes after rest content : List ℕ) (id offset : ℕ) → IsBytes bytes → 1 ≤ length bytes → 8 ≤ slice_index_or bytes 0 0 → slice_index_or bytes 0 0 ≤ 15 → number_at (drop 1 bytes) ≡ Some (id, after) → offset_at (has_bit (slice_index_or bytes 0 0) 4) after ≡ Some (offset, rest)
    → content_at (has_bit (slice_index_or bytes 0 0) 2) rest ≡ Some (content, []) → AreLast content rest → BeginsWith bytes (frames.Stream (record { id = id; offset = offset; fin = has_bit (slice_index_or bytes 0 0) 1; bytes = drop (length bytes - length content) bytes })) []
whole_begins [] after rest content id offset fits some low high e0 e1 e2 h = absurd (omega arith)
whole_begins (kind ∷ fields) after rest content id offset fits some low high e0 e1 e2 h =
    let t0 = number_takes fields id after (IsBytes-rest kind fields fits) e0 in
    let t1 = offset_takes (has_bit kind 4) after offset rest t0.fits e1 in
    let t2 = content_takes (has_bit kind 2) rest content [] t1.fits e2 in
    let d = behind_dropped content (kind ∷ fields) (whole_behind (kind ∷ fields) after rest content id offset fits some e0 e1 h) in
    subst (λ (xs : List ℕ). BeginsWith (kind ∷ fields) (frames.Stream (record { id = id; offset = offset; fin = has_bit kind 1; bytes = xs })) []) (sym d)
    (low, high, refl, after, t0.begins, rest, t1.begins, t2.begins)

pub one_frame : (bytes : List ℕ) (f : Frame) → BeginsWith bytes f [] → AreFrames bytes (f ∷ [])
one_frame bytes f h = ([], h, refl)

pub only_frame : (bytes : List ℕ) (f : Frame) (fs : List Frame) → BeginsWith bytes f [] → AreFrames bytes fs → fs ≡ f ∷ []
only_frame bytes f fs h is = same bytes fs (f ∷ []) is (one_frame bytes f h)

-- a frame with more bytes before its data, and as many more that are skipped, is the same
pub same_frame : (w : LastStream) (rest bytes : List ℕ) → AreLast rest bytes
    → last_frame (record { id = w.id; offset = w.offset; fin = w.fin; skip = w.skip + (length bytes - length rest) }) bytes ≡ last_frame w rest
same_frame w rest bytes h = ap (λ (xs : List ℕ). frames.Stream (record { id = w.id; offset = w.offset; fin = w.fin; bytes = xs })) (dropped_behind rest bytes w.skip h)
