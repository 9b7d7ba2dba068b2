-- Slices that are put one after another.
use Rattle.std.proofs.Common.{◌≡◌, ◌+◌, ◌<◌, ◌≤◌, ℕ, List, [], ◌∷◌, ◌++◌, length, take, drop, get_or, Result, Ok, Err, sym, ap, ◌∙◌, arith}
use Rattle.std.specs.Prelude.{map, slice_set, OnOk}
use Rattle.std.proofs.lemmas.List.{append_assoc, drop_more, length-append, length-drop, length-map, length-take, map_more, set_at}
use Rattle.quic_assembler.specs.declared.chunk.Chunk.{Chunk}
use Rattle.quic_receiving.specs.declared.errors.ReadableError.{ReadableError}
use Rattle.quic_session.specs.declared.session.Session.{Session}
use Rattle.quic_session.specs.declared.application.ReadInto.{ReadInto}
use Rattle.quic_session.specs.declared.lent_bytes.LentBytes.{LentBytes}
use Rattle.quic_session.specs.Lending.{lent_bytes, ReadsLent}
use Rattle.quic_streams_c.specs.declared.chunks.RawSlice.{RawSlice}
use Rattle.quic_streams_c.specs.Slices.{raw_slice}

front-length : (lent : List LentBytes) (i : ℕ) → i ≤ length lent → length (map raw_slice (take i lent)) ≡ i
front-length lent i inside = length-map (take i lent) raw_slice ∙ omega (arith, length-take i lent)

-- there are as many as before
pub as-many : (lent : List LentBytes) (first now : List RawSlice) (i : ℕ) → i ≤ length lent → length lent ≤ length first → now ≡ map raw_slice (take i lent) ++ drop i first → length now ≡ length first
as-many lent first now i inside fits h =
    let front = map raw_slice (take i lent) in
    omega (arith, ap length h, length-append front (drop i first), front-length lent i inside, length-drop i first)

-- one more is put
pub put-step : (lent : List LentBytes) (first now : List RawSlice) (i : ℕ) (x : LentBytes) → i < length lent → length lent ≤ length first → x ≡ get_or lent i x → now ≡ map raw_slice (take i lent) ++ drop i first
    → slice_set now i (raw_slice x) ≡ map raw_slice (take (i + 1) lent) ++ drop (i + 1) first
put-step lent first now i x inside fits is h =
    let front = map raw_slice (take i lent) in
    let long : length front ≡ i = front-length lent i (omega arith) in
    let y = raw_slice x in
    ap (λ l. slice_set l i y) (h ∙ ap (λ l. front ++ l) (drop_more first i y (omega arith))) ∙ set_at front _ _ y i long ∙ sym (append_assoc front (y ∷ []) _)
    ∙ ap (λ l. l ++ drop (i + 1) first) (ap (λ z. front ++ raw_slice z ∷ []) is ∙ sym (map_more raw_slice lent i x inside))

-- no more is lent than there are slices
pub lends-few : (s : Session) (id most : ℕ) (answer : Result ReadInto ReadableError) (t : Session) → ReadsLent s id most answer t → OnOk answer (length t.lent.items ≤ most)
lends-few s id most (Ok r) t reads =
    let as-chunks : length t.lent.items ≡ length reads.chunks = sym (length-map t.lent.items lent_bytes) ∙ ap length reads.lent ∙ length-map reads.chunks (λ (c : Chunk). c.bytes) in
    omega (arith, as-chunks, reads.few)
lends-few s id most (Err error) t reads = tt
