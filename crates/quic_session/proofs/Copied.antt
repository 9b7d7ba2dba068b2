-- Chunks that are copied out one behind another.
use Rattle.std.proofs.Common.{◌≡◌, ◌+◌, ◌*◌, ◌≤◌, ◌<◌, ℕ, Bool, true, List, [], ◌∷◌, ◌++◌, length, take, drop, get_or, Some, refl, sym, ap, ◌∙◌, subst, arith}
use Rattle.std.specs.Prelude.{map}
use Rattle.std.specs.List.{concat}
use Rattle.std.proofs.lemmas.List.{map-append, append_assoc, append-nil, length-append, drop-drop, nil_from_length, take_more, take-append-drop}
use Rattle.std.proofs.lemmas.List.Folds.{concat-append}
use Rattle.std.proofs.lemmas.Option.{same_Some}
use Rattle.std.proofs.Math.Seq.{drop-append_seam, take-append_seam}
use Rattle.quic_assembler.specs.declared.chunk.Chunk.{Chunk}
use Rattle.quic_receiving.specs.Half.{Half}
use Rattle.quic_receiving.specs.Calls.{Given}
use Rattle.quic_history.specs.World.{World}
use Rattle.std.proofs.Math.Nat.{mul-div-le, mul-le-mul_right}
use Rattle.quic_history.specs.declared.progress.LastAnswer.{LastAnswer}
use Rattle.quic_history.specs.declared.progress.LastAnswer.TheVariants as last_answer
use Rattle.quic_history.specs.Reading.{bytes_in, GivesChunks, IsCountOf}
use Rattle.quic_history.proofs.WorldSteps.{receive-there}
use Rattle.quic_session.specs.Reading.{AreFew, chunk_bytes, offset_of_first, AreConsecutive, chunks_for, share_of}

abbrev bytes_of : Chunk → List ℕ
bytes_of c = c.bytes

pub bytes-append : (xs ys : List Chunk) → bytes_in (xs ++ ys) ≡ bytes_in xs + bytes_in ys
bytes-append [] ys = omega arith
bytes-append (x ∷ xs) ys = omega (arith, bytes-append xs ys)

pub bytes-length : (xs : List Chunk) → length (chunk_bytes xs) ≡ bytes_in xs
bytes-length [] = refl
bytes-length (x ∷ xs) = length-append x.bytes (chunk_bytes xs) ∙ ap (λ n. length x.bytes + n) (bytes-length xs)

bytes-push : (xs : List Chunk) (x : Chunk) → chunk_bytes (xs ++ x ∷ []) ≡ chunk_bytes xs ++ x.bytes
bytes-push xs x = ap concat (map-append bytes_of xs (x ∷ [])) ∙ concat-append (map bytes_of xs) (x.bytes ∷ []) ∙ ap (λ l. chunk_bytes xs ++ l) (append-nil x.bytes)

taken : (xs : List Chunk) (i : ℕ) (x : Chunk) → i < length xs → x ≡ get_or xs i x → take (i + 1) xs ≡ take i xs ++ x ∷ []
taken xs i x h e = take_more xs i x h ∙ ap (λ y. take i xs ++ y ∷ []) (sym e)

-- how many bytes the chunks up to an index have, and that these are no more than all have
pub count-step : (xs : List Chunk) (i : ℕ) (x : Chunk) → i < length xs → x ≡ get_or xs i x → bytes_in (take (i + 1) xs) ≡ bytes_in (take i xs) + length x.bytes
count-step xs i x h e = omega (arith, ap bytes_in (taken xs i x h e), bytes-append (take i xs) (x ∷ []))

pub count-within : (xs : List Chunk) (n : ℕ) → bytes_in (take n xs) ≤ bytes_in xs
count-within xs n = omega (arith, ap bytes_in (take-append-drop n xs), bytes-append (take n xs) (drop n xs))

-- those of one more chunk are put behind
pub copied-step : (xs : List Chunk) (i : ℕ) (x : Chunk) (count : ℕ) (first now bytes new : List ℕ) → i < length xs → x ≡ get_or xs i x → count ≡ bytes_in (take i xs) → bytes ≡ x.bytes
    → now ≡ chunk_bytes (take i xs) ++ drop count first → new ≡ take count now ++ (bytes ++ drop (count + length bytes) now) → new ≡ chunk_bytes (take (i + 1) xs) ++ drop (count + length bytes) first
copied-step xs i x count first now bytes new h e counted b n s =
    let front = chunk_bytes (take i xs) in
    let long : length front ≡ count = bytes-length (take i xs) ∙ sym counted in
    let before : take count now ≡ front = ap (take count) n ∙ ap (λ k. take k (front ++ drop count first)) (sym long) ∙ take-append_seam front (drop count first) in
    let rest : drop count now ≡ drop count first = ap (drop count) n ∙ ap (λ k. drop k (front ++ drop count first)) (sym long) ∙ drop-append_seam front (drop count first) in
    let behind : drop (count + length bytes) now ≡ drop (count + length bytes) first = sym (drop-drop (length bytes) count now) ∙ ap (drop (length bytes)) rest ∙ drop-drop (length bytes) count first in
    let more : front ++ bytes ≡ chunk_bytes (take (i + 1) xs) = ap (λ l. front ++ l) b ∙ sym (bytes-push (take i xs) x) ∙ ap chunk_bytes (sym (taken xs i x h e)) in
    s ∙ ap (λ l. l ++ (bytes ++ drop (count + length bytes) now)) before ∙ ap (λ l. front ++ (bytes ++ l)) behind
    ∙ sym (append_assoc front bytes (drop (count + length bytes) first)) ∙ ap (λ l. l ++ drop (count + length bytes) first) more

-- each chunk that was given has no more bytes than were asked for
pub given-within : (w v : World) (id most : ℕ) (ordered : Bool) (cs : List Chunk) → GivesChunks w id most ordered cs v → bytes_in cs ≤ length cs * most
given-within w v id most ordered [] g = omega arith
given-within w v id most ordered (c ∷ cs) (u, r, g) = omega (arith, given-within u v id most ordered cs g, r.reads.1.limit)

-- and there are no more chunks than were asked for
pub count-most : (times n : ℕ) (last : LastAnswer) → IsCountOf times last n → n ≤ times
count-most times n last_answer.Blocked h = omega (arith, h)
count-most times n last_answer.Ended h = omega (arith, h)
count-most times n (last_answer.Reset code) h = omega (arith, h)
count-most times n last_answer.Memory h = omega (arith, h)
count-most times n last_answer.More h = omega (arith, h)

-- of one that was asked for, there is one at most, and it is no longer than that
pub given-few : (w v : World) (id most : ℕ) (ordered : Bool) (cs : List Chunk) → GivesChunks w id most ordered cs v → length cs ≤ 1 → AreFew cs most
given-few w v id most ordered [] g few = tt
given-few w v id most ordered (c ∷ cs) (u, r, g) few = (nil_from_length cs (omega (arith, few)), r.reads.1.limit)

-- so all fit where each has its share
pub given-fit : (w v : World) (id size : ℕ) (ordered : Bool) (cs : List Chunk) (last : LastAnswer) → GivesChunks w id (share_of size) ordered cs v → IsCountOf (chunks_for size) last (length cs) → bytes_in cs ≤ size
given-fit w v id size ordered cs last g n =
    let times = chunks_for size in
    omega (arith, given-within w v id (share_of size) ordered cs g, mul-le-mul_right (share_of size) (count-most times (length cs) last n), mul-div-le size times)

-- those of ordered reads stand one behind another in the stream
in-order : (w v : World) (id most at : ℕ) (cs : List Chunk) → ((h : Half) → w.receive id ≡ Some h → h.buffer.bytes_read ≡ at) → GivesChunks w id most true cs v → AreConsecutive at cs
in-order w v id most at [] known g = tt
in-order w v id most at (c ∷ cs) known (u, r, g) =
    let given : Given r.old.buffer most c r.new.buffer = r.reads.1 in
    let there : u.receive id ≡ Some r.new = ap (λ (x : World). x.receive id) r.is ∙ receive-there w id (Some r.new) in
    let next : (h : Half) → u.receive id ≡ Some h → h.buffer.bytes_read ≡ at + length c.bytes =
    λ h here. ap (λ (x : Half). x.buffer.bytes_read) (same_Some h r.new (sym here ∙ there)) ∙ given.bytes_read ∙ ap (λ n. n + length c.bytes) (known r.old r.half) in
    (given.start r.mode ∙ known r.old r.half, in-order u v id most (at + length c.bytes) cs next g)

pub given-order : (w v : World) (id most : ℕ) (cs : List Chunk) → GivesChunks w id most true cs v → AreConsecutive (offset_of_first cs) cs
given-order w v id most [] g = tt
given-order w v id most (c ∷ cs) (u, r, g) =
    let known : (h : Half) → w.receive id ≡ Some h → h.buffer.bytes_read ≡ r.old.buffer.bytes_read = λ h here. ap (λ (x : Half). x.buffer.bytes_read) (same_Some h r.old (sym here ∙ r.half)) in
    let all = in-order w v id most r.old.buffer.bytes_read (c ∷ cs) known (u, r, g) in
    let P : ℕ → Type 0 = λ at. AreConsecutive at (c ∷ cs) in
    subst P (sym all.0) all
