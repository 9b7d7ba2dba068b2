-- Lemmas on bytes that are parted at offsets.
use Rattle.std.proofs.Common.{◌≡◌, ◌∙◌, ℕ, ◌+◌, ◌-◌, ◌<◌, ◌≤◌, zero, suc, Bool, true, false, ◌&&◌, List, [], ◌∷◌, ◌++◌, length, drop, refl, sym, ap, subst, arith, length-drop}
use Rattle.std.specs.Prelude.{Option, Some, None, IfSome, IfNone, slice_get, not, ◌==◌}
use Rattle.std.specs.Option.{option_eq}
use Rattle.std.specs.List.{slice_range}
use Rattle.std.specs.Cmp.Lexicographic.{pointwise}
use Rattle.std.proofs.lemmas.List.{append-nil, append_assoc, take-append-le, drop-append-le, take_all}
use Rattle.std.proofs.Math.Seq.{drop-append_seam}
use Rattle.quic_values.specs.Chunks.{parted_at, ReachesFrom}

pub length-parted_at : (start : ℕ) (bytes ends : List ℕ) → length (parted_at start bytes ends) ≡ length ends
length-parted_at start bytes [] = refl
length-parted_at start bytes (end ∷ ends) = ap suc (length-parted_at end bytes ends)

-- the limit is no lower than the start
pub Reaches-le : (start : ℕ) (ends : List ℕ) (limit : ℕ) → ReachesFrom start ends limit → start ≤ limit
Reaches-le start [] limit h = omega (arith, h)
Reaches-le start (end ∷ ends) limit h = let rest = Reaches-le end ends limit h.1 in omega (arith, h.0, rest)

-- one end more
pub Reaches-push : (start : ℕ) (ends : List ℕ) (limit further : ℕ) → ReachesFrom start ends limit → limit ≤ further → ReachesFrom start (ends ++ further ∷ []) further
Reaches-push start [] limit further h low = (omega (arith, h, low), refl)
Reaches-push start (end ∷ ends) limit further h low = (h.0, Reaches-push end ends limit further h.1 low)

-- bytes behind those that are parted leave the parts as they are
range_before : (bytes more : List ℕ) (start end : ℕ) → start ≤ end → end ≤ length bytes → slice_range (bytes ++ more) start end ≡ slice_range bytes start end
range_before bytes more start end low high =
    let front : length (drop start bytes) ≡ length bytes - start = length-drop start bytes in
    rw (drop-append-le start bytes more (omega (arith, low, high))) (take-append-le (end - start) (drop start bytes) more (omega (arith, front, high)))

range_behind : (bytes more : List ℕ) (start end : ℕ) → start ≡ length bytes → end ≡ length bytes + length more → slice_range (bytes ++ more) start end ≡ more
range_behind bytes more start end from to =
    rw from (rw (drop-append_seam bytes more) (take_all (end - length bytes) more (omega (arith, to))))

-- one part more
pub parted_at-push : (start : ℕ) (bytes more ends : List ℕ) (end : ℕ) → ReachesFrom start ends (length bytes) → end ≡ length bytes + length more → parted_at start (bytes ++ more) (ends ++ end ∷ []) ≡ parted_at start bytes ends ++ more ∷ []
parted_at-push start bytes more [] end h to = ap (λ (x : List ℕ). x ∷ []) (range_behind bytes more start end h to)
parted_at-push start bytes more (next ∷ ends) end h to =
    let same = range_before bytes more start next h.0 (Reaches-le next ends (length bytes) h.1) in
    let rest = parted_at-push next bytes more ends end h.1 to in
    cc

-- the part of an index
pub parted_at-get : (start : ℕ) (bytes ends : List ℕ) (index from to : ℕ) → slice_get (start ∷ ends) index ≡ Some from → slice_get ends index ≡ Some to → slice_get (parted_at start bytes ends) index ≡ Some (slice_range bytes from to)
parted_at-get start bytes [] index from to f t = cc
parted_at-get start bytes (end ∷ ends) zero from to f t = cc
parted_at-get start bytes (end ∷ ends) (suc index) from to f t = parted_at-get end bytes ends index from to f t

pub Reaches-within : (start : ℕ) (ends : List ℕ) (limit index from to : ℕ) → ReachesFrom start ends limit → slice_get (start ∷ ends) index ≡ Some from → slice_get ends index ≡ Some to → (from ≤ to) × (to ≤ limit)
Reaches-within start [] limit index from to h f t = cc
Reaches-within start (end ∷ ends) limit zero from to h f t =
    let rest = Reaches-le end ends limit h.1 in
    let one : start ≡ from = cc in
    let two : end ≡ to = cc in
    (omega (arith, h.0, one, two), omega (arith, rest, two))
Reaches-within start (end ∷ ends) limit (suc index) from to h f t = Reaches-within end ends limit index from to h.1 f t

-- two lists are compared element by element
pub pointwise_step : {A : Type 0} (E : A → A → Bool) (xs ys : List A) (index : ℕ) (x y : A) → slice_get xs index ≡ Some x → slice_get ys index ≡ Some y → pointwise E (drop index xs) (drop index ys) ≡ (E x y && pointwise E (drop (suc index) xs) (drop (suc index) ys))
pointwise_step E [] ys index x y a b = cc
pointwise_step E (p ∷ xs) [] index x y a b = cc
pointwise_step E (p ∷ xs) (q ∷ ys) zero x y a b =
    let one : p ≡ x = cc in
    let two : q ≡ y = cc in
    rw (one, two) refl
pointwise_step E (p ∷ xs) (q ∷ ys) (suc index) x y a b = pointwise_step E xs ys index x y a b

-- an end between two lists, of which the second is empty
between_ends : (low high : List ℕ) (end : ℕ) → length high ≡ 0 → (low ++ end ∷ []) ++ high ≡ (low ++ high) ++ end ∷ []
between_ends low [] end e = append-nil (low ++ end ∷ []) ∙ ap (λ (x : List ℕ). x ++ end ∷ []) (sym (append-nil low))
between_ends low (x ∷ high) end e = absurd (omega (arith, e))

-- two lists that are known by other names
pub same_end : (low high low_then high_then : List ℕ) (index end : ℕ) → low_then ≡ low → high_then ≡ high → slice_get (low_then ++ high_then) index ≡ Some end → slice_get (low ++ high) index ≡ Some end
same_end low high low_then high_then index end a b h = cc

pub same_start : (low high low_then high_then : List ℕ) (index start : ℕ) → low_then ≡ low → high_then ≡ high → slice_get (0 ∷ (low_then ++ high_then)) index ≡ Some start → slice_get (0 ∷ (low ++ high)) index ≡ Some start
same_start low high low_then high_then index start a b h = cc

-- the ends with one more, which is low or high
low_end : (low high low_then : List ℕ) (end : ℕ) → low_then ≡ low ++ end ∷ [] → length high ≡ 0 → low_then ++ high ≡ (low ++ high) ++ end ∷ []
low_end low high low_then end e none = ap (λ (x : List ℕ). x ++ high) e ∙ between_ends low high end none

high_end : (low high high_then : List ℕ) (end : ℕ) → high_then ≡ high ++ end ∷ [] → low ++ high_then ≡ (low ++ high) ++ end ∷ []
high_end low high high_then end e = ap (λ (x : List ℕ). low ++ x) e ∙ sym (append_assoc low high (end ∷ []))

more_reached : (ends ends_then : List ℕ) (size end limit : ℕ) → ends_then ≡ ends ++ end ∷ [] → ReachesFrom 0 ends size → size ≤ end → end ≡ limit → ReachesFrom 0 ends_then limit
more_reached ends ends_then size end limit e h low is = rw (e, sym is) (Reaches-push 0 ends size end h low)

pub Reaches-low : (low high low_then : List ℕ) (size end limit : ℕ) → low_then ≡ low ++ end ∷ [] → length high ≡ 0 → ReachesFrom 0 (low ++ high) size → size ≤ end → end ≡ limit → ReachesFrom 0 (low_then ++ high) limit
Reaches-low low high low_then size end limit e none h below is = more_reached (low ++ high) (low_then ++ high) size end limit (low_end low high low_then end e none) h below is

pub Reaches-high : (low high high_then : List ℕ) (size end limit : ℕ) → high_then ≡ high ++ end ∷ [] → ReachesFrom 0 (low ++ high) size → size ≤ end → end ≡ limit → ReachesFrom 0 (low ++ high_then) limit
Reaches-high low high high_then size end limit e h below is = more_reached (low ++ high) (low ++ high_then) size end limit (high_end low high high_then end e) h below is

more_parts : (bytes more bytes_then ends ends_then : List ℕ) (size end : ℕ) → bytes_then ≡ bytes ++ more → ends_then ≡ ends ++ end ∷ [] → ReachesFrom 0 ends size → size ≡ length bytes → end ≡ length bytes + length more → parted_at 0 bytes_then ends_then ≡ parted_at 0 bytes ends ++ more ∷ []
more_parts bytes more bytes_then ends ends_then size end b e h is to =
    rw (b, e) (parted_at-push 0 bytes more ends end (subst (λ (n : ℕ). ReachesFrom 0 ends n) is h) to)

pub parts_low : (bytes more bytes_then low high low_then : List ℕ) (size end : ℕ) → bytes_then ≡ bytes ++ more → low_then ≡ low ++ end ∷ [] → length high ≡ 0 → ReachesFrom 0 (low ++ high) size → size ≡ length bytes → end ≡ length bytes + length more → parted_at 0 bytes_then (low_then ++ high) ≡ parted_at 0 bytes (low ++ high) ++ more ∷ []
parts_low bytes more bytes_then low high low_then size end b e none h is to = more_parts bytes more bytes_then (low ++ high) (low_then ++ high) size end b (low_end low high low_then end e none) h is to

pub parts_high : (bytes more bytes_then low high high_then : List ℕ) (size end : ℕ) → bytes_then ≡ bytes ++ more → high_then ≡ high ++ end ∷ [] → ReachesFrom 0 (low ++ high) size → size ≡ length bytes → end ≡ length bytes + length more → parted_at 0 bytes_then (low ++ high_then) ≡ parted_at 0 bytes (low ++ high) ++ more ∷ []
parts_high bytes more bytes_then low high high_then size end b e h is to = more_parts bytes more bytes_then (low ++ high) (low ++ high_then) size end b (high_end low high high_then end e) h is to

not_not : (b d : Bool) → b ≡ not d → d ≡ not b
not_not b true e = sym (ap not e)
not_not b false e = sym (ap not e)

-- what a comparison of the elements of one index tells of the two lists
pub compared : {B : Type 0} (now : B → List ℕ) (xs ys : List (List ℕ)) (index : ℕ) (r s : Option B) (differ : Bool) → index < length xs → index < length ys → IfSome r (λ v. slice_get xs index ≡ Some (now v)) → IfNone r (length xs ≤ index) → IfSome s (λ v. slice_get ys index ≡ Some (now v)) → IfNone s (length ys ≤ index) → differ ≡ not (option_eq (λ x y. pointwise ◌==◌ (now x) (now y)) r s) → pointwise (pointwise ◌==◌) (drop index xs) (drop index ys) ≡ (not differ && pointwise (pointwise ◌==◌) (drop (index + 1) xs) (drop (index + 1) ys))
compared now xs ys index None s differ low high a b c d e = absurd (omega (arith, low, b))
compared now xs ys index (Some v) None differ low high a b c d e = absurd (omega (arith, high, d))
compared now xs ys index (Some v) (Some w) differ low high a b c d e =
    let next : suc index ≡ index + 1 = omega arith in
    pointwise_step (pointwise ◌==◌) xs ys index (now v) (now w) a c
    ∙ ap (λ (k : ℕ). pointwise ◌==◌ (now v) (now w) && pointwise (pointwise ◌==◌) (drop k xs) (drop k ys)) next
    ∙ ap (λ (t : Bool). t && pointwise (pointwise ◌==◌) (drop (index + 1) xs) (drop (index + 1) ys)) (not_not differ (pointwise ◌==◌ (now v) (now w)) e)
