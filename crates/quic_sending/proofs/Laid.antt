-- Lemmas on pieces that are laid out one behind the other.
use Rattle.std.proofs.Common.{◌≡◌, ℕ, ◌+◌, ◌-◌, ◌<◌, ◌≤◌, zero, suc, List, [], ◌∷◌, ◌++◌, length, get_or, refl, sym, ap, ◌∙◌, min, take, drop, length-drop, arith}
use Rattle.std.proofs.lemmas.List.{take_min}
use Rattle.quic_sending.specs.declared.piece_queue.Piece.{Piece}
use Rattle.quic_sending.specs.Buffer.{total_length, piece_part, AreFilled}
use Rattle.quic_sending.specs.Pieces.{contents, IsLaidOut, IsBetween, IsCountUpTo}
use Rattle.quic_sending.proofs.Pieces.{piece_part-skip, piece_part-here}

pub contents-append : (ps qs : List Piece) → contents (ps ++ qs) ≡ contents ps ++ contents qs
contents-append [] qs = refl
contents-append (p ∷ ps) qs = ap (λ (x : List (List ℕ)). p.bytes ∷ x) (contents-append ps qs)

pub IsLaidOut-push : (n : ℕ) (ps : List Piece) (p : Piece) → IsLaidOut n ps → p.start ≡ n + total_length (contents ps) → 0 < length p.bytes → IsLaidOut n (ps ++ p ∷ [])
IsLaidOut-push n [] p h s f = (omega arith, f, tt)
IsLaidOut-push n (q ∷ qs) p h s f = (h.0, h.1, IsLaidOut-push (n + length q.bytes) qs p h.2 (omega arith) f)

pub AreFilled-contents : (n : ℕ) (ps : List Piece) → IsLaidOut n ps → AreFilled (contents ps)
AreFilled-contents n [] h = tt
AreFilled-contents n (p ∷ ps) h = (h.1, AreFilled-contents (n + length p.bytes) ps h.2)

-- no piece starts before the first
le_start : (n : ℕ) (ps : List Piece) (k : ℕ) (d : Piece) → IsLaidOut n ps → k < length ps → n ≤ (get_or ps k d).start
le_start n [] k d h l = absurd (omega arith)
le_start n (p ∷ ps) zero d h l = let at = h.0 in omega arith
le_start n (p ∷ ps) (suc k) d h l = let rest = le_start (n + length p.bytes) ps k d h.2 (omega arith) in omega arith

-- a later piece starts behind an earlier one
pub start-le : (n : ℕ) (ps : List Piece) (i k : ℕ) (d e : Piece) → IsLaidOut n ps → i ≤ k → k < length ps → (get_or ps i d).start ≤ (get_or ps k e).start
start-le n [] i k d e h o l = absurd (omega arith)
start-le n (p ∷ ps) zero zero d e h o l = omega arith
start-le n (p ∷ ps) zero (suc k) d e h o l = let at = h.0 in let rest = le_start (n + length p.bytes) ps k e h.2 (omega arith) in omega arith
start-le n (p ∷ ps) (suc i) zero d e h o l = absurd (omega arith)
start-le n (p ∷ ps) (suc i) (suc k) d e h o l = start-le (n + length p.bytes) ps i k d e h.2 (omega arith) (omega arith)

-- where no piece starts up to an offset, nothing is there
pub piece_part-none : (n : ℕ) (ps : List Piece) (at most : ℕ) → IsLaidOut n ps → n ≤ at → ((d : Piece) → 0 < length ps → at < (get_or ps 0 d).start) → piece_part (contents ps) (at - n) most ≡ []
piece_part-none n [] at most h l b = refl
piece_part-none n (p ∷ ps) at most h l b = let start = h.0 in let behind = b p (omega arith) in absurd (omega arith)

-- the part is that of the first piece, if no other starts up to an offset
piece_part-first : (n : ℕ) (q : Piece) (qs : List Piece) (at most : ℕ) → IsLaidOut n (q ∷ qs) → n ≤ at → (0 < length qs → at < n + length q.bytes) → piece_part (contents (q ∷ qs)) (at - n) most ≡ piece_part (q.bytes ∷ []) (at - n) most
piece_part-first n q [] at most h s b = refl
piece_part-first n q (r ∷ rs) at most h s b =
    let within : at - n < length q.bytes = let next = b (omega arith) in omega arith in
    piece_part-here q.bytes (contents (r ∷ rs)) (at - n) most within ∙ sym (piece_part-here q.bytes [] (at - n) most within)

-- the part is that of the last piece that starts up to an offset
pub piece_part-found : (n : ℕ) (ps : List Piece) (i : ℕ) (p : Piece) (at most : ℕ) → IsLaidOut n ps → i < length ps → p ≡ get_or ps i p → p.start ≤ at → ((d : Piece) → suc i < length ps → at < (get_or ps (suc i) d).start) → piece_part (contents ps) (at - n) most ≡ piece_part (p.bytes ∷ []) (at - p.start) most
piece_part-found n [] i p at most h l e s b = absurd (omega arith)
piece_part-found n (q ∷ qs) zero p at most h l e s b =
    let start : p.start ≡ n = ap (λ (x : Piece). x.start) e ∙ h.0 in
    let same : p.bytes ≡ q.bytes = ap (λ (x : Piece). x.bytes) e in
    rw (start, same) (piece_part-first n q qs at most h (omega arith) (next qs h (b p)))
  where
    next : (rs : List Piece) → IsLaidOut n (q ∷ rs) → (1 < length (q ∷ rs) → at < (get_or (q ∷ rs) 1 p).start) → 0 < length rs → at < n + length q.bytes
    next [] g c m = absurd (omega arith)
    next (r ∷ rs) g c m = let start = g.2.0 in let behind = c (omega arith) in omega arith
piece_part-found n (q ∷ qs) (suc i) p at most h l e s b =
    let first = le_start (n + length q.bytes) qs i p h.2 (omega arith) in
    let start : (get_or qs i p).start ≡ p.start = ap (λ (x : Piece). x.start) (sym e) in
    let skipped : length q.bytes ≤ at - n = omega arith in
    let same : at - n - length q.bytes ≡ at - (n + length q.bytes) = omega arith in
    piece_part-skip q.bytes (contents qs) (at - n) most skipped
    ∙ (ap (λ (m : ℕ). piece_part (contents qs) m most) same
    ∙ piece_part-found (n + length q.bytes) qs i p at most h.2 (omega arith) e s (λ d m. b d (omega arith)))

-- the part of one piece
pub piece_part-slice : (bytes xs : List ℕ) (at most m : ℕ) → at < length bytes → xs ≡ bytes → m ≡ min most (length bytes - at) → take (at + m - at) (drop at xs) ≡ piece_part (bytes ∷ []) at most
piece_part-slice bytes xs at most m l same e =
    let len : length (drop at bytes) ≡ length bytes - at = length-drop at bytes in
    let size : at + m - at ≡ min most (length (drop at bytes)) = omega arith in
    rw (same, size) (take_min most (drop at bytes)) ∙ sym (piece_part-here bytes [] at most l)

pub piece_part-end : (bytes : List ℕ) (at most : ℕ) → length bytes ≤ at → piece_part (bytes ∷ []) at most ≡ []
piece_part-end bytes at most l = piece_part-skip bytes [] at most l

-- that piece, by the count of those that start up to the offset
pub piece_part-counted : (n : ℕ) (ps : List Piece) (count : ℕ) (p : Piece) (at most : ℕ) → IsLaidOut n ps → IsCountUpTo ps at count → (count ≡ 0 → ⊥) → p ≡ get_or ps (count - 1) p → piece_part (contents ps) (at - n) most ≡ piece_part (p.bytes ∷ []) (at - p.start) most
piece_part-counted n ps count p at most h c some e =
    let within = c.within in
    let start : p.start ≡ (get_or ps (count - 1) p).start = ap (λ (x : Piece). x.start) e in
    let up_to = c.before (count - 1) p (omega arith) in
    piece_part-found n ps (count - 1) p at most h (omega arith) e (omega arith) (λ d l. c.behind (suc (count - 1)) d (omega arith) l)

pub IsBetween-all : (ps : List Piece) (offset : ℕ) → IsBetween ps offset 0 (length ps)
IsBetween-all ps offset =
    record {
      ordered = omega arith;
      within = omega arith;
      before = λ k d l. absurd (omega arith);
      behind = λ k d l m. absurd (omega arith);
    }

-- the piece at i starts up to the offset
pub IsBetween-raise : (n : ℕ) (ps : List Piece) (offset low high i : ℕ) (p : Piece) → IsLaidOut n ps → IsBetween ps offset low high → i < high → p ≡ get_or ps i p → p.start ≤ offset → IsBetween ps offset (i + 1) high
IsBetween-raise n ps offset low high i p h b l e s =
    let within = b.within in
    let here : p.start ≡ (get_or ps i p).start = ap (λ (x : Piece). x.start) e in
    record {
      ordered = omega arith;
      within = within;
      before = λ k d m. let rises = start-le n ps k i d p h (omega arith) (omega arith) in omega arith;
      behind = b.behind;
    }

-- the piece at i starts behind the offset
pub IsBetween-lower : (n : ℕ) (ps : List Piece) (offset low high i : ℕ) (p : Piece) → IsLaidOut n ps → IsBetween ps offset low high → low ≤ i → i < length ps → p ≡ get_or ps i p → offset < p.start → IsBetween ps offset low i
IsBetween-lower n ps offset low high i p h b l m e s =
    let here : p.start ≡ (get_or ps i p).start = ap (λ (x : Piece). x.start) e in
    record {
      ordered = l;
      within = omega arith;
      before = b.before;
      behind = λ k d o t. let rises = start-le n ps i k p d h (omega arith) t in omega arith;
    }
