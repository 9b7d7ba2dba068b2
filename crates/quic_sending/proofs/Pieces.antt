-- Lemmas on lists of pieces.
use Rattle.std.proofs.Common.{◌≡◌, ℕ, ◌+◌, ◌-◌, ◌<◌, ◌≤◌, List, [], ◌∷◌, ◌++◌, length, take, drop, refl, arith}
use Rattle.std.proofs.lemmas.Bool.Decides.{nat_tests}
use Rattle.quic_sending.specs.Buffer.{total_length, uncovered, piece_part, AreFilled, IsInFirst}

pub total-append : (a b : List (List ℕ)) → total_length (a ++ b) ≡ total_length a + total_length b
total-append [] b = omega arith
total-append (p ∷ ps) b = omega (arith, total-append ps b)

pub AreFilled-push : (ps : List (List ℕ)) (p : List ℕ) → AreFilled ps → 0 < length p → AreFilled (ps ++ p ∷ [])
AreFilled-push [] p h f = (f, tt)
AreFilled-push (q ∷ ps) p h f = (h.0, AreFilled-push ps p h.1 f)

pub IsInFirst-push : (d : ℕ) (ps : List (List ℕ)) (p : List ℕ) → IsInFirst d ps → 0 < length p → IsInFirst d (ps ++ p ∷ [])
IsInFirst-push d [] p h f = omega arith
IsInFirst-push d (q ∷ ps) p h f = h

-- a piece that ends at the place d or below is dropped
pub uncovered-skip : (d : ℕ) (p : List ℕ) (ps : List (List ℕ)) → length p ≤ d → uncovered d (p ∷ ps) ≡ uncovered (d - length p) ps
uncovered-skip d p ps h = grind (arith, nat_tests)

-- the first piece that does not is kept
pub uncovered-keep : (d : ℕ) (ps : List (List ℕ)) → IsInFirst d ps → uncovered d ps ≡ ps
uncovered-keep d [] h = refl
uncovered-keep d (p ∷ ps) h = grind (arith, nat_tests)

pub piece_part-skip : (p : List ℕ) (ps : List (List ℕ)) (s n : ℕ) → length p ≤ s → piece_part (p ∷ ps) s n ≡ piece_part ps (s - length p) n
piece_part-skip p ps s n h = grind (arith, nat_tests)

pub piece_part-here : (p : List ℕ) (ps : List (List ℕ)) (s n : ℕ) → s < length p → piece_part (p ∷ ps) s n ≡ take n (drop s p)
piece_part-here p ps s n h = grind (arith, nat_tests)

-- there is nothing behind the last piece
pub piece_part-past : (ps : List (List ℕ)) (s n : ℕ) → total_length ps ≤ s → piece_part ps s n ≡ []
piece_part-past [] s n h = refl
piece_part-past (p ∷ ps) s n h =
    let skipped : length p ≤ s = omega arith in
    rw (piece_part-skip p ps s n skipped) (piece_part-past ps (s - length p) n (omega arith))
