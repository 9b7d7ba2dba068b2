-- Pieces in order, by their places.
use Rattle.std.proofs.Common.{◌≡◌, ℕ, ◌+◌, ◌-◌, ◌≤◌, ◌<◌, refl, sym, ap, ◌∙◌, inl, inr, List, [], ◌∷◌, ◌++◌, length, arith, zero, suc, Some}
use Rattle.std.specs.Prelude.{slice_index_or}
use Rattle.std.specs.List.{Any}
use Rattle.std.specs.Map.{values_of}
use Rattle.std.proofs.lemmas.Bool.{cases_lt, cases_eq}
use Rattle.quic_assembler.specs.Piece.{PieceView, run_end}
use Rattle.quic_assembler.proofs.Counts.{Any-here, Any-there, Any-cons, Any-nil, Any-append}
use Rattle.quic_ordered.specs.Entries.{piece_at}
use Rattle.quic_ordered.specs.Rows.{LieInOrder, AreKeyed, Encloses, IsStore, Merges}
use Rattle.quic_ordered.proofs.Order.{lower, found_low, key_at, row_behind, at_head, at_tail}

pub at_low : (low : ℕ) (xs : List PieceView) (j : ℕ) (e : PieceView) → LieInOrder low xs → j < length xs → low ≤ (slice_index_or xs j e).offset
at_low low [] j e h lt = absurd (omega arith)
at_low low (x ∷ xs) zero e h lt = h.0
at_low low (x ∷ xs) (suc j) e h lt = let i = at_low (run_end x) xs j e h.2 (omega arith) in let a = h.0 in omega (arith, i)

pub places_rise : (low : ℕ) (xs : List PieceView) (i j : ℕ) (d e : PieceView) → LieInOrder low xs → i < j → j < length xs → run_end (slice_index_or xs i d) ≤ (slice_index_or xs j e).offset
places_rise low [] i j d e h lt le = absurd (omega arith)
places_rise low (x ∷ xs) i zero d e h lt le = absurd (omega arith)
places_rise low (x ∷ xs) zero (suc j) d e h lt le = at_low (run_end x) xs j e h.2 (omega arith)
places_rise low (x ∷ xs) (suc i) (suc j) d e h lt le = places_rise (run_end x) xs i j d e h.2 (omega arith) (omega arith)

pub same_at : (xs : List PieceView) (k : ℕ) (d e : PieceView) → k < length xs → slice_index_or xs k d ≡ slice_index_or xs k e
same_at [] k d e lt = absurd (omega arith)
same_at (x ∷ xs) zero d e lt = refl
same_at (x ∷ xs) (suc k) d e lt = same_at xs k d e (omega arith)

-- all up to a place begin no higher
pub below_place : (xs : List PieceView) (n offset k : ℕ) (r d : PieceView) → LieInOrder 0 xs → n < length xs → r ≡ slice_index_or xs n r → r.offset ≤ offset → k < n + 1 → (slice_index_or xs k d).offset ≤ offset
below_place xs n offset k r d h lt e le less =
    elim (cases_eq k n) [
      | inl same ↦ let f = ap (λ (x : PieceView). x.offset) (e ∙ same_at xs n r d lt) in let g = ap (λ (i : ℕ). (slice_index_or xs i d).offset) same in omega (arith, f, g, le)
      | inr ne ↦ let p = places_rise 0 xs k n d r h (omega (arith, ne, less)) lt in let f = ap (λ (x : PieceView). x.offset) e in omega (arith, p, f, le)
    ]

-- all from a place on begin higher
pub above_place : (xs : List PieceView) (n offset k : ℕ) (r d : PieceView) → LieInOrder 0 xs → n < length xs → r ≡ slice_index_or xs n r → offset < r.offset → n ≤ k → k < length xs → offset < (slice_index_or xs k d).offset
above_place xs n offset k r d h lt e gt more fits =
    elim (cases_eq k n) [
      | inl same ↦ let f = ap (λ (x : PieceView). x.offset) (e ∙ same_at xs n r d lt) in let g = ap (λ (i : ℕ). (slice_index_or xs i d).offset) same in omega (arith, f, g, gt)
      | inr ne ↦ let p = places_rise 0 xs n k r d h (omega (arith, ne, more)) fits in let f = ap (λ (x : PieceView). x.offset) e in omega (arith, p, f, gt)
    ]

-- no piece but the last that begins up to an offset can have what follows it
pub none_encloses : (xs : List PieceView) (n offset end : ℕ) (r : PieceView) → LieInOrder 0 xs → offset < end → n < length xs → r ≡ slice_index_or xs n r → ((k : ℕ) (d : PieceView) → k < n + 1 → (slice_index_or xs k d).offset ≤ offset)
    → ((k : ℕ) (d : PieceView) → n + 1 ≤ k → k < length xs → offset < (slice_index_or xs k d).offset) → run_end r < end → Any (Encloses offset end) xs → ⊥
none_encloses xs n offset end r h some lt e below above short (k, x, fits, is, (o, f)) =
    elim (cases_lt k n) [
      | inl less ↦
          let p = places_rise 0 xs k n x r h less lt in
          let b = below n r (omega arith) in
          let g = ap run_end is in
          omega (arith, p, b, g, f, some)
      | inr ge ↦ elim (cases_eq k n) [
        | inl same ↦
            let g = ap run_end (sym is ∙ ap (λ (i : ℕ). slice_index_or xs i x) same ∙ same_at xs n x r lt ∙ sym e) in
            omega (arith, g, f, short)
        | inr ne ↦ let a = above k x (omega (arith, ge, ne)) fits in let g = ap (λ (y : PieceView). y.offset) is in omega (arith, a, g, o)
      ]
    ]

-- ---- of a map

any_found : (P : PieceView → Type 0) (es : List (ℕ × PieceView)) (rs : List PieceView) (low : ℕ) → AreKeyed es → LieInOrder low (values_of es ++ rs) → Any P (values_of es) → (q : ℕ) × (v : PieceView) × (piece_at es q ≡ Some v) × P v
any_found P [] rs low k h any = absurd (Any-nil P any)
any_found P (e ∷ es) rs low k h any =
    elim (Any-cons P e.1 (values_of es) any) [
      | inl here ↦ (e.0, e.1, at_head e es, here)
      | inr there ↦
          let m = any_found P es rs (run_end e.1) k.1 h.2 there in
          let i = found_low es rs (run_end e.1) m.0 m.1 h.2 m.2 in
          let j = key_at es m.0 m.1 k.1 m.2 in
          let a = k.0 in
          let b = h.1 in
          (m.0, m.1, at_tail e es m.0 (λ same. omega (arith, i.0, j)) ∙ m.2, m.3)
    ]

pub any_front : (P : PieceView → Type 0) (xs ys : List PieceView) → Any P xs → Any P (xs ++ ys)
any_front P [] ys h = absurd (Any-nil P h)
any_front P (x ∷ xs) ys h =
    elim (Any-cons P x xs h) [
      | inl here ↦ Any-here P x (xs ++ ys) here
      | inr there ↦ Any-there P x (xs ++ ys) (any_front P xs ys there)
    ]

pub any_behind : (P : PieceView → Type 0) (xs ys : List PieceView) → Any P ys → Any P (xs ++ ys)
any_behind P [] ys h = h
any_behind P (x ∷ xs) ys h = Any-there P x (xs ++ ys) (any_behind P xs ys h)

pub encloses_row : (es : List (ℕ × PieceView)) (rs : List PieceView) (offset end : ℕ) → Any (Encloses offset end) rs → Any (Encloses offset end) (values_of es ++ rs)
encloses_row es rs offset end h = any_behind (Encloses offset end) (values_of es) rs h

-- what a piece of the map has all of ends before the row
pub enclosed_map : (es : List (ℕ × PieceView)) (rs : List PieceView) (offset end : ℕ) → IsStore es rs → (Any (Encloses offset end) rs → ⊥) → Any (Encloses offset end) (values_of es ++ rs)
    → (q : ℕ) × (v : PieceView) × (piece_at es q ≡ Some v) × (q ≤ offset) × (end ≤ run_end v) × LieInOrder end rs
enclosed_map es rs offset end s row_no any =
    elim (Any-append (Encloses offset end) (values_of es) rs any) [
      | inl a ↦
          let f = any_found (Encloses offset end) es rs 0 s.keyed s.order a in
          let k = key_at es f.0 f.1 s.keyed f.2 in
          let p = f.3 in
          (f.0, f.1, f.2, omega (arith, k, p.0), p.1, lower end (run_end f.1) rs p.1 (row_behind es rs 0 f.0 f.1 s.order f.2))
      | inr b ↦ absurd (row_no b)
    ]

-- ---- what is enclosed adds nothing

pub merges_enclosed : (xs : List PieceView) (p : PieceView) → Any (Encloses p.offset (run_end p)) xs → Merges xs p xs
merges_enclosed xs p (k, x, fits, is, (o, f)) = record {
  keeps = λ at byte h. h;
  gains = λ at byte here none. absurd (none (slice_index_or x.bytes (at - x.offset) 0) (k, x, fits, is, (omega (arith, here.0, o), omega (arith, here.1, f), refl)));
  origin = λ at byte h. inl h;
}

pub merges_empty : (xs : List PieceView) (p : PieceView) → length p.bytes ≡ 0 → Merges xs p xs
merges_empty xs p e = record {
  keeps = λ at byte h. h;
  gains = λ at byte here none. absurd (omega (arith, here.0, here.1, e));
  origin = λ at byte h. inl h;
}
