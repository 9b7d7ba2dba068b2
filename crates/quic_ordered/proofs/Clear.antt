-- A piece for which no piece of the row goes over to the map.
use Rattle.std.proofs.Common.{◌≡◌, ℕ, ◌≤◌, ◌<◌, sym, subst, inl, inr, List, [], ◌∷◌, ◌++◌, length, arith}
use Rattle.std.specs.Prelude.{Some, Result, Ok, Err, OnOk, OnErr}
use Rattle.std.specs.List.{Any}
use Rattle.std.specs.Map.{values_of}
use Rattle.quic_assembler.specs.Piece.{PieceView, run_end}
use Rattle.quic_assembler.proofs.Counts.{Any-cons, Any-nil}
use Rattle.quic_ordered.specs.Entries.{piece_at, IsPieceMap, MapTakes}
use Rattle.quic_ordered.specs.Rows.{RiseByKey, LieInOrder, IsStore, Encloses, Merges}
use Rattle.quic_ordered.proofs.Order.{order_behind}
use Rattle.quic_ordered.proofs.Firsts.{on_ok}
use Rattle.quic_ordered.proofs.Places.{enclosed_map}
use Rattle.quic_ordered.proofs.Stores.{held_store, held_merges, order_held}

-- what holds either way
pub either : {T E A B C : Type 0} (r : Result T E) → OnOk r A → OnErr r B → (A → C) → (B → C) → C
either (Ok x) a b f g = f a
either (Err e) a b f g = g b

-- the row begins from an offset on
pub row_from : (es : List (ℕ × PieceView)) (rs rest : List PieceView) (first : PieceView) (end : ℕ) → IsStore es rs → rs ≡ first ∷ rest → end ≤ first.offset → LieInOrder end rs
row_from es rs rest first end s e le =
    let h = subst (LieInOrder 0) e (order_behind 0 (values_of es) rs s.order) in
    subst (LieInOrder end) (sym e) (le, h.1, h.2)

pub row_none : (rs : List PieceView) (end : ℕ) → rs ≡ [] → LieInOrder end rs
row_none rs end e = subst (LieInOrder end) (sym e) tt

-- what lies behind a piece has none of it
none_behind : (low offset end : ℕ) (rs : List PieceView) → LieInOrder low rs → offset < low → Any (Encloses offset end) rs → ⊥
none_behind low offset end [] h lt any = Any-nil (Encloses offset end) any
none_behind low offset end (r ∷ rs) h lt any =
    let a = h.0 in
    elim (Any-cons (Encloses offset end) r rs any) [
      | inl here ↦ omega (arith, a, here.0)
      | inr there ↦ none_behind (run_end r) offset end rs h.2 (omega arith) there
    ]

-- what has all of it is in the map
pub enclosed_clear : (es : List (ℕ × PieceView)) (rs : List PieceView) (p : PieceView) → IsStore es rs → LieInOrder (run_end p) rs → 0 < length p.bytes → Any (Encloses p.offset (run_end p)) (values_of es ++ rs)
    → (q : ℕ) × (v : PieceView) × (piece_at es q ≡ Some v) × (q ≤ p.offset) × (run_end p ≤ run_end v) × LieInOrder (run_end p) rs
enclosed_clear es rs p s clear some any = enclosed_map es rs p.offset (run_end p) s (none_behind (run_end p) p.offset (run_end p) rs clear (omega (arith, some))) any

-- ---- a piece was taken into the map, or it was refused

pub store_after : {T E : Type 0} (r : Result T E) (es es' : List (ℕ × PieceView)) (rs : List PieceView) (p : PieceView) → IsStore es rs → LieInOrder (run_end p) rs → OnOk r (MapTakes es p es') → OnErr r (es' ≡ es) → IsPieceMap es' → RiseByKey es' → IsStore es' rs
store_after r es es' rs p s clear takes same apart rises =
    either r takes same
    (λ t. held_store es es' rs p s clear t apart rises)
    (λ e. subst (λ (xs : List (ℕ × PieceView)). IsStore xs rs) (sym e) s)

pub order_after : {T E : Type 0} (r : Result T E) (low : ℕ) (es es' : List (ℕ × PieceView)) (rs : List PieceView) (p : PieceView) → IsStore es rs → LieInOrder (run_end p) rs → OnOk r (MapTakes es p es') → OnErr r (es' ≡ es) → IsPieceMap es' → RiseByKey es'
    → low ≤ p.offset → LieInOrder low (values_of es ++ rs) → LieInOrder low (values_of es' ++ rs)
order_after r low es es' rs p s clear takes same apart rises le h =
    either r takes same
    (λ t. order_held low es es' rs p s.keyed h le clear t apart rises)
    (λ e. subst (λ (xs : List (ℕ × PieceView)). LieInOrder low (values_of xs ++ rs)) (sym e) h)

pub merges_after : {T E : Type 0} (r : Result T E) (es es' : List (ℕ × PieceView)) (rs : List PieceView) (p : PieceView) → IsStore es rs → LieInOrder (run_end p) rs → OnOk r (MapTakes es p es') → IsPieceMap es' → RiseByKey es' → OnOk r (Merges (values_of es ++ rs) p (values_of es' ++ rs))
merges_after r es es' rs p s clear takes apart rises =
    on_ok r takes (λ t. held_merges es es' rs p s (held_store es es' rs p s clear t apart rises) t)
