-- A piece that is being read, and behind it the others.
use Rattle.std.proofs.Common.{inl, inr, ◌≡◌, ℕ, ◌≤◌, ◌<◌, refl, sym, subst, ◌∙◌, List, [], ◌∷◌, ◌++◌, arith}
use Rattle.std.specs.Prelude.{Option, Some, None, option_to_list, Result, Ok, Err}
use Rattle.std.specs.List.{All, Any}
use Rattle.std.specs.Map.{values_of}
use Rattle.std.proofs.lemmas.List.Elements.{All-nil, All-cons, All-head, All-tail, All-append, All-weaker}
use Rattle.quic_assembler.specs.Piece.{PieceView, run_end, RunHolds}
use Rattle.quic_assembler.proofs.Counts.{Any-cons, Any-nil, Any-append}
use Rattle.quic_ordered.specs.Entries.{piece_at}
use Rattle.quic_ordered.specs.Rows.{RiseByKey, LieInOrder, AreKeyed, IsStore, Merges, StemsFrom, StaysApart, IsAmong, Encloses}
use Rattle.quic_ordered.proofs.Order.{lower, found_low, key_at}
use Rattle.quic_ordered.proofs.Places.{any_front, any_behind}
use Rattle.quic_ordered.proofs.Stores.{all_among}

-- the first piece of the map, or of the row, goes
pub popped_map : (es es' : List (ℕ × PieceView)) (rs : List PieceView) (key : ℕ) (p : PieceView) → IsStore es rs → es ≡ (key, p) ∷ es' → RiseByKey es' → IsStore es' rs
popped_map es es' rs key p s e rises = record {
  rises = rises;
  keyed = (subst AreKeyed e s.keyed).1;
  order = lower 0 (run_end p) (values_of es' ++ rs) (omega arith) (subst (λ (xs : List (ℕ × PieceView)). LieInOrder 0 (values_of xs ++ rs)) e s.order).2;
}

-- what is left behind the first piece, if there is one
pub rest_order : (first : Option PieceView) (rs rs' : List PieceView) → LieInOrder 0 rs → rs ≡ option_to_list first ++ rs' → LieInOrder 0 rs'
rest_order None rs rs' h e = subst (LieInOrder 0) e h
rest_order (Some p) rs rs' h e = lower 0 (run_end p) rs' (omega arith) (subst (LieInOrder 0) e h).2

pub popped_row : (es es' : List (ℕ × PieceView)) (rs rs' : List PieceView) (first : Option PieceView) → IsStore es rs → es ≡ [] → es' ≡ [] → RiseByKey es' → rs ≡ option_to_list first ++ rs' → IsStore es' rs'
popped_row es es' rs rs' first s none none' rises e = record {
  rises = rises;
  keyed = subst AreKeyed (sym none') tt;
  order =
      let h : LieInOrder 0 rs = subst (λ (xs : List (ℕ × PieceView)). LieInOrder 0 (values_of xs ++ rs)) none s.order in
      subst (λ (xs : List (ℕ × PieceView)). LieInOrder 0 (values_of xs ++ rs')) (sym none') (rest_order first rs rs' h e);
}

pub ok_or_err : {T E : Type 0} (r : Result T E) (x : T) (e : E) → r ≡ Ok x → r ≡ Err e → ⊥
ok_or_err r x e p q = let f : Ok x ≡ Err e = sym p ∙ q in cc

-- a piece comes before all
pub fronted_above : (es : List (ℕ × PieceView)) (rs : List PieceView) (p : PieceView) → IsStore es rs → LieInOrder 0 (p ∷ (values_of es ++ rs)) → (q : ℕ) (v : PieceView) → piece_at es q ≡ Some v → p.offset < q
fronted_above es rs p s h q v found =
    let f = found_low es rs (run_end p) q v h.2 found in
    let k = key_at es q v s.keyed found in
    let a = h.1 in
    omega (arith, f.0, k, a)

pub fronted_store : (es es' : List (ℕ × PieceView)) (rs : List PieceView) (p : PieceView) → IsStore es rs → LieInOrder 0 (p ∷ (values_of es ++ rs)) → es' ≡ (p.offset, p) ∷ es → RiseByKey es' → IsStore es' rs
fronted_store es es' rs p s h e rises = record {
  rises = rises;
  keyed = subst AreKeyed (sym e) (refl, s.keyed);
  order = subst (λ (xs : List (ℕ × PieceView)). LieInOrder 0 (values_of xs ++ rs)) (sym e) h;
}

-- ---- what comes behind a list changes nothing in it

pub front_merges : (fs rs rs' : List PieceView) (new : PieceView) → Merges rs new rs' → Merges (fs ++ rs) new (fs ++ rs')
front_merges fs rs rs' new m = record {
  keeps = λ at byte h.
      elim (Any-append (RunHolds at byte) fs rs h) [
        | inl f ↦ any_front (RunHolds at byte) fs rs' f
        | inr r ↦ any_behind (RunHolds at byte) fs rs' (m.keeps at byte r)
      ];
  gains = λ at byte here none. any_behind (RunHolds at byte) fs rs' (m.gains at byte here (λ b h. none b (any_behind (RunHolds at b) fs rs h)));
  origin = λ at byte h.
      elim (Any-append (RunHolds at byte) fs rs' h) [
        | inl f ↦ inl (any_front (RunHolds at byte) fs rs f)
        | inr r ↦ elim (m.origin at byte r) [
          | inl old ↦ inl (any_behind (RunHolds at byte) fs rs old)
          | inr mine ↦ inr mine
        ]
      ];
}

pub front_stems : (fs rs rs' : List PieceView) (new : PieceView) → All (StemsFrom rs new) rs' → All (StemsFrom (fs ++ rs) new) (fs ++ rs')
front_stems fs rs rs' new h =
    All-append (StemsFrom (fs ++ rs) new) fs rs'
    (All-weaker (IsAmong fs) (StemsFrom (fs ++ rs) new) (λ r a. inl (any_front (λ (s : PieceView). s ≡ r) fs rs a)) fs (all_among [] fs))
    (All-weaker (StemsFrom rs new) (StemsFrom (fs ++ rs) new) (λ r s. elim s [
      | inl a ↦ inl (any_behind (λ (s : PieceView). s ≡ r) fs rs a)
      | inr other ↦ inr other
    ]) rs' h)

pub front_stays : (offset end : ℕ) (fs rs rs' : List PieceView) → All (StaysApart offset end rs') rs → All (StaysApart offset end (fs ++ rs')) (fs ++ rs)
front_stays offset end fs rs rs' h =
    All-append (StaysApart offset end (fs ++ rs')) fs rs
    (All-weaker (IsAmong fs) (StaysApart offset end (fs ++ rs')) (λ r a apart. any_front (λ (s : PieceView). s ≡ r) fs rs' a) fs (all_among [] fs))
    (All-weaker (StaysApart offset end rs') (StaysApart offset end (fs ++ rs')) (λ r s apart. any_behind (λ (s : PieceView). s ≡ r) fs rs' (s apart)) rs h)

pub front_order : (low offset : ℕ) (fs rs rs' : List PieceView) → LieInOrder low (fs ++ rs) → low ≤ offset → All (λ (r : PieceView). run_end r ≤ offset) fs → ((low : ℕ) → low ≤ offset → LieInOrder low rs → LieInOrder low rs') → LieInOrder low (fs ++ rs')
front_order low offset [] rs rs' h le ends each = each low le h
front_order low offset (f ∷ fs) rs rs' h le ends each =
    (h.0, h.1, front_order (run_end f) offset fs rs rs' h.2 (All-head (λ (r : PieceView). run_end r ≤ offset) f fs ends) (All-tail (λ (r : PieceView). run_end r ≤ offset) f fs ends) each)

enclosed_low : (low offset end : ℕ) (xs : List PieceView) → LieInOrder low xs → Any (Encloses offset end) xs → low ≤ offset
enclosed_low low offset end [] h any = absurd (Any-nil (Encloses offset end) any)
enclosed_low low offset end (x ∷ xs) h any =
    let a = h.0 in
    elim (Any-cons (Encloses offset end) x xs any) [
      | inl here ↦ omega (arith, a, here.0)
      | inr there ↦ let i = enclosed_low (run_end x) offset end xs h.2 there in omega (arith, i, a)
    ]

-- where a piece behind a list has some offsets, the list ends before them
pub front_clear : (low offset end : ℕ) (fs rs : List PieceView) → LieInOrder low (fs ++ rs) → Any (Encloses offset end) rs → All (λ (r : PieceView). run_end r ≤ offset) fs
front_clear low offset end [] rs h any = All-nil (λ (r : PieceView). run_end r ≤ offset)
front_clear low offset end (f ∷ fs) rs h any =
    All-cons (λ (r : PieceView). run_end r ≤ offset) f fs (enclosed_low (run_end f) offset end (fs ++ rs) h.2 (any_behind (Encloses offset end) fs rs any)) (front_clear (run_end f) offset end fs rs h.2 any)
