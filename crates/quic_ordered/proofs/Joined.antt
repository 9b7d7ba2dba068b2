-- One piece has all that a new one overlaps.
use Rattle.std.proofs.Common.{inl, inr, Some, None, ◌≡◌, ◌⊎◌, ℕ, ◌≤◌, refl, sym, subst, List, [], ◌∷◌, ◌++◌, arith}
use Rattle.std.specs.List.{All, Any}
use Rattle.std.specs.Map.{values_of}
use Rattle.std.proofs.lemmas.List.Elements.{All-nil, All-cons, All-append, All-weaker}
use Rattle.quic_assembler.specs.Piece.{PieceView, run_end}
use Rattle.quic_assembler.proofs.Counts.{Any-here, Any-there, Any-cons, Any-nil}
use Rattle.quic_ordered.specs.Entries.{MapJoins, HasJoined, piece_at}
use Rattle.quic_ordered.specs.Rows.{RiseByKey, LieInOrder, IsAmong, LiesApart, Overlaps, Encloses, HasAllOf, JoinsAll}
use Rattle.quic_ordered.proofs.Held.{none_some}
use Rattle.quic_ordered.proofs.Order.{found_head}
use Rattle.quic_ordered.proofs.Places.{any_front, any_behind}
use Rattle.quic_ordered.proofs.Stores.{each_value}

any_weaker : (P Q : PieceView → Type 0) (xs : List PieceView) → ((r : PieceView) → P r → Q r) → Any P xs → Any Q xs
any_weaker P Q [] f h = absurd (Any-nil P h)
any_weaker P Q (x ∷ xs) f h =
    elim (Any-cons P x xs h) [
      | inl here ↦ Any-here Q x xs (f x here)
      | inr there ↦ Any-there Q x xs (any_weaker P Q xs f there)
    ]

any_found : (es : List (ℕ × PieceView)) (q : ℕ) (v : PieceView) (P : PieceView → Type 0) → piece_at es q ≡ Some v → P v → Any P (values_of es)
any_found [] q v P found here = absurd (none_some None v refl found)
any_found (e ∷ es) q v P found here =
    elim (found_head e es q v found) [
      | inl h ↦ Any-here P e.1 (values_of es) (subst P (sym h.1) here)
      | inr there ↦ Any-there P e.1 (values_of es) (any_found es q v P there here)
    ]

-- the pieces of a row that begins where a new piece ends
pub apart_row : (low : ℕ) (rs : List PieceView) (new : PieceView) → run_end new ≤ low → LieInOrder low rs → All (LiesApart new) rs
apart_row low [] new le h = All-nil (LiesApart new)
apart_row low (r ∷ rs) new le h = let a = h.0 in All-cons (LiesApart new) r rs (inr (omega (arith, a, le))) (apart_row (run_end r) rs new (omega (arith, a, le)) h.2)

-- a piece came behind all
pub pushed_joins : (vs rs rs' : List PieceView) (p : PieceView) → rs' ≡ rs ++ p ∷ [] → All (λ (r : PieceView). run_end r ≤ p.offset) (vs ++ rs) → JoinsAll (vs ++ rs) p (vs ++ rs')
pushed_joins vs rs rs' p e ends =
    let last : IsAmong (rs ++ p ∷ []) p = any_behind (λ (s : PieceView). s ≡ p) rs (p ∷ []) (Any-here (λ (s : PieceView). s ≡ p) p [] refl) in
    inl (All-weaker (λ (r : PieceView). run_end r ≤ p.offset) (LiesApart p) (λ r a. inl a) (vs ++ rs) ends, any_behind (λ (s : PieceView). s ≡ p) vs rs' (subst (λ (xs : List PieceView). IsAmong xs p) (sym e) last))

-- a piece came into the map
held_has : (es es' : List (ℕ × PieceView)) (rs : List PieceView) (new : PieceView) → RiseByKey es → All (LiesApart new) rs → HasJoined es new es' → Any (HasAllOf (values_of es ++ rs) new) (values_of es')
held_has es es' rs new rises apart h =
    let P : PieceView → Type 0 = λ r. LiesApart new r ⊎ Encloses r.offset (run_end r) h.run in
    any_found es' h.start h.run (HasAllOf (values_of es ++ rs) new) h.found (record {
      has = h.has;
      each = All-append P (values_of es) rs (each_value P es rises h.each) (All-weaker (LiesApart new) P (λ r a. inl a) rs apart);
      memory = h.memory;
    })

pub held_joins : (es es' : List (ℕ × PieceView)) (rs : List PieceView) (new : PieceView) → RiseByKey es → LieInOrder (run_end new) rs → MapJoins es new es' → JoinsAll (values_of es ++ rs) new (values_of es' ++ rs)
held_joins es es' rs new rises rest (inl (apart, mine)) =
    inl (
      All-append (LiesApart new) (values_of es) rs (each_value (LiesApart new) es rises apart) (apart_row (run_end new) rs new (omega arith) rest),
      any_front (λ (s : PieceView). s ≡ new) (values_of es') rs (any_found es' new.offset new (λ (s : PieceView). s ≡ new) mine refl),
    )
held_joins es es' rs new rises rest (inr (inl w)) =
    inr (inl (any_front (Encloses new.offset (run_end new)) (values_of es) rs (any_found es w.0 w.1 (Encloses new.offset (run_end new)) w.2 w.3)))
held_joins es es' rs new rises rest (inr (inr (o, h))) =
    inr (inr (
      any_front (Overlaps new) (values_of es) rs (any_found es o.0 o.1 (Overlaps new) o.2 o.3),
      any_front (HasAllOf (values_of es ++ rs) new) (values_of es') rs (held_has es es' rs new rises (apart_row (run_end new) rs new (omega arith) rest) h),
    ))

-- what comes behind a list that ends by the new piece
pub front_joins : (fs rs rs' : List PieceView) (new : PieceView) → All (λ (r : PieceView). run_end r ≤ new.offset) fs → JoinsAll rs new rs' → JoinsAll (fs ++ rs) new (fs ++ rs')
front_joins fs rs rs' new ends (inl (apart, mine)) =
    inl (All-append (LiesApart new) fs rs (All-weaker (λ (r : PieceView). run_end r ≤ new.offset) (LiesApart new) (λ r a. inl a) fs ends) apart, any_behind (λ (s : PieceView). s ≡ new) fs rs' mine)
front_joins fs rs rs' new ends (inr (inl w)) = inr (inl (any_behind (Encloses new.offset (run_end new)) fs rs w))
front_joins fs rs rs' new ends (inr (inr (o, h))) =
    inr (inr (any_behind (Overlaps new) fs rs o, any_behind (HasAllOf (fs ++ rs) new) fs rs' (any_weaker (HasAllOf rs new) (HasAllOf (fs ++ rs) new) rs' (λ p has. front_has fs rs new p ends has) h)))
  where
    front_has : (fs rs : List PieceView) (new p : PieceView) → All (λ (r : PieceView). run_end r ≤ new.offset) fs → HasAllOf rs new p → HasAllOf (fs ++ rs) new p
    front_has fs rs new p ends h =
        let P : PieceView → Type 0 = λ r. LiesApart new r ⊎ Encloses r.offset (run_end r) p in
        record { has = h.has; each = All-append P fs rs (All-weaker (λ (r : PieceView). run_end r ≤ new.offset) P (λ r a. inl (inl a)) fs ends) h.each; memory = h.memory }
