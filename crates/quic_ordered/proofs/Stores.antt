-- A map, and behind it a row.
use Rattle.std.proofs.Common.{inl, inr, Some, None, ◌≡◌, ℕ, ◌+◌, ◌≤◌, ◌<◌, refl, sym, ap, subst, ◌∙◌, List, [], ◌∷◌, ◌++◌, length, arith, append_assoc}
use Rattle.std.specs.List.{All}
use Rattle.std.specs.Map.{values_of, keys_of}
use Rattle.std.specs.Ordering.{nat_cmp}
use Rattle.std.proofs.lemmas.Map.Keys.{sorted_tail}
use Rattle.std.proofs.lemmas.List.Elements.{All-nil, All-cons, All-append, All-push, All-weaker}
use Rattle.quic_assembler.proofs.Counts.{Any-here, Any-there, Any-cons, Any-nil}
use Rattle.quic_ordered.proofs.Held.{none_some}
use Rattle.std.proofs.lemmas.List.{length-append}
use Rattle.quic_assembler.specs.Piece.{PieceView, run_end}
use Rattle.quic_ordered.specs.Entries.{IsPieceMap, MapTakes, MapStems, MapKeepsApart, piece_at}
use Rattle.quic_ordered.specs.Rows.{RiseByKey, LieInOrder, AreKeyed, Merges, IsStore, IsAmong, StemsFrom, StaysApart}
use Rattle.quic_ordered.proofs.Order.{order_behind, order_push_all, ends_by_last, keyed_push, values_push, piece_map_of, merges_map, merges_push, hold_each, keyed_of, order_of, found_head, at_head, tail_at}

-- all end by where the last piece of the row ends
pub all_end_row : (vs rs others : List PieceView) (last : PieceView) (n : ℕ) → LieInOrder 0 (vs ++ rs) → rs ≡ others ++ last ∷ [] → run_end last ≤ n → All (λ (r : PieceView). run_end r ≤ n) (vs ++ rs)
all_end_row vs rs others last n h e le =
    let f : vs ++ rs ≡ (vs ++ others) ++ last ∷ [] = ap (λ (xs : List PieceView). vs ++ xs) e ∙ sym (append_assoc vs others (last ∷ [])) in
    subst (All (λ (r : PieceView). run_end r ≤ n)) (sym f) (ends_by_last 0 n (vs ++ others) last (subst (LieInOrder 0) f h) le)

pub all_end_map : (es others : List (ℕ × PieceView)) (rs : List PieceView) (key : ℕ) (last : PieceView) (n : ℕ) → LieInOrder 0 (values_of es ++ rs) → rs ≡ [] → es ≡ others ++ (key, last) ∷ [] → run_end last ≤ n → All (λ (r : PieceView). run_end r ≤ n) (values_of es ++ rs)
all_end_map es others rs key last n h none e le =
    let f : values_of es ++ rs ≡ values_of others ++ last ∷ [] = ap (λ (xs : List PieceView). values_of es ++ xs) none ∙ ap (λ (xs : List (ℕ × PieceView)). values_of xs ++ []) e ∙ values_push others [] key last in
    subst (All (λ (r : PieceView). run_end r ≤ n)) (sym f) (ends_by_last 0 n (values_of others) last (subst (LieInOrder 0) f h) le)

-- the first piece of the row goes to the end of the map
pub moved_same : (es es' : List (ℕ × PieceView)) (rs rs' : List PieceView) (p : PieceView) → rs ≡ p ∷ rs' → es' ≡ es ++ (p.offset, p) ∷ [] → values_of es' ++ rs' ≡ values_of es ++ rs
moved_same es es' rs rs' p e f = ap (λ (xs : List (ℕ × PieceView)). values_of xs ++ rs') f ∙ values_push es rs' p.offset p ∙ ap (λ (xs : List PieceView). values_of es ++ xs) (sym e)

pub moved : (es es' : List (ℕ × PieceView)) (rs rs' : List PieceView) (p : PieceView) → IsStore es rs → rs ≡ p ∷ rs' → es' ≡ es ++ (p.offset, p) ∷ [] → RiseByKey es' → IsStore es' rs'
moved es es' rs rs' p s e f rises = record {
  rises = rises;
  keyed = subst AreKeyed (sym f) (keyed_push es p s.keyed);
  order = subst (LieInOrder 0) (sym (moved_same es es' rs rs' p e f)) s.order;
}

pub same_store : (es : List (ℕ × PieceView)) (rs rs' : List PieceView) → rs' ≡ rs → IsStore es rs → IsStore es rs'
same_store es rs rs' e s = subst (IsStore es) (sym e) s

-- a piece comes behind all
pub order_pushed : (low : ℕ) (vs rs rs' : List PieceView) (p : PieceView) → LieInOrder low (vs ++ rs) → All (λ (r : PieceView). run_end r ≤ p.offset) (vs ++ rs) → low ≤ p.offset → 0 < length p.bytes → rs' ≡ rs ++ p ∷ [] → LieInOrder low (vs ++ rs')
order_pushed low vs rs rs' p h ends le some e =
    let f : vs ++ rs' ≡ (vs ++ rs) ++ p ∷ [] = ap (λ (xs : List PieceView). vs ++ xs) e ∙ sym (append_assoc vs rs (p ∷ [])) in
    subst (LieInOrder low) (sym f) (order_push_all low (vs ++ rs) p h ends le some)

pub pushed : (es : List (ℕ × PieceView)) (rs rs' : List PieceView) (p : PieceView) → IsStore es rs → All (λ (r : PieceView). run_end r ≤ p.offset) (values_of es ++ rs) → 0 < length p.bytes → rs' ≡ rs ++ p ∷ [] → IsStore es rs'
pushed es rs rs' p s ends some e = record { rises = s.rises; keyed = s.keyed; order = order_pushed 0 (values_of es) rs rs' p s.order ends (omega arith) some e }

pub pushed_merges : (vs rs rs' : List PieceView) (p : PieceView) → rs' ≡ rs ++ p ∷ [] → Merges (vs ++ rs) p (vs ++ rs')
pushed_merges vs rs rs' p e =
    let f : vs ++ rs' ≡ (vs ++ rs) ++ p ∷ [] = ap (λ (xs : List PieceView). vs ++ xs) e ∙ sym (append_assoc vs rs (p ∷ [])) in
    subst (Merges (vs ++ rs) p) (sym f) (merges_push (vs ++ rs) p)

-- a piece came into the map
pub order_held : (low : ℕ) (es es' : List (ℕ × PieceView)) (rs : List PieceView) (p : PieceView) → AreKeyed es → LieInOrder low (values_of es ++ rs) → low ≤ p.offset → LieInOrder (run_end p) rs → MapTakes es p es' → IsPieceMap es' → RiseByKey es' → LieInOrder low (values_of es' ++ rs)
order_held low es es' rs p k h le rest t m rises = order_of es' rs low rises m (λ q v found. hold_each es es' rs p low q v k h m t le rest found) (order_behind low (values_of es) rs h)

pub held_store : (es es' : List (ℕ × PieceView)) (rs : List PieceView) (p : PieceView) → IsStore es rs → LieInOrder (run_end p) rs → MapTakes es p es' → IsPieceMap es' → RiseByKey es' → IsStore es' rs
held_store es es' rs p s rest t m rises = record { rises = rises; keyed = keyed_of es' rises m; order = order_held 0 es es' rs p s.keyed s.order (omega arith) rest t m rises }

pub held_merges : (es es' : List (ℕ × PieceView)) (rs : List PieceView) (p : PieceView) → IsStore es rs → IsStore es' rs → MapTakes es p es' → Merges (values_of es ++ rs) p (values_of es' ++ rs)
held_merges es es' rs p s s' t = merges_map es es' rs p 0 0 s.keyed s.order s'.keyed s'.order t

pub map_of_store : (es : List (ℕ × PieceView)) (rs : List PieceView) → IsStore es rs → IsPieceMap es
map_of_store es rs s = piece_map_of es rs 0 s.keyed s.order

-- the last piece of the map goes to the front of the row
pub gathered_same : (es es' : List (ℕ × PieceView)) (rs rs' : List PieceView) (key : ℕ) (p : PieceView) → es ≡ es' ++ (key, p) ∷ [] → rs' ≡ p ∷ rs → values_of es' ++ rs' ≡ values_of es ++ rs
gathered_same es es' rs rs' key p e f =
    ap (λ (xs : List PieceView). values_of es' ++ xs) f ∙ sym (values_push es' rs key p) ∙ ap (λ (xs : List (ℕ × PieceView)). values_of xs ++ rs) (sym e)

keyed_front : (es : List (ℕ × PieceView)) (key : ℕ) (p : PieceView) → AreKeyed (es ++ (key, p) ∷ []) → AreKeyed es
keyed_front [] key p k = tt
keyed_front (e ∷ es) key p k = (k.0, keyed_front es key p k.1)

pub gathered_store : (es es' : List (ℕ × PieceView)) (rs rs' : List PieceView) (key : ℕ) (p : PieceView) → IsStore es rs → es ≡ es' ++ (key, p) ∷ [] → rs' ≡ p ∷ rs → RiseByKey es' → IsStore es' rs'
gathered_store es es' rs rs' key p s e f rises = record {
  rises = rises;
  keyed = keyed_front es' key p (subst AreKeyed e s.keyed);
  order = subst (LieInOrder 0) (sym (gathered_same es es' rs rs' key p e f)) s.order;
}

pub gathered_room : (es es' : List (ℕ × PieceView)) (rs rs' : List PieceView) (key : ℕ) (p : PieceView) (room room' : ℕ) → es ≡ es' ++ (key, p) ∷ [] → rs' ≡ p ∷ rs → length es + length rs ≤ room → room' ≡ room → length es' + length rs' ≤ room'
gathered_room es es' rs rs' key p room room' e f le r =
    let l = ap (λ (xs : List (ℕ × PieceView)). length xs) e in
    let m = ap (λ (xs : List PieceView). length xs) f in
    omega (arith, l, m, le, r, length-append es' ((key, p) ∷ []))

-- ---- the memory of the pieces

among_front : (xs ys : List PieceView) (r : PieceView) → IsAmong xs r → IsAmong (xs ++ ys) r
among_front [] ys r h = absurd (Any-nil (λ (s : PieceView). s ≡ r) h)
among_front (x ∷ xs) ys r h =
    elim (Any-cons (λ (s : PieceView). s ≡ r) x xs h) [
      | inl here ↦ Any-here (λ (s : PieceView). s ≡ r) x (xs ++ ys) here
      | inr there ↦ Any-there (λ (s : PieceView). s ≡ r) x (xs ++ ys) (among_front xs ys r there)
    ]

among_found : (es : List (ℕ × PieceView)) (q : ℕ) (v : PieceView) → piece_at es q ≡ Some v → IsAmong (values_of es) v
among_found [] q v found = absurd (none_some None v refl found)
among_found (e ∷ es) q v found =
    elim (found_head e es q v found) [
      | inl h ↦ Any-here (λ (s : PieceView). s ≡ v) e.1 (values_of es) h.1
      | inr there ↦ Any-there (λ (s : PieceView). s ≡ v) e.1 (values_of es) (among_found es q v there)
    ]

stems_rest : (vs rs : List PieceView) (new : PieceView) → All (StemsFrom (vs ++ rs) new) rs
stems_rest vs [] new = All-nil (StemsFrom (vs ++ []) new)
stems_rest vs (r ∷ rs) new =
    let here : IsAmong (vs ++ (r ∷ rs)) r = among_behind vs (r ∷ rs) r (Any-here (λ (s : PieceView). s ≡ r) r rs refl) in
    let more = stems_rest (vs ++ r ∷ []) rs new in
    All-cons (StemsFrom (vs ++ (r ∷ rs)) new) r rs (inl here) (subst (λ (xs : List PieceView). All (StemsFrom xs new) rs) (append_assoc vs (r ∷ []) rs) more)
  where
    among_behind : (xs ys : List PieceView) (r : PieceView) → IsAmong ys r → IsAmong (xs ++ ys) r
    among_behind [] ys r h = h
    among_behind (x ∷ xs) ys r h = Any-there (λ (s : PieceView). s ≡ r) x (xs ++ ys) (among_behind xs ys r h)

stems_values : (old : List PieceView) (new : PieceView) (es es' : List (ℕ × PieceView)) → RiseByKey es' → ((q : ℕ) (v : PieceView) → piece_at es' q ≡ Some v → StemsFrom old new v) → All (StemsFrom old new) (values_of es')
stems_values old new es [] rises each = All-nil (StemsFrom old new)
stems_values old new es (e ∷ es') rises each =
    All-cons (StemsFrom old new) e.1 (values_of es') (each e.0 e.1 (at_head e es'))
    (stems_values old new es es' (sorted_tail nat_cmp e.0 (keys_of es') rises) (λ q v found. each q v (tail_at e es' q v rises found)))

pub held_stems : (es es' : List (ℕ × PieceView)) (rs : List PieceView) (new : PieceView) → RiseByKey es' → MapStems es new es' → All (StemsFrom (values_of es ++ rs) new) (values_of es' ++ rs)
held_stems es es' rs new rises stems =
    All-append (StemsFrom (values_of es ++ rs) new) (values_of es') rs
    (stems_values (values_of es ++ rs) new es es' rises (λ q v found. elim (stems q v found) [
      | inl old ↦ inl (among_front (values_of es) rs v (among_found es q v old))
      | inr other ↦ inr other
    ]))
    (stems_rest (values_of es) rs new)

pub stems_all : (rs : List PieceView) (new : PieceView) → All (StemsFrom rs new) rs
stems_all rs new = stems_rest [] rs new

pub pushed_stems : (vs rs rs' : List PieceView) (p : PieceView) → rs' ≡ rs ++ p ∷ [] → All (StemsFrom (vs ++ rs) p) (vs ++ rs')
pushed_stems vs rs rs' p e =
    let f : vs ++ rs' ≡ (vs ++ rs) ++ p ∷ [] = ap (λ (xs : List PieceView). vs ++ xs) e ∙ sym (append_assoc vs rs (p ∷ [])) in
    subst (All (StemsFrom (vs ++ rs) p)) (sym f) (All-push (StemsFrom (vs ++ rs) p) (vs ++ rs) p (stems_all (vs ++ rs) p) (inr (inl refl)))

-- ---- what stays

among_behind : (xs ys : List PieceView) (r : PieceView) → IsAmong ys r → IsAmong (xs ++ ys) r
among_behind [] ys r h = h
among_behind (x ∷ xs) ys r h = Any-there (λ (s : PieceView). s ≡ r) x (xs ++ ys) (among_behind xs ys r h)

pub all_among : (xs ys : List PieceView) → All (IsAmong (xs ++ ys)) ys
all_among xs [] = All-nil (IsAmong (xs ++ []))
all_among xs (y ∷ ys) =
    All-cons (IsAmong (xs ++ (y ∷ ys))) y ys (among_behind xs (y ∷ ys) y (Any-here (λ (s : PieceView). s ≡ y) y ys refl))
    (subst (λ (zs : List PieceView). All (IsAmong zs) ys) (append_assoc xs (y ∷ []) ys) (all_among (xs ++ y ∷ []) ys))

pub stay_of_among : (offset end : ℕ) (new rs : List PieceView) → All (IsAmong new) rs → All (StaysApart offset end new) rs
stay_of_among offset end new rs h = All-weaker (IsAmong new) (StaysApart offset end new) (λ r a apart. a) rs h

pub stay_all : (offset end : ℕ) (rs : List PieceView) → All (StaysApart offset end rs) rs
stay_all offset end rs = stay_of_among offset end rs rs (all_among [] rs)

pub each_value : (P : PieceView → Type 0) (es : List (ℕ × PieceView)) → RiseByKey es → ((q : ℕ) (v : PieceView) → piece_at es q ≡ Some v → P v) → All P (values_of es)
each_value P [] rises each = All-nil P
each_value P (e ∷ es) rises each =
    All-cons P e.1 (values_of es) (each e.0 e.1 (at_head e es)) (each_value P es (sorted_tail nat_cmp e.0 (keys_of es) rises) (λ q v found. each q v (tail_at e es q v rises found)))

pub held_stay : (es es' : List (ℕ × PieceView)) (rs : List PieceView) (new : PieceView) → RiseByKey es → MapKeepsApart es new es' → All (StaysApart new.offset (run_end new) (values_of es' ++ rs)) (values_of es ++ rs)
held_stay es es' rs new rises keeps =
    All-append (StaysApart new.offset (run_end new) (values_of es' ++ rs)) (values_of es) rs
    (each_value (StaysApart new.offset (run_end new) (values_of es' ++ rs)) es rises (λ q v found apart. among_front (values_of es') rs v (among_found es' q v (keeps q v found apart))))
    (stay_of_among new.offset (run_end new) (values_of es' ++ rs) rs (all_among (values_of es') rs))

pub pushed_stay : (vs rs rs' : List PieceView) (p : PieceView) → rs' ≡ rs ++ p ∷ [] → All (StaysApart p.offset (run_end p) (vs ++ rs')) (vs ++ rs)
pushed_stay vs rs rs' p e =
    let f : vs ++ rs' ≡ (vs ++ rs) ++ p ∷ [] = ap (λ (xs : List PieceView). vs ++ xs) e ∙ sym (append_assoc vs rs (p ∷ [])) in
    subst (λ (xs : List PieceView). All (StaysApart p.offset (run_end p) xs) (vs ++ rs)) (sym f)
    (stay_of_among p.offset (run_end p) ((vs ++ rs) ++ p ∷ []) (vs ++ rs)
    (All-weaker (IsAmong (vs ++ rs)) (IsAmong ((vs ++ rs) ++ p ∷ [])) (λ r a. among_front (vs ++ rs) (p ∷ []) r a) (vs ++ rs) (all_among [] (vs ++ rs))))
