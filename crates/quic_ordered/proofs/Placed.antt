-- Pieces that lie apart are put into a map.
use Rattle.std.proofs.Common.{◌≡◌, ℕ, ◌+◌, ◌≤◌, ◌<◌, ◌⊎◌, refl, sym, ap, subst, ◌∙◌, inl, inr, List, [], ◌∷◌, ◌++◌, length, arith, Option, Some, None, get_or, drop, add-one, append_assoc}
use Rattle.std.proofs.Math.Seq.{drop-cons}
use Rattle.std.proofs.Math.ListN.{drop_of_length-le}
use Rattle.std.specs.List.{All}
use Rattle.std.specs.List.Sorted.{IsPermutation}
use Rattle.std.specs.Map.{values_of, keys_of}
use Rattle.std.specs.BTreeMap.{insert_entry}
use Rattle.std.specs.Ordering.{nat_cmp, match_ordering}
use Rattle.std.specs.declared.cmp.Ordering.{Ordering}
use Rattle.std.proofs.lemmas.Bool.{cases_lt, cases_eq}
use Rattle.std.proofs.lemmas.List.Elements.{All-head, All-tail, All-nil, All-cons, All-append, All-push}
use Rattle.std.proofs.lemmas.List.Sorted.{IsPermutation-refl, IsPermutation-trans, IsPermutation-cons, IsPermutation-append_comm, All-permutation}
use Rattle.std.proofs.lemmas.Map.Keys.{sorted_tail}
use Rattle.quic_assembler.specs.Piece.{PieceView, run_end, IsSome, cover_count, covers}
use Rattle.quic_assembler.proofs.Counts.{lies_in, count-append, count_permuted}
use Rattle.quic_ordered.specs.Entries.{piece_at, IsPieceMap, IsPlaced}
use Rattle.quic_ordered.specs.Rows.{RiseByKey, LieInOrder, IsStore}
use Rattle.quic_ordered.proofs.Held.{none_some}
use Rattle.quic_ordered.proofs.Order.{found_head, at_head, at_tail, after_head, lower, order_behind, order_of, keyed_of}
use Rattle.quic_ordered.proofs.Firsts.{greater, less}
use Rattle.quic_ordered.proofs.Joining.{Free}

-- ---- two maps with the same pieces at the same offsets are one

pub none_of : (o : Option PieceView) → ((v : PieceView) → o ≡ Some v → ⊥) → o ≡ None
none_of None h = refl
none_of (Some v) h = absurd (h v refl)

pub one_entry : (e f : ℕ × PieceView) → e.0 ≡ f.0 → e.1 ≡ f.1 → e ≡ f
one_entry (a, b) (c, d) p q = cc

pub after_not : (e : ℕ × PieceView) (es : List (ℕ × PieceView)) (q : ℕ) → RiseByKey (e ∷ es) → q ≡ e.0 → piece_at es q ≡ None
after_not e es q rises same = none_of (piece_at es q) (λ v found. let l = after_head e es q v rises found in absurd (omega arith))

same_tail : (e f : ℕ × PieceView) (es fs : List (ℕ × PieceView)) (q : ℕ) → RiseByKey (e ∷ es) → RiseByKey (f ∷ fs) → e.0 ≡ f.0 → piece_at (e ∷ es) q ≡ piece_at (f ∷ fs) q → piece_at es q ≡ piece_at fs q
same_tail e f es fs q r s k h =
    elim (cases_eq q e.0) [
      | inl same ↦ after_not e es q r same ∙ sym (after_not f fs q s (same ∙ k))
      | inr ne ↦ sym (at_tail e es q ne) ∙ (h ∙ at_tail f fs q (λ s. ne (s ∙ sym k)))
    ]

pub same_map : (es fs : List (ℕ × PieceView)) → RiseByKey es → RiseByKey fs → ((q : ℕ) → piece_at es q ≡ piece_at fs q) → es ≡ fs
same_map [] [] r s h = refl
same_map [] (f ∷ fs) r s h = absurd (none_some (piece_at [] f.0) f.1 refl (h f.0 ∙ at_head f fs))
same_map (e ∷ es) [] r s h = absurd (none_some (piece_at [] e.0) e.1 refl (sym (h e.0) ∙ at_head e es))
same_map (e ∷ es) (f ∷ fs) r s h =
    let one = found_head f fs e.0 e.1 (sym (h e.0) ∙ at_head e es) in
    let two = found_head e es f.0 f.1 (h f.0 ∙ at_head f fs) in
    elim one [
      | inl a ↦
          let t = same_map es fs (sorted_tail nat_cmp e.0 (keys_of es) r) (sorted_tail nat_cmp f.0 (keys_of fs) s) (λ q. same_tail e f es fs q r s a.0 (h q)) in
          let i = one_entry e f a.0 (sym a.1) in
          ap (λ (x : ℕ × PieceView). x ∷ es) i ∙ ap (λ (xs : List (ℕ × PieceView)). f ∷ xs) t
      | inr b ↦
          let lt = after_head f fs e.0 e.1 s b in
          elim two [
            | inl c ↦ (let d = c.0 in absurd (omega arith))
            | inr d ↦ (let gt = after_head e es f.0 f.1 r d in absurd (omega arith))
          ]
    ]

-- ---- what was put in is taken out

pub placed_none : (es : List (ℕ × PieceView)) → IsPlaced [] es es
placed_none es = record { absent = All-nil (λ (o : ℕ). piece_at es o ≡ None); same = λ q h. refl }

pub placed_all : (es es' : List (ℕ × PieceView)) → RiseByKey es → RiseByKey es' → IsPlaced [] es es' → es' ≡ es
placed_all es es' r s p = same_map es' es s r (λ q. p.same q (All-nil (λ (o : ℕ). q ≡ o → ⊥)))

pub placed_less : (es one two : List (ℕ × PieceView)) (o : ℕ) (os : List ℕ) → IsPlaced (o ∷ os) es one → piece_at two o ≡ None → ((q : ℕ) → (q ≡ o → ⊥) → piece_at two q ≡ piece_at one q) → IsPlaced os es two
placed_less es one two o os p gone others = record {
  absent = All-tail (λ (o : ℕ). piece_at es o ≡ None) o os p.absent;
  same = λ q h.
      elim (cases_eq q o) [
        | inl same ↦ ap (piece_at two) same ∙ (gone ∙ (sym (All-head (λ (o : ℕ). piece_at es o ≡ None) o os p.absent) ∙ ap (piece_at es) (sym same)))
        | inr ne ↦ others q ne ∙ p.same q (All-cons (λ (o : ℕ). q ≡ o → ⊥) o os ne h)
      ];
}

all_but_last : (P : ℕ → Type 0) (os : List ℕ) (o : ℕ) → All P (os ++ o ∷ []) → All P os × P o
all_but_last P [] o h = (All-nil P, All-head P o [] h)
all_but_last P (x ∷ os) o h =
    let t = all_but_last P os o (All-tail P x (os ++ o ∷ []) h) in
    (All-cons P x os (All-head P x (os ++ o ∷ []) h) t.0, t.1)

pub placed_more : (es one two : List (ℕ × PieceView)) (o : ℕ) (os : List ℕ) → IsPlaced os es one → piece_at es o ≡ None → ((q : ℕ) → (q ≡ o → ⊥) → piece_at two q ≡ piece_at one q) → IsPlaced (os ++ o ∷ []) es two
placed_more es one two o os p none others = record {
  absent = All-push (λ (o : ℕ). piece_at es o ≡ None) os o p.absent none;
  same = λ q h. let t = all_but_last (λ (o : ℕ). q ≡ o → ⊥) os o h in others q t.1 ∙ p.same q t.0;
}

-- ---- a piece that no other overlaps

count_at : (at q : ℕ) (v : PieceView) (es : List (ℕ × PieceView)) → piece_at es q ≡ Some v → covers at v ≤ cover_count at (values_of es)
count_at at q v [] found = absurd (none_some (piece_at [] q) v refl found)
count_at at q v (e ∷ es) found =
    elim (found_head e es q v found) [
      | inl h ↦ (let c = ap (covers at) h.1 in omega (arith, c))
      | inr t ↦ omega (arith, count_at at q v es t)
    ]

two_free : (p v : PieceView) → IsSome p → IsSome v → ((at : ℕ) → covers at v + covers at p ≤ 1) → (run_end v ≤ p.offset) ⊎ (run_end p ≤ v.offset)
two_free p v some other once =
    elim (cases_lt p.offset (run_end v)) [
      | inr ge ↦ inl ge
      | inl lt ↦
          elim (cases_lt v.offset (run_end p)) [
            | inr ge ↦ inr ge
            | inl gt ↦
                elim (cases_lt p.offset v.offset) [
                  | inl b ↦ absurd (omega (arith, once v.offset, lies_in p.offset (run_end p) v.offset (omega arith) gt, lies_in v.offset (run_end v) v.offset (omega arith) (omega (arith, other))))
                  | inr b ↦ absurd (omega (arith, once p.offset, lies_in p.offset (run_end p) p.offset (omega arith) (omega (arith, some)), lies_in v.offset (run_end v) p.offset b lt))
                ]
          ]
    ]

pub free_of_count : (ps : List PieceView) (p : PieceView) (es : List (ℕ × PieceView)) → IsPieceMap es → IsSome p → ((at : ℕ) → cover_count at ((ps ++ p ∷ []) ++ values_of es) ≤ 1) → Free es p
free_of_count ps p es apart some once q v found =
    let k = apart.key q v found in
    elim (two_free p v some (apart.some q v found) (λ at. omega (arith, once at, count-append at (ps ++ p ∷ []) (values_of es), count-append at ps (p ∷ []), count_at at q v es found))) [
      | inl h ↦ inl h
      | inr h ↦ inr (omega (arith, k))
    ]

pub absent_of_free : (p : PieceView) (es : List (ℕ × PieceView)) → IsPieceMap es → IsSome p → Free es p → piece_at es p.offset ≡ None
absent_of_free p es apart some free = none_of (piece_at es p.offset) (λ v found.
    let k = apart.key p.offset v found in
    let s = apart.some p.offset v found in
    elim (free p.offset v found) [
      | inl h ↦ absurd (omega (arith, k, s))
      | inr h ↦ absurd (omega (arith, some))
    ])

-- ---- the values with another piece

swap : (a b : PieceView) (xs : List PieceView) → IsPermutation (a ∷ (b ∷ xs)) (b ∷ (a ∷ xs))
swap a b xs =
    let one = IsPermutation-append_comm (a ∷ []) (b ∷ xs) in
    IsPermutation-trans (a ∷ (b ∷ xs)) ((b ∷ xs) ++ a ∷ []) (b ∷ (a ∷ xs)) one (IsPermutation-cons b (xs ++ a ∷ []) (a ∷ xs) (IsPermutation-append_comm xs (a ∷ [])))

pub put_permutes : (es : List (ℕ × PieceView)) (k : ℕ) (p : PieceView) → piece_at es k ≡ None → IsPermutation (p ∷ values_of es) (values_of (insert_entry nat_cmp es k p))
put_permutes [] k p none = IsPermutation-refl (p ∷ [])
put_permutes (e ∷ es) k p none =
    let at : Ordering → List PieceView = λ (o : Ordering). values_of (match_ordering o ((k, p) ∷ (e ∷ es)) ((e.0, p) ∷ es) (e ∷ insert_entry nat_cmp es k p)) in
    elim (cases_lt k e.0) [
      | inl lt ↦ subst (IsPermutation (p ∷ values_of (e ∷ es))) (sym (ap at (less k e.0 lt))) (IsPermutation-refl (p ∷ values_of (e ∷ es)))
      | inr ge ↦
          elim (cases_eq k e.0) [
            | inl same ↦ absurd (none_some (piece_at (e ∷ es) k) e.1 none (ap (piece_at (e ∷ es)) same ∙ at_head e es))
            | inr ne ↦
                let t = put_permutes es k p (sym (at_tail e es k ne) ∙ none) in
                subst (IsPermutation (p ∷ values_of (e ∷ es))) (sym (ap at (greater k e.0 (omega (arith, ne)))))
                (IsPermutation-trans (p ∷ (e.1 ∷ values_of es)) (e.1 ∷ (p ∷ values_of es)) (e.1 ∷ values_of (insert_entry nat_cmp es k p)) (swap p e.1 (values_of es)) (IsPermutation-cons e.1 (p ∷ values_of es) (values_of (insert_entry nat_cmp es k p)) t))
          ]
    ]

pub behind_front : (ps : List PieceView) (p : PieceView) (vs ws : List PieceView) → IsPermutation (p ∷ vs) ws → IsPermutation ((ps ++ p ∷ []) ++ vs) (ps ++ ws)
behind_front [] p vs ws h = h
behind_front (x ∷ ps) p vs ws h = IsPermutation-cons x ((ps ++ p ∷ []) ++ vs) (ps ++ ws) (behind_front ps p vs ws h)

pub moved_permutes : (all vs ps : List PieceView) (p : PieceView) (es es' : List (ℕ × PieceView)) → IsPermutation (all ++ vs) ((ps ++ p ∷ []) ++ values_of es) → piece_at es p.offset ≡ None → es' ≡ insert_entry nat_cmp es p.offset p → IsPermutation (all ++ vs) (ps ++ values_of es')
moved_permutes all vs ps p es es' h none e =
    let put = subst (λ (xs : List (ℕ × PieceView)). IsPermutation (p ∷ values_of es) (values_of xs)) (sym e) (put_permutes es p.offset p none) in
    IsPermutation-trans (all ++ vs) ((ps ++ p ∷ []) ++ values_of es) (ps ++ values_of es') h (behind_front ps p (values_of es) (values_of es') put)

pub once_permuted : (at : ℕ) (xs ys : List PieceView) → IsPermutation xs ys → cover_count at xs ≤ 1 → cover_count at ys ≤ 1
once_permuted at xs ys p h = omega (arith, count_permuted at xs ys p)

pub once_less : (at : ℕ) (ps vs : List PieceView) (p : PieceView) → cover_count at ((ps ++ p ∷ []) ++ vs) ≤ 1 → cover_count at (ps ++ vs) ≤ 1
once_less at ps vs p h = omega (arith, count-append at (ps ++ p ∷ []) vs, count-append at ps (p ∷ []), count-append at ps vs)

pub some_less : (ps : List PieceView) (p : PieceView) → All IsSome (ps ++ p ∷ []) → All IsSome ps × IsSome p
some_less [] p h = (All-nil IsSome, All-head IsSome p [] h)
some_less (x ∷ ps) p h =
    let t = some_less ps p (All-tail IsSome x (ps ++ p ∷ []) h) in
    (All-cons IsSome x ps (All-head IsSome x (ps ++ p ∷ []) h) t.0, t.1)

pub rest_of : (xs : List ℕ) (i : ℕ) → i < length xs → drop i xs ≡ get_or xs i 0 ∷ drop (i + 1) xs
rest_of xs i l = drop-cons xs i 0 l ∙ rw add-one refl

pub rest_none : (xs : List ℕ) (i : ℕ) → length xs ≤ i → drop i xs ≡ []
rest_none xs i l = drop_of_length-le xs l

-- ---- a store with pieces that were put in

rises_behind : (es : List (ℕ × PieceView)) (rs : List PieceView) (low : ℕ) → LieInOrder low (values_of es ++ rs) → All (λ (v : PieceView). LieInOrder (run_end v) rs) (values_of es)
rises_behind [] rs low h = All-nil (λ (v : PieceView). LieInOrder (run_end v) rs)
rises_behind (e ∷ es) rs low h = All-cons (λ (v : PieceView). LieInOrder (run_end v) rs) e.1 (values_of es) (order_behind (run_end e.1) (values_of es) rs h.2) (rises_behind es rs (run_end e.1) h.2)

ends_behind : (rs ps : List PieceView) (end : ℕ) → LieInOrder end rs → All (λ (p : PieceView). run_end p ≤ end) ps → All (λ (v : PieceView). LieInOrder (run_end v) rs) ps
ends_behind rs [] end h below = All-nil (λ (v : PieceView). LieInOrder (run_end v) rs)
ends_behind rs (p ∷ ps) end h below =
    All-cons (λ (v : PieceView). LieInOrder (run_end v) rs) p ps (lower (run_end p) end rs (All-head (λ (p : PieceView). run_end p ≤ end) p ps below) h)
    (ends_behind rs ps end h (All-tail (λ (p : PieceView). run_end p ≤ end) p ps below))

pub value_at : (P : PieceView → Type 0) (es : List (ℕ × PieceView)) (q : ℕ) (v : PieceView) → All P (values_of es) → piece_at es q ≡ Some v → P v
value_at P [] q v all found = absurd (none_some (piece_at [] q) v refl found)
value_at P (e ∷ es) q v all found =
    elim (found_head e es q v found) [
      | inl h ↦ subst P h.1 (All-head P e.1 (values_of es) all)
      | inr t ↦ value_at P es q v (All-tail P e.1 (values_of es) all) t
    ]

pub placed_store : (es es' : List (ℕ × PieceView)) (rs ps : List PieceView) (end : ℕ) → IsStore es rs → LieInOrder end rs → All (λ (p : PieceView). run_end p ≤ end) ps
    → RiseByKey es' → IsPieceMap es' → IsPermutation (ps ++ values_of es) (values_of es') → IsStore es' rs
placed_store es es' rs ps end s clear below rises apart all =
    let front = ends_behind rs ps end clear below in
    let each = All-permutation (λ (v : PieceView). LieInOrder (run_end v) rs) (ps ++ values_of es) (values_of es') all (All-append (λ (v : PieceView). LieInOrder (run_end v) rs) ps (values_of es) front (rises_behind es rs 0 s.order)) in
    record {
      rises = rises;
      keyed = keyed_of es' rises apart;
      order = order_of es' rs 0 rises apart (λ q v found. (omega arith, value_at (λ (v : PieceView). LieInOrder (run_end v) rs) es' q v each found)) (order_behind 0 (values_of es) rs s.order);
    }

more_front : (rs xs ys : List PieceView) → IsPermutation xs ys → IsPermutation (rs ++ xs) (rs ++ ys)
more_front [] xs ys p = p
more_front (r ∷ rs) xs ys p = IsPermutation-cons r (rs ++ xs) (rs ++ ys) (more_front rs xs ys p)

more_behind : (xs ys rs : List PieceView) → IsPermutation xs ys → IsPermutation (xs ++ rs) (ys ++ rs)
more_behind xs ys rs p =
    IsPermutation-trans (xs ++ rs) (rs ++ xs) (ys ++ rs) (IsPermutation-append_comm xs rs)
    (IsPermutation-trans (rs ++ xs) (rs ++ ys) (ys ++ rs) (more_front rs xs ys p) (IsPermutation-append_comm rs ys))

pub placed_permutes : (es es' : List (ℕ × PieceView)) (rs ps : List PieceView) → IsPermutation (ps ++ values_of es) (values_of es') → IsPermutation (ps ++ (values_of es ++ rs)) (values_of es' ++ rs)
placed_permutes es es' rs ps all = subst (λ (xs : List PieceView). IsPermutation xs (values_of es' ++ rs)) (append_assoc ps (values_of es) rs) (more_behind (ps ++ values_of es) (values_of es') rs all)

pub once_front : (at : ℕ) (ps : List PieceView) (vs rs all : List PieceView) → vs ++ rs ≡ all → cover_count at (ps ++ all) ≤ 1 → cover_count at (ps ++ vs) ≤ 1
once_front at ps vs rs all e h = let c = ap (cover_count at) e in omega (arith, c, count-append at vs rs, count-append at ps all, count-append at ps vs)
