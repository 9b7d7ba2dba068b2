-- Pieces in order, in a map and in a row.
use Rattle.std.proofs.Common.{◌≡◌, ℕ, ◌-◌, ◌≤◌, ◌<◌, ◌⊎◌, refl, sym, ap, subst, ◌∙◌, inl, inr, List, [], ◌∷◌, ◌++◌, length, arith, Bool, true, false, cond, Option, Some, None}
use Rattle.std.specs.Prelude.{slice_index}
use Rattle.std.specs.List.{All, AllByRecursion}
use Rattle.std.specs.Map.{values_of, keys_of}
use Rattle.std.specs.BTreeMap.{is_at}
use Rattle.std.specs.Ordering.{nat_cmp}
use Rattle.std.specs.declared.cmp.Ordering.TheVariants.{Less}
use Rattle.std.proofs.lemmas.Bool.{cases_eq}
use Rattle.std.proofs.lemmas.Bool.Decides.{nat_tests}
use Rattle.std.proofs.lemmas.List.Elements.{All-head, All-tail, All-nil, All-cons}
use Rattle.std.proofs.lemmas.Map.Keys.{sorted_head, sorted_tail}
use Rattle.quic_assembler.specs.Piece.{PieceView, run_end, RunHolds}
use Rattle.quic_assembler.proofs.Counts.{Any-here, Any-there, Any-cons, Any-nil, Any-append}
use Rattle.quic_ordered.specs.Entries.{piece_at, IsPieceMap, MapHolds, MapTakes}
use Rattle.quic_ordered.specs.Rows.{RiseByKey, LieInOrder, AreKeyed, Hold, Merges}
use Rattle.quic_ordered.proofs.Held.{is_at-apart, none_some, held}

-- ---- what a look-up finds

found_by : (b : Bool) (p v : PieceView) (o : Option PieceView) → cond b (Some p) o ≡ Some v → ((b ≡ true) × (p ≡ v)) ⊎ (o ≡ Some v)
found_by true p v o e = inl (refl, cc)
found_by false p v o e = inr e

key_of_test : (q k : ℕ) → is_at (nat_cmp q) k ≡ true → q ≡ k
key_of_test q k t =
    elim (cases_eq k q) [
      | inl same ↦ sym same
      | inr ne ↦ absurd (let f = is_at-apart q k ne in cc)
    ]

pub found_head : (e : ℕ × PieceView) (es : List (ℕ × PieceView)) (q : ℕ) (v : PieceView) → piece_at (e ∷ es) q ≡ Some v → ((q ≡ e.0) × (e.1 ≡ v)) ⊎ (piece_at es q ≡ Some v)
found_head e es q v found =
    elim (found_by (is_at (nat_cmp q) e.0) e.1 v (piece_at es q) found) [
      | inl h ↦ inl (key_of_test q e.0 h.0, h.1)
      | inr t ↦ inr t
    ]

test_here : (q k : ℕ) → q ≡ k → is_at (nat_cmp q) k ≡ true
test_here q k e = grind (arith, nat_tests)

pub at_head : (e : ℕ × PieceView) (es : List (ℕ × PieceView)) → piece_at (e ∷ es) e.0 ≡ Some e.1
at_head e es = let t = test_here e.0 e.0 refl in ap (λ (b : Bool). cond b (Some e.1) (piece_at es e.0)) t

pub at_tail : (e : ℕ × PieceView) (es : List (ℕ × PieceView)) (q : ℕ) → (q ≡ e.0 → ⊥) → piece_at (e ∷ es) q ≡ piece_at es q
at_tail e es q ne = let t = is_at-apart q e.0 (λ s. ne (sym s)) in ap (λ (b : Bool). cond b (Some e.1) (piece_at es q)) t

-- ---- in order

pub lower : (low from : ℕ) (rs : List PieceView) → low ≤ from → LieInOrder from rs → LieInOrder low rs
lower low from [] le h = tt
lower low from (r ∷ rs) le h = (let a = h.0 in omega arith, h.1, h.2)

pub order_behind : (low : ℕ) (xs rs : List PieceView) → LieInOrder low (xs ++ rs) → LieInOrder low rs
order_behind low [] rs h = h
order_behind low (x ∷ xs) rs h = lower low (run_end x) rs (let a = h.0 in omega arith) (order_behind (run_end x) xs rs h.2)

pub order_front : (low : ℕ) (xs rs : List PieceView) → LieInOrder low (xs ++ rs) → LieInOrder low xs
order_front low [] rs h = tt
order_front low (x ∷ xs) rs h = (h.0, h.1, order_front (run_end x) xs rs h.2)

pub order_push : (low : ℕ) (xs : List PieceView) (last p : PieceView) → LieInOrder low (xs ++ last ∷ []) → run_end last ≤ p.offset → 0 < length p.bytes → LieInOrder low ((xs ++ last ∷ []) ++ p ∷ [])
order_push low [] last p h le some = (h.0, h.1, (le, some, tt))
order_push low (x ∷ xs) last p h le some = (h.0, h.1, order_push (run_end x) xs last p h.2 le some)

pub found_low : (es : List (ℕ × PieceView)) (rs : List PieceView) (low q : ℕ) (v : PieceView) → LieInOrder low (values_of es ++ rs) → piece_at es q ≡ Some v → (low ≤ v.offset) × (0 < length v.bytes)
found_low [] rs low q v h found = absurd (none_some None v refl found)
found_low (e ∷ es) rs low q v h found =
    elim (found_head e es q v found) [
      | inl here ↦ subst (λ (w : PieceView). (low ≤ w.offset) × (0 < length w.bytes)) here.1 (h.0, h.1)
      | inr there ↦ let i = found_low es rs (run_end e.1) q v h.2 there in let a = h.0 in (omega (arith, i.0), i.1)
    ]

-- the row lies behind each piece of the map
pub row_behind : (es : List (ℕ × PieceView)) (rs : List PieceView) (low q : ℕ) (v : PieceView) → LieInOrder low (values_of es ++ rs) → piece_at es q ≡ Some v → LieInOrder (run_end v) rs
row_behind [] rs low q v h found = absurd (none_some None v refl found)
row_behind (e ∷ es) rs low q v h found =
    elim (found_head e es q v found) [
      | inl here ↦ subst (λ (w : PieceView). LieInOrder (run_end w) rs) here.1 (order_behind (run_end e.1) (values_of es) rs h.2)
      | inr there ↦ row_behind es rs (run_end e.1) q v h.2 there
    ]

pub key_at : (es : List (ℕ × PieceView)) (q : ℕ) (v : PieceView) → AreKeyed es → piece_at es q ≡ Some v → v.offset ≡ q
key_at [] q v k found = absurd (none_some None v refl found)
key_at (e ∷ es) q v k found =
    elim (found_head e es q v found) [
      | inl here ↦ ap (λ (w : PieceView). w.offset) (sym here.1) ∙ (k.0 ∙ sym here.0)
      | inr there ↦ key_at es q v k.1 there
    ]

two_apart : (es : List (ℕ × PieceView)) (rs : List PieceView) (low q r : ℕ) (v w : PieceView) → AreKeyed es → LieInOrder low (values_of es ++ rs) → piece_at es q ≡ Some v → piece_at es r ≡ Some w → q < r → run_end v ≤ r
two_apart [] rs low q r v w k h found other lt = absurd (none_some None v refl found)
two_apart (e ∷ es) rs low q r v w k h found other lt =
    elim (found_head e es q v found) [
      | inl here ↦ elim (found_head e es r w other) [
        | inl same ↦ absurd (let a = here.0 in let b = same.0 in omega arith)
        | inr there ↦
            let i = found_low es rs (run_end e.1) r w h.2 there in
            let j = key_at es r w k.1 there in
            let m = ap run_end here.1 in
            omega (arith, i.0, j, m)
      ]
      | inr there ↦ elim (found_head e es r w other) [
        | inl same ↦
            let i = found_low es rs (run_end e.1) q v h.2 there in
            let j = key_at es q v k.1 there in
            let a = same.0 in
            let b = k.0 in
            absurd (omega (arith, i.0, j))
        | inr more ↦ two_apart es rs (run_end e.1) q r v w k.1 h.2 there more lt
      ]
    ]

pub piece_map_of : (es : List (ℕ × PieceView)) (rs : List PieceView) (low : ℕ) → AreKeyed es → LieInOrder low (values_of es ++ rs) → IsPieceMap es
piece_map_of es rs low k h = record {
  key = λ q v found. key_at es q v k found;
  some = λ q v found. (found_low es rs low q v h found).1;
  apart = λ q r v w found other lt. two_apart es rs low q r v w k h found other lt;
}

-- ---- what is held

pub map_of_values : (es : List (ℕ × PieceView)) (rs : List PieceView) (low at byte : ℕ) → AreKeyed es → LieInOrder low (values_of es ++ rs) → Hold (values_of es) at byte → MapHolds es at byte
map_of_values [] rs low at byte k h any = absurd (Any-nil (RunHolds at byte) any)
map_of_values (e ∷ es) rs low at byte k h any =
    elim (Any-cons (RunHolds at byte) e.1 (values_of es) any) [
      | inl here ↦ held (e ∷ es) e.0 at byte e.1 (at_head e es) here
      | inr there ↦
          let m = map_of_values es rs (run_end e.1) at byte k.1 h.2 there in
          let i = found_low es rs (run_end e.1) m.start m.run h.2 m.found in
          let j = key_at es m.start m.run k.1 m.found in
          let a = k.0 in
          let b = h.1 in
          held (e ∷ es) m.start at byte m.run (at_tail e es m.start (λ same. omega (arith, i.0, j)) ∙ m.found) m.here
    ]

values_found : (es : List (ℕ × PieceView)) (q at byte : ℕ) (v : PieceView) → piece_at es q ≡ Some v → RunHolds at byte v → Hold (values_of es) at byte
values_found [] q at byte v found here = absurd (none_some None v refl found)
values_found (e ∷ es) q at byte v found here =
    elim (found_head e es q v found) [
      | inl h ↦ Any-here (RunHolds at byte) e.1 (values_of es) (subst (RunHolds at byte) (sym h.1) here)
      | inr there ↦ Any-there (RunHolds at byte) e.1 (values_of es) (values_found es q at byte v there here)
    ]

pub values_of_map : (es : List (ℕ × PieceView)) (at byte : ℕ) → MapHolds es at byte → Hold (values_of es) at byte
values_of_map es at byte m = values_found es m.start at byte m.run m.found m.here

pub hold_front : (xs ys : List PieceView) (at byte : ℕ) → Hold xs at byte → Hold (xs ++ ys) at byte
hold_front [] ys at byte h = absurd (Any-nil (RunHolds at byte) h)
hold_front (x ∷ xs) ys at byte h =
    elim (Any-cons (RunHolds at byte) x xs h) [
      | inl here ↦ Any-here (RunHolds at byte) x (xs ++ ys) here
      | inr there ↦ Any-there (RunHolds at byte) x (xs ++ ys) (hold_front xs ys at byte there)
    ]

pub hold_behind : (xs ys : List PieceView) (at byte : ℕ) → Hold ys at byte → Hold (xs ++ ys) at byte
hold_behind [] ys at byte h = h
hold_behind (x ∷ xs) ys at byte h = Any-there (RunHolds at byte) x (xs ++ ys) (hold_behind xs ys at byte h)

-- ---- a piece was taken into the map

pub merges_map : (es es' : List (ℕ × PieceView)) (rs : List PieceView) (new : PieceView) (low low' : ℕ) → AreKeyed es → LieInOrder low (values_of es ++ rs) → AreKeyed es' → LieInOrder low' (values_of es' ++ rs)
    → MapTakes es new es' → Merges (values_of es ++ rs) new (values_of es' ++ rs)
merges_map es es' rs new low low' k h k' h' t = record {
  keeps = λ at byte any.
      elim (Any-append (RunHolds at byte) (values_of es) rs any) [
        | inl a ↦ hold_front (values_of es') rs at byte (values_of_map es' at byte (t.keeps at byte (map_of_values es rs low at byte k h a)))
        | inr b ↦ hold_behind (values_of es') rs at byte b
      ];
  gains = λ at byte here none. hold_front (values_of es') rs at byte (values_of_map es' at byte (t.gains at byte here (λ b m. none b (hold_front (values_of es) rs at b (values_of_map es at b m)))));
  origin = λ at byte any.
      elim (Any-append (RunHolds at byte) (values_of es') rs any) [
        | inl a ↦ elim (t.origin at byte (map_of_values es' rs low' at byte k' h' a)) [
          | inl old ↦ inl (hold_front (values_of es) rs at byte (values_of_map es at byte old))
          | inr mine ↦ inr mine
        ]
        | inr b ↦ inl (hold_behind (values_of es) rs at byte b)
      ];
}

-- ---- from a map to a list in order

less_lt : (a b : ℕ) → nat_cmp a b ≡ Less → a < b
less_lt a b e = grind (arith, nat_tests)

after_all : (k : ℕ) (es : List (ℕ × PieceView)) (q : ℕ) (v : PieceView) → AllByRecursion (λ y. nat_cmp k y ≡ Less) (keys_of es) → piece_at es q ≡ Some v → k < q
after_all k [] q v h found = absurd (none_some None v refl found)
after_all k (e ∷ es) q v h found =
    elim (found_head e es q v found) [
      | inl here ↦ let l = less_lt k e.0 h.0 in let a = here.0 in omega arith
      | inr there ↦ after_all k es q v h.1 there
    ]

pub after_head : (e : ℕ × PieceView) (es : List (ℕ × PieceView)) (q : ℕ) (v : PieceView) → RiseByKey (e ∷ es) → piece_at es q ≡ Some v → e.0 < q
after_head e es q v rises found = after_all e.0 es q v (sorted_head nat_cmp e.0 (keys_of es) rises) found

pub tail_at : (e : ℕ × PieceView) (es : List (ℕ × PieceView)) (q : ℕ) (v : PieceView) → RiseByKey (e ∷ es) → piece_at es q ≡ Some v → piece_at (e ∷ es) q ≡ Some v
tail_at e es q v rises found = at_tail e es q (λ same. let l = after_head e es q v rises found in omega arith) ∙ found

pub tail_map : (e : ℕ × PieceView) (es : List (ℕ × PieceView)) → RiseByKey (e ∷ es) → IsPieceMap (e ∷ es) → IsPieceMap es
tail_map e es rises m = record {
  key = λ q v found. m.key q v (tail_at e es q v rises found);
  some = λ q v found. m.some q v (tail_at e es q v rises found);
  apart = λ q r v w found other lt. m.apart q r v w (tail_at e es q v rises found) (tail_at e es r w rises other) lt;
}

pub keyed_of : (es : List (ℕ × PieceView)) → RiseByKey es → IsPieceMap es → AreKeyed es
keyed_of [] rises m = tt
keyed_of (e ∷ es) rises m = (m.key e.0 e.1 (at_head e es), keyed_of es (sorted_tail nat_cmp e.0 (keys_of es) rises) (tail_map e es rises m))

pub order_of : (es : List (ℕ × PieceView)) (rs : List PieceView) (low : ℕ) → RiseByKey es → IsPieceMap es → ((q : ℕ) (v : PieceView) → piece_at es q ≡ Some v → (low ≤ q) × LieInOrder (run_end v) rs) → LieInOrder low rs → LieInOrder low (values_of es ++ rs)
order_of [] rs low rises m each rest = rest
order_of (e ∷ es) rs low rises m each rest =
    let here = each e.0 e.1 (at_head e es) in
    let k = m.key e.0 e.1 (at_head e es) in (
      omega (arith, here.0),
      m.some e.0 e.1 (at_head e es),
      order_of es rs (run_end e.1) (sorted_tail nat_cmp e.0 (keys_of es) rises) (tail_map e es rises m)
          (λ q v found. (m.apart e.0 q e.1 v (at_head e es) (tail_at e es q v rises found) (after_head e es q v rises found), (each q v (tail_at e es q v rises found)).1))
          here.1,
    )

pub order_push_all : (low : ℕ) (xs : List PieceView) (p : PieceView) → LieInOrder low xs → All (λ (r : PieceView). run_end r ≤ p.offset) xs → low ≤ p.offset → 0 < length p.bytes → LieInOrder low (xs ++ p ∷ [])
order_push_all low [] p h ends le some = (le, some, tt)
order_push_all low (x ∷ xs) p h ends le some =
    (h.0, h.1, order_push_all (run_end x) xs p h.2 (All-tail (λ (r : PieceView). run_end r ≤ p.offset) x xs ends) (All-head (λ (r : PieceView). run_end r ≤ p.offset) x xs ends) some)

last_above : (low : ℕ) (xs : List PieceView) (last : PieceView) → LieInOrder low (xs ++ last ∷ []) → low ≤ run_end last
last_above low [] last h = let a = h.0 in omega arith
last_above low (x ∷ xs) last h = let i = last_above (run_end x) xs last h.2 in let a = h.0 in omega (arith, i)

-- all end by where the last one ends
pub ends_by_last : (low n : ℕ) (xs : List PieceView) (last : PieceView) → LieInOrder low (xs ++ last ∷ []) → run_end last ≤ n → All (λ (r : PieceView). run_end r ≤ n) (xs ++ last ∷ [])
ends_by_last low n [] last h le = All-cons (λ (r : PieceView). run_end r ≤ n) last [] le (All-nil (λ (r : PieceView). run_end r ≤ n))
ends_by_last low n (x ∷ xs) last h le =
    let i = last_above (run_end x) xs last h.2 in
    All-cons (λ (r : PieceView). run_end r ≤ n) x (xs ++ last ∷ []) (omega (arith, i, le)) (ends_by_last (run_end x) n xs last h.2 le)

pub keys_below : (es : List (ℕ × PieceView)) (rs : List PieceView) (p : PieceView) (low : ℕ) → AreKeyed es → LieInOrder low (values_of es ++ (p ∷ rs)) → All (λ (key : ℕ). key < p.offset) (keys_of es)
keys_below [] rs p low k h = All-nil (λ (key : ℕ). key < p.offset)
keys_below (e ∷ es) rs p low k h =
    let b = order_behind (run_end e.1) (values_of es) (p ∷ rs) h.2 in
    let c = b.0 in
    let d = h.1 in
    let f = k.0 in
    All-cons (λ (key : ℕ). key < p.offset) e.0 (keys_of es) (omega (arith, c, d, f)) (keys_below es rs p (run_end e.1) k.1 h.2)

pub keyed_push : (es : List (ℕ × PieceView)) (p : PieceView) → AreKeyed es → AreKeyed (es ++ (p.offset, p) ∷ [])
keyed_push [] p k = (refl, tt)
keyed_push (e ∷ es) p k = (k.0, keyed_push es p k.1)

pub values_push : (es : List (ℕ × PieceView)) (rs : List PieceView) (k : ℕ) (p : PieceView) → values_of (es ++ (k, p) ∷ []) ++ rs ≡ values_of es ++ (p ∷ rs)
values_push [] rs k p = refl
values_push (e ∷ es) rs k p = ap (λ (xs : List PieceView). e.1 ∷ xs) (values_push es rs k p)

-- each piece of the map that took one lies before the row
pub hold_each : (es es' : List (ℕ × PieceView)) (rs : List PieceView) (new : PieceView) (low q : ℕ) (v : PieceView) → AreKeyed es → LieInOrder low (values_of es ++ rs) → IsPieceMap es' → MapTakes es new es' → low ≤ new.offset → LieInOrder (run_end new) rs
    → piece_at es' q ≡ Some v → (low ≤ q) × LieInOrder (run_end v) rs
hold_each es es' rs new low q v k h m t le rest found =
    let key = m.key q v found in
    let some = m.some q v found in
    let first : MapHolds es' q (slice_index v.bytes (q - v.offset)) = held es' q q _ v found (omega (arith, key), omega (arith, key, some), refl) in
    let last : MapHolds es' (run_end v - 1) (slice_index v.bytes (run_end v - 1 - v.offset)) = held es' q (run_end v - 1) _ v found (omega (arith, some), omega (arith, some), refl) in (
      elim (t.origin q _ first) [
        | inl old ↦ let f = found_low es rs low old.start old.run h old.found in let here = old.here in omega (arith, f.0, here.0)
        | inr mine ↦ omega (arith, mine.0, le)
      ],
      elim (t.origin (run_end v - 1) _ last) [
        | inl old ↦ let here = old.here in lower (run_end v) (run_end old.run) rs (omega (arith, here.1)) (row_behind es rs low old.start old.run h old.found)
        | inr mine ↦ lower (run_end v) (run_end new) rs (omega (arith, mine.1)) rest
      ],
    )

pub merges_push : (rs : List PieceView) (p : PieceView) → Merges rs p (rs ++ p ∷ [])
merges_push rs p = record {
  keeps = λ at byte h. hold_front rs (p ∷ []) at byte h;
  gains = λ at byte here none. hold_behind rs (p ∷ []) at byte (Any-here (RunHolds at byte) p [] here);
  origin = λ at byte h.
      elim (Any-append (RunHolds at byte) rs (p ∷ []) h) [
        | inl old ↦ inl old
        | inr mine ↦ elim (Any-cons (RunHolds at byte) p [] mine) [
          | inl here ↦ inr here
          | inr none ↦ absurd (Any-nil (RunHolds at byte) none)
        ]
      ];
}
