-- The pieces of a map are compacted where they lie.
use Rattle.std.proofs.Common.{◌≡◌, ℕ, ◌-◌, ◌*◌, ◌/◌, ◌^◌, ◌≤◌, ◌<◌, ◌⊎◌, refl, sym, ap, subst, ◌∙◌, inl, inr, List, [], ◌∷◌, ◌++◌, length, arith, append_assoc, Bool, true, cond, Option, Some, None}
use Rattle.std.specs.Prelude.{nat_le, ◌≢◌, Result, Ok, Err, OnErr}
use Rattle.std.specs.List.{All, AllByRecursion}
use Rattle.std.specs.List.Sorted.{IsStrictlySortedBy}
use Rattle.std.specs.Map.{values_of, keys_of}
use Rattle.std.specs.BTreeMap.{is_at}
use Rattle.std.specs.Ordering.{nat_cmp}
use Rattle.std.specs.declared.cmp.Ordering.TheVariants.{Less}
use Rattle.std.proofs.lemmas.Bool.{cases_eq, cases_lt}
use Rattle.std.proofs.lemmas.List.{append-nil, length-append}
use Rattle.std.proofs.lemmas.List.Elements.{All-append, All-weaker, All-head, All-nil, All-cons}
use Rattle.quic_assembler.specs.Piece.{PieceView, run_end}
use Rattle.quic_ordered.specs.Entries.{piece_at}
use Rattle.quic_ordered.specs.Rows.{RiseByKey, AreKeyed, FitsWords, LieInOrder, LieWithGaps, IsTidy, IsGathered, IsKeptOrOwn, IsAmong, HoldSame, IsStore, JoinsLast, tidied, joined_with}
use Rattle.quic_ordered.specs.Sweeping.{IsNextPiece, EndsWith, IsSwept, IsSweptMap}
use Rattle.quic_ordered.proofs.Held.{none_some, some_is}
use Rattle.quic_ordered.proofs.Order.{found_head, at_head, at_tail, key_at, order_front, ends_by_last, order_behind}
use Rattle.quic_ordered.proofs.Firsts.{less}
use Rattle.quic_ordered.proofs.Placed.{same_map, none_of, value_at, one_entry}
use Rattle.quic_ordered.proofs.Compacting.{gathered_none, gathered_step, tidied_is, order_same}

-- ---- entries of a map in order

pub values_append : (xs ys : List (ℕ × PieceView)) → values_of (xs ++ ys) ≡ values_of xs ++ values_of ys
values_append [] ys = refl
values_append (x ∷ xs) ys = ap (λ (vs : List PieceView). x.1 ∷ vs) (values_append xs ys)

pub keyed_front : (xs ys : List (ℕ × PieceView)) → AreKeyed (xs ++ ys) → AreKeyed xs
keyed_front [] ys k = tt
keyed_front (x ∷ xs) ys k = (k.0, keyed_front xs ys k.1)

pub keyed_behind : (xs ys : List (ℕ × PieceView)) → AreKeyed (xs ++ ys) → AreKeyed ys
keyed_behind [] ys k = k
keyed_behind (x ∷ xs) ys k = keyed_behind xs ys k.1

keyed_join : (xs ys : List (ℕ × PieceView)) → AreKeyed xs → AreKeyed ys → AreKeyed (xs ++ ys)
keyed_join [] ys k l = l
keyed_join (x ∷ xs) ys k l = (k.0, keyed_join xs ys k.1 l)

all_above : (k low : ℕ) (es : List (ℕ × PieceView)) → AreKeyed es → LieInOrder low (values_of es) → k < low → AllByRecursion (λ y. nat_cmp k y ≡ Less) (keys_of es)
all_above k low [] keyed h lt = tt
all_above k low (e ∷ es) keyed h lt =
    let a = h.0 in
    let b = keyed.0 in
    (less k e.0 (omega arith), all_above k (run_end e.1) es keyed.1 h.2 (omega arith))

pub rises_of : (low : ℕ) (es : List (ℕ × PieceView)) → AreKeyed es → LieInOrder low (values_of es) → RiseByKey es
unfolding IsStrictlySortedBy
rises_of low [] keyed h = tt
rises_of low (e ∷ es) keyed h =
    let a = keyed.0 in
    let b = h.1 in
    (all_above e.0 (run_end e.1) es keyed.1 h.2 (omega arith), rises_of (run_end e.1) es keyed.1 h.2)

pub found_above : (low : ℕ) (es : List (ℕ × PieceView)) (q : ℕ) (v : PieceView) → AreKeyed es → LieInOrder low (values_of es) → piece_at es q ≡ Some v → low ≤ q
found_above low [] q v keyed h found = absurd (none_some None v refl found)
found_above low (e ∷ es) q v keyed h found =
    let a = h.0 in
    let b = keyed.0 in
    elim (found_head e es q v found) [
      | inl here ↦ let c = here.0 in omega arith
      | inr there ↦ let i = found_above (run_end e.1) es q v keyed.1 h.2 there in omega arith
    ]

-- ---- what is found among them

skipped : (xs : List (ℕ × PieceView)) (k : ℕ) (v : PieceView) (ys : List (ℕ × PieceView)) (q : ℕ) → (q ≡ k → ⊥) → piece_at (xs ++ ((k, v) ∷ ys)) q ≡ piece_at (xs ++ ys) q
skipped [] k v ys q ne = at_tail (k, v) ys q ne
skipped (x ∷ xs) k v ys q ne = ap (λ (o : Option PieceView). cond (is_at (nat_cmp q) x.0) (Some x.1) o) (skipped xs k v ys q ne)

pub found_here : (low : ℕ) (xs : List (ℕ × PieceView)) (k : ℕ) (v : PieceView) (ys : List (ℕ × PieceView)) → AreKeyed (xs ++ ((k, v) ∷ ys)) → LieInOrder low (values_of (xs ++ ((k, v) ∷ ys))) → piece_at (xs ++ ((k, v) ∷ ys)) k ≡ Some v
found_here low [] k v ys keyed h = at_head (k, v) ys
found_here low (x ∷ xs) k v ys keyed h =
    let i = found_here (run_end x.1) xs k v ys keyed.1 h.2 in
    let l = found_above (run_end x.1) (xs ++ ((k, v) ∷ ys)) k v keyed.1 h.2 i in
    let a = keyed.0 in
    let b = h.1 in
    at_tail x (xs ++ ((k, v) ∷ ys)) k (λ s. omega arith) ∙ i

found_none : (low : ℕ) (xs : List (ℕ × PieceView)) (k : ℕ) (v : PieceView) (ys : List (ℕ × PieceView)) → AreKeyed (xs ++ ((k, v) ∷ ys)) → LieInOrder low (values_of (xs ++ ((k, v) ∷ ys))) → piece_at (xs ++ ys) k ≡ None
found_none low [] k v ys keyed h =
    none_of (piece_at ys k) (λ u found.
    let l = found_above (run_end v) ys k u keyed.1 h.2 found in
    let a = keyed.0 in
    let b = h.1 in
    omega arith)
found_none low (x ∷ xs) k v ys keyed h =
    let i = found_here (run_end x.1) xs k v ys keyed.1 h.2 in
    let l = found_above (run_end x.1) (xs ++ ((k, v) ∷ ys)) k v keyed.1 h.2 i in
    let a = keyed.0 in
    let b = h.1 in
    at_tail x (xs ++ ys) k (λ s. omega arith) ∙ found_none (run_end x.1) xs k v ys keyed.1 h.2

pub found_in : (xs ys : List (ℕ × PieceView)) (q : ℕ) (v : PieceView) → piece_at (xs ++ ys) q ≡ Some v → (piece_at xs q ≡ Some v) ⊎ (piece_at ys q ≡ Some v)
found_in [] ys q v found = inr found
found_in (x ∷ xs) ys q v found =
    elim (found_head x (xs ++ ys) q v found) [
      | inl here ↦ inl (ap (piece_at (x ∷ xs)) here.0 ∙ (at_head x xs ∙ ap (λ (w : PieceView). Some w) here.1))
      | inr there ↦ elim (found_in xs ys q v there) [
        | inr behind ↦ inr behind
        | inl front ↦ elim (cases_eq q x.0) [
          | inl same ↦ inl (ap (piece_at (x ∷ xs)) same ∙ (at_head x xs ∙ same_head x (xs ++ ys) q v same found))
          | inr ne ↦ inl (at_tail x xs q ne ∙ front)
        ]
      ]
    ]
  where
    same_head : (x : ℕ × PieceView) (zs : List (ℕ × PieceView)) (q : ℕ) (v : PieceView) → q ≡ x.0 → piece_at (x ∷ zs) q ≡ Some v → Some x.1 ≡ Some v
    same_head x zs q v s f = sym (at_head x zs) ∙ (ap (piece_at (x ∷ zs)) (sym s) ∙ f)

-- ---- the order of what is swept

pub swept_order : (all : List PieceView) (last : Option ℕ) (end : ℕ) (es : List (ℕ × PieceView)) (s : IsSwept all last end es) → LieInOrder 0 (values_of (s.done ++ s.rest))
swept_order all last end es s = subst (LieInOrder 0) (sym (values_append s.done s.rest)) s.gathered.order

pub swept_keyed : (all : List PieceView) (last : Option ℕ) (end : ℕ) (es : List (ℕ × PieceView)) (s : IsSwept all last end es) → AreKeyed (s.done ++ s.rest)
swept_keyed all last end es s = subst AreKeyed s.is s.keyed

-- what is done ends by `end`
pub done_ends : (last : Option ℕ) (end : ℕ) (done : List (ℕ × PieceView)) → EndsWith last end done → LieInOrder 0 (values_of done) → All (λ (r : PieceView). run_end r ≤ end) (values_of done)
done_ends None end done at h = subst (λ (es : List (ℕ × PieceView)). All (λ (r : PieceView). run_end r ≤ end) (values_of es)) (sym at.0) (All-nil (λ (r : PieceView). run_end r ≤ end))
done_ends (Some base) end done at h =
    let e : values_of done ≡ values_of at.0 ++ at.1 ∷ [] = ap (λ (es : List (ℕ × PieceView)). values_of es) at.2 ∙ values_append at.0 ((base, at.1) ∷ []) in
    let le : run_end at.1 ≤ end = let m = at.3 in omega arith in
    subst (All (λ (r : PieceView). run_end r ≤ end)) (sym e) (ends_by_last 0 end (values_of at.0) at.1 (subst (LieInOrder 0) e h) le)

begins_behind : (low : ℕ) (xs : List PieceView) (last p : PieceView) (rest : List PieceView) → LieInOrder low ((xs ++ last ∷ []) ++ (p ∷ rest)) → run_end last ≤ p.offset
begins_behind low [] last p rest h = h.2.0
begins_behind low (x ∷ xs) last p rest h = begins_behind (run_end x) xs last p rest h.2

-- what is left begins from `end` on
pub rest_begins : (last : Option ℕ) (end : ℕ) (done : List (ℕ × PieceView)) (p : PieceView) (rest : List PieceView) → EndsWith last end done → LieInOrder 0 (values_of done ++ (p ∷ rest)) → end ≤ p.offset
rest_begins None end done p rest at h = let m = at.1 in omega arith
rest_begins (Some base) end done p rest at h =
    let e : values_of done ≡ values_of at.0 ++ at.1 ∷ [] = ap (λ (es : List (ℕ × PieceView)). values_of es) at.2 ∙ values_append at.0 ((base, at.1) ∷ []) in
    let b = begins_behind 0 (values_of at.0) at.1 p rest (subst (λ (vs : List PieceView). LieInOrder 0 (vs ++ (p ∷ rest))) e h) in
    let m = at.3 in
    omega arith

-- a piece from `end` on is not done
pub not_done : (all : List PieceView) (last : Option ℕ) (end : ℕ) (es : List (ℕ × PieceView)) (s : IsSwept all last end es) (q : ℕ) (v : PieceView) → end ≤ q → piece_at s.done q ≡ Some v → ⊥
not_done all last end es s q v le found =
    let order = order_front 0 (values_of s.done) (values_of s.rest) s.gathered.order in
    let ends = value_at (λ (r : PieceView). run_end r ≤ end) s.done q v (done_ends last end s.done s.at order) found in
    let key = key_at s.done q v (keyed_front s.done s.rest (swept_keyed all last end es s)) found in
    let some = value_at (λ (r : PieceView). 0 < length r.bytes) s.done q v (all_some 0 (values_of s.done) order) found in
    omega arith
  where
    all_some : (low : ℕ) (xs : List PieceView) → LieInOrder low xs → All (λ (r : PieceView). 0 < length r.bytes) xs
    all_some low [] h = All-nil (λ (r : PieceView). 0 < length r.bytes)
    all_some low (x ∷ xs) h = All-cons (λ (r : PieceView). 0 < length r.bytes) x xs h.1 (all_some (run_end x) xs h.2)

-- the first piece from `end` on is the first that is left
head_of : (es : List (ℕ × PieceView)) (done rest : List (ℕ × PieceView)) (end start : ℕ) (run : PieceView) → es ≡ done ++ rest → AreKeyed (done ++ rest) → LieInOrder 0 (values_of (done ++ rest)) → ((q : ℕ) (v : PieceView) → end ≤ q → piece_at done q ≡ Some v → ⊥)
    → ((p : PieceView) (vs : List PieceView) → values_of rest ≡ p ∷ vs → end ≤ p.offset)
    → piece_at es start ≡ Some run → end ≤ start → ((q : ℕ) → end ≤ q → q < start → piece_at es q ≡ None) → (left : List (ℕ × PieceView)) × (rest ≡ (start, run) ∷ left)
head_of es done [] end start run is keyed order none begins found from first =
    elim (found_in done [] start run (ap (λ (xs : List (ℕ × PieceView)). piece_at xs start) (sym is) ∙ found)) [
      | inl d ↦ absurd (none start run from d)
      | inr n ↦ absurd (none_some None run refl n)
    ]
head_of es done ((k, p) ∷ rest) end start run is keyed order none begins found from first =
    let at = found_here 0 done k p rest keyed order in
    let there = ap (λ (xs : List (ℕ × PieceView)). piece_at xs k) is ∙ at in
    let key = (keyed_behind done ((k, p) ∷ rest) keyed).0 in
    let low = begins p (values_of rest) refl in
    let tail : LieInOrder p.offset (p ∷ values_of rest) = let t = order_behind 0 (values_of done) (p ∷ values_of rest) (subst (LieInOrder 0) (values_append done ((k, p) ∷ rest)) order) in (omega arith, t.1, t.2) in
    elim (cases_lt k start) [
      | inl lt ↦ absurd (none_some (piece_at es k) p (first k (omega arith) lt) there)
      | inr ge ↦
          let here : piece_at ((k, p) ∷ rest) start ≡ Some run =
          elim (found_in done ((k, p) ∷ rest) start run (ap (λ (xs : List (ℕ × PieceView)). piece_at xs start) (sym is) ∙ found)) [
            | inl d ↦ absurd (none start run from d)
            | inr n ↦ n
          ] in
          let up = found_above p.offset ((k, p) ∷ rest) start run (keyed_behind done ((k, p) ∷ rest) keyed) tail here in
          let same : start ≡ k = omega arith in
          let one = some_is (piece_at es k) p run there (ap (piece_at es) (sym same) ∙ found) in
          (rest, ap (λ (e : ℕ × PieceView). e ∷ rest) (one_entry (k, p) (start, run) (sym same) one))
    ]

next_left : (all : List PieceView) (last : Option ℕ) (end : ℕ) (es : List (ℕ × PieceView)) (start stop : ℕ) (little : Bool) (s : IsSwept all last end es) (n : IsNextPiece es start stop little end) → (left : List (ℕ × PieceView)) × (s.rest ≡ (start, n.run) ∷ left)
next_left all last end es start stop little s n =
    head_of es s.done s.rest end start n.run s.is (swept_keyed all last end es s) (swept_order all last end es s) (not_done all last end es s)
    (λ p vs e. rest_begins last end s.done p vs s.at (subst (λ (ws : List PieceView). LieInOrder 0 (values_of s.done ++ ws)) e s.gathered.order)) n.found n.from n.first

-- ---- the beginning and the end

pub swept_none : (es : List (ℕ × PieceView)) → AreKeyed es → LieInOrder 0 (values_of es) → IsSwept (values_of es) None 0 es
swept_none es keyed order = record { done = []; rest = es; is = refl; keyed = keyed; gathered = gathered_none (values_of es) [] refl order; at = (refl, refl) }

nothing_left : (es done rest : List (ℕ × PieceView)) (end : ℕ) → es ≡ done ++ rest → AreKeyed (done ++ rest) → LieInOrder 0 (values_of (done ++ rest)) → ((p : PieceView) (vs : List PieceView) → values_of rest ≡ p ∷ vs → end ≤ p.offset) → ((q : ℕ) → end ≤ q → piece_at es q ≡ None) → rest ≡ []
nothing_left es done [] end is keyed order begins none = refl
nothing_left es done ((k, p) ∷ rest) end is keyed order begins none =
    let key = (keyed_behind done ((k, p) ∷ rest) keyed).0 in
    let low = begins p (values_of rest) refl in
    absurd (none_some (piece_at es k) p (none k (omega arith)) (ap (λ (xs : List (ℕ × PieceView)). piece_at xs k) is ∙ found_here 0 done k p rest keyed order))

pub swept_all : (all : List PieceView) (last : Option ℕ) (end : ℕ) (es : List (ℕ × PieceView)) (s : IsSwept all last end es) → ((q : ℕ) → end ≤ q → piece_at es q ≡ None) → LieWithGaps 0 (values_of es) × All IsTidy (values_of es)
swept_all all last end es s none =
    let left = nothing_left es s.done s.rest end s.is (swept_keyed all last end es s) (swept_order all last end es s)
    (λ p vs e. rest_begins last end s.done p vs s.at (subst (λ (ws : List PieceView). LieInOrder 0 (values_of s.done ++ ws)) e s.gathered.order)) none in
    let e : values_of es ≡ values_of s.done = ap (λ (xs : List (ℕ × PieceView)). values_of xs) s.is ∙ (ap (λ (xs : List (ℕ × PieceView)). values_of (s.done ++ xs)) left ∙ ap (λ (xs : List (ℕ × PieceView)). values_of xs) (append-nil s.done)) in
    (subst (LieWithGaps 0) (sym e) s.gathered.apart, subst (All IsTidy) (sym e) s.gathered.tidy)

pub swept_compacted : (old es : List (ℕ × PieceView)) (last : Option ℕ) (end : ℕ) → IsSwept (values_of old) last end es → IsSweptMap old es
swept_compacted old es last end s = record {
  done = values_of s.done;
  rest = values_of s.rest;
  is = ap (λ (xs : List (ℕ × PieceView)). values_of xs) s.is ∙ values_append s.done s.rest;
  gathered = s.gathered;
  keyed = s.keyed;
}

-- ---- one step

-- the last piece that is done
pub swept_base : (all : List PieceView) (base end : ℕ) (es : List (ℕ × PieceView)) → IsSwept all (Some base) end es → (v : PieceView) × (piece_at es base ≡ Some v) × (v.offset ≡ base) × (end ≡ run_end v) × (0 < length v.bytes)
swept_base all base end es s =
    let keyed = swept_keyed all (Some base) end es s in
    let order = swept_order all (Some base) end es s in
    let e : s.done ++ s.rest ≡ s.at.0 ++ ((base, s.at.1) ∷ s.rest) = ap (λ (xs : List (ℕ × PieceView)). xs ++ s.rest) s.at.2 ∙ append_assoc s.at.0 ((base, s.at.1) ∷ []) s.rest in
    let keyed' = subst AreKeyed e keyed in
    let order' = subst (λ (xs : List (ℕ × PieceView)). LieInOrder 0 (values_of xs)) e order in
    let found = found_here 0 s.at.0 base s.at.1 s.rest keyed' order' in
    let tail = order_behind 0 (values_of s.at.0) (s.at.1 ∷ values_of s.rest) (subst (LieInOrder 0) (values_append s.at.0 ((base, s.at.1) ∷ s.rest)) order') in
    (s.at.1, ap (λ (xs : List (ℕ × PieceView)). piece_at xs base) (s.is ∙ e) ∙ found, (keyed_behind s.at.0 ((base, s.at.1) ∷ s.rest) keyed').0, s.at.3, tail.1)

-- how a piece comes behind those that are done
puts : (last : Option ℕ) (end : ℕ) (done : List (ℕ × PieceView)) (p : PieceView) → EndsWith last end done → (last ≡ None) ⊎ (end ≢ p.offset) → JoinsLast (values_of done) p (values_of done ++ tidied p ∷ [])
puts None end done p at apart =
    let e : values_of done ≡ [] = ap (λ (es : List (ℕ × PieceView)). values_of es) at.0 in
    record { case = inl (e, ap (λ (vs : List PieceView). vs ++ tidied p ∷ []) e) }
puts (Some base) end done p at apart =
    let e : values_of done ≡ values_of at.0 ++ at.1 ∷ [] = ap (λ (es : List (ℕ × PieceView)). values_of es) at.2 ∙ values_append at.0 ((base, at.1) ∷ []) in
    record {
      case = inr (
        values_of at.0,
        at.1,
        e,
        inr (
          elim apart [
            | inl none ↦ absurd (some_none base none)
            | inr ne ↦ λ same. ne (at.3 ∙ same)
          ],
          refl,
        ),
      );
    }
  where
    some_none : (x : ℕ) → Some x ≡ None → ⊥
    some_none x k = cc

-- a map in which one step more is done
pub record Steps (all : List PieceView) (base stop : ℕ) : Type 0 where
  pub map : List (ℕ × PieceView)
  pub swept : IsSwept all (Some base) stop map
  pub rises : RiseByKey map

pub put_list : (all : List PieceView) (last : Option ℕ) (end : ℕ) (es : List (ℕ × PieceView)) (start stop : ℕ) (little : Bool) → IsSwept all last end es → (n : IsNextPiece es start stop little end) → (last ≡ None) ⊎ (end ≢ start)
    → (t : Steps all start stop) × (piece_at t.map start ≡ Some (tidied n.run)) × ((q : ℕ) → (q ≡ start → ⊥) → piece_at t.map q ≡ piece_at es q)
put_list all last end es start stop little s n apart =
    let l = next_left all last end es start stop little s n in
    let left = l.0 in
    let run = n.run in
    let t = tidied_is run in
    let is : es ≡ s.done ++ ((start, run) ∷ left) = s.is ∙ ap (λ (xs : List (ℕ × PieceView)). s.done ++ xs) l.1 in
    let keyed : AreKeyed (s.done ++ ((start, run) ∷ left)) = subst AreKeyed is s.keyed in
    let key = (keyed_behind s.done ((start, run) ∷ left) keyed).0 in
    let g : IsGathered all (values_of s.done) (run ∷ values_of left) = subst (λ (xs : List (ℕ × PieceView)). IsGathered all (values_of s.done) (values_of xs)) l.1 s.gathered in
    let order : LieInOrder 0 (values_of (s.done ++ ((start, run) ∷ left))) = subst (LieInOrder 0) (sym (values_append s.done ((start, run) ∷ left))) g.order in
    let step = gathered_step all (values_of s.done) (values_of s.done ++ tidied run ∷ []) (values_of left) run g (puts last end s.done run s.at (elim apart [
      | inl none ↦ inl none
      | inr ne ↦ inr (λ same. ne (same ∙ key))
    ])) in
    let done' = s.done ++ (start, tidied run) ∷ [] in
    let map = s.done ++ ((start, tidied run) ∷ left) in
    let v : values_of done' ≡ values_of s.done ++ tidied run ∷ [] = values_append s.done ((start, tidied run) ∷ []) in
    let a : done' ++ left ≡ map = append_assoc s.done ((start, tidied run) ∷ []) left in
    let keyed' : AreKeyed map = keyed_join s.done ((start, tidied run) ∷ left) (keyed_front s.done ((start, run) ∷ left) keyed) (t.0 ∙ key, (keyed_behind s.done ((start, run) ∷ left) keyed).1) in
    let gathered : IsGathered all (values_of done') (values_of left) = subst (λ (vs : List PieceView). IsGathered all vs (values_of left)) (sym v) step in
    let order' : LieInOrder 0 (values_of map) = subst (λ (xs : List (ℕ × PieceView)). LieInOrder 0 (values_of xs)) a (subst (LieInOrder 0) (sym (values_append done' left)) gathered.order) in (
      record {
        map = map;
        swept = record {
          done = done';
          rest = left;
          is = sym a;
          keyed = keyed';
          gathered = gathered;
          at = (s.done, tidied run, refl, (let m = n.ends in let o = t.0 in let b = ap (λ (bs : List ℕ). length bs) t.1 in omega arith));
        };
        rises = rises_of 0 map keyed' order';
      },
      found_here 0 s.done start (tidied run) left keyed' order',
      λ q ne. skipped s.done start (tidied run) left q ne ∙ (sym (skipped s.done start run left q ne) ∙ ap (λ (xs : List (ℕ × PieceView)). piece_at xs q) (sym is)),
    )

pub swept_put : (all : List PieceView) (last : Option ℕ) (end : ℕ) (es es' : List (ℕ × PieceView)) (start stop : ℕ) (little : Bool) → IsSwept all last end es → IsNextPiece es start stop little end → RiseByKey es'
    → ((v : PieceView) → piece_at es start ≡ Some v → piece_at es' start ≡ Some (tidied v)) → ((q : ℕ) → (q ≡ start → ⊥) → piece_at es' q ≡ piece_at es q) → (last ≡ None) ⊎ (end ≢ start) → IsSwept all (Some start) stop es'
swept_put all last end es es' start stop little s n rises here others apart =
    let p = put_list all last end es start stop little s n apart in
    let same : es' ≡ p.0.map = same_map es' p.0.map rises p.0.rises (λ q.
    elim (cases_eq q start) [
      | inl e ↦ ap (piece_at es') e ∙ (here n.run n.found ∙ (sym p.1 ∙ ap (piece_at p.0.map) (sym e)))
      | inr ne ↦ others q ne ∙ sym (p.2 q ne)
    ]) in
    subst (IsSwept all (Some start) stop) (sym same) p.0.swept

-- a piece that keeps little memory alive stays as it is
pub little_same : (es : List (ℕ × PieceView)) (start stop end : ℕ) → IsNextPiece es start stop true end → (v : PieceView) → piece_at es start ≡ Some v → piece_at es start ≡ Some (tidied v)
little_same es start stop end n v found =
    let one = some_is (piece_at es start) n.run v n.found found in
    let t : nat_le v.allocation_size (length v.bytes * 6 / 5) ≡ true = subst (λ (r : PieceView). nat_le r.allocation_size (length r.bytes * 6 / 5) ≡ true) one (sym n.is_little) in
    found ∙ sym (ap (λ (b : Bool). Some (cond b v (record v { allocation_size = length v.bytes }))) t)

pub join_list : (all : List PieceView) (base end : ℕ) (es : List (ℕ × PieceView)) (start stop : ℕ) (little : Bool) → IsSwept all (Some base) end es → (n : IsNextPiece es start stop little end) → end ≡ start
    → (t : Steps all base stop) × ((v : PieceView) → piece_at es base ≡ Some v → piece_at t.map base ≡ Some (joined_with v n.run)) × (piece_at t.map start ≡ None)
    × ((q : ℕ) → (q ≡ base → ⊥) → (q ≡ start → ⊥) → piece_at t.map q ≡ piece_at es q)
join_list all base end es start stop little s n touch =
    let l = next_left all (Some base) end es start stop little s n in
    let left = l.0 in
    let run = n.run in
    let front = s.at.0 in
    let piece = s.at.1 in
    let joined = joined_with piece run in
    let len = length-append piece.bytes run.bytes in
    let is : es ≡ front ++ ((base, piece) ∷ ((start, run) ∷ left)) = s.is ∙ (ap (λ (xs : List (ℕ × PieceView)). s.done ++ xs) l.1 ∙ (ap (λ (xs : List (ℕ × PieceView)). xs ++ ((start, run) ∷ left)) s.at.2 ∙ append_assoc front ((base, piece) ∷ []) ((start, run) ∷ left))) in
    let keyed : AreKeyed (front ++ ((base, piece) ∷ ((start, run) ∷ left))) = subst AreKeyed is s.keyed in
    let behind = keyed_behind front ((base, piece) ∷ ((start, run) ∷ left)) keyed in
    let key = behind.0 in
    let key-run = behind.1.0 in
    let ends = s.at.3 in
    let v : values_of s.done ≡ values_of front ++ piece ∷ [] = ap (λ (xs : List (ℕ × PieceView)). values_of xs) s.at.2 ∙ values_append front ((base, piece) ∷ []) in
    let g : IsGathered all (values_of s.done) (run ∷ values_of left) = subst (λ (xs : List (ℕ × PieceView)). IsGathered all (values_of s.done) (values_of xs)) l.1 s.gathered in
    let order : LieInOrder 0 (values_of (front ++ ((base, piece) ∷ ((start, run) ∷ left)))) = subst (λ (xs : List (ℕ × PieceView)). LieInOrder 0 (values_of xs)) (sym s.is ∙ is) (swept_order all (Some base) end es s) in
    let j : JoinsLast (values_of s.done) run (values_of front ++ joined ∷ []) = record { case = inr (values_of front, piece, v, inl (sym ends ∙ (touch ∙ sym key-run), refl)) } in
    let step = gathered_step all (values_of s.done) (values_of front ++ joined ∷ []) (values_of left) run g j in
    let done' = front ++ (base, joined) ∷ [] in
    let map = front ++ ((base, joined) ∷ left) in
    let w : values_of done' ≡ values_of front ++ joined ∷ [] = values_append front ((base, joined) ∷ []) in
    let a : done' ++ left ≡ map = append_assoc front ((base, joined) ∷ []) left in
    let gathered : IsGathered all (values_of done') (values_of left) = subst (λ (vs : List PieceView). IsGathered all vs (values_of left)) (sym w) step in
    let keyed' : AreKeyed map = keyed_join front ((base, joined) ∷ left) (keyed_front front ((base, piece) ∷ ((start, run) ∷ left)) keyed) (key, behind.1.1) in
    let order' : LieInOrder 0 (values_of map) = subst (λ (xs : List (ℕ × PieceView)). LieInOrder 0 (values_of xs)) a (subst (LieInOrder 0) (sym (values_append done' left)) gathered.order) in
    let found = ap (λ (xs : List (ℕ × PieceView)). piece_at xs base) is ∙ found_here 0 front base piece ((start, run) ∷ left) keyed order in
    let apart : start ≡ base → ⊥ = λ e. let b = swept_base all base end es s in omega (arith, b.2, b.3, b.4, touch, e) in
    let two : front ++ ((base, piece) ∷ ((start, run) ∷ left)) ≡ (front ++ (base, piece) ∷ []) ++ ((start, run) ∷ left) = sym (append_assoc front ((base, piece) ∷ []) ((start, run) ∷ left)) in
    let none : piece_at map start ≡ None =
    skipped front base joined left start apart
    ∙ (sym (skipped front base piece left start apart)
    ∙ (ap (λ (xs : List (ℕ × PieceView)). piece_at xs start) (sym (append_assoc front ((base, piece) ∷ []) left))
    ∙ found_none 0 (front ++ (base, piece) ∷ []) start run left (subst AreKeyed two keyed) (subst (λ (xs : List (ℕ × PieceView)). LieInOrder 0 (values_of xs)) two order))) in (
      record {
        map = map;
        swept = record {
          done = done';
          rest = left;
          is = sym a;
          keyed = keyed';
          gathered = gathered;
          at = (front, joined, refl, (let m = n.ends in omega (arith, m, len, ends, touch, key-run)));
        };
        rises = rises_of 0 map keyed' order';
      },
      λ u at. found_here 0 front base joined left keyed' order' ∙ ap (λ (p : PieceView). Some (joined_with p run)) (some_is (piece_at es base) piece u found at),
      none,
      λ q ne ns. skipped front base joined left q ne
          ∙ (sym (skipped front base piece ((start, run) ∷ left) q ne ∙ skipped front start run left q ns)
          ∙ ap (λ (xs : List (ℕ × PieceView)). piece_at xs q) (sym is)),
    )

-- ---- a map, and behind it no row

pub no_row : (rs : List PieceView) → LieInOrder (2 ^ 64 - 1) rs → All FitsWords rs → rs ≡ []
no_row [] h fits = refl
no_row (r ∷ rs) h fits = let f = (All-head FitsWords r rs fits).below in let a = h.0 in absurd (omega (arith, f, a))

only_map : (vs rs : List PieceView) → rs ≡ [] → vs ++ rs ≡ vs
only_map vs rs e = ap (λ (xs : List PieceView). vs ++ xs) e ∙ append-nil vs

pub compacted_same : (es es' : List (ℕ × PieceView)) (rs : List PieceView) → rs ≡ [] → IsSweptMap es es' → HoldSame (values_of es ++ rs) (values_of es' ++ rs)
compacted_same es es' rs none c =
    subst (λ (xs : List PieceView). HoldSame xs (values_of es' ++ rs)) (sym (only_map (values_of es) rs none))
    (subst (HoldSame (values_of es)) (sym c.is ∙ sym (only_map (values_of es') rs none)) c.gathered.same)

pub compacted_order : (low : ℕ) (es es' : List (ℕ × PieceView)) (rs : List PieceView) → rs ≡ [] → IsSweptMap es es' → LieInOrder low (values_of es ++ rs) → LieInOrder low (values_of es' ++ rs)
compacted_order low es es' rs none c h =
    order_same low (values_of es ++ rs) (values_of es' ++ rs) h (compacted_same es es' rs none c)
    (subst (LieInOrder 0) (sym c.is ∙ sym (only_map (values_of es') rs none)) c.gathered.order)

pub compacted_store : (es es' : List (ℕ × PieceView)) (rs : List PieceView) → rs ≡ [] → IsSweptMap es es' → RiseByKey es' → IsStore es rs → IsStore es' rs
compacted_store es es' rs none c rises s = record { rises = rises; keyed = c.keyed; order = compacted_order 0 es es' rs none c s.order }

pub compacted_count : (es es' : List (ℕ × PieceView)) (rs : List PieceView) → IsSweptMap es es' → length (values_of es' ++ rs) ≤ length (values_of es ++ rs)
compacted_count es es' rs c =
    let n = c.gathered.pieces in
    let l = ap (λ (xs : List PieceView). length xs) c.is in
    omega (arith, n, l, length-append c.done c.rest, length-append (values_of es') rs, length-append (values_of es) rs)

pub compacted_kept : (es es' : List (ℕ × PieceView)) (rs : List PieceView) → rs ≡ [] → IsSweptMap es es' → All (IsKeptOrOwn (values_of es ++ rs)) (values_of es' ++ rs)
compacted_kept es es' rs none c =
    subst (λ (xs : List PieceView). All (IsKeptOrOwn xs) (values_of es' ++ rs)) (sym (only_map (values_of es) rs none))
    (subst (All (IsKeptOrOwn (values_of es))) (sym c.is ∙ sym (only_map (values_of es') rs none))
    (All-append (IsKeptOrOwn (values_of es)) c.done c.rest c.gathered.stems (All-weaker (IsAmong (values_of es)) (IsKeptOrOwn (values_of es)) (λ r a. inl a) c.rest c.gathered.left)))

pub compacted_apart : (es' : List (ℕ × PieceView)) (rs : List PieceView) → rs ≡ [] → LieWithGaps 0 (values_of es') → LieWithGaps 0 (values_of es' ++ rs)
compacted_apart es' rs none h = subst (LieWithGaps 0) (sym (only_map (values_of es') rs none)) h

pub compacted_tidy : (es' : List (ℕ × PieceView)) (rs : List PieceView) → rs ≡ [] → All IsTidy (values_of es') → All IsTidy (values_of es' ++ rs)
compacted_tidy es' rs none h = subst (All IsTidy) (sym (only_map (values_of es') rs none)) h

-- the pieces of a map are in order
pub map_order : (es : List (ℕ × PieceView)) (rs : List PieceView) → IsStore es rs → LieInOrder 0 (values_of es)
map_order es rs s = order_front 0 (values_of es) rs s.order

-- ---- what is known of the next piece

pub next_here : (all : List PieceView) (last : Option ℕ) (end : ℕ) (es : List (ℕ × PieceView)) (start stop : ℕ) (little : Bool) → IsSwept all last end es → IsNextPiece es start stop little end → (v : PieceView) × (piece_at es start ≡ Some v) × (v.offset ≡ start)
next_here all last end es start stop little s n = (n.run, n.found, key_at es start n.run s.keyed n.found)

pub next_ends : (all : List PieceView) (last : Option ℕ) (end : ℕ) (es : List (ℕ × PieceView)) (start stop : ℕ) (little : Bool) → IsSwept all last end es → IsNextPiece es start stop little end → (end ≤ start) × (start < stop)
next_ends all last end es start stop little s n =
    let l = next_left all last end es start stop little s n in
    let g : IsGathered all (values_of s.done) (n.run ∷ values_of l.0) = subst (λ (xs : List (ℕ × PieceView)). IsGathered all (values_of s.done) (values_of xs)) l.1 s.gathered in
    let tail = order_behind 0 (values_of s.done) (n.run ∷ values_of l.0) g.order in
    let key = key_at es start n.run s.keyed n.found in
    let m = n.ends in
    let some = tail.1 in
    (n.from, omega arith)

pub on_err : {T E : Type 0} {P : Type 0} (r : Result T E) → P → OnErr r P
on_err (Ok x) p = tt
on_err (Err e) p = p

pub same_but_two : (es es' : List (ℕ × PieceView)) (k l : ℕ) → RiseByKey es' → RiseByKey es → (piece_at es' k ≡ piece_at es k) × (piece_at es' l ≡ piece_at es l) → ((q : ℕ) → (q ≡ k → ⊥) → (q ≡ l → ⊥) → piece_at es' q ≡ piece_at es q) → es' ≡ es
same_but_two es es' k l rises' rises both others = same_map es' es rises' rises (λ q.
    elim (cases_eq q k) [
      | inl e ↦ ap (piece_at es') e ∙ (both.0 ∙ ap (piece_at es) (sym e))
      | inr ne ↦ elim (cases_eq q l) [
        | inl e ↦ ap (piece_at es') e ∙ (both.1 ∙ ap (piece_at es) (sym e))
        | inr nl ↦ others q ne nl
      ]
    ])

pub no_last : (o : Option ℕ) → ((x : ℕ) → o ≡ Some x → ⊥) → o ≡ None
no_last None h = refl
no_last (Some x) h = absurd (h x refl)
