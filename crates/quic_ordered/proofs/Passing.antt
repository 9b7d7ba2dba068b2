-- The pieces of a map that a compaction passes over.
use Rattle.std.proofs.Common.{◌≡◌, ℕ, ◌^◌, ◌*◌, ◌/◌, ◌≤◌, ◌<◌, ◌⊎◌, refl, sym, ap, subst, ◌∙◌, inl, inr, List, [], ◌∷◌, ◌++◌, length, arith, Bool, true, false, cond, Option, Some, None, append_assoc}
use Rattle.std.specs.Prelude.{nat_le, ◌&&◌, ◌≢◌, IfNone}
use Rattle.std.specs.List.{All}
use Rattle.std.specs.Map.{values_of}
use Rattle.std.specs.Ordering.{nat_cmp, is_le}
use Rattle.std.specs.BTreeMap.Range.{entries_between}
use Rattle.std.specs.declared.ops.Bound.TheVariants.{Included, Unbounded}
use Rattle.std.proofs.lemmas.Bool.{cases_lt}
use Rattle.std.proofs.lemmas.Bool.Decides.{nat_tests}
use Rattle.std.proofs.lemmas.List.{append-nil}
use Rattle.std.proofs.lemmas.List.Elements.{All-head, All-tail}
use Rattle.quic_assembler.specs.Piece.{PieceView, run_end}
use Rattle.quic_ordered.specs.Entries.{piece_at}
use Rattle.quic_ordered.specs.Rows.{AreKeyed, LieInOrder}
use Rattle.block_map.specs.declared.map.Place.{Place}
use Rattle.quic_ordered.specs.declared.map.Run.{Run}
use Rattle.quic_ordered.specs.Sweeping.{IsNextPiece, IsSwept, IsNextRun}
use Rattle.quic_ordered.proofs.Order.{order_front, order_behind, found_head, ends_by_last, key_at}
use Rattle.quic_ordered.proofs.Placed.{none_of}
use Rattle.quic_ordered.proofs.Chains.{chain_more, swept_map}
use Rattle.quic_ordered.proofs.Sweeping.{values_append, keyed_front, keyed_behind, found_above, found_here, found_in, swept_order, swept_keyed, done_ends, rest_begins, not_done, swept_put, little_same, rises_of}

-- the entries from an offset on
abbrev pub from_on : ℕ → List (ℕ × PieceView) → List (ℕ × PieceView)
from_on n es = entries_between nat_cmp (Included n) Unbounded es

from_all : (low n : ℕ) (es : List (ℕ × PieceView)) → n ≤ low → AreKeyed es → LieInOrder low (values_of es) → from_on n es ≡ es
from_all low n [] le keyed h = refl
from_all low n (e ∷ es) le keyed h =
    let a = h.0 in
    let b = h.1 in
    let k = keyed.0 in
    let m : n ≤ e.0 = omega arith in
    let t : is_le (nat_cmp n e.0) ≡ true = grind (arith, nat_tests, m) in
    ap (λ (t : Bool). cond t (e ∷ from_on n es) (from_on n es)) (ap (λ (b : Bool). b && true) t) ∙ ap (λ (xs : List (ℕ × PieceView)). e ∷ xs) (from_all (run_end e.1) n es (omega arith) keyed.1 h.2)

from_behind : (low n : ℕ) (xs ys : List (ℕ × PieceView)) → AreKeyed xs → LieInOrder low (values_of xs) → All (λ (r : PieceView). run_end r ≤ n) (values_of xs) → from_on n (xs ++ ys) ≡ from_on n ys
from_behind low n [] ys keyed h ends = refl
from_behind low n (x ∷ xs) ys keyed h ends =
    let b = h.1 in
    let k = keyed.0 in
    let u = All-head (λ (r : PieceView). run_end r ≤ n) x.1 (values_of xs) ends in
    let m : x.0 < n = omega arith in
    let t : is_le (nat_cmp n x.0) ≡ false = grind (arith, nat_tests, m) in
    ap (λ (t : Bool). cond t (x ∷ from_on n (xs ++ ys)) (from_on n (xs ++ ys))) (ap (λ (b : Bool). b && true) t) ∙ from_behind (run_end x.1) n xs ys keyed.1 h.2 (All-tail (λ (r : PieceView). run_end r ≤ n) x.1 (values_of xs) ends)

-- a map in order is what lies before an offset, and behind it the rest
from_split : (low n : ℕ) (es : List (ℕ × PieceView)) → AreKeyed es → LieInOrder low (values_of es) → (front : List (ℕ × PieceView)) × (es ≡ front ++ from_on n es)
from_split low n [] keyed h = ([], refl)
from_split low n (e ∷ es) keyed h =
    let b = h.1 in
    let k = keyed.0 in
    elim (cases_lt e.0 n) [
      | inl lt ↦
          let i = from_split (run_end e.1) n es keyed.1 h.2 in
          let t : is_le (nat_cmp n e.0) ≡ false = grind (arith, nat_tests, lt) in
          (e ∷ i.0, ap (λ (xs : List (ℕ × PieceView)). e ∷ xs) i.1 ∙ ap (λ (xs : List (ℕ × PieceView)). e ∷ (i.0 ++ xs)) (sym (ap (λ (t : Bool). cond t (e ∷ from_on n es) (from_on n es)) (ap (λ (b : Bool). b && true) t))))
      | inr ge ↦ ([], sym (from_all e.0 n (e ∷ es) ge keyed (let o = k in (omega arith, h.1, h.2))))
    ]

-- the first from an offset on, and what lies behind it
pub record FirstFrom (es : List (ℕ × PieceView)) (start : ℕ) (run : PieceView) (left : List (ℕ × PieceView)) : Type 0 where
  pub found : piece_at es start ≡ Some run
  pub behind : from_on (run_end run) es ≡ left

pub first_from : (n : ℕ) (es : List (ℕ × PieceView)) (start : ℕ) (run : PieceView) (left : List (ℕ × PieceView)) → AreKeyed es → LieInOrder 0 (values_of es) → from_on n es ≡ (start, run) ∷ left → FirstFrom es start run left
first_from n es start run left keyed order e =
    let p = from_split 0 n es keyed order in
    let front = p.0 in
    let stop = run_end run in
    let is : es ≡ front ++ ((start, run) ∷ left) = p.1 ∙ ap (λ (xs : List (ℕ × PieceView)). front ++ xs) e in
    let keyed' : AreKeyed (front ++ ((start, run) ∷ left)) = subst AreKeyed is keyed in
    let order' : LieInOrder 0 (values_of (front ++ ((start, run) ∷ left))) = subst (λ (xs : List (ℕ × PieceView)). LieInOrder 0 (values_of xs)) is order in
    record {
      found = ap (λ (xs : List (ℕ × PieceView)). piece_at xs start) is ∙ found_here 0 front start run left keyed' order';
      behind = behind_one es front start run left is keyed' order';
    }
  where
    behind_one : (es front : List (ℕ × PieceView)) (start : ℕ) (run : PieceView) (left : List (ℕ × PieceView)) → es ≡ front ++ ((start, run) ∷ left) → AreKeyed (front ++ ((start, run) ∷ left)) → LieInOrder 0 (values_of (front ++ ((start, run) ∷ left))) → from_on (run_end run) es ≡ left
    behind_one es front start run left is keyed order =
        let stop = run_end run in
        let two = front ++ (start, run) ∷ [] in
        let assoc : two ++ left ≡ front ++ ((start, run) ∷ left) = append_assoc front ((start, run) ∷ []) left in
        let keyed' : AreKeyed (two ++ left) = subst AreKeyed (sym assoc) keyed in
        let order' : LieInOrder 0 (values_of (two ++ left)) = subst (λ (xs : List (ℕ × PieceView)). LieInOrder 0 (values_of xs)) (sym assoc) order in
        let first : LieInOrder 0 (values_of two) = order_front 0 (values_of two) (values_of left) (subst (LieInOrder 0) (values_append two left) order') in
        let values : values_of two ≡ values_of front ++ run ∷ [] = values_append front ((start, run) ∷ []) in
        let ends : All (λ (r : PieceView). run_end r ≤ stop) (values_of two) = subst (All (λ (r : PieceView). run_end r ≤ stop)) (sym values) (ends_by_last 0 stop (values_of front) run (subst (LieInOrder 0) values first) (omega arith)) in
        let tail : LieInOrder 0 (run ∷ values_of left) = order_behind 0 (values_of front) (run ∷ values_of left) (subst (LieInOrder 0) (values_append front ((start, run) ∷ left)) order) in
        ap (λ (xs : List (ℕ × PieceView)). from_on stop xs) (is ∙ sym assoc)
        ∙ (from_behind 0 stop two left (keyed_front two left keyed') first ends
        ∙ from_all stop stop left (omega arith) (keyed_behind two left keyed') tail.2)

-- what is left lies from `end` on
rest_order : (all : List PieceView) (last : Option ℕ) (end : ℕ) (es : List (ℕ × PieceView)) (s : IsSwept all last end es) → LieInOrder end (values_of s.rest)
rest_order all last end es s = raised (values_of s.rest) (order_behind 0 (values_of s.done) (values_of s.rest) s.gathered.order)
    (λ p vs e. rest_begins last end s.done p vs s.at (subst (λ (ws : List PieceView). LieInOrder 0 (values_of s.done ++ ws)) e s.gathered.order))
  where
    raised : (vs : List PieceView) → LieInOrder 0 vs → ((p : PieceView) (ws : List PieceView) → vs ≡ p ∷ ws → end ≤ p.offset) → LieInOrder end vs
    raised [] h begins = tt
    raised (v ∷ vs) h begins = (begins v vs refl, h.1, h.2)

rest_keyed : (all : List PieceView) (last : Option ℕ) (end : ℕ) (es : List (ℕ × PieceView)) (s : IsSwept all last end es) → AreKeyed s.rest
rest_keyed all last end es s = keyed_behind s.done s.rest (swept_keyed all last end es s)

pub ordered : (all : List PieceView) (last : Option ℕ) (end : ℕ) (es : List (ℕ × PieceView)) → IsSwept all last end es → LieInOrder 0 (values_of es)
ordered all last end es s = subst (λ (xs : List (ℕ × PieceView)). LieInOrder 0 (values_of xs)) (sym s.is) (swept_order all last end es s)

-- they are what is left
pub left_from : (all : List PieceView) (last : Option ℕ) (end : ℕ) (es : List (ℕ × PieceView)) (s : IsSwept all last end es) → s.rest ≡ from_on end es
left_from all last end es s =
    let order = order_front 0 (values_of s.done) (values_of s.rest) s.gathered.order in
    let keyed = keyed_front s.done s.rest (swept_keyed all last end es s) in
    sym (ap (λ (xs : List (ℕ × PieceView)). from_on end xs) s.is
    ∙ (from_behind 0 end s.done s.rest keyed order (done_ends last end s.done s.at order)
    ∙ from_all end end s.rest (omega arith) (rest_keyed all last end es s) (rest_order all last end es s)))

pub begins_on : (all : List PieceView) (last : Option ℕ) (end : ℕ) (es : List (ℕ × PieceView)) (s : IsSwept all last end es) (start : ℕ) (run : PieceView) (left : List (ℕ × PieceView)) → s.rest ≡ (start, run) ∷ left → end ≤ run.offset
begins_on all last end es s start run left e = (subst (λ (xs : List (ℕ × PieceView)). LieInOrder end (values_of xs)) e (rest_order all last end es s)).0

-- the first that is left is the next one
pub is_next : (all : List PieceView) (last : Option ℕ) (end : ℕ) (es : List (ℕ × PieceView)) (s : IsSwept all last end es) (start : ℕ) (run : PieceView) (left : List (ℕ × PieceView)) (stop : ℕ) (little : Bool) → s.rest ≡ (start, run) ∷ left → stop ≡ run_end run → little ≡ nat_le run.allocation_size (length run.bytes * 6 / 5) → IsNextPiece es start stop little end
is_next all last end es s start run left stop little e ends small =
    let is : es ≡ s.done ++ ((start, run) ∷ left) = s.is ∙ ap (λ (xs : List (ℕ × PieceView)). s.done ++ xs) e in
    let keyed : AreKeyed (s.done ++ ((start, run) ∷ left)) = subst (λ (xs : List (ℕ × PieceView)). AreKeyed (s.done ++ xs)) e (swept_keyed all last end es s) in
    let order : LieInOrder 0 (values_of (s.done ++ ((start, run) ∷ left))) = subst (λ (xs : List (ℕ × PieceView)). LieInOrder 0 (values_of (s.done ++ xs))) e (swept_order all last end es s) in
    let tail : LieInOrder end (run ∷ values_of left) = subst (λ (xs : List (ℕ × PieceView)). LieInOrder end (values_of xs)) e (rest_order all last end es s) in
    let behind : AreKeyed ((start, run) ∷ left) = subst AreKeyed e (rest_keyed all last end es s) in
    let key = behind.0 in
    let low = tail.0 in
    record {
      run = run;
      found = ap (λ (xs : List (ℕ × PieceView)). piece_at xs start) is ∙ found_here 0 s.done start run left keyed order;
      from = omega arith;
      first = λ q from to. none_of (piece_at es q) (λ v found.
          elim (found_in s.done ((start, run) ∷ left) q v (ap (λ (xs : List (ℕ × PieceView)). piece_at xs q) (sym is) ∙ found)) [
            | inl d ↦ not_done all last end es s q v from d
            | inr n ↦ elim (found_head (start, run) left q v n) [
              | inl here ↦ let same = here.0 in omega arith
              | inr there ↦ let up = found_above (run_end run) left q v behind.1 tail.2 there in let some = tail.1 in omega arith
            ]
          ]);
      ends = ends;
      is_little = small;
    }

-- one that stays as it is
pub passed_one : (all : List PieceView) (last : Option ℕ) (end : ℕ) (es : List (ℕ × PieceView)) (s : IsSwept all last end es) (start : ℕ) (run : PieceView) (left : List (ℕ × PieceView)) (stop : ℕ) → s.rest ≡ (start, run) ∷ left → stop ≡ run_end run → true ≡ nat_le run.allocation_size (length run.bytes * 6 / 5)
    → (last ≡ None) ⊎ (end ≡ start → ⊥) → (s' : IsSwept all (Some start) stop es) × (s'.rest ≡ left)
passed_one all last end es s start run left stop e ends small apart =
    let n = is_next all last end es s start run left stop true e ends small in
    let rises = rises_of 0 es s.keyed (ordered all last end es s) in
    let s' = swept_put all last end es es start stop true s n rises (little_same es start stop end n) (λ q ne. refl) apart in
    (s', left_from all (Some start) stop es s' ∙ (ap (λ (m : ℕ). from_on m es) ends ∙ (first_from end es start run left s.keyed (ordered all last end es s) (sym (left_from all last end es s) ∙ e)).behind))

pub none_left : (all : List PieceView) (last : Option ℕ) (end : ℕ) (es : List (ℕ × PieceView)) (s : IsSwept all last end es) → s.rest ≡ [] → (q : ℕ) → end ≤ q → piece_at es q ≡ None
none_left all last end es s e q from =
    none_of (piece_at es q) (λ v found.
    not_done all last end es s q v from
    (ap (λ (xs : List (ℕ × PieceView)). piece_at xs q) (sym (s.is ∙ (ap (λ (xs : List (ℕ × PieceView)). s.done ++ xs) e ∙ append-nil s.done))) ∙ found))

-- where the loop over the pieces is: it passes over them, or gathers the bytes of those that touch
abbrev pub IsAt : List (ℕ × PieceView) → Option ℕ → ℕ → Option ℕ → ℕ → Option Run → List ℕ → List (ℕ × PieceView) → Type 0
IsAt es last0 end0 last end None bytes rest = (bytes ≡ []) × ((all : List PieceView) → IsSwept all last0 end0 es → (s : IsSwept all last end es) × (s.rest ≡ rest))
IsAt es last0 end0 last end (Some run) bytes rest = ((all : List PieceView) → IsSwept all last0 end0 es → IsSwept all last end es) × IsNextRun es last end run.base run.from run.stop bytes × (from_on run.stop es ≡ rest)

-- ---- the steps of that loop

-- the next piece touches the last one that is done
pub step_touch : (es : List (ℕ × PieceView)) (last0 : Option ℕ) (end0 base end start stop : ℕ) (hint : Place) (run : PieceView) (bytes bytes' : List ℕ) (rest left : List (ℕ × PieceView)) → (all : List PieceView) × IsSwept all last0 end0 es
    → IsAt es last0 end0 (Some base) end None bytes rest → rest ≡ (start, run) ∷ left → end ≡ start → stop ≡ run_end run → stop < 2 ^ 62 → bytes' ≡ bytes ++ run.bytes
    → IsAt es last0 end0 (Some base) end (Some (record { base = base; from = end; stop = stop; hint = hint })) bytes' left
step_touch es last0 end0 base end start stop hint run bytes bytes' rest left given at is touch ends bound text =
    let all = given.0 in
    let here = at.1 all given.1 in
    let s = here.0 in
    let e = here.1 ∙ is in
    let n = is_next all (Some base) end es s start run left stop (nat_le run.allocation_size (length run.bytes * 6 / 5)) e ends refl in
    let f = first_from end es start run left s.keyed (ordered all (Some base) end es s) (sym (left_from all (Some base) end es s) ∙ e) in
    let more = chain_more es end [] run (swept_map all (Some base) end es s) tt (ap (piece_at es) touch ∙ f.found) in (
      (λ all s0. (at.1 all s0).0),
      record { start = start; first_end = stop; little = nat_le run.allocation_size (length run.bytes * 6 / 5); next = n; case = inl (refl, touch, refl); chain = run ∷ []; touch = more.0; ends = ends ∙ sym more.1; text = text ∙ (ap (λ (bs : List ℕ). bs ++ run.bytes) at.0 ∙ sym more.2); on = omega arith; bound = bound },
      ap (λ (m : ℕ). from_on m es) ends ∙ f.behind,
    )

-- the next piece keeps much memory alive
pub step_begin : (es : List (ℕ × PieceView)) (last0 : Option ℕ) (end0 : ℕ) (last : Option ℕ) (end start stop : ℕ) (hint : Place) (run : PieceView) (bytes : List ℕ) (rest left : List (ℕ × PieceView)) → (all : List PieceView) × IsSwept all last0 end0 es
    → IsAt es last0 end0 last end None bytes rest → rest ≡ (start, run) ∷ left → (last ≡ None) ⊎ (end ≢ start) → stop ≡ run_end run → stop < 2 ^ 62
    → IsAt es last0 end0 last end (Some (record { base = start; from = stop; stop = stop; hint = hint })) bytes left
step_begin es last0 end0 last end start stop hint run bytes rest left given at is apart ends bound =
    let all = given.0 in
    let here = at.1 all given.1 in
    let s = here.0 in
    let e = here.1 ∙ is in
    let n = is_next all last end es s start run left stop (nat_le run.allocation_size (length run.bytes * 6 / 5)) e ends refl in
    let f = first_from end es start run left s.keyed (ordered all last end es s) (sym (left_from all last end es s) ∙ e) in (
      (λ all s0. (at.1 all s0).0),
      record { start = start; first_end = stop; little = nat_le run.allocation_size (length run.bytes * 6 / 5); next = n; case = inr (refl, refl, apart); chain = []; touch = tt; ends = refl; text = at.0; on = omega arith; bound = bound },
      ap (λ (m : ℕ). from_on m es) ends ∙ f.behind,
    )

-- the next piece stays as it is
pub step_pass : (es : List (ℕ × PieceView)) (last0 : Option ℕ) (end0 : ℕ) (last : Option ℕ) (end start stop : ℕ) (run : PieceView) (bytes : List ℕ) (rest left : List (ℕ × PieceView))
    → IsAt es last0 end0 last end None bytes rest → rest ≡ (start, run) ∷ left → (last ≡ None) ⊎ (end ≢ start) → stop ≡ run_end run → true ≡ nat_le run.allocation_size (length run.bytes * 6 / 5)
    → IsAt es last0 end0 (Some start) stop None bytes left
step_pass es last0 end0 last end start stop run bytes rest left at is apart ends small =
    (at.0, λ all s0. let here = at.1 all s0 in passed_one all last end es here.0 start run left stop (here.1 ∙ is) ends small apart)

-- one more piece touches
pub step_more : (es : List (ℕ × PieceView)) (last0 : Option ℕ) (end0 : ℕ) (last : Option ℕ) (end start stop : ℕ) (r : Run) (run : PieceView) (bytes bytes' : List ℕ) (rest left : List (ℕ × PieceView)) → (all : List PieceView) × IsSwept all last0 end0 es
    → IsAt es last0 end0 last end (Some r) bytes rest → rest ≡ (start, run) ∷ left → r.stop ≡ start → stop ≡ run_end run → stop < 2 ^ 62 → bytes' ≡ bytes ++ run.bytes
    → IsAt es last0 end0 last end (Some (record { base = r.base; from = r.from; stop = stop; hint = r.hint })) bytes' left
step_more es last0 end0 last end start stop r run bytes bytes' rest left given at is touch ends bound text =
    let all = given.0 in
    let s = given.1 in
    let i = at.1 in
    let f = first_from r.stop es start run left s.keyed (ordered all last0 end0 es s) (at.2 ∙ is) in
    let more = chain_more es r.from i.chain run (swept_map all last0 end0 es s) i.touch (ap (piece_at es) (sym i.ends ∙ touch) ∙ f.found) in
    let key = key_at es start run s.keyed f.found in
    let on = i.on in (
      at.0,
      record { start = i.start; first_end = i.first_end; little = i.little; next = i.next; case = i.case; chain = i.chain ++ run ∷ []; touch = more.0; ends = ends ∙ sym more.1; text = text ∙ (ap (λ (bs : List ℕ). bs ++ run.bytes) i.text ∙ sym more.2); on = omega (arith, on, touch, ends, key); bound = bound },
      ap (λ (m : ℕ). from_on m es) ends ∙ f.behind,
    )

-- none is left
pub step_none : (es : List (ℕ × PieceView)) (last0 : Option ℕ) (end0 : ℕ) (last : Option ℕ) (end : ℕ) (o : Option Run) (bytes : List ℕ) (rest : List (ℕ × PieceView)) → (all : List PieceView) × IsSwept all last0 end0 es
    → IsAt es last0 end0 last end o bytes rest → rest ≡ [] → IfNone o ((q : ℕ) → end ≤ q → piece_at es q ≡ None)
step_none es last0 end0 last end None bytes rest given at is = let here = at.1 given.0 given.1 in none_left given.0 last end es here.0 (here.1 ∙ is)
step_none es last0 end0 last end (Some r) bytes rest given at is = tt
