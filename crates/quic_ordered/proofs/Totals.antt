-- The sums of what pieces come to.
use Rattle.std.proofs.Common.{◌≡◌, ℕ, ◌+◌, ◌-◌, ◌*◌, ◌^◌, ◌≤◌, ◌<◌, ap, sym, subst, refl, ◌∙◌, List, [], ◌∷◌, ◌++◌, length, take, drop, arith, sum_by, Option, Some, None, length-append}
use Rattle.std.specs.List.{All}
use Rattle.std.specs.Option.{unwrap_or, option_map}
use Rattle.std.specs.Map.{values_of, lookup, remove_entry, set_value}
use Rattle.std.specs.BTreeMap.{is_at, insert_entry}
use Rattle.std.specs.Ordering.{nat_cmp}
use Rattle.std.specs.Cmp.{nat_cmp_total}
use Rattle.std.proofs.lemmas.List.Sums.{sum_by-cons, sum_by-append, sum_by-insert}
use Rattle.std.proofs.lemmas.List.Elements.{All-nil, All-head, All-tail, All-push, All-cons, All-pop, All-rest, All-append, All-take, All-drop}
use Rattle.std.specs.List.Sorted.{IsStrictlySortedBy}
use Rattle.std.proofs.lemmas.List.{map-append}
use Rattle.std.proofs.lemmas.Map.Entries.{sum_by-insert_entry, sum_by-remove_entry, sum_by-set_value, length-values_of}
use Rattle.std.proofs.lemmas.Map.Views.{All-values-insert_entry, All-values-set_value, All-map-remove_entry}
use Rattle.std.proofs.lemmas.Map.Steps.{set_value_same}
use Rattle.quic_assembler.specs.Piece.{PieceView, run_end, run_length, run_allocation}
use Rattle.quic_ordered.specs.Entries.{piece_at}
use Rattle.quic_ordered.specs.Rows.{AreSums, FitsWords, RiseByKey, IsSummedMap, IsStore, LieInOrder}

total_le : (rs : List PieceView) → All FitsWords rs → sum_by run_length rs ≤ length rs * 2 ^ 62
total_le [] all = omega arith
total_le (r ∷ rs) all =
    let h = (All-head FitsWords r rs all).below in
    omega (arith, sum_by-cons run_length r rs, total_le rs (All-tail FitsWords r rs all), h)

allocated_le : (rs : List PieceView) → All FitsWords rs → sum_by run_allocation rs ≤ length rs * 2 ^ 64
allocated_le [] all = omega arith
allocated_le (r ∷ rs) all =
    let h = (All-head FitsWords r rs all).allocation in
    omega (arith, sum_by-cons run_allocation r rs, allocated_le rs (All-tail FitsWords r rs all), h)

pub total_bound : (t a : ℕ) (rs : List PieceView) → AreSums t a rs → t ≤ length rs * 2 ^ 62
total_bound t a rs s = omega (arith, total_le rs s.sound, s.total_is)

pub allocated_bound : (t a : ℕ) (rs : List PieceView) → AreSums t a rs → a ≤ length rs * 2 ^ 64
allocated_bound t a rs s = omega (arith, allocated_le rs s.sound, s.allocated_is)

pub sums_back : (t a t' a' : ℕ) (rs : List PieceView) (p : PieceView) → AreSums t a rs → FitsWords p → t' ≡ t + length p.bytes → a' ≡ a + p.allocation_size → AreSums t' a' (rs ++ p ∷ [])
sums_back t a t' a' rs p s f e g = record {
  total_is = omega (arith, sum_by-append run_length rs (p ∷ []), sum_by-cons run_length p [], s.total_is);
  allocated_is = omega (arith, sum_by-append run_allocation rs (p ∷ []), sum_by-cons run_allocation p [], s.allocated_is);
  sound = All-push FitsWords rs p s.sound f;
}

pub sums_put : (t a t' a' n : ℕ) (rs : List PieceView) (p : PieceView) → AreSums t a rs → FitsWords p → t' ≡ t + length p.bytes → a' ≡ a + p.allocation_size → AreSums t' a' (take n rs ++ p ∷ drop n rs)
sums_put t a t' a' n rs p s f e g =
    let u : sum_by run_length (take n rs ++ p ∷ drop n rs) ≡ sum_by run_length rs + length p.bytes = sum_by-insert run_length rs n p in
    let v : sum_by run_allocation (take n rs ++ p ∷ drop n rs) ≡ sum_by run_allocation rs + p.allocation_size = sum_by-insert run_allocation rs n p in
    record {
      total_is = omega (arith, u, s.total_is);
      allocated_is = omega (arith, v, s.allocated_is);
      sound = All-append FitsWords (take n rs) (p ∷ drop n rs) (All-take FitsWords n rs s.sound) (All-cons FitsWords p (drop n rs) f (All-drop FitsWords n rs s.sound));
    }

pub sums_front : (t a t' a' : ℕ) (rs : List PieceView) (p : PieceView) → AreSums t a rs → FitsWords p → t' ≡ t + length p.bytes → a' ≡ a + p.allocation_size → AreSums t' a' (p ∷ rs)
sums_front t a t' a' rs p s f e g = record {
  total_is = omega (arith, sum_by-cons run_length p rs, s.total_is);
  allocated_is = omega (arith, sum_by-cons run_allocation p rs, s.allocated_is);
  sound = All-cons FitsWords p rs f s.sound;
}

pub left_back : (t a t' a' : ℕ) (rs ps : List PieceView) (p : PieceView) → AreSums t a rs → rs ≡ ps ++ p ∷ [] → t' ≡ t - length p.bytes → a' ≡ a - p.allocation_size → AreSums t' a' ps
left_back t a t' a' rs ps p s e f g =
    let all = (All-pop FitsWords rs ps (Some p) e s.sound).0 in
    let u = ap (λ (xs : List PieceView). sum_by run_length xs) e in
    let v = ap (λ (xs : List PieceView). sum_by run_allocation xs) e in
    record {
      total_is = omega (arith, sum_by-append run_length ps (p ∷ []), sum_by-cons run_length p [], s.total_is, u);
      allocated_is = omega (arith, sum_by-append run_allocation ps (p ∷ []), sum_by-cons run_allocation p [], s.allocated_is, v);
      sound = all;
    }

pub left_front : (t a t' a' : ℕ) (rs ps : List PieceView) (p : PieceView) → AreSums t a rs → rs ≡ p ∷ ps → t' ≡ t - length p.bytes → a' ≡ a - p.allocation_size → AreSums t' a' ps
left_front t a t' a' rs ps p s e f g =
    let u = ap (λ (xs : List PieceView). sum_by run_length xs) e in
    let v = ap (λ (xs : List PieceView). sum_by run_allocation xs) e in
    record {
      total_is = omega (arith, sum_by-cons run_length p ps, s.total_is, u);
      allocated_is = omega (arith, sum_by-cons run_allocation p ps, s.allocated_is, v);
      sound = All-rest FitsWords p ps rs e s.sound;
    }

pub back_le : (t a : ℕ) (rs ps : List PieceView) (p : PieceView) → AreSums t a rs → rs ≡ ps ++ p ∷ [] → (length p.bytes ≤ t) × (p.allocation_size ≤ a)
back_le t a rs ps p s e =
    let u = ap (λ (xs : List PieceView). sum_by run_length xs) e in
    let v = ap (λ (xs : List PieceView). sum_by run_allocation xs) e in
    (omega (arith, sum_by-append run_length ps (p ∷ []), sum_by-cons run_length p [], s.total_is, u), omega (arith, sum_by-append run_allocation ps (p ∷ []), sum_by-cons run_allocation p [], s.allocated_is, v))

pub front_le : (t a : ℕ) (rs ps : List PieceView) (p : PieceView) → AreSums t a rs → rs ≡ p ∷ ps → (length p.bytes ≤ t) × (p.allocation_size ≤ a)
front_le t a rs ps p s e =
    let u = ap (λ (xs : List PieceView). sum_by run_length xs) e in
    let v = ap (λ (xs : List PieceView). sum_by run_allocation xs) e in
    (omega (arith, sum_by-cons run_length p ps, s.total_is, u), omega (arith, sum_by-cons run_allocation p ps, s.allocated_is, v))

-- ---- a map

pub map_total_bound : (t a : ℕ) (es : List (ℕ × PieceView)) → IsSummedMap t a es → length es < 2 ^ 63 → (t < 2 ^ 126) × (a < 2 ^ 127)
map_total_bound t a es s le =
    let l = length-values_of es in
    (omega (arith, total_bound t a (values_of es) s.sums, l), omega (arith, allocated_bound t a (values_of es) s.sums, l))

-- what a look-up may have found weighs so much
abbrev pub weight : (PieceView → ℕ) → Option PieceView → ℕ
weight f o = unwrap_or (option_map f o) 0

pub inserted : (t a t' a' : ℕ) (es es' : List (ℕ × PieceView)) (k : ℕ) (p : PieceView) (old : Option PieceView) → IsSummedMap t a es → FitsWords p
    → es' ≡ insert_entry nat_cmp es k p → old ≡ lookup (is_at (nat_cmp k)) es → RiseByKey es'
    → t' + weight run_length old ≡ t + length p.bytes → a' + weight run_allocation old ≡ a + p.allocation_size → IsSummedMap t' a' es'
inserted t a t' a' es es' k p old s f e o rises u v =
    let x = sum_by-insert_entry run_length nat_cmp_total es k p s.rises in
    let y = sum_by-insert_entry run_allocation nat_cmp_total es k p s.rises in
    let w = ap (weight run_length) o in
    let z = ap (weight run_allocation) o in
    let i = ap (λ (xs : List (ℕ × PieceView)). sum_by run_length (values_of xs)) e in
    let j = ap (λ (xs : List (ℕ × PieceView)). sum_by run_allocation (values_of xs)) e in
    record {
      rises = rises;
      sums = record {
        total_is = omega (arith, x, w, i, u, s.sums.total_is);
        allocated_is = omega (arith, y, z, j, v, s.sums.allocated_is);
        sound = rw e (All-values-insert_entry nat_cmp k p FitsWords es s.sums.sound f);
      };
    }

pub inserted_le : (t a : ℕ) (es : List (ℕ × PieceView)) (k : ℕ) (p old : PieceView) → IsSummedMap t a es → Some old ≡ lookup (is_at (nat_cmp k)) es → (length old.bytes ≤ t) × (old.allocation_size ≤ a)
inserted_le t a es k p old s o =
    let x = sum_by-remove_entry run_length (is_at (nat_cmp k)) es in
    let y = sum_by-remove_entry run_allocation (is_at (nat_cmp k)) es in
    let w = ap (weight run_length) o in
    let z = ap (weight run_allocation) o in
    (omega (arith, x, w, s.sums.total_is), omega (arith, y, z, s.sums.allocated_is))

pub removed : (t a t' a' : ℕ) (es es' : List (ℕ × PieceView)) (k : ℕ) (old : PieceView) → IsSummedMap t a es
    → es' ≡ remove_entry (is_at (nat_cmp k)) es → Some old ≡ lookup (is_at (nat_cmp k)) es → RiseByKey es'
    → t' ≡ t - length old.bytes → a' ≡ a - old.allocation_size → IsSummedMap t' a' es'
removed t a t' a' es es' k old s e o rises u v =
    let x = sum_by-remove_entry run_length (is_at (nat_cmp k)) es in
    let y = sum_by-remove_entry run_allocation (is_at (nat_cmp k)) es in
    let w = ap (weight run_length) o in
    let z = ap (weight run_allocation) o in
    let i = ap (λ (xs : List (ℕ × PieceView)). sum_by run_length (values_of xs)) e in
    let j = ap (λ (xs : List (ℕ × PieceView)). sum_by run_allocation (values_of xs)) e in
    record {
      rises = rises;
      sums = record {
        total_is = omega (arith, x, w, i, u, s.sums.total_is);
        allocated_is = omega (arith, y, z, j, v, s.sums.allocated_is);
        sound = rw e (All-map-remove_entry (is_at (nat_cmp k)) (λ (e : ℕ × PieceView). e.1) FitsWords es s.sums.sound);
      };
    }

pub map_left_front : (t a t' a' k : ℕ) (es es' : List (ℕ × PieceView)) (p : PieceView) → IsSummedMap t a es → es ≡ (k, p) ∷ es' → RiseByKey es' → t' ≡ t - length p.bytes → a' ≡ a - p.allocation_size → IsSummedMap t' a' es'
map_left_front t a t' a' k es es' p s e rises u v = record {
  rises = rises;
  sums = left_front t a t' a' (values_of es) (values_of es') p s.sums (ap (λ (xs : List (ℕ × PieceView)). values_of xs) e) u v;
}

pub map_left_back : (t a t' a' k : ℕ) (es es' : List (ℕ × PieceView)) (p : PieceView) → IsSummedMap t a es → es ≡ es' ++ (k, p) ∷ [] → RiseByKey es' → t' ≡ t - length p.bytes → a' ≡ a - p.allocation_size → IsSummedMap t' a' es'
map_left_back t a t' a' k es es' p s e rises u v = record {
  rises = rises;
  sums = left_back t a t' a' (values_of es) (values_of es') p s.sums (ap (λ (xs : List (ℕ × PieceView)). values_of xs) e ∙ map-append (λ (e : ℕ × PieceView). e.1) es' ((k, p) ∷ [])) u v;
}

pub inserted_over : (t a t' a' : ℕ) (es es' : List (ℕ × PieceView)) (k : ℕ) (p old : PieceView) → IsSummedMap t a es → FitsWords p
    → es' ≡ insert_entry nat_cmp es k p → Some old ≡ lookup (is_at (nat_cmp k)) es → RiseByKey es'
    → t' ≡ t + length p.bytes - length old.bytes → a' ≡ a + p.allocation_size - old.allocation_size → IsSummedMap t' a' es'
inserted_over t a t' a' es es' k p old s f e o rises u v =
    let l = inserted_le t a es k p old s o in
    inserted t a t' a' es es' k p (Some old) s f e o rises (omega (arith, u, l)) (omega (arith, v, l))

pub inserted_new : (t a t' a' : ℕ) (es es' : List (ℕ × PieceView)) (k : ℕ) (p : PieceView) → IsSummedMap t a es → FitsWords p
    → es' ≡ insert_entry nat_cmp es k p → None ≡ lookup (is_at (nat_cmp k)) es → RiseByKey es'
    → t' ≡ t + length p.bytes → a' ≡ a + p.allocation_size → IsSummedMap t' a' es'
inserted_new t a t' a' es es' k p s f e o rises u v = inserted t a t' a' es es' k p None s f e o rises (omega (arith, u)) (omega (arith, v))

-- pieces in order are no more than there are offsets
pub order_count : (low : ℕ) (rs : List PieceView) → LieInOrder low rs → All FitsWords rs → low ≤ 2 ^ 62 → low + length rs ≤ 2 ^ 62
order_count low [] h all le = omega (arith, le)
order_count low (r ∷ rs) h all le =
    let f = (All-head FitsWords r rs all).below in
    let i = order_count (run_end r) rs h.2 (All-tail FitsWords r rs all) (omega (arith, f)) in
    let a = h.0 in
    let b = h.1 in
    omega (arith, i)

pub store_count : (es : List (ℕ × PieceView)) (rs : List PieceView) → IsStore es rs → All FitsWords (values_of es) → All FitsWords rs → length es + length rs ≤ 2 ^ 62
store_count es rs s a b =
    let c = order_count 0 (values_of es ++ rs) s.order (All-append FitsWords (values_of es) rs a b) (omega arith) in
    omega (arith, c, length-append (values_of es) rs, length-values_of es)

pub store_allocated : (es : List (ℕ × PieceView)) (rs : List PieceView) → IsStore es rs → All FitsWords (values_of es) → All FitsWords rs → (sum_by run_length (values_of es) + sum_by run_length rs < 2 ^ 128) × (sum_by run_allocation (values_of es) + sum_by run_allocation rs < 2 ^ 128)
store_allocated es rs s a b =
    let c = store_count es rs s a b in
    let l = length-values_of es in
    (omega (arith, c, l, total_le (values_of es) a, total_le rs b), omega (arith, c, l, allocated_le (values_of es) a, allocated_le rs b))

pub sums_fit : (rs : List PieceView) → All FitsWords rs → length rs ≤ 2 ^ 62 → (sum_by run_length rs ≤ 2 ^ 124) × (sum_by run_allocation rs ≤ 2 ^ 126)
sums_fit rs all le = (omega (arith, total_le rs all, le), omega (arith, allocated_le rs all, le))

pub rises_none : RiseByKey []
unfolding IsStrictlySortedBy
rises_none = tt

pub empty_map : (es : List (ℕ × PieceView)) → es ≡ [] → IsSummedMap 0 0 es
empty_map es is =
    subst (λ (xs : List (ℕ × PieceView)). IsSummedMap 0 0 xs) (sym is)
    (record { rises = rises_none; sums = record { total_is = refl; allocated_is = refl; sound = All-nil FitsWords } })

-- a piece took the place of another
pub replaced : (t a t' a' : ℕ) (es es' : List (ℕ × PieceView)) (k : ℕ) (v w : PieceView) → IsSummedMap t a es → es' ≡ set_value (is_at (nat_cmp k)) es w → piece_at es k ≡ Some v → FitsWords w → RiseByKey es'
    → t' ≡ t + length w.bytes - length v.bytes → a' ≡ a + w.allocation_size - v.allocation_size → IsSummedMap t' a' es'
replaced t a t' a' es es' k v w s e found fits rises u x =
    let l = inserted_le t a es k v v s (sym found) in
    let y = sum_by-set_value run_length (is_at (nat_cmp k)) es v w found in
    let z = sum_by-set_value run_allocation (is_at (nat_cmp k)) es v w found in
    let i = ap (λ (xs : List (ℕ × PieceView)). sum_by run_length (values_of xs)) e in
    let j = ap (λ (xs : List (ℕ × PieceView)). sum_by run_allocation (values_of xs)) e in
    record {
      rises = rises;
      sums = record {
        total_is = omega (arith, y, i, u, s.sums.total_is, l);
        allocated_is = omega (arith, z, j, x, s.sums.allocated_is, l);
        sound = rw e (All-values-set_value (is_at (nat_cmp k)) FitsWords es w s.sums.sound fits);
      };
    }

-- what stood there was put back
pub put_same : (es es' : List (ℕ × PieceView)) (k : ℕ) (v w : PieceView) → es' ≡ set_value (is_at (nat_cmp k)) es w → piece_at es k ≡ Some v → w ≡ v → es' ≡ es
put_same es es' k v w e found same = e ∙ (ap (set_value (is_at (nat_cmp k)) es) same ∙ set_value_same (is_at (nat_cmp k)) es v found)
