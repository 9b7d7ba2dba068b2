-- What compaction sees of runs in order.
use Rattle.std.proofs.Common.{◌≡◌, ℕ, ◌+◌, ◌-◌, ◌*◌, ◌/◌, ◌≤◌, ◌<◌, ◌⊎◌, inl, inr, refl, sym, ◌∙◌, List, [], ◌∷◌, ◌++◌, length, arith, suc, Bool, true, false, min, max}
use Rattle.std.specs.Prelude.{nat_le, nat_lt, not, ◌||◌, Option, Some}
use Rattle.std.proofs.lemmas.Bool.Decides.{nat_tests}
use Rattle.std.proofs.lemmas.Grind.{common_steps}
use Rattle.std.specs.List.{Any, All}
use Rattle.std.specs.List.Sorted.{IsPermutation}
use Rattle.std.proofs.lemmas.List.{length-append}
use Rattle.std.proofs.lemmas.List.Sorted.{IsPermutation-sym}
use Rattle.std.proofs.lemmas.Bool.{cases_lt}
use Rattle.std.proofs.lemmas.List.Elements.{All-tail}
use Rattle.std.proofs.Common.{get_or, drop, ap, add-one}
use Rattle.std.proofs.Math.Seq.{drop-cons}
use Rattle.quic_assembler.specs.Piece.{PieceView, IsSome, RunHolds, HoldsSame, covers, cover_count, run_end, cut_at}
use Rattle.quic_assembler.specs.Compact.{stays, is_joined, is_alone, first_offset, seen, parts_where, Adds, AddsSeen, AddsPart, HasSeen, Compacts, Rises}
use Rattle.quic_assembler.proofs.Counts.{Any-permutation, Any-append, Any-here, Any-there, Any-cons, Any-nil, count_permuted, count-append, lies_in, lies_below, lies_above}
use Rattle.quic_assembler.proofs.Runs.{RunHolds-uncut, covers_cut, covers_cut_below, above_lowest}
use Rattle.quic_assembler.proofs.Queue.{run_cmp-offset}
use Rattle.quic_assembler.specs.Piece.{run_cmp}
use Rattle.quic_assembler.specs.contracts.piece.PieceOrd.TheImpl.Laws.{total-law}
use Rattle.std.specs.BinaryHeap.{lt_by_cmp}
use Rattle.std.specs.Cmp.{IsStrictWeakOrder}
use Rattle.std.specs.Ordering.{is_lt}
use Rattle.std.specs.List.Sorted.{IsSortedBy}
use Rattle.std.proofs.lemmas.List.Sorted.{ranks_by, sorted_far}
use Rattle.std.proofs.lemmas.List.{get_or-reverse, length-reverse, reverse-append}
use Rattle.std.proofs.Common.{reverse}

-- tests, as equations
test_le : (a b : ℕ) → a ≤ b → nat_le a b ≡ true
test_le a b l = grind (arith, nat_tests)

test_gt : (a b : ℕ) → b < a → nat_le a b ≡ false
test_gt a b l = grind (arith, nat_tests)

-- whether a run stays
pub compact_test : (a n : ℕ) → nat_le (a * 5) (n * 6) ≡ nat_le a (n * 6 / 5)
compact_test a n = grind (arith, nat_tests)

pub kept_loose : (least end n : ℕ) (r : PieceView) (next : Option ℕ) → n ≡ length (cut_at end r).bytes → (r.compact || nat_le r.allocation_size (n * 6 / 5)) ≡ false → stays least end r next ≡ false
unfolding stays
kept_loose least end n r next e f = let g = rw e at f in rw g refl

pub kept_long : (least end n : ℕ) (r : PieceView) (next : Option ℕ) → n ≡ length (cut_at end r).bytes → (r.compact || nat_le r.allocation_size (n * 6 / 5)) ≡ true → least ≤ n → stays least end r next ≡ true
unfolding stays
kept_long least end n r next e f l = let g = rw e at f in let t = rw e at (test_le least n l) in rw (g, t) refl

pub kept_short : (least end n : ℕ) (r : PieceView) (next : Option ℕ) → n ≡ length (cut_at end r).bytes → (r.compact || nat_le r.allocation_size (n * 6 / 5)) ≡ true → n < least → stays least end r next ≡ is_alone end r next
unfolding stays
kept_short least end n r next e f l = let g = rw e at f in let t = rw e at (test_gt least n l) in rw (g, t) refl

pub alone_above : (end next : ℕ) (r : PieceView) → end < r.offset → is_alone end r (Some next) ≡ nat_lt (run_end r) next
alone_above end next r l = grind (arith, nat_tests)

pub alone_touching : (end next : ℕ) (r : PieceView) → r.offset ≤ end → is_alone end r (Some next) ≡ nat_lt end r.offset
alone_touching end next r l = grind (arith, nat_tests)

-- what is seen of a run
pub seen_below : (passed : Bool) (end : ℕ) (r : PieceView) → run_end r ≤ end → seen passed end r ≡ []
seen_below passed end r l = rw (test_le (run_end r) end l) refl

pub seen_kept : (passed : Bool) (end : ℕ) (r : PieceView) → end < run_end r → passed ≡ true → seen passed end r ≡ cut_at end r ∷ []
seen_kept passed end r l k = rw (test_gt (run_end r) end l, k) refl

pub seen_dropped : (passed : Bool) (end : ℕ) (r : PieceView) → passed ≡ false → seen passed end r ≡ []
seen_dropped passed end r k = elim (cases_lt end (run_end r)) [
  | inl l ↦ rw (test_gt (run_end r) end l, k) refl
  | inr l ↦ rw (test_le (run_end r) end l) refl
]

pub adds_nothing : (passed : Bool) (end : ℕ) (r : PieceView) (xs : List PieceView) → seen passed end r ≡ [] → AddsSeen passed end r xs xs
adds_nothing passed end r xs e = record {
  count = λ at. rw e (omega arith);
  origin = λ at byte a. inl a;
}

pub adds_seen : (passed : Bool) (end : ℕ) (r : PieceView) (xs ys : List PieceView) → seen passed end r ≡ cut_at end r ∷ [] → Adds (cut_at end r) xs ys → AddsSeen passed end r xs ys
adds_seen passed end r xs ys e a = record {
  count = λ at. rw e (omega (arith, a.count at));
  origin = λ at byte h. elim (a.origin at byte h) [ inl p ↦ inl p | inr p ↦ inr (RunHolds-uncut end at byte r p) ];
}

covers_same : (at : ℕ) (a b : PieceView) → HoldsSame a b → covers at b ≡ covers at a
covers_same at a b s = rw (s.offset, s.bytes) refl

RunHolds-same : (at byte : ℕ) (a b : PieceView) → HoldsSame a b → RunHolds at byte b → RunHolds at byte a
RunHolds-same at byte a b s h = rw (← s.offset, ← s.bytes) h

pub adds_put : (a b : PieceView) (xs ys : List PieceView) → HoldsSame a b → IsPermutation (b ∷ xs) ys → Adds a xs ys
adds_put a b xs ys s p = record {
  count = λ at. omega (arith, count_permuted at (b ∷ xs) ys p, covers_same at a b s);
  origin = λ at byte h. elim (Any-cons _ _ _ (Any-permutation _ _ _ (IsPermutation-sym _ _ p) h)) [ inl q ↦ inr (RunHolds-same at byte a b s q) | inr q ↦ inl q ];
}

-- a cut at what is seen, and at where that begins
pub cut_at-max : (end : ℕ) (r : PieceView) → cut_at (max end r.offset) r ≡ cut_at end r
cut_at-max end r =
    let p : max (max end r.offset) r.offset ≡ max end r.offset = omega arith in
    let q : max end r.offset - r.offset ≡ end - r.offset = omega arith in
    rw (p, q) refl

-- runs that are joined
covers_joined : (at : ℕ) (a b c : PieceView) → run_end a ≡ c.offset → b.offset ≡ a.offset → b.bytes ≡ a.bytes ++ c.bytes → covers at b ≡ covers at a + covers at c
covers_joined at a b c e o h =
    let len : length b.bytes ≡ length a.bytes + length c.bytes = rw (h, length-append) refl in
    elim (cases_lt at a.offset) [
      | inl l ↦ omega (arith, lies_below b.offset (run_end b) at (omega arith), lies_below a.offset (run_end a) at l, lies_below c.offset (run_end c) at (omega arith))
      | inr l ↦ elim (cases_lt at (run_end a)) [
        | inl m ↦ omega (arith, lies_in b.offset (run_end b) at (omega arith) (omega arith), lies_in a.offset (run_end a) at l m, lies_below c.offset (run_end c) at (omega arith))
        | inr m ↦ elim (cases_lt at (run_end c)) [
          | inl n ↦ omega (arith, lies_in b.offset (run_end b) at (omega arith) (omega arith), lies_above a.offset (run_end a) at m, lies_in c.offset (run_end c) at (omega arith) n)
          | inr n ↦ omega (arith, lies_above b.offset (run_end b) at (omega arith), lies_above a.offset (run_end a) at m, lies_above c.offset (run_end c) at n)
        ]
      ]
    ]

joined_left : (at byte offset : ℕ) (bytes more : List ℕ) → at < offset + length bytes → RunHolds at byte (record { offset = offset; bytes = bytes ++ more; allocation_size = 0; compact = true; sequence = 0 }) → RunHolds at byte (record { offset = offset; bytes = bytes; allocation_size = 0; compact = true; sequence = 0 })
joined_left at byte offset bytes more l h = grind (arith, common_steps)

joined_right : (at byte offset : ℕ) (bytes more : List ℕ) → offset + length bytes ≤ at → RunHolds at byte (record { offset = offset; bytes = bytes ++ more; allocation_size = 0; compact = true; sequence = 0 }) → RunHolds at byte (record { offset = offset + length bytes; bytes = more; allocation_size = 0; compact = true; sequence = 0 })
joined_right at byte offset bytes more l h = grind (arith, common_steps)

RunHolds-joined : (at byte : ℕ) (a b c : PieceView) → run_end a ≡ c.offset → b.offset ≡ a.offset → b.bytes ≡ a.bytes ++ c.bytes → RunHolds at byte b → RunHolds at byte a ⊎ RunHolds at byte c
RunHolds-joined at byte a b c e o h p =
    let q = rw (o, h) at p in
    elim (cases_lt at (run_end a)) [
      | inl l ↦ inl (joined_left at byte a.offset a.bytes c.bytes l q)
      | inr l ↦ inr (rw (← e) (joined_right at byte a.offset a.bytes c.bytes l q))
    ]

pub adds_joined : (a b c : PieceView) (xs : List PieceView) → run_end a ≡ c.offset → b.offset ≡ a.offset → b.bytes ≡ a.bytes ++ c.bytes → Adds c (a ∷ xs) (b ∷ xs)
adds_joined a b c xs e o h = record {
  count = λ at. omega (arith, covers_joined at a b c e o h);
  origin = λ at byte p. elim (Any-cons _ _ _ p) [
    | inl q ↦ elim (RunHolds-joined at byte a b c e o h q) [ inl m ↦ inl (Any-here _ _ _ m) | inr m ↦ inr m ]
    | inr q ↦ inl (Any-there _ _ _ q)
  ];
}

pub adds_anew : (a b c : PieceView) (xs ys : List PieceView) → HoldsSame c b → ((at : ℕ) → cover_count at ys ≡ cover_count at (a ∷ xs)) → ((at byte : ℕ) → Any (RunHolds at byte) ys → Any (RunHolds at byte) (a ∷ xs)) → Adds c (a ∷ xs) (b ∷ ys)
adds_anew a b c xs ys s n o = record {
  count = λ at. omega (arith, n at, covers_same at c b s);
  origin = λ at byte p. elim (Any-cons _ _ _ p) [ inl q ↦ inr (RunHolds-same at byte c b s q) | inr q ↦ inl (o at byte q) ];
}

-- a step over all runs
pub seen_none : (test : ℕ → PieceView → Option ℕ → Bool) (all xs : List PieceView) → All IsSome all → HasSeen test all all xs xs 0
seen_none test all xs some = record { count = λ at. refl; origin = λ at byte h. inl h; left = λ at byte h. h; some = some }

pub seen_next : (test : ℕ → PieceView → Option ℕ → Bool) (all rest xs ys zs : List PieceView) (end : ℕ) (r : PieceView) → HasSeen test all (r ∷ rest) xs ys end → AddsSeen (test end r (first_offset rest)) end r ys zs → HasSeen test all rest xs zs (max end (run_end r))
seen_next test all rest xs ys zs end r h a = record {
  count = λ at. omega (arith, a.count at, h.count at, count-append at (seen (test end r (first_offset rest)) end r) (parts_where test (max end (run_end r)) rest));
  origin = λ at byte p. elim (a.origin at byte p) [ inl q ↦ h.origin at byte q | inr q ↦ inr (h.left at byte (Any-here _ _ _ q)) ];
  left = λ at byte p. h.left at byte (Any-there _ _ _ p);
  some = All-tail IsSome r rest h.some;
}

pub seen_all : (test : ℕ → PieceView → Option ℕ → Bool) (all rest xs ys : List PieceView) (end : ℕ) → HasSeen test all rest xs ys end → length rest ≡ 0 → AddsPart test all xs ys
seen_all test all [] xs ys end h e = record { count = λ at. omega (arith, h.count at); origin = h.origin }
seen_all test all (r ∷ rest) xs ys end h e = absurd (omega arith)

pub part_none : (test : ℕ → PieceView → Option ℕ → Bool) (end : ℕ) (rest : List PieceView) → length rest ≡ 0 → length (parts_where test end rest) ≡ 0
part_none test end [] e = refl
part_none test end (r ∷ rest) e = absurd (omega arith)

pub part_length : (test : ℕ → PieceView → Option ℕ → Bool) (end : ℕ) (r : PieceView) (rest : List PieceView) → length (parts_where test end (r ∷ rest)) ≡ length (seen (test end r (first_offset rest)) end r) + length (parts_where test (max end (run_end r)) rest)
part_length test end r rest = length-append (seen (test end r (first_offset rest)) end r) (parts_where test (max end (run_end r)) rest)

-- what stays and what is copied together see each covered offset once
seen_both : (end at : ℕ) (r : PieceView) (b : Bool) → end < run_end r → cover_count at (seen (not b) end r) + cover_count at (seen b end r) ≡ covers at (cut_at end r)
seen_both end at r true l = rw (test_gt (run_end r) end l) (omega arith)
seen_both end at r false l = rw (test_gt (run_end r) end l) (omega arith)

pub not_kept : (b : Bool) → b ≡ false → not b ≡ true
not_kept b e = rw e refl

pub kept_not : (b : Bool) → b ≡ true → not b ≡ false
kept_not b e = rw e refl

-- the last of a list comes first in reverse
first_at : (xs : List PieceView) (r : PieceView) → 0 < length xs → r ≡ get_or xs 0 r → first_offset xs ≡ Some r.offset
first_at [] r l e = absurd (omega arith)
first_at (x ∷ xs) r l e = ap (λ (y : PieceView). Some y.offset) (sym e)

pub reverse_last : (xs ys : List PieceView) (r : PieceView) → xs ≡ ys ++ r ∷ [] → reverse xs ≡ r ∷ reverse ys
reverse_last xs ys r e = rw (e, reverse-append) refl

pub reverse_none : (xs : List PieceView) → length xs ≡ 0 → length (reverse xs) ≡ 0
reverse_none xs e = simp length-reverse e

pub last_first : (xs : List PieceView) (r : PieceView) → 0 < length xs → r ≡ get_or xs (length xs - 1) r → first_offset (reverse xs) ≡ Some r.offset
last_first xs r l e =
    let n : length xs - 1 - 0 ≡ length xs - 1 = omega arith in
    first_at (reverse xs) r (simp length-reverse l) (e ∙ sym (rw n at (get_or-reverse xs 0 r l)))

-- before the first piece nothing is joined
pub joined_small : (r : PieceView) (bytes : List ℕ) → r.bytes ≡ bytes → bytes ≡ [] → (at : ℕ) → covers at r ≡ 0
joined_small r bytes e f at = elim (cases_lt at r.offset) [
  | inl l ↦ lies_below r.offset (run_end r) at l
  | inr l ↦ lies_above r.offset (run_end r) at (rw (e, f) (omega arith))
]

pub holds_none : (r : PieceView) (bytes : List ℕ) → r.bytes ≡ bytes → bytes ≡ [] → (at byte : ℕ) → RunHolds at byte r → ⊥
holds_none r bytes e f at byte h = absurd (omega (arith, h.0, rw (e, f) at h.1))

pub rest_next : (xs : List PieceView) (i : ℕ) (x : PieceView) → i < length xs → x ≡ get_or xs i x → drop i xs ≡ x ∷ drop (i + 1) xs
rest_next xs i x l e = drop-cons xs i x l ∙ rw add-one (ap (λ (y : PieceView). y ∷ drop (suc i) xs) (sym e))

-- runs in order, from a sorted heap
rises_from_pairs : (rs : List PieceView) → ((i j : ℕ) (d : PieceView) → i < j → j < length rs → (get_or rs i d).offset ≤ (get_or rs j d).offset) → Rises rs
rises_from_pairs [] h = tt
rises_from_pairs (r ∷ rs) h = ((λ k d l. h 0 (suc k) d (omega arith) (omega arith)), rises_from_pairs rs (λ i j d l m. h (suc i) (suc j) d (omega arith) (omega arith)))

order : IsStrictWeakOrder (λ (x y : PieceView). is_lt (run_cmp x y))
order = ranks_by total-law (λ (r : PieceView). r)

pub rises_from_sorted : (xs : List PieceView) → IsSortedBy (lt_by_cmp run_cmp) xs → Rises (reverse xs)
rises_from_sorted xs s = rises_from_pairs (reverse xs) (λ i j d l m.
    let n : j < length xs = simp length-reverse at m in
    let o : i < length xs = omega arith in
    rw (get_or-reverse xs i d o, get_or-reverse xs j d n)
    (run_cmp-offset (get_or xs (length xs - 1 - i) d) (get_or xs (length xs - 1 - j) d) (sorted_far _ order xs s (length xs - 1 - j) (length xs - 1 - i) d (omega arith) (omega arith))))

-- both parts of runs in order
both_length : (end : ℕ) (r : PieceView) (b : Bool) → length (seen (not b) end r) + length (seen b end r) ≤ 1
both_length end r true = elim (cases_lt end (run_end r)) [ inl l ↦ rw (test_gt (run_end r) end l) (omega arith) | inr l ↦ rw (test_le (run_end r) end l) (omega arith) ]
both_length end r false = elim (cases_lt end (run_end r)) [ inl l ↦ rw (test_gt (run_end r) end l) (omega arith) | inr l ↦ rw (test_le (run_end r) end l) (omega arith) ]

pub parts_length : (least end : ℕ) (rs : List PieceView) → length (parts_where (is_joined least) end rs) + length (parts_where (stays least) end rs) ≤ length rs
parts_length least end [] = omega arith
parts_length least end (r ∷ rs) = omega (arith, part_length (is_joined least) end r rs, part_length (stays least) end r rs, both_length end r (stays least end r (first_offset rs)), parts_length least (max end (run_end r)) rs)

abbrev parts_count : ℕ → ℕ → ℕ → List PieceView → ℕ
parts_count least end at rs = cover_count at (parts_where (is_joined least) end rs) + cover_count at (parts_where (stays least) end rs)

parts_next : (least end at : ℕ) (r : PieceView) (rs : List PieceView) → end < run_end r → parts_count least end at (r ∷ rs) ≡ covers at (cut_at end r) + parts_count least (max end (run_end r)) at rs
parts_next least end at r rs l = omega (arith, seen_both end at r (stays least end r (first_offset rs)) l, count-append at (seen (is_joined least end r (first_offset rs)) end r) (parts_where (is_joined least) (max end (run_end r)) rs), count-append at (seen (stays least end r (first_offset rs)) end r) (parts_where (stays least) (max end (run_end r)) rs))

parts_skip : (least end at : ℕ) (r : PieceView) (rs : List PieceView) → run_end r ≤ end → parts_count least end at (r ∷ rs) ≡ parts_count least end at rs
parts_skip least end at r rs l =
    let m : max end (run_end r) ≡ end = omega arith in
    rw (seen_below (is_joined least end r (first_offset rs)) end r l, seen_below (stays least end r (first_offset rs)) end r l, m) refl

parts_below : (least end at : ℕ) (rs : List PieceView) → at < end → parts_count least end at rs ≡ 0
parts_below least end at [] l = refl
parts_below least end at (r ∷ rs) l = elim (cases_lt end (run_end r)) [
  | inl m ↦ omega (arith, parts_next least end at r rs m, covers_cut_below end at r l, parts_below least (max end (run_end r)) at rs (omega arith))
  | inr m ↦ omega (arith, parts_skip least end at r rs m, parts_below least end at rs l)
]

pub parts_above : (least end at : ℕ) (rs : List PieceView) → Rises rs → end ≤ at → parts_count least end at rs ≡ min 1 (cover_count at rs)
parts_above least end at [] s l = refl
parts_above least end at (r ∷ rs) s l = elim (cases_lt end (run_end r)) [
  | inl m ↦ elim (cases_lt at (run_end r)) [
    | inl n ↦ elim (cases_lt at r.offset) [
      | inl o ↦ omega (arith, parts_next least end at r rs m, covers_cut end at r l (omega arith), lies_below r.offset (run_end r) at o, parts_below least (max end (run_end r)) at rs (omega arith), above_lowest r.offset at rs s.0 o)
      | inr o ↦ omega (arith, parts_next least end at r rs m, covers_cut end at r l (omega arith), lies_in r.offset (run_end r) at o n, parts_below least (max end (run_end r)) at rs (omega arith))
    ]
    | inr n ↦ omega (arith, parts_next least end at r rs m, covers_cut end at r l (omega arith), lies_above r.offset (run_end r) at n, parts_above least (max end (run_end r)) at rs s.1 (omega arith))
  ]
  | inr m ↦ omega (arith, parts_skip least end at r rs m, lies_above r.offset (run_end r) at (omega arith), parts_above least end at rs s.1 l)
]

pub compacts_parts : (least : ℕ) (xs rs us ws vs ys : List PieceView) → IsPermutation xs rs → Rises rs → AddsPart (is_joined least) rs [] us → ws ≡ [] → AddsPart (stays least) rs ws vs → IsPermutation (us ++ vs) ys → Compacts xs ys
compacts_parts least xs rs us ws vs ys p s copied e kept q =
    let stays = rw e at kept in
    record {
      count = λ at. omega (arith, copied.count at, stays.count at, parts_above least 0 at rs s (omega arith), count_permuted at xs rs p, count_permuted at (us ++ vs) ys q, count-append at us vs);
      origin = λ at byte h. Any-permutation _ _ _ (IsPermutation-sym _ _ p) (elim (Any-append _ us vs (Any-permutation _ _ _ (IsPermutation-sym _ _ q) h)) [
        | inl a ↦ elim (copied.origin at byte a) [ inl b ↦ absurd (Any-nil (RunHolds at byte) b) | inr b ↦ b ]
        | inr a ↦ elim (stays.origin at byte a) [ inl b ↦ absurd (Any-nil (RunHolds at byte) b) | inr b ↦ b ]
      ]);
    }
