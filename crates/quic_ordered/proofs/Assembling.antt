-- What an assembler over pieces that do not overlap holds and is done with.
use Rattle.std.proofs.Common.{◌≡◌, ℕ, ◌+◌, ◌-◌, ◌≤◌, ◌<◌, ◌⊎◌, inl, inr, refl, sym, ap, subst, ◌∙◌, List, [], ◌∷◌, ◌++◌, length, arith, Bool, true, false, max, get_or, append_assoc, suc, zero, Option, Some, IfSome}
use Rattle.std.specs.Prelude.{slice_index, drop, take, nat_lt, cond, ◌||◌}
use Rattle.std.specs.List.{Any, All}
use Rattle.std.specs.List.Sorted.{IsStrictlyIncreasing}
use Rattle.std.proofs.lemmas.Bool.{cases_lt, cases_eq}
use Rattle.std.proofs.lemmas.Bool.Decides.{nat_tests}
use Rattle.std.proofs.lemmas.List.{length-drop, length-take}
use Rattle.std.proofs.lemmas.List.Elements.{All-nil, All-cons, All-weaker}
use Rattle.quic_ranges.specs.Runs.{contains}
use Rattle.quic_assembler.specs.Laws.{done_below, held_or_not}
use Rattle.quic_assembler.specs.Compact.{Compacts}
use Rattle.quic_assembler.specs.Piece.{PieceView, Sums, Covers, RunHolds, cover_count, lies, run_end, advance_by, left_of, CoversMore}
use Rattle.quic_assembler.specs.Reassembly.{Reassembly, is_wasteful, floor, Holds, IsDone, IsHeld, Takes, SameHeld, HoldsOnce, TakesFresh, IsNext}
use Rattle.quic_assembler.proofs.Counts.{Any-here, Any-cons, Any-nil, Any-append, lies_below, lies_above, bit-le-one, count_of_any, any_of_count}
use Rattle.quic_assembler.proofs.Runs.{RunHolds-cut, RunHolds-uncut, covers_from_holds, holds_from_covers}
use Rattle.quic_assembler.proofs.Whole.{below_is_done, keeps_fresh}
use Rattle.quic_ordered.specs.Entries.{piece_of}
use Rattle.quic_ordered.specs.Rows.{AddsOnly, LieInOrder, LieWithGaps, HoldSame, Hold, Merges, StemsFrom, StaysApart, JoinsAll, GivesFirst}
use Rattle.quic_ordered.specs.Assembly.{EnclosesPiece, unread, KeepsPiece, FormMoreRuns}
use Rattle.std.proofs.lemmas.Map.Keys.{sorted_from_strictly_increasing}
use Rattle.quic_ordered.proofs.Order.{hold_behind}
use Rattle.quic_assembler.specs.declared.chunk.Chunk.{Chunk}
use Rattle.quic_ordered.proofs.Taking.{same_head}
use Rattle.quic_ordered.proofs.Compacting.{held_above}

-- pieces that keep little memory alive are not compacted
pub little_wasteful : (s : Sums) (unread : ℕ) → s.pieces ≤ 2048 → s.allocated ≤ 32768 → is_wasteful s unread ≡ false
unfolding is_wasteful
little_wasteful s unread l m = grind (arith, nat_tests)

pub true_not_false : (b : Bool) → b ≡ true → b ≡ false → ⊥
true_not_false b e f = cc

-- ---- how often an offset is covered

pub below_order : (low : ℕ) (xs : List PieceView) (at : ℕ) → LieInOrder low xs → at < low → cover_count at xs ≡ 0
below_order low [] at h l = refl
below_order low (r ∷ rs) at h l =
    let a = h.0 in
    omega (arith, lies_below r.offset (run_end r) at (omega arith), below_order (run_end r) rs at h.2 (omega arith))

pub once_order : (low : ℕ) (xs : List PieceView) (at : ℕ) → LieInOrder low xs → cover_count at xs ≤ 1
once_order low [] at h = omega arith
once_order low (r ∷ rs) at h =
    elim (cases_lt at (run_end r)) [
      | inl l ↦ omega (arith, bit-le-one (lies r.offset (run_end r) at), below_order (run_end r) rs at h.2 l)
      | inr l ↦ omega (arith, lies_above r.offset (run_end r) at l, once_order (run_end r) rs at h.2)
    ]

count_le : (xs ys : List PieceView) (at : ℕ) → LieInOrder 0 xs → ((byte : ℕ) → Hold xs at byte → Hold ys at byte) → cover_count at xs ≤ cover_count at ys
count_le xs ys at h keeps =
    elim (cases_lt 0 (cover_count at xs)) [
      | inl some ↦
          let b = holds_from_covers at xs (any_of_count at xs some) in
          omega (arith, once_order 0 xs at h, count_of_any at ys (covers_from_holds at b.0 ys (keeps b.0 b.1)))
      | inr none ↦ omega arith
    ]

pub count_same : (xs ys : List PieceView) → LieInOrder 0 xs → LieInOrder 0 ys → HoldSame xs ys → (at : ℕ) → cover_count at ys ≡ cover_count at xs
count_same xs ys h k s at = omega (arith, count_le xs ys at h (s.keeps at), count_le ys xs at k (s.origin at))

pub compacts_same : (xs ys : List PieceView) → LieInOrder 0 xs → LieInOrder 0 ys → HoldSame xs ys → Compacts xs ys
compacts_same xs ys h k s = record {
  count = λ at. omega (arith, count_same xs ys h k s at, once_order 0 xs at h);
  origin = s.origin;
}

-- ---- the same bytes

pub holds_same : (old new : Reassembly) → floor new ≡ floor old → HoldSame old.runs new.runs → SameHeld (Holds old) (Holds new)
unfolding Holds
holds_same old new e s = record {
  keeps = λ at byte h. (omega (arith, h.0), s.keeps at byte h.1);
  origin = λ at byte h. (omega (arith, h.0), s.origin at byte h.1);
}

hold_low : (low : ℕ) (rs : List PieceView) (at byte : ℕ) → LieWithGaps low rs → Hold rs at byte → low ≤ at
hold_low low [] at byte h w = absurd (Any-nil (RunHolds at byte) w)
hold_low low (r ∷ rs) at byte h w =
    let a = h.0 in
    elim (Any-cons (RunHolds at byte) r rs w) [
      | inl here ↦ omega (arith, a, here.0)
      | inr there ↦ let i = hold_low (run_end r + 1) rs at byte h.2 there in omega (arith, a, i)
    ]

once_held : (low : ℕ) (rs : List PieceView) (at a b : ℕ) → LieWithGaps low rs → Hold rs at a → Hold rs at b → a ≡ b
once_held low [] at a b h p q = absurd (Any-nil (RunHolds at a) p)
once_held low (r ∷ rs) at a b h p q =
    elim (Any-cons (RunHolds at a) r rs p) [
      | inl here ↦ elim (Any-cons (RunHolds at b) r rs q) [
        | inl also ↦ sym here.2 ∙ also.2
        | inr there ↦ let i = hold_low (run_end r + 1) rs at b h.2 there in absurd (omega (arith, i, here.1))
      ]
      | inr there ↦ elim (Any-cons (RunHolds at b) r rs q) [
        | inl here ↦ let i = hold_low (run_end r + 1) rs at a h.2 there in absurd (omega (arith, i, here.1))
        | inr also ↦ once_held (run_end r + 1) rs at a b h.2 there also
      ]
    ]

pub holds_once : (a : Reassembly) → LieWithGaps 0 a.runs → HoldsOnce (Holds a)
unfolding Holds
holds_once a h = λ at x y p q. once_held 0 a.runs at x y h p.1 q.1

pub holds_left : (old new : Reassembly) → old.ordered ≡ true → new.ordered ≡ false → LieInOrder old.bytes_read old.runs → HoldSame old.runs new.runs → SameHeld (Holds old) (Holds new)
unfolding Holds
holds_left old new o n above s =
    let was : floor old ≡ old.bytes_read = rw o refl in
    let is : floor new ≡ 0 = rw n refl in
    record {
      keeps = λ at byte h. (omega arith, s.keeps at byte h.1);
      origin = λ at byte h. (let l = held_above old.bytes_read old.runs at byte above (s.origin at byte h.1) in omega arith, s.origin at byte h.1);
    }

-- ---- a piece in ordered mode

not_held : (old : Reassembly) (at : ℕ) → floor old ≤ at → (IsHeld (Holds old) at → ⊥) → (byte : ℕ) → Hold old.runs at byte → ⊥
unfolding Holds
not_held old at l n byte h = n (byte, (l, h))

pub takes_joined : (old new : Reassembly) (offset : ℕ) (bytes : List ℕ) (size : ℕ) → old.ordered ≡ true → new.ordered ≡ true → new.bytes_read ≡ old.bytes_read → Merges old.runs (unread old.bytes_read offset bytes size) new.runs → Takes (Holds old) (Holds new) (IsDone old) offset bytes
unfolding Holds
takes_joined old new offset bytes size o n e m =
    let was : floor old ≡ old.bytes_read = rw o refl in
    let is : floor new ≡ old.bytes_read = rw n e in
    let r = piece_of offset bytes size in
    record {
      keeps = λ at w. (w.0, (omega (arith, w.1.0), m.keeps at w.0 w.1.1));
      gains = λ at w. elim (cases_lt at old.bytes_read) [
        | inl l ↦ inl (below_is_done old at o l)
        | inr l ↦ elim (held_or_not old at) [
          | inl h ↦ inr (h.0, (omega arith, m.keeps at h.0 h.1.1))
          | inr none ↦ inr (get_or bytes (at - offset) 0, (omega arith, m.gains at (get_or bytes (at - offset) 0) (RunHolds-cut old.bytes_read at (get_or bytes (at - offset) 0) r l (w.0, w.1, refl)) (not_held old at (omega arith) none)))
        ]
      ];
      origin = λ at byte w. elim (m.origin at byte w.1) [
        | inl a ↦ inl (omega (arith, w.0), a)
        | inr p ↦ inr (RunHolds-uncut old.bytes_read at byte r p)
      ];
      fresh = λ at byte w. inr (λ d. absurd (omega (arith, w.0, (done_below old at o).0 d)));
    }

stays_wider : (offset start end : ℕ) (new rs : List PieceView) → offset ≤ start → All (StaysApart start end new) rs → All (StaysApart offset end new) rs
stays_wider offset start end new rs l h = All-weaker (StaysApart start end new) (StaysApart offset end new) (λ r s w. s (elim w [ inl a ↦ inl (omega arith) | inr b ↦ inr b ])) rs h

pub keeps_joined : (old new : Reassembly) (offset : ℕ) (bytes : List ℕ) (size start end : ℕ) (p : PieceView) → p ≡ unread old.bytes_read offset bytes size → old.ordered ≡ true → new.ordered ≡ true → new.bytes_read ≡ old.bytes_read → new.highest ≡ max old.highest (offset + length bytes)
    → offset ≤ start → end ≡ offset + length bytes → Merges old.runs p new.runs → All (StemsFrom old.runs p) new.runs → All (StaysApart start end new.runs) old.runs → (0 < length p.bytes → JoinsAll old.runs p new.runs) → (Any (EnclosesPiece p) old.runs → new.runs ≡ old.runs) → length new.runs ≤ length old.runs + 1 → KeepsPiece old new offset bytes size
keeps_joined old new offset bytes size start end p is o n e h from to merges stems stays joined within pieces =
    let m = subst (λ (q : PieceView). Merges old.runs q new.runs) is merges in
    record {
      held = takes_joined old new offset bytes size o n e m;
      done = λ at f. absurd (true_not_false old.ordered o f);
      added = record {
        joins = λ f. record {
          merges = m;
          stems = subst (λ (q : PieceView). All (StemsFrom old.runs q) new.runs) is stems;
          joined = subst (λ (q : PieceView). 0 < length q.bytes → JoinsAll old.runs q new.runs) is joined;
          within = subst (λ (q : PieceView). Any (EnclosesPiece q) old.runs → new.runs ≡ old.runs) is within;
          stays = subst (λ (k : ℕ). All (StaysApart offset k new.runs) old.runs) to (stays_wider offset start end new.runs old.runs from stays);
          pieces = pieces;
        };
        sums = λ f. absurd (true_not_false old.ordered o f);
        adds = λ f. absurd (true_not_false old.ordered o f);
      };
      highest = h;
      bytes_read = e;
      ordered = n ∙ sym o;
    }

-- ---- a piece in unordered mode

pub keeps_unreceived : (old new : Reassembly) (offset : ℕ) (bytes : List ℕ) (size : ℕ) → old.ordered ≡ false → new.ordered ≡ old.ordered → new.bytes_read ≡ old.bytes_read → new.highest ≡ max old.highest (offset + length bytes)
    → TakesFresh old.received (piece_of offset bytes size) old.runs new.runs → ((at : ℕ) → contains new.received at ≡ (contains old.received at || lies offset (offset + length bytes) at)) → AddsOnly size old.runs new.runs → KeepsPiece old new offset bytes size
keeps_unreceived old new offset bytes size o n e h t c adds =
    let k = keeps_fresh old new (piece_of offset bytes size) o n e h t c in
    record {
      held = k.held;
      done = k.done;
      added = record { joins = λ f. absurd (true_not_false old.ordered f o); sums = λ f. k.sums; adds = λ f. adds };
      highest = h;
      bytes_read = e;
      ordered = n;
    }

-- ---- what a read leaves

lt_of : (a b : ℕ) → nat_lt a b ≡ true → a < b
lt_of a b h = grind (arith, nat_tests)

ge_of : (a b : ℕ) → nat_lt a b ≡ false → b ≤ a
ge_of a b h = grind (arith, nat_tests)

given_order : (b : Bool) (most low : ℕ) (first : PieceView) (rest : List PieceView) → b ≡ nat_lt most (length first.bytes) → LieInOrder low (first ∷ rest) → LieInOrder (first.offset + length (take most first.bytes)) (cond b (advance_by most first ∷ []) [] ++ rest)
given_order true most low first rest t h =
    let lt = lt_of most (length first.bytes) (sym t) in
    let d = length-drop most first.bytes in
    let g = length-take most first.bytes in
    let same : run_end (advance_by most first) ≡ run_end first = omega (arith, d) in
    (omega (arith, g), omega (arith, d), subst (λ (n : ℕ). LieInOrder n rest) (sym same) h.2)
given_order false most low first rest t h =
    let ge = ge_of most (length first.bytes) (sym t) in
    let g = length-take most first.bytes in
    subst (λ (n : ℕ). LieInOrder n rest) (omega (arith, g)) h.2

pub order_given : (most low offset : ℕ) (bytes : List ℕ) (xs ys : List PieceView) → LieInOrder low xs → GivesFirst most xs offset bytes ys → LieInOrder (offset + length bytes) ys
order_given most low offset bytes xs ys h g =
    let k = given_order (nat_lt most (length g.first.bytes)) most low g.first g.rest refl (subst (LieInOrder low) g.is h) in
    let n : g.first.offset + length (take most g.first.bytes) ≡ offset + length bytes = omega (arith, g.at, ap length g.given) in
    subst (λ (zs : List PieceView). LieInOrder (offset + length bytes) zs) (sym g.left) (subst (λ (k : ℕ). LieInOrder k (left_of most g.first ++ g.rest)) n k)

-- ---- where reads go on

lowest_order : (low : ℕ) (xs : List PieceView) → LieInOrder low xs → All (λ (q : PieceView). low ≤ q.offset) xs
lowest_order low [] h = All-nil (λ (q : PieceView). low ≤ q.offset)
lowest_order low (r ∷ rs) h =
    let a = h.0 in
    All-cons (λ (q : PieceView). low ≤ q.offset) r rs h.0 (All-weaker (λ (q : PieceView). run_end r ≤ q.offset) (λ (q : PieceView). low ≤ q.offset) (λ q l. omega arith) rs (lowest_order (run_end r) rs h.2))

lowest_first : (low : ℕ) (first : PieceView) (rest : List PieceView) → LieInOrder low (first ∷ rest) → All (λ (q : PieceView). first.offset ≤ q.offset) (first ∷ rest)
lowest_first low first rest h = lowest_order first.offset (first ∷ rest) (omega arith, h.1, h.2)

pub next_of : (a : Reassembly) (first : PieceView) (rest : List PieceView) → LieInOrder 0 a.runs → a.runs ≡ first ∷ rest → (a.ordered ≡ true → first.offset ≡ a.bytes_read) → IsNext a first.offset
next_of a first rest h e behind =
    let g = subst (LieInOrder 0) e h in
    let some = g.1 in
    record {
      behind = behind;
      lowest = λ f. subst (All (λ (q : PieceView). first.offset ≤ q.offset)) (sym e) (lowest_first 0 first rest g);
      covered = λ f. subst (Any (Covers first.offset)) (sym e) (Any-here (Covers first.offset) first rest (omega arith, omega arith));
    }

none_before : (a : Reassembly) (first : PieceView) (rest : List PieceView) → LieInOrder 0 a.runs → a.runs ≡ first ∷ rest → a.bytes_read < first.offset → IsHeld (Holds a) a.bytes_read → ⊥
unfolding Holds
none_before a first rest h e l w =
    let g = subst (LieInOrder 0) e h in
    let low = held_above first.offset (first ∷ rest) a.bytes_read w.0 (omega arith, g.1, g.2) (subst (λ (xs : List PieceView). Hold xs a.bytes_read w.0) e w.1.1) in
    absurd (omega arith)

pub none_here : (a : Reassembly) (first : PieceView) (rest : List PieceView) → LieInOrder 0 a.runs → a.runs ≡ first ∷ rest → LieInOrder a.bytes_read a.runs → (first.offset ≡ a.bytes_read → ⊥) → IsHeld (Holds a) a.bytes_read → ⊥
none_here a first rest h e above ne w =
    let g = subst (LieInOrder a.bytes_read) e above in
    let low = g.0 in
    none_before a first rest h e (omega (arith, ne)) w

pub none_at_all : (a : Reassembly) → a.runs ≡ [] → (at : ℕ) → IsHeld (Holds a) at → ⊥
unfolding Holds
none_at_all a e at w = Any-nil (RunHolds at w.0) (subst (λ (xs : List PieceView). Hold xs at w.0) e w.1.1)

pub more_first : (xs rest : List PieceView) (first : PieceView) (most : ℕ) → xs ≡ first ∷ rest → most < length first.bytes → CoversMore first.offset most xs
more_first xs rest first most e l at a b = subst (Any (Covers at)) (sym e) (Any-here (Covers at) first rest (a, omega arith))

-- ---- a piece that is cut before it is joined

pub unread_is : (read offset start : ℕ) (bytes rest : List ℕ) (size : ℕ) → start ≡ max offset read → rest ≡ drop (start - offset) bytes → piece_of start rest size ≡ unread read offset bytes size
unread_is read offset start bytes rest size e f =
    let k : start - offset ≡ read - offset = omega arith in
    let m : start ≡ max read offset = omega arith in
    ap (λ (n : ℕ). piece_of n rest size) m ∙ ap (λ (bs : List ℕ). piece_of (max read offset) bs size) (f ∙ ap (λ (n : ℕ). drop n bytes) k)

-- ---- pieces with gaps between them are runs

abbrev pub offsets_of : List PieceView → List ℕ
offsets_of [] = []
offsets_of (r ∷ rs) = r.offset ∷ offsets_of rs

offsets_length : (rs : List PieceView) → length (offsets_of rs) ≡ length rs
offsets_length [] = refl
offsets_length (r ∷ rs) = ap suc (offsets_length rs)

offsets_rise : (low : ℕ) (rs : List PieceView) → LieWithGaps low rs → IsStrictlyIncreasing (offsets_of rs)
offsets_rise low [] h k l = absurd (omega arith)
offsets_rise low (r ∷ []) h k l = absurd (omega arith)
offsets_rise low (r ∷ (s ∷ rs)) h zero l = let b = h.2.0 in omega arith
offsets_rise low (r ∷ (s ∷ rs)) h (suc k) l =
    let e : suc (k + 1) ≡ suc k + 1 = omega arith in
    subst (λ (n : ℕ). slice_index (offsets_of (r ∷ (s ∷ rs))) (suc k) < slice_index (offsets_of (r ∷ (s ∷ rs))) n) e (offsets_rise (run_end r + 1) (s ∷ rs) h.2 k (omega arith))

gap_above : (low : ℕ) (rs : List PieceView) (at byte : ℕ) → LieWithGaps low rs → Hold rs at byte → low ≤ at
gap_above low [] at byte h w = absurd (Any-nil (RunHolds at byte) w)
gap_above low (r ∷ rs) at byte h w =
    let a = h.0 in
    elim (Any-cons (RunHolds at byte) r rs w) [
      | inl p ↦ (let b = p.0 in omega arith)
      | inr q ↦ (let b = gap_above (run_end r + 1) rs at byte h.2 q in omega arith)
    ]

abbrev pub BeginsRun : (ℕ → ℕ → Type 0) → ℕ → Type 0
BeginsRun held at = IsHeld held at × ((at ≡ 0) ⊎ (IsHeld held (at - 1) → ⊥))

held_first : (r : PieceView) → 0 < length r.bytes → RunHolds r.offset (get_or r.bytes (r.offset - r.offset) 0) r
held_first r some = (omega arith, omega arith, refl)

first_or : (before : List PieceView) (r : PieceView) (rs : List PieceView) (low : ℕ) → low ≤ r.offset → 0 < length r.bytes → LieWithGaps (run_end r + 1) rs → ((at byte : ℕ) → Hold before at byte → at + 1 < low) → (r.offset ≡ 0) ⊎ (IsHeld (Hold (before ++ (r ∷ rs))) (r.offset - 1) → ⊥)
first_or before r rs low a some h ends =
    elim (cases_eq r.offset 0) [
      | inl none ↦ inl none
      | inr ne ↦ inr (λ w. elim (Any-append (RunHolds (r.offset - 1) w.0) before (r ∷ rs) w.1) [
        | inl p ↦ (let b = ends (r.offset - 1) w.0 p in absurd (omega (arith, ne)))
        | inr q ↦ elim (Any-cons (RunHolds (r.offset - 1) w.0) r rs q) [
          | inl p ↦ (let b = p.0 in absurd (omega (arith, ne)))
          | inr s ↦ (let b = gap_above (run_end r + 1) rs (r.offset - 1) w.0 h s in absurd (omega arith))
        ]
      ])
    ]

begins_all : (low : ℕ) (before after : List PieceView) → LieWithGaps low after → ((at byte : ℕ) → Hold before at byte → at + 1 < low) → All (BeginsRun (Hold (before ++ after))) (offsets_of after)
begins_all low before [] h ends = All-nil (BeginsRun (Hold (before ++ [])))
begins_all low before (r ∷ rs) h ends =
    let a = h.0 in
    let some = h.1 in
    let same = append_assoc before (r ∷ []) rs in
    let rest = begins_all (run_end r + 1) (before ++ r ∷ []) rs h.2 (λ at byte w. elim (Any-append (RunHolds at byte) before (r ∷ []) w) [
      | inl p ↦ (let b = ends at byte p in omega arith)
      | inr q ↦ elim (Any-cons (RunHolds at byte) r [] q) [ inl p ↦ (let b = p.1 in omega arith) | inr n ↦ absurd (Any-nil (RunHolds at byte) n) ]
    ]) in
    All-cons (BeginsRun (Hold (before ++ (r ∷ rs)))) r.offset (offsets_of rs) (
      (get_or r.bytes (r.offset - r.offset) 0, hold_behind before (r ∷ rs) r.offset _ (Any-here (RunHolds r.offset _) r rs (held_first r some))),
      first_or before r rs low a some h.2 ends,
    )
    (subst (λ (xs : List PieceView). All (BeginsRun (Hold xs)) (offsets_of rs)) same rest)

begins_held : (a : Reassembly) (at : ℕ) → ((byte : ℕ) → Hold a.runs at byte → floor a ≤ at) → BeginsRun (Hold a.runs) at → BeginsRun (Holds a) at
unfolding Holds
begins_held a at above b = ((b.0.0, (above b.0.0 b.0.1, b.0.1)), elim b.1 [ inl z ↦ inl z | inr n ↦ inr (λ w. n (w.0, w.1.1)) ])

floor_above : (a : Reassembly) (mode : Bool) (at byte : ℕ) → a.ordered ≡ mode → (a.ordered ≡ true → LieInOrder a.bytes_read a.runs) → Hold a.runs at byte → floor a ≤ at
floor_above a true at byte e above h = (let f : floor a ≡ a.bytes_read = rw e refl in let l = held_above a.bytes_read a.runs at byte (above e) h in omega arith)
floor_above a false at byte e above h = (let f : floor a ≡ 0 = rw e refl in omega arith)

pub forms_runs : (a : Reassembly) (n : ℕ) → LieWithGaps 0 a.runs → (a.ordered ≡ true → LieInOrder a.bytes_read a.runs) → n < length a.runs → FormMoreRuns n (Holds a)
forms_runs a n h above many =
    let all = begins_all 0 [] a.runs h (λ at byte w. absurd (Any-nil (RunHolds at byte) w)) in
    record {
      starts = offsets_of a.runs;
      rise = sorted_from_strictly_increasing (offsets_of a.runs) (offsets_rise 0 a.runs h);
      begin = All-weaker (BeginsRun (Hold a.runs)) (BeginsRun (Holds a)) (λ at b. begins_held a at (λ byte w. floor_above a a.ordered at byte refl above w) b) (offsets_of a.runs) all;
      many = omega (arith, offsets_length a.runs);
    }

-- ---- what was given, and where

pub next_at : (a : Reassembly) (most offset : ℕ) (bytes : List ℕ) (xs ys : List PieceView) (first : PieceView) (rest : List PieceView) → xs ≡ first ∷ rest → GivesFirst most xs offset bytes ys → IsNext a first.offset → IsNext a offset
next_at a most offset bytes xs ys first rest e g n =
    let h = same_head xs rest g.rest first g.first e g.is in
    subst (IsNext a) (ap (λ (r : PieceView). r.offset) h.0 ∙ sym g.at) n

pub given_is : (P : Chunk → Type 0) (o : Option Chunk) (chunk : Chunk) → o ≡ Some chunk → IfSome o P → P chunk
given_is P o chunk e h = subst (λ (o' : Option Chunk). IfSome o' P) e h
