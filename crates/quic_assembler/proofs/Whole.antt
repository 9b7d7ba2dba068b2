-- What an assembler holds and is done with, as its runs change.
use Rattle.std.proofs.Common.{◌≡◌, ℕ, ◌+◌, ◌-◌, ◌≤◌, ◌<◌, ◌^◌, ◌⊎◌, inl, inr, refl, sym, ap, ◌∙◌, List, [], ◌∷◌, length, get_or, arith, zero, suc, Bool, true, false, min, max, Result, Ok, Err}
use Rattle.std.proofs.Common.{OnOk, OnErr, ◌*◌, ◌/◌}
use Rattle.quic_values.specs.declared.memory.OutOfMemory.{OutOfMemory as Refusal}
use Rattle.std.specs.Prelude.{nat_lt, ◌&&◌, ◌||◌, ◌==◌, not, drop}
use Rattle.std.specs.List.{Any}
use Rattle.std.specs.List.Sorted.{IsPermutation}
use Rattle.std.proofs.lemmas.List.Sorted.{IsPermutation-sym, length_permutation}
use Rattle.std.proofs.lemmas.Bool.{cases_lt}
use Rattle.std.proofs.lemmas.Bool.Decides.{nat_tests}
use Rattle.quic_ranges.specs.Runs.{contains, Run as Range}
use Rattle.quic_assembler.specs.declared.errors.InsertError.{InsertError}
use Rattle.quic_assembler.specs.declared.errors.InsertError.TheVariants.{TooManyChunks, CompactionMemory, OutOfMemory}
use Rattle.quic_assembler.specs.Piece.{PieceView, RunHolds, cover_count, bit, lies, run_end, cut_at, KeepsFrom, CoversMore, TakesSome, NoneHoldsAt, covers, Sums, sums_of}
use Rattle.quic_assembler.specs.Compact.{Compacts}
use Rattle.quic_assembler.specs.Reassembly.{Reassembly, floor, Holds, IsDone, is_done, IsHeld, IsWithin, HoldsMore, Takes, Gives, SameHeld, KeepsOffsets, IsSameButHeld, MatchInsert, HoldsNothing, HoldsOnce, IsApart, IsAssembler, TakesFresh, Keeps, LeavesOrder, IsNext, run_count, fresh_count, is_wasteful, used, sums, covered, with_piece, covered_with, Settles}
use Rattle.quic_assembler.proofs.Sums.{sums_permuted, sums_equal, sums_pushed}
use Rattle.quic_assembler.proofs.Fresh.{fresh_bit, old_bit, outside_bit}
use Rattle.std.proofs.lemmas.List.{length-drop}
use Rattle.std.proofs.Math.Nat.{one-mul, zero-mul}
use Rattle.quic_assembler.specs.Laws.{done_below}
use Rattle.quic_assembler.proofs.Counts.{Any-permutation, Any-here, Any-there, Any-cons, Any-nil, count_permuted, count_of_any, any_of_count, lies_in, lies_below, lies_above, bit-le-one, tally-le, tally-same, tally-add, tally-ones, tally-lies}
use Rattle.quic_assembler.proofs.Runs.{RunHolds-cut, RunHolds-uncut, covers_from_holds, holds_from_covers, above_lowest, covers_cut, covers_cut_below}

test_true : (a b : ℕ) → a < b → nat_lt a b ≡ true
test_true a b l = grind (arith, nat_tests)

test_false : (a b : ℕ) → b ≤ a → nat_lt a b ≡ false
test_false a b l = grind (arith, nat_tests)

true_not_false : (b : Bool) → b ≡ true → b ≡ false → ⊥
true_not_false b e f = cc

-- what is done
done_unordered : (a : Reassembly) (at : ℕ) → a.ordered ≡ false → is_done a at ≡ contains a.received at
unfolding is_done
done_unordered a at e = rw e refl

not_done : (a : Reassembly) (at : ℕ) → a.ordered ≡ true → a.bytes_read ≤ at → IsDone a at → ⊥
not_done a at e l d = absurd (omega (arith, (done_below a at e).0 d))

pub below_is_done : (a : Reassembly) (at : ℕ) → a.ordered ≡ true → at < a.bytes_read → IsDone a at
below_is_done a at e l = (done_below a at e).1 l

pub same_done : (old new : Reassembly) → new.bytes_read ≡ old.bytes_read → new.ordered ≡ old.ordered → new.received ≡ old.received → (at : ℕ) → is_done new at ≡ is_done old at
unfolding is_done
same_done old new b o r at = rw (b, o, r) refl

pub same_but_held : (old new : Reassembly) → new.bytes_read ≡ old.bytes_read → new.ordered ≡ old.ordered → new.highest ≡ old.highest → new.received ≡ old.received → IsSameButHeld old new
same_but_held old new b o h r = record { bytes_read = b; ordered = o; highest = h; done = same_done old new b o r }

-- in ordered mode what lies above the bytes that were read is one run
ordered_done : (a : Reassembly) → a.ordered ≡ true → (at : ℕ) → is_done a at ≡ nat_lt at a.bytes_read
unfolding is_done
ordered_done a e at = rw e refl

start_bit : (b offset n : ℕ) → min 1 (offset + n - max offset b) + bit (not (nat_lt (offset + n) b) && ((offset + n == offset) || nat_lt (offset + n - 1) b)) ≡ min 1 (offset + suc n - max offset b)
start_bit b offset n = grind (arith, nat_tests)

fresh_bit_above : (b at : ℕ) → bit (not (nat_lt at b)) ≡ min 1 (at + 1 - b)
fresh_bit_above b at = grind (arith, nat_tests)

ordered_runs : (done : ℕ → Bool) (b offset n : ℕ) → ((at : ℕ) → done at ≡ nat_lt at b) → run_count done offset n ≡ min 1 (offset + n - max offset b)
ordered_runs done b offset zero h = omega arith
ordered_runs done b offset (suc n) h = rw (h (offset + n), h (offset + n - 1), ordered_runs done b offset n h) (start_bit b offset n)

ordered_fresh : (done : ℕ → Bool) (b offset n : ℕ) → ((at : ℕ) → done at ≡ nat_lt at b) → fresh_count done offset n ≡ offset + n - max offset b
ordered_fresh done b offset zero h = omega arith
ordered_fresh done b offset (suc n) h = rw (h (offset + n), ordered_fresh done b offset n h) (omega (arith, fresh_bit_above b (offset + n)))

cut_bits : (b at : ℕ) (r : PieceView) → b ≤ run_end r → covers at (cut_at b r) ≡ bit (lies r.offset (run_end r) at && not (nat_lt at b))
cut_bits b at r l = elim (cases_lt at b) [
  | inl m ↦ omega (arith, covers_cut_below b at r m, old_bit r.offset (run_end r) at (nat_lt at b) (test_true at b m))
  | inr m ↦ omega (arith, covers_cut b at r m l, fresh_bit r.offset (run_end r) at (nat_lt at b) (test_false at b m))
]

no_bits : (b offset end at : ℕ) → end ≤ max offset b → bit (lies offset end at && not (nat_lt at b)) ≡ 0
no_bits b offset end at l = elim (cases_lt at b) [
  | inl m ↦ old_bit offset end at (nat_lt at b) (test_true at b m)
  | inr m ↦ elim (cases_lt at offset) [
    | inl n ↦ outside_bit offset end at (nat_lt at b) (lies_below offset end at n)
    | inr n ↦ outside_bit offset end at (nat_lt at b) (lies_above offset end at (omega arith))
  ]
]

covers_more : (old new : Reassembly) (offset : ℕ) (bytes : List ℕ) → ((at : ℕ) → cover_count at new.runs ≡ cover_count at old.runs + bit (lies offset (offset + length bytes) at && not (is_done old at))) → covered new.runs ≡ covered_with old offset bytes
unfolding covered covered_with
covers_more old new offset bytes h = tally-same (2 ^ 62) _ _ (λ at. rw (h at) refl)

-- what is held
pub holds_nothing : (a : Reassembly) → a.runs ≡ [] → HoldsNothing (Holds a)
unfolding Holds
holds_nothing a e = λ at byte h. absurd (Any-nil (RunHolds at byte) (rw e at h.1))

held_of_count : (a : Reassembly) (at : ℕ) → floor a ≤ at → 0 < cover_count at a.runs → IsHeld (Holds a) at
unfolding Holds
held_of_count a at l c = let b = holds_from_covers at a.runs (any_of_count at a.runs c) in (b.0, (l, b.1))

count_of_held : (a : Reassembly) (at : ℕ) → IsHeld (Holds a) at → (floor a ≤ at) × (0 < cover_count at a.runs)
unfolding Holds
count_of_held a at h = (h.1.0, count_of_any at a.runs (covers_from_holds at h.0 a.runs h.1.1))

count_of_holds : (a : Reassembly) (at byte : ℕ) → Holds a at byte → 0 < cover_count at a.runs
unfolding Holds
count_of_holds a at byte h = count_of_any at a.runs (covers_from_holds at byte a.runs h.1)

-- a pushed run, cut at what was read
pub takes_pushed : (old new : Reassembly) (r : PieceView) → old.ordered ≡ true → new.ordered ≡ true → new.bytes_read ≡ old.bytes_read → IsPermutation (cut_at old.bytes_read r ∷ old.runs) new.runs → Takes (Holds old) (Holds new) (IsDone old) r.offset r.bytes
unfolding Holds
takes_pushed old new r o n e h =
    let was : floor old ≡ old.bytes_read = rw o refl in
    let is : floor new ≡ old.bytes_read = rw n e in
    record {
      keeps = λ at w. (w.0, (omega arith, Any-permutation _ _ _ h (Any-there _ _ _ w.1.1)));
      gains = λ at w. elim (cases_lt at old.bytes_read) [
        | inl l ↦ inl (below_is_done old at o l)
        | inr l ↦ inr (get_or r.bytes (at - r.offset) 0, (omega arith, Any-permutation _ _ _ h (Any-here _ _ _ (RunHolds-cut _ _ _ r l (w.0, w.1, refl)))))
      ];
      origin = λ at byte w. elim (Any-cons _ _ _ (Any-permutation _ _ _ (IsPermutation-sym _ _ h) w.1)) [
        | inl p ↦ inr (RunHolds-uncut _ _ _ r p)
        | inr a ↦ inl (omega arith, a)
      ];
      fresh = λ at byte w. inr (not_done old at o (omega arith));
    }

pub keeps_pushed : (old new : Reassembly) (r : PieceView) → old.ordered ≡ true → new.ordered ≡ true → new.bytes_read ≡ old.bytes_read → max r.offset old.bytes_read < run_end r → new.highest ≡ max old.highest (run_end r) → IsPermutation (cut_at old.bytes_read r ∷ old.runs) new.runs → Keeps old new r.offset r.bytes r.allocation_size
keeps_pushed old new r o n e l h p =
    let one : run_count (is_done old) r.offset (length r.bytes) ≡ 1 = ordered_runs (is_done old) old.bytes_read r.offset (length r.bytes) (ordered_done old o) ∙ omega arith in
    let all : fresh_count (is_done old) r.offset (length r.bytes) ≡ length (drop (old.bytes_read - r.offset) r.bytes) = ordered_fresh (is_done old) old.bytes_read r.offset (length r.bytes) (ordered_done old o) ∙ simp length-drop (omega arith) in
    record {
      held = takes_pushed old new r o n e p;
      done = λ at f. absurd (true_not_false old.ordered o f);
      sums = sums_pushed old.runs new.runs (cut_at old.bytes_read r) (with_piece old r.offset r.bytes r.allocation_size) p (omega (arith, one)) (omega (arith, all)) (rw (one, one-mul) refl);
      covered = covers_more old new r.offset r.bytes (λ at. rw (ordered_done old o at) (omega (arith, count_permuted at (cut_at old.bytes_read r ∷ old.runs) new.runs p, cut_bits old.bytes_read at r (omega arith))));
      pieces = λ _. omega (arith, length_permutation _ _ p);
      highest = h;
      bytes_read = e;
      ordered = n ∙ sym o;
    }

-- bytes of which every offset is done
pub takes_nothing : (old new : Reassembly) (offset : ℕ) (bytes : List ℕ) → new.runs ≡ old.runs → floor new ≡ floor old → ((at : ℕ) → IsWithin offset bytes at → IsDone old at) → Takes (Holds old) (Holds new) (IsDone old) offset bytes
unfolding Holds
takes_nothing old new offset bytes e f d = record {
  keeps = λ at w. rw (f, e) w;
  gains = λ at w. inl (d at w);
  origin = λ at byte w. inl (rw (← f, ← e) w);
  fresh = λ at byte w. inl (rw (← f, ← e) w);
}

pub keeps_nothing : (old new : Reassembly) (offset : ℕ) (bytes : List ℕ) (size : ℕ) → old.ordered ≡ true → new.ordered ≡ true → new.bytes_read ≡ old.bytes_read → new.runs ≡ old.runs → new.highest ≡ max old.highest (offset + length bytes) → offset + length bytes ≤ max offset old.bytes_read → Keeps old new offset bytes size
keeps_nothing old new offset bytes size o n e r h l =
    let none : run_count (is_done old) offset (length bytes) ≡ 0 = ordered_runs (is_done old) old.bytes_read offset (length bytes) (ordered_done old o) ∙ omega arith in
    let no : fresh_count (is_done old) offset (length bytes) ≡ 0 = ordered_fresh (is_done old) old.bytes_read offset (length bytes) (ordered_done old o) ∙ omega arith in
    record {
      held = takes_nothing old new offset bytes r (rw (o, n) e) (λ at w. below_is_done old at o (omega arith));
      done = λ at f. absurd (true_not_false old.ordered o f);
      sums = sums_equal (sums_of new.runs) (with_piece old offset bytes size) (rw r (omega (arith, none))) (rw r (omega (arith, no))) (rw (r, none, zero-mul) (omega arith));
      covered = covers_more old new offset bytes (λ at. rw (r, ordered_done old o at) (omega (arith, no_bits old.bytes_read offset (offset + length bytes) at l)));
      pieces = λ _. rw r (omega arith);
      highest = h;
      bytes_read = e;
      ordered = n ∙ sym o;
    }

-- bytes of which some were received before
run_count-same : (f g : ℕ → Bool) (offset n : ℕ) → ((at : ℕ) → f at ≡ g at) → run_count f offset n ≡ run_count g offset n
run_count-same f g offset zero h = refl
run_count-same f g offset (suc n) h = rw (h (offset + n), h (offset + n - 1), run_count-same f g offset n h) refl

fresh_count-same : (f g : ℕ → Bool) (offset n : ℕ) → ((at : ℕ) → f at ≡ g at) → fresh_count f offset n ≡ fresh_count g offset n
fresh_count-same f g offset zero h = refl
fresh_count-same f g offset (suc n) h = rw (h (offset + n), fresh_count-same f g offset n h) refl

gain_or_old : (t b : Bool) → 0 < bit t → (b ≡ true) ⊎ (0 < bit (t && not b))
gain_or_old true true h = inl refl
gain_or_old true false h = inr (omega arith)
gain_or_old false b h = absurd (omega arith)

pub keeps_fresh : (old new : Reassembly) (r : PieceView) → old.ordered ≡ false → new.ordered ≡ old.ordered → new.bytes_read ≡ old.bytes_read → new.highest ≡ max old.highest (run_end r) → TakesFresh old.received r old.runs new.runs → ((at : ℕ) → contains new.received at ≡ (contains old.received at || lies r.offset (run_end r) at)) → Keeps old new r.offset r.bytes r.allocation_size
unfolding Holds
keeps_fresh old new r o n e h t c =
    let was : floor old ≡ 0 = rw o refl in
    let is : floor new ≡ 0 = rw (n, o) refl in
    let runs = run_count-same (is_done old) (contains old.received) r.offset (length r.bytes) (λ at. done_unordered old at o) in
    let fresh = fresh_count-same (is_done old) (contains old.received) r.offset (length r.bytes) (λ at. done_unordered old at o) in
    record {
      held = record {
        keeps = λ at w. held_of_count new at (omega arith) (omega (arith, t.count at, (count_of_held old at w).1));
        gains = λ at w. elim (gain_or_old (lies r.offset (run_end r) at) (contains old.received at) (omega (arith, lies_in r.offset (run_end r) at w.0 w.1))) [
          | inl d ↦ inl (done_unordered old at o ∙ d)
          | inr g ↦ inr (held_of_count new at (omega arith) (omega (arith, t.count at)))
        ];
        origin = λ at byte w. elim (t.origin at byte w.1) [ inl a ↦ inl (omega arith, a) | inr p ↦ inr p.0 ];
        fresh = λ at byte w. elim (t.origin at byte w.1) [ inl a ↦ inl (omega arith, a) | inr p ↦ inr (λ d. true_not_false (contains old.received at) (sym (done_unordered old at o) ∙ d) p.1) ];
      };
      done = λ at f. done_unordered new at (n ∙ o) ∙ c at ∙ rw (done_unordered old at o) refl;
      sums = sums_equal (sums_of new.runs) (with_piece old r.offset r.bytes r.allocation_size) (rw runs t.pieces) (rw fresh t.total) (rw runs t.allocated);
      covered = covers_more old new r.offset r.bytes (λ at. rw (done_unordered old at o) (t.count at));
      pieces = λ f. absurd (true_not_false old.ordered f o);
      highest = h;
      bytes_read = e;
      ordered = n;
    }

-- in unordered mode no two pieces overlap
apart_bits : (b t : Bool) (n : ℕ) → n ≤ bit b → n + bit (t && not b) ≤ bit (b || t)
apart_bits true true n l = omega arith
apart_bits true false n l = omega arith
apart_bits false true n l = omega arith
apart_bits false false n l = omega arith

more_bits : (b t : Bool) → bit (t && not b) + bit b ≤ bit (b || t)
more_bits true true = omega arith
more_bits true false = omega arith
more_bits false true = omega arith
more_bits false false = omega arith

pub apart_less : (xs ys : List PieceView) (received : List Range) (bytes_read : ℕ) → IsApart xs received bytes_read → ((at : ℕ) → cover_count at ys ≤ cover_count at xs) → IsApart ys received bytes_read
apart_less xs ys received bytes_read a l = record {
  count = λ at. omega (arith, a.count at, l at);
  read = omega (arith, a.read, tally-le (2 ^ 62) (λ at. cover_count at ys) (λ at. cover_count at xs) l);
}

pub apart_fresh : (xs ys : List PieceView) (received next : List Range) (bytes_read : ℕ) (r : PieceView) → IsApart xs received bytes_read → TakesFresh received r xs ys → ((at : ℕ) → contains next at ≡ (contains received at || lies r.offset (run_end r) at)) → IsApart ys next bytes_read
apart_fresh xs ys received next bytes_read r a t c =
    let old : ℕ → ℕ = λ at. bit (contains received at) in
    let new : ℕ → ℕ = λ at. bit (contains next at) in
    let before : ℕ → ℕ = λ at. cover_count at xs in
    let after : ℕ → ℕ = λ at. cover_count at ys in
    let more : (at : ℕ) → after at + old at ≤ before at + new at = λ at. omega (arith, t.count at, more_bits (contains received at) (lies r.offset (run_end r) at), ap bit (c at)) in
    record {
      count = λ at. rw (c at) (omega (arith, t.count at, apart_bits (contains received at) (lies r.offset (run_end r) at) (cover_count at xs) (a.count at)));
      read = omega (arith, a.read, tally-add (2 ^ 62) after old, tally-add (2 ^ 62) before new, tally-le (2 ^ 62) (λ at. after at + old at) (λ at. before at + new at) more);
    }

pub assembler_less : (xs ys : List PieceView) (received : List Range) (ordered : Bool) (bytes_read : ℕ) → IsAssembler xs received ordered bytes_read → ((at : ℕ) → cover_count at ys ≤ cover_count at xs) → IsAssembler ys received ordered bytes_read
assembler_less xs ys received ordered bytes_read a l = record { bounded = a.bounded; apart = λ o. apart_less xs ys received bytes_read (a.apart o) l }

pub assembler_pushed : (xs ys : List PieceView) (received : List Range) (ordered : Bool) (bytes_read : ℕ) → ordered ≡ true → IsAssembler xs received ordered bytes_read → IsAssembler ys received ordered bytes_read
assembler_pushed xs ys received ordered bytes_read o a = record { bounded = a.bounded; apart = λ f. absurd (true_not_false ordered o f) }

-- a compaction
pub keeps_compacted : (old new : Reassembly) → floor new ≡ floor old → Compacts old.runs new.runs → KeepsOffsets (Holds old) (Holds new)
unfolding Holds
keeps_compacted old new e c = record {
  keeps = λ at h. held_of_count new at (omega (arith, (count_of_held old at h).0)) (omega (arith, c.count at, (count_of_held old at h).1));
  origin = λ at byte h. (omega arith, c.origin at byte h.1);
}

pub same_permuted : (old new : Reassembly) → floor new ≡ floor old → IsPermutation old.runs new.runs → SameHeld (Holds old) (Holds new)
unfolding Holds
same_permuted old new e p = record {
  keeps = λ at byte h. (omega arith, Any-permutation _ _ _ p h.1);
  origin = λ at byte h. (omega arith, Any-permutation _ _ _ (IsPermutation-sym _ _ p) h.1);
}

pub offsets_of_same : (held held' : ℕ → ℕ → Type 0) → SameHeld held held' → KeepsOffsets held held'
offsets_of_same held held' s = record { keeps = λ at h. (h.0, s.keeps at h.0 h.1); origin = s.origin }

-- a piece that was taken, and a compaction after that
pub takes_compacted : (held mid new : ℕ → ℕ → Type 0) (done : ℕ → Type 0) (offset : ℕ) (bytes : List ℕ) → Takes held mid done offset bytes → KeepsOffsets mid new → Takes held new done offset bytes
takes_compacted held mid new done offset bytes t c = record {
  keeps = λ at h. c.keeps at (t.keeps at h);
  gains = λ at w. elim (t.gains at w) [ inl d ↦ inl d | inr h ↦ inr (c.keeps at h) ];
  origin = λ at byte h. t.origin at byte (c.origin at byte h);
  fresh = λ at byte h. t.fresh at byte (c.origin at byte h);
}

pub MatchInsert-kept : (P Q : Type 0) (r : Result (Unit {0}) InsertError) → MatchInsert r (Unit {0}) ⊥ → P → MatchInsert r P Q
MatchInsert-kept P Q (Ok u) h p = p
MatchInsert-kept P Q (Err TooManyChunks) h p = p
MatchInsert-kept P Q (Err CompactionMemory) h p = p
MatchInsert-kept P Q (Err OutOfMemory) h p = absurd h

-- what a read gives
-- in either mode
next_lowest_at : (a : Reassembly) (offset at : ℕ) (mode : Bool) → a.ordered ≡ mode → IsNext a offset → at < offset → (floor a ≤ at) × (0 < cover_count at a.runs) → ⊥
next_lowest_at a offset at true e n l h = (let f : floor a ≡ a.bytes_read = rw e refl in absurd (omega (arith, n.behind e, h.0)))
next_lowest_at a offset at false e n l h = absurd (omega (arith, h.1, above_lowest offset at a.runs (n.lowest e) l))

pub next_lowest : (a : Reassembly) (offset at : ℕ) → IsNext a offset → at < offset → IsHeld (Holds a) at → ⊥
next_lowest a offset at n l h = next_lowest_at a offset at a.ordered refl n l (count_of_held a at h)

gives_ordered : (old new : Reassembly) (offset most : ℕ) (bytes : List ℕ) → old.ordered ≡ true → IsNext old offset → new.ordered ≡ old.ordered → new.bytes_read ≡ old.bytes_read + length bytes → TakesSome offset most bytes old.runs new.runs → Gives (Holds old) (Holds new) offset bytes
unfolding Holds
gives_ordered old new offset most bytes e n o b t =
    let was : floor old ≡ offset = rw e (sym (n.behind e)) in
    let is : floor new ≡ offset + length bytes = rw (o, e) (omega (arith, b, n.behind e)) in
    record {
      given = λ at byte p. (omega (arith, p.0), t.taken.given at byte p);
      gone = λ at w h. absurd (omega (arith, w.1, (count_of_held new at h).0));
      keeps = λ at byte h. elim (cases_lt at (offset + length bytes)) [
        | inl l ↦ inl (omega (arith, h.0), l)
        | inr l ↦ inr (omega arith, t.taken.rest.keeps at byte l h.1)
      ];
      origin = λ at byte h. (omega (arith, h.0), t.taken.rest.origin at byte h.1);
    }

gives_unordered : (old new : Reassembly) (offset most : ℕ) (bytes : List ℕ) → old.ordered ≡ false → IsNext old offset → new.ordered ≡ old.ordered → IsApart old.runs old.received old.bytes_read → TakesSome offset most bytes old.runs new.runs → Gives (Holds old) (Holds new) offset bytes
unfolding Holds
gives_unordered old new offset most bytes e n o a t =
    let was : floor old ≡ 0 = rw e refl in
    let is : floor new ≡ 0 = rw (o, e) refl in
    record {
      given = λ at byte p. (omega arith, t.taken.given at byte p);
      gone = λ at w h. absurd (omega (arith, (count_of_held new at h).1, t.taken.count at, lies_in offset (offset + length bytes) at w.0 w.1, a.count at, bit-le-one (contains old.received at)));
      keeps = λ at byte h. elim (cases_lt at offset) [
        | inl k ↦ absurd (next_lowest old offset at n k (byte, h))
        | inr k ↦ elim (cases_lt at (offset + length bytes)) [
          | inl l ↦ inl (k, l)
          | inr l ↦ inr (omega arith, t.taken.rest.keeps at byte l h.1)
        ]
      ];
      origin = λ at byte h. (omega arith, t.taken.rest.origin at byte h.1);
    }

gives_at : (old new : Reassembly) (offset most : ℕ) (bytes : List ℕ) (mode : Bool) → old.ordered ≡ mode → IsNext old offset → new.ordered ≡ old.ordered → new.bytes_read ≡ old.bytes_read + length bytes → IsAssembler old.runs old.received old.ordered old.bytes_read → TakesSome offset most bytes old.runs new.runs → Gives (Holds old) (Holds new) offset bytes
gives_at old new offset most bytes true e n o b a t = gives_ordered old new offset most bytes e n o b t
gives_at old new offset most bytes false e n o b a t = gives_unordered old new offset most bytes e n o (a.apart e) t

pub gives_some : (old new : Reassembly) (offset most : ℕ) (bytes : List ℕ) → IsNext old offset → new.ordered ≡ old.ordered → new.bytes_read ≡ old.bytes_read + length bytes → IsAssembler old.runs old.received old.ordered old.bytes_read → TakesSome offset most bytes old.runs new.runs → Gives (Holds old) (Holds new) offset bytes
gives_some old new offset most bytes n o b a t = gives_at old new offset most bytes old.ordered refl n o b a t

floor_next : (a : Reassembly) (offset : ℕ) (mode : Bool) → a.ordered ≡ mode → IsNext a offset → floor a ≤ offset
floor_next a offset true e n = (let f : floor a ≡ a.bytes_read = rw e refl in omega (arith, n.behind e))
floor_next a offset false e n = (let f : floor a ≡ 0 = rw e refl in omega arith)

pub held_here : (old : Reassembly) (offset most : ℕ) (bytes : List ℕ) (ys : List PieceView) → IsNext old offset → TakesSome offset most bytes old.runs ys → IsHeld (Holds old) offset
unfolding Holds
held_here old offset most bytes ys n t = (t.here.0, (floor_next old offset old.ordered refl n, t.here.1))

true_of_bit : (b : Bool) → 1 ≤ bit b → b ≡ true
true_of_bit true l = refl
true_of_bit false l = absurd (omega arith)

done_at : (old new : Reassembly) (offset most at : ℕ) (bytes : List ℕ) (mode : Bool) → old.ordered ≡ mode → IsNext old offset → new.ordered ≡ old.ordered → new.received ≡ old.received → new.bytes_read ≡ old.bytes_read + length bytes → IsAssembler old.runs old.received old.ordered old.bytes_read → TakesSome offset most bytes old.runs new.runs → IsWithin offset bytes at → IsDone new at
done_at old new offset most at bytes true e n o r b a t w = below_is_done new at (o ∙ e) (omega (arith, w.1, n.behind e))
done_at old new offset most at bytes false e n o r b a t w =
    done_unordered new at (o ∙ e) ∙ rw r (true_of_bit (contains old.received at) (omega (arith, (a.apart e).count at, t.taken.count at, lies_in offset (offset + length bytes) at w.0 w.1)))

pub done_given : (old new : Reassembly) (offset most at : ℕ) (bytes : List ℕ) → IsNext old offset → new.ordered ≡ old.ordered → new.received ≡ old.received → new.bytes_read ≡ old.bytes_read + length bytes → IsAssembler old.runs old.received old.ordered old.bytes_read → TakesSome offset most bytes old.runs new.runs → IsWithin offset bytes at → IsDone new at
done_given old new offset most at bytes n o r b a t w = done_at old new offset most at bytes old.ordered refl n o r b a t w

pub done_same_unordered : (old new : Reassembly) (at : ℕ) → old.ordered ≡ false → new.ordered ≡ old.ordered → new.received ≡ old.received → is_done new at ≡ is_done old at
done_same_unordered old new at e o r = done_unordered new at (o ∙ e) ∙ rw r (sym (done_unordered old at e))

-- what a read leaves where it gives nothing
pub same_kept : (old new : Reassembly) (offset : ℕ) → IsNext old offset → floor new ≡ floor old → KeepsFrom offset old.runs new.runs → SameHeld (Holds old) (Holds new)
unfolding Holds
same_kept old new offset n e k = record {
  keeps = λ at byte h. elim (cases_lt at offset) [
    | inl l ↦ absurd (next_lowest old offset at n l (byte, h))
    | inr l ↦ (omega arith, k.keeps at byte l h.1)
  ];
  origin = λ at byte h. (omega arith, k.origin at byte h.1);
}

none_held : (old : Reassembly) (offset : ℕ) → NoneHoldsAt offset old.runs → IsHeld (Holds old) offset → ⊥
unfolding Holds
none_held old offset n h = n h.0 h.1.1

pub none_next : (a : Reassembly) (offset : ℕ) → IsNext a offset → a.ordered ≡ true → NoneHoldsAt offset a.runs → IsHeld (Holds a) a.bytes_read → ⊥
none_next a offset n e none h = none_held a a.bytes_read (rw (n.behind e) at none) h

pub none_at_next : (old : Reassembly) (offset : ℕ) → IsNext old offset → old.ordered ≡ false → NoneHoldsAt offset old.runs → ⊥
none_at_next old offset n e none = (let b = holds_from_covers offset old.runs (n.covered e) in none b.0 b.1)

-- what a read that is refused has at hand
more_floor : (old : Reassembly) (offset at : ℕ) (mode : Bool) → old.ordered ≡ mode → IsNext old offset → offset ≤ at → floor old ≤ at
more_floor old offset at true e n l = (let f : floor old ≡ old.bytes_read = rw e refl in omega (arith, n.behind e))
more_floor old offset at false e n l = (let f : floor old ≡ 0 = rw e refl in omega arith)

pub holds_more : (old : Reassembly) (offset most : ℕ) → IsNext old offset → CoversMore offset most old.runs → HoldsMore (Holds old) old.ordered old.bytes_read most
unfolding Holds
holds_more old offset most n c = record {
  start = offset;
  behind = n.behind;
  lowest = λ at l h. next_lowest old offset at n l h;
  row = λ at l m. (let b = holds_from_covers at old.runs (c at l m) in (b.0, (more_floor old offset at old.ordered refl n l, b.1)));
}

-- the invariant after a read
apart_read : (xs ys : List PieceView) (received : List Range) (bytes_read offset most : ℕ) (bytes : List ℕ) → IsApart xs received bytes_read → TakesSome offset most bytes xs ys → IsApart ys received (bytes_read + length bytes)
apart_read xs ys received bytes_read offset most bytes a t =
    let before : ℕ → ℕ = λ at. cover_count at xs in
    let after : ℕ → ℕ = λ at. cover_count at ys in
    let given : ℕ → ℕ = λ at. bit (lies offset (offset + length bytes) at) in
    record {
      count = λ at. omega (arith, a.count at, t.taken.count at);
      read = omega (arith, a.read, tally-add (2 ^ 62) after given, tally-le (2 ^ 62) (λ at. after at + given at) before t.taken.count, tally-lies (2 ^ 62) offset (offset + length bytes) (omega arith), t.fits);
    }

pub apart_bounded : (xs : List PieceView) (received : List Range) (bytes_read : ℕ) → IsApart xs received bytes_read → bytes_read ≤ 2 ^ 62
apart_bounded xs received bytes_read a = omega (arith, a.read, tally-ones (2 ^ 62) (λ at. bit (contains received at)) (λ at. bit-le-one (contains received at)))

bounded_at : (xs ys : List PieceView) (received : List Range) (ordered mode : Bool) (bytes_read offset most : ℕ) (bytes : List ℕ) → ordered ≡ mode → IsAssembler xs received ordered bytes_read → (ordered ≡ true → offset ≡ bytes_read) → TakesSome offset most bytes xs ys → bytes_read + length bytes ≤ 2 ^ 62
bounded_at xs ys received ordered true bytes_read offset most bytes e a n t = omega (arith, n e, t.fits)
bounded_at xs ys received ordered false bytes_read offset most bytes e a n t = apart_bounded ys received (bytes_read + length bytes) (apart_read xs ys received bytes_read offset most bytes (a.apart e) t)

pub assembler_read : (xs ys : List PieceView) (received : List Range) (ordered : Bool) (bytes_read offset most : ℕ) (bytes : List ℕ) → IsAssembler xs received ordered bytes_read → (ordered ≡ true → offset ≡ bytes_read) → TakesSome offset most bytes xs ys → IsAssembler ys received ordered (bytes_read + length bytes)
assembler_read xs ys received ordered bytes_read offset most bytes a n t = record {
  bounded = bounded_at xs ys received ordered ordered bytes_read offset most bytes refl a n t;
  apart = λ e. apart_read xs ys received bytes_read offset most bytes (a.apart e) t;
}

test_below : (at n : ℕ) → at < n → bit (nat_lt at n) ≡ 1
test_below at n l = grind (arith, nat_tests)

test_not_below : (at n : ℕ) → n ≤ at → bit (nat_lt at n) ≡ 0
test_not_below at n l = grind (arith, nat_tests)

bit_of_true : (b : Bool) → b ≡ true → bit b ≡ 1
bit_of_true b e = rw e refl

-- leaving ordered mode
pub leaves_order : (old new : Reassembly) (mid : List PieceView) → old.ordered ≡ true → new.ordered ≡ false → new.bytes_read ≡ old.bytes_read → new.highest ≡ old.highest → Compacts old.runs mid → KeepsFrom old.bytes_read mid new.runs → ((at : ℕ) → at < old.bytes_read → cover_count at new.runs ≡ 0) → ((at : ℕ) → bit (contains new.received at) ≡ min 1 (bit (nat_lt at old.bytes_read) + cover_count at old.runs)) → LeavesOrder old new
unfolding Holds
leaves_order old new mid o n b h c k below rec =
    let was : floor old ≡ old.bytes_read = rw o refl in
    let is : floor new ≡ 0 = rw n refl in
    record {
      held = record {
        keeps = λ at w.
            let mid_byte = holds_from_covers at mid (any_of_count at mid (omega (arith, c.count at, (count_of_held old at w).1))) in
            (mid_byte.0, (omega arith, k.keeps at mid_byte.0 (omega (arith, (count_of_held old at w).0)) mid_byte.1));
        origin = λ at byte w. elim (cases_lt at old.bytes_read) [
          | inl l ↦ absurd (omega (arith, below at l, count_of_holds new at byte w))
          | inr l ↦ (omega arith, c.origin at byte (k.origin at byte w.1))
        ];
      };
      done = λ at. (
        (λ d. elim (cases_lt at old.bytes_read) [
          | inl l ↦ inl l
          | inr l ↦ inr (held_of_count old at (omega arith) (omega (arith, rec at, test_not_below at old.bytes_read l, bit_of_true (contains new.received at) (sym (done_unordered new at n) ∙ d))))
        ]),
        (λ w. done_unordered new at n ∙ elim w [
          | inl l ↦ true_of_bit (contains new.received at) (omega (arith, rec at, test_below at old.bytes_read l))
          | inr w' ↦ true_of_bit (contains new.received at) (omega (arith, rec at, (count_of_held old at w').1))
        ]),
      );
      ordered = n;
      bytes_read = b;
      highest = h;
    }

pub assembler_left : (xs mid ys : List PieceView) (received : List Range) (bytes_read : ℕ) → bytes_read ≤ 2 ^ 62 → Compacts xs mid → KeepsFrom bytes_read mid ys → ((at : ℕ) → at < bytes_read → cover_count at ys ≡ 0) → ((at : ℕ) → bit (contains received at) ≡ min 1 (bit (nat_lt at bytes_read) + cover_count at xs)) → IsAssembler ys received false bytes_read
assembler_left xs mid ys received bytes_read l c k below rec =
    let after : ℕ → ℕ = λ at. cover_count at ys in
    let read : ℕ → ℕ = λ at. bit (lies 0 bytes_read at) in
    let both : (at : ℕ) → read at + after at ≤ bit (contains received at) = λ at. elim (cases_lt at bytes_read) [
      | inl m ↦ omega (arith, rec at, below at m, test_below at bytes_read m, lies_in 0 bytes_read at (omega arith) m)
      | inr m ↦ omega (arith, rec at, c.count at, k.count at, lies_above 0 bytes_read at m)
    ] in
    record {
      bounded = l;
      apart = λ _. record {
        count = λ at. omega (arith, both at);
        read = omega (arith, tally-add (2 ^ 62) read after, tally-le (2 ^ 62) (λ at. read at + after at) (λ at. bit (contains received at)) both, tally-lies (2 ^ 62) 0 bytes_read (omega arith));
      };
    }

-- a compaction, refused or not
pub compact_count : (r : Result (Unit {0}) Refusal) (xs ys : List PieceView) → OnOk r (Compacts xs ys) → OnErr r (IsPermutation xs ys) → (at : ℕ) → cover_count at ys ≤ cover_count at xs
compact_count (Ok u) xs ys c p at = omega (arith, c.count at)
compact_count (Err e) xs ys c p at = omega (arith, count_permuted at xs ys p)

pub compact_offsets : (r : Result (Unit {0}) Refusal) (old new : Reassembly) → floor new ≡ floor old → OnOk r (Compacts old.runs new.runs) → OnErr r (IsPermutation old.runs new.runs) → KeepsOffsets (Holds old) (Holds new)
compact_offsets (Ok u) old new e c p = keeps_compacted old new e c
compact_offsets (Err r) old new e c p = offsets_of_same (Holds old) (Holds new) (same_permuted old new e p)

pub compact_same : (r : Result (Unit {0}) Refusal) (old new : Reassembly) → floor new ≡ floor old → OnErr r (IsPermutation old.runs new.runs) → OnErr r (SameHeld (Holds old) (Holds new))
compact_same (Ok u) old new e p = tt
compact_same (Err r) old new e p = same_permuted old new e p

-- the same at an offset, bytes and a size that are the run's
keeps_at : (old new : Reassembly) (r : PieceView) (offset : ℕ) (bytes : List ℕ) (size : ℕ) → r.offset ≡ offset → r.bytes ≡ bytes → r.allocation_size ≡ size → Keeps old new r.offset r.bytes r.allocation_size → Keeps old new offset bytes size
keeps_at old new r offset bytes size p q m k = rw (← p, ← q, ← m) k

pub keeps_pushed_at : (old new : Reassembly) (r : PieceView) (offset : ℕ) (bytes : List ℕ) (size : ℕ) → r.offset ≡ offset → r.bytes ≡ bytes → r.allocation_size ≡ size → old.ordered ≡ true → new.ordered ≡ true → new.bytes_read ≡ old.bytes_read → max offset old.bytes_read < offset + length bytes → new.highest ≡ max old.highest (offset + length bytes) → IsPermutation (cut_at old.bytes_read r ∷ old.runs) new.runs → Keeps old new offset bytes size
keeps_pushed_at old new r offset bytes size p q m o n e l h i = keeps_at old new r offset bytes size p q m (keeps_pushed old new r o n e (rw (p, q) l) (rw (p, q) h) i)

pub keeps_fresh_at : (old new : Reassembly) (r : PieceView) (offset : ℕ) (bytes : List ℕ) (size : ℕ) → r.offset ≡ offset → r.bytes ≡ bytes → r.allocation_size ≡ size → old.ordered ≡ false → new.ordered ≡ old.ordered → new.bytes_read ≡ old.bytes_read → new.highest ≡ max old.highest (offset + length bytes) → TakesFresh old.received r old.runs new.runs → ((at : ℕ) → contains new.received at ≡ (contains old.received at || lies r.offset (run_end r) at)) → Keeps old new offset bytes size
keeps_fresh_at old new r offset bytes size p q m o n e h t c = keeps_at old new r offset bytes size p q m (keeps_fresh old new r o n e (rw (p, q) h) t c)

pub assembler_fresh : (xs ys : List PieceView) (received next : List Range) (ordered : Bool) (bytes_read : ℕ) (r : PieceView) → IsAssembler xs received ordered bytes_read → ordered ≡ false → TakesFresh received r xs ys → ((at : ℕ) → contains next at ≡ (contains received at || lies r.offset (run_end r) at)) → IsAssembler ys next ordered bytes_read
assembler_fresh xs ys received next ordered bytes_read r a e t c = record { bounded = a.bounded; apart = λ _. apart_fresh xs ys received next bytes_read r (a.apart e) t c }

-- where no two runs overlap, no two bytes are held at one offset
one_byte : (xs : List PieceView) (at a b : ℕ) → cover_count at xs ≤ 1 → Any (RunHolds at a) xs → Any (RunHolds at b) xs → a ≡ b
one_byte [] at a b l p q = absurd (Any-nil (RunHolds at a) p)
one_byte (x ∷ xs) at a b l p q = elim (Any-cons (RunHolds at a) x xs p) [
  | inl c ↦ elim (Any-cons (RunHolds at b) x xs q) [
    | inl d ↦ sym c.2 ∙ d.2
    | inr d ↦ absurd (omega (arith, lies_in x.offset (run_end x) at c.0 c.1, count_of_any at xs (covers_from_holds at b xs d)))
  ]
  | inr c ↦ elim (Any-cons (RunHolds at b) x xs q) [
    | inl d ↦ absurd (omega (arith, lies_in x.offset (run_end x) at d.0 d.1, count_of_any at xs (covers_from_holds at a xs c)))
    | inr d ↦ one_byte xs at a b (omega arith) c d
  ]
]

pub compact_once : (r : Result (Unit {0}) Refusal) (xs : List PieceView) (new : Reassembly) → OnOk r (Compacts xs new.runs) → OnOk r (HoldsOnce (Holds new))
unfolding Holds
compact_once (Ok u) xs new c = λ at a b h k. one_byte new.runs at a b (omega (arith, c.count at)) h.1 k.1
compact_once (Err e) xs new c = tt

-- when compaction is due
pub wasteful_many : (s : Sums) (unread : ℕ) → 2048 < s.pieces → is_wasteful s unread ≡ true
unfolding is_wasteful
wasteful_many s unread l = grind (arith, nat_tests)

few_test : (b : Bool) (n : ℕ) → n ≤ 2048 → (nat_lt 2048 n || b) ≡ b
few_test b n l = grind (arith, nat_tests)

pub wasteful_memory : (s : Sums) (unread u t w : ℕ) → s.pieces ≤ 2048 → u ≡ used s unread → t ≡ max 32768 (u * 3 / 2) → w ≡ s.allocated - u → nat_lt t w ≡ is_wasteful s unread
unfolding is_wasteful
wasteful_memory s unread u t w l e f g = rw (f, g, e) (sym (few_test _ s.pieces l))

-- what an insert settles
pub compact_sums : (r : Result (Unit {0}) Refusal) (xs ys : List PieceView) → OnErr r (IsPermutation xs ys) → OnErr r (sums_of ys ≡ sums_of xs)
compact_sums (Ok u) xs ys p = tt
compact_sums (Err e) xs ys p = sums_permuted xs ys p

settles_same : (r : Result (Unit {0}) InsertError) (d e : Bool) (s u t : Sums) (n m : ℕ) → d ≡ e → s ≡ u → n ≡ m → Settles r d s n t → Settles r e u m t
settles_same r d e s u t n m f g h p = rw (← f, ← g, ← h) p

due_same : (s u : Sums) (h i b c : ℕ) → s ≡ u → h ≡ i → b ≡ c → is_wasteful s (h - b) ≡ is_wasteful u (i - c)
due_same s u h i b c e f g = rw (e, f, g) refl

pub settles_piece : (r : Result (Unit {0}) InsertError) (old mid new : Reassembly) (offset : ℕ) (bytes : List ℕ) (size : ℕ) → Keeps old mid offset bytes size → Settles r (is_wasteful (sums mid) (mid.highest - mid.bytes_read)) (sums mid) (covered mid.runs) (sums new) → Settles r (is_wasteful (with_piece old offset bytes size) (max old.highest (offset + length bytes) - old.bytes_read)) (with_piece old offset bytes size) (covered_with old offset bytes) (sums new)
settles_piece r old mid new offset bytes size k s = settles_same r _ _ (sums mid) (with_piece old offset bytes size) (sums new) (covered mid.runs) (covered_with old offset bytes) (due_same (sums mid) (with_piece old offset bytes size) mid.highest (max old.highest (offset + length bytes)) mid.bytes_read old.bytes_read k.sums k.highest k.bytes_read) k.sums k.covered s
