-- Lemmas on acknowledged and lost offsets.
use Rattle.std.proofs.Common.{◌≡◌, ◌∙◌, ℕ, ◌<◌, ◌≤◌, ◌⊎◌, inl, inr, true, false, ◌||◌, ◌&&◌, not, List, [], ◌∷◌, ◌++◌, max, min, nat_lt, refl, arith, Option, Some, None}
use Rattle.std.proofs.lemmas.Bool.{cases_lt, both_ways}
use Rattle.std.specs.Option.{IfSome, IfNone}
use Rattle.std.proofs.lemmas.Bool.Decides.{nat_tests}
use Rattle.std.specs.declared.ops.Range.{Range}
use Rattle.quic_ranges.specs.Runs.{Run, contains, lies_in, is_in, IsRunOf}
use Rattle.quic_sending.specs.Ranges.{IsLowestRun}
use Rattle.quic_sending.specs.Outcomes.{run_of, minus_run, minus, is_answered, IsLowestOrNone, IsGap}

contains-append : (xs ys : List Run) (n : ℕ) → contains (xs ++ ys) n ≡ (contains xs n || contains ys n)
contains-append [] ys n = refl
contains-append (x ∷ xs) ys n = let e = contains-append xs ys n in grind (arith, nat_tests)

contains-run_of : (a b n : ℕ) → contains (run_of a b) n ≡ is_in (a, b) n
contains-run_of a b n = by (cases_lt a b)
  where
    by : (a < b) ⊎ (b ≤ a) → contains (run_of a b) n ≡ is_in (a, b) n
    by (inl some) = grind (arith, nat_tests)
    by (inr none) = grind (arith, nat_tests)

contains-minus_run : (s : List Run) (q : Run) (n : ℕ) → contains (minus_run s q) n ≡ (contains s n && not (is_in q n))
contains-minus_run [] q n = refl
contains-minus_run (r ∷ rs) q n =
    let rest = contains-minus_run rs q n in
    let both = contains-append (run_of r.0 (min r.1 q.0)) (run_of (max r.0 q.1) r.1 ++ minus_run rs q) n in
    let right = contains-append (run_of (max r.0 q.1) r.1) (minus_run rs q) n in
    let low = contains-run_of r.0 (min r.1 q.0) n in
    let high = contains-run_of (max r.0 q.1) r.1 n in
    grind (arith, nat_tests)

pub contains-minus : (s qs : List Run) (n : ℕ) → contains (minus s qs) n ≡ (contains s n && not (contains qs n))
contains-minus s [] n = grind (arith, nat_tests)
contains-minus s (q ∷ qs) n =
    let one = contains-minus_run s q n in
    let rest = contains-minus (minus_run s q) qs n in
    grind (arith, nat_tests)

-- an offset is lost that was called so and is not acknowledged
pub is_lost-at : (called later : List Run) (prefix n : ℕ) → contains (minus called ((0, prefix) ∷ later)) n ≡ (contains called n && not (is_answered prefix later n))
is_lost-at called later prefix n = let e = contains-minus called ((0, prefix) ∷ later) n in grind (arith, nat_tests)

-- the lowest part of the lowest run that is not acknowledged
pub IsLowest-gap : (called later : List Run) (prefix : ℕ) (run range gap : Range ℕ) → IsRunOf called run → ((n : ℕ) → n < run.start → contains called n ≡ false) → range.start ≡ max run.start prefix → range.end ≡ run.end → IsGap later range gap → gap.start < gap.end → IsLowestOrNone (minus called ((0, prefix) ∷ later)) gap
IsLowest-gap called later prefix run range gap is lowest from to in_gap some =
    record {
      run = λ s. record {
        run = record {
          some = some;
          inside = λ n l h. inside n l h;
          end = end;
        };
        lowest = λ n l. low n l;
      };
      none = λ none. absurd (omega arith);
    }
  where
    starts : range.start ≤ gap.start
    starts = in_gap.from

    ends : gap.end ≤ range.end
    ends = in_gap.to

    inside : (n : ℕ) → gap.start ≤ n → n < gap.end → contains (minus called ((0, prefix) ∷ later)) n ≡ true
    inside n l h =
        let s = starts in
        let e = ends in
        let at = is_lost-at called later prefix n in
        let out = in_gap.outside n l h in
        let in_run = is.inside n in
        grind (arith, nat_tests)

    end : contains (minus called ((0, prefix) ∷ later)) gap.end ≡ false
    end =
        let e = ends in
        let at = is_lost-at called later prefix gap.end in
        let free = in_gap.ends some in
        let past = is.end in
        grind (arith, nat_tests)

    low : (n : ℕ) → n < gap.start → contains (minus called ((0, prefix) ∷ later)) n ≡ false
    low n l =
        let s = starts in
        let e = ends in
        let at = is_lost-at called later prefix n in
        let under = lowest n in
        let between = in_gap.before n in
        grind (arith, nat_tests)

-- a run of which nothing is lost goes
pub minus-pop : (called rest later : List Run) (prefix : ℕ) (run popped range gap : Range ℕ) → IsRunOf called run → ((n : ℕ) → n < run.start → contains called n ≡ false) → IsRunOf called popped → ((n : ℕ) → n < popped.start → contains called n ≡ false) → ((n : ℕ) → contains rest n ≡ (contains called n && not (lies_in popped n))) → range.start ≡ max run.start prefix → range.end ≡ run.end → IsGap later range gap → gap.end ≤ gap.start → ((n : ℕ) → n < run.end → contains rest n ≡ false) × ((n : ℕ) → contains (minus rest ((0, prefix) ∷ later)) n ≡ contains (minus called ((0, prefix) ∷ later)) n)
minus-pop called rest later prefix run popped range gap is lowest one first others from to in_gap none = (λ n l. below n l, λ n. same n)
  where
    starts : popped.start ≡ run.start
    starts =
        let a = is.inside run.start in
        let b = one.inside popped.start in
        let s = is.some in
        let t = one.some in
        let low = lowest popped.start in
        let high = first run.start in
        grind (arith, nat_tests)

    ends : popped.end ≡ run.end
    ends =
        let e = starts in
        let a = is.inside popped.end in
        let b = one.inside run.end in
        let s = is.some in
        let t = one.some in
        let p = is.end in
        let q = one.end in
        grind (arith, nat_tests)

    below : (n : ℕ) → n < run.end → contains rest n ≡ false
    below n l =
        let s = starts in
        let e = ends in
        let low = lowest n in
        let left = others n in
        grind (arith, nat_tests)

    same : (n : ℕ) → contains (minus rest ((0, prefix) ∷ later)) n ≡ contains (minus called ((0, prefix) ∷ later)) n
    same n =
        let s = starts in
        let e = ends in
        let left = others n in
        let new = is_lost-at rest later prefix n in
        let old = is_lost-at called later prefix n in
        let covered = in_gap.before n in
        let whole = in_gap.full none in
        grind (arith, nat_tests)

-- where nothing was called lost, nothing is
pub IsLowest-none : (called later : List Run) (prefix reached : ℕ) → ((n : ℕ) → n < reached → contains called n ≡ false) → ((n : ℕ) → reached ≤ n → contains called n ≡ false) → IsLowestOrNone (minus called ((0, prefix) ∷ later)) (record { start = 0; end = 0 })
IsLowest-none called later prefix reached below above = record { run = λ s. absurd (omega arith); none = λ e n. at n }
  where
    at : (n : ℕ) → contains (minus called ((0, prefix) ∷ later)) n ≡ false
    at n =
        let is = is_lost-at called later prefix n in
        let low = below n in
        let high = above n in
        by (cases_lt n reached)
      where
        by : (n < reached) ⊎ (reached ≤ n) → contains (minus called ((0, prefix) ∷ later)) n ≡ false
        by (inl l) = let is = is_lost-at called later prefix n in let e = below n l in grind (arith, nat_tests)
        by (inr g) = let is = is_lost-at called later prefix n in let e = above n g in grind (arith, nat_tests)

-- the lowest run stays where the numbers that go are not of it
pub IsLowest-kept : (s s' : List Run) (run range : Range ℕ) → IsLowestOrNone s run → ((n : ℕ) → contains s' n ≡ (contains s n && not (lies_in range n))) → (run.end ≤ range.start) ⊎ (range.end ≤ run.start) → IsLowestOrNone s' run
IsLowest-kept s s' run range is new apart =
    record {
      run = λ some. record {
        run = record { some = some; inside = λ n l h. inside n l h some; end = end some };
        lowest = λ n l. low n l some;
      };
      none = λ e n. let at = new n in let old = is.none e n in grind (arith, nat_tests);
    }
  where
    inside : (n : ℕ) → run.start ≤ n → n < run.end → run.start < run.end → contains s' n ≡ true
    inside n l h some = let at = new n in let old = (is.run some).run.inside n l h in grind (arith, nat_tests)

    end : run.start < run.end → contains s' run.end ≡ false
    end some = let at = new run.end in let old = (is.run some).run.end in grind (arith, nat_tests)

    low : (n : ℕ) → n < run.start → run.start < run.end → contains s' n ≡ false
    low n l some = let at = new n in let old = (is.run some).lowest n l in grind (arith, nat_tests)

-- a range that ends by the prefix has nothing that is lost
pub minus-below : (called later : List Run) (prefix : ℕ) (range : Range ℕ) → range.end ≤ max range.start prefix → (n : ℕ) → contains (minus called ((0, prefix) ∷ later)) n ≡ (contains (minus called ((0, prefix) ∷ later)) n && not (lies_in range n))
minus-below called later prefix range ends n = let at = is_lost-at called later prefix n in grind (arith, nat_tests)

-- the offsets of a range are acknowledged
pub minus-ack : (called later later' : List Run) (prefix prefix' start : ℕ) (range : Range ℕ) → start ≡ max range.start prefix → ((n : ℕ) → is_answered prefix' later' n ≡ (is_answered prefix later n || is_in (start, range.end) n)) → (n : ℕ) → contains (minus called ((0, prefix') ∷ later')) n ≡ (contains (minus called ((0, prefix) ∷ later)) n && not (lies_in range n))
minus-ack called later later' prefix prefix' start range from acked n =
    let old = is_lost-at called later prefix n in
    let new = is_lost-at called later' prefix' n in
    let at = acked n in
    grind (arith, nat_tests)

-- the offsets of a range are called lost
pub minus-lose : (called called' later : List Run) (prefix start : ℕ) (range : Range ℕ) → start ≡ max range.start prefix → ((n : ℕ) → contains called' n ≡ (contains called n || is_in (start, range.end) n)) → (n : ℕ) → contains (minus called' ((0, prefix) ∷ later)) n ≡ (contains (minus called ((0, prefix) ∷ later)) n || (lies_in range n && not (is_answered prefix later n)))
minus-lose called called' later prefix start range from lost n =
    let old = is_lost-at called later prefix n in
    let new = is_lost-at called' later prefix n in
    let at = lost n in
    grind (arith, nat_tests)

-- a front of the lowest lost run is sent again
pub minus-resend : (called called' later : List Run) (prefix limit : ℕ) (range : Range ℕ) → IsLowestRun (minus called ((0, prefix) ∷ later)) range.start limit → ((n : ℕ) → contains called' n ≡ (contains called n && not (nat_lt n range.end))) → (n : ℕ) → contains (minus called' ((0, prefix) ∷ later)) n ≡ (contains (minus called ((0, prefix) ∷ later)) n && not (lies_in range n))
minus-resend called called' later prefix limit range lowest lost n =
    let old = is_lost-at called later prefix n in
    let new = is_lost-at called' later prefix n in
    let at = lost n in
    let low = lowest.lowest n in
    grind (arith, nat_tests)

-- of nothing, nothing is left
pub minus-nothing : (qs : List Run) → minus [] qs ≡ []
minus-nothing [] = refl
minus-nothing (q ∷ qs) = minus-nothing qs

-- the same of what `pop_min` answers, which is no run only where there is none
pub minus-pop_min : (o : Option (Range ℕ)) (called rest later : List Run) (prefix : ℕ) (run range gap : Range ℕ) → IsRunOf called run → ((n : ℕ) → n < run.start → contains called n ≡ false) → IfSome o (λ popped. IsRunOf called popped) → IfSome o (λ popped. (n : ℕ) → n < popped.start → contains called n ≡ false) → IfSome o (λ popped. (n : ℕ) → contains rest n ≡ (contains called n && not (lies_in popped n))) → IfNone o ((n : ℕ) → contains called n ≡ false) → range.start ≡ max run.start prefix → range.end ≡ run.end → IsGap later range gap → gap.end ≤ gap.start → ((n : ℕ) → n < run.end → contains rest n ≡ false) × ((n : ℕ) → contains (minus rest ((0, prefix) ∷ later)) n ≡ contains (minus called ((0, prefix) ∷ later)) n)
minus-pop_min None called rest later prefix run range gap is lowest one first others none from to in_gap empty = absurd (both_ways _ (none run.start) (is.inside run.start (omega arith) is.some))
minus-pop_min (Some popped) called rest later prefix run range gap is lowest one first others none from to in_gap empty = minus-pop called rest later prefix run popped range gap is lowest one first others from to in_gap empty

-- the lowest run stays where the numbers that come lie behind its end
pub IsLowest-grown : (s s' : List Run) (run : Range ℕ) (start : ℕ) → IsLowestOrNone s run → run.start < run.end → run.end < start → ((n : ℕ) → n < start → contains s' n ≡ contains s n) → IsLowestOrNone s' run
IsLowest-grown s s' run start is some behind same =
    record {
      run = λ _. record {
        run = record { some = some; inside = λ n l h. inside n l h; end = end };
        lowest = λ n l. low n l;
      };
      none = λ none. absurd (omega arith);
    }
  where
    inside : (n : ℕ) → run.start ≤ n → n < run.end → contains s' n ≡ true
    inside n l h = same n (omega arith) ∙ (is.run some).run.inside n l h

    end : contains s' run.end ≡ false
    end = same run.end behind ∙ (is.run some).run.end

    low : (n : ℕ) → n < run.start → contains s' n ≡ false
    low n l = same n (omega arith) ∙ (is.run some).lowest n l

-- what is called lost from `start` on changes nothing below
pub minus-same : (called called' later : List Run) (prefix start end : ℕ) → ((n : ℕ) → contains called' n ≡ (contains called n || is_in (start, end) n)) → (n : ℕ) → n < start → contains (minus called' ((0, prefix) ∷ later)) n ≡ contains (minus called ((0, prefix) ∷ later)) n
minus-same called called' later prefix start end lost n l =
    let old = is_lost-at called later prefix n in
    let new = is_lost-at called' later prefix n in
    let at = lost n in
    grind (arith, nat_tests)

-- of the lowest run a part is left where less of it goes
pub IsLowest-cut : (s s' : List Run) (run range : Range ℕ) (limit : ℕ) → IsLowestOrNone s run → IsLowestRun s range.start limit → run.start < range.end → range.end < run.end → ((n : ℕ) → contains s' n ≡ (contains s n && not (lies_in range n))) → IsLowestOrNone s' (record { start = range.end; end = run.end })
IsLowest-cut s s' run range limit is front some less new =
    record {
      run = λ _. record {
        run = record { some = less; inside = λ n l h. inside n l h; end = end };
        lowest = λ n l. low n l;
      };
      none = λ none. absurd (omega arith);
    }
  where
    lowest : IsLowestRun s run.start run.end
    lowest = is.run (omega arith)

    starts : range.start ≤ run.start
    starts =
        let at = lowest.run.inside run.start in
        let under = front.lowest run.start in
        grind (arith, nat_tests)

    inside : (n : ℕ) → range.end ≤ n → n < run.end → contains s' n ≡ true
    inside n l h = let at = new n in let old = lowest.run.inside n (omega arith) h in grind (arith, nat_tests)

    end : contains s' run.end ≡ false
    end = let at = new run.end in let old = lowest.run.end in grind (arith, nat_tests)

    low : (n : ℕ) → n < range.end → contains s' n ≡ false
    low n l = let b = starts in let at = new n in let old = lowest.lowest n in grind (arith, nat_tests)
