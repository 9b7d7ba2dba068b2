-- Taking the numbers from a up to b out of a set.
use Rattle.std.proofs.Common.{◌≡◌, ℕ, ◌+◌, ◌-◌, ◌<◌, ◌≤◌, Bool, true, false, not, ◌&&◌, ◌||◌, ltb, List, [], ◌∷◌, Option, Some, None, refl, sym, ap, ◌∙◌, inl, inr, arith}
use Rattle.std.specs.Prelude.{MatchOption, IfSome, IfNone}
use Rattle.std.specs.BTreeMap.{insert_entry}
use Rattle.std.specs.Ordering.{nat_cmp}
use Rattle.std.proofs.lemmas.Bool.{cases_lt, lt-ltb, le-ltb}
use Rattle.std.proofs.lemmas.Bool.Decides.{nat_tests}
use Rattle.quic_ranges.specs.Runs.{Run, is_in, contains, AreRuns, end_at, NoneBegins, IsLast, without, with_right, cut, EndUpTo}
use Rattle.quic_ranges.proofs.Entries.{some_later, end_at-bounds, end_at-here, contains_below, contains_none, is_in_out, NoneBegins-later, without_keeps, without_drops, without-none, later_some, insert_before, insert_at, insert_after, AreRuns_raise}
use Rattle.quic_ranges.proofs.Order.{is_in_true, is_in_bounds}

-- the runs, where nothing is kept on the left
abbrev right_of : List Run → ℕ → ℕ → ℕ → List Run
right_of rs a b e = without (with_right rs b e) a (b - 1)

and_true : (t : Bool) → t ≡ (t && true)
and_true true = refl
and_true false = refl

and_false : (t : Bool) → false ≡ (t && false)
and_false true = refl
and_false false = refl

pub zones : (a b n : ℕ) (x y : Bool) → (n < a → x ≡ y) → (a ≤ n → n < b → x ≡ false) → (b ≤ n → x ≡ y) → x ≡ (y && not (is_in (a, b) n))
zones a b n x y low within high =
    elim (cases_lt n a) [
      | inl lt ↦ rw (is_in_out (a, b) n (λ p q. omega arith)) (low lt ∙ and_true y)
      | inr ge ↦ elim (cases_lt n b) [
        | inl lt ↦ rw (is_in_true (a, b) n ge lt) (within ge lt ∙ and_false y)
        | inr le ↦ rw (is_in_out (a, b) n (λ p q. omega arith)) (high le ∙ and_true y)
      ]
    ]

insert_first : (low b e : ℕ) (rs : List Run) → AreRuns low rs → b < low → insert_entry nat_cmp rs b e ≡ (b, e) ∷ rs
insert_first low b e [] runs lt = refl
insert_first low b e (r ∷ rs) runs lt = insert_before b e r rs (omega arith)

right_after : (b e : ℕ) (r : Run) (rs : List Run) → r.0 < b → with_right (r ∷ rs) b e ≡ r ∷ with_right rs b e
right_after b e r rs lt =
    elim (cases_lt b e) [
      | inl more ↦ rw (lt-ltb b e more) (insert_after b e r rs lt)
      | inr less ↦ rw (le-ltb b e less) refl
    ]

none_low : (low q : ℕ) (rs : List Run) → AreRuns low rs → q < low → end_at rs q ≡ None
none_low low q rs runs lt = by (end_at rs q) refl
  where
    by : (o : Option ℕ) → end_at rs q ≡ o → o ≡ None
    by None e = refl
    by (Some v) e = let h = end_at-bounds low q v rs runs e in absurd (omega arith)

NoneBegins_wide : (low from to mid : ℕ) (rs : List Run) → AreRuns low rs → NoneBegins rs mid to → mid ≤ low → NoneBegins rs from to
NoneBegins_wide low from to mid rs runs none le q p t = elim (cases_lt q low) [ inl lt ↦ none_low low q rs runs lt | inr ge ↦ none q (omega arith) t ]

-- what is left of the last run that begins before b, and of those after it
record RightPart (a b e : ℕ) (rs : List Run) : Type 0 where
  runs : (low : ℕ) → low ≤ b → low ≤ e + 1 → AreRuns low (right_of rs a b e)
  below : (n : ℕ) → n < b → contains (right_of rs a b e) n ≡ false
  above : (n : ℕ) → b ≤ n → contains (right_of rs a b e) n ≡ (ltb n e || contains rs n)

first_true : (b e n : ℕ) (x : Bool) → b ≤ n → (is_in (b, e) n || x) ≡ (ltb n e || x)
first_true b e n x le = grind (arith, nat_tests)

right_part : (a b e : ℕ) (rs : List Run) → a < b → AreRuns (e + 1) rs → NoneBegins rs (e + 1) (b - 1) → RightPart a b e rs
right_part a b e rs some runs none =
    let keeps : without rs a (b - 1) ≡ rs = without-none rs a (b - 1) (NoneBegins_wide (e + 1) a (b - 1) (e + 1) rs runs none (omega arith)) in
    elim (cases_lt b e) [
      | inl more ↦
          let is : right_of rs a b e ≡ (b, e) ∷ rs =
          rw (lt-ltb b e more, insert_first (e + 1) b e rs runs (omega arith)) (without_keeps (b, e) rs a (b - 1) (λ p q. omega arith) ∙ ap (λ (t : List Run). (b, e) ∷ t) keeps) in
          record {
            runs = λ low p q. rw is (p, more, runs);
            below = λ n lt. rw is (rw (is_in_out (b, e) n (λ p q. omega arith)) (contains_below (e + 1) n rs runs (omega arith)));
            above = λ n le. rw is (first_true b e n (contains rs n) le);
          }
      | inr less ↦
          let is : right_of rs a b e ≡ rs = rw (le-ltb b e less) keeps in
          record {
            runs = λ low p q. rw is (AreRuns_raise (e + 1) low rs runs q);
            below = λ n lt. rw is (contains_none (e + 1) n rs runs (λ q p t. none q p (omega arith)));
            above = λ n le. rw is (rw (le-ltb n e (omega arith)) refl);
          }
    ]

pub record Cut (low a b : ℕ) (old new : List Run) : Type 0 where
  pub runs : AreRuns low new
  pub set : (n : ℕ) → contains new n ≡ (contains old n && not (is_in (a, b) n))

same_or : (s e n : ℕ) (x : Bool) → s ≤ n → (ltb n e || x) ≡ (is_in (s, e) n || x)
same_or s e n x le = grind (arith, nat_tests)

covered : (p q x : Bool) → (p ≡ true → q ≡ true) → (x && not q) ≡ ((p || x) && not q)
covered false q x f = refl
covered true q x f = rw (f refl) (both x)
  where
    both : (t : Bool) → (t && false) ≡ false
    both true = refl
    both false = refl

-- the first run begins at a or after it
cut_right : (low a b s e : ℕ) (rs : List Run) → AreRuns low rs → a ≤ low → a < b → IsLast rs s e (b - 1) → Cut low a b rs (right_of rs a b e)
cut_right low a b s e [] runs le some last = absurd (let h = last.found in cc)
cut_right low a b s e (r ∷ rs) runs le some last =
    elim (some_later r rs s e last.found) [
      | inl here ↦
          let up = last.up_to in
          let after : AreRuns (e + 1) rs = rw here.1 runs.2 in
          let part = right_part a b e rs some after (λ q p t. NoneBegins-later r rs (s + 1) (b - 1) last.last q (omega arith) t) in
          let is : right_of (r ∷ rs) a b e ≡ right_of rs a b e = rw (right_after b e r rs (omega arith)) (without_drops r (with_right rs b e) a (b - 1) (omega arith) (omega arith)) in
          record {
            runs = rw is (part.runs low (omega arith) (omega arith));
            set = λ n. rw is (zones a b n (contains (right_of rs a b e) n) (contains (r ∷ rs) n)
                (λ lt. part.below n (omega arith) ∙ sym (contains_below low n (r ∷ rs) runs (omega arith)))
                (λ ge lt. part.below n lt)
                (λ ge. part.above n ge ∙ rw here.1 (same_or r.0 r.1 n (contains rs n) (omega arith))));
          }
      | inr there ↦
          let up = last.up_to in
          let at = end_at-bounds (r.1 + 1) s e rs runs.2 there.1 in
          let rest = cut_right (r.1 + 1) a b s e rs runs.2 (omega arith) some (record { found = there.1; up_to = last.up_to; last = NoneBegins-later r rs (s + 1) (b - 1) last.last }) in
          let is : right_of (r ∷ rs) a b e ≡ right_of rs a b e = rw (right_after b e r rs (omega arith)) (without_drops r (with_right rs b e) a (b - 1) (omega arith) (omega arith)) in
          record {
            runs = rw is (AreRuns_raise (r.1 + 1) low (right_of rs a b e) rest.runs (omega arith));
            set = λ n. rw is (rest.set n ∙ covered (is_in r n) (is_in (a, b) n) (contains rs n) (λ h. let w = is_in_bounds r n h in is_in_true (a, b) n (omega arith) (omega arith)));
          }
    ]

-- the run that begins before a and goes on behind it, if there is one
abbrev pub IsLeft : List Run → ℕ → Option ℕ → Type 0
IsLeft rs a left = MatchOption left (EndUpTo rs a) (λ l. (v : ℕ) × (end_at rs l ≡ Some v) × (l < a) × (a < v))

EndUpTo-later : (low : ℕ) (r : Run) (rs : List Run) (a : ℕ) → AreRuns low (r ∷ rs) → EndUpTo (r ∷ rs) a → EndUpTo rs a
EndUpTo-later low r rs a runs h k v e lt = h k v (later_some low r rs k v runs e) lt

left_after : (low a e : ℕ) (r : Run) (rs : List Run) (b : ℕ) (left : Option ℕ) → AreRuns low (r ∷ rs) → r.1 ≤ a → a < b → IsLeft (r ∷ rs) a left
    → IsLeft rs a left × (cut (r ∷ rs) left a b e ≡ r ∷ cut rs left a b e)
left_after low a e r rs b None runs le some h =
    (EndUpTo-later low r rs a runs h, rw (right_after b e r rs (omega arith)) (without_keeps r (with_right rs b e) a (b - 1) (λ p q. omega arith)))
left_after low a e r rs b (Some l) runs le some h =
    elim (some_later r rs l h.0 h.1) [
      | inl here ↦ absurd (omega arith)
      | inr there ↦
          let at = end_at-bounds (r.1 + 1) l h.0 rs runs.2 there.1 in
          ((h.0, there.1, h.2, h.3), rw (right_after b e r rs (omega arith), insert_after l a r (with_right rs b e) (omega arith)) (without_keeps r (insert_entry nat_cmp (with_right rs b e) l a) a (b - 1) (λ p q. omega arith)))
    ]

left_here : (low a e : ℕ) (r : Run) (rs : List Run) (b : ℕ) (left : Option ℕ) → AreRuns low (r ∷ rs) → r.0 < a → a < r.1 → a < b → IsLeft (r ∷ rs) a left
    → cut (r ∷ rs) left a b e ≡ (r.0, a) ∷ right_of rs a b e
left_here low a e r rs b None runs from to some h = absurd (let u = h r.0 r.1 (end_at-here r rs r.0 refl) from in omega arith)
left_here low a e r rs b (Some l) runs from to some h =
    elim (some_later r rs l h.0 h.1) [
      | inl here ↦ rw (right_after b e r rs (omega arith), insert_at l a r (with_right rs b e) here.0) (without_keeps (r.0, a) (with_right rs b e) a (b - 1) (λ p q. omega arith))
      | inr there ↦ let at = end_at-bounds (r.1 + 1) l h.0 rs runs.2 there.1 in absurd (omega arith)
    ]

left_none : (low a e : ℕ) (rs : List Run) (b : ℕ) (left : Option ℕ) → AreRuns low rs → a ≤ low → IsLeft rs a left → cut rs left a b e ≡ right_of rs a b e
left_none low a e rs b None runs le h = refl
left_none low a e rs b (Some l) runs le h = let at = end_at-bounds low l h.0 rs runs h.1 in absurd (omega arith)

keep_front : (p q x y : Bool) → (p ≡ true → q ≡ false) → x ≡ (y && not q) → (p || x) ≡ ((p || y) && not q)
keep_front false q x y f e = e
keep_front true q x y f e = rw (f refl) refl

front_false : (t x y : Bool) → t ≡ false → x ≡ y → (t || x) ≡ y
front_false t x y e f = rw e f

-- a number before a is in the first run, or it is not
front_low : (r : Run) (a n : ℕ) (x y : Bool) → a < r.1 → n < a → x ≡ y → (is_in (r.0, a) n || x) ≡ (is_in r n || y)
front_low r a n x y lt below e = rw e (grind (arith, nat_tests))

pub cuts : (low a b s e : ℕ) (rs : List Run) (left : Option ℕ) → AreRuns low rs → a < b → a < e → IsLast rs s e (b - 1) → IsLeft rs a left → Cut low a b rs (cut rs left a b e)
cuts low a b s e [] left runs some more last h = absurd (let f = last.found in cc)
cuts low a b s e (r ∷ rs) left runs some more last h =
    let up = last.up_to in
    elim (cases_lt r.0 a) [
      | inr ge ↦
          let is = left_none r.0 a e (r ∷ rs) b left (omega arith, runs.1, runs.2) ge h in
          let c = cut_right r.0 a b s e (r ∷ rs) (omega arith, runs.1, runs.2) ge some last in
          record { runs = rw is (AreRuns_raise r.0 low (right_of (r ∷ rs) a b e) c.runs runs.0); set = λ n. rw is (c.set n) }
      | inl lt ↦ elim (cases_lt a r.1) [
        | inl over ↦
            let is = left_here low a e r rs b left runs lt over some h in
            elim (some_later r rs s e last.found) [
              | inl here ↦
                  let after : AreRuns (e + 1) rs = rw here.1 runs.2 in
                  let part = right_part a b e rs some after (λ q p t. NoneBegins-later r rs (s + 1) (b - 1) last.last q (omega arith) t) in
                  record {
                    runs = rw is (runs.0, lt, part.runs (a + 1) (omega arith) (omega arith));
                    set = λ n. rw is (zones a b n (is_in (r.0, a) n || contains (right_of rs a b e) n) (is_in r n || contains rs n)
                        (λ below. front_low r a n _ _ over below (part.below n (omega arith) ∙ sym (contains_below (r.1 + 1) n rs runs.2 (omega arith))))
                        (λ from to. front_false _ _ _ (is_in_out (r.0, a) n (λ p q. omega arith)) (part.below n to))
                        (λ beyond. front_false _ _ _ (is_in_out (r.0, a) n (λ p q. omega arith)) (part.above n beyond ∙ rw here.1 (same_or r.0 r.1 n (contains rs n) (omega arith)))));
                  }
              | inr there ↦
                  let rest = cut_right (r.1 + 1) a b s e rs runs.2 (omega arith) some (record { found = there.1; up_to = up; last = NoneBegins-later r rs (s + 1) (b - 1) last.last }) in
                  let at = end_at-bounds (r.1 + 1) s e rs runs.2 there.1 in
                  record {
                    runs = rw is (runs.0, lt, AreRuns_raise (r.1 + 1) (a + 1) (right_of rs a b e) rest.runs (omega arith));
                    set = λ n. rw is (zones a b n (is_in (r.0, a) n || contains (right_of rs a b e) n) (is_in r n || contains rs n)
                        (λ below. front_low r a n _ _ over below (rest.set n ∙ rw (contains_below (r.1 + 1) n rs runs.2 (omega arith)) refl))
                        (λ from to. front_false _ _ _ (is_in_out (r.0, a) n (λ p q. omega arith)) (rest.set n ∙ rw (is_in_true (a, b) n from to) (sym (and_false (contains rs n)))))
                        (λ beyond. front_false _ _ _ (is_in_out (r.0, a) n (λ p q. omega arith))
                        (rest.set n ∙ rw (is_in_out (a, b) n (λ p q. omega arith), is_in_out r n (λ p q. omega arith)) (sym (and_true (contains rs n))))));
                  }
            ]
        | inr before ↦
            elim (some_later r rs s e last.found) [
              | inl here ↦ absurd (omega arith)
              | inr there ↦
                  let g = left_after low a e r rs b left runs before some h in
                  let rest = cuts (r.1 + 1) a b s e rs left runs.2 some more (record { found = there.1; up_to = up; last = NoneBegins-later r rs (s + 1) (b - 1) last.last }) g.0 in
                  record {
                    runs = rw g.1 (runs.0, runs.1, rest.runs);
                    set = λ n. rw g.1 (keep_front (is_in r n) (is_in (a, b) n) _ (contains rs n) (λ q. let w = is_in_bounds r n q in is_in_out (a, b) n (λ x y. omega arith)) (rest.set n));
                  }
            ]
      ]
    ]

pub is_left : (rs : List Run) (a : ℕ) (left : Option ℕ) → IfSome left (λ l. (v : ℕ) × (end_at rs l ≡ Some v) × (l < a) × (a < v)) → IfNone left (EndUpTo rs a) → IsLeft rs a left
is_left rs a None some none = none
is_left rs a (Some l) some none = some

pub removes_nothing : (rs : List Run) (a b n : ℕ) → ((k : ℕ) → a ≤ k → k < b → contains rs k ≡ false) → contains rs n ≡ (contains rs n && not (is_in (a, b) n))
removes_nothing rs a b n none = zones a b n (contains rs n) (contains rs n) (λ lt. refl) (none n) (λ ge. refl)

pub taken_out : (low : ℕ) (r : Run) (rs : List Run) (n : ℕ) → AreRuns low (r ∷ rs) → contains rs n ≡ (contains (r ∷ rs) n && not (is_in r n))
taken_out low r rs n runs =
    zones r.0 r.1 n (contains rs n) (contains (r ∷ rs) n)
    (λ lt. rw (is_in_out r n (λ p q. omega arith)) refl)
    (λ from to. contains_below (r.1 + 1) n rs runs.2 (omega arith))
    (λ ge. rw (is_in_out r n (λ p q. omega arith)) refl)
