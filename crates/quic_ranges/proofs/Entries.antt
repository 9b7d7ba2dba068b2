-- What a change of the map does to the list of its runs.
use Rattle.std.proofs.Common.{◌≡◌, ℕ, ◌+◌, ◌<◌, ◌≤◌, Bool, true, false, ◌||◌, ◌⊎◌, ltb, List, [], ◌∷◌, Some, None, refl, sym, ap, ◌∙◌, inl, inr, ⊎_elim, arith}
use Rattle.std.specs.BTreeMap.{is_at, insert_entry}
use Rattle.std.specs.Ordering.{nat_cmp}
use Rattle.std.proofs.lemmas.Bool.{cases_eq, cases_lt, cases_order}
use Rattle.std.proofs.lemmas.Bool.Decides.{nat_tests}
use Rattle.quic_ranges.specs.Runs.{Run, is_in, contains, AreRuns, without, end_at, EndBy, EndBefore, NoneBegins}

is_at-same : (k q : ℕ) → k ≡ q → is_at (nat_cmp k) q ≡ true
is_at-same k q e = grind (arith, nat_tests)

is_at-apart : (k q : ℕ) → (k ≡ q → ⊥) → is_at (nat_cmp k) q ≡ false
is_at-apart k q ne = grind (arith, nat_tests)

pub end_at-here : (r : Run) (rs : List Run) (q : ℕ) → q ≡ r.0 → end_at (r ∷ rs) q ≡ Some r.1
end_at-here r rs q e = rw (is_at-same q r.0 e) refl

pub end_at-later : (r : Run) (rs : List Run) (q : ℕ) → (q ≡ r.0 → ⊥) → end_at (r ∷ rs) q ≡ end_at rs q
end_at-later r rs q ne = rw (is_at-apart q r.0 ne) refl

-- ---- the runs that are left

pub none_later : (r : Run) (rs : List Run) (q : ℕ) → end_at (r ∷ rs) q ≡ None → (end_at rs q ≡ None) × (q ≡ r.0 → ⊥)
none_later r rs q e =
    ⊎_elim (λ same. absurd (let h = sym (end_at-here r rs q same) ∙ e in cc)) (λ apart. (sym (end_at-later r rs q apart) ∙ e, apart)) (cases_eq q r.0)

pub NoneBegins-later : (r : Run) (rs : List Run) (from to : ℕ) → NoneBegins (r ∷ rs) from to → NoneBegins rs from to
NoneBegins-later r rs from to none q low high = (none_later r rs q (none q low high)).0

pub NoneBegins-head : (r : Run) (rs : List Run) (from to : ℕ) → NoneBegins (r ∷ rs) from to → from ≤ r.0 → r.0 ≤ to → ⊥
NoneBegins-head r rs from to none low high = (none_later r rs r.0 (none r.0 low high)).1 refl

pub without_keeps : (r : Run) (rs : List Run) (from to : ℕ) → (from ≤ r.0 → r.0 ≤ to → ⊥) → without (r ∷ rs) from to ≡ r ∷ without rs from to
without_keeps r rs from to out = grind (arith, nat_tests)

pub without-none : (rs : List Run) (from to : ℕ) → NoneBegins rs from to → without rs from to ≡ rs
without-none [] from to none = refl
without-none (r ∷ rs) from to none =
    without_keeps r rs from to (NoneBegins-head r rs from to none) ∙ ap (λ (t : List Run). r ∷ t) (without-none rs from to (NoneBegins-later r rs from to none))

-- ---- what a set contains

pub is_in_out : (r : Run) (n : ℕ) → (r.0 ≤ n → n < r.1 → ⊥) → is_in r n ≡ false
is_in_out r n out = grind (arith, nat_tests)

pub contains_below : (low n : ℕ) (rs : List Run) → AreRuns low rs → n < low → contains rs n ≡ false
contains_below low n [] runs lt = refl
contains_below low n (r ∷ rs) runs lt = rw (is_in_out r n (λ p q. omega arith), contains_below (r.1 + 1) n rs runs.2 (omega arith)) refl

pub contains_none : (low n : ℕ) (rs : List Run) → AreRuns low rs → NoneBegins rs low n → contains rs n ≡ false
contains_none low n [] runs none = refl
contains_none low n (r ∷ rs) runs none =
    let above : n < r.0 = ⊎_elim (λ lt. lt) (λ le. absurd (NoneBegins-head r rs low n none runs.0 le)) (cases_lt n r.0) in
    rw (is_in_out r n (λ p q. omega arith), contains_below (r.1 + 1) n rs runs.2 (omega arith)) refl

pub some_later : (r : Run) (rs : List Run) (q v : ℕ) → end_at (r ∷ rs) q ≡ Some v → ((q ≡ r.0) × (v ≡ r.1)) ⊎ ((q ≡ r.0 → ⊥) × (end_at rs q ≡ Some v))
some_later r rs q v e =
    ⊎_elim (λ same. inl (same, let h = sym (end_at-here r rs q same) ∙ e in cc)) (λ apart. inr (apart, sym (end_at-later r rs q apart) ∙ e)) (cases_eq q r.0)

-- where a run begins and ends
pub end_at-bounds : (low q v : ℕ) (rs : List Run) → AreRuns low rs → end_at rs q ≡ Some v → (low ≤ q) × (q < v)
end_at-bounds low q v [] runs e = absurd cc
end_at-bounds low q v (r ∷ rs) runs e =
    ⊎_elim (λ here. omega arith) (λ later. let h = end_at-bounds (r.1 + 1) q v rs runs.2 later.1 in omega arith) (some_later r rs q v e)

in_first : (r : Run) (n e : ℕ) → r.0 ≤ n → e ≡ r.1 → (is_in r n || false) ≡ ltb n e
in_first r n e le same = grind (arith, nat_tests)

-- the last run that begins at a number or before says whether the number is in the set
pub contains_last : (low s e n : ℕ) (rs : List Run) → AreRuns low rs → end_at rs s ≡ Some e → s ≤ n → NoneBegins rs (s + 1) n → contains rs n ≡ ltb n e
contains_last low s e n [] runs found le none = absurd cc
contains_last low s e n (r ∷ rs) runs found le none =
    ⊎_elim
    (λ here.
    let rest : contains rs n ≡ false = contains_none (r.1 + 1) n rs runs.2 (λ q p t. NoneBegins-later r rs (s + 1) n none q (omega arith) t) in
    rw rest (in_first r n e (omega arith) here.1))
    (λ later.
    let h = end_at-bounds (r.1 + 1) s e rs runs.2 later.1 in
    rw (is_in_out r n (λ p q. omega arith)) (contains_last (r.1 + 1) s e n rs runs.2 later.1 le (NoneBegins-later r rs (s + 1) n none)))
    (some_later r rs s e found)

-- ---- one run in place of those that it covers

-- new has the numbers of old, and those of a run
abbrev pub AddsRun : List Run → List Run → Run → Type 0
AddsRun old new r = (n : ℕ) → contains new n ≡ (contains old n || is_in r n)

-- the runs are in order, as end_at sees those behind the first
pub later_some : (low : ℕ) (r : Run) (rs : List Run) (k v : ℕ) → AreRuns low (r ∷ rs) → end_at rs k ≡ Some v → end_at (r ∷ rs) k ≡ Some v
later_some low r rs k v runs e =
    let h = end_at-bounds (r.1 + 1) k v rs runs.2 e in
    end_at-later r rs k (λ same. omega arith) ∙ e

pub EndBy-later : (low : ℕ) (r : Run) (rs : List Run) (b : ℕ) → AreRuns low (r ∷ rs) → EndBy (r ∷ rs) b → EndBy rs b
EndBy-later low r rs b runs h k v e le = h k v (later_some low r rs k v runs e) le

pub EndBefore-later : (low : ℕ) (r : Run) (rs : List Run) (b : ℕ) → AreRuns low (r ∷ rs) → EndBefore (r ∷ rs) b → EndBefore rs b
EndBefore-later low r rs b runs h k v e lt = h k v (later_some low r rs k v runs e) lt

pub without_drops : (r : Run) (rs : List Run) (from to : ℕ) → from ≤ r.0 → r.0 ≤ to → without (r ∷ rs) from to ≡ without rs from to
without_drops r rs from to low high = grind (arith, nat_tests)

or_last : (x a b : Bool) → (x || (a || b)) ≡ ((x || a) || b)
or_last true a b = refl
or_last false a b = refl

or_turn : (a b : Bool) → (a || b) ≡ (b || a)
or_turn true true = refl
or_turn true false = refl
or_turn false true = refl
or_turn false false = refl

-- a run within another one adds nothing to it
is_in_within : (a b : ℕ) (r : Run) (n : ℕ) → a ≤ r.0 → r.1 ≤ b → (is_in (a, b) n || is_in r n) ≡ is_in (a, b) n
is_in_within a b r n low high = grind (arith, nat_tests)

-- what lies behind the new run
pub record Behind (a b : ℕ) (rs : List Run) : Type 0 where
  pub runs : AreRuns (b + 1) (without rs (a + 1) b)
  pub same : (n : ℕ) → (is_in (a, b) n || contains (without rs (a + 1) b) n) ≡ (is_in (a, b) n || contains rs n)

pub AreRuns_raise : (low high : ℕ) (rs : List Run) → AreRuns low rs → (high ≤ low) → AreRuns high rs
AreRuns_raise low high [] runs le = tt
AreRuns_raise low high (r ∷ rs) runs le = (omega arith, runs.1, runs.2)

without_beyond : (low from to : ℕ) (rs : List Run) → AreRuns low rs → to < low → without rs from to ≡ rs
without_beyond low from to [] runs lt = refl
without_beyond low from to (r ∷ rs) runs lt =
    without_keeps r rs from to (λ p q. omega arith) ∙ ap (λ (t : List Run). r ∷ t) (without_beyond (r.1 + 1) from to rs runs.2 (omega arith))

absorbed : (x y p q : Bool) → (x || y) ≡ x → (x || p) ≡ (x || q) → (x || p) ≡ (x || (y || q))
absorbed true y p q within e = refl
absorbed false true p q within e = absurd cc
absorbed false false p q within e = e

pub behind : (low a b : ℕ) (rs : List Run) → AreRuns low rs → a < low → EndBy rs b → Behind a b rs
behind low a b [] runs lt ends = record { runs = tt; same = λ n. refl }
behind low a b (r ∷ rs) runs lt ends =
    ⊎_elim
    (λ beyond.
    let e : without (r ∷ rs) (a + 1) b ≡ r ∷ rs = without_beyond r.0 (a + 1) b (r ∷ rs) (omega arith, runs.1, runs.2) beyond in
    record { runs = rw e (omega arith, runs.1, runs.2); same = λ n. rw e refl })
    (λ le.
    let e : without (r ∷ rs) (a + 1) b ≡ without rs (a + 1) b = without_drops r rs (a + 1) b (omega arith) le in
    let rest = behind (r.1 + 1) a b rs runs.2 (omega arith) (EndBy-later low r rs b runs ends) in
    let short : r.1 ≤ b = ends r.0 r.1 (end_at-here r rs r.0 refl) le in
    record {
      runs = rw e rest.runs;
      same = λ n. rw e (absorbed (is_in (a, b) n) (is_in r n) (contains (without rs (a + 1) b) n) (contains rs n) (is_in_within a b r n (omega arith) short) (rest.same n));
    })
    (cases_lt b r.0)

-- ---- insert_entry, by where the key lies

pub insert_before : (a b : ℕ) (r : Run) (rs : List Run) → a < r.0 → insert_entry nat_cmp (r ∷ rs) a b ≡ (a, b) ∷ r ∷ rs
insert_before a b r rs lt = grind (arith, nat_tests)

pub insert_at : (a b : ℕ) (r : Run) (rs : List Run) → a ≡ r.0 → insert_entry nat_cmp (r ∷ rs) a b ≡ (r.0, b) ∷ rs
insert_at a b r rs e = grind (arith, nat_tests)

pub insert_after : (a b : ℕ) (r : Run) (rs : List Run) → r.0 < a → insert_entry nat_cmp (r ∷ rs) a b ≡ r ∷ insert_entry nat_cmp rs a b
insert_after a b r rs lt = grind (arith, nat_tests)

-- the set with the run from a to b in place of the runs that begin from a to b
abbrev pub joined : List Run → ℕ → ℕ → List Run
joined rs a b = without (insert_entry nat_cmp rs a b) (a + 1) b

pub record Joined (low a b : ℕ) (rs : List Run) : Type 0 where
  pub runs : AreRuns low (joined rs a b)
  pub adds : AddsRun rs (joined rs a b) (a, b)

or_ends : (x p q : Bool) → (x || p) ≡ (x || q) → (x || p) ≡ (q || x)
or_ends true p true e = refl
or_ends true p false e = refl
or_ends false p true e = e
or_ends false p false e = e

or_covers : (x y p q : Bool) → (x || y) ≡ x → (x || p) ≡ (x || q) → (x || p) ≡ ((y || q) || x)
or_covers true true p q within e = refl
or_covers true false p true within e = refl
or_covers true false p false within e = refl
or_covers false true p q within e = absurd cc
or_covers false false p q within e = e ∙ or_turn false q

joins_at : (low a b : ℕ) (r : Run) (rs : List Run) → AreRuns low (r ∷ rs) → a ≡ r.0 → a < b → EndBy (r ∷ rs) b → Joined low a b (r ∷ rs)
joins_at low a b r rs runs same some ends =
    let short : r.1 ≤ b = ends r.0 r.1 (end_at-here r rs r.0 refl) (omega arith) in
    let tail = behind (r.1 + 1) a b rs runs.2 (omega arith) (EndBy-later low r rs b runs ends) in
    let e : joined (r ∷ rs) a b ≡ (a, b) ∷ without rs (a + 1) b =
    rw (insert_at a b r rs same, ← same) (without_keeps (a, b) rs (a + 1) b (λ p q. omega arith)) in
    record {
      runs = rw e (omega arith, some, tail.runs);
      adds = λ n. rw e (or_covers (is_in (a, b) n) (is_in r n) (contains (without rs (a + 1) b) n) (contains rs n) (is_in_within a b r n (omega arith) short) (tail.same n));
    }

joins_before : (low a b : ℕ) (r : Run) (rs : List Run) → AreRuns low (r ∷ rs) → low ≤ a → a < r.0 → a < b → EndBy (r ∷ rs) b → Joined low a b (r ∷ rs)
joins_before low a b r rs runs from lt some ends =
    let tail = behind r.0 a b (r ∷ rs) (omega arith, runs.1, runs.2) lt ends in
    let e : joined (r ∷ rs) a b ≡ (a, b) ∷ without (r ∷ rs) (a + 1) b = rw (insert_before a b r rs lt) (without_keeps (a, b) (r ∷ rs) (a + 1) b (λ p q. omega arith)) in
    record {
      runs = rw e (from, some, tail.runs);
      adds = λ n. rw e (or_ends (is_in (a, b) n) (contains (without (r ∷ rs) (a + 1) b) n) (contains (r ∷ rs) n) (tail.same n));
    }

joins_after : (low a b : ℕ) (r : Run) (rs : List Run) → AreRuns low (r ∷ rs) → r.0 < a → Joined (r.1 + 1) a b rs → Joined low a b (r ∷ rs)
joins_after low a b r rs runs gt rest =
    let e : joined (r ∷ rs) a b ≡ r ∷ joined rs a b = rw (insert_after a b r rs gt) (without_keeps r (insert_entry nat_cmp rs a b) (a + 1) b (λ p q. omega arith)) in
    record { runs = rw e (runs.0, runs.1, rest.runs); adds = λ n. rw e (ap (λ x. is_in r n || x) (rest.adds n) ∙ or_last (is_in r n) (contains rs n) (is_in (a, b) n)) }

pub joins : (low a b : ℕ) (rs : List Run) → AreRuns low rs → low ≤ a → a < b → EndBefore rs a → EndBy rs b → Joined low a b rs
joins low a b [] runs from some before ends =
    let e : joined [] a b ≡ (a, b) ∷ [] = without_keeps (a, b) [] (a + 1) b (λ p q. omega arith) in
    record { runs = rw e (from, some, tt); adds = λ n. rw e (or_turn (is_in (a, b) n) false) }
joins low a b (r ∷ rs) runs from some before ends =
    elim (cases_order a r.0) [
      | inl same ↦ joins_at low a b r rs runs same some ends
      | inr (inl lt) ↦ joins_before low a b r rs runs from lt some ends
      | inr (inr gt) ↦
          joins_after low a b r rs runs gt
          (joins (r.1 + 1) a b rs runs.2 (omega (arith, before r.0 r.1 (end_at-here r rs r.0 refl) gt)) some (EndBefore-later low r rs a runs before) (EndBy-later low r rs b runs ends))
    ]
