-- How many runs have a byte at an offset.
use Rattle.std.proofs.Common.{◌≡◌, ℕ, ◌+◌, ◌-◌, ◌≤◌, ◌<◌, ◌⊎◌, inl, inr, refl, sym, ap, ◌∙◌, List, [], ◌∷◌, ◌++◌, length, arith, zero, suc, Bool, true, false, cond, min, sum_by}
use Rattle.std.specs.List.{Any, All}
use Rattle.std.proofs.lemmas.List.Elements.{All-cons}
use Rattle.std.proofs.Common.{Result, Ok, Err, OnOk}
use Rattle.std.specs.Result.{is_err}
use Rattle.std.proofs.lemmas.Bool.{false≢true}
use Rattle.std.specs.List.Sorted.{IsPermutation}
use Rattle.std.specs.Prelude.{nat_lt, nat_le, ◌&&◌, ◌||◌}
use Rattle.std.proofs.lemmas.List.Sorted.{Contains-permutation, sum_by-IsPermutation, IsPermutation-sym, IsPermutation-to_front}
use Rattle.std.proofs.lemmas.List.Sums.{sum_by-cons}
use Rattle.std.proofs.lemmas.Bool.{cases_lt}
use Rattle.std.proofs.lemmas.Bool.Decides.{nat_tests}
use Rattle.quic_assembler.specs.Piece.{PieceView, Covers, covers, cover_count, bit, lies, run_end}
use Rattle.quic_assembler.specs.Compact.{with_run}
use Rattle.quic_assembler.specs.Reassembly.{tally}

-- `Any` of a list in another order, and of a list with one more
pub Any-permutation : {X : Type 0} (P : X → Type 0) (xs ys : List X) → IsPermutation xs ys → Any P xs → Any P ys
Any-permutation P xs ys h a =
    let c = Contains-permutation xs ys a.1 h (a.0, a.2, a.3) in
    (c.0, a.1, c.1, c.2, a.4)

pub Any-here : {X : Type 0} (P : X → Type 0) (x : X) (xs : List X) → P x → Any P (x ∷ xs)
Any-here P x xs p = (0, x, omega arith, refl, p)

pub Any-there : {X : Type 0} (P : X → Type 0) (x : X) (xs : List X) → Any P xs → Any P (x ∷ xs)
Any-there P x xs a = (suc a.0, a.1, omega arith, a.3, a.4)

pub Any-cons : {X : Type 0} (P : X → Type 0) (x : X) (xs : List X) → Any P (x ∷ xs) → P x ⊎ Any P xs
Any-cons P x xs (zero, y, l, e, p) = inl (rw e p)
Any-cons P x xs (suc k, y, l, e, p) = inr (k, y, omega arith, e, p)

pub Any-nil : {X : Type 0} (P : X → Type 0) → Any P [] → ⊥
Any-nil P a = absurd (omega (arith, a.2))

pub Any-append : {X : Type 0} (P : X → Type 0) (xs ys : List X) → Any P (xs ++ ys) → Any P xs ⊎ Any P ys
Any-append P [] ys a = inr a
Any-append P (x ∷ xs) ys a = elim (Any-cons P x (xs ++ ys) a) [
  | inl p ↦ inl (Any-here P x xs p)
  | inr b ↦ elim (Any-append P xs ys b) [ inl c ↦ inl (Any-there P x xs c) | inr c ↦ inr c ]
]

pub Any-unpush : {X : Type 0} (P : X → Type 0) (xs : List X) (x : X) → Any P (xs ++ x ∷ []) → Any P xs ⊎ P x
Any-unpush P [] x a = elim (Any-cons P x [] a) [ inl p ↦ inr p | inr b ↦ inl b ]
Any-unpush P (y ∷ ys) x a = elim (Any-cons P y (ys ++ x ∷ []) a) [
  | inl p ↦ inl (Any-here P y ys p)
  | inr b ↦ elim (Any-unpush P ys x b) [ inl c ↦ inl (Any-there P y ys c) | inr p ↦ inr p ]
]

pub nothing_before : {X : Type 0} (xs ys zs : List X) → length ys ≡ 0 → IsPermutation xs (ys ++ zs) → IsPermutation xs zs
nothing_before xs [] zs e p = p
nothing_before xs (y ∷ ys) zs e p = absurd (omega arith)

-- whether an offset lies in a range, as a number
pub lies_in : (low high at : ℕ) → low ≤ at → at < high → bit (lies low high at) ≡ 1
lies_in low high at l h = grind (arith, nat_tests)

pub lies_below : (low high at : ℕ) → at < low → bit (lies low high at) ≡ 0
lies_below low high at l = grind (arith, nat_tests)

pub lies_above : (low high at : ℕ) → high ≤ at → bit (lies low high at) ≡ 0
lies_above low high at l = grind (arith, nat_tests)

pub lies_of_bit : (low high at : ℕ) → 0 < bit (lies low high at) → (low ≤ at) × (at < high)
lies_of_bit low high at l = elim (cases_lt at low) [
  | inl m ↦ absurd (omega (arith, lies_below low high at m))
  | inr m ↦ elim (cases_lt at high) [
    | inl n ↦ (m, n)
    | inr n ↦ absurd (omega (arith, lies_above low high at n))
  ]
]

pub bit-le-one : (b : Bool) → bit b ≤ 1
bit-le-one true = omega arith
bit-le-one false = omega arith

-- an offset is covered where the count is not zero
pub count_of_any : (at : ℕ) (xs : List PieceView) → Any (Covers at) xs → 0 < cover_count at xs
count_of_any at [] a = absurd (Any-nil (Covers at) a)
count_of_any at (x ∷ xs) a = elim (Any-cons _ _ _ a) [
  | inl p ↦ omega (arith, lies_in x.offset (run_end x) at p.0 p.1)
  | inr b ↦ omega (arith, count_of_any at xs b)
]

pub any_of_count : (at : ℕ) (xs : List PieceView) → 0 < cover_count at xs → Any (Covers at) xs
any_of_count at [] l = absurd (omega (arith, l))
any_of_count at (x ∷ xs) l = elim (cases_lt 0 (covers at x)) [
  | inl m ↦ Any-here _ _ _ (lies_of_bit x.offset (run_end x) at m)
  | inr m ↦ Any-there _ _ _ (any_of_count at xs (omega arith))
]

count-sum : (at : ℕ) (xs : List PieceView) → cover_count at xs ≡ sum_by (covers at) xs
count-sum at [] = refl
count-sum at (x ∷ xs) = ap (λ n. covers at x + n) (count-sum at xs) ∙ sym (sum_by-cons (covers at) x xs)

pub count_permuted : (at : ℕ) (xs ys : List PieceView) → IsPermutation xs ys → cover_count at ys ≡ cover_count at xs
count_permuted at xs ys h = count-sum at ys ∙ sum_by-IsPermutation (covers at) xs ys h ∙ sym (count-sum at xs)

pub count-append : (at : ℕ) (xs ys : List PieceView) → cover_count at (xs ++ ys) ≡ cover_count at xs + cover_count at ys
count-append at [] ys = omega arith
count-append at (x ∷ xs) ys = omega (arith, count-append at xs ys)

pub no_count : (at : ℕ) (xs : List PieceView) → length xs ≡ 0 → cover_count at xs ≡ 0
no_count at [] e = refl
no_count at (x ∷ xs) e = absurd (omega arith)

-- one run more, unless it is empty
none_of_test : (n : ℕ) → nat_lt 0 n ≡ false → n ≡ 0
none_of_test n e = grind (arith, nat_tests)

some_of_test : (n : ℕ) → nat_lt 0 n ≡ true → 0 < n
some_of_test n e = grind (arith, nat_tests)

covers_empty : (at : ℕ) (r : PieceView) → length r.bytes ≡ 0 → covers at r ≡ 0
covers_empty at r e = elim (cases_lt at r.offset) [
  | inl l ↦ lies_below r.offset (run_end r) at l
  | inr l ↦ lies_above r.offset (run_end r) at (omega arith)
]

with_run_count_at : (at : ℕ) (r : PieceView) (rs : List PieceView) (b : Bool) → nat_lt 0 (length r.bytes) ≡ b → cover_count at (cond b (r ∷ rs) rs) ≡ cover_count at (r ∷ rs)
with_run_count_at at r rs true e = refl
with_run_count_at at r rs false e = omega (arith, covers_empty at r (none_of_test (length r.bytes) e))

pub with_run_pushed : (r : PieceView) (rs ys : List PieceView) → 0 < length r.bytes → ys ≡ rs ++ r ∷ [] → IsPermutation (with_run r rs) ys
with_run_pushed r rs ys l e =
    let t : nat_lt 0 (length r.bytes) ≡ true = grind (arith, nat_tests) in
    rw (t, e) (IsPermutation-sym _ _ (IsPermutation-to_front rs r))

pub with_run_count : (at : ℕ) (r : PieceView) (rs : List PieceView) → cover_count at (with_run r rs) ≡ cover_count at (r ∷ rs)
with_run_count at r rs = with_run_count_at at r rs (nat_lt 0 (length r.bytes)) refl

any_with_run_at : (P : PieceView → Type 0) (r : PieceView) (rs : List PieceView) (b : Bool) → Any P (cond b (r ∷ rs) rs) → Any P (r ∷ rs)
any_with_run_at P r rs true a = a
any_with_run_at P r rs false a = Any-there P r rs a

pub any_with_run : (P : PieceView → Type 0) (r : PieceView) (rs : List PieceView) → Any P (with_run r rs) → Any P (r ∷ rs)
any_with_run P r rs a = any_with_run_at P r rs (nat_lt 0 (length r.bytes)) a

with_run_length_at : (r : PieceView) (rs : List PieceView) (b : Bool) → nat_lt 0 (length r.bytes) ≡ b → length (cond b (r ∷ rs) rs) ≡ length rs + min 1 (length r.bytes)
with_run_length_at r rs true e = omega (arith, some_of_test (length r.bytes) e)
with_run_length_at r rs false e = omega (arith, none_of_test (length r.bytes) e)

pub with_run_length : (r : PieceView) (rs : List PieceView) → length (with_run r rs) ≡ length rs + min 1 (length r.bytes)
with_run_length r rs = with_run_length_at r rs (nat_lt 0 (length r.bytes)) refl

all_with_run_at : (P : PieceView → Type 0) (r : PieceView) (rs : List PieceView) (b : Bool) → nat_lt 0 (length r.bytes) ≡ b → (0 < length r.bytes → P r) → All P rs → All P (cond b (r ∷ rs) rs)
all_with_run_at P r rs true e p all = All-cons P r rs (p (some_of_test (length r.bytes) e)) all
all_with_run_at P r rs false e p all = all

pub all_with_run : (P : PieceView → Type 0) (r : PieceView) (rs : List PieceView) → (0 < length r.bytes → P r) → All P rs → All P (with_run r rs)
all_with_run P r rs p all = all_with_run_at P r rs (nat_lt 0 (length r.bytes)) refl p all

-- sums below a number
pub tally-same : (n : ℕ) (f g : ℕ → ℕ) → ((at : ℕ) → f at ≡ g at) → tally n f ≡ tally n g
unfolding tally
tally-same zero f g h = refl
tally-same (suc n) f g h = omega (arith, tally-same n f g h, h n)

pub tally-none : (n : ℕ) → tally n (λ at. 0) ≡ 0
unfolding tally
tally-none zero = refl
tally-none (suc n) = omega (arith, tally-none n)

pub tally-le : (n : ℕ) (f g : ℕ → ℕ) → ((at : ℕ) → f at ≤ g at) → tally n f ≤ tally n g
unfolding tally
tally-le zero f g h = omega arith
tally-le (suc n) f g h = omega (arith, tally-le n f g h, h n)

pub tally-add : (n : ℕ) (f g : ℕ → ℕ) → tally n (λ at. f at + g at) ≡ tally n f + tally n g
unfolding tally
tally-add zero f g = omega arith
tally-add (suc n) f g = omega (arith, tally-add n f g)

pub tally-ones : (n : ℕ) (f : ℕ → ℕ) → ((at : ℕ) → f at ≤ 1) → tally n f ≤ n
unfolding tally
tally-ones zero f h = omega arith
tally-ones (suc n) f h = omega (arith, tally-ones n f h, h n)

pub tally-lies : (n low high : ℕ) → low ≤ high → tally n (λ at. bit (lies low high at)) ≡ min n high - low
unfolding tally
tally-lies zero low high l = omega arith
tally-lies (suc n) low high l = elim (cases_lt n low) [
  | inl m ↦ omega (arith, tally-lies n low high l, lies_below low high n m)
  | inr m ↦ elim (cases_lt n high) [
    | inl k ↦ omega (arith, tally-lies n low high l, lies_in low high n m k)
    | inr k ↦ omega (arith, tally-lies n low high l, lies_above low high n k)
  ]
]

-- what a call that did not fail ensures
pub at_not_err : {T E P : Type 0} (r : Result T E) → false ≡ is_err r → OnOk r P → P
at_not_err (Ok x) e h = h
at_not_err (Err x) e h = absurd (false≢true e)

-- tests joined
pub bit-or : (a b : Bool) → bit (a || b) ≡ min 1 (bit a + bit b)
bit-or true b = omega (arith, bit-le-one b)
bit-or false b = omega (arith, bit-le-one b)

pub bit-from_zero : (at floor n : ℕ) → min 1 (bit (false || (nat_le 0 at && nat_lt at floor)) + n) ≡ min 1 (bit (nat_lt at floor) + n)
bit-from_zero at floor n = grind (arith, nat_tests)
