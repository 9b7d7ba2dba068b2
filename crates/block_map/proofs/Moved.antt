-- What is left of a list behind a front that is gone, after an edit.
use Rattle.std.proofs.Common.{◌≡◌, ℕ, ◌+◌, ◌-◌, ◌≤◌, ◌<◌, sym, ap, ◌∙◌, List, [], ◌∷◌, ◌++◌, length, take, drop, arith, zero, suc}
use Rattle.std.specs.Prelude.{insert, slice_set}
use Rattle.std.specs.List.{remove_range, copy_within}
use Rattle.std.proofs.lemmas.List.{length-take-le, length-drop, drop-drop, drop-take, take_rest, drop-append-le, take-append-le, append_assoc, take-take, take_at, drop_at, drop_all, append-nil, set_split, length-append}
use Rattle.std.proofs.lemmas.List.Edits.{take-paste}

-- a run at the end moves down
pub moved_down : {X : Type 0} (xs : List X) (from to n : ℕ) → from ≤ to → to ≤ length xs → n ≡ length xs - (to - from) → take n (copy_within xs to (length xs) from) ≡ remove_range xs from to
moved_down xs from to n order fits is =
    let m = length-drop to xs in
    let p : n ≡ from + (length xs - to) = omega arith in
    ap (λ (k : ℕ). take k (copy_within xs to (length xs) from)) p
    ∙ take-paste xs from (drop to xs) (length xs - to) (omega arith) (omega (arith, m))
    ∙ ap (λ t. take from xs ++ t) (take_rest xs to)

-- what is left of the rest
pub drop-remove_range : {X : Type 0} (xs : List X) (s from to : ℕ) → from ≤ to → s + to ≤ length xs → drop s (remove_range xs (s + from) (s + to)) ≡ remove_range (drop s xs) from to
drop-remove_range xs s from to order fits =
    let m = length-take-le (s + from) xs (omega arith) in
    drop-append-le s (take (s + from) xs) (drop (s + to) xs) (omega (arith, m))
    ∙ ap (λ t. t ++ drop (s + to) xs) (drop-take s from xs)
    ∙ ap (λ t. take from (drop s xs) ++ t) (sym (drop-drop to s xs))

pub drop-insert : {X : Type 0} (xs : List X) (s i : ℕ) (y : X) → s + i ≤ length xs → drop s (insert xs (s + i) y) ≡ insert (drop s xs) i y
drop-insert xs s i y fits =
    let m = length-take-le (s + i) xs fits in
    drop-append-le s (take (s + i) xs) (y ∷ drop (s + i) xs) (omega (arith, m))
    ∙ ap (λ t. t ++ y ∷ drop (s + i) xs) (drop-take s i xs)
    ∙ ap (λ t. take i (drop s xs) ++ y ∷ t) (sym (drop-drop i s xs))

-- ---- an edit within one of some lists one behind another

pub remove_range-front : {X : Type 0} (xs q : List X) (from to : ℕ) → from ≤ length xs → to ≤ length xs → remove_range (xs ++ q) from to ≡ remove_range xs from to ++ q
remove_range-front xs q from to le fits =
    ap (λ t. t ++ drop to (xs ++ q)) (take-append-le from xs q le)
    ∙ ap (λ t. take from xs ++ t) (drop-append-le to xs q fits)
    ∙ sym (append_assoc (take from xs) (drop to xs) q)

pub remove_range-behind : {X : Type 0} (p xs : List X) (from to m n : ℕ) → m ≡ length p + from → n ≡ length p + to → remove_range (p ++ xs) m n ≡ p ++ remove_range xs from to
remove_range-behind [] xs from to m n is ends =
    let e : m ≡ from = omega (arith, is) in
    let f : n ≡ to = omega (arith, ends) in
    ap (λ (k : ℕ). remove_range xs k n) e ∙ ap (λ (k : ℕ). remove_range xs from k) f
remove_range-behind (x ∷ p) xs from to zero n is ends = absurd (omega (arith, is))
remove_range-behind (x ∷ p) xs from to (suc m) zero is ends = absurd (omega (arith, ends))
remove_range-behind (x ∷ p) xs from to (suc m) (suc n) is ends =
    ap (λ t. x ∷ t) (remove_range-behind p xs from to m n (omega (arith, is)) (omega (arith, ends)))

-- two runs one behind the other are one
pub remove_range-again : {X : Type 0} (xs : List X) (from to n : ℕ) → from ≤ to → to + n ≤ length xs → remove_range (remove_range xs from to) from (from + n) ≡ remove_range xs from (to + n)
remove_range-again xs from to n order fits =
    let m = length-take-le from xs (omega arith) in
    let k : from ≡ length (take from xs) + 0 = omega (arith, m) in
    let l : from + n ≡ length (take from xs) + n = omega (arith, m) in
    remove_range-behind (take from xs) (drop to xs) 0 n from (from + n) k l
    ∙ ap (λ t. take from xs ++ t) (drop-drop n to xs)

-- a run at the end moves up, to make room for one
pub moved_up : {X : Type 0} (xs : List X) (p : ℕ) (y : X) → p ≤ length xs → slice_set (copy_within (xs ++ y ∷ []) p (length xs) (p + 1)) p y ≡ insert xs p y
moved_up xs p y fits =
    let ys = xs ++ y ∷ [] in
    let n = length xs - p in
    let front = take (p + 1) ys in
    let run = take n (drop p ys) in
    let rest = drop (p + 1 + n) ys in
    let total = length-append xs (y ∷ []) in
    let f = length-take-le (p + 1) ys (omega (arith, total)) in
    let d = length-drop p xs in
    let behind = length-append (front ++ run) rest in
    let both = length-append front run in
    let lt : p < length (front ++ run ++ rest) = omega (arith, f, both, behind) in
    let q : suc p ≡ p + 1 = omega arith in
    let low : take p (front ++ run ++ rest) ≡ take p xs =
    take-append-le p (front ++ run) rest (omega (arith, f, both)) ∙ take-append-le p front run (omega (arith, f)) ∙ take-take p (p + 1) ys (omega arith) ∙ take-append-le p xs (y ∷ []) fits in
    let high : drop (p + 1) (front ++ run ++ rest) ≡ drop p xs =
    ap (drop (p + 1)) (append_assoc front run rest)
    ∙ drop_at front (run ++ rest) (p + 1) f
    ∙ ap (λ t. t ++ rest) (ap (take n) (drop-append-le p xs (y ∷ []) fits) ∙ take_at (drop p xs) (y ∷ []) n (omega (arith, d)))
    ∙ ap (λ t. drop p xs ++ t) (drop_all (p + 1 + n) ys (omega (arith, total)))
    ∙ append-nil (drop p xs) in
    set_split (front ++ run ++ rest) p y lt
    ∙ ap (λ t. t ++ y ∷ drop (suc p) (front ++ run ++ rest)) low
    ∙ ap (λ t. take p xs ++ y ∷ t) (ap (λ (k : ℕ). drop k (front ++ run ++ rest)) q ∙ high)
