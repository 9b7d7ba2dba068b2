-- Lemmas on the front of a source, as a write cuts it.
use Rattle.std.proofs.Common.{◌≡◌, ℕ, ◌+◌, ◌-◌, ◌<◌, ◌≤◌, ◌⊎◌, inl, inr, min, List, [], ◌∷◌, ◌++◌, length, take, refl, sym, ap, ◌∙◌, arith, length-take, length-append}
use Rattle.std.proofs.lemmas.Bool.{cases_lt}
use Rattle.std.proofs.lemmas.List.{take_all, take_min, take-append-le, append-nil, append_cancel_left}
use Rattle.std.proofs.lemmas.List.Folds.{concat-append}
use Rattle.std.proofs.Math.Seq.{take-append-add, take-nil}
use Rattle.std.specs.List.{concat}
use Rattle.quic_sending.specs.Buffer.{cut_of, total_length}
use Rattle.quic_sending.specs.Source.{AreFrontOf, AreCutAs, filled_of, slice_lists}
use Rattle.quic_sending.proofs.Cuts.{length-concat}

-- the first n bytes, as one piece for each list of which they have some
abbrev pub pieces_of : ℕ → List (List ℕ) → List (List ℕ)
pieces_of n [] = []
pieces_of n ([] ∷ ps) = pieces_of n ps
pieces_of n ((b ∷ bs) ∷ ps) = cut_of (take n (b ∷ bs)) ++ pieces_of (n - length (b ∷ bs)) ps

pub pieces_of-zero : (n : ℕ) (ps : List (List ℕ)) → n ≡ 0 → pieces_of n ps ≡ []
pieces_of-zero n [] e = refl
pieces_of-zero n ([] ∷ ps) e = pieces_of-zero n ps e
pieces_of-zero n ((b ∷ bs) ∷ ps) e = rw e (pieces_of-zero (0 - length (b ∷ bs)) ps (omega arith))

concat-cut : (p : List ℕ) → concat (cut_of p) ≡ p
concat-cut [] = refl
concat-cut (b ∷ bs) = append-nil _

-- the front of two lists of bytes
take-both : (n : ℕ) (xs ys : List ℕ) → take n (xs ++ ys) ≡ take n xs ++ take (n - length xs) ys
take-both n xs ys = by (cases_lt n (length xs))
  where
    by : (n < length xs) ⊎ (length xs ≤ n) → take n (xs ++ ys) ≡ take n xs ++ take (n - length xs) ys
    by (inl short) =
        let none : n - length xs ≡ 0 = omega arith in
        take-append-le n xs ys (omega arith) ∙ (sym (append-nil _) ∙ ap (λ k. take n xs ++ take k ys) (sym none))
    by (inr long) =
        let sum : n ≡ length xs + (n - length xs) = omega arith in
        ap (λ k. take k (xs ++ ys)) sum ∙ (take-append-add xs ys (n - length xs) ∙ ap (λ zs. zs ++ take (n - length xs) ys) (sym (take_all n xs long)))

concat-pieces_of : (n : ℕ) (ps : List (List ℕ)) → concat (pieces_of n ps) ≡ take n (concat ps)
concat-pieces_of n [] = sym (take-nil n)
concat-pieces_of n ([] ∷ ps) = concat-pieces_of n ps
concat-pieces_of n ((b ∷ bs) ∷ ps) =
    concat-append (cut_of (take n (b ∷ bs))) (pieces_of (n - length (b ∷ bs)) ps)
    ∙ (ap (λ xs. xs ++ concat (pieces_of (n - length (b ∷ bs)) ps)) (concat-cut _)
    ∙ (ap (λ xs. take n (b ∷ bs) ++ xs) (concat-pieces_of (n - length (b ∷ bs)) ps)
    ∙ sym (take-both n (b ∷ bs) (concat ps))))

-- one more list, of which p is taken
AreCutAs-cons : (p l : List ℕ) (rest ls : List (List ℕ)) → p ≡ take (length p) l → (0 < length rest → 0 < length p) → (0 < length rest → p ≡ l) → AreCutAs rest ls → AreCutAs (cut_of p ++ rest) (l ∷ ls)
AreCutAs-cons [] l [] ls front some whole cut = tt
AreCutAs-cons [] l (q ∷ qs) ls front some whole cut = absurd (let no = some (omega arith) in omega arith)
AreCutAs-cons (b ∷ bs) l [] ls front some whole cut = (omega arith, front)
AreCutAs-cons (b ∷ bs) l (q ∷ qs) ls front some whole cut = (whole (omega arith), cut)

AreCutAs-pieces_of : (n : ℕ) (ps : List (List ℕ)) → AreCutAs (pieces_of n ps) (filled_of ps)
AreCutAs-pieces_of n [] = tt
AreCutAs-pieces_of n ([] ∷ ps) = AreCutAs-pieces_of n ps
AreCutAs-pieces_of n ((b ∷ bs) ∷ ps) =
    AreCutAs-cons (take n (b ∷ bs)) (b ∷ bs) (pieces_of (n - length (b ∷ bs)) ps) (filled_of ps) front (λ s. some s) (λ s. whole s) (AreCutAs-pieces_of (n - length (b ∷ bs)) ps)
  where
    front : take n (b ∷ bs) ≡ take (length (take n (b ∷ bs))) (b ∷ bs)
    front = rw (length-take n (b ∷ bs)) (sym (take_min n (b ∷ bs)))

    long : 0 < length (pieces_of (n - length (b ∷ bs)) ps) → length (b ∷ bs) ≤ n
    long s = by (cases_lt n (length (b ∷ bs)))
      where
        by : (n < length (b ∷ bs)) ⊎ (length (b ∷ bs) ≤ n) → length (b ∷ bs) ≤ n
        by (inl short) =
            let none = ap length (pieces_of-zero (n - length (b ∷ bs)) ps (omega arith)) in
            absurd (omega arith)
        by (inr long) = long

    some : 0 < length (pieces_of (n - length (b ∷ bs)) ps) → 0 < length (take n (b ∷ bs))
    some s = let l = long s in let len = length-take n (b ∷ bs) in omega arith

    whole : 0 < length (pieces_of (n - length (b ∷ bs)) ps) → take n (b ∷ bs) ≡ b ∷ bs
    whole s = take_all n (b ∷ bs) (long s)

-- there are such pieces
pub AreFrontOf-pieces_of : (n : ℕ) (ps : List (List ℕ)) → AreFrontOf n ps (pieces_of n ps)
AreFrontOf-pieces_of n ps = record { bytes = concat-pieces_of n ps; cut = AreCutAs-pieces_of n ps }

-- a piece that others follow ends before n
last_piece : (n : ℕ) (l p : List ℕ) (ps : List (List ℕ)) → 0 < length l → 0 < length p → p ≡ take (length p) l → p ++ [] ≡ take n (l ++ concat ps) → p ∷ [] ≡ cut_of (take n l) ++ pieces_of (n - length l) ps
last_piece n l p ps filled some front bytes = by (cases_lt (length l) n)
  where
    sizes : length p ≡ min n (length l + total_length ps)
    sizes =
        let all = length-concat ps in
        let both = length-append l (concat ps) in
        let len = length-take n (l ++ concat ps) in
        let same = ap length (sym (append-nil p) ∙ bytes) in
        omega arith

    below : length p ≤ length l
    below = let len = length-take (length p) l in let same = ap length front in omega arith

    cut_some : (xs : List ℕ) → 0 < length xs → cut_of xs ≡ xs ∷ []
    cut_some [] h = absurd (omega arith)
    cut_some (x ∷ xs) h = refl

    none_of : (k : ℕ) (qs : List (List ℕ)) → total_length qs ≡ 0 → pieces_of k qs ≡ []
    none_of k [] e = refl
    none_of k ([] ∷ qs) e = none_of k qs (omega arith)
    none_of k ((b ∷ bs) ∷ qs) e = absurd (omega arith)

    by : (length l < n) ⊎ (n ≤ length l) → p ∷ [] ≡ cut_of (take n l) ++ pieces_of (n - length l) ps
    by (inl long) =
        let s = sizes in
        let b = below in
        let all : length p ≡ length l = omega arith in
        let rest : total_length ps ≡ 0 = omega arith in
        let same : p ≡ take n l = front ∙ (take_all (length p) l (omega arith) ∙ sym (take_all n l (omega arith))) in
        rw (none_of (n - length l) ps rest, append-nil (cut_of (take n l)), ← same) (sym (cut_some p some))
    by (inr short) =
        let s = sizes in
        let all : length p ≡ n = omega arith in
        let none : n - length l ≡ 0 = omega arith in
        let same : p ≡ take n l = front ∙ ap (λ k. take k l) all in
        rw (pieces_of-zero (n - length l) ps none, append-nil (cut_of (take n l)), ← same) (sym (cut_some p some))

-- more pieces: the first is the whole list
first_piece : (n : ℕ) (l q : List ℕ) (qs ps : List (List ℕ)) → 0 < length l → 0 < length q → l ++ concat (q ∷ qs) ≡ take n (l ++ concat ps) → (length l ≤ n) × (concat (q ∷ qs) ≡ take (n - length l) (concat ps))
first_piece n l q qs ps filled some bytes = (long, append_cancel_left l _ _ (bytes ∙ (take-both n l (concat ps) ∙ ap (λ xs. xs ++ take (n - length l) (concat ps)) (take_all n l long))))
  where
    long : length l ≤ n
    long =
        let both = length-append l (concat (q ∷ qs)) in
        let len = length-take n (l ++ concat ps) in
        let same = ap length bytes in
        omega arith

first_filled : (p : List ℕ) (ps ls : List (List ℕ)) → AreCutAs (p ∷ ps) (filled_of ls) → 0 < length p
first_filled p ps [] cut = absurd cut
first_filled p ps ([] ∷ ls) cut = first_filled p ps ls cut
first_filled p [] ((b ∷ bs) ∷ ls) cut = cut.0
first_filled p (q ∷ qs) ((b ∷ bs) ∷ ls) cut = let same = ap length cut.0 in omega arith

-- and no others
pub AreFrontOf-is : (n : ℕ) (ls ps : List (List ℕ)) → concat ps ≡ take n (concat ls) → AreCutAs ps (filled_of ls) → ps ≡ pieces_of n ls
AreFrontOf-is n [] [] bytes cut = refl
AreFrontOf-is n [] (p ∷ ps) bytes cut = absurd cut
AreFrontOf-is n ([] ∷ ls) ps bytes cut = AreFrontOf-is n ls ps bytes cut
AreFrontOf-is n ((b ∷ bs) ∷ ls) [] bytes cut =
    let both = length-append (b ∷ bs) (concat ls) in
    let len = length-take n ((b ∷ bs) ++ concat ls) in
    let same = ap length bytes in
    sym (pieces_of-zero n ((b ∷ bs) ∷ ls) (omega arith))
AreFrontOf-is n ((b ∷ bs) ∷ ls) (p ∷ []) bytes cut = last_piece n (b ∷ bs) p ls (omega arith) cut.0 cut.1 bytes
AreFrontOf-is n ((b ∷ bs) ∷ ls) (p ∷ q ∷ ps) bytes cut =
    let step = first_piece n (b ∷ bs) q ps ls (omega arith) (first_filled q ps ls cut.1) (ap (λ xs. xs ++ concat (q ∷ ps)) (sym cut.0) ∙ bytes) in
    let rest = AreFrontOf-is (n - length (b ∷ bs)) ls (q ∷ ps) step.1 cut.1 in
    let whole : take n (b ∷ bs) ≡ b ∷ bs = take_all n (b ∷ bs) step.0 in
    rw (whole, ← rest, cut.0) refl

pub pieces-are : (n : ℕ) (ls ps : List (List ℕ)) → AreFrontOf n ls ps → ps ≡ pieces_of n ls
pieces-are n ls ps h = AreFrontOf-is n ls ps h.bytes h.cut

-- a slice gives one piece at most
pub one_piece : (xs : List ℕ) (n : ℕ) (ps : List (List ℕ)) → AreFrontOf n (slice_lists xs) ps → length ps ≤ 1
one_piece [] n [] h = omega arith
one_piece [] n (p ∷ ps) h = absurd h.cut
one_piece (b ∷ bs) n [] h = omega arith
one_piece (b ∷ bs) n (p ∷ []) h = omega arith
one_piece (b ∷ bs) n (p ∷ q ∷ ps) h = absurd h.cut.1
