-- Lemmas on the pieces of chunks.
use Rattle.std.proofs.Common.{◌≡◌, ℕ, zero, suc, ◌+◌, ◌-◌, ◌<◌, ◌≤◌, List, [], ◌∷◌, ◌++◌, length, take, drop, get_or, set, replicate, refl, sym, ap, ◌∙◌, arith, length-take, length-drop, length-set, drop-drop, take-add, min, ⊎_elim}
use Rattle.std.proofs.lemmas.Bool.{cases_lt}
use Rattle.std.proofs.lemmas.Bool.Decides.{nat_tests}
use Rattle.std.proofs.lemmas.List.{drop_more, drop_all, drop-set-lt, get_or-set_same, take_all, append-nil, take-set, take_more_set, replicate_more, replicate-append-replicate}
use Rattle.quic_sending.specs.Buffer.{cut_of}
use Rattle.quic_sending.specs.Source.{popped, after_pop, cut_piece, drop_empty}
use Rattle.quic_sending.proofs.Fronts.{pieces_of, pieces_of-zero}

-- the chunks from a place on, by the one that is there
pub chunks-at : (cs : List (List ℕ)) (i : ℕ) (p : List ℕ) → i < length cs → p ≡ get_or cs i p → drop i cs ≡ p ∷ drop (i + 1) cs
chunks-at cs i p h e = drop_more cs i p h ∙ ap (λ (x : List ℕ). x ∷ drop (i + 1) cs) (sym e)

-- the chunks after that place, after a write there
pub chunks-after : (cs : List (List ℕ)) (i : ℕ) (p : List ℕ) → drop (i + 1) (set cs i p) ≡ drop (i + 1) cs
chunks-after cs i p = let past : i < i + 1 = omega arith in drop-set-lt (i + 1) cs i p past

-- the chunks from that place on, after the write
pub chunks-set : (cs : List (List ℕ)) (i : ℕ) (p : List ℕ) → i < length cs → drop i (set cs i p) ≡ p ∷ drop (i + 1) cs
chunks-set cs i p h =
    let within : i < length (set cs i p) = rw length-set h in
    chunks-at (set cs i p) i p within (sym (get_or-set_same cs i p p h)) ∙ ap (λ (r : List (List ℕ)). p ∷ r) (chunks-after cs i p)

pub chunks-end : (cs : List (List ℕ)) (i : ℕ) → length cs ≤ i → drop i cs ≡ []
chunks-end cs i h = drop_all i cs h

pub drop_empty-none : (p : List ℕ) (ps : List (List ℕ)) → length p ≡ 0 → drop_empty (p ∷ ps) ≡ drop_empty ps
drop_empty-none [] ps h = refl
drop_empty-none (b ∷ bs) ps h = absurd (omega arith)

pub drop_empty-some : (p : List ℕ) (ps : List (List ℕ)) → 0 < length p → drop_empty (p ∷ ps) ≡ p ∷ ps
drop_empty-some [] ps h = absurd (omega arith)
drop_empty-some (b ∷ bs) ps h = refl

pub cut_piece-whole : (n : ℕ) (p : List ℕ) (ps : List (List ℕ)) → length p ≤ n → cut_piece n (p ∷ ps) ≡ cut_piece (n - length p) ps
cut_piece-whole n [] ps h = ap (λ (k : ℕ). cut_piece k ps) (omega arith)
cut_piece-whole n (b ∷ bs) ps h = grind (arith, nat_tests)

pub cut_piece-part : (n : ℕ) (p : List ℕ) (ps : List (List ℕ)) → n < length p → cut_piece n (p ∷ ps) ≡ take n p
cut_piece-part n [] ps h = absurd (omega arith)
cut_piece-part n (b ∷ bs) ps h = grind (arith, nat_tests)

pub cut_piece-zero : (ps : List (List ℕ)) → cut_piece 0 ps ≡ []
cut_piece-zero [] = refl
cut_piece-zero ([] ∷ ps) = cut_piece-zero ps
cut_piece-zero ((b ∷ bs) ∷ ps) = cut_piece-part 0 (b ∷ bs) ps (omega arith)

-- a chunk of which a part is taken
pub pieces_of-part : (n : ℕ) (p : List ℕ) (ps : List (List ℕ)) → n < length p → pieces_of n (p ∷ ps) ≡ cut_of (take n p)
pieces_of-part n [] ps h = absurd (omega arith)
pieces_of-part n (b ∷ bs) ps h =
    let none : n - length (b ∷ bs) ≡ 0 = omega arith in
    ap (λ (x : List (List ℕ)). cut_of (take n (b ∷ bs)) ++ x) (pieces_of-zero _ ps none) ∙ append-nil _

pub length-cut-none : (p : List ℕ) → length p ≡ 0 → length (cut_of p) ≡ 0
length-cut-none [] h = refl
length-cut-none (b ∷ bs) h = absurd (omega arith)

pub length-cut-some : (p : List ℕ) → 0 < length p → length (cut_of p) ≡ 1
length-cut-some [] h = absurd (omega arith)
length-cut-some (b ∷ bs) h = refl

-- what a pop gives where no list has bytes
pub record PopsNone (n : ℕ) (ps : List (List ℕ)) : Type 0 where
  pub piece : popped n ps ≡ []
  pub left : after_pop n ps ≡ []
  pub part : cut_piece n ps ≡ []

pub pops_none : (n : ℕ) (ps : List (List ℕ)) → drop_empty ps ≡ [] → PopsNone n ps
pops_none n [] e = record { piece = refl; left = refl; part = refl }
pops_none n ([] ∷ ps) e = let h = pops_none n ps e in record { piece = h.piece; left = h.left; part = h.part }
pops_none n ((b ∷ bs) ∷ ps) e = cc

-- what it gives where p is the first list that has bytes
pub record PopsPart (n : ℕ) (ps : List (List ℕ)) (p : List ℕ) (rest : List (List ℕ)) : Type 0 where
  pub piece : popped n ps ≡ take n p
  pub left : after_pop n ps ≡ drop n p ∷ rest
  pub part : cut_piece n ps ≡ take n p

pub pops_part : (n : ℕ) (ps : List (List ℕ)) (p : List ℕ) (rest : List (List ℕ)) → drop_empty ps ≡ p ∷ rest → n < length p → PopsPart n ps p rest
pops_part n [] p rest e l = cc
pops_part n ([] ∷ ps) p rest e l = let h = pops_part n ps p rest e l in record { piece = h.piece; left = h.left; part = h.part }
pops_part n ((b ∷ bs) ∷ ps) p rest e l =
    let same : b ∷ bs ≡ p = cc in
    let others : ps ≡ rest = cc in
    let sizes : length (b ∷ bs) ≡ length p = ap length same in
    let short : n < length (b ∷ bs) = omega arith in
    record {
      piece = ap (take n) same;
      left = after_pop-part n b bs ps short ∙ cc;
      part = cut_piece-part n (b ∷ bs) ps short ∙ ap (take n) same;
    }
  where
    after_pop-part : (n b : ℕ) (bs : List ℕ) (ps : List (List ℕ)) → n < length (b ∷ bs) → after_pop n ((b ∷ bs) ∷ ps) ≡ drop n (b ∷ bs) ∷ ps
    after_pop-part n b bs ps h = grind (arith, nat_tests)

pub record PopsWhole (n : ℕ) (ps : List (List ℕ)) (p : List ℕ) (rest : List (List ℕ)) : Type 0 where
  pub some : 0 < length p
  pub piece : popped n ps ≡ p
  pub left : after_pop n ps ≡ rest
  pub part : cut_piece n ps ≡ cut_piece (n - length p) rest

pub pops_whole : (n : ℕ) (ps : List (List ℕ)) (p : List ℕ) (rest : List (List ℕ)) → drop_empty ps ≡ p ∷ rest → length p ≤ n → PopsWhole n ps p rest
pops_whole n [] p rest e l = cc
pops_whole n ([] ∷ ps) p rest e l = let h = pops_whole n ps p rest e l in record { some = h.some; piece = h.piece; left = h.left; part = h.part }
pops_whole n ((b ∷ bs) ∷ ps) p rest e l =
    let same : b ∷ bs ≡ p = cc in
    let others : ps ≡ rest = cc in
    let sizes : length (b ∷ bs) ≡ length p = ap length same in
    let long : length (b ∷ bs) ≤ n = omega arith in
    record {
      some = omega arith;
      piece = take_all n (b ∷ bs) long ∙ same;
      left = after_pop-whole n b bs ps long ∙ others;
      part = cut_piece-whole n (b ∷ bs) ps long ∙ cc;
    }
  where
    after_pop-whole : (n b : ℕ) (bs : List ℕ) (ps : List (List ℕ)) → length (b ∷ bs) ≤ n → after_pop n ((b ∷ bs) ∷ ps) ≡ ps
    after_pop-whole n b bs ps h = grind (arith, nat_tests)

-- a pop of chunks, the first of which that is not empty is the one at i
pub pops_at_end : (cs : List (List ℕ)) (from i n : ℕ) → drop_empty (drop from cs) ≡ drop i cs → length cs ≤ i → PopsNone n (drop from cs)
pops_at_end cs from i n e l = pops_none n (drop from cs) (e ∙ chunks-end cs i l)

pub pops_at_part : (cs : List (List ℕ)) (from i n : ℕ) (p : List ℕ) → drop_empty (drop from cs) ≡ drop i cs → i < length cs → p ≡ get_or cs i p → n < length p → PopsPart n (drop from cs) p (drop (i + 1) cs)
pops_at_part cs from i n p e l at s = pops_part n (drop from cs) p (drop (i + 1) cs) (e ∙ chunks-at cs i p l at) s

pub pops_at_whole : (cs : List (List ℕ)) (from i n : ℕ) (p : List ℕ) → drop_empty (drop from cs) ≡ drop i cs → i < length cs → p ≡ get_or cs i p → length p ≤ n → PopsWhole n (drop from cs) p (drop (i + 1) cs)
pops_at_whole cs from i n p e l at s = pops_whole n (drop from cs) p (drop (i + 1) cs) (e ∙ chunks-at cs i p l at) s

-- how many pieces there are where a part of a chunk is the last
pub length-pieces_of-part : (cs : List (List ℕ)) (i n : ℕ) (p : List ℕ) → i < length cs → p ≡ get_or cs i p → n < length p → length (pieces_of n (drop i cs)) ≡ min n 1
length-pieces_of-part cs i n p l at s =
    let len = length-take n p in
    ap (λ (x : List (List ℕ)). length (pieces_of n x)) (chunks-at cs i p l at)
    ∙ (ap length (pieces_of-part n p (drop (i + 1) cs) s)
    ∙ ⊎_elim
    (λ c. length-cut-none (take n p) (omega arith) ∙ omega arith)
    (λ c. length-cut-some (take n p) (omega arith) ∙ omega arith)
    (cases_lt n 1))

-- the chunks that were passed over are empty
empty_front : (k : ℕ) (cs : List (List ℕ)) → k ≤ length cs → drop_empty cs ≡ drop k cs → take k cs ≡ replicate k []
empty_front zero cs l e = refl
empty_front (suc k) [] l e = absurd (omega arith)
empty_front (suc k) ([] ∷ ps) l e = ap (λ (x : List (List ℕ)). [] ∷ x) (empty_front k ps (omega arith) e)
empty_front (suc k) ((b ∷ bs) ∷ ps) l e = let sizes = ap length e in let short = length-drop k ps in absurd (omega arith)

pub taken_front : (cs : List (List ℕ)) (from k : ℕ) → from + k ≤ length cs → take from cs ≡ replicate from [] → drop_empty (drop from cs) ≡ drop (from + k) cs → take (from + k) cs ≡ replicate (from + k) []
taken_front cs from k l t e =
    let rest : k ≤ length (drop from cs) = omega (arith, length-drop from cs) in
    take-add from k cs
    ∙ (ap (λ (x : List (List ℕ)). x ++ take k (drop from cs)) t
    ∙ (ap (λ (x : List (List ℕ)). replicate from [] ++ x) (empty_front k (drop from cs) rest (e ∙ sym (drop-drop k from cs)))
    ∙ replicate-append-replicate from k []))

-- a chunk behind them is cut, or taken and left empty
pub taken_cut : (cs : List (List ℕ)) (i : ℕ) (p : List ℕ) → take i cs ≡ replicate i [] → take i (set cs i p) ≡ replicate i []
taken_cut cs i p t = take-set cs i p ∙ t

pub taken_more : (cs : List (List ℕ)) (i : ℕ) (p : List ℕ) → i < length cs → take i cs ≡ replicate i [] → p ≡ [] → take (i + 1) (set cs i p) ≡ replicate (i + 1) []
taken_more cs i p l t e = take_more_set cs i p l ∙ (ap (λ (x : List (List ℕ)). x ++ p ∷ []) t ∙ (ap (λ (x : List ℕ). replicate i [] ++ x ∷ []) e ∙ replicate_more i []))
