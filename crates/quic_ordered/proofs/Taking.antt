-- The first bytes of the first piece are given.
use Rattle.std.proofs.Common.{◌≡◌, ℕ, ◌-◌, ◌^◌, ◌≤◌, ◌<◌, refl, sym, ap, subst, ◌∙◌, List, [], ◌∷◌, ◌++◌, length, take, drop, arith, Bool, true, false, cond}
use Rattle.std.specs.Prelude.{nat_lt, max}
use Rattle.std.specs.List.{All}
use Rattle.std.specs.List.Sorted.{IsPermutation}
use Rattle.std.proofs.lemmas.Bool.Decides.{nat_tests}
use Rattle.std.proofs.lemmas.List.{take_all}
use Rattle.std.proofs.lemmas.List.Elements.{All-head}
use Rattle.std.proofs.lemmas.List.Sorted.{IsPermutation-refl}
use Rattle.quic_assembler.specs.Piece.{PieceView, run_end, left_of, cut_at, advance_by, TakesSome}
use Rattle.quic_assembler.proofs.Runs.{TakesSome-front, KeepsFrom-refl}
use Rattle.quic_ordered.specs.Rows.{LieInOrder, FitsWords, GivesFirst}

whole_cut : (floor : ℕ) (r : PieceView) → r.offset ≡ floor → cut_at floor r ≡ r
whole_cut floor r e =
    let a : max floor r.offset ≡ r.offset = omega arith in
    let b : floor - r.offset ≡ 0 = omega arith in
    ap (λ (n : ℕ). record r { offset = n; bytes = drop (floor - r.offset) r.bytes }) a ∙ ap (λ (n : ℕ). record r { bytes = drop n r.bytes }) b

left_part : (b : Bool) (most : ℕ) (r : PieceView) (rest : List PieceView) → b ≡ true → cond b (advance_by most r ∷ []) [] ++ rest ≡ advance_by most r ∷ rest
left_part true most r rest e = refl
left_part false most r rest e = cc

left_none : (b : Bool) (most : ℕ) (r : PieceView) (rest : List PieceView) → b ≡ false → cond b (advance_by most r ∷ []) [] ++ rest ≡ rest
left_none false most r rest e = refl
left_none true most r rest e = cc

test_lt : (a b : ℕ) → a < b → nat_lt a b ≡ true
test_lt a b h = grind (arith, nat_tests)

test_ge : (a b : ℕ) → b ≤ a → nat_lt a b ≡ false
test_ge a b h = grind (arith, nat_tests)

pub takes_first : (floor most : ℕ) (bytes : List ℕ) (xs rest new : List PieceView) (first : PieceView) → LieInOrder floor xs → xs ≡ first ∷ rest → first.offset ≤ floor → run_end first < 2 ^ 62
    → bytes ≡ take most first.bytes → new ≡ left_of most first ++ rest → TakesSome floor most bytes xs new
takes_first floor most bytes xs rest new first h e le top given left =
    let g = subst (LieInOrder floor) e h in
    let s = g.1 in
    let at : first.offset ≡ floor = let a = g.0 in omega arith in
    let cut = whole_cut floor first at in
    let len = ap (λ (r : PieceView). length r.bytes) cut in
    TakesSome-front floor most bytes xs xs rest new first (KeepsFrom-refl floor xs) (subst (λ (ys : List PieceView). IsPermutation xs ys) e (IsPermutation-refl xs)) le (omega (arith, s)) top
    (given ∙ ap (λ (r : PieceView). take most r.bytes) (sym cut))
    (λ lt. subst (λ (ys : List PieceView). IsPermutation (advance_by most (cut_at floor first) ∷ rest) ys)
    (ap (λ (r : PieceView). advance_by most r ∷ rest) cut ∙ sym (left_part (nat_lt most (length first.bytes)) most first rest (test_lt most (length first.bytes) (omega (arith, lt, len)))) ∙ sym left)
    (IsPermutation-refl (advance_by most (cut_at floor first) ∷ rest)))
    (λ ge. left ∙ left_none (nat_lt most (length first.bytes)) most first rest (test_ge most (length first.bytes) (omega (arith, ge, len))))

pub same_head : (xs rest rest' : List PieceView) (first first' : PieceView) → xs ≡ first ∷ rest → xs ≡ first' ∷ rest' → (first ≡ first') × (rest ≡ rest')
same_head xs rest rest' first first' e f = (cc, cc)

-- a piece was given whole
pub gives_whole : (most offset : ℕ) (bytes : List ℕ) (xs rest new : List PieceView) (first : PieceView) → xs ≡ first ∷ rest → offset ≡ first.offset → length first.bytes ≤ most → bytes ≡ first.bytes → new ≡ rest → GivesFirst most xs offset bytes new
gives_whole most offset bytes xs rest new first e at le given left = record {
  first = first;
  rest = rest;
  is = e;
  at = at;
  given = given ∙ sym (take_all most first.bytes le);
  left = left ∙ sym (left_none (nat_lt most (length first.bytes)) most first rest (test_ge most (length first.bytes) le));
}

pub takes_given : (most offset : ℕ) (bytes : List ℕ) (xs new : List PieceView) → LieInOrder 0 xs → All FitsWords xs → GivesFirst most xs offset bytes new → TakesSome offset most bytes xs new
takes_given most offset bytes xs new h all g =
    let i = subst (LieInOrder 0) g.is h in
    let f = All-head FitsWords g.first g.rest (subst (All FitsWords) g.is all) in
    let a = g.at in
    takes_first offset most bytes xs g.rest new g.first (subst (LieInOrder offset) (sym g.is) (omega arith, i.1, i.2)) g.is (omega arith) f.below g.given g.left
