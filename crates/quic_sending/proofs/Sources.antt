-- Lemmas on the pieces that a source gives.
use Rattle.std.proofs.Common.{◌≡◌, ℕ, ◌+◌, ◌-◌, ◌<◌, ◌≤◌, ⊎_elim, min, List, [], ◌∷◌, ◌++◌, length, take, drop, refl, sym, ap, ◌∙◌, arith, length-take, length-drop}
use Rattle.std.proofs.lemmas.Bool.{cases_lt}
use Rattle.std.proofs.lemmas.Bool.Decides.{nat_tests}
use Rattle.std.proofs.lemmas.List.{take_all, append_assoc}
use Rattle.quic_sending.specs.Buffer.{Buffered, cut_of, total_length}
use Rattle.quic_sending.specs.Source.{rest_of, popped, after_pop}
use Rattle.quic_sending.proofs.Fronts.{pieces_of, pieces_of-zero}

cut-filled : (xs : List ℕ) → 0 < length xs → cut_of xs ≡ xs ∷ []
cut-filled [] h = absurd (omega arith)
cut-filled (x ∷ xs) h = refl

after_pop-whole : (n b : ℕ) (bs : List ℕ) (ps : List (List ℕ)) → length (b ∷ bs) ≤ n → after_pop n ((b ∷ bs) ∷ ps) ≡ ps
after_pop-whole n b bs ps h = grind (arith, nat_tests)

after_pop-part : (n b : ℕ) (bs : List ℕ) (ps : List (List ℕ)) → n < length (b ∷ bs) → after_pop n ((b ∷ bs) ∷ ps) ≡ drop n (b ∷ bs) ∷ ps
after_pop-part n b bs ps h = grind (arith, nat_tests)

rest_of-whole : (n b : ℕ) (bs : List ℕ) (ps : List (List ℕ)) → length (b ∷ bs) ≤ n → rest_of n ((b ∷ bs) ∷ ps) ≡ rest_of (n - length (b ∷ bs)) ps
rest_of-whole n b bs ps h = grind (arith, nat_tests)

rest_of-part : (n b : ℕ) (bs : List ℕ) (ps : List (List ℕ)) → n < length (b ∷ bs) → rest_of n ((b ∷ bs) ∷ ps) ≡ drop n (b ∷ bs) ∷ ps
rest_of-part n b bs ps h = grind (arith, nat_tests)

rest_of-zero : (n : ℕ) (p : List ℕ) (ps : List (List ℕ)) → n ≡ 0 → 0 < length p → rest_of n (p ∷ ps) ≡ p ∷ ps
rest_of-zero n [] ps e h = absurd (omega arith)
rest_of-zero n (b ∷ bs) ps e h =
    let part : n < length (b ∷ bs) = omega arith in
    rest_of-part n b bs ps part ∙ rw e refl

-- the pieces are the first one and those that are left
pub pieces_of-step : (n : ℕ) (ps : List (List ℕ)) → 0 < length (popped n ps) → pieces_of n ps ≡ popped n ps ∷ pieces_of (n - length (popped n ps)) (after_pop n ps)
pieces_of-step n [] h = absurd (omega arith)
pieces_of-step n ([] ∷ ps) h = pieces_of-step n ps h
pieces_of-step n ((b ∷ bs) ∷ ps) h =
    ⊎_elim
    (λ c.
    let len = length-take n (b ∷ bs) in
    let left : n - length (take n (b ∷ bs)) ≡ 0 = omega arith in
    let none : n - length (b ∷ bs) ≡ 0 = omega arith in
    ap (λ (x : List (List ℕ)). x ++ pieces_of (n - length (b ∷ bs)) ps) (cut-filled _ h)
    ∙ ap (λ (x : List (List ℕ)). take n (b ∷ bs) ∷ x) (pieces_of-zero _ ps none ∙ sym (pieces_of-zero _ (after_pop n ((b ∷ bs) ∷ ps)) left)))
    (λ c. rw (after_pop-whole n b bs ps c, take_all n (b ∷ bs) c) refl)
    (cases_lt n (length (b ∷ bs)))

pub pieces_of-none : (n : ℕ) (ps : List (List ℕ)) → length (popped n ps) ≡ 0 → pieces_of n ps ≡ []
pieces_of-none n [] h = refl
pieces_of-none n ([] ∷ ps) h = pieces_of-none n ps h
pieces_of-none n ((b ∷ bs) ∷ ps) h =
    let len = length-take n (b ∷ bs) in
    let zero : n ≡ 0 = omega arith in
    pieces_of-zero n ((b ∷ bs) ∷ ps) zero

pub rest_of-step : (n : ℕ) (ps : List (List ℕ)) → rest_of n ps ≡ rest_of (n - length (popped n ps)) (after_pop n ps)
rest_of-step n [] = refl
rest_of-step n ([] ∷ ps) = rest_of-step n ps
rest_of-step n ((b ∷ bs) ∷ ps) =
    ⊎_elim
    (λ c.
    let len = length-take n (b ∷ bs) in
    let rest = length-drop n (b ∷ bs) in
    let left : n - length (take n (b ∷ bs)) ≡ 0 = omega arith in
    let some : 0 < length (drop n (b ∷ bs)) = omega arith in
    rw (after_pop-part n b bs ps c) (rest_of-part n b bs ps c ∙ sym (rest_of-zero _ (drop n (b ∷ bs)) ps left some)))
    (λ c. rw (after_pop-whole n b bs ps c, take_all n (b ∷ bs) c) (rest_of-whole n b bs ps c))
    (cases_lt n (length (b ∷ bs)))

pub rest_of-none : (n : ℕ) (ps : List (List ℕ)) → length (popped n ps) ≡ 0 → after_pop n ps ≡ rest_of n ps
rest_of-none n [] h = refl
rest_of-none n ([] ∷ ps) h = rest_of-none n ps h
rest_of-none n ((b ∷ bs) ∷ ps) h =
    let len = length-take n (b ∷ bs) in
    let part : n < length (b ∷ bs) = omega arith in
    after_pop-part n b bs ps part ∙ sym (rest_of-part n b bs ps part)

-- how many bytes there are
pub min-total-step : (n : ℕ) (ps : List (List ℕ)) → min n (total_length ps) ≡ length (popped n ps) + min (n - length (popped n ps)) (total_length (after_pop n ps))
min-total-step n [] = omega arith
min-total-step n ([] ∷ ps) = omega (arith, min-total-step n ps)
min-total-step n ((b ∷ bs) ∷ ps) =
    let len = length-take n (b ∷ bs) in
    let rest = length-drop n (b ∷ bs) in
    ⊎_elim
    (λ c. rw (after_pop-part n b bs ps c) (omega arith))
    (λ c. rw (after_pop-whole n b bs ps c) (omega arith))
    (cases_lt n (length (b ∷ bs)))

pub min-total-none : (n : ℕ) (ps : List (List ℕ)) → length (popped n ps) ≡ 0 → min n (total_length ps) ≡ 0
min-total-none n [] h = omega arith
min-total-none n ([] ∷ ps) h = omega (arith, min-total-none n ps h)
min-total-none n ((b ∷ bs) ∷ ps) h =
    let len = length-take n (b ∷ bs) in
    omega arith

-- a buffer after some writes, where w is v with more room
pub same_others : (v w x : Buffered) (n : ℕ) (held : List (List ℕ)) → w ≡ record v { room = w.room } → x ≡ record w { offset = x.offset; held = x.held; room = x.room } → x.offset ≡ n → x.held ≡ held → x ≡ record v { offset = n; held = held; room = x.room }
same_others v w x n held e f o h = cc

-- one write of a piece
pub held-step : (was now : List (List ℕ)) (piece : List ℕ) (rest all : List (List ℕ)) → 0 < length piece → now ≡ was ++ cut_of piece → was ++ (piece ∷ rest) ≡ all → now ++ rest ≡ all
held-step was now piece rest all h e f = rw (e, cut-filled piece h, append_assoc) f

pub same_others-step : (v w x : Buffered) (n room : ℕ) (held : List (List ℕ)) → w ≡ record v { offset = w.offset; held = w.held; room = w.room } → x ≡ record w { offset = n; held = held; room = room } → x ≡ record v { offset = x.offset; held = x.held; room = x.room }
same_others-step v w x n room held e f = f ∙ (ap (λ (u : Buffered). record u { offset = n; held = held; room = room }) e ∙ sym (ap (λ (u : Buffered). record v { offset = u.offset; held = u.held; room = u.room }) f))
