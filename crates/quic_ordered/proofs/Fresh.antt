-- What was not received of a piece is held.
use Rattle.std.proofs.Common.{◌≡◌, ℕ, ◌+◌, ◌-◌, ◌≤◌, ◌<◌, refl, sym, subst, List, [], ◌∷◌, ◌++◌, length, arith, Bool, true, false, cond, append_assoc}
use Rattle.std.specs.Prelude.{nat_lt, not, ◌&&◌, ◌||◌}
use Rattle.std.specs.List.{All}
use Rattle.std.specs.List.Sorted.{IsPermutation}
use Rattle.std.proofs.lemmas.Bool.Decides.{nat_tests}
use Rattle.std.proofs.lemmas.List.{append-nil}
use Rattle.std.proofs.lemmas.List.Elements.{All-head, All-tail, All-nil, All-cons}
use Rattle.std.proofs.lemmas.List.Sorted.{IsPermutation-refl, IsPermutation-sym, IsPermutation-trans, IsPermutation-append_comm}
use Rattle.quic_ranges.specs.Runs.{contains, Run as Range}
use Rattle.quic_assembler.specs.Piece.{PieceView, run_end, IsSome, cover_count, lies, bit}
use Rattle.quic_assembler.specs.Reassembly.{IsCut, NoneReceived, TakesFresh}
use Rattle.quic_assembler.proofs.Counts.{lies_in, lies_of_bit, count-append, with_run_pushed}
use Rattle.quic_assembler.proofs.Fresh.{takes_fresh, bit_of_fresh}
use Rattle.quic_ordered.proofs.Placed.{behind_front}

run_none : (b : Bool) (r : PieceView) (rs : List PieceView) → b ≡ false → cond b (r ∷ rs) rs ≡ rs
run_none false r rs e = refl
run_none true r rs e = cc

run_some : (b : Bool) (r : PieceView) (rs : List PieceView) → b ≡ true → cond b (r ∷ rs) rs ≡ r ∷ rs
run_some true r rs e = refl
run_some false r rs e = cc

test_none : (n : ℕ) → n ≡ 0 → nat_lt 0 n ≡ false
test_none n e = grind (arith, nat_tests)

test_some : (n : ℕ) → 0 < n → nat_lt 0 n ≡ true
test_some n e = grind (arith, nat_tests)

-- nothing is left of the rest
pub fresh_all : (received : List Range) (whole rest : PieceView) (fronts xs ys : List PieceView) → IsCut received whole rest fronts → NoneReceived received rest → length rest.bytes ≡ 0 → IsPermutation (fronts ++ xs) ys → TakesFresh received whole xs ys
fresh_all received whole rest fronts xs ys c none e p =
    takes_fresh received whole rest fronts xs ys ys c none p (subst (λ (zs : List PieceView). IsPermutation zs ys) (sym (run_none (nat_lt 0 (length rest.bytes)) rest ys (test_none (length rest.bytes) e))) (IsPermutation-refl ys))

to_front : (ps : List PieceView) (p : PieceView) (xs : List PieceView) → IsPermutation ((ps ++ p ∷ []) ++ xs) (p ∷ (ps ++ xs))
to_front ps p xs =
    IsPermutation-trans ((ps ++ p ∷ []) ++ xs) (ps ++ (xs ++ p ∷ [])) (p ∷ (ps ++ xs))
    (behind_front ps p xs (xs ++ p ∷ []) (IsPermutation-append_comm (p ∷ []) xs))
    (subst (λ (zs : List PieceView). IsPermutation zs (p ∷ (ps ++ xs))) (append_assoc ps xs (p ∷ [])) (IsPermutation-append_comm (ps ++ xs) (p ∷ [])))

-- the rest is put behind the fronts
pub fresh_pushed : (received : List Range) (whole rest : PieceView) (fronts parts xs ys : List PieceView) → IsCut received whole rest fronts → NoneReceived received rest → 0 < length rest.bytes → parts ≡ fronts ++ rest ∷ [] → IsPermutation (parts ++ xs) ys → TakesFresh received whole xs ys
fresh_pushed received whole rest fronts parts xs ys c none some e p =
    let q = subst (λ (zs : List PieceView). IsPermutation (zs ++ xs) ys) e p in
    let t = IsPermutation-trans (rest ∷ (fronts ++ xs)) ((fronts ++ rest ∷ []) ++ xs) ys (IsPermutation-sym _ _ (to_front fronts rest xs)) q in
    takes_fresh received whole rest fronts xs (fronts ++ xs) ys c none (IsPermutation-refl (fronts ++ xs))
    (subst (λ (zs : List PieceView). IsPermutation zs ys) (sym (run_some (nat_lt 0 (length rest.bytes)) rest (fronts ++ xs) (test_some (length rest.bytes) some))) t)

-- there are no fronts, and the rest comes behind all that is held
pub fresh_behind : (received : List Range) (whole rest : PieceView) (fronts xs ys : List PieceView) → IsCut received whole rest fronts → NoneReceived received rest → 0 < length rest.bytes → fronts ≡ [] → ys ≡ xs ++ rest ∷ [] → TakesFresh received whole xs ys
fresh_behind received whole rest fronts xs ys c none some e f =
    takes_fresh received whole rest fronts xs xs ys c none (subst (λ (zs : List PieceView). IsPermutation (zs ++ xs) xs) (sym e) (IsPermutation-refl xs)) (with_run_pushed rest xs ys some f)

-- all parts alone
pub parts_all : (received : List Range) (whole rest : PieceView) (fronts : List PieceView) → IsCut received whole rest fronts → NoneReceived received rest → length rest.bytes ≡ 0 → TakesFresh received whole [] fronts
parts_all received whole rest fronts c none e = fresh_all received whole rest fronts [] fronts c none e (subst (λ (zs : List PieceView). IsPermutation zs fronts) (sym (append-nil fronts)) (IsPermutation-refl fronts))

pub parts_pushed : (received : List Range) (whole rest : PieceView) (fronts parts : List PieceView) → IsCut received whole rest fronts → NoneReceived received rest → 0 < length rest.bytes → parts ≡ fronts ++ rest ∷ [] → TakesFresh received whole [] parts
parts_pushed received whole rest fronts parts c none some e = fresh_pushed received whole rest fronts parts [] parts c none some e (subst (λ (zs : List PieceView). IsPermutation zs parts) (sym (append-nil parts)) (IsPermutation-refl parts))

once_bits : (b t : Bool) (n m : ℕ) → n ≤ bit b → m ≡ bit (t && not b) → m + n ≤ 1
once_bits true true n m l e = omega (arith, e)
once_bits true false n m l e = omega (arith, e)
once_bits false true n m l e = omega (arith, e)
once_bits false false n m l e = omega (arith, e)

-- the parts overlap no piece that is held
pub once_parts : (received : List Range) (whole : PieceView) (parts xs : List PieceView) (at : ℕ) → TakesFresh received whole [] parts → cover_count at xs ≤ bit (contains received at) → cover_count at (parts ++ xs) ≤ 1
once_parts received whole parts xs at t l =
    omega (arith, count-append at parts xs, once_bits (contains received at) (lies whole.offset (run_end whole) at) (cover_count at xs) (cover_count at parts) l (omega (arith, t.count at)))

ends_by : (ps : List PieceView) (end : ℕ) → ((at : ℕ) → 0 < cover_count at ps → at < end) → All IsSome ps → All (λ (p : PieceView). run_end p ≤ end) ps
ends_by [] end h some = All-nil (λ (p : PieceView). run_end p ≤ end)
ends_by (p ∷ ps) end h some =
    let s = All-head IsSome p ps some in
    let last = run_end p - 1 in
    let one = lies_in p.offset (run_end p) last (omega (arith, s)) (omega (arith, s)) in
    All-cons (λ (p : PieceView). run_end p ≤ end) p ps (omega (arith, s, h last (omega (arith, one)))) (ends_by ps end (λ at l. h at (omega (arith, l))) (All-tail IsSome p ps some))

-- they end by where the piece ends
pub ends_parts : (received : List Range) (whole : PieceView) (parts : List PieceView) → TakesFresh received whole [] parts → All IsSome parts → All (λ (p : PieceView). run_end p ≤ run_end whole) parts
ends_parts received whole parts t some = ends_by parts (run_end whole) (λ at l.
    let b = bit_of_fresh (lies whole.offset (run_end whole) at) (contains received at) (omega (arith, l, t.count at)) in
    (lies_of_bit whole.offset (run_end whole) at b.0).1) some

already_in : (b t : Bool) → bit (t && not b) ≡ 0 → b ≡ (b || t)
already_in true t e = refl
already_in false true e = absurd (omega (arith, e))
already_in false false e = refl

-- no part is left, so all of the piece was received before
pub all_received : (received : List Range) (whole rest : PieceView) (fronts : List PieceView) → IsCut received whole rest fronts → NoneReceived received rest → length rest.bytes ≡ 0 → fronts ≡ [] → (n : ℕ) → contains received n ≡ (contains received n || lies whole.offset (run_end whole) n)
all_received received whole rest fronts c none e f n =
    let t = subst (λ (zs : List PieceView). TakesFresh received whole [] zs) f (parts_all received whole rest fronts c none e) in
    already_in (contains received n) (lies whole.offset (run_end whole) n) (omega (arith, t.count n))

-- nothing of it is held anew
pub fresh_none : (received : List Range) (whole rest : PieceView) (fronts xs : List PieceView) → IsCut received whole rest fronts → NoneReceived received rest → length rest.bytes ≡ 0 → fronts ≡ [] → TakesFresh received whole xs xs
fresh_none received whole rest fronts xs c none e f = fresh_all received whole rest fronts xs xs c none e (subst (λ (zs : List PieceView). IsPermutation (zs ++ xs) xs) (sym f) (IsPermutation-refl xs))
