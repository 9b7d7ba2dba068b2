-- Lemmas on sets of ids.
use Rattle.std.proofs.Common.{◌≡◌, ℕ, Bool, true, false, cond, refl, sym, arith, ap, List, [], ◌∷◌, length, ◌∙◌, ◌≤◌, ◌<◌}
use Rattle.std.specs.Prelude.{◌+◌, ◌||◌, ◌&&◌, ◌==◌, not, Option, Some, None, is_none, Result, Ok, Err, OnOk, OnErr, IsOk}
use Rattle.std.specs.List.{list_any}
use Rattle.std.proofs.lemmas.Bool.Decides.{nat_tests}
use Rattle.quic_retransmits.specs.Ids.{has_own_place, own_rooms}
use Rattle.quic_retransmits.specs.Queueing.{with_id}
use Rattle.quic_retransmits.specs.Settling.{without_id}

pub OnOk-here : {T E P : Type 0} (r : Result T E) → IsOk r → OnOk r P → P
OnOk-here (Ok x) ok p = p
OnOk-here (Err e) ok p = cc

pub ==-comm : (a b : ℕ) → (a == b) ≡ (b == a)
==-comm a b = grind (arith, nat_tests)

pub or-false : (b : Bool) → b ≡ (b || false)
or-false true = refl
or-false false = refl

-- sets with the same ids are one set
pub same_ids : (a b : ℕ → Bool) → ((id : ℕ) → a id ≡ b id) → a ≡ b
same_ids a b h = λ i id. h id i

-- an id for which there is a place is added
pub fits : {T E : Type 0} (r : Result T E) (held : Bool) (places : ℕ) → 1 ≤ cond held 1 places → (0 < places → IsOk r) → OnErr r (held ≡ false) → IsOk r
fits (Ok x) held places room succeeds absent = refl
fits (Err e) true places room succeeds absent = cc
fits (Err e) false places room succeeds absent = succeeds room

-- one id in the place of its own, and others
abbrev pub both : Option ℕ → (ℕ → Bool) → ℕ → Bool
both first others = λ q. has_own_place first q || others q

-- a set whose ids elsewhere stay
pub same_elsewhere : (first : Option ℕ) (a b : ℕ → Bool) → ((q : ℕ) → a q ≡ b q) → both first a ≡ both first b
same_elsewhere first a b h = λ i q. has_own_place first q || h q i

-- the places for an id that has none, where another one stands in the place of its own
pub places_elsewhere : (first : Option ℕ) (id : ℕ) (held : Bool) (places : ℕ) → is_none first ≡ false → has_own_place first id ≡ false → 1 ≤ cond (has_own_place first id || held) 1 (places + own_rooms first) → 1 ≤ cond held 1 places
places_elsewhere None id held places none other room = cc
places_elsewhere (Some first) id true places none other room = omega arith
places_elsewhere (Some first) id false places none other room = let room = rw other at room in omega (arith, room)

add-elsewhere : (f o b : Bool) → (f || cond b true o) ≡ ((f || o) || (true && b))
add-elsewhere true o b = refl
add-elsewhere false true true = refl
add-elsewhere false true false = refl
add-elsewhere false false true = refl
add-elsewhere false false false = refl

-- one more id elsewhere
pub with_one_elsewhere : (first : Option ℕ) (new old : ℕ → Bool) (id : ℕ) → ((q : ℕ) → new q ≡ cond (id == q) true (old q)) → both first new ≡ with_id (both first old) id true
with_one_elsewhere first new old id h = λ i q. (ap (λ b. has_own_place first q || b) (h q ∙ ap (λ b. cond b true (old q)) (==-comm id q)) ∙ add-elsewhere (has_own_place first q) (old q) (q == id)) i

stays-out : (b : Bool) → false ≡ cond b false false
stays-out true = refl
stays-out false = refl

-- none is among no numbers
pub none_among : (test : ℕ → Bool) (xs : List ℕ) → length xs ≡ 0 → list_any test xs ≡ false
none_among test [] e = refl
none_among test (x ∷ xs) e = cc

drop-both : (f o b : Bool) → ((f && not b) || cond b false o) ≡ ((f || o) && not b)
drop-both true true true = refl
drop-both true true false = refl
drop-both true false true = refl
drop-both true false false = refl
drop-both false true true = refl
drop-both false true false = refl
drop-both false false true = refl
drop-both false false false = refl

-- an id leaves both places
pub without_either : (left first : Option ℕ) (new old : ℕ → Bool) (id : ℕ) → has_own_place left ≡ without_id (has_own_place first) id → ((q : ℕ) → new q ≡ cond (id == q) false (old q)) → both left new ≡ without_id (both first old) id
without_either left first new old id l h = λ i q.
    (ap (λ b. b || new q) (ap (λ (ids : ℕ → Bool). ids q) l)
    ∙ ap (λ b. (has_own_place first q && not (q == id)) || b) (h q ∙ ap (λ b. cond b false (old q)) (==-comm id q))
    ∙ drop-both (has_own_place first q) (old q) (q == id)) i

-- an id leaves the place of its own where no others are
pub without_first : (left first : Option ℕ) (others : ℕ → Bool) (id : ℕ) → has_own_place left ≡ without_id (has_own_place first) id → ((q : ℕ) → others q ≡ false) → both left others ≡ without_id (both first others) id
without_first left first others id l none = without_either left first others others id l (λ q. rw (none q) (stays-out (id == q)))

-- what leaves one place or both leaves fewer
pub fewer_either : (f c : Bool) (a left n m : ℕ) → (f || c) ≡ true → left ≤ a → (f ≡ true → left < a) → m + cond c 1 0 ≡ n → m + left < n + a
fewer_either true true a left n m here up fewer len = let less = fewer refl in omega (arith, less, len)
fewer_either true false a left n m here up fewer len = let less = fewer refl in omega (arith, less, len)
fewer_either false true a left n m here up fewer len = omega (arith, up, len)
fewer_either false false a left n m here up fewer len = cc

or-assoc : (a b c : Bool) → ((a || b) || c) ≡ (a || (b || c))
or-assoc true b c = refl
or-assoc false b c = refl

-- what is in either
abbrev pub either : (ℕ → Bool) → (ℕ → Bool) → ℕ → Bool
either a b = λ q. a q || b q

-- ids are added from both places
pub with_both : (old : ℕ → Bool) (first : Option ℕ) (others : ℕ → Bool) → either (either old (has_own_place first)) others ≡ either old (both first others)
with_both old first others = λ i q. or-assoc (old q) (has_own_place first q) (others q) i

-- an id that was to be added is in the set
pub added-next : (k id : ℕ) (old new rest : Bool) → new ≡ (old || (true && (id == k))) → (new || rest) ≡ (old || ((id == k) || rest))
added-next k id old new rest is = rw is (or-assoc old (id == k) rest)

held-one : (o : Bool) (id places : ℕ) → 1 ≤ cond (o || (true && (id == id))) 1 places
held-one true id places = omega arith
held-one false id places = grind (arith, nat_tests)

-- an id that was added has its place
pub placed : (new old : ℕ → Bool) (id places : ℕ) → new ≡ with_id old id true → 1 ≤ cond (new id) 1 places
placed new old id places is = rw is (held-one (old id) id places)

-- where no ids come none is new
pub without_more : (ids none : ℕ → Bool) → ((id : ℕ) → none id ≡ false) → ids ≡ either ids none
without_more ids none h = λ i id. (or-false (ids id) ∙ ap (λ b. ids id || b) (sym (h id))) i
