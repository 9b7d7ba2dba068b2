-- What a change at one priority does to the levels.
use Rattle.std.proofs.Common.{◌≡◌, ◌≢◌, ℕ, ℤ, ◌<◌, ◌≤◌, ◌-◌, true, false, List, [], ◌∷◌, Some, None, length, drop, refl, sym, ap, ◌∙◌, arith, length-drop}
use Rattle.std.specs.Prelude.{◌==◌}
use Rattle.std.proofs.lemmas.Bool.Decides.{nat_tests}
use Rattle.std.specs.Prelude.{Option, IsSome, is_some, Result, Ok, Err, OnErr, Bool, not, ◌++◌}
use Rattle.std.specs.Ordering.{int_eq}
use Rattle.std.specs.Option.{option_eq, option_to_list}
use Rattle.std.specs.Cmp.{signed_Decides}
use Rattle.std.specs.VecDeque.{deque_len, deque_capacity}
use Rattle.std.specs.BTreeMap.{UpdatesBy}
use Rattle.quic_queue.specs.Levels.{Ids, Levels, falling, ids_at, HasRoom, IsFilled, KeepsOtherLevels}
use Rattle.quic_queue.proofs.Comparing.{by_test, at, at-is}

at-other : (p q : ℤ) → q ≢ p → at p (record { 0 = q }) ≡ false
at-other p q apart = by_test (at p (record { 0 = q })) (λ t. absurd (apart (at-is p (record { 0 = q }) t))) (λ t. t)

pub others_stay : (m n : Levels) (p : ℤ) (w : Option Ids) → UpdatesBy falling (falling (record { 0 = p })) m n w → KeepsOtherLevels m p n
others_stay m n p w h other apart = h.2 (record { 0 = other }) (at-other p other apart)

pub has_room : (m : Levels) (p : ℤ) (ids : Ids) → ids_at m p ≡ Some ids → deque_len ids < deque_capacity ids → HasRoom m p
has_room m p ids there room = rw there room

pub room_there : (m : Levels) (p : ℤ) (ids : Ids) → ids_at m p ≡ Some ids → HasRoom m p → deque_len ids < deque_capacity ids
room_there m p ids there room = rw there at room

pub no_room : (m : Levels) (p : ℤ) → ids_at m p ≡ None → HasRoom m p → ⊥
no_room m p there room = rw there at room

pub is_filled : (m : Levels) (p : ℤ) (ids : Ids) → ids_at m p ≡ Some ids → 0 < deque_len ids → IsFilled m p
is_filled m p ids there some = rw there some

pub filled_there : (m : Levels) (p : ℤ) (ids : Ids) → ids_at m p ≡ Some ids → IsFilled m p → 0 < deque_len ids
filled_there m p ids there some = rw there at some

pub is_gone : (m : Levels) (p : ℤ) → ids_at m p ≡ None → IsFilled m p
is_gone m p there = rw there tt

-- what a write through a loan leaves
pub written : (m n : Levels) (p : ℤ) (v w : Ids) → Some v ≡ ids_at m p → (IsSome (ids_at m p) → UpdatesBy falling (falling (record { 0 = p })) m n (Some w)) → KeepsOtherLevels m p n × (ids_at n p ≡ Some w)
written m n p v w there updates =
    let u = updates (ap is_some (sym there)) in
    (others_stay m n p (Some w) u, u.1)

-- a loan that failed left what stood there, but for its room
pub filled_still : (m n : Levels) (p : ℤ) (v w : Ids) → Some v ≡ ids_at m p → ids_at n p ≡ Some w → deque_len w ≡ deque_len v → IsFilled m p → IsFilled n p
filled_still m n p v w there now same some =
    let k = filled_there m p v (sym there) some in
    is_filled n p w now (rw same k)

pub on_err : {T E : Type 0} {P : Type 0} (r : Result T E) → P → OnErr r P
on_err (Ok x) p = tt
on_err (Err e) p = p

pub no_items : (ids : Ids) → (deque_len ids == 0) ≡ true → ids.items ≡ []
no_items ids e =
    let none : deque_len ids ≡ 0 = grind (arith, nat_tests, e) in
    let is : deque_len ids ≡ length ids.items = ids.ok.0 in
    nothing ids.items (sym is ∙ none)
  where
    nothing : (l : List ℕ) → length l ≡ 0 → l ≡ []
    nothing [] h = refl
    nothing (x ∷ l) h = absurd (omega arith)

pub some_items : (ids : Ids) → (deque_len ids == 0) ≡ false → 0 < deque_len ids
some_items ids e = grind (arith, nat_tests, e)

-- one id less leaves room
pub room_after : (v w : Ids) → 0 < length v.items → w.items ≡ drop 1 v.items → deque_capacity w ≡ deque_capacity v → deque_len w < deque_capacity w
room_after v w some rest same =
    let before : deque_len v ≡ length v.items = v.ok.0 in
    let after : deque_len w ≡ length w.items = w.ok.0 in
    let fits : deque_len v ≤ deque_capacity v = v.small.1 in
    let less : length w.items ≡ length v.items - 1 = ap length rest ∙ length-drop 1 v.items in
    omega arith

pub on_err_with : {T E : Type 0} (P Q : Type 0) (r : Result T E) → OnErr r P → Q → OnErr r (Q × P)
on_err_with P Q (Ok x) p q = tt
on_err_with P Q (Err e) p q = (q, p)

-- one id less
pub fewer_after : (v w : Ids) → w.items ≡ drop 1 v.items → deque_len w ≤ deque_len v
fewer_after v w rest =
    let before : deque_len v ≡ length v.items = v.ok.0 in
    let after : deque_len w ≡ length w.items = w.ok.0 in
    let less : length w.items ≡ length v.items - 1 = ap length rest ∙ length-drop 1 v.items in
    omega arith

-- an id that was taken out was there
pub some_taken : (o : Option ℕ) (l rest : List ℕ) → l ≡ option_to_list o ++ rest → is_some o ≡ true → 0 < length l
some_taken None l rest is some = cc
some_taken (Some id) l rest is some = rw is (omega arith)

-- whether a priority is a given one
pub is_another : (o : Option ℤ) (p : ℤ) → true ≡ not (option_eq int_eq o (Some p)) → o ≢ Some p
is_another o p h e =
    let same : int_eq p p ≡ true = (signed_Decides p p).1 refl in
    let f : true ≡ not (option_eq int_eq (Some p) (Some p)) = rw e at h in
    let g = rw same at f in
    cc

pub is_that : (o : Option ℤ) (p : ℤ) → false ≡ not (option_eq int_eq o (Some p)) → o ≡ Some p
is_that None p h = cc
is_that (Some q) p h = ap (λ (k : ℤ). Some k) ((signed_Decides q p).0 (tested (int_eq q p) h))
  where
    tested : (b : Bool) → false ≡ not b → b ≡ true
    tested true e = refl
    tested false e = cc
