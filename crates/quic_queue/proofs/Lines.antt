-- What a change of the levels does to the entries that callers see.
use Rattle.std.proofs.Common.{◌≡◌, ℕ, ℤ, ◌<◌, Bool, true, false, ◌||◌, List, [], ◌∷◌, ◌++◌, map, drop, length, Some, None, refl, sym, ap, ◌∙◌, subst, arith}
use Rattle.std.specs.Prelude.{Option, int_lt, slice_get, IsSomeAnd, IfSome}
use Rattle.std.specs.declared.cmp.Ordering.{Ordering}
use Rattle.std.specs.declared.cmp.Ordering.TheVariants.{Less, Equal, Greater}
use Rattle.std.specs.declared.cmp.Reverse.{Reverse}
use Rattle.std.specs.Ordering.{match_ordering}
use Rattle.std.specs.BTreeMap.{insert_entry}
use Rattle.std.specs.Map.{lookup, set_value, remove_entry, keys_of}
use Rattle.std.specs.List.{All, AllByRecursion, list_any}
use Rattle.std.specs.BTreeMap.Range.{IsLeBy}
use Rattle.std.proofs.lemmas.Map.{keys-set_value}
use Rattle.std.specs.List.Sorted.{IsStrictlySortedBy}
use Rattle.std.proofs.lemmas.List.{map-append, append_assoc}
use Rattle.std.proofs.lemmas.List.Elements.{All-from_recursion, recursion_from_All}
use Rattle.quic_queue.specs.declared.queue.Entry.{Entry}
use Rattle.quic_queue.specs.SendOrder.{put, ids_of, NoneIsHigher}
use Rattle.quic_queue.specs.Levels.{Ids, falling, entries_at, entries_of, FirstIsEmpty, IsFirstPriority}
use Rattle.quic_queue.proofs.Comparing.{by_test, at, at-is, at-itself, at-lower, lower, not_lower, not_below_itself, not_greater}

abbrev pub Level : Type 0
Level = Reverse ℤ × Ids

pub some_is : {X : Type 0} (x y : X) → Some x ≡ Some y → x ≡ y
some_is x y e = cc

-- ---- what does not show

here_same : (e : Level) (w v : Ids) → Some e.1 ≡ Some v → w.items ≡ v.items → entries_at (e.0, w) ≡ entries_at e
here_same e w v found same = let k : e.1 ≡ v = some_is e.1 v found in rw (same, ap (λ (i : Ids). i.items) (sym k)) refl

pub entries_of-set_same : (p : ℤ) (es : List Level) (v w : Ids) → lookup (at p) es ≡ Some v → w.items ≡ v.items → entries_of (set_value (at p) es w) ≡ entries_of es
entries_of-set_same p [] v w found same = refl
entries_of-set_same p (e ∷ es) v w found same =
    let more = entries_of-set_same p es v w in
    by_test (at p e.0)
    (λ t. let f : Some e.1 ≡ Some v = rw t at found in rw t (ap (λ l. l ++ entries_of es) (here_same e w v f same)))
    (λ t. let f : lookup (at p) es ≡ Some v = rw t at found in rw t (ap (λ l. entries_at e ++ l) (more f same)))

pub entries_of-remove : (p : ℤ) (es : List Level) (v : Ids) → lookup (at p) es ≡ Some v → v.items ≡ [] → entries_of (remove_entry (at p) es) ≡ entries_of es
entries_of-remove p [] v found none = refl
entries_of-remove p (e ∷ es) v found none =
    let more = entries_of-remove p es v in
    by_test (at p e.0)
    (λ t. let f : Some e.1 ≡ Some v = rw t at found in
    let k : e.1.items ≡ [] = ap (λ (i : Ids). i.items) (some_is e.1 v f) ∙ none in
    rw (t, k) refl)
    (λ t. let f : lookup (at p) es ≡ Some v = rw t at found in rw t (ap (λ l. entries_at e ++ l) (more f none)))

inserted : (p : ℤ) (e : Level) (es after : List Level) (w : Ids) (o : Ordering) → falling (record { 0 = p }) e.0 ≡ o → lookup (at p) (e ∷ es) ≡ None → w.items ≡ []
    → (lookup (at p) es ≡ None → entries_of after ≡ entries_of es)
    → entries_of (match_ordering o ((record { 0 = p }, w) ∷ e ∷ es) ((e.0, w) ∷ es) (e ∷ after)) ≡ entries_of (e ∷ es)
inserted p e es after w Less h absent none more = rw none refl
inserted p e es after w Equal h absent none more =
    let t : at p e.0 ≡ true = rw h refl in
    let f : Some e.1 ≡ None = rw t at absent in
    cc
inserted p e es after w Greater h absent none more =
    let t : at p e.0 ≡ false = rw h refl in
    let f : lookup (at p) es ≡ None = rw t at absent in
    ap (λ l. entries_at e ++ l) (more f)

pub entries_of-insert : (p : ℤ) (es : List Level) (w : Ids) → lookup (at p) es ≡ None → w.items ≡ [] → entries_of (insert_entry falling es (record { 0 = p }) w) ≡ entries_of es
entries_of-insert p [] w absent none = rw none refl
entries_of-insert p (e ∷ es) w absent none =
    inserted p e es (insert_entry falling es (record { 0 = p }) w) w (falling (record { 0 = p }) e.0) refl absent none (λ f. entries_of-insert p es w f none)

-- ---- levels fall

-- each level is below a priority
abbrev pub AreBelow : ℤ → List (Reverse ℤ) → Type 0
AreBelow q ks = AllByRecursion (λ k. falling (record { 0 = q }) k ≡ Less) ks

pub head_above : (e : Level) (es : List Level) → IsStrictlySortedBy falling (keys_of (e ∷ es)) → AreBelow e.0.0 (keys_of es)
unfolding IsStrictlySortedBy
head_above e es h = h.0

pub tail_falls : (e : Level) (es : List Level) → IsStrictlySortedBy falling (keys_of (e ∷ es)) → IsStrictlySortedBy falling (keys_of es)
unfolding IsStrictlySortedBy
tail_falls e es h = h.1

-- a level that stands there is below what all are below
pub found_below : (q p : ℤ) (es : List Level) (v : Ids) → AreBelow q (keys_of es) → lookup (at p) es ≡ Some v → int_lt p q ≡ true
found_below q p [] v below found = absurd cc
found_below q p (e ∷ es) v below found =
    let more = found_below q p es v in
    by_test (at p e.0)
    (λ t. rw (sym (at-is p e.0 t)) (lower e.0.0 q below.0))
    (λ t. let f : lookup (at p) es ≡ Some v = rw t at found in more below.1 f)

-- the entries of levels below a priority are below it
pub entries_below : (q : ℤ) (es : List Level) → AreBelow q (keys_of es) → AllByRecursion (λ (x : Entry). int_lt x.priority q ≡ true) (entries_of es)
entries_below q [] below = tt
entries_below q (e ∷ es) below = each e.1.items (lower e.0.0 q below.0) (entries_below q es below.1)
  where
    each : (ids : List ℕ) → int_lt e.0.0 q ≡ true → AllByRecursion (λ (x : Entry). int_lt x.priority q ≡ true) (entries_of es) → AllByRecursion (λ (x : Entry). int_lt x.priority q ≡ true) (map (λ id. record { priority = e.0.0; id = id }) ids ++ entries_of es)
    each [] l rest = rest
    each (id ∷ ids) l rest = (l, each ids l rest)

-- ---- one entry more

put-first : (l : List Entry) (x : Entry) → AllByRecursion (λ (y : Entry). int_lt y.priority x.priority ≡ true) l → put l x ≡ x ∷ l
put-first [] x h = refl
put-first (y ∷ l) x h = let t = h.0 in rw t refl

pub put-past : (k : ℤ) (ids : List ℕ) (l : List Entry) (x : Entry) → int_lt k x.priority ≡ false
    → put (map (λ id. record { priority = k; id = id }) ids ++ l) x ≡ map (λ id. record { priority = k; id = id }) ids ++ put l x
put-past k [] l x h = refl
put-past k (id ∷ ids) l x h = let more = put-past k ids l x h in rw h (ap (λ (t : List Entry). record { priority = k; id = id } ∷ t) more)

-- behind those of its level
pub put_here : (k : ℤ) (ids after : List ℕ) (id : ℕ) (l : List Entry) → after ≡ ids ++ id ∷ [] → AllByRecursion (λ (y : Entry). int_lt y.priority k ≡ true) l
    → map (λ i. record { priority = k; id = i }) after ++ l ≡ put (map (λ i. record { priority = k; id = i }) ids ++ l) (record { priority = k; id = id })
put_here k ids after id l same below =
    let x : Entry = record { priority = k; id = id } in
    let each : ℕ → Entry = λ i. record { priority = k; id = i } in
    ap (λ t. map each t ++ l) same
    ∙ ap (λ t. t ++ l) (map-append each ids (id ∷ []))
    ∙ append_assoc (map each ids) (x ∷ []) l
    ∙ ap (λ t. map each ids ++ t) (sym (put-first l x below))
    ∙ sym (put-past k ids l x (not_below_itself k))

pub entries_of-push : (p : ℤ) (es : List Level) (v w : Ids) (id : ℕ) → IsStrictlySortedBy falling (keys_of es) → lookup (at p) es ≡ Some v → w.items ≡ v.items ++ id ∷ []
    → entries_of (set_value (at p) es w) ≡ put (entries_of es) (record { priority = p; id = id })
entries_of-push p [] v w id falls found same = absurd cc
entries_of-push p (e ∷ es) v w id falls found same =
    let more = entries_of-push p es v w id (tail_falls e es falls) in
    by_test (at p e.0)
    (λ t.
    let f : Some e.1 ≡ Some v = rw t at found in
    let k : e.0.0 ≡ p = at-is p e.0 t in
    let i : w.items ≡ e.1.items ++ id ∷ [] = same ∙ ap (λ (i : Ids). i.items ++ id ∷ []) (sym (some_is e.1 v f)) in
    rw t (put_here e.0.0 e.1.items w.items id (entries_of es) i (entries_below e.0.0 es (head_above e es falls))
    ∙ ap (λ (q : ℤ). put (entries_at e ++ entries_of es) (record { priority = q; id = id })) k))
    (λ t.
    let f : lookup (at p) es ≡ Some v = rw t at found in
    let low = found_below e.0.0 p es v (head_above e es falls) f in
    rw t (ap (λ l. entries_at e ++ l) (more f same)
    ∙ sym (put-past e.0.0 e.1.items (entries_of es) (record { priority = p; id = id }) (not_lower p e.0.0 low))))

-- ---- the first entry goes

first_lower : (q : ℤ) (l : List Entry) (x : Entry) → AllByRecursion (λ (y : Entry). int_lt y.priority q ≡ true) l → slice_get l 0 ≡ Some x → int_lt x.priority q ≡ true
first_lower q [] x below first = absurd cc
first_lower q (y ∷ l) x below first = rw (ap (λ (z : Entry). z.priority) (sym (some_is y x first))) below.0

-- the level of the first entry has ids
pub first_found : (es : List Level) (x : Entry) → IsStrictlySortedBy falling (keys_of es) → slice_get (entries_of es) 0 ≡ Some x
    → (v : Ids) × (lookup (at x.priority) es ≡ Some v) × (0 < length v.items)
first_found [] x falls first = absurd cc
first_found (e ∷ es) x falls first = found e.1.items refl (first_found es x (tail_falls e es falls))
  where
    found : (ids : List ℕ) → e.1.items ≡ ids → (slice_get (entries_of es) 0 ≡ Some x → (v : Ids) × (lookup (at x.priority) es ≡ Some v) × (0 < length v.items))
        → (v : Ids) × (lookup (at x.priority) (e ∷ es) ≡ Some v) × (0 < length v.items)
    found [] same more =
        let f : slice_get (entries_of es) 0 ≡ Some x = rw same at first in
        let low = first_lower e.0.0 (entries_of es) x (entries_below e.0.0 es (head_above e es falls)) f in
        let later = more f in
        (later.0, rw (at-lower x.priority e.0 low) later.1, later.2)
    found (id ∷ ids) same more =
        let f : Some (record { priority = e.0.0; id = id }) ≡ Some x = rw same at first in
        let k : e.0.0 ≡ x.priority = ap (λ (y : Entry). y.priority) (some_is (record { priority = e.0.0; id = id }) x f) in
        (e.1, rw (at-itself x.priority e.0 k) refl, rw same (omega arith))

pub entries_of-pop : (p : ℤ) (es : List Level) (x : Entry) (v w : Ids) → IsStrictlySortedBy falling (keys_of es) → slice_get (entries_of es) 0 ≡ Some x → x.priority ≡ p
    → lookup (at p) es ≡ Some v → w.items ≡ drop 1 v.items → entries_of (set_value (at p) es w) ≡ drop 1 (entries_of es)
entries_of-pop p [] x v w falls first is found same = absurd cc
entries_of-pop p (e ∷ es) x v w falls first is found same = popped e.1.items refl (λ f. entries_of-pop p es x v w (tail_falls e es falls) f is)
  where
    popped : (ids : List ℕ) → e.1.items ≡ ids → (slice_get (entries_of es) 0 ≡ Some x → lookup (at p) es ≡ Some v → w.items ≡ drop 1 v.items → entries_of (set_value (at p) es w) ≡ drop 1 (entries_of es))
        → entries_of (set_value (at p) (e ∷ es) w) ≡ drop 1 (entries_at e ++ entries_of es)
    popped [] empty more =
        let f : slice_get (entries_of es) 0 ≡ Some x = rw empty at first in
        let low = first_lower e.0.0 (entries_of es) x (entries_below e.0.0 es (head_above e es falls)) f in
        let t : at p e.0 ≡ false = at-lower p e.0 (rw (sym is) low) in
        let g : lookup (at p) es ≡ Some v = rw t at found in
        rw t (rw empty (more f g same))
    popped (id ∷ ids) some more =
        let f : Some (record { priority = e.0.0; id = id }) ≡ Some x = rw some at first in
        let k : e.0.0 ≡ p = ap (λ (y : Entry). y.priority) (some_is (record { priority = e.0.0; id = id }) x f) ∙ is in
        let t = at-itself p e.0 k in
        let g : Some e.1 ≡ Some v = rw t at found in
        let i : w.items ≡ ids = same ∙ ap (λ (i : Ids). drop 1 i.items) (sym (some_is e.1 v g)) ∙ ap (drop 1) some in
        rw t (rw (i, some) refl)

pub first_priority : (es : List Level) (p : ℤ) → IsFirstPriority es p → (x : Entry) × (slice_get (entries_of es) 0 ≡ Some x) × (x.priority ≡ p)
first_priority es p h = told (slice_get (entries_of es) 0) refl h
  where
    told : (o : Option Entry) → slice_get (entries_of es) 0 ≡ o → IsSomeAnd o (λ e. e.priority ≡ p) → (x : Entry) × (slice_get (entries_of es) 0 ≡ Some x) × (x.priority ≡ p)
    told None e k = absurd k
    told (Some x) e k = (x, e, k)

-- the level of the first entry has ids
pub first_has_ids : (es : List Level) (p : ℤ) (v : Ids) → IsStrictlySortedBy falling (keys_of es) → IsFirstPriority es p → lookup (at p) es ≡ Some v → 0 < length v.items
first_has_ids es p v falls is found =
    let first = first_priority es p is in
    let there = first_found es first.0 falls first.1 in
    let same : Some there.0 ≡ Some v = sym (rw first.2 at there.1) ∙ found in
    rw (ap (λ (i : Ids). i.items) (sym (some_is there.0 v same))) there.2

-- ---- the first entry goes behind the others of its level

set_again : (p : ℤ) (es : List Level) (u w : Ids) → set_value (at p) (set_value (at p) es u) w ≡ set_value (at p) es w
set_again p [] u w = refl
set_again p (e ∷ es) u w =
    let more = set_again p es u w in
    by_test (at p e.0) (λ t. rw (t, t) refl) (λ t. rw (t, t) (ap (λ (l : List Level). e ∷ l) more))

found_again : (p : ℤ) (es : List Level) (v u : Ids) → lookup (at p) es ≡ Some v → lookup (at p) (set_value (at p) es u) ≡ Some u
found_again p [] v u found = absurd cc
found_again p (e ∷ es) v u found =
    let more = found_again p es v u in
    by_test (at p e.0)
    (λ t. rw (t, t) refl)
    (λ t. let f : lookup (at p) es ≡ Some v = rw t at found in rw (t, t) (more f))

pub entries_of-turn : (p : ℤ) (es : List Level) (id : ℕ) (v u w : Ids) → IsStrictlySortedBy falling (keys_of es) → slice_get (entries_of es) 0 ≡ Some (record { priority = p; id = id })
    → lookup (at p) es ≡ Some v → u.items ≡ drop 1 v.items → w.items ≡ u.items ++ id ∷ []
    → entries_of (set_value (at p) es w) ≡ put (drop 1 (entries_of es)) (record { priority = p; id = id })
entries_of-turn p es id v u w falls first found popped pushed =
    let x : Entry = record { priority = p; id = id } in
    let still = subst (IsStrictlySortedBy falling) (sym (keys-set_value (at p) es u)) falls in
    ap entries_of (sym (set_again p es u w))
    ∙ entries_of-push p (set_value (at p) es u) u w id still (found_again p es v u found) pushed
    ∙ ap (λ l. put l x) (entries_of-pop p es x v u falls first refl found popped)

-- ---- a test of each id

any_first : (a b c d : Bool) → b ≡ (c || d) → (a || b) ≡ ((a || c) || d)
any_first true b c d h = refl
any_first false b c d h = h

any-level : (p : ℕ → Bool) (k : ℤ) (ids : List ℕ) (l : List Entry) → list_any p (ids_of (map (λ id. record { priority = k; id = id }) ids ++ l)) ≡ (list_any p ids || list_any p (ids_of l))
any-level p k [] l = refl
any-level p k (id ∷ ids) l = any_first (p id) _ _ _ (any-level p k ids l)

pub any_here : (p : ℕ → Bool) (e : Level) (es all : List Level) → es ≡ e ∷ all → list_any p e.1.items ≡ true → list_any p (ids_of (entries_of es)) ≡ true
any_here p e es all is here = ap (λ l. list_any p (ids_of (entries_of l))) is ∙ any-level p e.0.0 e.1.items (entries_of all) ∙ rw here refl

pub any_later : (p : ℕ → Bool) (e : Level) (es all : List Level) → es ≡ e ∷ all → list_any p e.1.items ≡ false → list_any p (ids_of (entries_of es)) ≡ list_any p (ids_of (entries_of all))
any_later p e es all is here = ap (λ l. list_any p (ids_of (entries_of l))) is ∙ any-level p e.0.0 e.1.items (entries_of all) ∙ rw here refl

-- ---- the first entry is of the highest priority

pub not_above : (k : ℤ) (l : List Entry) → AllByRecursion (λ (y : Entry). int_lt y.priority k ≡ true) l → AllByRecursion (λ (y : Entry). int_lt k y.priority ≡ false) l
not_above k [] h = tt
not_above k (y ∷ l) h = (not_lower y.priority k h.0, not_above k l h.1)

pub level_not_above : (k : ℤ) (ids : List ℕ) (l : List Entry) → AllByRecursion (λ (y : Entry). int_lt k y.priority ≡ false) l → AllByRecursion (λ (y : Entry). int_lt k y.priority ≡ false) (map (λ id. record { priority = k; id = id }) ids ++ l)
level_not_above k [] l h = h
level_not_above k (id ∷ ids) l h = (not_below_itself k, level_not_above k ids l h)

none_higher : (es : List Level) (x : Entry) → IsStrictlySortedBy falling (keys_of es) → slice_get (entries_of es) 0 ≡ Some x → AllByRecursion (λ (y : Entry). int_lt x.priority y.priority ≡ false) (entries_of es)
none_higher [] x falls first = tt
none_higher (e ∷ es) x falls first = at_items e.1.items refl (none_higher es x (tail_falls e es falls))
  where
    at_items : (ids : List ℕ) → e.1.items ≡ ids → (slice_get (entries_of es) 0 ≡ Some x → AllByRecursion (λ (y : Entry). int_lt x.priority y.priority ≡ false) (entries_of es)) → AllByRecursion (λ (y : Entry). int_lt x.priority y.priority ≡ false) (entries_at e ++ entries_of es)
    at_items [] same more = let f : slice_get (entries_of es) 0 ≡ Some x = rw same at first in rw same (more f)
    at_items (id ∷ ids) same more =
        let f : Some (record { priority = e.0.0; id = id }) ≡ Some x = rw same at first in
        let k : e.0.0 ≡ x.priority = ap (λ (y : Entry). y.priority) (some_is (record { priority = e.0.0; id = id }) x f) in
        let P : ℤ → Type 0 = λ q. AllByRecursion (λ (y : Entry). int_lt q y.priority ≡ false) (entries_at e ++ entries_of es) in
        subst P k (level_not_above e.0.0 e.1.items (entries_of es) (not_above e.0.0 (entries_of es) (entries_below e.0.0 es (head_above e es falls))))

pub first_is_highest : (es : List Level) (o : Option Entry) → IsStrictlySortedBy falling (keys_of es) → o ≡ slice_get (entries_of es) 0 → IfSome o (λ e. NoneIsHigher e.priority (entries_of es))
first_is_highest es None falls first = tt
first_is_highest es (Some x) falls first = All-from_recursion (λ (y : Entry). int_lt x.priority y.priority ≡ false) (entries_of es) (none_higher es x falls (sym first))

-- ---- the first level

pub first_shown : (es : List Level) (k : Reverse ℤ) (v : Ids) (id : ℕ) → slice_get es 0 ≡ Some (k, v) → slice_get v.items 0 ≡ Some id
    → slice_get (entries_of es) 0 ≡ Some (record { priority = k.0; id = id })
first_shown [] k v id there some = absurd cc
first_shown (e ∷ es) k v id there some = shown e.1.items refl
  where
    same : e ≡ (k, v)
    same = some_is e (k, v) there

    shown : (ids : List ℕ) → e.1.items ≡ ids → slice_get (entries_at e ++ entries_of es) 0 ≡ Some (record { priority = k.0; id = id })
    shown [] is =
        let none : v.items ≡ [] = ap (λ (l : Level). l.1.items) (sym same) ∙ is in
        let f : None ≡ Some id = rw none at some in
        absurd cc
    shown (i ∷ ids) is =
        let here : v.items ≡ i ∷ ids = ap (λ (l : Level). l.1.items) (sym same) ∙ is in
        let f : Some i ≡ Some id = rw here at some in
        rw is (ap (λ (l : Level). Some (record { priority = l.0.0; id = i })) same ∙ ap (λ (j : ℕ). Some (record { priority = k.0; id = j })) (some_is i id f))

pub none_shown : (es : List Level) → length es ≡ 0 → slice_get (entries_of es) 0 ≡ None
none_shown [] h = refl
none_shown (e ∷ es) h = absurd (omega arith)

none_above : (k : ℤ) (es : List Level) → AllByRecursion (IsLeBy falling (record { 0 = k })) (keys_of es) → AllByRecursion (λ (y : Entry). int_lt k y.priority ≡ false) (entries_of es)
none_above k [] h = tt
none_above k (e ∷ es) h = each e.1.items (not_greater e.0.0 k h.0) (none_above k es h.1)
  where
    each : (ids : List ℕ) → int_lt k e.0.0 ≡ false → AllByRecursion (λ (y : Entry). int_lt k y.priority ≡ false) (entries_of es) → AllByRecursion (λ (y : Entry). int_lt k y.priority ≡ false) (map (λ id. record { priority = e.0.0; id = id }) ids ++ entries_of es)
    each [] l rest = rest
    each (id ∷ ids) l rest = (l, each ids l rest)

-- no entry is above the first level
pub first_level_is_highest : (k : ℤ) (es : List Level) → All (IsLeBy falling (record { 0 = k })) (keys_of es) → NoneIsHigher k (entries_of es)
first_level_is_highest k es h =
    All-from_recursion (λ (y : Entry). int_lt k y.priority ≡ false) (entries_of es) (none_above k es (recursion_from_All (IsLeBy falling (record { 0 = k })) (keys_of es) h))

-- the only level has no ids, so there are no entries
pub only_empty : (levels : List (Reverse ℤ × Ids)) → length levels ≡ 1 → FirstIsEmpty levels → entries_of levels ≡ []
only_empty [] one empty = refl
only_empty (level ∷ []) one empty = rw empty refl
only_empty (level ∷ next ∷ levels) one empty = absurd (omega (arith, one))
