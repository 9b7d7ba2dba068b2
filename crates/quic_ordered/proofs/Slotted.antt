-- Pieces in the slots of a slab.
use Rattle.std.proofs.Common.{◌≡◌, ◌≢◌, ℕ, ◌+◌, ◌<◌, ◌≤◌, ◌^◌, ◌⊎◌, Bool, true, false, cond, refl, sym, ap, subst, ◌∙◌, inl, inr, List, [], ◌∷◌, ◌++◌, length, map, arith, zero, suc, get_or, drop, Option, Some, None}
use Rattle.std.specs.Prelude.{slice_index_or, IsSome, is_some, nat_le, if◌then◌else◌, ◌*◌, ◌/◌, ◌&&◌, IfSome, IfNone, IfOk, Result, Ok, Err}
use Rattle.std.specs.List.{remove_range, All}
use Rattle.std.specs.Option.{unwrap_or, option_map}
use Rattle.std.specs.Map.{keys_of, lookup, remove_entry, set_value}
use Rattle.std.specs.BTreeMap.{is_at, insert_entry}
use Rattle.std.specs.Ordering.{nat_cmp, is_le}
use Rattle.std.specs.Cmp.{nat_cmp_total}
use Rattle.std.specs.List.Sorted.{IsStrictlySortedBy}
use Rattle.std.proofs.lemmas.Bool.{cases_lt, cases_eq}
use Rattle.std.proofs.lemmas.List.Elements.{All-head, All-tail}
use Rattle.std.proofs.lemmas.Bool.Decides.{nat_tests}
use Rattle.std.proofs.Math.ListN.{drop_of_length-le}
use Rattle.std.proofs.lemmas.List.{get_or-map, length-map, length-append}
use Rattle.std.proofs.lemmas.Map.{keys-set_value}
use Rattle.std.proofs.lemmas.Map.Made.{lookup-map_values}
use Rattle.std.proofs.lemmas.Map.Keys.{sorted_from_all_adjacent, sorted_tail}
use Rattle.slab.specs.Slab.{Slab, get, ContainsKey, Updates}
use Rattle.block_map.specs.Sorted.{KeyAndValue, KeysRise, IsLastUpTo, IsFirstFrom}
use Rattle.block_map.proofs.Keyed.{rises_rest, lookup_none, lookup_here, without_here, none_here}
use Rattle.quic_assembler.specs.Piece.{PieceView, run_end}
use Rattle.quic_ordered.specs.Entries.{piece_at, piece_of, NoPieceBegins, IsFirstPiece, IsLastPiece}
use Rattle.quic_ordered.specs.Rows.{RiseByKey, FitsWords, tidied, joined_with}
use Rattle.block_map.specs.declared.map.Place.{Place}
use Rattle.block_map.specs.Rows.{place_among}
use Rattle.quic_ordered.specs.Slotted.{in_slot, in_slots, slot_at, AreSlots, as_slots, from_place}
use Rattle.quic_ordered.proofs.Firsts.{less}
use Rattle.quic_ordered.proofs.Placed.{same_map, after_not}
use Rattle.quic_ordered.proofs.Order.{after_head}
use Rattle.quic_ordered.proofs.Compacting.{tidied_is}
use Rattle.quic_ordered.proofs.Passing.{from_on}

-- ---- keys and look-ups

pub keys_in : (s : Slab PieceView) (es : List KeyAndValue) → keys_of (in_slots s es) ≡ keys_of es
keys_in s [] = refl
keys_in s (e ∷ es) = ap (λ (ks : List ℕ). e.0 ∷ ks) (keys_in s es)

pub rises_keys : (es : List KeyAndValue) → KeysRise es → IsStrictlySortedBy nat_cmp (keys_of es)
rises_keys es r = sorted_from_all_adjacent nat_cmp_total (keys_of es) 0 (λ k lt.
    let d : KeyAndValue = (0, 0) in
    let n = length-map es (λ (e : KeyAndValue). e.0) in
    let a = get_or-map (λ (e : KeyAndValue). e.0) es k d 0 (omega (arith, lt, n)) in
    let b = get_or-map (λ (e : KeyAndValue). e.0) es (k + 1) d 0 (omega (arith, lt, n)) in
    let l = r k (k + 1) d d (omega arith) (omega (arith, lt, n)) in
    less (get_or (keys_of es) k 0) (get_or (keys_of es) (k + 1) 0) (omega (arith, a, b, l)))

pub rises_in : (s : Slab PieceView) (es : List KeyAndValue) → KeysRise es → RiseByKey (in_slots s es)
rises_in s es r = subst (IsStrictlySortedBy nat_cmp) (sym (keys_in s es)) (rises_keys es r)

pub found_in_slot : (s : Slab PieceView) (es : List KeyAndValue) (q : ℕ) → piece_at (in_slots s es) q ≡ option_map (in_slot s) (slot_at es q)
found_in_slot s es q = lookup-map_values (in_slot s) (is_at (nat_cmp q)) es

pub found_some : (s : Slab PieceView) (es : List KeyAndValue) (q k : ℕ) → slot_at es q ≡ Some k → piece_at (in_slots s es) q ≡ Some (in_slot s k)
found_some s es q k found = found_in_slot s es q ∙ ap (λ (o : Option ℕ). option_map (in_slot s) o) found

pub found_none : (s : Slab PieceView) (es : List KeyAndValue) (q : ℕ) → slot_at es q ≡ None → piece_at (in_slots s es) q ≡ None
found_none s es q found = found_in_slot s es q ∙ ap (λ (o : Option ℕ). option_map (in_slot s) o) found

slot_none : (s : Slab PieceView) (o : Option ℕ) → option_map (in_slot s) o ≡ None → o ≡ None
slot_none s None e = refl
slot_none s (Some k) e = absurd cc

pub none_found : (s : Slab PieceView) (es : List KeyAndValue) (q : ℕ) → piece_at (in_slots s es) q ≡ None → slot_at es q ≡ None
none_found s es q none = slot_none s (slot_at es q) (sym (found_in_slot s es q) ∙ none)

is_some_map : (s : Slab PieceView) (o : Option ℕ) → is_some o ≡ is_some (option_map (in_slot s) o)
is_some_map s None = refl
is_some_map s (Some k) = refl

pub is_some_in : (s : Slab PieceView) (es : List KeyAndValue) (q : ℕ) → is_some (slot_at es q) ≡ is_some (piece_at (in_slots s es) q)
is_some_in s es q = is_some_map s (slot_at es q) ∙ ap (λ (o : Option PieceView). is_some o) (sym (found_in_slot s es q))

-- a slot that is held has its piece
pub held_is : (s : Slab PieceView) (k : ℕ) → ContainsKey s k → get s k ≡ Some (in_slot s k)
held_is s k held = by (get s k) held
  where
    by : (o : Option PieceView) → IsSome o → o ≡ Some (unwrap_or o (piece_of 0 [] 0))
    by None h = absurd cc
    by (Some v) h = refl

pub in_slot_is : (s : Slab PieceView) (k : ℕ) (v : PieceView) → get s k ≡ Some v → in_slot s k ≡ v
in_slot_is s k v e = ap (λ (o : Option PieceView). unwrap_or o (piece_of 0 [] 0)) e

-- ---- slots that keep their pieces

same_map_in : (s s' : Slab PieceView) (o : Option ℕ) → ((k : ℕ) → o ≡ Some k → get s' k ≡ get s k) → option_map (in_slot s') o ≡ option_map (in_slot s) o
same_map_in s s' None same = refl
same_map_in s s' (Some k) same = ap (λ (o : Option PieceView). Some (unwrap_or o (piece_of 0 [] 0))) (same k refl)

pub same_in : (s s' : Slab PieceView) (es : List KeyAndValue) → KeysRise es → ((q k : ℕ) → slot_at es q ≡ Some k → get s' k ≡ get s k) → in_slots s' es ≡ in_slots s es
same_in s s' es r same = same_map (in_slots s' es) (in_slots s es) (rises_in s' es r) (rises_in s es r) (λ q.
    found_in_slot s' es q ∙ (same_map_in s s' (slot_at es q) (λ k e. same q k e) ∙ sym (found_in_slot s es q)))

pub some_kept : (s s' : Slab PieceView) (k : ℕ) → get s' k ≡ get s k → ContainsKey s k → ContainsKey s' k
some_kept s s' k same held = subst (λ (o : Option PieceView). IsSome o) (sym same) held

-- ---- what is put in, written over and taken out, at each key

same_test : (q k : ℕ) → q ≡ k → is_at (nat_cmp q) k ≡ true
same_test q k e = grind (arith, nat_tests)

apart_test : (q k : ℕ) → q ≢ k → is_at (nat_cmp q) k ≡ false
apart_test q k e = grind (arith, nat_tests)

module _ {X : Type 0} where
  head_at : (e : ℕ × X) (es : List (ℕ × X)) (q : ℕ) → q ≡ e.0 → lookup (is_at (nat_cmp q)) (e ∷ es) ≡ Some e.1
  head_at e es q same = ap (λ (b : Bool). cond b (Some e.1) (lookup (is_at (nat_cmp q)) es)) (same_test q e.0 same)

  tail_at : (e : ℕ × X) (es : List (ℕ × X)) (q : ℕ) → q ≢ e.0 → lookup (is_at (nat_cmp q)) (e ∷ es) ≡ lookup (is_at (nat_cmp q)) es
  tail_at e es q apart = ap (λ (b : Bool). cond b (Some e.1) (lookup (is_at (nat_cmp q)) es)) (apart_test q e.0 apart)

  put_before : (e : ℕ × X) (es : List (ℕ × X)) (k : ℕ) (v : X) → k < e.0 → insert_entry nat_cmp (e ∷ es) k v ≡ (k, v) ∷ e ∷ es
  put_before e es k v lt = grind (arith, nat_tests)

  put_here : (e : ℕ × X) (es : List (ℕ × X)) (k : ℕ) (v : X) → k ≡ e.0 → insert_entry nat_cmp (e ∷ es) k v ≡ (e.0, v) ∷ es
  put_here e es k v same = grind (arith, nat_tests)

  put_behind : (e : ℕ × X) (es : List (ℕ × X)) (k : ℕ) (v : X) → e.0 < k → insert_entry nat_cmp (e ∷ es) k v ≡ e ∷ insert_entry nat_cmp es k v
  put_behind e es k v lt = grind (arith, nat_tests)

  pub insert_at : (es : List (ℕ × X)) (k : ℕ) (v : X) → lookup (is_at (nat_cmp k)) (insert_entry nat_cmp es k v) ≡ Some v
  insert_at [] k v = head_at (k, v) [] k refl
  insert_at (e ∷ es) k v =
      elim (cases_eq k e.0) [
        | inl same ↦ rw (put_here e es k v same) (head_at (e.0, v) es k same)
        | inr ne ↦ elim (cases_lt k e.0) [
          | inl lt ↦ rw (put_before e es k v lt) (head_at (k, v) (e ∷ es) k refl)
          | inr ge ↦ rw (put_behind e es k v (omega (arith, ge, ne))) (tail_at e (insert_entry nat_cmp es k v) k ne ∙ insert_at es k v)
        ]
      ]

  pub insert_apart : (es : List (ℕ × X)) (k q : ℕ) (v : X) → q ≢ k → lookup (is_at (nat_cmp q)) (insert_entry nat_cmp es k v) ≡ lookup (is_at (nat_cmp q)) es
  insert_apart [] k q v apart = tail_at (k, v) [] q apart
  insert_apart (e ∷ es) k q v apart =
      elim (cases_eq k e.0) [
        | inl same ↦ rw (put_here e es k v same) (tail_at (e.0, v) es q (λ s. apart (s ∙ sym same)) ∙ sym (tail_at e es q (λ s. apart (s ∙ sym same))))
        | inr ne ↦ elim (cases_lt k e.0) [
          | inl lt ↦ rw (put_before e es k v lt) (tail_at (k, v) (e ∷ es) q apart)
          | inr ge ↦ rw (put_behind e es k v (omega (arith, ge, ne))) (elim (cases_eq q e.0) [
            | inl here ↦ head_at e (insert_entry nat_cmp es k v) q here ∙ sym (head_at e es q here)
            | inr there ↦ tail_at e (insert_entry nat_cmp es k v) q there ∙ (insert_apart es k q v apart ∙ sym (tail_at e es q there))
          ])
        ]
      ]

  set_here : (e : ℕ × X) (es : List (ℕ × X)) (q : ℕ) (w : X) → q ≡ e.0 → set_value (is_at (nat_cmp q)) (e ∷ es) w ≡ (e.0, w) ∷ es
  set_here e es q w same = ap (λ (b : Bool). cond b ((e.0, w) ∷ es) (e ∷ set_value (is_at (nat_cmp q)) es w)) (same_test q e.0 same)

  set_there : (e : ℕ × X) (es : List (ℕ × X)) (q : ℕ) (w : X) → q ≢ e.0 → set_value (is_at (nat_cmp q)) (e ∷ es) w ≡ e ∷ set_value (is_at (nat_cmp q)) es w
  set_there e es q w apart = ap (λ (b : Bool). cond b ((e.0, w) ∷ es) (e ∷ set_value (is_at (nat_cmp q)) es w)) (apart_test q e.0 apart)

  pub set_at : (es : List (ℕ × X)) (q : ℕ) (v w : X) → lookup (is_at (nat_cmp q)) es ≡ Some v → lookup (is_at (nat_cmp q)) (set_value (is_at (nat_cmp q)) es w) ≡ Some w
  set_at [] q v w found = absurd cc
  set_at (e ∷ es) q v w found =
      elim (cases_eq q e.0) [
        | inl same ↦ rw (set_here e es q w same) (head_at (e.0, w) es q same)
        | inr ne ↦ rw (set_there e es q w ne) (tail_at e (set_value (is_at (nat_cmp q)) es w) q ne ∙ set_at es q v w (sym (tail_at e es q ne) ∙ found))
      ]

  pub set_apart : (es : List (ℕ × X)) (q r : ℕ) (w : X) → r ≢ q → lookup (is_at (nat_cmp r)) (set_value (is_at (nat_cmp q)) es w) ≡ lookup (is_at (nat_cmp r)) es
  set_apart [] q r w apart = refl
  set_apart (e ∷ es) q r w apart =
      elim (cases_eq q e.0) [
        | inl same ↦ rw (set_here e es q w same) (tail_at (e.0, w) es r (λ s. apart (s ∙ sym same)) ∙ sym (tail_at e es r (λ s. apart (s ∙ sym same))))
        | inr ne ↦ rw (set_there e es q w ne) (elim (cases_eq r e.0) [
          | inl here ↦ head_at e (set_value (is_at (nat_cmp q)) es w) r here ∙ sym (head_at e es r here)
          | inr there ↦ tail_at e (set_value (is_at (nat_cmp q)) es w) r there ∙ (set_apart es q r w apart ∙ sym (tail_at e es r there))
        ])
      ]

  gone_here : (e : ℕ × X) (es : List (ℕ × X)) (q : ℕ) → q ≡ e.0 → remove_entry (is_at (nat_cmp q)) (e ∷ es) ≡ es
  gone_here e es q same = ap (λ (b : Bool). cond b es (e ∷ remove_entry (is_at (nat_cmp q)) es)) (same_test q e.0 same)

  gone_there : (e : ℕ × X) (es : List (ℕ × X)) (q : ℕ) → q ≢ e.0 → remove_entry (is_at (nat_cmp q)) (e ∷ es) ≡ e ∷ remove_entry (is_at (nat_cmp q)) es
  gone_there e es q apart = ap (λ (b : Bool). cond b es (e ∷ remove_entry (is_at (nat_cmp q)) es)) (apart_test q e.0 apart)

  pub remove_apart : (es : List (ℕ × X)) (q r : ℕ) → r ≢ q → lookup (is_at (nat_cmp r)) (remove_entry (is_at (nat_cmp q)) es) ≡ lookup (is_at (nat_cmp r)) es
  remove_apart [] q r apart = refl
  remove_apart (e ∷ es) q r apart =
      elim (cases_eq q e.0) [
        | inl same ↦ rw (gone_here e es q same) (sym (tail_at e es r (λ s. apart (s ∙ sym same))))
        | inr ne ↦ rw (gone_there e es q ne) (elim (cases_eq r e.0) [
          | inl here ↦ head_at e (remove_entry (is_at (nat_cmp q)) es) r here ∙ sym (head_at e es r here)
          | inr there ↦ tail_at e (remove_entry (is_at (nat_cmp q)) es) r there ∙ (remove_apart es q r apart ∙ sym (tail_at e es r there))
        ])
      ]

  pub remove_len : (es : List (ℕ × X)) (q : ℕ) (v : X) → lookup (is_at (nat_cmp q)) es ≡ Some v → length (remove_entry (is_at (nat_cmp q)) es) + 1 ≡ length es
  remove_len [] q v found = absurd cc
  remove_len (e ∷ es) q v found =
      elim (cases_eq q e.0) [
        | inl same ↦ let l = ap (λ (xs : List (ℕ × X)). length xs) (gone_here e es q same) in omega (arith, l)
        | inr ne ↦
            let l = ap (λ (xs : List (ℕ × X)). length xs) (gone_there e es q ne) in
            let i = remove_len es q v (sym (tail_at e es q ne) ∙ found) in
            omega (arith, l, i)
      ]

  pub remove_none : (es : List (ℕ × X)) (q : ℕ) → lookup (is_at (nat_cmp q)) es ≡ None → remove_entry (is_at (nat_cmp q)) es ≡ es
  remove_none [] q none = refl
  remove_none (e ∷ es) q none =
      elim (cases_eq q e.0) [
        | inl same ↦ absurd (let h = head_at e es q same in cc)
        | inr ne ↦ rw (gone_there e es q ne) (ap (λ (xs : List (ℕ × X)). e ∷ xs) (remove_none es q (sym (tail_at e es q ne) ∙ none)))
      ]

  pub insert_len : (es : List (ℕ × X)) (k : ℕ) (v : X) → lookup (is_at (nat_cmp k)) es ≡ None → length (insert_entry nat_cmp es k v) ≡ length es + 1
  insert_len [] k v none = omega arith
  insert_len (e ∷ es) k v none =
      elim (cases_eq k e.0) [
        | inl same ↦ absurd (let h = head_at e es k same in cc)
        | inr ne ↦ elim (cases_lt k e.0) [
          | inl lt ↦ let l = ap (λ (xs : List (ℕ × X)). length xs) (put_before e es k v lt) in omega (arith, l)
          | inr ge ↦
              let l = ap (λ (xs : List (ℕ × X)). length xs) (put_behind e es k v (omega (arith, ge, ne))) in
              let i = insert_len es k v (sym (tail_at e es k ne) ∙ none) in
              omega (arith, l, i)
        ]
      ]

-- a key that was taken out is not there any more
not_below : (e : KeyAndValue) (es : List KeyAndValue) (q : ℕ) → KeysRise (e ∷ es) → q ≡ e.0 → slot_at es q ≡ None
not_below e es q r same = lookup_none es q (λ i d lt. let h = r 0 (suc i) d d (omega arith) (omega (arith, lt)) in omega (arith, h, same))

pub remove_gone : (es : List KeyAndValue) (q : ℕ) → KeysRise es → slot_at (remove_entry (is_at (nat_cmp q)) es) q ≡ None
remove_gone [] q r = refl
remove_gone (e ∷ es) q r =
    elim (cases_eq q e.0) [
      | inl same ↦ rw (gone_here e es q same) (not_below e es q r same)
      | inr ne ↦ rw (gone_there e es q ne) (tail_at e (remove_entry (is_at (nat_cmp q)) es) q ne ∙ remove_gone es q (rises_rest e es r))
    ]

-- ---- slots after each change

pub moved_slots : (es es' : List KeyAndValue) (s s' : Slab PieceView) → es' ≡ es → s'.slots ≡ s.slots → AreSlots es s → AreSlots es' s'
moved_slots es es' s s' e f a =
    subst (λ (xs : List KeyAndValue). AreSlots xs s') (sym e)
    (record {
      rises = a.rises;
      few = a.few;
      held = λ q k found. some_kept s s' k (ap (λ (xs : List (Option PieceView)). slice_index_or xs k None) f) (a.held q k found);
      unlike = a.unlike;
    })

pub moved_in : (es es' : List KeyAndValue) (s s' : Slab PieceView) → es' ≡ es → s'.slots ≡ s.slots → in_slots s' es' ≡ in_slots s es
moved_in es es' s s' e f =
    ap (λ (xs : List KeyAndValue). in_slots s' xs) e
    ∙ ap (λ (xs : List (Option PieceView)). map (λ (e : KeyAndValue). (e.0, unwrap_or (slice_index_or xs e.1 None) (piece_of 0 [] 0))) es) f

-- a piece was put into a slot that was vacant
module _ (es es' : List KeyAndValue) (s s' : Slab PieceView) (q slot : ℕ) (p : PieceView) (a : AreSlots es s) (absent : slot_at es q ≡ None) (is : es' ≡ insert_entry nat_cmp es q slot) (rises : KeysRise es')
    (vacant : get s slot ≡ None) (updates : Updates s s' slot (Some p)) where
  other_slot : (r k : ℕ) → slot_at es r ≡ Some k → k ≢ slot
  other_slot r k found same =
      let h = subst (λ (o : Option PieceView). IsSome o) (ap (get s) same ∙ vacant) (a.held r k found) in absurd cc

  slots_at : (r : ℕ) → slot_at es' r ≡ slot_at (insert_entry nat_cmp es q slot) r
  slots_at r = ap (λ (xs : List KeyAndValue). slot_at xs r) is

  old_or_new : (r k : ℕ) → slot_at es' r ≡ Some k → ((r ≡ q) × (k ≡ slot)) ⊎ ((r ≢ q) × (slot_at es r ≡ Some k))
  old_or_new r k found =
      elim (cases_eq r q) [
        | inl same ↦
            let h = insert_at es q slot in
            let g = sym (ap (λ (n : ℕ). slot_at es' n) same) ∙ found in
            let f = sym (slots_at q) ∙ g in
            inl (same, (let e : Some slot ≡ Some k = sym h ∙ sym (slots_at q) ∙ g in cc))
        | inr ne ↦ inr (ne, sym (insert_apart es q r slot ne) ∙ (sym (slots_at r) ∙ found))
      ]

  pub put_slots : length es < 2 ^ 62 → AreSlots es' s'
  put_slots few = record {
    rises = rises;
    few = (let l = ap (λ (xs : List KeyAndValue). length xs) is in let n = insert_len es q slot absent in omega (arith, l, n, few));
    held = λ r k found. elim (old_or_new r k found) [
      | inl new ↦ subst (λ (o : Option PieceView). IsSome o) (sym (ap (get s') new.1 ∙ updates.changed)) refl
      | inr old ↦ some_kept s s' k (updates.others k (other_slot r k old.1)) (a.held r k old.1)
    ];
    unlike = λ r t k found other. elim (old_or_new r k found) [
      | inl new ↦ elim (old_or_new t k other) [
        | inl too ↦ new.0 ∙ sym too.0
        | inr old ↦ absurd (other_slot t k old.1 new.1)
      ]
      | inr old ↦ elim (old_or_new t k other) [
        | inl new ↦ absurd (other_slot r k old.1 new.1)
        | inr too ↦ a.unlike r t k old.1 too.1
      ]
    ];
  }

insert_in : (s : Slab PieceView) (es : List KeyAndValue) (q slot : ℕ) → in_slots s (insert_entry nat_cmp es q slot) ≡ insert_entry nat_cmp (in_slots s es) q (in_slot s slot)
insert_in s [] q slot = refl
insert_in s (e ∷ es) q slot =
    let f : ℕ × PieceView = (e.0, in_slot s e.1) in
    elim (cases_eq q e.0) [
      | inl same ↦ ap (λ (xs : List KeyAndValue). in_slots s xs) (put_here e es q slot same) ∙ sym (put_here f (in_slots s es) q (in_slot s slot) same)
      | inr ne ↦ elim (cases_lt q e.0) [
        | inl lt ↦ ap (λ (xs : List KeyAndValue). in_slots s xs) (put_before e es q slot lt) ∙ sym (put_before f (in_slots s es) q (in_slot s slot) lt)
        | inr ge ↦
            let gt : e.0 < q = omega (arith, ge, ne) in
            ap (λ (xs : List KeyAndValue). in_slots s xs) (put_behind e es q slot gt) ∙ (ap (λ (xs : List (ℕ × PieceView)). f ∷ xs) (insert_in s es q slot) ∙ sym (put_behind f (in_slots s es) q (in_slot s slot) gt))
      ]
    ]

pub put_in : (es es' : List KeyAndValue) (s s' : Slab PieceView) (q slot : ℕ) (p : PieceView) → AreSlots es s → es' ≡ insert_entry nat_cmp es q slot → get s slot ≡ None → Updates s s' slot (Some p) → in_slots s' es' ≡ insert_entry nat_cmp (in_slots s es) q p
put_in es es' s s' q slot p a is vacant updates =
    let other : (r k : ℕ) → slot_at es r ≡ Some k → k ≢ slot = λ r k found same. let h = subst (λ (o : Option PieceView). IsSome o) (ap (get s) same ∙ vacant) (a.held r k found) in absurd cc in
    ap (λ (xs : List KeyAndValue). in_slots s' xs) is
    ∙ insert_in s' es q slot
    ∙ ap (λ (xs : List (ℕ × PieceView)). insert_entry nat_cmp xs q (in_slot s' slot)) (same_in s s' es a.rises (λ r k found. updates.others k (other r k found)))
    ∙ ap (λ (v : PieceView). insert_entry nat_cmp (in_slots s es) q v) (in_slot_is s' slot p updates.changed)

-- the piece of a slot was written over
module _ (es : List KeyAndValue) (s s' : Slab PieceView) (q slot : ℕ) (w : PieceView) (a : AreSlots es s) (found : slot_at es q ≡ Some slot) (updates : Updates s s' slot (Some w)) where
  slot_kept : (r k : ℕ) → r ≢ q → slot_at es r ≡ Some k → get s' k ≡ get s k
  slot_kept r k ne other = updates.others k (λ same. ne (a.unlike r q k other (found ∙ ap (λ (n : ℕ). Some n) (sym same))))

  pub set_slots : AreSlots es s'
  set_slots = record {
    rises = a.rises;
    few = a.few;
    held = λ r k other. elim (cases_eq k slot) [
      | inl same ↦ subst (λ (o : Option PieceView). IsSome o) (sym (ap (get s') same ∙ updates.changed)) refl
      | inr ne ↦ some_kept s s' k (updates.others k ne) (a.held r k other)
    ];
    unlike = a.unlike;
  }

  pub set_in : in_slots s' es ≡ set_value (is_at (nat_cmp q)) (in_slots s es) w
  set_in =
      let here = found_some s es q slot found in
      same_map (in_slots s' es) (set_value (is_at (nat_cmp q)) (in_slots s es) w) (rises_in s' es a.rises)
      (subst (IsStrictlySortedBy nat_cmp) (sym (keys-set_value (is_at (nat_cmp q)) (in_slots s es) w)) (rises_in s es a.rises))
      (λ r. elim (cases_eq r q) [
        | inl same ↦
            ap (λ (n : ℕ). piece_at (in_slots s' es) n) same
            ∙ (found_some s' es q slot found ∙ (ap (λ (v : PieceView). Some v) (in_slot_is s' slot w updates.changed) ∙ (sym (set_at (in_slots s es) q (in_slot s slot) w here) ∙ ap (λ (n : ℕ). piece_at (set_value (is_at (nat_cmp q)) (in_slots s es) w) n) (sym same))))
        | inr ne ↦ found_in_slot s' es r ∙ (same_map_in s s' (slot_at es r) (λ k other. slot_kept r k ne other) ∙ (sym (found_in_slot s es r) ∙ sym (set_apart (in_slots s es) q r w ne)))
      ])

remove_in : (s : Slab PieceView) (es : List KeyAndValue) (q : ℕ) → in_slots s (remove_entry (is_at (nat_cmp q)) es) ≡ remove_entry (is_at (nat_cmp q)) (in_slots s es)
remove_in s [] q = refl
remove_in s (e ∷ es) q =
    let f : ℕ × PieceView = (e.0, in_slot s e.1) in
    elim (cases_eq q e.0) [
      | inl same ↦ ap (λ (xs : List KeyAndValue). in_slots s xs) (gone_here e es q same) ∙ sym (gone_here f (in_slots s es) q same)
      | inr ne ↦ ap (λ (xs : List KeyAndValue). in_slots s xs) (gone_there e es q ne) ∙ (ap (λ (xs : List (ℕ × PieceView)). f ∷ xs) (remove_in s es q) ∙ sym (gone_there f (in_slots s es) q ne))
    ]

-- an offset was taken out, and the piece of its slot
module _ (es es' : List KeyAndValue) (s s' : Slab PieceView) (q slot : ℕ) (a : AreSlots es s) (found : slot_at es q ≡ Some slot) (is : es' ≡ remove_entry (is_at (nat_cmp q)) es) (rises : KeysRise es') (updates : Updates s s' slot None) where
  was : (r k : ℕ) → slot_at es' r ≡ Some k → (slot_at es r ≡ Some k) × (k ≢ slot)
  was r k other =
      let o = sym (ap (λ (xs : List KeyAndValue). slot_at xs r) is) ∙ other in
      elim (cases_eq r q) [
        | inl same ↦ absurd (let g = ap (λ (n : ℕ). slot_at (remove_entry (is_at (nat_cmp q)) es) n) same ∙ remove_gone es q a.rises in cc)
        | inr ne ↦
            let old = sym (remove_apart es q r ne) ∙ o in
            (old, λ same. ne (a.unlike r q k old (found ∙ ap (λ (n : ℕ). Some n) (sym same))))
      ]

  pub left_slots : AreSlots es' s'
  left_slots = record {
    rises = rises;
    few = (let l = ap (λ (xs : List KeyAndValue). length xs) is in let n = remove_len es q slot found in let f = a.few in omega (arith, l, n, f));
    held = λ r k other. let w = was r k other in some_kept s s' k (updates.others k w.1) (a.held r k w.0);
    unlike = λ r t k one two. a.unlike r t k (was r k one).0 (was t k two).0;
  }

  pub left_same : in_slots s' es' ≡ in_slots s es'
  left_same = same_in s s' es' rises (λ r k other. updates.others k (was r k other).1)

  pub left_in : in_slots s' es' ≡ remove_entry (is_at (nat_cmp q)) (in_slots s es)
  left_in = left_same ∙ (ap (λ (xs : List KeyAndValue). in_slots s xs) is ∙ remove_in s es q)

-- ---- entries by their places

pub first_out : (es es' : List KeyAndValue) (e : KeyAndValue) → es ≡ e ∷ es' → (slot_at es e.0 ≡ Some e.1) × (es' ≡ remove_entry (is_at (nat_cmp e.0)) es)
first_out es es' e is = (
  ap (λ (xs : List KeyAndValue). slot_at xs e.0) is ∙ head_at e es' e.0 refl,
  sym (ap (λ (xs : List KeyAndValue). remove_entry (is_at (nat_cmp e.0)) xs) is ∙ gone_here e es' e.0 refl),
)

pub slot_here : (es : List KeyAndValue) (place : ℕ) (e : KeyAndValue) → KeysRise es → place < length es → ((d : KeyAndValue) → e ≡ slice_index_or es place d) → slot_at es e.0 ≡ Some e.1
slot_here es place e r lt is =
    lookup_here es place e.0 e r lt (λ d. ap (λ (x : KeyAndValue). x.0) (sym (is d))) ∙ ap (λ (x : KeyAndValue). Some x.1) (sym (is e))

pub held_here : (es : List KeyAndValue) (s : Slab PieceView) (place : ℕ) (e : KeyAndValue) → AreSlots es s → place < length es → ((d : KeyAndValue) → e ≡ slice_index_or es place d) → ContainsKey s e.1
held_here es s place e a lt is = a.held e.0 e.1 (slot_here es place e a.rises lt is)

-- each key is below a number, where all are
pub keys_below : (es : List KeyAndValue) (n : ℕ) → All (λ (key : ℕ). key < n) (keys_of es) → (k : ℕ) (d : KeyAndValue) → k < length es → (slice_index_or es k d).0 < n
keys_below [] n below k d lt = absurd (omega arith)
keys_below (e ∷ es) n below zero d lt = All-head (λ (key : ℕ). key < n) e.0 (keys_of es) below
keys_below (e ∷ es) n below (suc k) d lt = keys_below es n (All-tail (λ (key : ℕ). key < n) e.0 (keys_of es) below) k d (omega arith)

at_back : (xs : List KeyAndValue) (e d : KeyAndValue) → slice_index_or (xs ++ e ∷ []) (length xs) d ≡ e
at_back [] e d = refl
at_back (x ∷ xs) e d = at_back xs e d

pub slot_last : (es rest : List KeyAndValue) (e : KeyAndValue) → KeysRise es → es ≡ rest ++ e ∷ [] → slot_at es e.0 ≡ Some e.1
slot_last es rest e r is =
    let l = ap (λ (xs : List KeyAndValue). length xs) is in
    let n = length-append rest (e ∷ []) in
    slot_here es (length rest) e r (omega (arith, l, n)) (λ d. sym (ap (λ (xs : List KeyAndValue). slice_index_or xs (length rest) d) is ∙ at_back rest e d))

last_split : (xs : List KeyAndValue) (n m : ℕ) (e : KeyAndValue) → suc n ≡ m → m ≡ length xs → e ≡ slice_index_or xs n e → xs ≡ remove_range xs n m ++ e ∷ []
last_split [] n m e is fits here = absurd (omega (arith, is, fits))
last_split (x ∷ xs) n zero e is fits here = absurd (omega (arith, is))
last_split (x ∷ []) zero (suc m) e is fits here =
    let z : 0 ≡ m = omega (arith, is) in
    ap (λ (y : KeyAndValue). y ∷ []) (sym here) ∙ ap (λ (k : ℕ). drop k [] ++ e ∷ []) z
last_split (x ∷ y ∷ xs) zero (suc m) e is fits here = absurd (omega (arith, is, fits))
last_split (x ∷ xs) (suc n) (suc m) e is fits here = ap (λ (ys : List KeyAndValue). x ∷ ys) (last_split xs n m e (omega (arith, is)) (omega (arith, fits)) here)

pub last_out : (es es' : List KeyAndValue) (place : ℕ) (e : KeyAndValue) → KeysRise es → place + 1 ≡ length es → ((d : KeyAndValue) → e ≡ slice_index_or es place d) → es' ≡ remove_range es place (place + 1)
    → (slot_at es e.0 ≡ Some e.1) × ((es' ≡ remove_entry (is_at (nat_cmp e.0)) es) × (es ≡ es' ++ e ∷ []))
last_out es es' place e r l is cut = (
  slot_here es place e r (omega (arith, l)) is,
  (
    cut ∙ sym (without_here es place (place + 1) e.0 (omega arith) r (omega (arith, l)) (λ d. ap (λ (x : KeyAndValue). x.0) (sym (is d)))),
    last_split es place (place + 1) e (omega arith) l (is e) ∙ ap (λ (xs : List KeyAndValue). xs ++ e ∷ []) (sym cut),
  ),
)

-- ---- what a search finds

pub none_up_to : (s : Slab PieceView) (es : List KeyAndValue) (n : ℕ) → ((k : ℕ) (d : KeyAndValue) → k < length es → n < (slice_index_or es k d).0) → NoPieceBegins (in_slots s es) 0 n
none_up_to s es n above q from to = found_none s es q (lookup_none es q (λ i d lt. let h = above i d lt in omega (arith, h, to)))

pub none_since : (s : Slab PieceView) (es : List KeyAndValue) (n place : ℕ) (e : KeyAndValue) → KeysRise es → IsLastUpTo es n place → ((d : KeyAndValue) → e ≡ slice_index_or es place d) → NoPieceBegins (in_slots s es) (e.0 + 1) n
none_since s es n place e r last is q from to =
    found_none s es q (lookup_none es q (none_here es q place r last.fits
    (λ d. let h = ap (λ (x : KeyAndValue). x.0) (is d) in omega (arith, h, from))
    (λ k d lt less. let h = last.above k d lt less in omega (arith, h, to))))

pub last_low : (es : List KeyAndValue) (n place : ℕ) (e : KeyAndValue) → IsLastUpTo es n place → ((d : KeyAndValue) → e ≡ slice_index_or es place d) → e.0 ≤ n
last_low es n place e last is = let h = ap (λ (x : KeyAndValue). x.0) (is e) in let u = last.up_to e in omega (arith, h, u)

pub last_piece : (s : Slab PieceView) (es : List KeyAndValue) (n place : ℕ) (e : KeyAndValue) (v : PieceView) (end : ℕ) → KeysRise es → IsLastUpTo es n place → ((d : KeyAndValue) → e ≡ slice_index_or es place d) → v ≡ in_slot s e.1 → end ≡ run_end v → IsLastPiece (in_slots s es) e.0 end n
last_piece s es n place e v end r last is here ends = record {
  run = v;
  found = found_some s es e.0 e.1 (slot_here es place e r last.fits is) ∙ ap (λ (w : PieceView). Some w) (sym here);
  ends = ends;
  up_to = last_low es n place e last is;
  last = none_since s es n place e r last is;
}

pub first_piece : (s : Slab PieceView) (es : List KeyAndValue) (n place : ℕ) (e : KeyAndValue) → KeysRise es → IsFirstFrom es n place → ((d : KeyAndValue) → e ≡ slice_index_or es place d) → IsFirstPiece (in_slots s es) e.0 n
first_piece s es n place e r first is = record {
  run = in_slot s e.1;
  found = found_some s es e.0 e.1 (slot_here es place e r first.fits is);
  from = (let h = ap (λ (x : KeyAndValue). x.0) (is e) in let u = first.from e in omega (arith, h, u));
  first = λ q from to. found_none s es q (lookup_none es q (λ i d lt.
      let h = ap (λ (x : KeyAndValue). x.0) (is d) in
      elim (cases_lt i place) [
        | inl less ↦ let b = first.below i d less in omega (arith, b, from)
        | inr ge ↦ elim (cases_eq i place) [
          | inl same ↦ let k = ap (λ (j : ℕ). (slice_index_or es j d).0) same in omega (arith, k, h, to)
          | inr ne ↦ let u = r place i d d (omega (arith, ge, ne)) lt in omega (arith, u, h, to)
        ]
      ]));
}

pub none_from : (s : Slab PieceView) (es : List KeyAndValue) (n q : ℕ) → ((k : ℕ) (d : KeyAndValue) → k < length es → (slice_index_or es k d).0 < n) → n ≤ q → piece_at (in_slots s es) q ≡ None
none_from s es n q below from = found_none s es q (lookup_none es q (λ i d lt. let h = below i d lt in omega (arith, h, from)))

-- ---- the pieces from a place on

keeps_one : (e : ℕ × PieceView) (es : List (ℕ × PieceView)) (n : ℕ) → n ≤ e.0 → from_on n (e ∷ es) ≡ e ∷ from_on n es
keeps_one e es n le =
    let t : is_le (nat_cmp n e.0) ≡ true = grind (arith, nat_tests, le) in
    ap (λ (t : Bool). cond t (e ∷ from_on n es) (from_on n es)) (ap (λ (b : Bool). b && true) t)

drops_one : (e : ℕ × PieceView) (es : List (ℕ × PieceView)) (n : ℕ) → e.0 < n → from_on n (e ∷ es) ≡ from_on n es
drops_one e es n lt =
    let t : is_le (nat_cmp n e.0) ≡ false = grind (arith, nat_tests, lt) in
    ap (λ (t : Bool). cond t (e ∷ from_on n es) (from_on n es)) (ap (λ (b : Bool). b && true) t)

keeps_all : (s : Slab PieceView) (es : List KeyAndValue) (n : ℕ) → ((k : ℕ) (d : KeyAndValue) → k < length es → n ≤ (slice_index_or es k d).0) → from_on n (in_slots s es) ≡ in_slots s es
keeps_all s [] n h = refl
keeps_all s (e ∷ es) n h =
    keeps_one (e.0, in_slot s e.1) (in_slots s es) n (h 0 e (omega arith))
    ∙ ap (λ (xs : List (ℕ × PieceView)). (e.0, in_slot s e.1) ∷ xs) (keeps_all s es n (λ k d lt. h (suc k) d (omega (arith, lt))))

pub from_first : (s : Slab PieceView) (es : List KeyAndValue) (n place : ℕ) → KeysRise es → IsFirstFrom es n place → drop place (in_slots s es) ≡ from_on n (in_slots s es)
from_first s [] n place r first = let f = first.fits in absurd (omega (arith, f))
from_first s (e ∷ es) n zero r first =
    sym (keeps_all s (e ∷ es) n (λ k d lt. elim (cases_eq k 0) [
      | inl same ↦ let f = first.from d in let h = ap (λ (j : ℕ). (slice_index_or (e ∷ es) j d).0) same in omega (arith, f, h)
      | inr ne ↦ let f = first.from d in let u = r 0 k d d (omega (arith, ne)) lt in omega (arith, f, u)
    ]))
from_first s (e ∷ es) n (suc place) r first =
    let f = first.fits in
    let rest : IsFirstFrom es n place = record {
      fits = omega (arith, f);
      from = λ d. first.from d;
      below = λ k d lt. first.below (suc k) d (omega (arith, lt));
    } in
    from_first s es n place (rises_rest e es r) rest ∙ sym (drops_one (e.0, in_slot s e.1) (in_slots s es) n (first.below 0 e (omega arith)))

pub from_nothing : (s : Slab PieceView) (es : List KeyAndValue) (n : ℕ) → ((k : ℕ) (d : KeyAndValue) → k < length es → (slice_index_or es k d).0 < n) → [] ≡ from_on n (in_slots s es)
from_nothing s [] n below = refl
from_nothing s (e ∷ es) n below = from_nothing s es n (λ k d lt. below (suc k) d (omega (arith, lt))) ∙ sym (drops_one (e.0, in_slot s e.1) (in_slots s es) n (below 0 e (omega arith)))

pub drop_place : (s : Slab PieceView) (es : List KeyAndValue) (place next : ℕ) (e : KeyAndValue) → suc place ≡ next → place < length es → e ≡ slice_index_or es place e → drop place (in_slots s es) ≡ (e.0, in_slot s e.1) ∷ drop next (in_slots s es)
drop_place s [] place next e n lt is = absurd (omega (arith, lt))
drop_place s (x ∷ xs) place zero e n lt is = absurd (omega (arith, n))
drop_place s (x ∷ xs) zero (suc next) e n lt is =
    let z : 0 ≡ next = omega (arith, n) in
    ap (λ (y : KeyAndValue). (y.0, in_slot s y.1) ∷ in_slots s xs) (sym is) ∙ ap (λ (k : ℕ). (e.0, in_slot s e.1) ∷ drop k (in_slots s xs)) z
drop_place s (x ∷ xs) (suc place) (suc next) e n lt is = drop_place s xs place next e (omega (arith, n)) (omega (arith, lt)) is

pub drop_end : (s : Slab PieceView) (es : List KeyAndValue) (next : ℕ) → length es ≡ next → drop next (in_slots s es) ≡ []
drop_end s es next is = drop_of_length-le (in_slots s es) (let n = length-map {B = ℕ × PieceView} es (λ (e : KeyAndValue). (e.0, in_slot s e.1)) in omega (arith, n, is))

pub in_push : (s : Slab PieceView) (xs : List KeyAndValue) (e : KeyAndValue) → in_slots s (xs ++ e ∷ []) ≡ in_slots s xs ++ (e.0, in_slot s e.1) ∷ []
in_push s [] e = refl
in_push s (x ∷ xs) e = ap (λ (ys : List (ℕ × PieceView)). (x.0, in_slot s x.1) ∷ ys) (in_push s xs e)

pub next_fits : (o : Option Place) (place n : ℕ) → IfSome o (λ _. place + 1 < n) → IfNone o (n ≡ place + 1) → place < n
next_fits None place n some none = omega (arith, none)
next_fits (Some p) place n some none = omega (arith, some)

pub next_rest : (s : Slab PieceView) (es : List KeyAndValue) (rows : List (List KeyAndValue)) (place : ℕ) (o : Option Place) → IfSome o (λ (p : Place). place_among rows p.block p.index ≡ place + 1) → IfNone o (length es ≡ place + 1)
    → drop (place + 1) (in_slots s es) ≡ from_place (as_slots s es rows) o
next_rest s es rows place None some none = drop_end s es (place + 1) none
next_rest s es rows place (Some p) some none = ap (λ (k : ℕ). drop k (in_slots s es)) (sym some)

pub if_ok : {T E : Type 0} {A B : T → Type 0} (r : Result T E) → IfOk r A → ((x : T) → A x → B x) → IfOk r B
if_ok (Ok x) h f = f x h
if_ok (Err e) h f = tt

-- ---- the same for pieces by their offsets

pub insert_is_set : (es : List (ℕ × PieceView)) (q : ℕ) (v w : PieceView) → RiseByKey es → piece_at es q ≡ Some v → insert_entry nat_cmp es q w ≡ set_value (is_at (nat_cmp q)) es w
insert_is_set [] q v w rises found = absurd cc
insert_is_set (e ∷ es) q v w rises found =
    elim (cases_eq q e.0) [
      | inl same ↦ put_here e es q w same ∙ sym (set_here e es q w same)
      | inr ne ↦
          let there = sym (tail_at e es q ne) ∙ found in
          let lt = after_head e es q v rises there in
          put_behind e es q w (omega (arith, lt)) ∙ (ap (λ (xs : List (ℕ × PieceView)). e ∷ xs) (insert_is_set es q v w (sorted_tail nat_cmp e.0 (keys_of es) rises) there) ∙ sym (set_there e es q w ne))
    ]

pub piece_gone : (es : List (ℕ × PieceView)) (q : ℕ) → RiseByKey es → piece_at (remove_entry (is_at (nat_cmp q)) es) q ≡ None
piece_gone [] q rises = refl
piece_gone (e ∷ es) q rises =
    elim (cases_eq q e.0) [
      | inl same ↦ rw (gone_here e es q same) (after_not e es q rises same)
      | inr ne ↦ rw (gone_there e es q ne) (tail_at e (remove_entry (is_at (nat_cmp q)) es) q ne ∙ piece_gone es q (sorted_tail nat_cmp e.0 (keys_of es) rises))
    ]

pub piece_left : (es : List (ℕ × PieceView)) (q : ℕ) (o : Option PieceView) → o ≡ piece_at es q → length (remove_entry (is_at (nat_cmp q)) es) + (if is_some o then 1 else 0) ≡ length es
piece_left es q None is = let l = ap (λ (xs : List (ℕ × PieceView)). length xs) (remove_none es q (sym is)) in omega (arith, l)
piece_left es q (Some v) is = omega (arith, remove_len es q v (sym is))

pub some_of : (o : Option PieceView) → (o ≡ None → ⊥) → (v : PieceView) × (o ≡ Some v)
some_of None h = absurd (h refl)
some_of (Some v) h = (v, refl)

pub some_is_some : (o : Option PieceView) → true ≡ is_some o → (v : PieceView) × (o ≡ Some v)
some_is_some None h = absurd cc
some_is_some (Some v) h = (v, refl)

pub none_is_none : (o : Option PieceView) → false ≡ is_some o → o ≡ None
none_is_none None h = refl
none_is_none (Some v) h = absurd cc

-- numbers of a piece that was copied, or has more bytes behind its own
pub tidied_fits : (v : PieceView) → FitsWords v → FitsWords (tidied v)
tidied_fits v f =
    let t = tidied_is v in
    let l = ap (λ (bs : List ℕ). length bs) t.1 in
    let o = t.0 in
    let b = f.below in
    let a = f.allocation in
    record {
      below = omega (arith, l, o, b);
      allocation = by (nat_le v.allocation_size (length v.bytes * 6 / 5)) v a (omega (arith, b));
    }
  where
    by : (b : Bool) (v : PieceView) → v.allocation_size < 2 ^ 64 → length v.bytes < 2 ^ 64 → (cond b v (record v { allocation_size = length v.bytes })).allocation_size < 2 ^ 64
    by true v h k = h
    by false v h k = k

pub joined_fits : (v : PieceView) (bytes : List ℕ) → run_end v + length bytes < 2 ^ 62 → FitsWords (joined_with v (piece_of 0 bytes 0))
joined_fits v bytes b =
    let l = length-append v.bytes bytes in
    record { below = omega (arith, l, b); allocation = omega (arith, b) }
