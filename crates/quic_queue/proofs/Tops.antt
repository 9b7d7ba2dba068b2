-- The top level, and those below it.
use Rattle.std.proofs.Common.{◌≡◌, ◌≢◌, ℕ, ℤ, ◌<◌, ◌≤◌, true, false, List, [], ◌∷◌, ◌++◌, map, drop, length, Some, None, refl, sym, ap, ◌∙◌, arith}
use Rattle.std.specs.Prelude.{Option, int_lt, slice_get, IfSome, IsSomeAnd}
use Rattle.std.specs.VecDeque.{deque_len, deque_capacity}
use Rattle.std.specs.BTreeMap.{insert_entry}
use Rattle.std.specs.Map.{lookup, keys_of}
use Rattle.std.specs.Cmp.{int_cmp_total}
use Rattle.std.proofs.lemmas.List.Elements.{All-from_recursion}
use Rattle.quic_queue.specs.declared.queue.Entry.{Entry}
use Rattle.quic_queue.specs.declared.queue.TopLevel.{TopLevel}
use Rattle.quic_queue.specs.SendOrder.{put, NoneIsHigher}
use Rattle.quic_queue.specs.Levels.{Ids, Levels, falling, entries_of, ids_at, waiting_of, HasRoom, HasRoomAt, IsAbove, IsFilled, KeepsOtherLevels, KeepsRoomAtOthers, AreLevels}
use Rattle.quic_queue.proofs.Comparing.{by_test, at, at-is, at-itself, less_of, lower, not_lower, not_below_itself}
use Rattle.quic_queue.proofs.Lines.{Level, some_is, AreBelow, entries_below, put_here, put-past, not_above, level_not_above}

always : {A P : Type 0} (o : Option A) → P → IfSome o (λ x. P)
always None p = tt
always (Some x) p = p

below : (q : ℤ) (es : List Level) → ((p : ℤ) → IfSome (lookup (at p) es) (λ v. int_lt p q ≡ true)) → AreBelow q (keys_of es)
below q [] h = tt
below q (e ∷ es) h =
    let here : int_lt e.0.0 q ≡ true = rw (at-itself e.0.0 e.0 refl) at (h e.0.0) in (
      less_of (int_lt e.0.0 q) (int_lt q e.0.0) here,
      below q es (λ p. by_test (at p e.0)
          (λ t. always (lookup (at p) es) (ap (λ (k : ℤ). int_lt k q) (sym (at-is p e.0 t)) ∙ here))
          (λ t. rw t at (h p))),
    )

-- all levels are below a priority that is above them
pub all_below : (q : ℤ) (m : Levels) → IsAbove q m → AreBelow q (keys_of m.entries)
all_below q m above = below q m.entries above

-- ---- a priority above all levels

-- one number is another, or is not
pub same_or : {P : Type 0} (p q : ℤ) → (q ≡ p → P) → (q ≢ p → P) → P
same_or p q f g = by_test (at p (record { 0 = q })) (λ t. f (at-is p (record { 0 = q }) t)) (λ t. g (λ e. let h = at-itself p (record { 0 = q }) e in cc))

none_of : (q : ℤ) (o : Option Ids) → IfSome o (λ v. int_lt q q ≡ true) → o ≡ None
none_of q None h = refl
none_of q (Some v) h = let f = not_below_itself q in cc

-- no level stands at it
pub none_at : (q : ℤ) (m : Levels) → IsAbove q m → ids_at m q ≡ None
none_at q m above = none_of q (ids_at m q) (above q)

pub filled_at : (q : ℤ) (m : Levels) → IsAbove q m → IsFilled m q
filled_at q m above = rw (none_at q m above) tt

-- a level that is there is below it
pub there_below : (q p : ℤ) (m : Levels) (v : Ids) → IsAbove q m → ids_at m p ≡ Some v → int_lt p q ≡ true
there_below q p m v above there = rw there at (above p)

-- a level that changed is still below it
pub still_above : (q p : ℤ) (m n : Levels) → IsAbove q m → KeepsOtherLevels m p n → int_lt p q ≡ true → IsAbove q n
still_above q p m n above others low other =
    same_or p other
    (λ e. always (ids_at n other) (ap (λ (k : ℤ). int_lt k q) e ∙ low))
    (λ ne. rw (others other ne) (above other))

-- a level that went
pub above_rest : (q p : ℤ) (m n : Levels) → IsAbove q m → KeepsOtherLevels m p n → ids_at n p ≡ None → IsAbove q n
above_rest q p m n above others gone other =
    same_or p other
    (λ e. rw (e, gone) tt)
    (λ ne. rw (others other ne) (above other))

-- the top level is of the highest priority
pub top_is_highest : (top : TopLevel) (m : Levels) → IsAbove top.priority m → NoneIsHigher top.priority (waiting_of top m)
top_is_highest top m above =
    All-from_recursion (λ (y : Entry). int_lt top.priority y.priority ≡ false) (waiting_of top m)
    (level_not_above top.priority top.ids.items (entries_of m.entries) (not_above top.priority (entries_of m.entries) (entries_below top.priority m.entries (all_below top.priority m above))))

first_inserted : (p : ℤ) (es : List Level) (v : Ids) → AreBelow p (keys_of es) → insert_entry falling es (record { 0 = p }) v ≡ (record { 0 = p }, v) ∷ es
first_inserted p [] v b = refl
first_inserted p (e ∷ es) v b = rw b.0 refl

-- a level that is above the others comes before them
pub inserted_above : (p : ℤ) (m : Levels) (v : Ids) → IsAbove p m → insert_entry falling m.entries (record { 0 = p }) v ≡ (record { 0 = p }, v) ∷ m.entries
inserted_above p m v above = first_inserted p m.entries v (all_below p m above)

-- ---- entries of both

-- one id more in the top level
pub top_push : (top after : TopLevel) (m : Levels) (id : ℕ) → IsAbove top.priority m → after.priority ≡ top.priority → after.ids.items ≡ top.ids.items ++ id ∷ []
    → waiting_of after m ≡ put (waiting_of top m) (record { priority = top.priority; id = id })
top_push top after m id above same pushed =
    rw same (put_here top.priority top.ids.items after.ids.items id (entries_of m.entries) pushed (entries_below top.priority m.entries (all_below top.priority m above)))

-- one entry more below it
pub lower_push : (top : TopLevel) (m n : Levels) (p : ℤ) (id : ℕ) → int_lt p top.priority ≡ true → entries_of n.entries ≡ put (entries_of m.entries) (record { priority = p; id = id })
    → waiting_of top n ≡ put (waiting_of top m) (record { priority = p; id = id })
lower_push top m n p id low pushed =
    let x : Entry = record { priority = p; id = id } in
    ap (λ l. map (λ i. record { priority = top.priority; id = i }) top.ids.items ++ l) pushed
    ∙ sym (put-past top.priority top.ids.items (entries_of m.entries) x (not_lower p top.priority low))

-- a level with ids that came, where each other one stays
pub still_filled : (q : ℤ) (m n : Levels) (v : Ids) → KeepsOtherLevels m q n → ids_at n q ≡ Some v → 0 < deque_len v → (other : ℤ) → IsFilled m other → IsFilled n other
still_filled q m n v others there some other filled =
    same_or q other
    (λ e. rw (e, there) some)
    (λ ne. rw (others other ne) filled)

lower_than : (a b c : ℤ) → int_lt a b ≡ true → int_lt b c ≡ true → int_lt a c ≡ true
lower_than a b c low high = lower a c (int_cmp_total.trans a b c (less_of (int_lt a b) (int_lt b a) low) (less_of (int_lt b c) (int_lt c b) high))

-- a higher priority is above all levels too
higher_above : (q p : ℤ) (m : Levels) → IsAbove p m → int_lt p q ≡ true → IsAbove q m
higher_above q p m above high other = each (ids_at m other) (above other)
  where
    each : (o : Option Ids) → IfSome o (λ v. int_lt other p ≡ true) → IfSome o (λ v. int_lt other q ≡ true)
    each None h = tt
    each (Some v) h = lower_than other p q h high

-- and above the level of the priority that was
pub above_both : (q p : ℤ) (m n : Levels) → IsAbove p m → int_lt p q ≡ true → KeepsOtherLevels m p n → IsAbove q n
above_both q p m n above high others = still_above q p m n (higher_above q p m above high) others high

-- the first of the top level goes
pub top_pop : (p : ℤ) (v w : Ids) (m : Levels) → 0 < length v.items → w.items ≡ drop 1 v.items → waiting_of (record { priority = p; ids = w }) m ≡ drop 1 (waiting_of (record { priority = p; ids = v }) m)
top_pop p v w m some rest = popped v.items refl some
  where
    popped : (ids : List ℕ) → v.items ≡ ids → 0 < length ids → waiting_of (record { priority = p; ids = w }) m ≡ drop 1 (waiting_of (record { priority = p; ids = v }) m)
    popped [] is h = absurd (omega arith)
    popped (id ∷ ids) is h = rw (rest, is) refl

-- and is of its priority
pub top_first : (p : ℤ) (v : Ids) (m : Levels) (e : Entry) → 0 < length v.items → slice_get (waiting_of (record { priority = p; ids = v }) m) 0 ≡ Some e → e.priority ≡ p
top_first p v m e some first = found v.items refl some
  where
    found : (ids : List ℕ) → v.items ≡ ids → 0 < length ids → e.priority ≡ p
    found [] is h = absurd (omega arith)
    found (id ∷ ids) is h =
        let f : Some (record { priority = p; id = id }) ≡ Some e = rw is at first in
        sym (ap (λ (y : Entry). y.priority) (some_is (record { priority = p; id = id }) e f))

-- ---- what the queue keeps true

pub served_top : (p : ℤ) (v w : Ids) (m : Levels) (r : Option ℤ) → AreLevels (record { priority = p; ids = v }) m r → deque_len w ≤ deque_len v → deque_capacity v ≤ deque_capacity w → AreLevels (record { priority = p; ids = w }) m r
served_top p v w m r a len capacity = record {
  above = a.above;
  room = λ q e. record { top_room = λ is. let h = (a.room q e).top_room is in omega (arith, h, len, capacity); lower_room = (a.room q e).lower_room };
  filled = a.filled;
}

pub served_lower : (top : TopLevel) (m n : Levels) (p : ℤ) (r : Option ℤ) → AreLevels top m r → KeepsOtherLevels m p n → ((q : ℤ) → IsAbove q m → IsAbove q n) → (r ≡ Some p → HasRoom n p) → (r ≢ Some p → IsFilled n p) → AreLevels top n r
served_lower top m n p r a others above room filled = record {
  above = above top.priority a.above;
  room = λ q e. record {
    top_room = (a.room q e).top_room;
    lower_room = λ ne. same_or p q (λ is. rw is (room (e ∙ ap (λ k. Some k) is))) (λ apart. rw (others q apart) ((a.room q e).lower_room ne));
  };
  filled = λ q ne. same_or p q (λ is. rw is (filled (λ e. ne (e ∙ ap (λ k. Some k) (sym is))))) (λ apart. rw (others q apart) (a.filled q ne));
}

-- the room at the top is used
pub used_top : (p : ℤ) (v w : Ids) (m : Levels) → AreLevels (record { priority = p; ids = v }) m (Some p) → AreLevels (record { priority = p; ids = w }) m None
used_top p v w m a = record {
  above = a.above;
  room = λ q e. absurd cc;
  filled = λ q ne. same_or p q (λ is. rw is (filled_at p m a.above)) (λ apart. a.filled q (λ e. apart (sym (some_is p q e))));
}

-- the room below it is used
pub used_lower : (top : TopLevel) (m n : Levels) (p : ℤ) → AreLevels top m (Some p) → KeepsOtherLevels m p n → ((q : ℤ) → IsAbove q m → IsAbove q n) → IsFilled n p → AreLevels top n None
used_lower top m n p a others above filled = record {
  above = above top.priority a.above;
  room = λ q e. absurd cc;
  filled = λ q ne. same_or p q (λ is. rw is filled) (λ apart. rw (others q apart) (a.filled q (λ e. apart (sym (some_is p q e)))));
}

pub both_others : (m n o : Levels) (p : ℤ) → KeepsOtherLevels m p n → KeepsOtherLevels n p o → KeepsOtherLevels m p o
both_others m n o p f g other apart = g other apart ∙ f other apart

-- room below it is at a lower priority
pub room_below : (q p : ℤ) (m : Levels) → IsAbove q m → HasRoom m p → int_lt p q ≡ true
room_below q p m above room = each (ids_at m p) (above p) room
  where
    each : (o : Option Ids) → IfSome o (λ v. int_lt p q ≡ true) → IsSomeAnd o (λ v. deque_len v < deque_capacity v) → int_lt p q ≡ true
    each None h r = absurd r
    each (Some v) h r = h

-- a copy has no room
pub kept_in_copy : (top : TopLevel) (n : Levels) → IsAbove top.priority n → ((p : ℤ) → IsFilled n p) → AreLevels top n None
kept_in_copy top n above filled = record { above = above; room = λ q e. absurd cc; filled = λ q ne. filled q }

-- room that was refused
pub refused_room : (top top' : TopLevel) (m n : Levels) (p : ℤ) (r : Option ℤ) → AreLevels top m r → IsAbove top'.priority n → KeepsRoomAtOthers top m p top' n × (IsFilled m p → IsFilled n p) → ((other : ℤ) → other ≢ p → IsFilled m other → IsFilled n other) → r ≢ Some p → AreLevels top' n r
refused_room top top' m n p r a above kept filled apart = record {
  above = above;
  room = λ q e. kept.0 q (λ is. apart (e ∙ ap (λ k. Some k) is)) (a.room q e);
  filled = λ q ne. same_or p q (λ is. rw is (kept.1 (a.filled p (λ e. ne (e ∙ ap (λ k. Some k) (sym is)))))) (λ other. filled q other (a.filled q ne));
}

-- room that was made in place of other room
pub made_room : (top top' : TopLevel) (m n o : Levels) (p f : ℤ) → AreLevels top m (Some f) → IsAbove top'.priority n → HasRoomAt top' n p → ((other : ℤ) → other ≢ p → IsFilled m other → IsFilled n other)
    → KeepsOtherLevels n f o → ((q : ℤ) → IsAbove q n → IsAbove q o) → IsFilled o f → f ≢ p → AreLevels top' o (Some p)
made_room top top' m n o p f a above room filled others still gone apart = record {
  above = still top'.priority above;
  room = λ q e.
      let is : q ≡ p = sym (some_is p q e) in
      record { top_room = λ t. room.top_room (sym is ∙ t); lower_room = λ ne. rw (is, others p (λ k. apart (sym k))) (room.lower_room (λ k. ne (is ∙ k))) };
  filled = λ q ne. same_or f q (λ is. rw is gone) (λ other. rw (others q other) (filled q (λ is. ne (ap (λ k. Some k) (sym is))) (a.filled q (λ e. other (sym (some_is f q e))))));
}

-- levels that show the same
pub same_waiting : (p : ℤ) (v w : Ids) (m n : Levels) → w.items ≡ v.items → entries_of n.entries ≡ entries_of m.entries → waiting_of (record { priority = p; ids = w }) n ≡ waiting_of (record { priority = p; ids = v }) m
same_waiting p v w m n items entries = rw (items, entries) refl
