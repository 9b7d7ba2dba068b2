-- What a change of the rows does to all entries.
use Rattle.std.proofs.Common.{◌≡◌, ℕ, ◌+◌, ◌-◌, ◌≤◌, ◌<◌, refl, sym, ap, ◌∙◌, inl, inr, List, [], ◌∷◌, ◌++◌, length, take, drop, arith, zero, suc}
use Rattle.std.specs.Prelude.{slice_index_or, slice_set, insert}
use Rattle.std.specs.List.{remove_range}
use Rattle.std.proofs.lemmas.Bool.{cases_lt, cases_eq}
use Rattle.std.proofs.lemmas.List.{length-append, length-take, length-take-le, take_all, get_or_default, take-append-le, take-take, get_or_at, length-drop, length-set, get_or_append_left, get_or-append_right, get_or-take, get_or-drop, get_or-set_same, get_or-set_other, set_split, set-append_left, set-append_right, append_assoc, append-nil, take-append-drop, take_at, drop_at, drop_more, take_more, take-set, drop-drop}
use Rattle.std.proofs.lemmas.List.Edits.{insert-append_left, insert-append_right}
use Rattle.block_map.specs.Sorted.{KeyAndValue, KeysRise}
use Rattle.block_map.specs.Rows.{flat, place_among, HasSome, HasRoomForOne, AreFull}
use Rattle.block_map.proofs.Moved.{remove_range-front, remove_range-behind}
use Rattle.block_map.proofs.Rising.{rises_front, rises_back}

pub flat-append : (a b : List (List KeyAndValue)) → flat (a ++ b) ≡ flat a ++ flat b
flat-append [] b = refl
flat-append (r ∷ rs) b = ap (λ (t : List KeyAndValue). r ++ t) (flat-append rs b) ∙ sym (append_assoc r (flat rs) (flat b))

pub flat_push : (a : List (List KeyAndValue)) (r : List KeyAndValue) → flat (a ++ r ∷ []) ≡ flat a ++ r
flat_push [] r = append-nil r
flat_push (x ∷ a) r = ap (λ (t : List KeyAndValue). x ++ t) (flat_push a r) ∙ sym (append_assoc x (flat a) r)

-- a row among the others
pub flat_split : (rows : List (List KeyAndValue)) (b : ℕ) (d : List KeyAndValue) → b < length rows → flat rows ≡ flat (take b rows) ++ (slice_index_or rows b d ++ flat (drop (b + 1) rows))
flat_split rows b d lt =
    ap flat (sym (take-append-drop b rows))
    ∙ flat-append (take b rows) (drop b rows)
    ∙ ap (λ (t : List (List KeyAndValue)). flat (take b rows) ++ flat t) (drop_more rows b d lt)

pub flat_set : (rows : List (List KeyAndValue)) (b : ℕ) (r : List KeyAndValue) → b < length rows → flat (slice_set rows b r) ≡ flat (take b rows) ++ (r ++ flat (drop (b + 1) rows))
flat_set rows b r lt =
    let p : suc b ≡ b + 1 = omega arith in
    ap flat (set_split rows b r lt)
    ∙ flat-append (take b rows) (r ∷ drop (suc b) rows)
    ∙ ap (λ (k : ℕ). flat (take b rows) ++ (r ++ flat (drop k rows))) p

module _ (rows : List (List KeyAndValue)) (b : ℕ) (d : List KeyAndValue) (lt : b < length rows) where
  pub put_in : (i : ℕ) (y : KeyAndValue) → i ≤ length (slice_index_or rows b d) → flat (slice_set rows b (insert (slice_index_or rows b d) i y)) ≡ insert (flat rows) (place_among rows b i) y
  put_in i y le =
      let pre = flat (take b rows) in
      let row = slice_index_or rows b d in
      let post = flat (drop (b + 1) rows) in
      let p : length pre + i - length pre ≡ i = omega arith in
      flat_set rows b (insert row i y) lt
      ∙ ap (λ (t : List KeyAndValue). pre ++ t) (sym (insert-append_left row post i y le))
      ∙ ap (λ (k : ℕ). pre ++ insert (row ++ post) k y) (sym p)
      ∙ sym (insert-append_right pre (row ++ post) (length pre) (length pre + i) y refl (omega arith))
      ∙ ap (λ (t : List KeyAndValue). insert t (length pre + i) y) (sym (flat_split rows b d lt))

  pub set_in : (i : ℕ) (y : KeyAndValue) → i < length (slice_index_or rows b d) → flat (slice_set rows b (slice_set (slice_index_or rows b d) i y)) ≡ slice_set (flat rows) (place_among rows b i) y
  set_in i y less =
      let pre = flat (take b rows) in
      let row = slice_index_or rows b d in
      let post = flat (drop (b + 1) rows) in
      let p : length pre + i - length pre ≡ i = omega arith in
      flat_set rows b (slice_set row i y) lt
      ∙ ap (λ (t : List KeyAndValue). pre ++ t) (sym (set-append_left row post i y less))
      ∙ ap (λ (k : ℕ). pre ++ slice_set (row ++ post) k y) (sym p)
      ∙ sym (set-append_right pre (row ++ post) (length pre) (length pre + i) y refl (omega arith))
      ∙ ap (λ (t : List KeyAndValue). slice_set t (length pre + i) y) (sym (flat_split rows b d lt))

  pub cut_in : (from to : ℕ) → from ≤ to → to ≤ length (slice_index_or rows b d) → flat (slice_set rows b (remove_range (slice_index_or rows b d) from to)) ≡ remove_range (flat rows) (place_among rows b from) (place_among rows b to)
  cut_in from to order fits =
      let pre = flat (take b rows) in
      let row = slice_index_or rows b d in
      let post = flat (drop (b + 1) rows) in
      flat_set rows b (remove_range row from to) lt
      ∙ ap (λ (t : List KeyAndValue). pre ++ t) (sym (remove_range-front row post from to (omega (arith, order, fits)) fits))
      ∙ sym (remove_range-behind pre (row ++ post) from to (length pre + from) (length pre + to) refl refl)
      ∙ ap (λ (t : List KeyAndValue). remove_range t (length pre + from) (length pre + to)) (sym (flat_split rows b d lt))

  -- two rows in the place of one
  pub split_in : (i : ℕ) → flat (take b rows ++ take i (slice_index_or rows b d) ∷ drop i (slice_index_or rows b d) ∷ drop (b + 1) rows) ≡ flat rows
  split_in i =
      let pre = flat (take b rows) in
      let row = slice_index_or rows b d in
      let post = flat (drop (b + 1) rows) in
      flat-append (take b rows) (take i row ∷ drop i row ∷ drop (b + 1) rows)
      ∙ ap (λ (t : List KeyAndValue). pre ++ t) (sym (append_assoc (take i row) (drop i row) post) ∙ ap (λ (t : List KeyAndValue). t ++ post) (take-append-drop i row))
      ∙ sym (flat_split rows b d lt)

-- the entries before a row, and those from it on
pub flat_before : (rows : List (List KeyAndValue)) (b : ℕ) → take (length (flat (take b rows))) (flat rows) ≡ flat (take b rows)
flat_before rows b =
    ap (λ (t : List KeyAndValue). take (length (flat (take b rows))) t) (ap flat (sym (take-append-drop b rows)) ∙ flat-append (take b rows) (drop b rows))
    ∙ take_at (flat (take b rows)) (flat (drop b rows)) (length (flat (take b rows))) refl

pub flat_from : (rows : List (List KeyAndValue)) (b : ℕ) → drop (length (flat (take b rows))) (flat rows) ≡ flat (drop b rows)
flat_from rows b =
    ap (λ (t : List KeyAndValue). drop (length (flat (take b rows))) t) (ap flat (sym (take-append-drop b rows)) ∙ flat-append (take b rows) (drop b rows))
    ∙ drop_at (flat (take b rows)) (flat (drop b rows)) (length (flat (take b rows))) refl

-- without some rows
pub drop_rows : (rows : List (List KeyAndValue)) (b c m n : ℕ) → m ≡ place_among rows b 0 → n ≡ place_among rows c 0 → flat (remove_range rows b c) ≡ remove_range (flat rows) m n
drop_rows rows b c m n is ends =
    let p : length (flat (take b rows)) ≡ m = omega (arith, is) in
    let q : length (flat (take c rows)) ≡ n = omega (arith, ends) in
    flat-append (take b rows) (drop c rows)
    ∙ ap (λ (t : List KeyAndValue). t ++ flat (drop c rows)) (sym (flat_before rows b))
    ∙ ap (λ (t : List KeyAndValue). take (length (flat (take b rows))) (flat rows) ++ t) (sym (flat_from rows c))
    ∙ ap (λ (k : ℕ). take k (flat rows) ++ drop (length (flat (take c rows))) (flat rows)) p
    ∙ ap (λ (k : ℕ). take m (flat rows) ++ drop k (flat rows)) q

-- ---- no row is empty

pub some_append : (a b : List (List KeyAndValue)) → HasSome a → HasSome b → HasSome (a ++ b)
some_append a b f g i d lt =
    elim (cases_lt i (length a)) [
      | inl low ↦ let e = ap length (get_or_append_left a b d i low) in let h = f i d low in omega (arith, e, h)
      | inr high ↦
          let n = length-append a b in
          let e = ap length (get_or-append_right a b (length a) i d refl high) in
          let h = g (i - length a) d (omega (arith, n, lt, high)) in
          omega (arith, e, h)
    ]

pub some_cons : (r : List KeyAndValue) (rs : List (List KeyAndValue)) → 0 < length r → HasSome rs → HasSome (r ∷ rs)
some_cons r rs some f zero d lt = some
some_cons r rs some f (suc i) d lt = f i d (omega (arith, lt))

pub some_nil : HasSome []
some_nil i d lt = absurd (omega (arith, lt))

pub some_take : (rows : List (List KeyAndValue)) (n : ℕ) → HasSome rows → HasSome (take n rows)
some_take rows n f i d lt =
    let m = length-take n rows in
    let e = ap length (get_or-take n rows i d (omega (arith, m, lt))) in
    let h = f i d (omega (arith, m, lt)) in
    omega (arith, e, h)

pub some_drop : (rows : List (List KeyAndValue)) (n : ℕ) → HasSome rows → HasSome (drop n rows)
some_drop rows n f i d lt =
    let m = length-drop n rows in
    let e = ap length (get_or-drop n rows i d) in
    let h = f (n + i) d (omega (arith, m, lt)) in
    omega (arith, e, h)

pub some_set : (rows : List (List KeyAndValue)) (b : ℕ) (r : List KeyAndValue) → HasSome rows → 0 < length r → HasSome (slice_set rows b r)
some_set rows b r f some i d lt =
    let n = length-set rows b r in
    elim (cases_eq i b) [
      | inl same ↦
          let s = ap (λ (k : ℕ). length (slice_index_or (slice_set rows b r) k d)) same in
          let e = ap length (get_or-set_same rows b r d (omega (arith, n, lt, same))) in
          omega (arith, s, e, some)
      | inr ne ↦ let e = ap length (get_or-set_other rows b i r d ne) in let h = f i d (omega (arith, n, lt)) in omega (arith, e, h)
    ]

pub some_without : (rows : List (List KeyAndValue)) (b c : ℕ) → HasSome rows → HasSome (remove_range rows b c)
some_without rows b c f = some_append (take b rows) (drop c rows) (some_take rows b f) (some_drop rows c f)

-- ---- a row in the place of another of its length

row_length-set : (rows : List (List KeyAndValue)) (b : ℕ) (r d : List KeyAndValue) → length r ≡ length (slice_index_or rows b d) → (k : ℕ) (e : List KeyAndValue) → k < length rows → length (slice_index_or (slice_set rows b r) k e) ≡ length (slice_index_or rows k e)
row_length-set [] b r d same k e lt = absurd (omega (arith, lt))
row_length-set (x ∷ xs) zero r d same zero e lt = same
row_length-set (x ∷ xs) zero r d same (suc k) e lt = refl
row_length-set (x ∷ xs) (suc b) r d same zero e lt = refl
row_length-set (x ∷ xs) (suc b) r d same (suc k) e lt = row_length-set xs b r d same k e (omega (arith, lt))

pub room-set : (rows : List (List KeyAndValue)) (b : ℕ) (r d : List KeyAndValue) (capacity spare : ℕ) → length r ≡ length (slice_index_or rows b d) → HasRoomForOne rows capacity spare → HasRoomForOne (slice_set rows b r) capacity spare
room-set rows b r d capacity spare same room =
    let n = length-set rows b r in
    elim room [
      | inl small ↦
          let one = small.0 in
          let few = small.1.0 in
          let l = row_length-set rows b r d same 0 [] (omega (arith, one)) in
          inl (omega (arith, n, one), (omega (arith, l, few), λ e. small.1.1 (omega (arith, l, e))))
      | inr more ↦ let lt = more.0 in inr (omega (arith, n, lt), (more.1.0, λ some. more.1.1 (omega (arith, n, some))))
    ]

pub place-set : (rows : List (List KeyAndValue)) (b : ℕ) (r : List KeyAndValue) (d : List KeyAndValue) → b < length rows → length r ≡ length (slice_index_or rows b d) → (c i : ℕ) → place_among (slice_set rows b r) c i ≡ place_among rows c i
place-set [] b r d lt same c i = absurd (omega (arith, lt))
place-set (x ∷ xs) b r d lt same zero i = refl
place-set (x ∷ xs) zero r d lt same (suc c) i =
    let n = length-append x (flat (take c xs)) in
    let m = length-append r (flat (take c xs)) in
    omega (arith, n, m, same)
place-set (x ∷ xs) (suc b) r d lt same (suc c) i =
    let n = length-append x (flat (take c xs)) in
    let m = length-append x (flat (take c (slice_set xs b r))) in
    let h = place-set xs b r d (omega (arith, lt)) same c i in
    omega (arith, n, m, h)

-- ---- two rows in the place of one

module _ (rows : List (List KeyAndValue)) (b : ℕ) (low high : List KeyAndValue) (rest : List (List KeyAndValue)) (fits : b ≤ length rows) where
  front : length (take b rows) ≡ b
  front = length-take-le b rows fits

  pub before_split : take b (take b rows ++ low ∷ high ∷ rest) ≡ take b rows
  before_split = take_at (take b rows) (low ∷ high ∷ rest) b front

  pub behind_split : take (b + 1) (take b rows ++ low ∷ high ∷ rest) ≡ take b rows ++ low ∷ []
  behind_split =
      let n = length-append (take b rows) (low ∷ high ∷ rest) in
      let f = front in
      take_more (take b rows ++ low ∷ high ∷ rest) b [] (omega (arith, n, f))
      ∙ ap (λ (t : List (List KeyAndValue)). t ++ slice_index_or (take b rows ++ low ∷ high ∷ rest) b [] ∷ []) before_split
      ∙ ap (λ (r : List KeyAndValue). take b rows ++ r ∷ []) (get_or_at (take b rows) low (high ∷ rest) [] b f)

  pub place_low : (i : ℕ) → place_among (take b rows ++ low ∷ high ∷ rest) b i ≡ place_among rows b i
  place_low i = ap (λ (t : List (List KeyAndValue)). length (flat t) + i) before_split

  pub place_high : (i : ℕ) → place_among (take b rows ++ low ∷ high ∷ rest) (b + 1) i ≡ place_among rows b (length low + i)
  place_high i =
      let e = ap (λ (t : List (List KeyAndValue)). length (flat t)) behind_split in
      let f = ap length (flat_push (take b rows) low) in
      let n = length-append (flat (take b rows)) low in
      omega (arith, e, f, n)

-- without what was between, in two steps
pub remove_range-joins : {X : Type 0} (xs : List X) (l m n : ℕ) → l ≤ m → m ≤ length xs → remove_range (remove_range xs m n) l m ≡ remove_range xs l n
remove_range-joins xs l m n order fits =
    let a = length-take-le m xs fits in
    ap (λ t. t ++ drop m (remove_range xs m n)) (take-append-le l (take m xs) (drop n xs) (omega (arith, a, order)) ∙ take-take l m xs order)
    ∙ ap (λ t. take l xs ++ t) (drop_at (take m xs) (drop n xs) m a)

-- ---- the last row

pub flat_last : (rows : List (List KeyAndValue)) (n : ℕ) (d : List KeyAndValue) → n + 1 ≡ length rows → flat rows ≡ flat (take n rows) ++ slice_index_or rows n d
flat_last rows n d is =
    ap flat (sym (take_all (n + 1) rows (omega (arith, is))) ∙ take_more rows n d (omega (arith, is)))
    ∙ flat_push (take n rows) (slice_index_or rows n d)

pub flat_next : (rows : List (List KeyAndValue)) (n : ℕ) (d : List KeyAndValue) → n < length rows → flat (take (n + 1) rows) ≡ flat (take n rows) ++ slice_index_or rows n d
flat_next rows n d lt = ap flat (take_more rows n d lt) ∙ flat_push (take n rows) (slice_index_or rows n d)

pub flat_grown : (rows : List (List KeyAndValue)) (n : ℕ) (d more : List KeyAndValue) → n + 1 ≡ length rows → flat (slice_set rows n (slice_index_or rows n d ++ more)) ≡ flat rows ++ more
flat_grown rows n d more is =
    let row = slice_index_or rows n d in
    let m = length-set rows n (row ++ more) in
    flat_last (slice_set rows n (row ++ more)) n d (omega (arith, is, m))
    ∙ ap (λ (t : List (List KeyAndValue)). flat t ++ slice_index_or (slice_set rows n (row ++ more)) n d) (take-set rows n (row ++ more))
    ∙ ap (λ (t : List KeyAndValue). flat (take n rows) ++ t) (get_or-set_same rows n (row ++ more) d (omega (arith, is)))
    ∙ sym (append_assoc (flat (take n rows)) row more)
    ∙ ap (λ (t : List KeyAndValue). t ++ more) (sym (flat_last rows n d is))

row_grown : (rows : List (List KeyAndValue)) (b : ℕ) (r d : List KeyAndValue) → length (slice_index_or rows b d) ≤ length r → (k : ℕ) (e : List KeyAndValue) → k < length rows → length (slice_index_or rows k e) ≤ length (slice_index_or (slice_set rows b r) k e)
row_grown [] b r d more k e lt = absurd (omega (arith, lt))
row_grown (x ∷ xs) zero r d more zero e lt = more
row_grown (x ∷ xs) zero r d more (suc k) e lt = omega arith
row_grown (x ∷ xs) (suc b) r d more zero e lt = omega arith
row_grown (x ∷ xs) (suc b) r d more (suc k) e lt = row_grown xs b r d more k e (omega (arith, lt))

pub full_grown : (rows : List (List KeyAndValue)) (b : ℕ) (r d : List KeyAndValue) → length (slice_index_or rows b d) ≤ length r → AreFull rows → AreFull (slice_set rows b r)
full_grown rows b r d more full i e f lt =
    let n = length-set rows b r in
    let h = full i e f (omega (arith, n, lt)) in
    let p = row_grown rows b r d more i e (omega (arith, n, lt)) in
    let q = row_grown rows b r d more (i + 1) f (omega (arith, n, lt)) in
    omega (arith, h, p, q)

pub full_pushed : (rows : List (List KeyAndValue)) (r : List KeyAndValue) → AreFull rows → ((i : ℕ) → i + 1 ≡ length rows → 64 < length (slice_index_or rows i []) + length r) → AreFull (rows ++ r ∷ [])
full_pushed rows r full last i d e lt =
    let n = length-append rows (r ∷ []) in
    elim (cases_lt (i + 1) (length rows)) [
      | inl inside ↦
          let p = ap length (get_or_append_left rows (r ∷ []) d i (omega (arith, inside))) in
          let q = ap length (get_or_append_left rows (r ∷ []) e (i + 1) inside) in
          let h = full i d e inside in
          omega (arith, p, q, h)
      | inr at_end ↦
          let is : i + 1 ≡ length rows = omega (arith, n, lt, at_end) in
          let p = ap length (get_or_append_left rows (r ∷ []) d i (omega (arith, is))) in
          let o = ap length (get_or_default rows i d [] (omega (arith, is))) in
          let q = ap length (get_or_at rows r [] e (i + 1) (sym is)) in
          let h = last i is in
          omega (arith, p, o, q, h)
    ]

pub full_nil : AreFull []
full_nil i d e lt = absurd (omega (arith, lt))

-- ---- a row joined to the one before it

module _ (rows low high : List (List KeyAndValue)) (n : ℕ) (d e : List KeyAndValue) (is : rows ≡ low ++ high) (front : length low ≡ n) (pos : 0 < n) (back : 0 < length high) where
  ends : n - 1 + 1 ≡ length low
  ends = omega (arith, front, pos)

  flat_high : flat high ≡ slice_index_or high 0 e ++ flat (drop 1 high)
  flat_high = ap flat (drop_more high 0 e back)

  pub join_in : flat (remove_range (slice_set low (n - 1) (slice_index_or low (n - 1) d ++ slice_index_or high 0 e) ++ high) n (suc n)) ≡ flat rows
  join_in =
      let more = slice_index_or high 0 e in
      let grown = slice_set low (n - 1) (slice_index_or low (n - 1) d ++ more) in
      let m = length-set low (n - 1) (slice_index_or low (n - 1) d ++ more) in
      let same : length grown ≡ n = omega (arith, m, front) in
      let p : suc n ≡ n + 1 = omega arith in
      ap (λ (t : List (List KeyAndValue)). flat (t ++ drop (suc n) (grown ++ high))) (take_at grown high n same)
      ∙ ap (λ (k : ℕ). flat (grown ++ drop k (grown ++ high))) p
      ∙ ap (λ (t : List (List KeyAndValue)). flat (grown ++ t)) (sym (drop-drop 1 n (grown ++ high)) ∙ ap (λ (t : List (List KeyAndValue)). drop 1 t) (drop_at grown high n same))
      ∙ flat-append grown (drop 1 high)
      ∙ ap (λ (t : List KeyAndValue). t ++ flat (drop 1 high)) (flat_grown low (n - 1) d more ends)
      ∙ append_assoc (flat low) more (flat (drop 1 high))
      ∙ ap (λ (t : List KeyAndValue). flat low ++ t) (sym flat_high)
      ∙ sym (flat-append low high)
      ∙ ap flat (sym is)

  pub join_rises : KeysRise (flat rows) → KeysRise (slice_index_or low (n - 1) d ++ slice_index_or high 0 e)
  join_rises rises =
      let before = flat (take (n - 1) low) in
      let row = slice_index_or low (n - 1) d in
      let more = slice_index_or high 0 e in
      let behind = flat (drop 1 high) in
      let parts : flat rows ≡ before ++ (row ++ more ++ behind) =
      ap flat is
      ∙ flat-append low high
      ∙ ap (λ (t : List KeyAndValue). t ++ flat high) (flat_last low (n - 1) d ends)
      ∙ append_assoc before row (flat high)
      ∙ ap (λ (t : List KeyAndValue). before ++ (row ++ t)) flat_high
      ∙ ap (λ (t : List KeyAndValue). before ++ t) (sym (append_assoc row more behind)) in
      rises_front (row ++ more) behind (rises_back before (row ++ more ++ behind) (rw parts at rises))

  pub some_joined : (r : List KeyAndValue) → length (slice_index_or low (n - 1) d) ≤ length r → HasSome rows → HasSome (slice_set low (n - 1) r ++ high)
  some_joined r more f =
      let all : HasSome (low ++ high) = rw is at f in
      let a : HasSome low = rw (take_at low high n front) at (some_take (low ++ high) n all) in
      let b : HasSome high = rw (drop_at low high n front) at (some_drop (low ++ high) n all) in
      let some = a (n - 1) d (omega (arith, front, pos)) in
      some_append (slice_set low (n - 1) r) high (some_set low (n - 1) r a (omega (arith, some, more))) b

  pub old_low : (f : List KeyAndValue) → slice_index_or rows (n - 1) f ≡ slice_index_or low (n - 1) d
  old_low f =
      let l = ends in
      ap (λ (t : List (List KeyAndValue)). slice_index_or t (n - 1) f) is ∙ get_or_append_left low high f (n - 1) (omega (arith, l)) ∙ get_or_default low (n - 1) f d (omega (arith, l))

  pub old_high : (f : List KeyAndValue) → slice_index_or rows n f ≡ slice_index_or high 0 e
  old_high f =
      let p : n - length low ≡ 0 = omega (arith, front) in
      ap (λ (t : List (List KeyAndValue)). slice_index_or t n f) is
      ∙ get_or-append_right low high (length low) n f refl (omega (arith, front))
      ∙ ap (λ (k : ℕ). slice_index_or high k f) p
      ∙ get_or_default high 0 f e back

  -- other entries in both rows, which are the same together
  module _ (a b : List KeyAndValue) where
    pub pair_flat : a ++ b ≡ slice_index_or low (n - 1) d ++ slice_index_or high 0 e → flat (slice_set low (n - 1) a ++ slice_set high 0 b) ≡ flat rows
    pair_flat same =
        let m = length-set low (n - 1) a in
        let l = ends in
        let last : n - 1 + 1 ≡ length (slice_set low (n - 1) a) = omega (arith, m, l) in
        let before = flat (take (n - 1) low) in
        let behind = flat (drop 1 high) in
        let own : flat (slice_set low (n - 1) a) ≡ before ++ a =
        flat_last (slice_set low (n - 1) a) (n - 1) d last
        ∙ ap (λ (t : List (List KeyAndValue)). flat t ++ slice_index_or (slice_set low (n - 1) a) (n - 1) d) (take-set low (n - 1) a)
        ∙ ap (λ (t : List KeyAndValue). before ++ t) (get_or-set_same low (n - 1) a d (omega (arith, l))) in
        flat-append (slice_set low (n - 1) a) (slice_set high 0 b)
        ∙ ap (λ (t : List KeyAndValue). t ++ flat (slice_set high 0 b)) own
        ∙ ap (λ (t : List KeyAndValue). (before ++ a) ++ t) (flat_set high 0 b back)
        ∙ append_assoc before a (b ++ behind)
        ∙ ap (λ (t : List KeyAndValue). before ++ t) (sym (append_assoc a b behind) ∙ ap (λ (t : List KeyAndValue). t ++ behind) same ∙ append_assoc (slice_index_or low (n - 1) d) (slice_index_or high 0 e) behind)
        ∙ ap (λ (t : List KeyAndValue). before ++ (slice_index_or low (n - 1) d ++ t)) (sym flat_high)
        ∙ sym (append_assoc before (slice_index_or low (n - 1) d) (flat high))
        ∙ ap (λ (t : List KeyAndValue). t ++ flat high) (sym (flat_last low (n - 1) d ends))
        ∙ sym (flat-append low high)
        ∙ ap flat (sym is)

    pub pair_before : take (n - 1) (slice_set low (n - 1) a ++ slice_set high 0 b) ≡ take (n - 1) rows
    pair_before =
        let m = length-set low (n - 1) a in
        let l = ends in
        take-append-le (n - 1) (slice_set low (n - 1) a) (slice_set high 0 b) (omega (arith, m, l))
        ∙ take-set low (n - 1) a
        ∙ sym (take-append-le (n - 1) low high (omega (arith, l)))
        ∙ ap (λ (t : List (List KeyAndValue)). take (n - 1) t) (sym is)

    pub pair_count : length (slice_set low (n - 1) a ++ slice_set high 0 b) ≡ length rows
    pair_count =
        let p = length-append (slice_set low (n - 1) a) (slice_set high 0 b) in
        let q = length-append low high in
        let r = length-set low (n - 1) a in
        let s = length-set high 0 b in
        let t = ap length is in
        omega (arith, p, q, r, s, t)

    pub pair_low : (f : List KeyAndValue) → slice_index_or (slice_set low (n - 1) a ++ slice_set high 0 b) (n - 1) f ≡ a
    pair_low f =
        let m = length-set low (n - 1) a in
        let l = ends in
        get_or_append_left (slice_set low (n - 1) a) (slice_set high 0 b) f (n - 1) (omega (arith, m, l)) ∙ get_or-set_same low (n - 1) a f (omega (arith, l))

    pub pair_high : (f : List KeyAndValue) → slice_index_or (slice_set low (n - 1) a ++ slice_set high 0 b) n f ≡ b
    pair_high f =
        let m = length-set low (n - 1) a in
        let p : n - length (slice_set low (n - 1) a) ≡ 0 = omega (arith, m, front) in
        get_or-append_right (slice_set low (n - 1) a) (slice_set high 0 b) (length (slice_set low (n - 1) a)) n f refl (omega (arith, m, front))
        ∙ ap (λ (k : ℕ). slice_index_or (slice_set high 0 b) k f) p
        ∙ get_or-set_same high 0 b f back

    pub pair_some : 0 < length a → 0 < length b → HasSome rows → HasSome (slice_set low (n - 1) a ++ slice_set high 0 b)
    pair_some p q f =
        let all : HasSome (low ++ high) = rw is at f in
        some_append (slice_set low (n - 1) a) (slice_set high 0 b)
        (some_set low (n - 1) a (rw (take_at low high n front) at (some_take (low ++ high) n all)) p)
        (some_set high 0 b (rw (drop_at low high n front) at (some_drop (low ++ high) n all)) q)

-- ---- the first entry

-- without the first row, where that has one entry
pub pop_row : (all : List (List KeyAndValue)) (d : List KeyAndValue) → 0 < length all → length (slice_index_or all 0 d) ≡ 1 → flat (drop 1 all) ≡ drop 1 (flat all)
pop_row [] d some one = absurd (omega (arith, some))
pop_row (r ∷ rs) d some one = sym (drop_at r (flat rs) 1 one)
