-- Edits that keep keys rising.
use Rattle.std.proofs.Common.{◌≡◌, ◌≢◌, ℕ, ◌+◌, ◌-◌, ◌≤◌, ◌<◌, refl, sym, ap, ◌∙◌, inl, inr, List, [], ◌∷◌, ◌++◌, length, take, drop, arith, zero, suc}
use Rattle.std.specs.Prelude.{slice_index_or, slice_set, insert}
use Rattle.std.specs.List.{remove_range}
use Rattle.std.proofs.lemmas.Bool.{cases_lt, cases_eq}
use Rattle.std.proofs.lemmas.List.{length-take, length-drop, length-take-le, length-append, length-set, get_or-take, get_or-drop, get_or_append_left, get_or-append-add, get_or-append_right, get_or-set_same, get_or-set_other, drop_more, take_all, take_more}
use Rattle.std.proofs.lemmas.List.Edits.{get_or-insert_at, get_or-insert_below, get_or-insert_above, length-insert}
use Rattle.block_map.specs.Sorted.{KeyAndValue, KeysRise, GoesAt, FitsAt}
use Rattle.block_map.specs.Rows.{first_key, IsBlock}
use Rattle.block_map.proofs.Moved.{drop-insert}

module _ (xs : List KeyAndValue) (m : ℕ) (y : KeyAndValue) (rises : KeysRise xs) (goes : GoesAt xs m y.0) where
  at_below : (k : ℕ) (d : KeyAndValue) → k < m → (slice_index_or (insert xs m y) k d).0 ≡ (slice_index_or xs k d).0
  at_below k d lt = ap (λ (e : KeyAndValue). e.0) (get_or-insert_below xs m y d k lt goes.fits)

  at_place : (k : ℕ) (d : KeyAndValue) → k ≡ m → (slice_index_or (insert xs m y) k d).0 ≡ y.0
  at_place k d is = ap (λ (i : ℕ). (slice_index_or (insert xs m y) i d).0) is ∙ ap (λ (e : KeyAndValue). e.0) (get_or-insert_at xs m y d goes.fits)

  at_above : (k : ℕ) (d : KeyAndValue) → m ≤ k → (slice_index_or (insert xs m y) (k + 1) d).0 ≡ (slice_index_or xs k d).0
  at_above k d le = ap (λ (e : KeyAndValue). e.0) (get_or-insert_above xs m y d k le goes.fits)

  to_above : (i j : ℕ) (d e : KeyAndValue) → i < j + 1 → m ≤ j → j < length xs → (slice_index_or (insert xs m y) i d).0 < (slice_index_or (insert xs m y) (j + 1) e).0
  to_above i j d e lt le less =
      elim (cases_lt i m) [
        | inl low ↦ let a = at_below i d low in let b = at_above j e le in let r = rises i j d e (omega arith) less in omega (arith, a, b, r)
        | inr ge ↦ elim (cases_eq i m) [
          | inl same ↦ let a = at_place i d same in let b = at_above j e le in let r = goes.above j e le less in omega (arith, a, b, r)
          | inr ne ↦
              let a = at_above (i - 1) d (omega (arith, ge, ne)) in
              let p : i ≡ i - 1 + 1 = omega (arith, ge, ne) in
              let s = ap (λ (k : ℕ). (slice_index_or (insert xs m y) k d).0) p in
              let b = at_above j e le in
              let r = rises (i - 1) j d e (omega (arith, ge, ne)) less in
              omega (arith, a, b, r, s)
        ]
      ]

  pub insert_rises : KeysRise (insert xs m y)
  insert_rises i j d e lt less =
      let n = length-insert xs m y goes.fits in
      elim (cases_lt j m) [
        | inl low ↦ let a = at_below i d (omega arith) in let b = at_below j e low in let r = rises i j d e lt (omega (arith, goes.fits)) in omega (arith, a, b, r)
        | inr ge ↦ elim (cases_eq j m) [
          | inl same ↦ let a = at_below i d (omega (arith, same)) in let b = at_place j e same in let r = goes.below i d (omega (arith, same)) in omega (arith, a, b, r)
          | inr ne ↦
              let p : j ≡ j - 1 + 1 = omega (arith, ge, ne) in
              let s = ap (λ (k : ℕ). (slice_index_or (insert xs m y) k e).0) p in
              let r = to_above i (j - 1) d e (omega (arith, ge, ne)) (omega (arith, ge, ne)) (omega (arith, ge, ne, n, less)) in
              omega (arith, r, s)
        ]
      ]

-- behind an entry whose key is below
pub goes_behind : (xs : List KeyAndValue) (m key : ℕ) → KeysRise xs → m < length xs → ((d : KeyAndValue) → (slice_index_or xs m d).0 < key) → ((k : ℕ) (d : KeyAndValue) → m < k → k < length xs → key < (slice_index_or xs k d).0) → GoesAt xs (m + 1) key
goes_behind xs m key rises fits above below = record {
  fits = omega (arith, fits);
  below = λ k d lt.
      elim (cases_eq k m) [
        | inl same ↦ let a = above d in let s = ap (λ (i : ℕ). (slice_index_or xs i d).0) same in omega (arith, a, s)
        | inr ne ↦ let a = above d in let r = rises k m d d (omega (arith, lt, ne)) fits in omega (arith, a, r)
      ];
  above = λ k d le less. below k d (omega (arith, le)) less;
}

-- the key that stands there fits there
pub fits_own : (xs : List KeyAndValue) (m key : ℕ) → KeysRise xs → m < length xs → ((d : KeyAndValue) → key ≡ (slice_index_or xs m d).0) → FitsAt xs m key
fits_own xs m key rises fits is = record {
  fits = fits;
  below = λ k d lt. let a = is d in let r = rises k m d d lt fits in omega (arith, a, r);
  above = λ k d lt less. let a = is d in let r = rises m k d d lt less in omega (arith, a, r);
}

pub set_rises : (xs : List KeyAndValue) (m : ℕ) (y : KeyAndValue) → KeysRise xs → FitsAt xs m y.0 → KeysRise (slice_set xs m y)
set_rises xs m y rises f i j d e lt less =
    let n = length-set xs m y in
    elim (cases_eq i m) [
      | inl same ↦
          let q : j ≢ m = omega (arith, same, lt) in
          let s = ap (λ (k : ℕ). (slice_index_or (slice_set xs m y) k d).0) same in
          let a = ap (λ (x : KeyAndValue). x.0) (get_or-set_same xs m y d f.fits) in
          let b = ap (λ (x : KeyAndValue). x.0) (get_or-set_other xs m j y e q) in
          let r = f.above j e (omega (arith, same, lt)) (omega (arith, n, less)) in
          omega (arith, s, a, b, r)
      | inr other ↦
          let o = ap (λ (x : KeyAndValue). x.0) (get_or-set_other xs m i y d other) in
          elim (cases_eq j m) [
            | inl same ↦
                let s = ap (λ (k : ℕ). (slice_index_or (slice_set xs m y) k e).0) same in
                let b = ap (λ (x : KeyAndValue). x.0) (get_or-set_same xs m y e f.fits) in
                let r = f.below i d (omega (arith, same, lt)) in
                omega (arith, o, s, b, r)
            | inr ne ↦
                let b = ap (λ (x : KeyAndValue). x.0) (get_or-set_other xs m j y e ne) in
                let r = rises i j d e lt (omega (arith, n, less)) in
                omega (arith, o, b, r)
          ]
    ]

pub rises_take : (xs : List KeyAndValue) (n : ℕ) → KeysRise xs → KeysRise (take n xs)
rises_take xs n r i j d e lt less =
    let m = length-take n xs in
    let a = ap (λ (x : KeyAndValue). x.0) (get_or-take n xs i d (omega (arith, m, lt, less))) in
    let b = ap (λ (x : KeyAndValue). x.0) (get_or-take n xs j e (omega (arith, m, less))) in
    let h = r i j d e lt (omega (arith, m, less)) in
    omega (arith, a, b, h)

pub rises_drop : (xs : List KeyAndValue) (n : ℕ) → KeysRise xs → KeysRise (drop n xs)
rises_drop xs n r i j d e lt less =
    let m = length-drop n xs in
    let a = ap (λ (x : KeyAndValue). x.0) (get_or-drop n xs i d) in
    let b = ap (λ (x : KeyAndValue). x.0) (get_or-drop n xs j e) in
    let h = r (n + i) (n + j) d e (omega (arith, lt)) (omega (arith, m, less)) in
    omega (arith, a, b, h)

pub rises_front : (a b : List KeyAndValue) → KeysRise (a ++ b) → KeysRise a
rises_front a b r i j d e lt less =
    let n = length-append a b in
    let p = ap (λ (x : KeyAndValue). x.0) (get_or_append_left a b d i (omega (arith, lt, less))) in
    let q = ap (λ (x : KeyAndValue). x.0) (get_or_append_left a b e j less) in
    let h = r i j d e lt (omega (arith, n, less)) in
    omega (arith, p, q, h)

pub rises_back : (a b : List KeyAndValue) → KeysRise (a ++ b) → KeysRise b
rises_back a b r i j d e lt less =
    let n = length-append a b in
    let p = ap (λ (x : KeyAndValue). x.0) (get_or-append-add a b i d) in
    let q = ap (λ (x : KeyAndValue). x.0) (get_or-append-add a b j e) in
    let h = r (length a + i) (length a + j) d e (omega (arith, lt)) (omega (arith, n, less)) in
    omega (arith, p, q, h)

-- ---- without a run

module _ (xs : List KeyAndValue) (from to : ℕ) (order : from ≤ to) (fits : to ≤ length xs) where
  pub length-without : length (remove_range xs from to) + (to - from) ≡ length xs
  length-without =
      let a = length-append (take from xs) (drop to xs) in
      let b = length-take-le from xs (omega arith) in
      let c = length-drop to xs in
      omega (arith, a, b, c)

  low_without : (k : ℕ) (d : KeyAndValue) → k < from → (slice_index_or (remove_range xs from to) k d).0 ≡ (slice_index_or xs k d).0
  low_without k d lt =
      let b = length-take-le from xs (omega arith) in
      ap (λ (x : KeyAndValue). x.0) (get_or_append_left (take from xs) (drop to xs) d k (omega (arith, b, lt)) ∙ get_or-take from xs k d lt)

  high_without : (k : ℕ) (d : KeyAndValue) → from ≤ k → (slice_index_or (remove_range xs from to) k d).0 ≡ (slice_index_or xs (to + (k - from)) d).0
  high_without k d le =
      ap (λ (x : KeyAndValue). x.0) (get_or-append_right (take from xs) (drop to xs) from k d (length-take-le from xs (omega arith)) le ∙ get_or-drop to xs (k - from) d)

  pub rises_without : KeysRise xs → KeysRise (remove_range xs from to)
  rises_without r i j d e lt less =
      let n = length-without in
      elim (cases_lt j from) [
        | inl low ↦ let a = low_without i d (omega (arith, lt, low)) in let b = low_without j e low in let h = r i j d e lt (omega (arith, low, order, fits)) in omega (arith, a, b, h)
        | inr high ↦ elim (cases_lt i from) [
          | inl low ↦ let a = low_without i d low in let b = high_without j e high in let h = r i (to + (j - from)) d e (omega (arith, low, high, order)) (omega (arith, n, less, high, order, fits)) in omega (arith, a, b, h)
          | inr above ↦ let a = high_without i d above in let b = high_without j e high in let h = r (to + (i - from)) (to + (j - from)) d e (omega (arith, above, lt)) (omega (arith, n, less, high, order, fits)) in omega (arith, a, b, h)
        ]
      ]

-- ---- the key of the first entry

pub head_key : (r : List KeyAndValue) (d : KeyAndValue) → 0 < length r → first_key r ≡ (slice_index_or r 0 d).0
head_key [] d some = absurd (omega (arith, some))
head_key (x ∷ xs) d some = refl

pub head_behind : (xs : List KeyAndValue) (s : ℕ) (d : KeyAndValue) → s < length xs → first_key (drop s xs) ≡ (slice_index_or xs s d).0
head_behind xs s d lt = ap first_key (drop_more xs s d lt)

pub head_take : (xs : List KeyAndValue) (n : ℕ) → 0 < n → first_key (take n xs) ≡ first_key xs
head_take xs zero pos = absurd (omega (arith, pos))
head_take [] (suc n) pos = refl
head_take (x ∷ xs) (suc n) pos = refl

pub head_append : (xs ys : List KeyAndValue) → 0 < length xs → first_key (xs ++ ys) ≡ first_key xs
head_append [] ys some = absurd (omega (arith, some))
head_append (x ∷ xs) ys some = refl

-- ---- the ends of a list

pub front_is : (xs : List KeyAndValue) (e : KeyAndValue) → 0 < length xs → ((d : KeyAndValue) → e ≡ slice_index_or xs 0 d) → (rest : List KeyAndValue) × (xs ≡ e ∷ rest)
front_is [] e some is = absurd (omega (arith, some))
front_is (x ∷ xs) e some is = (xs, ap (λ (y : KeyAndValue). y ∷ xs) (sym (is e)))

pub back_is : (xs : List KeyAndValue) (n : ℕ) (e : KeyAndValue) → n + 1 ≡ length xs → e ≡ slice_index_or xs n e → (rest : List KeyAndValue) × (xs ≡ rest ++ e ∷ [])
back_is xs n e is here = (take n xs, sym (take_all (n + 1) xs (omega (arith, is))) ∙ take_more xs n e (omega (arith, is)) ∙ ap (λ (y : KeyAndValue). take n xs ++ y ∷ []) (sym here))

pub head_insert : (xs : List KeyAndValue) (i : ℕ) (y : KeyAndValue) → 0 < i → i ≤ length xs → first_key (insert xs i y) ≡ first_key xs
head_insert xs zero y pos fits = absurd (omega (arith, pos))
head_insert [] (suc i) y pos fits = absurd (omega (arith, fits))
head_insert (x ∷ xs) (suc i) y pos fits = refl

pub head_insert_front : (xs : List KeyAndValue) (i : ℕ) (y : KeyAndValue) → i ≡ 0 → y.0 ≡ first_key (insert xs i y)
head_insert_front xs i y is = sym (ap (λ (k : ℕ). first_key (insert xs k y)) is)

-- a row with one entry more
pub block_with : (old first s i : ℕ) (xs ys : List KeyAndValue) (y : KeyAndValue) → IsBlock 64 old s xs → GoesAt (drop s xs) i y.0 → length xs < 64 → ys ≡ insert xs (s + i) y → first ≡ first_key (insert (drop s xs) i y) → IsBlock 64 first s ys
block_with old first s i xs ys y b goes room items head =
    let some = b.some in
    let fits = goes.fits in
    let n = length-drop s xs in
    let v : drop s ys ≡ insert (drop s xs) i y = ap (drop s) items ∙ drop-insert xs s i y (omega (arith, fits, n, some)) in
    let r = insert_rises (drop s xs) i y b.rises goes in
    let total = ap length items in
    let more = length-insert xs (s + i) y (omega (arith, fits, n, some)) in
    record {
      some = omega (arith, some, total, more);
      fits = omega (arith, room, total, more);
      head = head ∙ sym (ap first_key v);
      rises = rw (← v) at r;
    }
