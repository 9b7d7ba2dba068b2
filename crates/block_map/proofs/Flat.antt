-- Entries by their places in rows.
use Rattle.std.proofs.Common.{◌≡◌, ℕ, ◌+◌, ◌≤◌, ◌<◌, refl, sym, ap, ◌∙◌, inl, inr, List, [], ◌∷◌, ◌++◌, length, arith, zero, suc}
use Rattle.std.specs.Prelude.{slice_index_or, take}
use Rattle.std.proofs.lemmas.Bool.{cases_lt, cases_eq}
use Rattle.std.proofs.lemmas.List.{length-append, get_or_append_left, get_or-append-add}
use Rattle.block_map.proofs.Rising.{head_key}
use Rattle.block_map.specs.Sorted.{KeyAndValue, KeysRise, IsLastUpTo, GoesAt, FitsAt}
use Rattle.block_map.specs.Rows.{first_key, FirstsRise, flat, place_among, IsPlace, HasSome}

pub flat_at : (rows : List (List KeyAndValue)) (b i : ℕ) (d : KeyAndValue) (e : List KeyAndValue) → b < length rows → i < length (slice_index_or rows b e) → slice_index_or (flat rows) (place_among rows b i) d ≡ slice_index_or (slice_index_or rows b e) i d
flat_at [] b i d e lt fits = absurd (omega (arith, lt))
flat_at (r ∷ rs) zero i d e lt fits =
    let p : place_among (r ∷ rs) 0 i ≡ i = omega arith in
    ap (λ (k : ℕ). slice_index_or (r ++ flat rs) k d) p ∙ get_or_append_left r (flat rs) d i fits
flat_at (r ∷ rs) (suc b) i d e lt fits =
    let n = length-append r (flat (take b rs)) in
    let p : place_among (r ∷ rs) (suc b) i ≡ length r + place_among rs b i = omega (arith, n) in
    ap (λ (k : ℕ). slice_index_or (r ++ flat rs) k d) p ∙ get_or-append-add r (flat rs) (place_among rs b i) d ∙ flat_at rs b i d e (omega (arith, lt)) fits

-- places lie in the flat list, and rise with the rows
pub place_fits : (rows : List (List KeyAndValue)) (b i : ℕ) (e : List KeyAndValue) → b < length rows → i < length (slice_index_or rows b e) → place_among rows b i < length (flat rows)
place_fits [] b i e lt fits = absurd (omega (arith, lt))
place_fits (r ∷ rs) zero i e lt fits = let n = length-append r (flat rs) in omega (arith, n, fits)
place_fits (r ∷ rs) (suc b) i e lt fits =
    let n = length-append r (flat (take b rs)) in
    let m = length-append r (flat rs) in
    let h = place_fits rs b i e (omega (arith, lt)) fits in
    omega (arith, n, m, h)

pub places_rise : (rows : List (List KeyAndValue)) (b c i j : ℕ) (e : List KeyAndValue) → b < c → c < length rows → i < length (slice_index_or rows b e) → place_among rows b i < place_among rows c j
places_rise [] b c i j e lt less fits = absurd (omega (arith, less))
places_rise (r ∷ rs) b zero i j e lt less fits = absurd (omega (arith, lt))
places_rise (r ∷ rs) zero (suc c) i j e lt less fits = let n = length-append r (flat (take c rs)) in omega (arith, n, fits)
places_rise (r ∷ rs) (suc b) (suc c) i j e lt less fits =
    let n = length-append r (flat (take b rs)) in
    let m = length-append r (flat (take c rs)) in
    let h = places_rise rs b c i j e (omega (arith, lt)) (omega (arith, less)) fits in
    omega (arith, n, m, h)

pub firsts_rise : (rows : List (List KeyAndValue)) → HasSome rows → KeysRise (flat rows) → FirstsRise rows
firsts_rise rows some rises i j d e lt less =
    let y : KeyAndValue = (0, 0) in
    let a = some i d (omega (arith, lt, less)) in
    let b = some j e less in
    let f = head_key (slice_index_or rows i d) y a in
    let g = head_key (slice_index_or rows j e) y b in
    let p = ap (λ (x : KeyAndValue). x.0) (flat_at rows i 0 y d (omega (arith, lt, less)) a) in
    let q = ap (λ (x : KeyAndValue). x.0) (flat_at rows j 0 y e less b) in
    let r = rises (place_among rows i 0) (place_among rows j 0) y y (places_rise rows i j 0 0 d lt less a) (place_fits rows j 0 e less b) in
    omega (arith, f, g, p, q, r)

pub place_after : (rows : List (List KeyAndValue)) (b : ℕ) (e : List KeyAndValue) → b < length rows → place_among rows (suc b) 0 ≡ place_among rows b (length (slice_index_or rows b e))
place_after [] b e lt = absurd (omega (arith, lt))
place_after (r ∷ rs) zero e lt = let n = length-append r [] in omega (arith, n)
place_after (r ∷ rs) (suc b) e lt =
    let n = length-append r (flat (take b rs)) in
    let m = length-append r (flat (take (suc b) rs)) in
    let h = place_after rs b e (omega (arith, lt)) in
    omega (arith, n, m, h)

pub place_end : (rows : List (List KeyAndValue)) (b : ℕ) (e : List KeyAndValue) → suc b ≡ length rows → length (flat rows) ≡ place_among rows b (length (slice_index_or rows b e))
place_end [] b e is = absurd (omega (arith, is))
place_end (r ∷ []) zero e is = let n = length-append r [] in omega (arith, n)
place_end (r ∷ s ∷ rs) zero e is = absurd (omega (arith, is))
place_end (r ∷ rs) (suc b) e is =
    let n = length-append r (flat (take b rs)) in
    let m = length-append r (flat rs) in
    let h = place_end rs b e (omega (arith, is)) in
    omega (arith, n, m, h)

-- keys from a place on are above n, where that of the place is
pub above_from : (xs : List KeyAndValue) (n a k : ℕ) (d : KeyAndValue) → KeysRise xs → a ≤ k → k < length xs → n < (slice_index_or xs a d).0 → n < (slice_index_or xs k d).0
above_from xs n a k d rises le less h =
    elim (cases_eq a k) [
      | inl same ↦ let s = ap (λ (i : ℕ). (slice_index_or xs i d).0) same in omega (arith, s, h)
      | inr ne ↦ let r = rises a k d d (omega (arith, le, ne)) less in omega (arith, r, h)
    ]

pub last_in_rows : (rows : List (List KeyAndValue)) (n b i : ℕ) (e : List KeyAndValue) → HasSome rows → KeysRise (flat rows) → b < length rows → ((k : ℕ) (d : List KeyAndValue) → b < k → k < length rows → n < first_key (slice_index_or rows k d)) → IsLastUpTo (slice_index_or rows b e) n i → IsLastUpTo (flat rows) n (place_among rows b i)
last_in_rows rows n b i e has rises lt beyond last =
    let row = slice_index_or rows b e in
    let fits = place_fits rows b i e lt last.fits in
    record {
      fits = fits;
      up_to = λ d. let p = ap (λ (x : KeyAndValue). x.0) (flat_at rows b i d e lt last.fits) in let u = last.up_to d in omega (arith, p, u);
      above = λ k d more less.
          elim (cases_lt (i + 1) (length row)) [
            | inl inside ↦
                let p = ap (λ (x : KeyAndValue). x.0) (flat_at rows b (i + 1) d e lt inside) in
                let u = last.above (i + 1) d (omega arith) inside in
                above_from (flat rows) n (place_among rows b (i + 1)) k d rises (omega (arith, more)) less (omega (arith, p, u))
            | inr at_end ↦ elim (cases_lt (suc b) (length rows)) [
              | inl others ↦
                  let s = has (suc b) e others in
                  let p = ap (λ (x : KeyAndValue). x.0) (flat_at rows (suc b) 0 d e others s) in
                  let u = beyond (suc b) e (omega arith) others in
                  let g = head_key (slice_index_or rows (suc b) e) d s in
                  let a = place_after rows b e lt in
                  let f = last.fits in
                  above_from (flat rows) n (place_among rows (suc b) 0) k d rises (omega (arith, more, a, at_end, f)) less (omega (arith, p, u, g))
              | inr none ↦ let z = place_end rows b e (omega (arith, lt, none)) in let f = last.fits in absurd (omega (arith, z, more, less, at_end, f))
            ]
          ];
    }

pub zero_place : (k : ℕ) (rs : List (List KeyAndValue)) → place_among rs 0 0 ≤ k
zero_place k [] = omega arith
zero_place k (r ∷ rs) = omega arith

-- all keys are above n, where the first is
pub none_up_to : (rs : List (List KeyAndValue)) (n : ℕ) (e : List KeyAndValue) → HasSome rs → KeysRise (flat rs) → 0 < length rs → n < first_key (slice_index_or rs 0 e) → (k : ℕ) (d : KeyAndValue) → k < length (flat rs) → n < (slice_index_or (flat rs) k d).0
none_up_to rs n e has rises some first k d less =
    let s = has 0 e some in
    let p = ap (λ (x : KeyAndValue). x.0) (flat_at rs 0 0 d e some s) in
    let g = head_key (slice_index_or rs 0 e) d s in
    above_from (flat rs) n (place_among rs 0 0) k d rises (zero_place k rs) less (omega (arith, p, g, first))

pub same_at : (rows : List (List KeyAndValue)) (b : ℕ) (d e : List KeyAndValue) → b < length rows → slice_index_or rows b d ≡ slice_index_or rows b e
same_at [] b d e lt = absurd (omega (arith, lt))
same_at (r ∷ rs) zero d e lt = refl
same_at (r ∷ rs) (suc b) d e lt = same_at rs b d e (omega (arith, lt))

pub found_place : (rows : List (List KeyAndValue)) (n b i : ℕ) (row : List KeyAndValue) → HasSome rows → KeysRise (flat rows) → b < length rows → ((k : ℕ) (d : List KeyAndValue) → b < k → k < length rows → n < first_key (slice_index_or rows k d)) → row ≡ slice_index_or rows b row → IsLastUpTo row n i → IsPlace rows b i × IsLastUpTo (flat rows) n (place_among rows b i)
found_place rows n b i row has rises lt beyond is last =
    let same = is ∙ same_at rows b row [] lt in
    let l = rw same at last in
    ((lt, l.fits), last_in_rows rows n b i [] has rises lt beyond l)

-- ---- what is put in or taken out at a place, in its row

-- the key goes into the row where it goes into all
pub goes_in_row : (rows : List (List KeyAndValue)) (b i key : ℕ) (e : List KeyAndValue) → b < length rows → i ≤ length (slice_index_or rows b e) → GoesAt (flat rows) (place_among rows b i) key → GoesAt (slice_index_or rows b e) i key
goes_in_row rows b i key e lt fits goes = record {
  fits = fits;
  below = λ k d less.
      let p = ap (λ (x : KeyAndValue). x.0) (flat_at rows b k d e lt (omega (arith, less, fits))) in
      let g = goes.below (place_among rows b k) d (omega (arith, less)) in
      omega (arith, p, g);
  above = λ k d le less.
      let p = ap (λ (x : KeyAndValue). x.0) (flat_at rows b k d e lt less) in
      let f = place_fits rows b k e lt less in
      let g = goes.above (place_among rows b k) d (omega (arith, le)) f in
      omega (arith, p, g);
}

pub fits_in_row : (rows : List (List KeyAndValue)) (b i key : ℕ) (e : List KeyAndValue) → b < length rows → i < length (slice_index_or rows b e) → FitsAt (flat rows) (place_among rows b i) key → FitsAt (slice_index_or rows b e) i key
fits_in_row rows b i key e lt fits goes = record {
  fits = fits;
  below = λ k d less.
      let p = ap (λ (x : KeyAndValue). x.0) (flat_at rows b k d e lt (omega (arith, less, fits))) in
      let g = goes.below (place_among rows b k) d (omega (arith, less)) in
      omega (arith, p, g);
  above = λ k d more less.
      let p = ap (λ (x : KeyAndValue). x.0) (flat_at rows b k d e lt less) in
      let f = place_fits rows b k e lt less in
      let g = goes.above (place_among rows b k) d (omega (arith, more)) f in
      omega (arith, p, g);
}

-- ---- the order of places

pub rows_ordered : (rows : List (List KeyAndValue)) (b c i j : ℕ) → b < length rows → IsPlace rows c j → place_among rows b i ≤ place_among rows c j → b ≤ c
rows_ordered rows b c i j lt place order =
    elim (cases_lt c b) [
      | inl less ↦ let h = places_rise rows c b j i [] less lt place.1 in absurd (omega (arith, h, order))
      | inr le ↦ le
    ]

pub place_bound : (rows : List (List KeyAndValue)) (b : ℕ) → place_among rows b 0 ≤ length (flat rows)
place_bound [] zero = omega arith
place_bound [] (suc b) = omega arith
place_bound (r ∷ rs) zero = let n = length-append r (flat rs) in omega arith
place_bound (r ∷ rs) (suc b) =
    let n = length-append r (flat (take b rs)) in
    let m = length-append r (flat rs) in
    let h = place_bound rs b in
    omega (arith, n, m, h)

pub place_grows : (rows : List (List KeyAndValue)) (b c : ℕ) → b ≤ c → place_among rows b 0 ≤ place_among rows c 0
place_grows [] zero zero le = omega arith
place_grows [] zero (suc c) le = omega arith
place_grows [] (suc b) zero le = omega arith
place_grows [] (suc b) (suc c) le = omega arith
place_grows (r ∷ rs) zero c le = omega arith
place_grows (r ∷ rs) (suc b) zero le = absurd (omega (arith, le))
place_grows (r ∷ rs) (suc b) (suc c) le =
    let n = length-append r (flat (take b rs)) in
    let m = length-append r (flat (take c rs)) in
    let h = place_grows rs b c (omega (arith, le)) in
    omega (arith, n, m, h)

-- ---- near a hint, and at the front

-- where the next entry of the row has a key above n
pub near_place : (rows : List (List KeyAndValue)) (n b i : ℕ) (row : List KeyAndValue) → KeysRise (flat rows) → b < length rows → row ≡ slice_index_or rows b row → i + 1 < length row → ((d : KeyAndValue) → (slice_index_or row i d).0 ≤ n) → ((d : KeyAndValue) → n < (slice_index_or row (i + 1) d).0) → IsLastUpTo (flat rows) n (place_among rows b i)
near_place rows n b i row rises lt is inside up_to above =
    let l = ap length is in
    record {
      fits = place_fits rows b i row lt (omega (arith, l, inside));
      up_to = λ d.
          let p = ap (λ (x : KeyAndValue). x.0) (flat_at rows b i d row lt (omega (arith, l, inside))) in
          let s = ap (λ (r : List KeyAndValue). (slice_index_or r i d).0) is in
          let u = up_to d in
          omega (arith, p, s, u);
      above = λ k d more less.
          let p = ap (λ (x : KeyAndValue). x.0) (flat_at rows b (i + 1) d row lt (omega (arith, l, inside))) in
          let s = ap (λ (r : List KeyAndValue). (slice_index_or r (i + 1) d).0) is in
          let u = above d in
          above_from (flat rows) n (place_among rows b (i + 1)) k d rises (omega (arith, more)) less (omega (arith, p, s, u));
    }

-- the first entry has the first key of the first row
pub front_key : (all : List (List KeyAndValue)) (row : List KeyAndValue) → 0 < length all → row ≡ slice_index_or all 0 row → 0 < length row → (v : ℕ) × (rest : List KeyAndValue) × (flat all ≡ (first_key row, v) ∷ rest)
front_key [] row some is has = absurd (omega (arith, some))
front_key (r ∷ rs) [] some is has = absurd (omega (arith, has))
front_key (r ∷ rs) (e ∷ es) some is has = (e.1, es ++ flat rs, ap (λ (t : List KeyAndValue). t ++ flat rs) (sym is))
