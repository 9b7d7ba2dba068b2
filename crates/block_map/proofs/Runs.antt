-- A run that is taken out of several rows, row by row.
use Rattle.std.proofs.Common.{◌≡◌, ℕ, ◌+◌, ◌≤◌, ◌<◌, refl, sym, ap, ◌∙◌, List, [], length, take, drop, arith, suc}
use Rattle.std.specs.Prelude.{slice_index_or}
use Rattle.std.specs.List.{remove_range}
use Rattle.std.proofs.lemmas.List.{length-append, length-take-le, take_at, take-take, get_or-take}
use Rattle.block_map.specs.Sorted.{KeyAndValue}
use Rattle.block_map.specs.Rows.{flat, place_among, IsPlace}
use Rattle.block_map.proofs.Flat.{place_after, place_bound, places_rise}
use Rattle.block_map.proofs.Rowed.{drop_rows, remove_range-joins}

-- the same first rows: fewer of them are the same too
pub fewer_same : (rows others : List (List KeyAndValue)) (b c : ℕ) → b ≤ c → take c others ≡ take c rows → take b others ≡ take b rows
fewer_same rows others b c le same = sym (take-take b c others le) ∙ ap (λ (t : List (List KeyAndValue)). take b t) same ∙ take-take b c rows le

pub row_same : (rows others : List (List KeyAndValue)) (b c : ℕ) (d : List KeyAndValue) → b < c → take c others ≡ take c rows → slice_index_or others b d ≡ slice_index_or rows b d
row_same rows others b c d lt same = sym (get_or-take c others b d lt) ∙ ap (λ (t : List (List KeyAndValue)). slice_index_or t b d) same ∙ get_or-take c rows b d lt

place_same : (rows others : List (List KeyAndValue)) (b c i : ℕ) → b ≤ c → take c others ≡ take c rows → place_among others b i ≡ place_among rows b i
place_same rows others b c i le same = ap (λ (t : List (List KeyAndValue)). length (flat t) + i) (fewer_same rows others b c le same)

module _ (rows : List (List KeyAndValue)) (b i c : ℕ) (place : IsPlace rows b i) (less : b < c) (fits : c ≤ length rows) where
  pub front_same : take (b + 1) (remove_range rows (b + 1) c) ≡ take (b + 1) rows
  front_same = take_at (take (b + 1) rows) (drop c rows) (b + 1) (length-take-le (b + 1) rows (omega (arith, less, fits)))

  pub front_fits : b < length (remove_range rows (b + 1) c)
  front_fits =
      let n = length-append (take (b + 1) rows) (drop c rows) in
      let m = length-take-le (b + 1) rows (omega (arith, less, fits)) in
      omega (arith, n, m)

  -- the rows between go, and then what lies behind the place in its row
  pub cuts_rows : (len : ℕ) (new : List KeyAndValue) → len ≡ length (slice_index_or (remove_range rows (b + 1) c) b [])
      → new ≡ remove_range (flat (remove_range rows (b + 1) c)) (place_among (remove_range rows (b + 1) c) b i) (place_among (remove_range rows (b + 1) c) b len)
      → new ≡ remove_range (flat rows) (place_among rows b i) (place_among rows c 0)
  cuts_rows len new is cut =
      let left = remove_range rows (b + 1) c in
      let all = flat left in
      let from = place_among rows b i in
      let to = place_among rows (b + 1) 0 in
      let inside = place.1 in
      let e = place_same rows left b (b + 1) i (omega arith) front_same in
      let next = place_same rows left (b + 1) (b + 1) 0 (omega arith) front_same in
      let after = place_after left b [] front_fits in
      let p : suc b ≡ b + 1 = omega arith in
      let q = ap (λ (k : ℕ). place_among left k 0) p in
      let f : place_among left b len ≡ to = omega (arith, after, q, next, is) in
      let row = place_after rows b [] place.0 in
      let r = ap (λ (k : ℕ). place_among rows k 0) p in
      let bound = place_bound rows (b + 1) in
      cut
      ∙ ap (λ (k : ℕ). remove_range all k (place_among left b len)) e
      ∙ ap (λ (k : ℕ). remove_range all from k) f
      ∙ ap (λ (t : List KeyAndValue). remove_range t from to) (drop_rows rows (b + 1) c to (place_among rows c 0) refl refl)
      ∙ remove_range-joins (flat rows) from to (place_among rows c 0) (omega (arith, row, r, inside)) bound

-- entries of a later row went, and then what lies before it, from a place on
pub joins_runs : (rows left : List (List KeyAndValue)) (new : List KeyAndValue) (b i c j : ℕ) → IsPlace rows b i → c < length rows → b < c → take c left ≡ take c rows
    → flat left ≡ remove_range (flat rows) (place_among rows c 0) (place_among rows c (j + 1))
    → new ≡ remove_range (flat left) (place_among left b i) (place_among left c 0)
    → new ≡ remove_range (flat rows) (place_among rows b i) (place_among rows c j + 1)
joins_runs rows left new b i c j place fits less same first then =
    let from = place_among rows b i in
    let middle = place_among rows c 0 in
    let to : place_among rows c (j + 1) ≡ place_among rows c j + 1 = omega arith in
    let e = place_same rows left b c i (omega (arith, less)) same in
    let f = place_same rows left c c 0 (omega arith) same in
    let rise = places_rise rows b c i 0 [] less fits place.1 in
    then
    ∙ ap (λ (k : ℕ). remove_range (flat left) k (place_among left c 0)) e
    ∙ ap (λ (k : ℕ). remove_range (flat left) from k) f
    ∙ ap (λ (t : List KeyAndValue). remove_range t from middle) first
    ∙ remove_range-joins (flat rows) from middle (place_among rows c (j + 1)) (omega (arith, rise)) (place_bound rows c)
    ∙ ap (λ (k : ℕ). remove_range (flat rows) from k) to
