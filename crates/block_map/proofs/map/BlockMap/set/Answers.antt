use Rattle.std.proofs.Common.{arith, ◌≡◌, List, [], length, ap, ◌∙◌}
use Rattle.std.specs.Prelude.{slice_index_or, slice_set, vec_capacity}
use Rattle.block_map.specs.Sorted.{KeyAndValue, FitsAt}
use Rattle.block_map.specs.Rows.{Entries, flat, place_among, IsPlace}
use Rattle.std.proofs.lemmas.List.{length-set}
use Rattle.block_map.proofs.Flat.{same_at, fits_in_row}
use Rattle.block_map.proofs.Rising.{set_rises}
use Rattle.block_map.proofs.Rowed.{set_in, some_set, place-set, room-set}
use Rattle.block_map.proofs.map.BlockMap.set.Goals as goal

pub set-requires : goal.set-requires
set-requires c =
    let rows = c.self.inside.blocks.items in
    let items : flat rows ≡ c.args.self.now.items = ap (λ (v : Entries). v.items) c.self.view_is in
    let placed : rows ≡ c.args.self.now.rows = ap (λ (v : Entries). v.rows) c.self.view_is in
    let b = c.args.place.block in
    let i = c.args.place.index in
    let place : IsPlace rows b i = rw (← placed) at c.requires.place in
    let fits : FitsAt (flat rows) (place_among rows b i) c.args.key = rw (← items, ← placed) at c.requires.fits in
    let row = c.index_mut.result.now in
    let same : row ≡ slice_index_or rows b [] = c.index_mut.ensures.value ∙ same_at rows b row [] place.0 in
    let h = fits_in_row rows b i c.args.key [] place.0 place.1 fits in
    rw (← same) at h

pub invariant_of-self : goal.invariant_of-self
invariant_of-self c =
    let rows = c.self.inside.blocks.items in
    let items : flat rows ≡ c.args.self.now.items = ap (λ (v : Entries). v.items) c.self.view_is in
    let placed : rows ≡ c.args.self.now.rows = ap (λ (v : Entries). v.rows) c.self.view_is in
    let b = c.args.place.block in
    let i = c.args.place.index in
    let y : KeyAndValue = (c.args.key, c.args.value) in
    let place : IsPlace rows b i = rw (← placed) at c.requires.place in
    let fits : FitsAt (flat rows) (place_among rows b i) c.args.key = rw (← items, ← placed) at c.requires.fits in
    let row = c.index_mut.result.now in
    let same : row ≡ slice_index_or rows b [] = c.index_mut.ensures.value ∙ same_at rows b row [] place.0 in
    let new : c.set.new.self ≡ slice_set (slice_index_or rows b []) i y = c.set.ensures ∙ ap (λ (t : List KeyAndValue). slice_set t i y) same in
    let all : flat (slice_set rows b c.set.new.self) ≡ slice_set (flat rows) (place_among rows b i) y = ap (λ (t : List KeyAndValue). flat (slice_set rows b t)) new ∙ set_in rows b [] place.0 i y place.1 in
    let r = set_rises (flat rows) (place_among rows b i) y c.self.invariant.rises fits in
    let l = ap length new in
    let m = length-set (slice_index_or rows b []) i y in
    let n = length-set rows b c.set.new.self in
    let inside = place.1 in
    let total = ap length all in
    let whole = length-set (flat rows) (place_among rows b i) y in
    let len = c.self.invariant.len_is in
    record {
      some = some_set rows b c.set.new.self c.self.invariant.some (omega (arith, l, m, inside));
      rises = rw (← all) at r;
      len_is = omega (arith, len, total, whole);
      empty = c.self.invariant.empty;
      room = λ ready. let h = c.self.invariant.room ready in (room-set rows b c.set.new.self [] (vec_capacity c.self.inside.blocks) (vec_capacity c.self.inside.spare) (omega (arith, l, m)) h.0, h.1);
    }

pub returns-clause-items : goal.returns-clause-items
returns-clause-items c =
    let rows = c.self.inside.blocks.items in
    let items : flat rows ≡ c.args.self.now.items = ap (λ (v : Entries). v.items) c.self.view_is in
    let placed : rows ≡ c.args.self.now.rows = ap (λ (v : Entries). v.rows) c.self.view_is in
    let b = c.args.place.block in
    let i = c.args.place.index in
    let y : KeyAndValue = (c.args.key, c.args.value) in
    let place : IsPlace rows b i = rw (← placed) at c.requires.place in
    let row = c.index_mut.result.now in
    let same : row ≡ slice_index_or rows b [] = c.index_mut.ensures.value ∙ same_at rows b row [] place.0 in
    let new : c.set.new.self ≡ slice_set (slice_index_or rows b []) i y = c.set.ensures ∙ ap (λ (t : List KeyAndValue). slice_set t i y) same in
    let all : flat (slice_set rows b c.set.new.self) ≡ slice_set (flat rows) (place_among rows b i) y = ap (λ (t : List KeyAndValue). flat (slice_set rows b t)) new ∙ set_in rows b [] place.0 i y place.1 in
    all ∙ ap (λ (t : List KeyAndValue). slice_set t (place_among rows b i) y) items ∙ ap (λ (r : List (List KeyAndValue)). slice_set c.args.self.now.items (place_among r b i) y) placed

pub returns-clause-places : goal.returns-clause-places
returns-clause-places c =
    let rows = c.self.inside.blocks.items in
    let items : flat rows ≡ c.args.self.now.items = ap (λ (v : Entries). v.items) c.self.view_is in
    let placed : rows ≡ c.args.self.now.rows = ap (λ (v : Entries). v.rows) c.self.view_is in
    let b = c.args.place.block in
    let i = c.args.place.index in
    let y : KeyAndValue = (c.args.key, c.args.value) in
    let place : IsPlace rows b i = rw (← placed) at c.requires.place in
    let row = c.index_mut.result.now in
    let same : row ≡ slice_index_or rows b [] = c.index_mut.ensures.value ∙ same_at rows b row [] place.0 in
    let new : c.set.new.self ≡ slice_set (slice_index_or rows b []) i y = c.set.ensures ∙ ap (λ (t : List KeyAndValue). slice_set t i y) same in
    let l = ap length new in
    let m = length-set (slice_index_or rows b []) i y in
    λ k j. place-set rows b c.set.new.self [] place.0 (omega (arith, l, m)) k j ∙ ap (λ (r : List (List KeyAndValue)). place_among r k j) placed
