use Rattle.std.proofs.Common.{◌≡◌, [], sym, ap, ◌∙◌}
use Rattle.std.specs.Prelude.{slice_index_or}
use Rattle.block_map.specs.Sorted.{KeyAndValue}
use Rattle.block_map.specs.Rows.{Entries, flat, place_among, IsPlace}
use Rattle.std.proofs.lemmas.List.{get_or_default}
use Rattle.block_map.proofs.Flat.{same_at, flat_at}
use Rattle.block_map.proofs.map.BlockMap.entry.Goals as goal

pub returns : goal.returns
returns c =
    let rows = c.self.inside.blocks.items in
    let items : flat rows ≡ c.args.self.now.items = ap (λ (v : Entries). v.items) c.self.view_is in
    let placed : rows ≡ c.args.self.now.rows = ap (λ (v : Entries). v.rows) c.self.view_is in
    let b = c.args.place.block in
    let i = c.args.place.index in
    let place : IsPlace rows b i = rw (← placed) at c.requires in
    let row = c.index.result.now in
    let same : row ≡ slice_index_or rows b [] = c.index.ensures ∙ same_at rows b row [] place.0 in
    let e : KeyAndValue = c.get.result in
    let got : e ≡ slice_index_or (slice_index_or rows b []) i e = rw same at c.get.ensures in
    let h : (d : KeyAndValue) → e ≡ slice_index_or (flat rows) (place_among rows b i) d = λ d. got ∙ get_or_default (slice_index_or rows b []) i e d place.1 ∙ sym (flat_at rows b i d [] place.0 place.1) in
    rw (items, placed) at h
