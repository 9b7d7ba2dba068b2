use Rattle.std.proofs.Common.{arith, ◌≡◌, List, [], length, ap, ◌∙◌, suc}
use Rattle.std.specs.Prelude.{slice_index_or, slice_set}
use Rattle.std.specs.List.{remove_range}
use Rattle.block_map.specs.Sorted.{KeyAndValue}
use Rattle.block_map.specs.Rows.{flat, place_among}
use Rattle.block_map.proofs.Flat.{same_at, place_after}
use Rattle.block_map.proofs.Rowed.{cut_in, drop_rows}
use Rattle.block_map.proofs.rows.cut_row.Goals as goal

pub returns-then-to-from-clause-items : goal.returns-then-to-from-clause-items
returns-then-to-from-clause-items c =
    let rows = c.args.blocks.now.items in
    let b = c.args.block in
    let from = c.args.from in
    let to = c.args.to in
    let row = c.index_mut.result.now in
    let same : row ≡ slice_index_or rows b [] = c.index_mut.ensures.value ∙ same_at rows b row [] c.requires.block in
    ap (λ (t : List KeyAndValue). flat (slice_set rows b t)) (c.cut.ensures ∙ ap (λ (t : List KeyAndValue). remove_range t from to) same) ∙ cut_in rows b [] c.requires.block from to c.requires.order c.requires.fits

pub returns-clause-items : goal.returns-clause-items
returns-clause-items c =
    let rows = c.args.blocks.now.items in
    let b = c.args.block in
    let from = c.args.from in
    let to = c.args.to in
    let row = c.index.result.now in
    let same = ap length (c.index.ensures ∙ same_at rows b row [] c.requires.block) in
    let l = c.len.ensures.len in
    let fits = c.requires.fits in
    let order = c.requires.order in
    let a = place_after rows b [] c.requires.block in
    let new : c.remove.new.self.items ≡ remove_range rows b (suc b) = c.remove.ensures.items in
    ap flat new ∙ drop_rows rows b (suc b) (place_among rows b from) (place_among rows b to) (omega (arith, same, l, fits, order)) (omega (arith, same, l, fits, order, a))
