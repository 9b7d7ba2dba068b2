use Rattle.std.proofs.Common.{◌≡◌, List, [], ap, ◌∙◌}
use Rattle.std.specs.Prelude.{slice_index_or, slice_set, insert}
use Rattle.block_map.specs.Sorted.{KeyAndValue}
use Rattle.block_map.specs.Rows.{flat}
use Rattle.block_map.proofs.Flat.{same_at, goes_in_row}
use Rattle.block_map.proofs.Rowed.{put_in}
use Rattle.block_map.proofs.rows.put_entry.Goals as goal

pub try_put-requires : goal.try_put-requires
try_put-requires c =
    let rows = c.args.blocks.now.items in
    let b = c.args.block in
    let row = c.index_mut.result.now in
    let same : row ≡ slice_index_or rows b [] = c.index_mut.ensures.value ∙ same_at rows b row [] c.requires.block in
    let h = goes_in_row rows b c.args.index c.args.key [] c.requires.block c.requires.index c.requires.goes in
    rw (← same) at h

pub returns-then-try_put-clause-items : goal.returns-then-try_put-clause-items
returns-then-try_put-clause-items c =
    let rows = c.args.blocks.now.items in
    let b = c.args.block in
    let i = c.args.index in
    let y : KeyAndValue = (c.args.key, c.args.value) in
    let row = c.index_mut.result.now in
    let same : row ≡ slice_index_or rows b [] = c.index_mut.ensures.value ∙ same_at rows b row [] c.requires.block in
    ap (λ (t : List KeyAndValue). flat (slice_set rows b t)) (c.try_put.ensures.put c.if-try_put.true ∙ ap (λ (t : List KeyAndValue). insert t i y) same) ∙ put_in rows b [] c.requires.block i y c.requires.index
