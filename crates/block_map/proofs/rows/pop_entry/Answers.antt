use Rattle.std.proofs.Common.{arith, ◌≡◌, length, ap, ◌∙◌}
use Rattle.std.specs.Prelude.{slice_index_or}
use Rattle.block_map.specs.Rows.{flat}
use Rattle.block_map.proofs.Rowed.{pop_row}
use Rattle.block_map.proofs.rows.pop_entry.Goals as goal

pub returns-clause-items : goal.returns-clause-items
returns-clause-items c =
    let all = c.args.blocks.now.items in
    let row = c.index.result.now in
    let l = c.len.ensures.len in
    let some = c.len.ensures.some in
    let same = ap length c.index.ensures in
    let one : length (slice_index_or all 0 row) ≡ 1 = omega (arith, l, some, same, c.if-len-gt1.false) in
    ap flat c.remove_row.ensures.rows ∙ pop_row all row c.requires.rows one
