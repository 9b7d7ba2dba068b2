use Rattle.std.proofs.Common.{arith, []}
use Rattle.block_map.proofs.Flat.{rows_ordered, place_fits}
use Rattle.block_map.proofs.rows.count_between.Goals as goal

pub count_rows-requires-clause-order : goal.count_rows-requires-clause-order
count_rows-requires-clause-order c =
    rows_ordered c.args.blocks.now c.args.from.0 c.args.to.0 c.args.from.1 c.args.to.1 c.requires.from.0 c.requires.to c.requires.order

pub overflow_add-result : goal.overflow_add-result
overflow_add-result c =
    let f = place_fits c.args.blocks.now c.args.to.0 c.args.to.1 [] c.requires.to.0 c.requires.to.1 in
    let n = c.count_rows.ensures in
    let few = c.requires.few in
    omega (arith, f, n, few)
