use Rattle.std.proofs.Common.{arith, ◌+◌, []}
use Rattle.block_map.specs.Rows.{flat, place_among}
use Rattle.block_map.proofs.Flat.{place_fits}
use Rattle.block_map.proofs.Rising.{rises_without}
use Rattle.block_map.proofs.rows.remove_entries.Goals as goal

pub join_around-requires-clause-rises : goal.join_around-requires-clause-rises
join_around-requires-clause-rises c =
    let rows = c.args.blocks.now.items in
    let from = place_among rows c.args.first.0 c.args.first.1 in
    let to = place_among rows c.args.last.0 c.args.last.1 + 1 in
    let fits = place_fits rows c.args.last.0 c.args.last.1 [] c.requires.last.0 c.requires.last.1 in
    let order = c.requires.order in
    let left = rises_without (flat rows) from to (omega (arith, order)) (omega (arith, fits)) c.requires.rises in
    rw (← c.cut_entries.ensures.items) at left
