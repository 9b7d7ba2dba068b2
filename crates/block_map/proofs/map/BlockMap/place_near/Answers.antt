use Rattle.std.proofs.Common.{arith, ap}
use Rattle.block_map.specs.Sorted.{KeyAndValue}
use Rattle.block_map.specs.Rows.{place_among}
use Rattle.block_map.proofs.Found.{below_here}
use Rattle.block_map.proofs.Keyed.{lookup_none, none_here}
use Rattle.block_map.proofs.map.BlockMap.place_near.Goals as goal

pub returns-in-None-clause-none : goal.returns-in-None-clause-none
returns-in-None-clause-none c = lookup_none c.args.self.now.items c.args.key (λ i d lt. let h = c.in-None.ensures.none i d lt in omega (arith, h))

pub returns-else-entry-key-clause-none : goal.returns-else-entry-key-clause-none
returns-else-entry-key-clause-none c =
    let xs = c.args.self.now.items in
    let at = place_among c.args.self.now.rows c.in-Some.place.block c.in-Some.place.index in
    let last = c.in-Some.ensures.last in
    let here = below_here xs c.args.key at c.entry.result.0 last (λ d. ap (λ (x : KeyAndValue). x.0) (c.entry.ensures d)) c.if-entry-key.false in
    lookup_none xs c.args.key (none_here xs c.args.key at c.find_near.ensures.rises last.fits here last.above)
