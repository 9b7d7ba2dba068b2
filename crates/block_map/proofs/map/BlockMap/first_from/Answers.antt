use Rattle.std.proofs.Common.{arith, ap}
use Rattle.block_map.specs.Sorted.{KeyAndValue}
use Rattle.block_map.specs.Rows.{place_among}
use Rattle.block_map.proofs.Found.{first_here}
use Rattle.block_map.proofs.map.BlockMap.first_from.Goals as goal

pub returns-then-entry-n-clause-first : goal.returns-then-entry-n-clause-first
returns-then-entry-n-clause-first c =
    let xs = c.args.self.now.items in
    let at = place_among c.args.self.now.rows c.in-Some.place.block c.in-Some.place.index in
    let same = c.if-entry-n.true in
    let last = rw c.in-Some.is at c.requires.last in
    first_here xs c.args.n at c.len-count.ensures.rises last.fits (λ d. let e = ap (λ (x : KeyAndValue). x.0) (c.entry.ensures d) in omega (arith, e, same))
