use Rattle.std.proofs.Common.{Some, sym, ap, ◌∙◌}
use Rattle.block_map.specs.Sorted.{KeyAndValue}
use Rattle.block_map.specs.Rows.{place_among}
use Rattle.block_map.proofs.Keyed.{lookup_here}
use Rattle.block_map.proofs.map.BlockMap.get.Goals as goal

pub returns-in-Some : goal.returns-in-Some
returns-in-Some c =
    let xs = c.args.self.now.items in
    let at = place_among c.args.self.now.rows c.in-Some.place.block c.in-Some.place.index in
    let e : KeyAndValue = c.entry.result in
    ap (λ (x : KeyAndValue). Some x.1) (c.entry.ensures e) ∙ sym (lookup_here xs at c.args.key e c.place_of.ensures.rises c.in-Some.ensures.fits c.in-Some.ensures.key)
