use Rattle.block_map.specs.Rows.{place_among}
use Rattle.block_map.proofs.Rising.{back_is}
use Rattle.block_map.proofs.map.BlockMap.last.Goals as goal

pub returns-in-Some-clause-some : goal.returns-in-Some-clause-some
returns-in-Some-clause-some c =
    back_is c.args.self.now.items (place_among c.args.self.now.rows c.in-Some.place.block c.in-Some.place.index) c.entry.result c.in-Some.ensures.last (c.entry.ensures c.entry.result)
