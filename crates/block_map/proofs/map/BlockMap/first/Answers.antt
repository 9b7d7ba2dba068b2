use Rattle.block_map.proofs.Rising.{front_is}
use Rattle.block_map.proofs.map.BlockMap.first.Goals as goal

pub returns-in-Some-clause-some : goal.returns-in-Some-clause-some
returns-in-Some-clause-some c =
    let p = c.in-Some.ensures.first in
    front_is c.args.self.now.items c.entry.result c.in-Some.ensures.some (λ d. rw p at (c.entry.ensures d))
