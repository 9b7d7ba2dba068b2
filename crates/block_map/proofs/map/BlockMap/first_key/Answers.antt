use Rattle.std.proofs.Common.{rules, ◌≡◌, ◌<◌, length, ap}
use Rattle.block_map.specs.Rows.{Entries, flat}
use Rattle.block_map.proofs.Flat.{front_key}
use Rattle.block_map.proofs.map.BlockMap.first_key.Goals as goal

pub returns-clause-some : goal.returns-clause-some
returns-clause-some c =
    let rows = c.self.inside.blocks.items in
    let items : flat rows ≡ c.args.self.now.items = ap (λ (v : Entries). v.items) c.self.view_is in
    let some : 0 < length rows = search rules in
    let h = front_key rows c.index.result.now some c.index.ensures c.first.ensures.some in
    rw (items, ← c.first.ensures.key) at h
