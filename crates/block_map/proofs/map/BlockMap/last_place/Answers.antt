use Rattle.std.proofs.Common.{rules, arith, ◌≡◌, ◌+◌, ◌-◌, ◌<◌, length, ap}
use Rattle.block_map.specs.Rows.{Entries, flat, place_among}
use Rattle.block_map.proofs.Flat.{place_end}
use Rattle.block_map.proofs.map.BlockMap.last_place.Goals as goal

pub returns-clause-last : goal.returns-clause-last
returns-clause-last c =
    let rows = c.self.inside.blocks.items in
    let items : flat rows ≡ c.args.self.now.items = ap (λ (v : Entries). v.items) c.self.view_is in
    let placed : rows ≡ c.args.self.now.rows = ap (λ (v : Entries). v.rows) c.self.view_is in
    let row = c.index.result.now in
    let some : 0 < length rows = search rules in
    let n : c.len-block.result ≡ length rows = omega (arith, c.len-block.ensures) in
    let here = ap length c.index.ensures in
    let l = c.len-index.ensures.len in
    let pos = c.len-index.ensures.some in
    let z = place_end rows (c.len-block.result - 1) row (omega (arith, some, n)) in
    let h : place_among rows (c.len-block.result - 1) (c.len-index.result - 1) + 1 ≡ length (flat rows) = omega (arith, z, here, l, pos) in
    rw (items, placed) at h
