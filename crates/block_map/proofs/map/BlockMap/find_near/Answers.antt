use Rattle.std.proofs.Common.{arith, ◌≡◌, ◌<◌, length, ap}
use Rattle.block_map.specs.Sorted.{IsLastUpTo}
use Rattle.block_map.specs.Rows.{Entries, flat, place_among}
use Rattle.block_map.proofs.Flat.{near_place}
use Rattle.block_map.proofs.map.BlockMap.find_near.Goals as goal

pub returns-in-Some-clause-last : goal.returns-in-Some-clause-last
returns-in-Some-clause-last c =
    let rows = c.self.inside.blocks.items in
    let items : flat rows ≡ c.args.self.now.items = ap (λ (v : Entries). v.items) c.self.view_is in
    let placed : rows ≡ c.args.self.now.rows = ap (λ (v : Entries). v.rows) c.self.view_is in
    let b = c.args.hint.block in
    let i = c.in-Some.index in
    let lt : b < length rows = omega (arith, c.if-block-len.true, c.len.ensures) in
    let h : IsLastUpTo (flat rows) c.args.n (place_among rows b i) = near_place rows c.args.n b i c.index.result.now c.self.invariant.rises lt c.index.ensures c.in-Some.ensures.fits c.in-Some.ensures.up_to c.in-Some.ensures.above in
    rw (items, placed) at h
