use Rattle.std.proofs.Common.{rules, arith, ◌≡◌, ◌<◌, length, ap}
use Rattle.block_map.specs.Sorted.{IsLastUpTo}
use Rattle.block_map.specs.Rows.{Entries, flat, place_among, first_key}
use Rattle.block_map.proofs.Flat.{firsts_rise, found_place, none_up_to}
use Rattle.block_map.proofs.map.BlockMap.find.Goals as goal

pub last_row-block-requires-clause-rise : goal.last_row-block-requires-clause-rise
last_row-block-requires-clause-rise c =
    let h = firsts_rise c.self.inside.blocks.items c.self.invariant.some c.self.invariant.rises in
    rw (← c.as_slice.ensures.value) at h

pub returns-clause-last : goal.returns-clause-last
returns-clause-last c =
    let rows = c.self.inside.blocks.items in
    let items : flat rows ≡ c.args.self.now.items = ap (λ (v : Entries). v.items) c.self.view_is in
    let placed : rows ≡ c.args.self.now.rows = ap (λ (v : Entries). v.rows) c.self.view_is in
    let v = c.as_slice.ensures.value in
    let fits = rw v at c.last_row-block.ensures.fits in
    let above = rw v at c.last_row-block.ensures.above in
    let r = found_place rows c.args.n c.last_row-block.result c.find-index.result c.index-2.result.now c.self.invariant.some c.self.invariant.rises fits above c.index-2.ensures c.find-index.ensures in
    let h : IsLastUpTo (flat rows) c.args.n (place_among rows c.last_row-block.result c.find-index.result) = r.1 in
    rw (items, placed) at h

pub returns-then-first-n-clause-none : goal.returns-then-first-n-clause-none
returns-then-first-n-clause-none c =
    let rows = c.self.inside.blocks.items in
    let items : flat rows ≡ c.args.self.now.items = ap (λ (v : Entries). v.items) c.self.view_is in
    let placed : rows ≡ c.args.self.now.rows = ap (λ (v : Entries). v.rows) c.self.view_is in
    let some : 0 < length rows = search rules in
    let gt : c.args.n < c.first.result = search rules in
    let k = c.first.ensures.key in
    let s = ap first_key c.index.ensures in
    let h = none_up_to rows c.args.n c.index.result.now c.self.invariant.some c.self.invariant.rises some (omega (arith, gt, k, s)) in
    rw items at h
