use Rattle.std.proofs.Common.{arith, ◌≡◌, ◌+◌, ◌<◌, [], length, ap}
use Rattle.block_map.specs.Sorted.{KeysRise}
use Rattle.block_map.specs.Rows.{Entries, flat, place_among, IsPlace}
use Rattle.block_map.proofs.Flat.{place_fits}
use Rattle.block_map.proofs.Rising.{goes_behind}
use Rattle.block_map.proofs.map.BlockMap.put_behind.Goals as goal

pub put_at-requires-clause-goes : goal.put_at-requires-clause-goes
put_at-requires-clause-goes c =
    let rows = c.self.inside.blocks.items in
    let items : flat rows ≡ c.args.self.now.items = ap (λ (v : Entries). v.items) c.self.view_is in
    let placed : rows ≡ c.args.self.now.rows = ap (λ (v : Entries). v.rows) c.self.view_is in
    let b = c.args.place.block in
    let i = c.args.place.index in
    let place : IsPlace rows b i = rw (← placed) at c.requires.place in
    let fits = place_fits rows b i [] place.0 place.1 in
    let r : KeysRise c.args.self.now.items = rw items at c.self.invariant.rises in
    let f : place_among c.args.self.now.rows b i < length c.args.self.now.items = rw (items, placed) at fits in
    let g = goes_behind c.args.self.now.items (place_among c.args.self.now.rows b i) c.args.key r f c.requires.above c.requires.below in
    let p : place_among c.args.self.now.rows b i + 1 ≡ place_among c.args.self.now.rows b (i + 1) = omega arith in
    rw p at g
