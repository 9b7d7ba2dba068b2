use Rattle.std.proofs.Common.{◌≡◌, ◌<◌, [], length, ap}
use Rattle.block_map.specs.Sorted.{KeyAndValue, KeysRise}
use Rattle.block_map.specs.Rows.{Entries, flat, place_among, IsPlace}
use Rattle.block_map.proofs.Flat.{place_fits}
use Rattle.block_map.proofs.Rising.{fits_own}
use Rattle.block_map.proofs.map.BlockMap.set_value.Goals as goal

pub set-requires-clause-fits : goal.set-requires-clause-fits
set-requires-clause-fits c =
    let rows = c.self.inside.blocks.items in
    let items : flat rows ≡ c.args.self.now.items = ap (λ (v : Entries). v.items) c.self.view_is in
    let placed : rows ≡ c.args.self.now.rows = ap (λ (v : Entries). v.rows) c.self.view_is in
    let b = c.args.place.block in
    let i = c.args.place.index in
    let place : IsPlace rows b i = rw (← placed) at c.requires in
    let fits = place_fits rows b i [] place.0 place.1 in
    let r : KeysRise c.args.self.now.items = rw items at c.self.invariant.rises in
    let f : place_among c.args.self.now.rows b i < length c.args.self.now.items = rw (items, placed) at fits in
    fits_own c.args.self.now.items (place_among c.args.self.now.rows b i) c.entry-key.result.0 r f (λ d. ap (λ (x : KeyAndValue). x.0) (c.entry-key.ensures d))
