use Rattle.std.proofs.Common.{arith, ◌≡◌, ◌+◌, ◌≤◌, [], length, ap}
use Rattle.block_map.specs.Rows.{Entries, flat, place_among, IsPlace}
use Rattle.block_map.proofs.Flat.{place_fits}
use Rattle.block_map.proofs.Rising.{rises_without, length-without}
use Rattle.block_map.proofs.map.BlockMap.take_out.Goals as goal

pub invariant_of-self : goal.invariant_of-self
invariant_of-self c =
    let rows = c.self.inside.blocks.items in
    let items : flat rows ≡ c.args.self.now.items = ap (λ (v : Entries). v.items) c.self.view_is in
    let placed : rows ≡ c.args.self.now.rows = ap (λ (v : Entries). v.rows) c.self.view_is in
    let b = c.args.place.block in
    let i = c.args.place.index in
    let place : IsPlace rows b i = rw (← placed) at c.requires in
    let p = place_among rows b i in
    let less = place_fits rows b i [] place.0 place.1 in
    let fits : p + 1 ≤ length (flat rows) = omega (arith, less) in
    let all = c.remove_entry.ensures.items in
    let r = rises_without (flat rows) p (p + 1) (omega arith) fits c.self.invariant.rises in
    let n = length-without (flat rows) p (p + 1) (omega arith) fits in
    let total = ap length all in
    let len = c.self.invariant.len_is in
    record {
      some = c.remove_entry.ensures.some;
      rises = rw (← all) at r;
      len_is = omega (arith, n, total, len);
      empty = c.remove_entry.ensures.empty;
      room = λ ready. absurd cc;
    }
