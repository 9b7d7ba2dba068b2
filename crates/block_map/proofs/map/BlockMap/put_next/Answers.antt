use Rattle.std.proofs.Common.{arith, ◌+◌, sym, ◌∙◌}
use Rattle.block_map.specs.Rows.{place_among}
use Rattle.block_map.proofs.Rising.{goes_behind}
use Rattle.block_map.proofs.Keyed.{insert_new}
use Rattle.block_map.proofs.map.BlockMap.put_next.Goals as goal

pub returns-in-Some : goal.returns-in-Some
returns-in-Some c =
    let xs = c.args.self.now.items in
    let at = place_among c.args.self.now.rows c.in-Some.place.block c.in-Some.place.index in
    let fits = rw c.in-Some.is at c.requires.fits in
    let above = rw c.in-Some.is at c.requires.above in
    let below = rw c.in-Some.is at c.requires.below in
    c.put_behind.ensures ∙ sym (insert_new xs (at + 1) c.args.key c.args.value (goes_behind xs at c.args.key c.len-count.ensures.rises fits above below))

pub returns-in-None : goal.returns-in-None
returns-in-None c =
    let xs = c.args.self.now.items in
    let none = rw c.in-None.is at c.requires.none in
    c.put_first.ensures ∙ sym (insert_new xs 0 c.args.key c.args.value (record {
      fits = omega arith;
      below = λ k d lt. absurd (omega (arith, lt));
      above = λ k d le less. none k d less;
    }))
