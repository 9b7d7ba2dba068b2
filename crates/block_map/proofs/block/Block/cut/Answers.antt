use Rattle.std.proofs.Common.{arith, ◌≡◌, ◌-◌, ◌<◌, ◌≤◌, length, drop, sym, ap, ◌∙◌}
use Rattle.std.specs.Prelude.{slice_index_or, vec_capacity}
use Rattle.std.specs.List.{remove_range}
use Rattle.std.proofs.lemmas.List.{length-drop}
use Rattle.block_map.specs.Sorted.{KeyAndValue}
use Rattle.block_map.specs.Rows.{IsRowMemory}
use Rattle.block_map.proofs.Memory.{memory_less}
use Rattle.block_map.proofs.Rising.{rises_without, length-without, head_behind}
use Rattle.block_map.proofs.block.Block.cut.Goals as goal

pub invariant_of-self : goal.invariant_of-self
invariant_of-self c =
    let xs = c.self.inside.entries.items in
    let s = c.self.inside.start in
    let ys = c.take_out-self-inside.new.entries.items in
    let t = c.take_out-self-inside.result in
    let order = c.requires.order in
    let fits = rw (← c.self.view_is) at c.requires.fits in
    let left = rw (← c.self.view_is) at c.requires.left in
    let v : drop t ys ≡ remove_range (drop s xs) c.args.from c.args.to = c.take_out-self-inside.ensures.items in
    let fewer : length ys ≤ length xs = c.take_out-self-inside.ensures.fewer in
    let r = rises_without (drop s xs) c.args.from c.args.to order fits c.self.invariant.0.rises in
    let n = length-without (drop s xs) c.args.from c.args.to order fits in
    let l = ap length v in
    let m = length-drop t ys in
    let k = length-drop s xs in
    let memory : IsRowMemory (vec_capacity c.take_out-self-inside.new.entries) (length xs - s) = rw (← c.take_out-self-inside.ensures.capacity) at c.self.invariant.1 in
    let most = c.self.invariant.0.fits in
    let e = c.index.result.now in
    let here : e ≡ slice_index_or ys t e = c.index.ensures in
    let some : t < length ys = omega (arith, n, l, m, left) in (
      record {
        some = some;
        fits = omega (arith, fewer, most);
        head = ap (λ (x : KeyAndValue). x.0) here ∙ sym (head_behind ys t e some);
        rises = rw (← v) at r;
      },
      memory_less _ _ _ memory (omega (arith, n, l, m, k)),
    )
