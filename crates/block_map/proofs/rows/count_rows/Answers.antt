use Rattle.std.proofs.Common.{arith, ◌≡◌, ◌+◌, ◌<◌, ℕ, [], length, ap, ◌∙◌, suc}
use Rattle.block_map.specs.Rows.{place_among}
use Rattle.block_map.proofs.Flat.{same_at, place_after, place_bound}
use Rattle.block_map.proofs.rows.count_rows.Goals as goal

pub overflow_add-count : goal.overflow_add-count
overflow_add-count c =
    let rows = c.args.blocks.now in
    let b = c.loop-block.block in
    let lt : b < length rows = omega arith in
    let a = place_after rows b [] lt in
    let same = ap length (c.index-blocks-block.is ∙ same_at rows b c.index-blocks-block.result [] lt) in
    let l = c.len-count.ensures.len in
    let bound = place_bound rows (suc b) in
    let few = c.requires.few in
    omega (arith, a, same, l, bound, few, c.loop-block.invariant)

pub loop-block-preserved : goal.loop-block-preserved
loop-block-preserved c =
    let rows = c.args.blocks.now in
    let b = c.loop-block.block in
    let lt : b < length rows = omega arith in
    let a = place_after rows b [] lt in
    let same = ap length (c.index-blocks-block.is ∙ same_at rows b c.index-blocks-block.result [] lt) in
    let l = c.len-count.ensures.len in
    let p : suc b ≡ b + 1 = omega arith in
    let q = ap (λ (k : ℕ). place_among rows k 0) p in
    omega (arith, a, same, l, q, c.loop-block.invariant)
