use Rattle.std.proofs.Common.{arith, ◌≡◌, ◌-◌, ◌<◌, ℕ, [], length, ap, ◌∙◌, suc}
use Rattle.block_map.specs.Rows.{place_among}
use Rattle.block_map.proofs.Flat.{place_after, same_at}
use Rattle.block_map.proofs.rows.offset_of.Goals as goal

pub returns-then-high-block-clause-place : goal.returns-then-high-block-clause-place
returns-then-high-block-clause-place c =
    let rows = c.args.blocks.now in
    let n = c.args.high in
    let fits = c.requires.high in
    let lt : n - 1 < length rows = omega (arith, fits) in
    let a = place_after rows (n - 1) [] lt in
    let low = c.requires.low in
    let p : suc (n - 1) ≡ c.args.block = omega (arith, low, c.if-high-block.true) in
    let q = ap (λ (k : ℕ). place_among rows k 0) p in
    let same = ap length (c.index-blocks-high.is ∙ same_at rows (n - 1) c.index-blocks-high.result [] lt) in
    let l = c.len.ensures.len in
    omega (arith, a, q, same, l)
