use Rattle.std.proofs.Common.{inl, inr, arith, ◌≡◌, ◌+◌, ◌-◌, ◌≤◌, ℕ, length, sym, ap, ◌∙◌}
use Rattle.std.specs.Prelude.{slice_index_or}
use Rattle.std.proofs.lemmas.Bool.{cases_lt}
use Rattle.block_map.proofs.Flat.{same_at}
use Rattle.block_map.proofs.rows.are_full.Goals as goal

pub loop-block-preserved : goal.loop-block-preserved
loop-block-preserved c =
    let rows = c.args.blocks.now in
    let b = c.loop-block.block in
    let from : 1 ≤ b = c.loop-block.invariant.from in
    let low = c.len.ensures.len in
    let high = c.len-in-loop-block.ensures.len in
    let room = c.if-len-le-MOST.false in
    record {
      from = omega (arith, from);
      full = λ i d e before lt.
          elim (cases_lt (i + 1) b) [
            | inl less ↦ c.loop-block.invariant.full i d e less lt
            | inr le ↦
                let j : i ≡ b - 1 = omega (arith, before, le, from) in
                let k : i + 1 ≡ b = omega (arith, before, le) in
                let x = ap length (c.index-blocks-block.is ∙ same_at rows (b - 1) c.index-blocks-block.result d (omega (arith, lt, k, from)) ∙ ap (λ (n : ℕ). slice_index_or rows n d) (sym j)) in
                let y = ap length (c.index-blocks-block-in-loop-block.is ∙ same_at rows b c.index-blocks-block-in-loop-block.result e (omega (arith, lt, k)) ∙ ap (λ (n : ℕ). slice_index_or rows n e) (sym k)) in
                omega (arith, x, y, low, high, room)
          ];
    }
