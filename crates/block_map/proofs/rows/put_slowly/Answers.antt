use Rattle.std.proofs.Common.{arith, ◌≡◌, ℕ, [], length, sym, ap, ◌∙◌, suc}
use Rattle.std.specs.Prelude.{insert}
use Rattle.block_map.specs.Sorted.{KeyAndValue}
use Rattle.block_map.specs.Rows.{flat, place_among}
use Rattle.std.proofs.lemmas.List.Edits.{insert_end}
use Rattle.block_map.proofs.Flat.{place_end, same_at, zero_place}
use Rattle.block_map.proofs.rows.put_slowly.Goals as goal

pub returns-then-block-len-clause-items : goal.returns-then-block-len-clause-items
returns-then-block-len-clause-items c =
    let rows = c.args.blocks.now.items in
    let b = c.args.block in
    let y : KeyAndValue = (c.args.key, c.args.value) in
    let lt = c.requires.block in
    let whole = c.len-len.ensures.len in
    let same = ap length (c.index.ensures ∙ same_at rows b c.index.result.now [] lt) in
    let last : suc b ≡ length rows = omega (arith, c.len.ensures) in
    let z = place_end rows b [] last in
    let e : length (flat rows) ≡ place_among rows b c.args.index = omega (arith, z, whole, same) in
    c.push_row.ensures.items ∙ sym (insert_end (flat rows) y) ∙ ap (λ (k : ℕ). insert (flat rows) k y) e

pub returns-then-block-eq0-clause-items : goal.returns-then-block-eq0-clause-items
returns-then-block-eq0-clause-items c =
    let rows = c.args.blocks.now.items in
    let i = c.args.index in
    let y : KeyAndValue = (c.args.key, c.args.value) in
    let first : c.args.block ≡ 0 = omega arith in
    let front : i ≡ 0 = omega arith in
    let p = ap (λ (k : ℕ). place_among rows k i) first in
    let z = zero_place 0 rows in
    let e : place_among rows c.args.block i ≡ 0 = omega (arith, p, front, z) in
    c.push_row_before.ensures.items ∙ ap (λ (k : ℕ). insert (flat rows) k y) (sym e)
