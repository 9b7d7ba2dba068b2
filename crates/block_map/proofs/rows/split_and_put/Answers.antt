use Rattle.std.proofs.Common.{arith, ◌≡◌, ◌+◌, ◌-◌, ◌/◌, ℕ, List, [], length, take, drop, ap, ◌∙◌}
use Rattle.std.specs.Prelude.{slice_index_or, insert}
use Rattle.block_map.specs.Sorted.{KeyAndValue}
use Rattle.block_map.specs.Rows.{flat, place_among}
use Rattle.std.proofs.lemmas.List.{length-take}
use Rattle.block_map.proofs.Flat.{same_at}
use Rattle.block_map.proofs.Rowed.{split_in, place_low, place_high}
use Rattle.block_map.proofs.rows.split_and_put.Goals as goal

pub put_in_row-requires-clause-goes : goal.put_in_row-requires-clause-goes
put_in_row-requires-clause-goes c =
    let rows = c.args.blocks.now.items in
    let b = c.args.block in
    let row = slice_index_or rows b [] in
    let m = c.len-middle.result / 2 in
    let is = c.split_row.ensures.rows in
    let lt = c.requires.block in
    let all = ap flat is ∙ split_in rows b [] lt m in
    let low = ap (λ (r : List (List KeyAndValue)). place_among r b c.args.index) is ∙ place_low rows b (take m row) (drop m row) (drop (b + 1) rows) (omega (arith, lt)) c.args.index in
    rw (← all, ← low) at c.requires.goes

pub put_in_row-requires-else-index-middle-clause-goes : goal.put_in_row-requires-else-index-middle-clause-goes
put_in_row-requires-else-index-middle-clause-goes c =
    let rows = c.args.blocks.now.items in
    let b = c.args.block in
    let row = slice_index_or rows b [] in
    let m = c.len-middle.result / 2 in
    let is = c.split_row.ensures.rows in
    let lt = c.requires.block in
    let all = ap flat is ∙ split_in rows b [] lt m in
    let k = c.args.index - m in
    let n = length-take m row in
    let whole = c.len-middle.ensures.len in
    let same = ap length (c.index.ensures ∙ same_at rows b c.index.result.now [] lt) in
    let p : length (take m row) + k ≡ c.args.index = omega (arith, n, whole, same) in
    let high = ap (λ (r : List (List KeyAndValue)). place_among r (b + 1) k) is ∙ place_high rows b (take m row) (drop m row) (drop (b + 1) rows) (omega (arith, lt)) k ∙ ap (λ (i : ℕ). place_among rows b i) p in
    rw (← all, ← high) at c.requires.goes

pub returns-then-index-middle-clause-items : goal.returns-then-index-middle-clause-items
returns-then-index-middle-clause-items c =
    let rows = c.args.blocks.now.items in
    let b = c.args.block in
    let row = slice_index_or rows b [] in
    let m = c.len-middle.result / 2 in
    let is = c.split_row.ensures.rows in
    let lt = c.requires.block in
    let all = ap flat is ∙ split_in rows b [] lt m in
    let low = ap (λ (r : List (List KeyAndValue)). place_among r b c.args.index) is ∙ place_low rows b (take m row) (drop m row) (drop (b + 1) rows) (omega (arith, lt)) c.args.index in
    let y : KeyAndValue = (c.args.key, c.args.value) in
    c.put_in_row.ensures.items ∙ ap (λ (t : List KeyAndValue). insert t (place_among c.split_row.new.blocks.items b c.args.index) y) all ∙ ap (λ (i : ℕ). insert (flat rows) i y) low

pub returns-else-index-middle-clause-items : goal.returns-else-index-middle-clause-items
returns-else-index-middle-clause-items c =
    let rows = c.args.blocks.now.items in
    let b = c.args.block in
    let row = slice_index_or rows b [] in
    let m = c.len-middle.result / 2 in
    let is = c.split_row.ensures.rows in
    let lt = c.requires.block in
    let all = ap flat is ∙ split_in rows b [] lt m in
    let k = c.args.index - m in
    let n = length-take m row in
    let whole = c.len-middle.ensures.len in
    let same = ap length (c.index.ensures ∙ same_at rows b c.index.result.now [] lt) in
    let p : length (take m row) + k ≡ c.args.index = omega (arith, n, whole, same) in
    let high = ap (λ (r : List (List KeyAndValue)). place_among r (b + 1) k) is ∙ place_high rows b (take m row) (drop m row) (drop (b + 1) rows) (omega (arith, lt)) k ∙ ap (λ (i : ℕ). place_among rows b i) p in
    let y : KeyAndValue = (c.args.key, c.args.value) in
    c.put_in_row-else-index-middle.ensures.items ∙ ap (λ (t : List KeyAndValue). insert t (place_among c.split_row.new.blocks.items (b + 1) k) y) all ∙ ap (λ (i : ℕ). insert (flat rows) i y) high
