use Rattle.std.proofs.Common.{arith, ◌≡◌, ◌+◌, ℕ, [], length, ap, ◌∙◌, suc}
use Rattle.std.specs.List.{remove_range}
use Rattle.block_map.specs.Rows.{flat, place_among}
use Rattle.block_map.proofs.Flat.{same_at, place_after, place_fits}
use Rattle.block_map.proofs.Rowed.{drop_rows}
use Rattle.block_map.proofs.Rising.{rises_without}
use Rattle.block_map.proofs.rows.remove_from_few.Goals as goal

pub join_around-requires-clause-rises : goal.join_around-requires-clause-rises
join_around-requires-clause-rises c =
    let rows = c.args.blocks.now.items in
    let from = place_among rows c.args.block c.args.index in
    let to = place_among rows c.args.block (c.args.index + 1) in
    let fits = place_fits rows c.args.block c.args.index [] c.requires.place.0 c.requires.place.1 in
    let left = rises_without (flat rows) from to (omega arith) (omega (arith, fits)) c.requires.rises in
    rw (← c.cut_row.ensures.items) at left

pub returns-then-len-gt1-clause-items : goal.returns-then-len-gt1-clause-items
returns-then-len-gt1-clause-items c =
    let rows = c.args.blocks.now.items in
    let b = c.args.block in
    let i = c.args.index in
    let p : place_among rows b (i + 1) ≡ place_among rows b i + 1 = omega arith in
    c.join_around.ensures.items ∙ c.cut_row.ensures.items ∙ ap (λ (k : ℕ). remove_range (flat rows) (place_among rows b i) k) p

pub returns-clause-items : goal.returns-clause-items
returns-clause-items c =
    let rows = c.args.blocks.now.items in
    let b = c.args.block in
    let i = c.args.index in
    let lt = c.requires.place.0 in
    let inside = c.requires.place.1 in
    let row = c.index.result.now in
    let same = ap length (c.index.ensures ∙ same_at rows b row [] lt) in
    let l = c.len.ensures.len in
    let a = place_after rows b [] lt in
    let p : b + 1 ≡ suc b = omega arith in
    let new : c.remove_row.new.blocks.items ≡ remove_range rows b (suc b) = c.remove_row.ensures.rows ∙ ap (λ (k : ℕ). remove_range rows b k) p in
    ap flat new ∙ drop_rows rows b (suc b) (place_among rows b i) (place_among rows b i + 1) (omega (arith, same, l, inside)) (omega (arith, same, l, inside, a))
