use Rattle.std.proofs.Common.{arith, ◌≡◌, ◌+◌, ℕ, List, [], ap, ◌∙◌}
use Rattle.std.specs.Prelude.{slice_index_or, slice_set}
use Rattle.std.specs.List.{remove_range}
use Rattle.block_map.specs.Sorted.{KeyAndValue}
use Rattle.block_map.specs.Rows.{flat, place_among}
use Rattle.block_map.proofs.Flat.{same_at}
use Rattle.block_map.proofs.Rowed.{cut_in}
use Rattle.block_map.proofs.rows.remove_entry.Goals as goal

pub returns-clause-items : goal.returns-clause-items
returns-clause-items c =
    let rows = c.args.blocks.now.items in
    let b = c.args.block in
    let i = c.args.index in
    let lt = c.requires.place.0 in
    let inside = c.requires.place.1 in
    let row = c.index_mut.result.now in
    let same : row ≡ slice_index_or rows b [] = c.index_mut.ensures.value ∙ same_at rows b row [] lt in
    let p : place_among rows b (i + 1) ≡ place_among rows b i + 1 = omega arith in
    ap (λ (t : List KeyAndValue). flat (slice_set rows b t)) (c.cut.ensures ∙ ap (λ (t : List KeyAndValue). remove_range t i (i + 1)) same)
    ∙ cut_in rows b [] lt i (i + 1) (omega arith) (omega (arith, inside))
    ∙ ap (λ (k : ℕ). remove_range (flat rows) (place_among rows b i) k) p
