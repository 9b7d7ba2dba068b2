use Rattle.std.proofs.Common.{◌≡◌, List, [], ◌∷◌, ◌++◌, ap, ◌∙◌}
use Rattle.block_map.specs.Sorted.{KeyAndValue}
use Rattle.block_map.specs.Rows.{flat}
use Rattle.block_map.proofs.Rowed.{flat_push}
use Rattle.block_map.proofs.rows.push_row.Goals as goal

pub returns-clause-items : goal.returns-clause-items
returns-clause-items c =
    let rows = c.args.blocks.now.items in
    let y : KeyAndValue = (c.args.key, c.args.value) in
    let new : c.push_reserved.new.self.items ≡ rows ++ (y ∷ []) ∷ [] = c.push_reserved.ensures.items ∙ ap (λ (t : List KeyAndValue). rows ++ t ∷ []) c.new.ensures in
    ap flat new ∙ flat_push rows (y ∷ [])
