use Rattle.std.proofs.Common.{◌+◌, ◌/◌, List, ◌++◌, take, drop, sym, ap, ◌∙◌}
use Rattle.std.proofs.lemmas.List.{take-append-drop, append_assoc}
use Rattle.block_map.specs.Sorted.{KeyAndValue}
use Rattle.block_map.proofs.block.Block.even_out.Goals as goal

pub returns-else-len-half-clause-same : goal.returns-else-len-half-clause-same
returns-else-len-half-clause-same c =
    let own = c.args.self.now in
    let other = c.args.next.now in
    let h = (c.len.result + c.len-2.result) / 2 in
    ap (λ (t : List KeyAndValue). t ++ c.give_back.new.next) c.give_back.ensures.own
    ∙ ap (λ (t : List KeyAndValue). take h own ++ t) c.give_back.ensures.rest
    ∙ sym (append_assoc (take h own) (drop h own) other)
    ∙ ap (λ (t : List KeyAndValue). t ++ other) (take-append-drop h own)
