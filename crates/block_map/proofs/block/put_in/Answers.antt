use Rattle.std.proofs.Common.{arith, ◌≡◌, ◌+◌, ℕ, List, [], ◌∷◌, ◌++◌, length, ap, ◌∙◌}
use Rattle.std.specs.Prelude.{slice_set}
use Rattle.std.specs.List.{copy_within}
use Rattle.block_map.specs.Sorted.{KeyAndValue}
use Rattle.std.proofs.lemmas.List.{with_items_is}
use Rattle.block_map.proofs.Moved.{moved_up}
use Rattle.block_map.proofs.block.put_in.Goals as goal

pub returns-clause-items : goal.returns-clause-items
returns-clause-items c =
    let xs = c.args.entries.now.items in
    let p = c.args.place in
    let y : KeyAndValue = (c.args.key, c.args.value) in
    let m = moved_up xs p y c.requires.within in
    let last : c.len-last.result ≡ length xs = omega (arith, c.len-last.ensures) in
    let moved = with_items_is c.push_reserved.new.self c.copy_within.new.self (omega (arith, c.copy_within.ensures.len, c.as_mut_slice.ensures.len)) ∙ c.copy_within.ensures.after in
    let all = ap (λ (l : List KeyAndValue). copy_within l p c.len-last.result (p + 1)) (c.as_mut_slice.ensures.value ∙ c.push_reserved.ensures.items) in
    let most = ap (λ (k : ℕ). copy_within (xs ++ y ∷ []) p k (p + 1)) last in
    ap (λ (l : List KeyAndValue). slice_set l p y) (moved ∙ all ∙ most) ∙ m
