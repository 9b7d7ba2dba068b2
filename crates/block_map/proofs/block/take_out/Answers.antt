use Rattle.std.proofs.Common.{arith, ◌≡◌, ◌+◌, ◌-◌, ◌≤◌, List, length, take, drop, ap, ◌∙◌}
use Rattle.std.specs.List.{copy_within}
use Rattle.std.proofs.lemmas.List.{with_items_is}
use Rattle.block_map.specs.Sorted.{KeyAndValue}
use Rattle.block_map.proofs.Moved.{moved_down, drop-remove_range}
use Rattle.block_map.proofs.block.take_out.Goals as goal

pub returns-clause-items : goal.returns-clause-items
returns-clause-items c =
    let xs = c.args.entries.now.items in
    let s = c.args.start in
    let from = c.args.from in
    let to = c.args.to in
    let n = c.len.result - (to - from) in
    let within : s + to ≤ length xs = c.requires.within in
    let order = c.requires.order in
    let len : c.len.result ≡ length xs = omega (arith, c.len.ensures) in
    let m = moved_down xs (s + from) (s + to) n (omega (arith, order)) within (omega (arith, len, order)) in
    let moved = with_items_is c.args.entries.now c.copy_within.new.self (omega (arith, c.copy_within.ensures.len, c.as_mut_slice.ensures.len)) ∙ c.copy_within.ensures.after ∙ ap (λ (l : List KeyAndValue). copy_within l (s + to) (length l) (s + from)) c.as_mut_slice.ensures.value in
    let t : c.truncate.new.self.items ≡ take n (copy_within xs (s + to) (length xs) (s + from)) = c.truncate.ensures.items ∙ ap (λ (l : List KeyAndValue). take n l) moved in
    ap (drop s) (t ∙ m) ∙ drop-remove_range xs s from to order within
