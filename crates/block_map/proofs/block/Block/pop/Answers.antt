use Rattle.std.proofs.Common.{arith, ◌≡◌, ◌+◌, ◌<◌, length, drop, sym, ap, ◌∙◌}
use Rattle.std.specs.Prelude.{slice_index_or}
use Rattle.std.proofs.lemmas.List.{length-drop, drop-drop}
use Rattle.block_map.specs.Sorted.{KeyAndValue}
use Rattle.block_map.proofs.Memory.{memory_less}
use Rattle.block_map.proofs.Rising.{rises_drop, head_behind}
use Rattle.block_map.proofs.block.Block.pop.Goals as goal

pub invariant_of-self : goal.invariant_of-self
invariant_of-self c =
    let xs = c.self.inside.entries.items in
    let s = c.self.inside.start in
    let left = rw (← c.self.view_is) at c.requires in
    let n = length-drop s xs in
    let most = c.self.invariant.0.fits in
    let r = rises_drop (drop s xs) 1 c.self.invariant.0.rises in
    let e = c.index.result.now in
    let here : e ≡ slice_index_or xs (s + 1) e = c.index.ensures in
    let some : s + 1 < length xs = omega (arith, n, left) in (
      record {
        some = some;
        fits = most;
        head = ap (λ (x : KeyAndValue). x.0) here ∙ sym (head_behind xs (s + 1) e some);
        rises = rw (drop-drop 1 s xs) at r;
      },
      memory_less _ _ _ c.self.invariant.1 (omega arith),
    )

pub returns : goal.returns
returns c = sym (drop-drop 1 c.self.inside.start c.self.inside.entries.items) ∙ ap (drop 1) c.self.view_is
