use Rattle.std.proofs.Common.{arith, ◌≡◌, ◌+◌, List, drop, sym, ap, ◌∙◌}
use Rattle.std.specs.Prelude.{slice_index_or, slice_set}
use Rattle.std.proofs.lemmas.List.{length-set, drop-set-add}
use Rattle.block_map.specs.Sorted.{KeyAndValue}
use Rattle.block_map.proofs.Rising.{set_rises, head_behind}
use Rattle.block_map.proofs.Memory.{memory_less}
use Rattle.block_map.proofs.block.Block.set.Goals as goal

pub invariant_of-self : goal.invariant_of-self
invariant_of-self c =
    let xs = c.self.inside.entries.items in
    let s = c.self.inside.start in
    let i = c.args.index in
    let y : KeyAndValue = (c.args.key, c.args.value) in
    let f = rw (← c.self.view_is) at c.requires in
    let n = length-set xs (s + i) y in
    let some = c.self.invariant.0.some in
    let most = c.self.invariant.0.fits in
    let r = set_rises (drop s xs) i y c.self.invariant.0.rises f in
    let e = c.index.result.now in
    let here : e ≡ slice_index_or (slice_set xs (s + i) y) s e = c.index.ensures in (
      record {
        some = omega (arith, n, some);
        fits = omega (arith, n, most);
        head = ap (λ (x : KeyAndValue). x.0) here ∙ sym (head_behind (slice_set xs (s + i) y) s e (omega (arith, n, some)));
        rises = rw (← drop-set-add s xs i y) at r;
      },
      memory_less _ _ _ c.self.invariant.1 (omega (arith, n)),
    )

pub returns : goal.returns
returns c =
    let y : KeyAndValue = (c.args.key, c.args.value) in
    drop-set-add c.self.inside.start c.self.inside.entries.items c.args.index y ∙ ap (λ (v : List KeyAndValue). slice_set v c.args.index y) c.self.view_is
