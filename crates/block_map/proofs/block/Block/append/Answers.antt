use Rattle.std.proofs.Common.{arith, ◌≡◌, ◌-◌, List, ◌++◌, length, take, drop, sym, ap, ◌∙◌}
use Rattle.std.proofs.lemmas.List.{length-drop, length-append, take_rest}
use Rattle.block_map.specs.Sorted.{KeyAndValue}
use Rattle.block_map.specs.Rows.{first_key}
use Rattle.block_map.proofs.Memory.{memory_full}
use Rattle.block_map.proofs.Rising.{head_append}
use Rattle.block_map.proofs.block.Block.append.Goals as goal

pub invariant_of-self-2 : goal.invariant_of-self-2
invariant_of-self-2 c =
    let xs = c.self.inside.entries.items in
    let s = c.self.inside.start in
    let ys = c.put_all_behind-self-inside.new.entries.items in
    let t = c.put_all_behind-self-inside.result in
    let more = take (length c.as_slice.result.now - c.other.inside.start) (drop c.other.inside.start c.as_slice.result.now) in
    let v : drop t ys ≡ drop s xs ++ more = c.put_all_behind-self-inside.ensures.items ∙ ap (λ (l : List KeyAndValue). l ++ more) c.in_ok-self-inside.ensures.same in
    let rest = take_rest c.as_slice.result.now c.other.inside.start ∙ ap (drop c.other.inside.start) c.as_slice.ensures.value ∙ c.other.view_is in
    let r = rw (← c.self.view_is, ← rest) at c.requires.rises in
    let some = c.self.invariant.0.some in
    let total = ap length v in
    let both = length-append (drop s xs) more in
    let n = length-drop t ys in
    let m = length-drop s xs in (
      record {
        some = omega (arith, total, both, n, m, some);
        fits = c.put_all_behind-self-inside.ensures.fits;
        head = c.self.invariant.0.head ∙ sym (ap first_key v ∙ head_append (drop s xs) more (omega (arith, m, some)));
        rises = rw (← v) at r;
      },
      memory_full _ _ (omega (arith, c.in_ok-self-inside.ensures.room, c.put_all_behind-self-inside.ensures.capacity)),
    )
