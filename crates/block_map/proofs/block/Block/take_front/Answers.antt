use Rattle.std.proofs.Common.{arith, ◌≡◌, ◌+◌, ◌-◌, ◌<◌, List, ◌++◌, length, take, drop, sym, ap, ◌∙◌}
use Rattle.std.specs.Prelude.{slice_index_or}
use Rattle.std.proofs.lemmas.List.{length-drop, length-append, take-append-drop, append_assoc, drop-drop}
use Rattle.block_map.specs.Sorted.{KeyAndValue, KeysRise}
use Rattle.block_map.specs.Rows.{first_key}
use Rattle.block_map.proofs.Memory.{memory_full, memory_less}
use Rattle.block_map.proofs.Rising.{head_append, head_behind, rises_drop, rises_front}
use Rattle.block_map.proofs.block.Block.take_front.Goals as goal

pub invariant_of-self : goal.invariant_of-self
invariant_of-self c =
    let xs = c.self.inside.entries.items in
    let s = c.self.inside.start in
    let ys = c.put_all_behind-self-inside.new.entries.items in
    let t = c.put_all_behind-self-inside.result in
    let own = c.args.self.now in
    let other = c.args.next.now in
    let n = c.next.inside.start in
    let k = n + c.args.count - n in
    let more = take k (drop n c.as_slice.result.now) in
    let same : more ≡ take k other = ap (λ (l : List KeyAndValue). take k l) (ap (λ (l : List KeyAndValue). drop n l) c.as_slice.ensures.value ∙ c.next.view_is) in
    let parts : own ++ other ≡ (own ++ take k other) ++ drop k other = ap (λ (l : List KeyAndValue). own ++ l) (sym (take-append-drop k other)) ∙ sym (append_assoc own (take k other) (drop k other)) in
    let all : KeysRise ((own ++ take k other) ++ drop k other) = rw parts at c.requires.rises in
    let low : KeysRise (own ++ take k other) = rises_front (own ++ take k other) (drop k other) all in
    let r : KeysRise (drop s xs ++ more) = rw (← c.self.view_is, ← same) at low in
    let v : drop t ys ≡ drop s xs ++ more = c.put_all_behind-self-inside.ensures.items in
    let some = c.self.invariant.0.some in
    let total = ap length v in
    let both = length-append (drop s xs) more in
    let a = length-drop t ys in
    let m = length-drop s xs in
    let many = c.requires.many in
    let w = ap length c.self.view_is in (
      record {
        some = omega (arith, total, both, a, m, some);
        fits = c.put_all_behind-self-inside.ensures.fits;
        head = c.self.invariant.0.head ∙ sym (ap first_key v ∙ head_append (drop s xs) more (omega (arith, m, some)));
        rises = rw (← v) at r;
      },
      memory_full _ _ (let full = c.self.invariant.1.many (omega (arith, m, w, many)) in omega (arith, full, c.put_all_behind-self-inside.ensures.capacity)),
    )

pub invariant_of-next : goal.invariant_of-next
invariant_of-next c =
    let zs = c.next.inside.entries.items in
    let n = c.next.inside.start in
    let k = c.args.count in
    let left = c.requires.left in
    let v = ap length c.next.view_is in
    let l = length-drop n zs in
    let e = c.index.result.now in
    let here : e ≡ slice_index_or zs (n + k) e = c.index.ensures in
    let some : n + k < length zs = omega (arith, left, v, l) in
    let r = rises_drop (drop n zs) k c.next.invariant.0.rises in (
      record {
        some = some;
        fits = c.next.invariant.0.fits;
        head = ap (λ (x : KeyAndValue). x.0) here ∙ sym (head_behind zs (n + k) e some);
        rises = rw (drop-drop k n zs) at r;
      },
      memory_less _ _ _ c.next.invariant.1 (omega arith),
    )
