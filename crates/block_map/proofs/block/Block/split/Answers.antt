use Rattle.std.proofs.Common.{rules, arith, ◌≡◌, ◌+◌, ◌-◌, ◌<◌, List, ◌++◌, length, take, drop, sym, ap, ◌∙◌}
use Rattle.std.specs.Prelude.{slice_index_or}
use Rattle.std.proofs.lemmas.List.{length-drop, length-take-le, drop-take, drop-drop, take_rest}
use Rattle.block_map.specs.Sorted.{KeyAndValue}
use Rattle.block_map.specs.Rows.{first_key}
use Rattle.block_map.proofs.Rising.{rises_take, rises_drop, head_take, head_key}
use Rattle.block_map.proofs.block.Block.split.Goals as goal

pub invariant_of-self : goal.invariant_of-self
invariant_of-self c =
    let xs = c.self.inside.entries.items in
    let s = c.self.inside.start in
    let i = c.args.index in
    let rest = rw (← c.self.view_is) at c.requires.rest in
    let low = c.requires.some in
    let m = length-drop s xs in
    let t : c.truncate.new.self.items ≡ take (s + i) xs = c.truncate.ensures.items in
    let n = length-take-le (s + i) xs (omega (arith, rest, m)) in
    let total = ap length t in
    let most = c.self.invariant.0.fits in
    let v = ap (drop s) t ∙ drop-take s i xs in
    let r = rises_take (drop s xs) i c.self.invariant.0.rises in (
      record {
        some = omega (arith, n, total, low);
        fits = omega (arith, n, total, rest, m, most);
        head = c.self.invariant.0.head ∙ sym (ap first_key v ∙ head_take (drop s xs) i low);
        rises = rw (← v) at r;
      },
      search rules,
    )

pub invariant_of-result : goal.invariant_of-result
invariant_of-result c =
    let xs = c.self.inside.entries.items in
    let s = c.self.inside.start in
    let i = c.args.index in
    let rest = rw (← c.self.view_is) at c.requires.rest in
    let m = length-drop s xs in
    let all = c.as_slice.result.now in
    let part = take (length all - (s + i)) (drop (s + i) all) in
    let items : c.extend_from_slice.new.self.items ≡ drop (s + i) xs = c.in-Ok.ensures.items ∙ ap (λ (t : List KeyAndValue). t ++ part) c.requires.empty ∙ take_rest all (s + i) ∙ ap (λ (t : List KeyAndValue). drop (s + i) t) c.as_slice.ensures.value in
    let total = ap length items in
    let n = length-drop (s + i) xs in
    let most = c.self.invariant.0.fits in
    let v = items ∙ sym (drop-drop i s xs) in
    let r = rises_drop (drop s xs) i c.self.invariant.0.rises in
    let e = c.index.result.now in
    let here : e ≡ slice_index_or c.extend_from_slice.new.self.items 0 e = c.index.ensures in
    let some : 0 < length c.extend_from_slice.new.self.items = omega (arith, total, n, rest, m) in (
      record {
        some = some;
        fits = omega (arith, total, n, most);
        head = ap (λ (x : KeyAndValue). x.0) here ∙ sym (head_key c.extend_from_slice.new.self.items e some);
        rises = rw (← v) at r;
      },
      search rules,
    )

pub returns-clause-low : goal.returns-clause-low
returns-clause-low c =
    let xs = c.self.inside.entries.items in
    let s = c.self.inside.start in
    let t : c.truncate.new.self.items ≡ take (s + c.args.index) xs = c.truncate.ensures.items in
    ap (drop s) t ∙ drop-take s c.args.index xs ∙ ap (λ (v : List KeyAndValue). take c.args.index v) c.self.view_is
