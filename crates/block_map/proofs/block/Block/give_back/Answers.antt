use Rattle.std.proofs.Common.{rules, arith, ◌≡◌, ◌+◌, ◌-◌, ◌<◌, ◌≤◌, List, ◌++◌, length, take, drop, vec_capacity, sym, ap, ◌∙◌}
use Rattle.std.specs.Prelude.{slice_index_or}
use Rattle.std.proofs.lemmas.List.{length-drop, length-append, length-take-le, drop-take, drop-drop, take_rest, take-append-drop, append_assoc}
use Rattle.block_map.specs.Sorted.{KeyAndValue, KeysRise}
use Rattle.block_map.specs.Rows.{first_key}
use Rattle.block_map.proofs.Memory.{memory_full}
use Rattle.block_map.proofs.Rising.{rises_take, rises_back, head_take, head_key}
use Rattle.block_map.proofs.block.Block.give_back.Goals as goal

pub invariant_of-self : goal.invariant_of-self
invariant_of-self c =
    let xs = c.self.inside.entries.items in
    let s = c.self.inside.start in
    let i = c.args.index in
    let fit = rw (← c.self.view_is) at c.requires.fits in
    let low = c.requires.some in
    let m = length-drop s xs in
    let t : c.truncate.new.self.items ≡ take (s + i) xs = c.truncate.ensures.items in
    let n = length-take-le (s + i) xs (omega (arith, fit, m, low)) in
    let total = ap length t in
    let most = c.self.invariant.0.fits in
    let v = ap (drop s) t ∙ drop-take s i xs in
    let r = rises_take (drop s xs) i c.self.invariant.0.rises in (
      record {
        some = omega (arith, n, total, low);
        fits = omega (arith, n, total, fit, m, most, low);
        head = c.self.invariant.0.head ∙ sym (ap first_key v ∙ head_take (drop s xs) i low);
        rises = rw (← v) at r;
      },
      search rules,
    )

pub returns-clause-own : goal.returns-clause-own
returns-clause-own c =
    let xs = c.self.inside.entries.items in
    let s = c.self.inside.start in
    let t : c.truncate.new.self.items ≡ take (s + c.args.index) xs = c.truncate.ensures.items in
    ap (drop s) t ∙ drop-take s c.args.index xs ∙ ap (λ (v : List KeyAndValue). take c.args.index v) c.self.view_is

pub returns-clause-rest : goal.returns-clause-rest
returns-clause-rest c =
    let xs = c.self.inside.entries.items in
    let s = c.self.inside.start in
    let i = c.args.index in
    let n = c.next.inside.start in
    let all = c.as_slice.result.now in
    let behind = c.as_slice-2.result.now in
    let high = take (length behind - n) (drop n behind) in
    let items = rw (← c.swap.ensures.x_after) at c.put_both.ensures.items in
    let own : take (length all - (s + i)) (drop (s + i) all) ≡ drop i c.args.self.now =
    take_rest all (s + i) ∙ ap (λ (t : List KeyAndValue). drop (s + i) t) c.as_slice.ensures.value ∙ sym (drop-drop i s xs) ∙ ap (λ (t : List KeyAndValue). drop i t) c.self.view_is in
    let other : high ≡ c.args.next.now = take_rest behind n ∙ ap (λ (t : List KeyAndValue). drop n t) c.as_slice-2.ensures.value ∙ c.next.view_is in
    items ∙ ap (λ (t : List KeyAndValue). t ++ high) own ∙ ap (λ (t : List KeyAndValue). drop i c.args.self.now ++ t) other

pub invariant_of-next : goal.invariant_of-next
invariant_of-next c =
    let xs = c.self.inside.entries.items in
    let s = c.self.inside.start in
    let i = c.args.index in
    let n = c.next.inside.start in
    let all = c.as_slice.result.now in
    let behind = c.as_slice-2.result.now in
    let high = take (length behind - n) (drop n behind) in
    let mine = c.args.self.now in
    let next = c.args.next.now in
    let items = rw (← c.swap.ensures.x_after) at c.put_both.ensures.items in
    let own : take (length all - (s + i)) (drop (s + i) all) ≡ drop i mine =
    take_rest all (s + i) ∙ ap (λ (t : List KeyAndValue). drop (s + i) t) c.as_slice.ensures.value ∙ sym (drop-drop i s xs) ∙ ap (λ (t : List KeyAndValue). drop i t) c.self.view_is in
    let other : high ≡ next = take_rest behind n ∙ ap (λ (t : List KeyAndValue). drop n t) c.as_slice-2.ensures.value ∙ c.next.view_is in
    let is : c.swap.new.x.items ≡ drop i mine ++ next = items ∙ ap (λ (t : List KeyAndValue). t ++ high) own ∙ ap (λ (t : List KeyAndValue). drop i mine ++ t) other in
    let parts : mine ++ next ≡ take i mine ++ (drop i mine ++ next) = ap (λ (t : List KeyAndValue). t ++ next) (sym (take-append-drop i mine)) ∙ append_assoc (take i mine) (drop i mine) next in
    let r : KeysRise (drop i mine ++ next) = rises_back (take i mine) (drop i mine ++ next) (rw parts at c.requires.rises) in
    let total = ap length is in
    let both = length-append (drop i mine) next in
    let l = length-drop i mine in
    let room = c.requires.room in
    let m = length-drop n c.next.inside.entries.items in
    let v = ap length c.next.view_is in
    let left = c.next.invariant.0.some in
    let e = c.index.result.now in
    let here : e ≡ slice_index_or c.swap.new.x.items 0 e = c.index.ensures in
    let some : 0 < length c.swap.new.x.items = omega (arith, total, both, m, v, left) in
    let cap : 64 ≤ vec_capacity c.put_both.new.spare = omega (arith, c.requires.memory, c.put_both.ensures.capacity) in (
      record {
        some = some;
        fits = omega (arith, total, both, l, room);
        head = ap (λ (x : KeyAndValue). x.0) here ∙ sym (head_key c.swap.new.x.items e some);
        rises = rw (← is) at r;
      },
      memory_full _ _ (rw (← c.swap.ensures.x_after) at cap),
    )
