use Rattle.std.proofs.Common.{arith, ◌≡◌, ◌+◌, ◌<◌, ◌≤◌, List, length, drop, sym, ap, ◌∙◌}
use Rattle.std.specs.Prelude.{slice_index_or, insert}
use Rattle.std.proofs.lemmas.List.{length-drop}
use Rattle.std.proofs.lemmas.List.Edits.{length-insert}
use Rattle.block_map.specs.Sorted.{KeyAndValue}
use Rattle.block_map.proofs.Moved.{drop-insert}
use Rattle.block_map.proofs.Rising.{insert_rises, head_behind}
use Rattle.block_map.proofs.block.Block.put.Goals as goal

pub invariant_of-self : goal.invariant_of-self
invariant_of-self c =
    let xs = c.self.inside.entries.items in
    let s = c.self.inside.start in
    let ys = c.make_room-self-inside.new.entries.items in
    let t = c.make_room-self-inside.result in
    let i = c.args.index in
    let y : KeyAndValue = (c.args.key, c.args.value) in
    let goes = rw (← c.self.view_is) at c.requires.goes in
    let fits = goes.fits in
    let same : drop t ys ≡ drop s xs = c.make_room-self-inside.ensures.same ∙ c.grow-self-inside.ensures.same in
    let within : t ≤ length ys = c.make_room-self-inside.ensures.within in
    let room : length ys + 1 ≤ 64 = c.make_room-self-inside.ensures.room in
    let n = length-drop t ys in
    let l = ap length same in
    let items : c.put_in.new.entries.items ≡ insert ys (t + i) y = c.put_in.ensures.items in
    let v = ap (drop t) items ∙ drop-insert ys t i y (omega (arith, fits, n, l, within)) ∙ ap (λ (l : List KeyAndValue). insert l i y) same in
    let r = insert_rises (drop s xs) i y c.self.invariant.0.rises goes in
    let total = ap length items in
    let more = length-insert ys (t + i) y (omega (arith, fits, n, l, within)) in
    let m = length-drop s xs in
    let memory = c.grow-self-inside.ensures.memory in
    let room_kept = c.make_room-self-inside.ensures.capacity in
    let cap = c.put_in.ensures.capacity in
    let e = c.index.result.now in
    let here : e ≡ slice_index_or c.put_in.new.entries.items t e = c.index.ensures in
    let some : t < length c.put_in.new.entries.items = omega (arith, total, more, within) in (
      record {
        some = some;
        fits = omega (arith, total, more, room);
        head = ap (λ (x : KeyAndValue). x.0) here ∙ sym (head_behind c.put_in.new.entries.items t e some);
        rises = rw (← v) at r;
      },
      record {
        few = omega (arith, memory.few, cap, room_kept);
        many = λ lt. let h = memory.many (omega (arith, lt, total, more, n, l, m)) in omega (arith, h, cap, room_kept);
      },
    )

pub returns-clause-put : goal.returns-clause-put
returns-clause-put c =
    let ys = c.make_room-self-inside.new.entries.items in
    let t = c.make_room-self-inside.result in
    let i = c.args.index in
    let y : KeyAndValue = (c.args.key, c.args.value) in
    let goes = rw (← c.self.view_is) at c.requires.goes in
    let fits = goes.fits in
    let same : drop t ys ≡ drop c.self.inside.start c.self.inside.entries.items = c.make_room-self-inside.ensures.same ∙ c.grow-self-inside.ensures.same in
    let within : t ≤ length ys = c.make_room-self-inside.ensures.within in
    let n = length-drop t ys in
    let l = ap length same in
    let items : c.put_in.new.entries.items ≡ insert ys (t + i) y = c.put_in.ensures.items in
    ap (drop t) items
    ∙ drop-insert ys t i y (omega (arith, fits, n, l, within))
    ∙ ap (λ (v : List KeyAndValue). insert v i y) (same ∙ c.self.view_is)
