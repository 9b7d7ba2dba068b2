use Rattle.std.proofs.Common.{arith, ◌<◌, ◌≤◌, List, length, drop, sym, ap, ◌∙◌}
use Rattle.std.specs.Prelude.{insert, vec_capacity}
use Rattle.std.proofs.lemmas.List.{length-drop}
use Rattle.block_map.specs.Sorted.{KeyAndValue}
use Rattle.block_map.proofs.Moved.{drop-insert}
use Rattle.block_map.proofs.Memory.{memory_full}
use Rattle.block_map.proofs.Rising.{block_with, head_insert, head_insert_front}
use Rattle.block_map.proofs.block.Block.try_put.Goals as goal

pub invariant_of-self : goal.invariant_of-self
invariant_of-self c =
    let xs = c.self.inside.entries.items in
    let s = c.self.inside.start in
    let y : KeyAndValue = (c.args.key, c.args.value) in
    let goes = rw (← c.self.view_is) at c.requires in
    let room : length xs < 64 = omega (arith, c.len.ensures, c.if-len-ge-MOST.false) in
    let full : 64 ≤ vec_capacity c.put_in.new.entries = omega (arith, c.put_in.ensures.capacity, c.capacity.ensures, c.if-capacity-lt-MOST.false) in
    (block_with c.self.inside.first c.args.key s c.args.index xs c.put_in.new.entries.items y c.self.invariant.0 goes room c.put_in.ensures.items (head_insert_front (drop s xs) c.args.index y c.if-index-eq0.true), memory_full _ _ full)

pub invariant_of-self-else-index-eq0 : goal.invariant_of-self-else-index-eq0
invariant_of-self-else-index-eq0 c =
    let xs = c.self.inside.entries.items in
    let s = c.self.inside.start in
    let i = c.args.index in
    let y : KeyAndValue = (c.args.key, c.args.value) in
    let goes = rw (← c.self.view_is) at c.requires in
    let room : length xs < 64 = omega (arith, c.len.ensures, c.if-len-ge-MOST.false) in
    let full : 64 ≤ vec_capacity c.put_in.new.entries = omega (arith, c.put_in.ensures.capacity, c.capacity.ensures, c.if-capacity-lt-MOST.false) in
    let pos : 0 < i = omega (arith, c.if-index-eq0.false) in
    (block_with c.self.inside.first c.self.inside.first s i xs c.put_in.new.entries.items y c.self.invariant.0 goes room c.put_in.ensures.items (c.self.invariant.0.head ∙ sym (head_insert (drop s xs) i y pos goes.fits)), memory_full _ _ full)

pub returns-else-index-eq0-clause-put : goal.returns-else-index-eq0-clause-put
returns-else-index-eq0-clause-put c = λ _.
    let xs = c.self.inside.entries.items in
    let s = c.self.inside.start in
    let i = c.args.index in
    let y : KeyAndValue = (c.args.key, c.args.value) in
    let goes = rw (← c.self.view_is) at c.requires in
    let fits = goes.fits in
    let n = length-drop s xs in
    let some = c.self.invariant.0.some in
    ap (drop s) c.put_in.ensures.items ∙ drop-insert xs s i y (omega (arith, fits, n, some)) ∙ ap (λ (v : List KeyAndValue). insert v i y) c.self.view_is
