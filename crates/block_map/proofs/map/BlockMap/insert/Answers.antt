use Rattle.std.proofs.Common.{arith, ◌≡◌, ◌+◌, ℕ, Some, sym, ap, ◌∙◌}
use Rattle.std.specs.Prelude.{slice_index_or, slice_set}
use Rattle.block_map.specs.Sorted.{KeyAndValue}
use Rattle.block_map.specs.Rows.{place_among}
use Rattle.block_map.proofs.Rising.{goes_behind}
use Rattle.block_map.proofs.Found.{below_here}
use Rattle.block_map.proofs.Keyed.{lookup_here, lookup_none, none_here, insert_old, insert_new}
use Rattle.block_map.proofs.map.BlockMap.insert.Goals as goal

pub returns-then-found-key-clause-items : goal.returns-then-found-key-clause-items
returns-then-found-key-clause-items c =
    let xs = c.args.self.now.items in
    let at = place_among c.args.self.now.rows c.in-Some.place.block c.in-Some.place.index in
    let e : KeyAndValue = c.entry-found.result in
    let same = c.if-found-key.true in
    let is : (d : KeyAndValue) → (slice_index_or xs at d).0 ≡ c.args.key = λ d. let k = ap (λ (x : KeyAndValue). x.0) (c.entry-found.ensures d) in omega (arith, k, same) in
    c.set_value.ensures.items e ∙ ap (λ (k : ℕ). slice_set xs at (k, c.args.value)) (is e) ∙ sym (insert_old xs at c.args.key c.args.value c.find.ensures.rises c.in-Some.ensures.last.fits is)

pub returns-then-found-key-clause-value : goal.returns-then-found-key-clause-value
returns-then-found-key-clause-value c =
    let xs = c.args.self.now.items in
    let at = place_among c.args.self.now.rows c.in-Some.place.block c.in-Some.place.index in
    let e : KeyAndValue = c.entry-found.result in
    let same = c.if-found-key.true in
    let is : (d : KeyAndValue) → (slice_index_or xs at d).0 ≡ c.args.key = λ d. let k = ap (λ (x : KeyAndValue). x.0) (c.entry-found.ensures d) in omega (arith, k, same) in
    ap (λ (x : KeyAndValue). Some x.1) (c.entry-found.ensures e) ∙ sym (lookup_here xs at c.args.key e c.find.ensures.rises c.in-Some.ensures.last.fits is)

pub returns-else-found-key-clause-items : goal.returns-else-found-key-clause-items
returns-else-found-key-clause-items c =
    let xs = c.args.self.now.items in
    let at = place_among c.args.self.now.rows c.in-Some.place.block c.in-Some.place.index in
    let last = c.in-Some.ensures.last in
    let here = below_here xs c.args.key at c.entry-found.result.0 last (λ d. ap (λ (x : KeyAndValue). x.0) (c.entry-found.ensures d)) c.if-found-key.false in
    c.put_behind.ensures ∙ sym (insert_new xs (at + 1) c.args.key c.args.value (goes_behind xs at c.args.key c.find.ensures.rises last.fits here last.above))

pub returns-else-found-key-clause-value : goal.returns-else-found-key-clause-value
returns-else-found-key-clause-value c =
    let xs = c.args.self.now.items in
    let at = place_among c.args.self.now.rows c.in-Some.place.block c.in-Some.place.index in
    let last = c.in-Some.ensures.last in
    let here = below_here xs c.args.key at c.entry-found.result.0 last (λ d. ap (λ (x : KeyAndValue). x.0) (c.entry-found.ensures d)) c.if-found-key.false in
    sym (lookup_none xs c.args.key (none_here xs c.args.key at c.find.ensures.rises last.fits here last.above))

pub returns-in-None-clause-value : goal.returns-in-None-clause-value
returns-in-None-clause-value c = sym (lookup_none c.args.self.now.items c.args.key (λ i d lt. let h = c.in-None.ensures.none i d lt in omega (arith, h)))
