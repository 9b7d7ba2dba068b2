use Rattle.std.proofs.Common.{arith, ◌≡◌, ◌+◌, Some, sym, ap, ◌∙◌, suc}
use Rattle.block_map.specs.Sorted.{KeyAndValue}
use Rattle.block_map.specs.Rows.{place_among}
use Rattle.block_map.proofs.Keyed.{lookup_here, without_here, without_unfound}
use Rattle.block_map.proofs.map.BlockMap.remove.Goals as goal

pub returns-in_err-place-clause-items : goal.returns-in_err-place-clause-items
returns-in_err-place-clause-items c = sym (without_unfound c.args.self.now.items c.args.key c.in_err-place.ensures.none)

pub returns-clause-items : goal.returns-clause-items
returns-clause-items c =
    let xs = c.args.self.now.items in
    let at = place_among c.args.self.now.rows c.in_ok-place.place.block c.in_ok-place.place.index in
    let p : suc at ≡ at + 1 = omega arith in
    c.remove_at.ensures.items ∙ sym (without_here xs at (at + 1) c.args.key p c.place_of.ensures.rises c.in_ok-place.ensures.fits c.in_ok-place.ensures.key)

pub returns-clause-value : goal.returns-clause-value
returns-clause-value c =
    let xs = c.args.self.now.items in
    let at = place_among c.args.self.now.rows c.in_ok-place.place.block c.in_ok-place.place.index in
    let e : KeyAndValue = c.remove_at.result in
    ap (λ (x : KeyAndValue). Some x.1) (c.remove_at.ensures.value e) ∙ sym (lookup_here xs at c.args.key e c.place_of.ensures.rises c.in_ok-place.ensures.fits c.in_ok-place.ensures.key)
