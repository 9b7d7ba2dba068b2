use Rattle.std.proofs.Common.{arith, subst, ◌≡◌, ◌-◌, ◌<◌, ℕ, List, [], length, sym, ap, ◌∙◌, suc}
use Rattle.std.specs.Prelude.{insert}
use Rattle.block_map.specs.Sorted.{KeyAndValue, GoesAt}
use Rattle.block_map.specs.Rows.{flat, place_among}
use Rattle.block_map.proofs.Flat.{place_after, same_at}
use Rattle.block_map.proofs.rows.put_in_pair.Goals as goal

pub put_in_row-requires-else-offset-len-clause-goes :
    goal.put_in_row-requires-else-offset-len-clause-goes
put_in_row-requires-else-offset-len-clause-goes c =
    let old = c.args.blocks.now.items in
    let new = c.even_out.new.blocks.items in
    let n = c.args.high in
    let fits = c.requires.high in
    let low = c.requires.low in
    let count = c.even_out.ensures.count in
    let lt : n - 1 < length new = omega (arith, fits, count) in
    let a = place_after new (n - 1) [] lt in
    let p : suc (n - 1) ≡ n = omega (arith, low) in
    let q = ap (λ (k : ℕ). place_among new k 0) p in
    let same = ap length (c.index.ensures ∙ same_at new (n - 1) c.index.result.now [] lt) in
    let l = c.len-len.ensures.len in
    let b = ap (λ (t : List (List KeyAndValue)). length (flat t)) c.even_out.ensures.before in
    let e : place_among new n (c.args.offset - c.len-len.result) ≡ place_among old (n - 1) c.args.offset = omega (arith, a, q, same, l, b, c.if-offset-len.false) in
    subst (λ (k : ℕ). GoesAt (flat new) k c.args.key) (sym e) (subst (λ (t : List KeyAndValue). GoesAt t (place_among old (n - 1) c.args.offset) c.args.key) (sym c.even_out.ensures.items) c.requires.goes)

pub returns-else-offset-len-clause-items : goal.returns-else-offset-len-clause-items
returns-else-offset-len-clause-items c =
    let old = c.args.blocks.now.items in
    let new = c.even_out.new.blocks.items in
    let n = c.args.high in
    let y : KeyAndValue = (c.args.key, c.args.value) in
    let fits = c.requires.high in
    let low = c.requires.low in
    let count = c.even_out.ensures.count in
    let lt : n - 1 < length new = omega (arith, fits, count) in
    let a = place_after new (n - 1) [] lt in
    let p : suc (n - 1) ≡ n = omega (arith, low) in
    let q = ap (λ (k : ℕ). place_among new k 0) p in
    let same = ap length (c.index.ensures ∙ same_at new (n - 1) c.index.result.now [] lt) in
    let l = c.len-len.ensures.len in
    let b = ap (λ (t : List (List KeyAndValue)). length (flat t)) c.even_out.ensures.before in
    let e : place_among new n (c.args.offset - c.len-len.result) ≡ place_among old (n - 1) c.args.offset = omega (arith, a, q, same, l, b, c.if-offset-len.false) in
    c.put_in_row-else-offset-len.ensures.items
    ∙ ap (λ (k : ℕ). insert (flat new) k y) e
    ∙ ap (λ (t : List KeyAndValue). insert t (place_among old (n - 1) c.args.offset) y) c.even_out.ensures.items
