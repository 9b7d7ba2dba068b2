use Rattle.std.proofs.Common.{arith, subst, ◌≡◌, ◌+◌, ◌-◌, ◌<◌, ℕ, List, [], ◌++◌, length, take, drop, sym, ap, ◌∙◌}
use Rattle.std.specs.Prelude.{slice_index_or, slice_set}
use Rattle.std.proofs.lemmas.List.{length-append, take_at}
use Rattle.block_map.specs.Sorted.{KeyAndValue}
use Rattle.block_map.specs.Rows.{flat, HasSome}
use Rattle.block_map.proofs.Rowed.{join_rises, pair_flat, pair_count, old_low, old_high, pair_low, pair_high, pair_some}
use Rattle.block_map.proofs.rows.even_out.Goals as goal

pub even_out-requires-clause-rises : goal.even_out-requires-clause-rises
even_out-requires-clause-rises c =
    let rows = c.args.blocks.now.items in
    let low = c.split_at_mut-front.result.0.now in
    let high = c.split_at_mut-front.result.1.now in
    let is : rows ≡ low ++ high = sym c.as_mut_slice.ensures.value ∙ c.split_at_mut-front.ensures.value in
    let front : length low ≡ c.args.high = c.split_at_mut-front.ensures.front_len in
    let total = ap length is in
    let both = length-append low high in
    let fits = c.requires.high in
    join_rises rows low high c.args.high c.index-front-high.result c.index-rest-0.result is front c.requires.low (omega (arith, total, both, front, fits)) c.requires.rises

module _ (c : goal.After-blocks-3-1) where
  abbrev rows : List (List KeyAndValue)
  rows = c.args.blocks.now.items

  abbrev low : List (List KeyAndValue)
  low = c.split_at_mut-front.result.0.now

  abbrev high : List (List KeyAndValue)
  high = c.split_at_mut-front.result.1.now

  abbrev n : ℕ
  n = c.args.high

  abbrev own : List KeyAndValue
  own = c.even_out.new.self

  abbrev other : List KeyAndValue
  other = c.even_out.new.next

  abbrev left : List (List KeyAndValue)
  left = slice_set low (n - 1) own ++ slice_set high 0 other

  is : rows ≡ low ++ high
  is = sym c.as_mut_slice.ensures.value ∙ c.split_at_mut-front.ensures.value

  front : length low ≡ n
  front = c.split_at_mut-front.ensures.front_len

  back : 0 < length high
  back =
      let total = ap length is in
      let both = length-append low high in
      let fits = c.requires.high in
      let f = front in
      omega (arith, total, both, f, fits)

  all : take c.args.blocks.now.len (left ++ drop (length left) rows) ≡ left
  all =
      let count = pair_count rows low high n c.index-front-high.result c.index-rest-0.result is front c.requires.low back own other in
      take_at left (drop (length left) rows) c.args.blocks.now.len (omega (arith, count))

  own_len : length (slice_index_or left (n - 1) []) ≡ length own
  own_len = ap length (pair_low rows low high n c.index-front-high.result c.index-rest-0.result is front c.requires.low back own other [])

  other_len : length (slice_index_or left n []) ≡ length other
  other_len = ap length (pair_high rows low high n c.index-front-high.result c.index-rest-0.result is front c.requires.low back own other [])

  old_own : length (slice_index_or rows (n - 1) []) ≡ length (slice_index_or low (n - 1) c.index-front-high.result)
  old_own = ap length (old_low rows low high n c.index-front-high.result c.index-rest-0.result is front c.requires.low back [])

  old_other : length (slice_index_or rows n []) ≡ length (slice_index_or high 0 c.index-rest-0.result)
  old_other = ap length (old_high rows low high n c.index-front-high.result c.index-rest-0.result is front c.requires.low back [])

  sum : length own + length other ≡ length (slice_index_or rows (n - 1) []) + length (slice_index_or rows n [])
  sum =
      let e = ap length c.even_out.ensures.same in
      let p = length-append own other in
      let q = length-append (slice_index_or low (n - 1) c.index-front-high.result) (slice_index_or high 0 c.index-rest-0.result) in
      let a = old_own in
      let b = old_other in
      omega (arith, e, p, q, a, b)

pub returns-clause-items : goal.returns-clause-items
returns-clause-items c = ap flat (all c) ∙ pair_flat (rows c) (low c) (high c) (n c) c.index-front-high.result c.index-rest-0.result (is c) (front c) c.requires.low (back c) (own c) (other c) c.even_out.ensures.same

pub returns-clause-both : goal.returns-clause-both
returns-clause-both c =
    let a = ap (λ (t : List (List KeyAndValue)). length (slice_index_or t (n c - 1) [])) (all c) in
    let b = ap (λ (t : List (List KeyAndValue)). length (slice_index_or t (n c) [])) (all c) in
    let p = own_len c in
    let q = other_len c in
    let r = sum c in
    omega (arith, a, b, p, q, r)

pub returns-clause-half : goal.returns-clause-half
returns-clause-half c =
    let a = ap (λ (t : List (List KeyAndValue)). length (slice_index_or t (n c - 1) [])) (all c) in
    let p = own_len c in
    let x = old_own c in
    let y = old_other c in
    let h = c.even_out.ensures.half in
    omega (arith, a, p, x, y, h)

pub returns-clause-some : goal.returns-clause-some
returns-clause-some c =
    let h = c.even_out.ensures.half in
    let x = old_own c in
    let y = old_other c in
    let many = c.requires.many in
    let most = c.requires.most in
    let r = sum c in
    let f : HasSome (left c) = pair_some (rows c) (low c) (high c) (n c) c.index-front-high.result c.index-rest-0.result (is c) (front c) c.requires.low (back c) (own c) (other c) (omega (arith, h, x, y, many)) (omega (arith, h, x, y, many, r)) c.requires.some in
    subst (λ (t : List (List KeyAndValue)). HasSome t) (sym (all c)) f
