use Rattle.std.proofs.Common.{arith, ◌≡◌, ◌-◌, ◌<◌, List, ◌++◌, length, take, drop, sym, ap, ◌∙◌, suc}
use Rattle.std.specs.Prelude.{slice_index_or, slice_set}
use Rattle.std.specs.List.{remove_range}
use Rattle.std.proofs.lemmas.List.{length-append, length-set, take_at}
use Rattle.block_map.specs.Sorted.{KeyAndValue}
use Rattle.block_map.specs.Rows.{flat}
use Rattle.block_map.proofs.Rowed.{join_in, join_rises, some_joined, some_without}
use Rattle.block_map.proofs.rows.join_few.Goals as goal

pub try_append-requires-clause-rises : goal.try_append-requires-clause-rises
try_append-requires-clause-rises c =
    let rows = c.args.blocks.now.items in
    let n = c.args.block in
    let low = c.split_at_mut-low.result.0.now in
    let high = c.split_at_mut-low.result.1.now in
    let is : rows ≡ low ++ high = sym c.as_mut_slice.ensures.value ∙ c.split_at_mut-low.ensures.value in
    let pos : 0 < n = omega arith in
    let total = ap length is in
    let both = length-append low high in
    let front : length low ≡ n = c.split_at_mut-low.ensures.front_len in
    let back : 0 < length high = omega (arith, total, both, front, c.len.ensures) in
    join_rises rows low high n c.index-low-block.result c.index-high-0.result is front pos back c.requires.rises

pub returns-then-try_append-clause-items : goal.returns-then-try_append-clause-items
returns-then-try_append-clause-items c =
    let rows = c.args.blocks.now.items in
    let n = c.args.block in
    let low = c.split_at_mut-low.result.0.now in
    let high = c.split_at_mut-low.result.1.now in
    let row = c.try_append.new.self in
    let left = slice_set low (n - 1) row ++ high in
    let is : rows ≡ low ++ high = sym c.as_mut_slice.ensures.value ∙ c.split_at_mut-low.ensures.value in
    let pos : 0 < n = omega arith in
    let total = ap length is in
    let both = length-append low high in
    let same = length-append (slice_set low (n - 1) row) high in
    let kept = length-set low (n - 1) row in
    let front : length low ≡ n = c.split_at_mut-low.ensures.front_len in
    let back : 0 < length high = omega (arith, total, both, front, c.len.ensures) in
    let all : take c.args.blocks.now.len (left ++ drop (length left) rows) ≡ left = take_at left (drop (length left) rows) c.args.blocks.now.len (omega (arith, same, kept, both, total)) in
    let grown = c.try_append.ensures.put c.if-try_append.true in
    ap flat c.remove.ensures.items
    ∙ ap (λ (t : List (List KeyAndValue)). flat (remove_range t n (suc n))) all
    ∙ ap (λ (t : List KeyAndValue). flat (remove_range (slice_set low (n - 1) t ++ high) n (suc n))) grown
    ∙ join_in rows low high n c.index-low-block.result c.index-high-0.result is front pos back

pub returns-then-try_append-clause-some : goal.returns-then-try_append-clause-some
returns-then-try_append-clause-some c =
    let rows = c.args.blocks.now.items in
    let n = c.args.block in
    let low = c.split_at_mut-low.result.0.now in
    let high = c.split_at_mut-low.result.1.now in
    let row = c.try_append.new.self in
    let left = slice_set low (n - 1) row ++ high in
    let is : rows ≡ low ++ high = sym c.as_mut_slice.ensures.value ∙ c.split_at_mut-low.ensures.value in
    let pos : 0 < n = omega arith in
    let total = ap length is in
    let both = length-append low high in
    let same = length-append (slice_set low (n - 1) row) high in
    let kept = length-set low (n - 1) row in
    let front : length low ≡ n = c.split_at_mut-low.ensures.front_len in
    let back : 0 < length high = omega (arith, total, both, front, c.len.ensures) in
    let all : take c.args.blocks.now.len (left ++ drop (length left) rows) ≡ left = take_at left (drop (length left) rows) c.args.blocks.now.len (omega (arith, same, kept, both, total)) in
    let l = ap length (c.try_append.ensures.put c.if-try_append.true) in
    let m = length-append (slice_index_or low (n - 1) c.index-low-block.result) (slice_index_or high 0 c.index-high-0.result) in
    let f = some_joined rows low high n c.index-low-block.result c.index-high-0.result is front pos back row (omega (arith, l, m)) c.requires.some in
    let whole = some_without left n (suc n) f in
    rw (← c.remove.ensures.items ∙ ap (λ (t : List (List KeyAndValue)). remove_range t n (suc n)) all) at whole

pub returns-else-try_append-clause-some : goal.returns-else-try_append-clause-some
returns-else-try_append-clause-some c =
    let rows = c.args.blocks.now.items in
    let n = c.args.block in
    let low = c.split_at_mut-low.result.0.now in
    let high = c.split_at_mut-low.result.1.now in
    let row = c.try_append.new.self in
    let left = slice_set low (n - 1) row ++ high in
    let is : rows ≡ low ++ high = sym c.as_mut_slice.ensures.value ∙ c.split_at_mut-low.ensures.value in
    let pos : 0 < n = omega arith in
    let total = ap length is in
    let both = length-append low high in
    let same = length-append (slice_set low (n - 1) row) high in
    let kept = length-set low (n - 1) row in
    let front : length low ≡ n = c.split_at_mut-low.ensures.front_len in
    let back : 0 < length high = omega (arith, total, both, front, c.len.ensures) in
    let all : take c.args.blocks.now.len (left ++ drop (length left) rows) ≡ left = take_at left (drop (length left) rows) c.args.blocks.now.len (omega (arith, same, kept, both, total)) in
    let l = ap length (c.try_append.ensures.left c.if-try_append.false) in
    let f = some_joined rows low high n c.index-low-block.result c.index-high-0.result is front pos back row (omega (arith, l)) c.requires.some in
    rw (← all) at f
