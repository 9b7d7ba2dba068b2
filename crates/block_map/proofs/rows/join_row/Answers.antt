use Rattle.std.proofs.Common.{arith, ◌≡◌, ◌+◌, ◌-◌, ◌<◌, ℕ, List, [], ◌++◌, length, take, ap, ◌∙◌}
use Rattle.std.specs.Prelude.{slice_index_or, slice_set}
use Rattle.block_map.specs.Sorted.{KeyAndValue, KeysRise}
use Rattle.block_map.specs.Rows.{flat}
use Rattle.std.proofs.lemmas.List.{append_assoc, length-append}
use Rattle.block_map.proofs.Flat.{same_at}
use Rattle.block_map.proofs.Rowed.{flat_last, flat_grown, full_grown, full_pushed, flat_push, some_set}
use Rattle.block_map.proofs.Rising.{rises_back}
use Rattle.block_map.proofs.rows.join_row.Goals as goal

pub append-requires-clause-rises : goal.append-requires-clause-rises
append-requires-clause-rises c =
    let rows = c.args.rows.now.items in
    let n = c.len-last.result - 1 in
    let row = c.index_mut.result.now in
    let some = (c.has_room.ensures.yes c.if-has_room.true).0 in
    let v = ap length c.as_slice.ensures.value in
    let is : n + 1 ≡ length rows = omega (arith, some, v, c.len-last.ensures) in
    let same : row ≡ slice_index_or rows n [] = c.index_mut.ensures.value ∙ same_at rows n row [] (omega (arith, is)) in
    let r : KeysRise ((flat (take n rows) ++ slice_index_or rows n []) ++ c.args.block.now) = rw (flat_last rows n [] is) at c.requires.rises in
    let t : KeysRise (flat (take n rows) ++ (slice_index_or rows n [] ++ c.args.block.now)) = rw (append_assoc (flat (take n rows)) (slice_index_or rows n []) c.args.block.now) at r in
    let s = rises_back (flat (take n rows)) (slice_index_or rows n [] ++ c.args.block.now) t in
    rw (← same) at s

pub returns-then-has_room-clause-items : goal.returns-then-has_room-clause-items
returns-then-has_room-clause-items c =
    let rows = c.args.rows.now.items in
    let n = c.len-last.result - 1 in
    let row = c.index_mut.result.now in
    let some = (c.has_room.ensures.yes c.if-has_room.true).0 in
    let v = ap length c.as_slice.ensures.value in
    let is : n + 1 ≡ length rows = omega (arith, some, v, c.len-last.ensures) in
    let same : row ≡ slice_index_or rows n [] = c.index_mut.ensures.value ∙ same_at rows n row [] (omega (arith, is)) in
    ap (λ (t : List KeyAndValue). flat (slice_set rows n t)) (c.in_ok-append.ensures ∙ ap (λ (t : List KeyAndValue). t ++ c.args.block.now) same) ∙ flat_grown rows n [] c.args.block.now is

pub returns-then-has_room-clause-some : goal.returns-then-has_room-clause-some
returns-then-has_room-clause-some c =
    let rows = c.args.rows.now.items in
    let l = ap length c.in_ok-append.ensures in
    let m = length-append c.index_mut.result.now c.args.block.now in
    let pos = c.len-len.ensures.some in
    some_set rows (c.len-last.result - 1) c.append.new.self c.requires.some (omega (arith, l, m, pos))

pub returns-then-has_room-clause-full : goal.returns-then-has_room-clause-full
returns-then-has_room-clause-full c =
    let rows = c.args.rows.now.items in
    let n = c.len-last.result - 1 in
    let row = c.index_mut.result.now in
    let some = (c.has_room.ensures.yes c.if-has_room.true).0 in
    let v = ap length c.as_slice.ensures.value in
    let is : n + 1 ≡ length rows = omega (arith, some, v, c.len-last.ensures) in
    let same : row ≡ slice_index_or rows n [] = c.index_mut.ensures.value ∙ same_at rows n row [] (omega (arith, is)) in
    let l = ap length c.in_ok-append.ensures in
    let m = length-append row c.args.block.now in
    let o = ap length same in
    full_grown rows n c.append.new.self [] (omega (arith, l, m, o)) c.requires.full

pub returns-clause-items : goal.returns-clause-items
returns-clause-items c =
    let rows = c.args.rows.now.items in
    ap flat c.in_ok-push.ensures.items ∙ flat_push rows c.in_ok-copied.field-0 ∙ ap (λ (t : List KeyAndValue). flat rows ++ t) c.in_ok-copied.ensures

pub returns-clause-full : goal.returns-clause-full
returns-clause-full c =
    let rows = c.args.rows.now.items in
    let v = c.as_slice.ensures.value in
    let l = ap length v in
    let e = ap length c.in_ok-copied.ensures in
    let last : (i : ℕ) → i + 1 ≡ length rows → 64 < length (slice_index_or rows i []) + length c.in_ok-copied.field-0 =
    λ i is. let h = c.has_room.ensures.no c.if-has_room.false i (omega (arith, is, l)) in let g = ap (λ (t : List (List KeyAndValue)). length (slice_index_or t i [])) v in omega (arith, h, g, e) in
    rw c.in_ok-push.ensures.items (full_pushed rows c.in_ok-copied.field-0 c.requires.full last)
