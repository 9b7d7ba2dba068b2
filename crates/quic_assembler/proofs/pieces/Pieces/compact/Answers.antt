use Rattle.std.proofs.Common.{arith, reverse}
use Rattle.std.proofs.lemmas.List.{length-reverse, length-append}
use Rattle.std.proofs.lemmas.List.Elements.{All-append}
use Rattle.quic_assembler.specs.Compact.{IsTight}
use Rattle.std.proofs.lemmas.List.Sorted.{IsPermutation-trans, IsPermutation-reverse, length_permutation, All-permutation}
use Rattle.quic_assembler.specs.Piece.{IsSome}
use Rattle.quic_assembler.proofs.Parts.{parts_length, compacts_parts, rises_from_sorted}
use Rattle.quic_assembler.proofs.Queue.{sound_is_some, queue_permuted}
use Rattle.quic_assembler.proofs.Sums.{compacted}
use Rattle.quic_assembler.proofs.pieces.Pieces.compact.Goals as goal

pub join_small-requires : goal.join_small-requires
join_small-requires c =
    let p = rw (c.into_vec-pieces.ensures.value, c.replace-heap.ensures.value) at c.sort_unstable.ensures.permutation in
    rw c.deref.ensures.value (All-permutation IsSome _ _ p (sound_is_some _ c.self.invariant.sound))

pub invariant_of-self : goal.invariant_of-self
invariant_of-self c =
    let p = rw (c.into_vec-pieces.ensures.value, c.replace-heap.ensures.value) at c.sort_unstable.ensures.permutation in
    queue_permuted _ _ _ _ c.self.invariant (IsPermutation-trans _ _ _ p c.from.ensures.1) c.from.ensures.2

pub returns-in-Err-clause-err : goal.returns-in-Err-clause-err
returns-in-Err-clause-err c =
    let p = rw (c.into_vec-pieces.ensures.value, c.replace-heap.ensures.value) at c.sort_unstable.ensures.permutation in
    rw (← c.self.view_is) (IsPermutation-trans _ _ _ p c.from.ensures.1)

pub keep_large-requires-clause-some : goal.keep_large-requires-clause-some
keep_large-requires-clause-some c =
    let p = rw (c.into_vec-pieces.ensures.value, c.replace-heap.ensures.value) at c.sort_unstable.ensures.permutation in
    All-permutation IsSome _ _ p (sound_is_some _ c.self.invariant.sound)

pub keep_large-requires-clause-room : goal.keep_large-requires-clause-room
keep_large-requires-clause-room c =
    let p = rw (c.into_vec-pieces.ensures.value, c.replace-heap.ensures.value) at c.sort_unstable.ensures.permutation in
    rw c.in_ok-out.ensures.runs (omega (arith, parts_length c.max-least.result 0 (reverse c.sort_unstable.new.self.items), length_permutation _ _ p, length-reverse c.sort_unstable.new.self.items, c.in_ok-out.ensures.room, c.len.ensures))

pub put_all-requires-clause-room : goal.put_all-requires-clause-room
put_all-requires-clause-room c =
    let p = rw (c.into_vec-pieces.ensures.value, c.replace-heap.ensures.value) at c.sort_unstable.ensures.permutation in
    let copied = rw c.deref.ensures.value at c.in-Ok.ensures.len in
    let kept = rw c.in_ok-out.ensures.runs at c.keep_large.ensures.len in
    omega (arith, copied, kept, parts_length c.max-least.result 0 (reverse c.sort_unstable.new.self.items), length_permutation _ _ p, length-reverse c.sort_unstable.new.self.items, c.in_ok-out.ensures.room, c.len.ensures, c.keep_large.ensures.room, c.in-Ok.copies.ok)

pub returns-in-Ok-clause-compacts : goal.returns-in-Ok-clause-compacts
returns-in-Ok-clause-compacts c =
    let p = rw (c.into_vec-pieces.ensures.value, c.replace-heap.ensures.value) at c.sort_unstable.ensures.permutation in
    let copied = rw c.deref.ensures.value at c.in-Ok.ensures.adds in
    let rises = rises_from_sorted _ c.sort_unstable.ensures.sorted in
    rw (← c.self.view_is) (compacts_parts c.max-least.result _ _ _ _ _ _ (IsPermutation-trans _ _ _ p (IsPermutation-reverse _)) rises copied c.in_ok-out.ensures.runs c.keep_large.ensures.adds (rw (← c.out-in-Ok.view_is) at c.put_all.ensures.put))

pub returns-in-Ok-clause-compacted : goal.returns-in-Ok-clause-compacted
returns-in-Ok-clause-compacted c =
    let put = rw (← c.out-in-Ok.view_is) at c.put_all.ensures.put in
    let tight = All-permutation IsTight _ _ put (All-append IsTight _ _ c.in-Ok.ensures.tight c.keep_large.ensures.tight) in
    compacted _ _ (returns-in-Ok-clause-compacts c) tight c.out-in-Ok.invariant.sound

pub returns-in-Ok-clause-len : goal.returns-in-Ok-clause-len
returns-in-Ok-clause-len c =
    let p = rw (c.into_vec-pieces.ensures.value, c.replace-heap.ensures.value) at c.sort_unstable.ensures.permutation in
    let copied = rw c.deref.ensures.value at c.in-Ok.ensures.len in
    let kept = rw c.in_ok-out.ensures.runs at c.keep_large.ensures.len in
    let put = rw (← c.out-in-Ok.view_is) at c.put_all.ensures.put in
    rw (← c.self.view_is) (omega (arith, copied, kept, length_permutation _ _ put, length-append c.in-Ok.copies.items c.keep_large.new.out.runs, parts_length c.max-least.result 0 (reverse c.sort_unstable.new.self.items), length_permutation _ _ p, length-reverse c.sort_unstable.new.self.items))
