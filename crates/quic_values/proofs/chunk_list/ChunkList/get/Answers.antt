use Rattle.std.proofs.Common.{◌++◌, arith, ap, length, length-append, sym}
use Rattle.quic_values.proofs.Parts.{length-parted_at, parted_at-get, Reaches-within, same_end, same_start}
use Rattle.quic_values.proofs.chunk_list.ChunkList.get.Goals as goal

pub returns-in_default-clause-none : goal.returns-in_default-clause-none
returns-in_default-clause-none c =
    omega (arith, ap length c.self.view_is, length-parted_at 0 c.self.inside.content.items (c.self.inside.low_ends.items ++ c.self.inside.high_ends.items), length-append c.self.inside.low_ends.items c.self.inside.high_ends.items, c.in_default.ensures.none, ap length c.deref.ensures.value, ap length c.deref-2.ensures.value)

pub returns-in_default-start_of-clause-none : goal.returns-in_default-start_of-clause-none
returns-in_default-start_of-clause-none c =
    omega (arith, ap length c.self.view_is, length-parted_at 0 c.self.inside.content.items (c.self.inside.low_ends.items ++ c.self.inside.high_ends.items), length-append c.self.inside.low_ends.items c.self.inside.high_ends.items, c.in_default-start_of.ensures.none, ap length c.deref-3.ensures.value, ap length c.deref-4.ensures.value)

pub part_of-requires-clause-order : goal.part_of-requires-clause-order
part_of-requires-clause-order c =
    let to = same_end c.self.inside.low_ends.items c.self.inside.high_ends.items _ _ c.args.index _ c.deref.ensures.value c.deref-2.ensures.value c.in-Some.ensures.found in
    let from = same_start c.self.inside.low_ends.items c.self.inside.high_ends.items _ _ c.args.index _ c.deref-3.ensures.value c.deref-4.ensures.value c.in-Some-start_of.ensures.found in
    (Reaches-within 0 _ _ c.args.index _ _ c.self.invariant.0 from to).0

pub part_of-requires-clause-within : goal.part_of-requires-clause-within
part_of-requires-clause-within c =
    let to = same_end c.self.inside.low_ends.items c.self.inside.high_ends.items _ _ c.args.index _ c.deref.ensures.value c.deref-2.ensures.value c.in-Some.ensures.found in
    let from = same_start c.self.inside.low_ends.items c.self.inside.high_ends.items _ _ c.args.index _ c.deref-3.ensures.value c.deref-4.ensures.value c.in-Some-start_of.ensures.found in
    let bounds = Reaches-within 0 _ _ c.args.index _ _ c.self.invariant.0 from to in
    omega (arith, bounds.1, c.self.inside.content.ok.0, ap length c.deref-5.ensures.value)

pub returns-clause-chunk : goal.returns-clause-chunk
returns-clause-chunk c =
    let to = same_end c.self.inside.low_ends.items c.self.inside.high_ends.items _ _ c.args.index _ c.deref.ensures.value c.deref-2.ensures.value c.in-Some.ensures.found in
    let from = same_start c.self.inside.low_ends.items c.self.inside.high_ends.items _ _ c.args.index _ c.deref-3.ensures.value c.deref-4.ensures.value c.in-Some-start_of.ensures.found in
    let found = parted_at-get 0 c.self.inside.content.items _ c.args.index _ _ from to in
    rw (sym c.self.view_is, c.part_of.ensures, c.deref-5.ensures.value) found
