use Rattle.std.proofs.Common.{arith}
use Rattle.quic_ordered.proofs.Totals.{total_bound, allocated_bound, sums_put}
use Rattle.quic_ordered.proofs.row.PieceRow.put_at.Goals as goal

pub overflow_add-self : goal.overflow_add-self
overflow_add-self c = omega (arith, total_bound _ _ _ c.self.invariant)

pub overflow_add-self-2 : goal.overflow_add-self-2
overflow_add-self-2 c = omega (arith, allocated_bound _ _ _ c.self.invariant)

pub invariant_of-self-2 : goal.invariant_of-self-2
invariant_of-self-2 c = rw c.in_ok-insert.ensures.items (sums_put _ _ _ _ c.args.index _ c.args.piece c.self.invariant
    (record { below = c.len-length.ensures.bound; allocation = c.allocation_size-allocated.ensures.bound })
    (omega (arith, c.len-length.ensures.value)) (omega (arith, c.allocation_size-allocated.ensures.value)))
