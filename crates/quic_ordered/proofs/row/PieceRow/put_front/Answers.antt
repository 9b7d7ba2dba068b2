use Rattle.std.proofs.Common.{arith}
use Rattle.quic_ordered.proofs.Totals.{total_bound, allocated_bound, sums_front}
use Rattle.quic_ordered.proofs.row.PieceRow.put_front.Goals as goal

pub overflow_add-self : goal.overflow_add-self
overflow_add-self c = omega (arith, total_bound _ _ _ c.self.invariant)

pub overflow_add-self-2 : goal.overflow_add-self-2
overflow_add-self-2 c = omega (arith, allocated_bound _ _ _ c.self.invariant)

pub invariant_of-self : goal.invariant_of-self
invariant_of-self c = rw c.push_front_reserved.ensures.items (sums_front _ _ _ _ _ c.args.piece c.self.invariant
    (record { below = c.len.ensures.bound; allocation = c.allocation_size.ensures.bound })
    (omega (arith, c.len.ensures.value)) (omega (arith, c.allocation_size.ensures.value)))
