use Rattle.std.proofs.Common.{arith}
use Rattle.quic_assembler.proofs.Queue.{queue_pushed, total_bound, allocated_bound}
use Rattle.quic_assembler.proofs.pieces.Pieces.push.Goals as goal

pub overflow_add-self : goal.overflow_add-self
overflow_add-self c = omega (arith, total_bound _ _ _ c.self.invariant)

pub overflow_add-self-2 : goal.overflow_add-self-2
overflow_add-self-2 c = omega (arith, allocated_bound _ _ _ c.self.invariant)

pub invariant_of-self-2 : goal.invariant_of-self-2
invariant_of-self-2 c = queue_pushed _ _ _ _ _ _ c.args.piece c.self.invariant
    (record { some = c.requires; below = omega (arith, c.len-length.ensures.bound); allocation = omega (arith, c.allocation_size-allocated.ensures.bound) })
    c.in_ok-push.ensures.permutation (c.in_ok-push.ensures.heap_order c.self.invariant.order) c.len-length.ensures.value c.allocation_size-allocated.ensures.value
