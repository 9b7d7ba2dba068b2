use Rattle.std.proofs.Common.{arith, sym}
use Rattle.quic_ordered.proofs.Totals.{map_total_bound, inserted_new}
use Rattle.quic_ordered.proofs.map.PieceMap.put_free.Goals as goal

pub overflow_add-self : goal.overflow_add-self
overflow_add-self c = omega (arith, map_total_bound _ _ _ c.self.invariant)

pub overflow_add-self-in-None : goal.overflow_add-self-in-None
overflow_add-self-in-None c = omega (arith, map_total_bound _ _ _ c.self.invariant)

pub invariant_of-self-in-None : goal.invariant_of-self-in-None
invariant_of-self-in-None c =
    inserted_new _ _ _ _ _ _ c.args.piece.offset c.args.piece c.self.invariant (record { below = c.len-length.ensures.bound; allocation = c.allocation_size-allocated.ensures.bound })
    (rw c.in-None.is at c.in_ok-found.ensures.entries) (sym (rw c.in-None.is at c.in_ok-found.ensures.absent)) c.put_free.ensures.rises
    (omega (arith, c.len-length.ensures.value)) (omega (arith, c.allocation_size-allocated.ensures.value))
