use Rattle.std.proofs.Common.{arith}
use Rattle.quic_ordered.proofs.Totals.{left_front}
use Rattle.quic_ordered.proofs.row.PieceRow.pop_front.Goals as goal

pub invariant_of-self : goal.invariant_of-self
invariant_of-self c = left_front _ _ _ _ _ _ c.in-Some.piece c.self.invariant (rw c.in-Some.is at c.pop_front-first.ensures.items)
    (omega (arith, c.len.ensures.value)) (omega (arith, c.allocation_size.ensures.value))
