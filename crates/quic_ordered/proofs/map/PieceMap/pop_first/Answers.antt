use Rattle.std.proofs.Common.{arith}
use Rattle.quic_ordered.proofs.Totals.{map_left_front}
use Rattle.quic_ordered.proofs.map.PieceMap.pop_first.Goals as goal

pub invariant_of-self : goal.invariant_of-self
invariant_of-self c = map_left_front _ _ _ _ _ _ _ c.in-Some.piece c.self.invariant c.in-Some.ensures.some.1 c.pop_first.ensures.rises
    (omega (arith, c.len.ensures.value)) (omega (arith, c.allocation_size.ensures.value))
