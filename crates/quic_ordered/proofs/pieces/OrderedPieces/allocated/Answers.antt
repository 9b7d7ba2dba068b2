use Rattle.std.proofs.Common.{arith}
use Rattle.quic_ordered.proofs.Totals.{sums_fit}
use Rattle.quic_ordered.proofs.pieces.OrderedPieces.allocated.Goals as goal

pub overflow_add-result : goal.overflow_add-result
overflow_add-result c =
    let s = sums_fit c.self.inside.rest c.len-count.ensures.fits (omega (arith, c.len-count.ensures.len, c.len-count.ensures.small)) in
    omega (arith, s.1, c.allocated-allocated.ensures, c.allocation_size.ensures.value, c.allocation_size.ensures.bound)
