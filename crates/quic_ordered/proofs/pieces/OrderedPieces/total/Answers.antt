use Rattle.std.proofs.Common.{arith}
use Rattle.quic_ordered.proofs.Totals.{sums_fit}
use Rattle.quic_ordered.proofs.pieces.OrderedPieces.total.Goals as goal

pub overflow_add-result : goal.overflow_add-result
overflow_add-result c =
    let s = sums_fit c.self.inside.rest c.len-count.ensures.fits (omega (arith, c.len-count.ensures.len, c.len-count.ensures.small)) in
    omega (arith, s.0, c.total-total.ensures, c.len.ensures.value, c.len.ensures.bound)
