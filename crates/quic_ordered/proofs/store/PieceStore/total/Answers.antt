use Rattle.std.proofs.Common.{arith}
use Rattle.quic_ordered.proofs.Totals.{store_count, store_allocated}
use Rattle.quic_ordered.proofs.store.PieceStore.total.Goals as goal

pub overflow_add-count : goal.overflow_add-count
overflow_add-count c = let s = store_count _ _ c.self.invariant c.len.ensures.fits c.len-2.ensures.fits in omega (arith, s, c.len.ensures.len, c.len-2.ensures.len)

pub overflow_add-result : goal.overflow_add-result
overflow_add-result c = let s = store_allocated _ _ c.self.invariant c.len.ensures.fits c.len-2.ensures.fits in omega (arith, s.0)
