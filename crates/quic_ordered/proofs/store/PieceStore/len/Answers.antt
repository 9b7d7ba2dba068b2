use Rattle.std.proofs.Common.{arith}
use Rattle.quic_ordered.proofs.Totals.{store_count}
use Rattle.quic_ordered.proofs.store.PieceStore.len.Goals as goal

pub overflow_add-result : goal.overflow_add-result
overflow_add-result c = let s = store_count _ _ c.self.invariant c.len.ensures.fits c.len-2.ensures.fits in omega (arith, s, c.len.ensures.len, c.len-2.ensures.len)

pub returns-clause-small : goal.returns-clause-small
returns-clause-small c = let s = store_count _ _ c.self.invariant c.len.ensures.fits c.len-2.ensures.fits in omega (arith, s, c.len.ensures.len, c.len-2.ensures.len)
