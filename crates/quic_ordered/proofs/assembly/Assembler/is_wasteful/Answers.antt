use Rattle.std.proofs.Common.{arith, sym, refl}
use Rattle.quic_assembler.proofs.Whole.{wasteful_many}
use Rattle.quic_ordered.proofs.Assembling.{little_wasteful}
use Rattle.quic_ordered.proofs.Waste.{much_wasted, little_wasted}
use Rattle.quic_ordered.proofs.assembly.Assembler.is_wasteful.Goals as goal

pub returns-then-len-gt-COMPACT_THRESHOLD-clause-exact : goal.returns-then-len-gt-COMPACT_THRESHOLD-clause-exact
returns-then-len-gt-COMPACT_THRESHOLD-clause-exact c = rw (← c.self.view_is) (sym (wasteful_many _ _ (omega arith)))

pub returns-then-waste-gt-ALLOWED_WASTE-clause-exact : goal.returns-then-waste-gt-ALLOWED_WASTE-clause-exact
returns-then-waste-gt-ALLOWED_WASTE-clause-exact c = rw (← c.self.view_is) (much_wasted _ _ c.min-used.result c.saturating_sub-waste.result (omega arith) (rw (c.min-used.ensures, c.total.ensures, c.saturating_sub-unread.ensures) refl) (rw (c.saturating_sub-waste.ensures, c.allocated-allocated.ensures) refl) c.if-waste-gt-ALLOWED_WASTE.true)

pub returns-else-waste-gt-ALLOWED_WASTE-clause-exact : goal.returns-else-waste-gt-ALLOWED_WASTE-clause-exact
returns-else-waste-gt-ALLOWED_WASTE-clause-exact c = rw (← c.self.view_is) (little_wasted _ _ c.min-used.result c.saturating_sub-waste.result (omega arith) (rw (c.min-used.ensures, c.total.ensures, c.saturating_sub-unread.ensures) refl) (rw (c.saturating_sub-waste.ensures, c.allocated-allocated.ensures) refl) c.if-waste-gt-ALLOWED_WASTE.false)

pub returns-then-allocated-le-ALLOWED_WASTE-clause-exact : goal.returns-then-allocated-le-ALLOWED_WASTE-clause-exact
returns-then-allocated-le-ALLOWED_WASTE-clause-exact c = rw (← c.self.view_is) (sym (little_wasteful _ _ (omega arith) (omega (arith, c.allocated-allocated.ensures))))
