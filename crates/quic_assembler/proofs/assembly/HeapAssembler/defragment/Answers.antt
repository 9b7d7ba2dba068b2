use Rattle.std.proofs.Common.{refl}
use Rattle.quic_assembler.proofs.Whole.{assembler_less, same_but_held, compact_count, compact_offsets, compact_same, compact_once, compact_sums}
use Rattle.quic_assembler.proofs.assembly.HeapAssembler.defragment.Goals as goal

pub invariant_of-self : goal.invariant_of-self
invariant_of-self c = assembler_less _ _ _ _ _ c.self.invariant (compact_count c.compact.result _ _ c.compact.ensures.compacts c.compact.ensures.err)

pub returns-clause-held : goal.returns-clause-held
returns-clause-held c = rw (← c.self.view_is) (compact_offsets c.compact.result _ _ refl c.compact.ensures.compacts c.compact.ensures.err)

pub returns-clause-err : goal.returns-clause-err
returns-clause-err c = rw (← c.self.view_is) (compact_same c.compact.result _ _ refl c.compact.ensures.err)

pub returns-clause-others : goal.returns-clause-others
returns-clause-others c = rw (← c.self.view_is) (same_but_held _ _ refl refl refl refl)

pub returns-clause-once : goal.returns-clause-once
returns-clause-once c = compact_once c.compact.result _ _ c.compact.ensures.compacts

pub returns-clause-err_sums : goal.returns-clause-err_sums
returns-clause-err_sums c = rw (← c.self.view_is) (compact_sums c.compact.result _ _ c.compact.ensures.err)
