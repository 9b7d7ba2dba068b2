use Rattle.std.proofs.Common.{rules, refl, arith}
use Rattle.quic_assembler.proofs.Whole.{keeps_fresh_at, assembler_fresh}
use Rattle.quic_assembler.proofs.assembly.HeapAssembler.hold.Goals as goal

pub invariant_of-self-2 : goal.invariant_of-self-2
invariant_of-self-2 c = assembler_fresh _ _ _ _ _ _ c.new-piece.result c.self.invariant c.if-self.false c.in_ok-hold_unreceived.ensures.ok c.in_ok-hold_unreceived.ensures.received

pub returns-clause-ok : goal.returns-clause-ok
returns-clause-ok c = rw (← c.self.view_is) (keeps_fresh_at _ _ c.new-piece.result _ _ _ (search rules) (search rules) (search rules) c.if-self.false refl refl (omega arith) c.in_ok-hold_unreceived.ensures.ok c.in_ok-hold_unreceived.ensures.received)
