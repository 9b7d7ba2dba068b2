use Rattle.std.proofs.Common.{refl, arith}
use Rattle.quic_assembler.proofs.Whole.{assembler_fresh}
use Rattle.quic_ordered.specs.Entries.{piece_of}
use Rattle.quic_ordered.proofs.Assembling.{keeps_unreceived, true_not_false}
use Rattle.quic_ordered.proofs.assembly.Assembler.hold.Goals as goal

pub returns-clause-ok : goal.returns-clause-ok
returns-clause-ok c = rw (← c.self.view_is) (keeps_unreceived _ _ _ _ _ c.if-self.false refl refl (omega arith) c.in_ok-insert_unreceived.ensures.fresh c.in_ok-insert_unreceived.ensures.received c.in_ok-insert_unreceived.ensures.adds)

pub invariant_of-self-2 : goal.invariant_of-self-2
invariant_of-self-2 c = record {
  whole = assembler_fresh _ _ _ _ _ _ (piece_of c.args.offset c.args.bytes c.args.allocation_size) c.self.invariant.whole c.if-self.false c.in_ok-insert_unreceived.ensures.fresh c.in_ok-insert_unreceived.ensures.received;
  above = λ e. absurd (true_not_false c.self.inside.ordered e c.if-self.false);
}
