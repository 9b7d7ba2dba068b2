use Rattle.std.proofs.Common.{rules, refl, arith}
use Rattle.quic_assembler.proofs.Whole.{holds_nothing, assembler_less, same_done}
use Rattle.quic_ordered.proofs.assembly.Assembler.clear.Goals as goal

pub invariant_of-self : goal.invariant_of-self
invariant_of-self c = record {
  whole = assembler_less _ _ _ _ _ c.self.invariant.whole (λ at. rw c.clear.ensures (omega arith));
  above = λ e. rw c.clear.ensures tt;
}

pub returns-clause-empty : goal.returns-clause-empty
returns-clause-empty c = holds_nothing _ (search rules)

pub returns-clause-done : goal.returns-clause-done
returns-clause-done c = rw (← c.self.view_is) (same_done _ _ refl refl refl)
