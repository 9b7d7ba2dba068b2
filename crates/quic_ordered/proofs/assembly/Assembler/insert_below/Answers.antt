use Rattle.std.proofs.Common.{refl, rules, arith}
use Rattle.quic_assembler.proofs.Whole.{takes_compacted, takes_nothing, below_is_done, MatchInsert-kept, offsets_of_same}
use Rattle.quic_ordered.proofs.assembly.Assembler.insert_below.Goals as goal

pub returns-then-end-self-clause-kept : goal.returns-then-end-self-clause-kept
returns-then-end-self-clause-kept c = rw (← c.self.view_is) (takes_nothing _ _ _ _ refl refl (λ at w. below_is_done _ at (search rules) (omega arith)))

pub returns-clause-kept : goal.returns-clause-kept
returns-clause-kept c = MatchInsert-kept _ _ c.relieve.result c.relieve.ensures.kept (takes_compacted _ _ _ _ _ _ c.in_ok-hold_above.ensures.ok.held (offsets_of_same _ _ c.relieve.ensures.held))
