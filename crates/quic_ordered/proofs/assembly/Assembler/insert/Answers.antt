use Rattle.quic_assembler.proofs.Whole.{takes_compacted, MatchInsert-kept, offsets_of_same}
use Rattle.quic_ordered.proofs.assembly.Assembler.insert.Goals as goal

pub returns-clause-kept : goal.returns-clause-kept
returns-clause-kept c = MatchInsert-kept _ _ c.relieve.result c.relieve.ensures.kept (takes_compacted _ _ _ _ _ _ c.in_ok-hold.ensures.ok.held (offsets_of_same _ _ c.relieve.ensures.held))
