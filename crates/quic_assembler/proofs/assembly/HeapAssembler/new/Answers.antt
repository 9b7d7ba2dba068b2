use Rattle.std.proofs.Common.{rules}
use Rattle.quic_assembler.proofs.Whole.{holds_nothing}
use Rattle.quic_assembler.proofs.assembly.HeapAssembler.new.Goals as goal

pub returns-clause-empty : goal.returns-clause-empty
returns-clause-empty c = holds_nothing _ (search rules)
