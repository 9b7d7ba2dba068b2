use Rattle.std.proofs.Common.{◌≡◌}
use Rattle.stream_cases.proofs.reassembly.insert_bytes.Given as goal

abbrev pub invariant-loop-index : goal.invariant-loop-index
invariant-loop-index l = l.assembler.ordered ≡ l.fn.assembler.ordered
