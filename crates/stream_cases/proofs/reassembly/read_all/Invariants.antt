use Rattle.std.proofs.Common.{◌≡◌}
use Rattle.stream_cases.proofs.reassembly.read_all.Given as goal

abbrev pub invariant-reads : goal.invariant-reads
invariant-reads l = l.assembler.ordered ≡ l.ordered
