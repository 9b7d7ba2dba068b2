use Rattle.std.proofs.Common.{◌≡◌, false}
use Rattle.stream_cases.proofs.reassembly.pass_unordered.Given as goal

abbrev pub invariant-loop-base : goal.invariant-loop-base
invariant-loop-base l = l.assembler.ordered ≡ false
