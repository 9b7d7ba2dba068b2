use Rattle.std.proofs.Common.{◌≡◌}
use Rattle.stream_cases.proofs.reassembly.insert_window.Given as goal

abbrev pub invariant-loop-place : goal.invariant-loop-place
invariant-loop-place l = l.assembler.ordered ≡ l.fn.assembler.ordered
