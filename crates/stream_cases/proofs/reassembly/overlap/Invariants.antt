use Rattle.std.proofs.Common.{◌≡◌, ◌+◌, ◌<◌, ◌^◌, false}
use Rattle.stream_cases.proofs.reassembly.overlap.Given as goal

abbrev pub invariant-loop-place : goal.invariant-loop-place
invariant-loop-place l =
    record {
      mode : l.assembler.ordered ≡ false;
      before : l.before < 2 ^ 60 + 1047600;
    }
