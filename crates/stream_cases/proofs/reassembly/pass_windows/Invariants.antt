use Rattle.std.proofs.Common.{◌≡◌, true}
use Rattle.stream_cases.proofs.reassembly.pass_windows.Given as goal

abbrev pub invariant-loop-base : goal.invariant-loop-base
invariant-loop-base l =
    record {
      mode : l.assembler.ordered ≡ true;
      nothing : l.size ≡ 0 → l.seen.sum ≡ 0;
    }
