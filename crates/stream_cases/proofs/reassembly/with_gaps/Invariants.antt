use Rattle.std.proofs.Common.{◌≡◌, ◌≤◌}
use Rattle.stream_cases.proofs.reassembly.with_gaps.Given as goal

abbrev pub invariant-loop-left : goal.invariant-loop-left
invariant-loop-left l =
    record {
      some : l.left ≤ l.size;
      nothing : l.size ≡ 0 → l.sum ≡ 0;
    }

abbrev pub decreases-loop-left : goal.decreases-loop-left
decreases-loop-left l = l.left
