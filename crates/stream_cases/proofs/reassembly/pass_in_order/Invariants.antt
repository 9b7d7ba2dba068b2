use Rattle.std.proofs.Common.{◌≡◌, true}
use Rattle.stream_cases.proofs.reassembly.pass_in_order.Given as goal

abbrev pub invariant-loop-offset : goal.invariant-loop-offset
invariant-loop-offset l =
    record {
      mode : l.assembler.ordered ≡ true;
      nothing : l.size ≡ 0 → l.seen.sum ≡ 0;
    }
