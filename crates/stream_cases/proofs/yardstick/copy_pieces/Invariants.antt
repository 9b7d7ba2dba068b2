use Rattle.std.proofs.Common.{◌≡◌}
use Rattle.stream_cases.proofs.yardstick.copy_pieces.Given as goal

abbrev pub invariant-loop-offset : goal.invariant-loop-offset
invariant-loop-offset l = l.size ≡ 0 → l.seen.sum ≡ 0
