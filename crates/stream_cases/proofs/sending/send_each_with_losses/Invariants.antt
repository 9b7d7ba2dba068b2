use Rattle.std.proofs.Common.{◌≡◌}
use Rattle.stream_cases.proofs.sending.send_each_with_losses.Given as goal

abbrev pub invariant-loop-start : goal.invariant-loop-start
invariant-loop-start l = l.size ≡ 0 → l.sum ≡ 0
