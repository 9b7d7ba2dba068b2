use Rattle.std.proofs.Common.{◌-◌}
use Rattle.stream_cases.proofs.sending.fill.Given as goal

abbrev pub decreases-loop-alloc : goal.decreases-loop-alloc
decreases-loop-alloc l = l.end - l.buffer.offset
