use Rattle.std.proofs.Common.{◌-◌}
use Rattle.quic_sending.specs.Pieces.{IsBetween}
use Rattle.quic_sending.proofs.piece_queue.count_up_to.Given as goal

abbrev pub invariant-loop-low : goal.invariant-loop-low
invariant-loop-low l = IsBetween l.pieces.items l.offset l.low l.high

abbrev pub decreases-loop-low : goal.decreases-loop-low
decreases-loop-low l = l.high - l.low
