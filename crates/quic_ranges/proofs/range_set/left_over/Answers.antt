use Rattle.std.proofs.Common.{arith, inl}
use Rattle.quic_ranges.proofs.Order.{EndUpTo-last}
use Rattle.quic_ranges.proofs.range_set.left_over.Goals as goal

pub returns-else-last-n-clause-none : goal.returns-else-last-n-clause-none
returns-else-last-n-clause-none c =
    EndUpTo-last c.args.last c.args.end c.args.n c.args.runs.now.items c.requires.runs (record { found = c.requires.found; up_to = omega arith; last = λ q low high. absurd (omega arith) }) (inl (omega arith))
