use Rattle.std.proofs.Common.{arith, sym}
use Rattle.quic_ranges.proofs.Entries.{without-none}
use Rattle.quic_ranges.proofs.range_set.clear_runs.Goals as goal

pub returns-else-from-last : goal.returns-else-from-last
returns-else-from-last c = sym (without-none c.args.runs.now.items c.args.from c.args.to (λ q low high. c.requires.last q (omega arith) high))
