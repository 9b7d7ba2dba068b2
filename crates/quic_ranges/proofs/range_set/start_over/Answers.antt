use Rattle.std.proofs.Common.{arith, inl, inr}
use Rattle.quic_ranges.proofs.Order.{EndUpTo-last}
use Rattle.quic_ranges.proofs.range_set.start_over.Goals as goal

pub returns-in_default-clause-none : goal.returns-in_default-clause-none
returns-in_default-clause-none c = EndUpTo-last c.in-Some.start c.in-Some.end c.args.n c.args.runs.now.items c.requires c.in-Some.ensures.found (inr (omega arith))

pub returns-in_default-2-clause-none : goal.returns-in_default-2-clause-none
returns-in_default-2-clause-none c = EndUpTo-last c.in-Some.start c.in-Some.end c.args.n c.args.runs.now.items c.requires c.in-Some.ensures.found (inl (omega arith))
