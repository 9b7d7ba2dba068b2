use Rattle.quic_ranges.proofs.Order.{lowest}
use Rattle.quic_ranges.proofs.range_set.RangeSet.min.Goals as goal

pub returns-in-Some-clause-found : goal.returns-in-Some-clause-found
returns-in-Some-clause-found c = rw (← c.self.view_is) (lowest c.self.inside.runs.items _ c.self.invariant c.in-Some.ensures.some).0

pub returns-in-Some-clause-lowest : goal.returns-in-Some-clause-lowest
returns-in-Some-clause-lowest c = rw (← c.self.view_is) (lowest c.self.inside.runs.items _ c.self.invariant c.in-Some.ensures.some).1
