use Rattle.quic_ranges.proofs.Order.{nothing_in, empty_is}
use Rattle.quic_ranges.proofs.range_set.RangeSet.is_empty.Goals as goal

pub returns : goal.returns
returns c = rw (← c.self.view_is)
    (λ t n. nothing_in c.self.inside.runs.items n (c.is_empty.ensures.empty t), λ none. empty_is c.is_empty.result c.self.inside.runs.items c.self.invariant c.is_empty.ensures.some none)
