use Rattle.quic_ranges.proofs.Order.{same_runs}
use Rattle.quic_ranges.proofs.range_set.same_set.Goals as goal

pub returns : goal.returns
returns c = same_runs 0
