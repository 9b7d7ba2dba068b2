use Rattle.std.proofs.Common.{arith}
use Rattle.quic_ranges.proofs.Placed.{end_at-insert}
use Rattle.quic_ranges.proofs.range_set.keep_right.Goals as goal

pub returns-in_ok-reserve-clause-before : goal.returns-in_ok-reserve-clause-before
returns-in_ok-reserve-clause-before c = λ q lt. rw (c.insert.ensures.items, c.reserve.ensures.items) (end_at-insert q c.args.start c.args.end c.args.runs.now.items (λ e. omega (arith, e, lt)))
