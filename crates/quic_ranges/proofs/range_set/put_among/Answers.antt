use Rattle.std.proofs.Common.{arith, ◌∙◌}
use Rattle.quic_ranges.proofs.Entries.{joins}
use Rattle.quic_ranges.proofs.Order.{widened}
use Rattle.quic_ranges.proofs.range_set.put_among.Goals as goal

pub returns-clause-runs : goal.returns-clause-runs
returns-clause-runs c =
    let start = c.in-Some.ensures in
    let end = c.end_of-end.ensures in
    rw c.put_over.ensures (joins 0 c.in-Some.start c.end_of-end.result c.args.runs.now.items c.requires.runs (omega arith) (omega arith) start.before end.ends).runs

pub returns-clause-set : goal.returns-clause-set
returns-clause-set c = λ n.
    let rs = c.args.runs.now.items in
    let start = c.in-Some.ensures in
    let end = c.end_of-end.ensures in
    let h = joins 0 c.in-Some.start c.end_of-end.result rs c.requires.runs (omega arith) (omega arith) start.before end.ends in
    rw c.put_over.ensures (h.adds n ∙ widened rs c.in-Some.start c.end_of-end.result c.args.range.start c.args.range.end n start.up_to end.from start.covered end.covered)
