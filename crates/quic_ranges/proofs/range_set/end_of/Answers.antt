use Rattle.std.proofs.Common.{arith}
use Rattle.block_map.specs.Rows.{place_among}
use Rattle.quic_ranges.specs.Runs.{Run}
use Rattle.quic_ranges.proofs.Order.{inside, EndBy-end, EndBy-past}
use Rattle.quic_ranges.proofs.Placed.{is_last, last_by_end}
use Rattle.quic_ranges.proofs.range_set.end_of.Goals as goal

pub returns-then-n-end-clause-ends : goal.returns-then-n-end-clause-ends
returns-then-n-end-clause-ends c =
    let rs = c.args.runs.now.items in
    let at = place_among c.args.runs.now.rows c.args.last.block c.args.last.index in
    let r : Run = c.entry-start.result in
    let last = is_last rs c.args.n at r c.requires.rises c.requires.last c.entry-start.ensures in
    EndBy-end r.0 r.1 c.args.n rs c.requires.runs last.found

pub returns-then-n-end-clause-covered : goal.returns-then-n-end-clause-covered
returns-then-n-end-clause-covered c = λ k low high.
    let rs = c.args.runs.now.items in
    let at = place_among c.args.runs.now.rows c.args.last.block c.args.last.index in
    let r : Run = c.entry-start.result in
    let last = is_last rs c.args.n at r c.requires.rises c.requires.last c.entry-start.ensures in
    inside 0 r.0 r.1 k rs c.requires.runs last.found (omega (arith, last.up_to, low)) high

pub returns-then-n-end-clause-last : goal.returns-then-n-end-clause-last
returns-then-n-end-clause-last c =
    let rs = c.args.runs.now.items in
    let at = place_among c.args.runs.now.rows c.args.last.block c.args.last.index in
    let r : Run = c.entry-start.result in
    last_by_end rs c.args.n at r c.requires.runs c.requires.rises c.requires.last c.entry-start.ensures

pub returns-else-n-end-clause-ends : goal.returns-else-n-end-clause-ends
returns-else-n-end-clause-ends c =
    let rs = c.args.runs.now.items in
    let at = place_among c.args.runs.now.rows c.args.last.block c.args.last.index in
    let r : Run = c.entry-start.result in
    let last = is_last rs c.args.n at r c.requires.rises c.requires.last c.entry-start.ensures in
    EndBy-past r.0 r.1 c.args.n rs c.requires.runs last c.if-n-end.false
