use Rattle.block_map.specs.Rows.{place_among}
use Rattle.block_map.proofs.Found.{first_start}
use Rattle.quic_ranges.specs.Runs.{Run}
use Rattle.quic_ranges.proofs.Placed.{none_before}
use Rattle.quic_ranges.proofs.range_set.first_run.Goals as goal

pub returns-clause-first : goal.returns-clause-first
returns-clause-first c = λ k lt.
    let rs = c.args.runs.now.items in
    let at = place_among c.args.runs.now.rows c.in_ok-first.first.block c.in_ok-first.first.index in
    let r : Run = c.entry-start.result in
    let h = c.in_ok-first.ensures in
    none_before rs c.args.n at k r c.requires.rises (first_start rs c.args.n at h.first h.some c.requires.above) c.entry-start.ensures lt
