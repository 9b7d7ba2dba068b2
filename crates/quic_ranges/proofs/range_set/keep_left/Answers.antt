use Rattle.std.proofs.Common.{arith}
use Rattle.block_map.specs.Rows.{place_among}
use Rattle.quic_ranges.proofs.Placed.{longer_at, end_at-insert}
use Rattle.quic_ranges.proofs.range_set.keep_left.Goals as goal

pub returns-in-Some-place_of-clause-ok : goal.returns-in-Some-place_of-clause-ok
returns-in-Some-place_of-clause-ok c =
    let h = c.in-Some-place_of.ensures in
    let is = longer_at c.args.runs.now.items c.set_value.new.self.items (place_among c.args.runs.now.rows c.in-Some-place_of.place.block c.in-Some-place_of.place.index) c.in-Some.start c.args.end h.rises h.fits h.key c.set_value.ensures.items in
    rw c.in-Some.is is

pub returns-in-Some-place_of-clause-others : goal.returns-in-Some-place_of-clause-others
returns-in-Some-place_of-clause-others c = λ q lt.
    let h = c.in-Some-place_of.ensures in
    let is = longer_at c.args.runs.now.items c.set_value.new.self.items (place_among c.args.runs.now.rows c.in-Some-place_of.place.block c.in-Some-place_of.place.index) c.in-Some.start c.args.end h.rises h.fits h.key c.set_value.ensures.items in
    let less = rw c.in-Some.is at lt in
    rw is (end_at-insert q c.in-Some.start c.args.end c.args.runs.now.items (λ e. omega (arith, e, less)))
