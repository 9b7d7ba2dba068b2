use Rattle.block_map.specs.Rows.{place_among}
use Rattle.quic_ranges.proofs.Placed.{is_last, none_up_to}
use Rattle.quic_ranges.proofs.range_set.last_up_to.Goals as goal

pub returns-in-Some-clause-found : goal.returns-in-Some-clause-found
returns-in-Some-clause-found c = is_last c.args.runs.now.items c.args.n (place_among c.args.runs.now.rows c.in-Some.place.block c.in-Some.place.index) c.entry.result c.find.ensures.rises c.in-Some.ensures.last c.entry.ensures

pub returns-in-None-clause-none : goal.returns-in-None-clause-none
returns-in-None-clause-none c = none_up_to c.args.runs.now.items c.args.n c.in-None.ensures.none
