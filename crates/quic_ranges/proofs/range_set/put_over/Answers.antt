use Rattle.std.proofs.Common.{List, length, arith, ap, ◌∙◌}
use Rattle.std.proofs.lemmas.List.{length-set}
use Rattle.block_map.specs.Rows.{place_among}
use Rattle.quic_ranges.specs.Runs.{Run}
use Rattle.quic_ranges.proofs.Placed.{fits_first, places_less, places_same, over_one, over_some}
use Rattle.quic_ranges.proofs.range_set.put_over.Goals as goal

pub set-requires-clause-fits : goal.set-requires-clause-fits
set-requires-clause-fits c =
    let rs = c.args.runs.now.items in
    let p = place_among c.args.runs.now.rows c.args.first.block c.args.first.index in
    let q = place_among c.args.runs.now.rows c.args.last.block c.args.last.index in
    let h = c.requires in
    fits_first rs c.args.start p h.rises h.first

pub next-requires : goal.next-requires
next-requires c = c.set.ensures.still c.args.first.block c.args.first.index c.requires.front

pub remove_run-requires-clause-last : goal.remove_run-requires-clause-last
remove_run-requires-clause-last c = c.set.ensures.still c.args.last.block c.args.last.index c.requires.back

pub remove_run-requires-clause-order : goal.remove_run-requires-clause-order
remove_run-requires-clause-order c =
    let rs = c.args.runs.now.items in
    let p = place_among c.args.runs.now.rows c.args.first.block c.args.first.index in
    let q = place_among c.args.runs.now.rows c.args.last.block c.args.last.index in
    let h = c.requires in
    let lt = places_less rs p q c.entry-low.result c.entry-high.result h.rises h.first.fits c.entry-low.ensures c.entry-high.ensures c.if-low-high.true in
    let front = c.set.ensures.places c.args.first.block c.args.first.index in
    let back = c.set.ensures.places c.args.last.block c.args.last.index in
    let next = c.in-Some.ensures.next in
    omega (arith, next, front, back, lt)

pub returns-in-Some : goal.returns-in-Some
returns-in-Some c =
    let rs = c.args.runs.now.items in
    let p = place_among c.args.runs.now.rows c.args.first.block c.args.first.index in
    let q = place_among c.args.runs.now.rows c.args.last.block c.args.last.index in
    let h = c.requires in
    let lt = places_less rs p q c.entry-low.result c.entry-high.result h.rises h.first.fits c.entry-low.ensures c.entry-high.ensures c.if-low-high.true in
    let front = c.set.ensures.places c.args.first.block c.args.first.index in
    let back = c.set.ensures.places c.args.last.block c.args.last.index in
    let next = c.in-Some.ensures.next in
    over_some rs c.set.new.self.items c.remove_run.new.self.items c.args.start c.args.end p q (place_among c.set.new.self.rows c.in-Some.next.block c.in-Some.next.index) (place_among c.set.new.self.rows c.args.last.block c.args.last.index) c.set.ensures.items (omega (arith, next, front)) back c.remove_run.ensures h.rises h.first h.last h.order

pub returns-in_default : goal.returns-in_default
returns-in_default c =
    let rs = c.args.runs.now.items in
    let p = place_among c.args.runs.now.rows c.args.first.block c.args.first.index in
    let q = place_among c.args.runs.now.rows c.args.last.block c.args.last.index in
    let h = c.requires in
    let lt = places_less rs p q c.entry-low.result c.entry-high.result h.rises h.first.fits c.entry-low.ensures c.entry-high.ensures c.if-low-high.true in
    let front = c.set.ensures.places c.args.first.block c.args.first.index in
    let back = c.set.ensures.places c.args.last.block c.args.last.index in
    let end = c.in_default.ensures.none in
    let n = ap (λ (xs : List Run). length xs) c.set.ensures.items ∙ length-set rs p (c.args.start, c.args.end) in
    let f = h.last.fits in
    absurd (omega (arith, end, n, front, f, lt))

pub returns-else-low-high : goal.returns-else-low-high
returns-else-low-high c =
    let rs = c.args.runs.now.items in
    let p = place_among c.args.runs.now.rows c.args.first.block c.args.first.index in
    let q = place_among c.args.runs.now.rows c.args.last.block c.args.last.index in
    let h = c.requires in
    let same = places_same rs p q c.entry-low.result c.entry-high.result h.rises h.order h.last.fits c.entry-low.ensures c.entry-high.ensures c.if-low-high.false in
    c.set.ensures.items ∙ over_one rs c.args.start c.args.end p q same h.rises h.first h.last
