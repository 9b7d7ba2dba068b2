use Rattle.std.proofs.Common.{ℕ, arith}
use Rattle.block_map.specs.Rows.{place_among}
use Rattle.block_map.proofs.Found.{first_next}
use Rattle.quic_ranges.specs.Runs.{Run, NoneBegins}
use Rattle.quic_ranges.proofs.Placed.{key_is, end_at-place, none_before, none_past, for_none}
use Rattle.quic_ranges.proofs.range_set.next_run.Goals as goal

pub returns-in_err-next-clause-none : goal.returns-in_err-next-clause-none
returns-in_err-next-clause-none c =
    let here = place_among c.args.runs.now.rows c.args.place.block c.args.place.index in
    let none : (k : ℕ) → NoneBegins c.args.runs.now.items c.args.n k = λ k. none_past c.args.runs.now.items c.args.n k here c.requires.rises c.in_err-next.ensures.none c.requires.before in
    for_none _ none

pub returns-clause-found : goal.returns-clause-found
returns-clause-found c =
    let rs = c.args.runs.now.items in
    let at = place_among c.args.runs.now.rows c.in_ok-next.next.block c.in_ok-next.next.index in
    let r : Run = c.entry-start.result in
    let h = c.in_ok-next.ensures in
    let here = place_among c.args.runs.now.rows c.args.place.block c.args.place.index in
    let first = first_next rs c.args.n here at h.next (omega (arith, h.next, h.fits)) c.requires.rises c.requires.last c.requires.before in
    end_at-place rs at r c.requires.rises first.fits c.entry-start.ensures

pub returns-clause-from : goal.returns-clause-from
returns-clause-from c =
    let rs = c.args.runs.now.items in
    let at = place_among c.args.runs.now.rows c.in_ok-next.next.block c.in_ok-next.next.index in
    let r : Run = c.entry-start.result in
    let h = c.in_ok-next.ensures in
    let here = place_among c.args.runs.now.rows c.args.place.block c.args.place.index in
    let first = first_next rs c.args.n here at h.next (omega (arith, h.next, h.fits)) c.requires.rises c.requires.last c.requires.before in
    let f = first.from r in
    let e = key_is rs at r c.entry-start.ensures r in
    omega (arith, f, e)

pub returns-clause-first : goal.returns-clause-first
returns-clause-first c = λ k lt.
    let rs = c.args.runs.now.items in
    let at = place_among c.args.runs.now.rows c.in_ok-next.next.block c.in_ok-next.next.index in
    let r : Run = c.entry-start.result in
    let h = c.in_ok-next.ensures in
    let here = place_among c.args.runs.now.rows c.args.place.block c.args.place.index in
    let first = first_next rs c.args.n here at h.next (omega (arith, h.next, h.fits)) c.requires.rises c.requires.last c.requires.before in
    none_before rs c.args.n at k r c.requires.rises first c.entry-start.ensures lt
