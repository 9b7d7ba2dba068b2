use Rattle.std.proofs.Common.{ℕ, ◌<◌, length, arith, sym}
use Rattle.std.specs.Prelude.{slice_index_or}
use Rattle.block_map.specs.Rows.{place_among}
use Rattle.block_map.proofs.Found.{below_last, first_here, first_next}
use Rattle.quic_ranges.specs.Runs.{Run}
use Rattle.quic_ranges.proofs.Entries.{end_at-bounds}
use Rattle.quic_ranges.proofs.Order.{inside, EndBefore-start, EndBefore-past}
use Rattle.quic_ranges.proofs.Placed.{key_is, is_last, none_up_to, before_none, for_none}
use Rattle.quic_ranges.proofs.range_set.start_of.Goals as goal

pub returns-in_default-clause-before : goal.returns-in_default-clause-before
returns-in_default-clause-before c =
    let rs = c.args.runs.now.items in
    before_none rs c.args.n (none_up_to rs c.args.n c.in_default.ensures.none)

pub returns-then-n-end-clause-up_to : goal.returns-then-n-end-clause-up_to
returns-then-n-end-clause-up_to c =
    let rs = c.args.runs.now.items in
    let at = place_among c.args.runs.now.rows c.in-Some.place.block c.in-Some.place.index in
    let r : Run = c.entry-start.result in
    let last = is_last rs c.args.n at r c.find.ensures.rises c.in-Some.ensures.last c.entry-start.ensures in
    last.up_to

pub returns-then-n-end-clause-before : goal.returns-then-n-end-clause-before
returns-then-n-end-clause-before c =
    let rs = c.args.runs.now.items in
    let at = place_among c.args.runs.now.rows c.in-Some.place.block c.in-Some.place.index in
    let r : Run = c.entry-start.result in
    let last = is_last rs c.args.n at r c.find.ensures.rises c.in-Some.ensures.last c.entry-start.ensures in
    EndBefore-start r.0 r.1 rs c.requires last.found

pub returns-then-n-end-clause-covered : goal.returns-then-n-end-clause-covered
returns-then-n-end-clause-covered c = λ k low high.
    let rs = c.args.runs.now.items in
    let at = place_among c.args.runs.now.rows c.in-Some.place.block c.in-Some.place.index in
    let r : Run = c.entry-start.result in
    let last = is_last rs c.args.n at r c.find.ensures.rises c.in-Some.ensures.last c.entry-start.ensures in
    let n = c.if-n-end.true in
    inside 0 r.0 r.1 k rs c.requires last.found low (omega (arith, n, high))

pub returns-then-n-end-clause-first : goal.returns-then-n-end-clause-first
returns-then-n-end-clause-first c =
    let rs = c.args.runs.now.items in
    let at = place_among c.args.runs.now.rows c.in-Some.place.block c.in-Some.place.index in
    let r : Run = c.entry-start.result in
    first_here rs r.0 at c.find.ensures.rises c.in-Some.ensures.last.fits (λ d. sym (key_is rs at r c.entry-start.ensures d))

pub returns-in_err-next-clause-none : goal.returns-in_err-next-clause-none
returns-in_err-next-clause-none c =
    let rs = c.args.runs.now.items in
    let at = place_among c.args.runs.now.rows c.in-Some.place.block c.in-Some.place.index in
    let r : Run = c.entry-start.result in
    let last = is_last rs c.args.n at r c.find.ensures.rises c.in-Some.ensures.last c.entry-start.ensures in
    let here : (d : Run) → (slice_index_or rs at d).0 < c.args.n = λ d.
    let e = key_is rs at r c.entry-start.ensures d in
    let b = end_at-bounds 0 r.0 r.1 rs c.requires last.found in
    let n = c.if-n-end.false in
    omega (arith, e, b.1, n) in
    let end = c.in_err-next.ensures.none in
    let below : (k : ℕ) (d : Run) → k < length rs → (slice_index_or rs k d).0 < c.args.n = λ k d lt. below_last rs c.args.n at c.find.ensures.rises c.in-Some.ensures.last.fits here k d (omega (arith, lt, end)) in
    for_none _ below

pub returns-clause-before : goal.returns-clause-before
returns-clause-before c =
    let rs = c.args.runs.now.items in
    let at = place_among c.args.runs.now.rows c.in-Some.place.block c.in-Some.place.index in
    let r : Run = c.entry-start.result in
    let last = is_last rs c.args.n at r c.find.ensures.rises c.in-Some.ensures.last c.entry-start.ensures in
    let n = c.if-n-end.false in
    EndBefore-past r.0 r.1 c.args.n rs c.requires last n

pub returns-clause-first : goal.returns-clause-first
returns-clause-first c =
    let rs = c.args.runs.now.items in
    let at = place_among c.args.runs.now.rows c.in-Some.place.block c.in-Some.place.index in
    let r : Run = c.entry-start.result in
    let last = is_last rs c.args.n at r c.find.ensures.rises c.in-Some.ensures.last c.entry-start.ensures in
    let here : (d : Run) → (slice_index_or rs at d).0 < c.args.n = λ d.
    let e = key_is rs at r c.entry-start.ensures d in
    let b = end_at-bounds 0 r.0 r.1 rs c.requires last.found in
    let n = c.if-n-end.false in
    omega (arith, e, b.1, n) in
    let h = c.in_ok-next.ensures in
    first_next rs c.args.n at (place_among c.args.runs.now.rows c.in_ok-next.next.block c.in_ok-next.next.index) h.next (omega (arith, h.next, h.fits)) c.find.ensures.rises c.in-Some.ensures.last here
