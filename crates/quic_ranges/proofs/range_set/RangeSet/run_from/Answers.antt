use Rattle.std.proofs.Common.{◌≡◌, false, arith, ◌∙◌}
use Rattle.std.proofs.lemmas.Bool.{le-ltb}
use Rattle.block_map.specs.Rows.{place_among}
use Rattle.quic_ranges.specs.Runs.{Run, contains}
use Rattle.quic_ranges.proofs.Entries.{contains_last, contains_none, end_at-bounds}
use Rattle.quic_ranges.proofs.Order.{inside, outside}
use Rattle.quic_ranges.proofs.Placed.{key_is, is_last, none_up_to, run_found, gap_found, gap_none}
use Rattle.quic_ranges.proofs.range_set.RangeSet.run_from.Goals as goal

pub returns-in_default-clause-run : goal.returns-in_default-clause-run
returns-in_default-clause-run c = rw (← c.self.view_is) (run_found c.self.inside.runs.items c.first_run.result c.self.invariant c.first_run.ensures.found)

pub returns-in_default-clause-lowest : goal.returns-in_default-clause-lowest
returns-in_default-clause-lowest c =
    let rs = c.self.inside.runs.items in
    let out = contains_none 0 c.args.n rs c.self.invariant (none_up_to rs c.args.n c.in_default.ensures.none) in
    rw (← c.self.view_is) (gap_found rs c.args.n c.first_run.result c.self.invariant out c.first_run.ensures.first)

pub returns-in_default-clause-none : goal.returns-in_default-clause-none
returns-in_default-clause-none c =
    let rs = c.self.inside.runs.items in
    let out = contains_none 0 c.args.n rs c.self.invariant (none_up_to rs c.args.n c.in_default.ensures.none) in
    rw (← c.self.view_is) (gap_none rs c.args.n c.first_run.result c.self.invariant out c.first_run.ensures.none)

pub returns-then-n-end-clause-run : goal.returns-then-n-end-clause-run
returns-then-n-end-clause-run c =
    let rs = c.self.inside.runs.items in
    let at = place_among c.self.inside.runs.rows c.in-Some.place.block c.in-Some.place.index in
    let r : Run = c.entry-end.result in
    let last = is_last rs c.args.n at r c.find.ensures.rises c.in-Some.ensures.last c.entry-end.ensures in
    rw (← c.self.view_is)
    (record {
      some = c.if-n-end.true;
      inside = λ n from to. inside 0 r.0 r.1 n rs c.self.invariant last.found (omega (arith, last.up_to, from)) to;
      end = outside 0 r.0 r.1 rs c.self.invariant last.found;
    })

pub next_run-requires-clause-before : goal.next_run-requires-clause-before
next_run-requires-clause-before c = λ d.
    let rs = c.self.inside.runs.items in
    let at = place_among c.self.inside.runs.rows c.in-Some.place.block c.in-Some.place.index in
    let r : Run = c.entry-end.result in
    let last = is_last rs c.args.n at r c.find.ensures.rises c.in-Some.ensures.last c.entry-end.ensures in
    let e = key_is rs at r c.entry-end.ensures d in
    let b = end_at-bounds 0 r.0 r.1 rs c.self.invariant last.found in
    let n = c.if-n-end.false in
    omega (arith, e, b.1, n)

pub returns-clause-run : goal.returns-clause-run
returns-clause-run c = rw (← c.self.view_is) (run_found c.self.inside.runs.items c.next_run.result c.self.invariant c.next_run.ensures.found)

pub returns-clause-lowest : goal.returns-clause-lowest
returns-clause-lowest c =
    let rs = c.self.inside.runs.items in
    let at = place_among c.self.inside.runs.rows c.in-Some.place.block c.in-Some.place.index in
    let r : Run = c.entry-end.result in
    let last = is_last rs c.args.n at r c.find.ensures.rises c.in-Some.ensures.last c.entry-end.ensures in
    let out : contains rs c.args.n ≡ false = contains_last 0 r.0 r.1 c.args.n rs c.self.invariant last.found last.up_to last.last ∙ le-ltb c.args.n r.1 c.if-n-end.false in
    rw (← c.self.view_is) (gap_found rs c.args.n c.next_run.result c.self.invariant out c.next_run.ensures.first)

pub returns-clause-none : goal.returns-clause-none
returns-clause-none c =
    let rs = c.self.inside.runs.items in
    let at = place_among c.self.inside.runs.rows c.in-Some.place.block c.in-Some.place.index in
    let r : Run = c.entry-end.result in
    let last = is_last rs c.args.n at r c.find.ensures.rises c.in-Some.ensures.last c.entry-end.ensures in
    let out : contains rs c.args.n ≡ false = contains_last 0 r.0 r.1 c.args.n rs c.self.invariant last.found last.up_to last.last ∙ le-ltb c.args.n r.1 c.if-n-end.false in
    rw (← c.self.view_is) (gap_none rs c.args.n c.next_run.result c.self.invariant out c.next_run.ensures.none)
