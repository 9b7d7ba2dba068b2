use Rattle.std.proofs.Common.{arith, ◌≡◌, ◌+◌, ◌<◌, ℕ, [], length, ap, ◌∙◌}
use Rattle.std.specs.Prelude.{slice_index_or}
use Rattle.std.specs.List.{remove_range}
use Rattle.block_map.specs.Rows.{flat, place_among}
use Rattle.block_map.proofs.Flat.{rows_ordered}
use Rattle.block_map.proofs.Runs.{joins_runs}
use Rattle.block_map.proofs.rows.cut_entries.Goals as goal

pub cut_row-requires-clause-order : goal.cut_row-requires-clause-order
cut_row-requires-clause-order c =
    let rows = c.args.blocks.now.items in
    let le = rows_ordered rows c.args.first.0 c.args.last.0 c.args.first.1 c.args.last.1 c.requires.first.0 c.requires.last c.requires.order in
    let e : c.args.first.0 ≡ c.args.last.0 = omega (arith, le) in
    let s = ap (λ (k : ℕ). place_among rows k c.args.last.1) e in
    let order = c.requires.order in
    omega (arith, s, order)

pub cut_row-requires-clause-fits : goal.cut_row-requires-clause-fits
cut_row-requires-clause-fits c =
    let rows = c.args.blocks.now.items in
    let le = rows_ordered rows c.args.first.0 c.args.last.0 c.args.first.1 c.args.last.1 c.requires.first.0 c.requires.last c.requires.order in
    let e : c.args.first.0 ≡ c.args.last.0 = omega (arith, le) in
    let s = ap (λ (k : ℕ). length (slice_index_or rows k [])) e in
    let inside = c.requires.last.1 in
    omega (arith, s, inside)

pub returns-then-first-last-clause-items : goal.returns-then-first-last-clause-items
returns-then-first-last-clause-items c =
    let rows = c.args.blocks.now.items in
    let le = rows_ordered rows c.args.first.0 c.args.last.0 c.args.first.1 c.args.last.1 c.requires.first.0 c.requires.last c.requires.order in
    let e : c.args.first.0 ≡ c.args.last.0 = omega (arith, le) in
    let s = ap (λ (k : ℕ). place_among rows k c.args.last.1) e in
    let to : place_among rows c.args.first.0 (c.args.last.1 + 1) ≡ place_among rows c.args.last.0 c.args.last.1 + 1 = omega (arith, s) in
    c.cut_row.ensures.items ∙ ap (λ (k : ℕ). remove_range (flat rows) (place_among rows c.args.first.0 c.args.first.1) k) to

pub returns-clause-items : goal.returns-clause-items
returns-clause-items c =
    let less : c.args.first.0 < c.args.last.0 = omega arith in
    joins_runs c.args.blocks.now.items c.cut_row-2.new.blocks.items (flat c.cut_rows.new.blocks.items) c.args.first.0 c.args.first.1 c.args.last.0 c.args.last.1 c.requires.first c.requires.last.0 less c.cut_row-2.ensures.before c.cut_row-2.ensures.items c.cut_rows.ensures.items
