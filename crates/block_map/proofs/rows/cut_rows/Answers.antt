use Rattle.std.proofs.Common.{◌≡◌, ◌+◌, ◌<◌, [], length, ap, ◌∙◌}
use Rattle.std.specs.Prelude.{slice_index_or}
use Rattle.std.specs.List.{remove_range}
use Rattle.block_map.specs.Rows.{flat}
use Rattle.block_map.proofs.Runs.{cuts_rows, front_fits}
use Rattle.block_map.proofs.Flat.{same_at}
use Rattle.block_map.proofs.rows.cut_rows.Goals as goal

pub returns-clause-items : goal.returns-clause-items
returns-clause-items c =
    let rows = c.args.blocks.now.items in
    let b = c.args.block in
    let i = c.args.index in
    let place = c.requires.place in
    let less = c.requires.order in
    let fits = c.requires.fits in
    let left = c.drop_rows.new.blocks.items in
    let e : left ≡ remove_range rows (b + 1) c.args.to = c.drop_rows.ensures in
    let inside = front_fits rows b i c.args.to place less fits in
    let lt : b < length left = rw (← e) at inside in
    let len : c.len-len.result ≡ length (slice_index_or left b []) = c.len-len.ensures.len ∙ ap length (c.index.ensures ∙ same_at left b c.index.result.now [] lt) in
    let h = c.cut_row.ensures.items in
    cuts_rows rows b i c.args.to place less fits c.len-len.result (flat c.cut_row.new.blocks.items) (rw e at len) (rw e at h)
