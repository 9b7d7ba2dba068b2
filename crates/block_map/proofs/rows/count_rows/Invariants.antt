use Rattle.std.proofs.Common.{◌+◌, ◌≡◌}
use Rattle.block_map.specs.Rows.{place_among}
use Rattle.block_map.proofs.rows.count_rows.Given as goal

abbrev pub invariant-loop-block : goal.invariant-loop-block
invariant-loop-block l = place_among l.blocks l.from 0 + l.count ≡ place_among l.blocks l.block 0
