use Rattle.std.proofs.Common.{◌≡◌, take}
use Rattle.block_map.specs.Rows.{flat, HasSome, AreFull}
use Rattle.block_map.proofs.rows.joined.Given as goal

abbrev pub invariant-loop-block : goal.invariant-loop-block
invariant-loop-block l = record {
  items : flat l.rows.items ≡ flat (take l.block-index l.blocks);
  some : HasSome l.rows.items;
  full : AreFull l.rows.items;
}
