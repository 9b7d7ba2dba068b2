use Rattle.std.proofs.Common.{ℕ, ◌+◌, ◌-◌, ◌≤◌, ◌<◌, List, length}
use Rattle.std.specs.Prelude.{slice_index_or}
use Rattle.block_map.specs.Sorted.{KeyAndValue}
use Rattle.block_map.proofs.rows.are_full.Given as goal

abbrev pub invariant-loop-block : goal.invariant-loop-block
invariant-loop-block l = record {
  from : 1 ≤ l.block;
  full : (i : ℕ) (d e : List KeyAndValue) → i + 1 < l.block → i + 1 < length l.blocks → 64 < length (slice_index_or l.blocks i d) + length (slice_index_or l.blocks (i + 1) e);
}

abbrev pub decreases-loop-block : goal.decreases-loop-block
decreases-loop-block l = length l.blocks - l.block
