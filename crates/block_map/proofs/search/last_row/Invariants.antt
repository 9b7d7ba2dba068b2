use Rattle.std.proofs.Common.{◌-◌, ◌+◌, ◌<◌, ◌≤◌, ℕ, List, length, slice_index_or}
use Rattle.block_map.specs.Sorted.{KeyAndValue}
use Rattle.block_map.specs.Rows.{first_key}
use Rattle.block_map.proofs.search.last_row.Given as goal

abbrev pub invariant-loop-size : goal.invariant-loop-size
invariant-loop-size l = record {
  some : 0 < l.size;
  fits : l.index + l.size ≤ length l.rows;
  up_to : (d : List KeyAndValue) → first_key (slice_index_or l.rows l.index d) ≤ l.n;
  above : (k : ℕ) (d : List KeyAndValue) → l.index + l.size ≤ k → k < length l.rows → l.n < first_key (slice_index_or l.rows k d);
}

abbrev pub decreases-loop-size : goal.decreases-loop-size
decreases-loop-size l = l.size - 1
