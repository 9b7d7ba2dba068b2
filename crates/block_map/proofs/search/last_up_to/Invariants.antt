use Rattle.std.proofs.Common.{◌-◌, ◌+◌, ◌<◌, ◌≤◌, ℕ, length, slice_index_or}
use Rattle.block_map.specs.Sorted.{KeyAndValue}
use Rattle.block_map.proofs.search.last_up_to.Given as goal

abbrev pub invariant-loop-size : goal.invariant-loop-size
invariant-loop-size l = record {
  some : 0 < l.size;
  fits : l.index + l.size ≤ length l.entries;
  up_to : (d : KeyAndValue) → (slice_index_or l.entries l.index d).0 ≤ l.n;
  above : (k : ℕ) (d : KeyAndValue) → l.index + l.size ≤ k → k < length l.entries → l.n < (slice_index_or l.entries k d).0;
}

abbrev pub decreases-loop-size : goal.decreases-loop-size
decreases-loop-size l = l.size - 1
