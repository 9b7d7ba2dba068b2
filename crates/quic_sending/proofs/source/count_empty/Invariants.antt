use Rattle.std.proofs.Common.{◌≡◌, ◌+◌, ◌-◌, ◌≤◌, length, drop}
use Rattle.quic_sending.specs.Source.{drop_empty}
use Rattle.quic_sending.proofs.source.count_empty.Given as goal

abbrev pub invariant-loop-count : goal.invariant-loop-count
invariant-loop-count l =
    record {
      within : l.from + l.count ≤ length l.chunks;
      same : drop_empty (drop l.from l.chunks) ≡ drop_empty (drop (l.from + l.count) l.chunks);
    }

abbrev pub decreases-loop-count : goal.decreases-loop-count
decreases-loop-count l = length l.chunks - (l.from + l.count)
