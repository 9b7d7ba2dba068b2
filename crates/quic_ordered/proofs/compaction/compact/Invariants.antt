use Rattle.std.proofs.Common.{◌-◌, ◌^◌}
use Rattle.std.specs.Map.{values_of}
use Rattle.quic_ordered.specs.Rows.{RiseByKey}
use Rattle.quic_ordered.specs.Sweeping.{IsSwept}
use Rattle.quic_ordered.proofs.compaction.compact.Given as goal

abbrev pub invariant-loop-bytes : goal.invariant-loop-bytes
invariant-loop-bytes l = record {
  swept : IsSwept (values_of l.initial.pieces) l.last l.end l.pieces;
  rises : RiseByKey l.pieces;
}

abbrev pub decreases-loop-bytes : goal.decreases-loop-bytes
decreases-loop-bytes l = 2 ^ 62 - l.end
