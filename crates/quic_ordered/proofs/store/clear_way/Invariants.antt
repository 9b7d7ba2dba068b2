use Rattle.std.proofs.Common.{◌≡◌, ◌++◌, length}
use Rattle.std.specs.Map.{values_of}
use Rattle.quic_ordered.specs.Rows.{IsStore, LieInOrder}
use Rattle.quic_ordered.proofs.store.clear_way.Given as goal

abbrev pub invariant-loop-offset : goal.invariant-loop-offset
invariant-loop-offset l = record {
  store : IsStore l.gaps l.row.runs;
  same : values_of l.gaps ++ l.row.runs ≡ values_of l.initial.gaps ++ l.initial.row.runs;
  kept : LieInOrder l.end l.initial.row.runs → (l.gaps ≡ l.initial.gaps) × (l.row.runs ≡ l.initial.row.runs);
}

abbrev pub decreases-loop-offset : goal.decreases-loop-offset
decreases-loop-offset l = length l.row.runs
