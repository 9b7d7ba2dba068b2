use Rattle.std.proofs.Common.{arith, refl}
use Rattle.std.proofs.lemmas.List.Sorted.{length_permutation}
use Rattle.quic_assembler.proofs.Runs.{KeepsFrom-refl, KeepsFrom-popped}
use Rattle.quic_assembler.proofs.Sums.{sheds_none, sheds_more}
use Rattle.quic_assembler.proofs.pieces.Pieces.drop_stale.Goals as goal

pub loop-self-init : goal.loop-self-init
loop-self-init c = record { kept = KeepsFrom-refl _ _; sheds = sheds_none _ _; len = omega arith }

pub loop-self-preserved : goal.loop-self-preserved
loop-self-preserved c = record {
  kept = KeepsFrom-popped _ _ _ _ c.pop_first.result c.loop-self.invariant.kept c.pop_first.ensures.popped (rw c.pop_first.ensures.first ((c.loop-self-test.ensures.value c.pop_first.result (c.loop-self-test.ensures.some refl)).0 refl));
  sheds = sheds_more _ _ _ _ c.pop_first.result c.loop-self.invariant.sheds c.pop_first.ensures.popped (rw c.pop_first.ensures.first ((c.loop-self-test.ensures.value c.pop_first.result (c.loop-self-test.ensures.some refl)).0 refl));
  len = omega (arith, length_permutation _ _ c.pop_first.ensures.popped);
}

pub loop-self-smaller : goal.loop-self-smaller
loop-self-smaller c = omega (arith, length_permutation _ _ c.pop_first.ensures.popped)
