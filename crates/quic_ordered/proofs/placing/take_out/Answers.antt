use Rattle.std.proofs.Common.{ℕ, List, ◌+◌, drop, get_or, arith, subst}
use Rattle.quic_ordered.specs.Entries.{IsPlaced}
use Rattle.quic_ordered.proofs.Placed.{placed_less, placed_all, rest_of, rest_none}
use Rattle.quic_ordered.proofs.placing.take_out.Goals as goal

pub loop-offset-init : goal.loop-offset-init
loop-offset-init c = record { rises = c.requires; placed = λ es p. p }

pub loop-offset-preserved : goal.loop-offset-preserved
loop-offset-preserved c = record {
  rises = c.remove.ensures.rises;
  placed = λ es p.
      let os = c.args.offsets.now in
      let i = c.loop-offset.offset-index in
      placed_less es c.loop-offset.pieces c.remove.new.self (get_or os i 0) (drop (i + 1) os)
      (subst (λ (xs : List ℕ). IsPlaced xs es c.loop-offset.pieces) (rest_of os i c.loop-offset-test.true) (c.loop-offset.invariant.placed es p)) c.remove.ensures.gone c.remove.ensures.others;
}

pub returns-clause-restores : goal.returns-clause-restores
returns-clause-restores c = λ es rises p.
    let last = c.loop-offset.invariant.placed es p in
    placed_all es c.loop-offset.pieces rises c.loop-offset.invariant.rises (subst (λ (os : List ℕ). IsPlaced os es c.loop-offset.pieces) (rest_none c.args.offsets.now c.loop-offset.offset-index (omega arith)) last)
