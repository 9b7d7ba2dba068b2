use Rattle.std.proofs.Common.{arith, ◌-◌, ◌≡◌, ◌<◌, ℕ, false}
use Rattle.std.specs.Prelude.{nat_le}
use Rattle.std.proofs.lemmas.Bool.Decides.{nat_tests}
use Rattle.quic_ordered.proofs.Places.{none_encloses}
use Rattle.quic_ordered.proofs.row.PieceRow.encloses.Goals as goal

gt_of_test : (a b : ℕ) → nat_le a b ≡ false → b < a
gt_of_test a b h = grind (arith, nat_tests)

pub returns-clause-no : goal.returns-clause-no
returns-clause-no c = λ t offset some counted.
    let h = rw (← c.self.view_is) at c.requires.order in
    let f = rw (← c.self.view_is) at counted.fits in
    let below = rw (← c.self.view_is) at counted.below in
    let above = rw (← c.self.view_is) at counted.above in
    let short = gt_of_test c.args.end c.end.result t in
    rw (← c.self.view_is) (none_encloses c.self.inside.pieces.items (c.args.count - 1) offset c.args.end c.index.result.now h some (omega arith) c.index.ensures
    (λ k d lt. below k d (omega arith)) (λ k d more fits. above k d (omega arith) fits) (omega (arith, short, c.end.ensures.value)))
