use Rattle.std.proofs.Common.{List, ℕ, sym, subst, ◌∙◌}
use Rattle.quic_assembler.specs.Piece.{PieceView}
use Rattle.quic_ordered.specs.Rows.{IsSummedMap, RiseByKey}
use Rattle.quic_ordered.proofs.map.PieceMap.refill.Goals as goal

pub invariant_of-self : goal.invariant_of-self
invariant_of-self c = subst (λ (xs : List (ℕ × PieceView)). IsSummedMap c.self.inside.total c.self.inside.allocated xs) (sym c.refill.ensures) c.self.invariant

pub returns-clause-same : goal.returns-clause-same
returns-clause-same c = c.refill.ensures ∙ c.self.view_is

pub returns-clause-rises : goal.returns-clause-rises
returns-clause-rises c = subst RiseByKey (sym c.refill.ensures) c.self.invariant.rises
