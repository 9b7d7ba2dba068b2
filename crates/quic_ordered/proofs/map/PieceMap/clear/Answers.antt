use Rattle.quic_ordered.proofs.Totals.{empty_map}
use Rattle.quic_ordered.proofs.map.PieceMap.clear.Goals as goal

pub invariant_of-self : goal.invariant_of-self
invariant_of-self c = empty_map c.clear.new.self.entries c.clear.ensures

pub returns-clause-rises : goal.returns-clause-rises
returns-clause-rises c = (empty_map c.clear.new.self.entries c.clear.ensures).rises
