use Rattle.quic_ordered.proofs.Totals.{empty_map}
use Rattle.quic_ordered.proofs.map.PieceMap.new.Goals as goal

pub invariant_of-result : goal.invariant_of-result
invariant_of-result c = empty_map c.new.result.entries c.new.ensures

pub returns-clause-rises : goal.returns-clause-rises
returns-clause-rises c = (empty_map c.new.result.entries c.new.ensures).rises
