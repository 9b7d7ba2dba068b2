use Rattle.quic_ordered.proofs.Slotted.{rises_in}
use Rattle.quic_ordered.proofs.slots.PieceSlots.len.Goals as goal

pub returns-clause-rises : goal.returns-clause-rises
returns-clause-rises c = rw (← c.self.view_is) (rises_in c.self.inside.pieces c.self.inside.places.items c.self.invariant.rises)
