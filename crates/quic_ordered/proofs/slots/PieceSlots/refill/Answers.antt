use Rattle.std.proofs.Common.{refl}
use Rattle.quic_ordered.proofs.Slotted.{moved_slots, moved_in}
use Rattle.quic_ordered.proofs.slots.PieceSlots.refill.Goals as goal

pub invariant_of-self : goal.invariant_of-self
invariant_of-self c = moved_slots c.self.inside.places.items c.refill-done.new.self.items c.self.inside.pieces c.self.inside.pieces c.refill-done.ensures.items refl c.self.invariant

pub returns : goal.returns
returns c = rw (← c.self.view_is) (moved_in c.self.inside.places.items c.refill-done.new.self.items c.self.inside.pieces c.self.inside.pieces c.refill-done.ensures.items refl)
