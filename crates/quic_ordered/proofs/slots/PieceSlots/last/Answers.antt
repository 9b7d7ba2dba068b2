use Rattle.block_map.specs.Sorted.{KeyAndValue}
use Rattle.quic_ordered.proofs.Slotted.{slot_last}
use Rattle.quic_ordered.proofs.slots.PieceSlots.last.Goals as goal

pub piece_in-requires : goal.piece_in-requires
piece_in-requires c =
    let e : KeyAndValue = c.in-Some.entry in
    let rest = c.in-Some.ensures.some in
    c.self.invariant.held e.0 e.1 (slot_last c.self.inside.places.items rest.0 e c.self.invariant.rises rest.1)
