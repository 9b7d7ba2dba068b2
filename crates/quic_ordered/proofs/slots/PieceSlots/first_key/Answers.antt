use Rattle.std.proofs.Common.{ap, List}
use Rattle.std.proofs.lemmas.Option.{IfSome_then}
use Rattle.block_map.specs.Sorted.{KeyAndValue}
use Rattle.quic_ordered.specs.Slotted.{in_slot, in_slots}
use Rattle.quic_ordered.proofs.slots.PieceSlots.first_key.Goals as goal

pub returns-clause-some : goal.returns-clause-some
returns-clause-some c =
    let s = c.self.inside.pieces in
    rw (← c.self.view_is) (IfSome_then c.first_key.result c.first_key.ensures.some (λ key rest. (in_slot s rest.0, in_slots s rest.1, ap (λ (xs : List KeyAndValue). in_slots s xs) rest.2)))
