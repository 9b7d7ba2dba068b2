use Rattle.block_map.specs.Rows.{place_among}
use Rattle.quic_ordered.proofs.Slotted.{from_first, from_nothing}
use Rattle.quic_ordered.proofs.slots.PieceSlots.place_from.Goals as goal

pub returns-in-Some-clause-rest : goal.returns-in-Some-clause-rest
returns-in-Some-clause-rest c =
    let at = place_among c.self.inside.places.rows c.in-Some.place.block c.in-Some.place.index in
    rw (← c.self.view_is) (from_first c.self.inside.pieces c.self.inside.places.items c.args.n at c.self.invariant.rises c.in-Some.ensures.first)

pub returns-in-None-clause-rest : goal.returns-in-None-clause-rest
returns-in-None-clause-rest c = rw (← c.self.view_is) (from_nothing c.self.inside.pieces c.self.inside.places.items c.args.n c.in-None.ensures.none)
