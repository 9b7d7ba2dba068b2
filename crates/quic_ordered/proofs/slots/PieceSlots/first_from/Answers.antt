use Rattle.block_map.specs.Sorted.{KeyAndValue}
use Rattle.block_map.specs.Rows.{place_among}
use Rattle.quic_ordered.proofs.Slotted.{first_piece, none_from}
use Rattle.quic_ordered.proofs.slots.PieceSlots.first_from.Goals as goal

pub returns-in-Some-clause-found : goal.returns-in-Some-clause-found
returns-in-Some-clause-found c =
    let at = place_among c.self.inside.places.rows c.in-Some.place.block c.in-Some.place.index in
    let e : KeyAndValue = c.entry.result in
    rw (← c.self.view_is) (first_piece c.self.inside.pieces c.self.inside.places.items c.args.n at e c.self.invariant.rises c.in-Some.ensures.first c.entry.ensures)

pub returns-in-None-clause-none : goal.returns-in-None-clause-none
returns-in-None-clause-none c = rw (← c.self.view_is) (λ q from. none_from c.self.inside.pieces c.self.inside.places.items c.args.n q c.in-None.ensures.none from)
