use Rattle.std.proofs.Common.{sym, ap, ◌∙◌, Some}
use Rattle.block_map.specs.Sorted.{KeyAndValue}
use Rattle.block_map.specs.Rows.{place_among}
use Rattle.quic_assembler.specs.Piece.{PieceView}
use Rattle.quic_ordered.proofs.Slotted.{held_here, slot_here, found_some, last_low, none_since, none_up_to}
use Rattle.quic_ordered.proofs.slots.PieceSlots.last_up_to.Goals as goal

pub piece_in-requires : goal.piece_in-requires
piece_in-requires c =
    let at = place_among c.self.inside.places.rows c.in-Some.place.block c.in-Some.place.index in
    let e : KeyAndValue = c.entry-offset.result in
    held_here c.self.inside.places.items c.self.inside.pieces at e c.self.invariant c.in-Some.ensures.last.fits c.entry-offset.ensures

pub returns-in-Some-clause-found : goal.returns-in-Some-clause-found
returns-in-Some-clause-found c =
    let es = c.self.inside.places.items in
    let at = place_among c.self.inside.places.rows c.in-Some.place.block c.in-Some.place.index in
    let e : KeyAndValue = c.entry-offset.result in
    rw (← c.self.view_is) (found_some c.self.inside.pieces es e.0 e.1 (slot_here es at e c.self.invariant.rises c.in-Some.ensures.last.fits c.entry-offset.ensures) ∙ ap (λ (v : PieceView). Some v) (sym c.piece_in.ensures))

pub returns-in-Some-clause-up_to : goal.returns-in-Some-clause-up_to
returns-in-Some-clause-up_to c =
    let at = place_among c.self.inside.places.rows c.in-Some.place.block c.in-Some.place.index in
    let e : KeyAndValue = c.entry-offset.result in
    last_low c.self.inside.places.items c.args.n at e c.in-Some.ensures.last c.entry-offset.ensures

pub returns-in-Some-clause-last : goal.returns-in-Some-clause-last
returns-in-Some-clause-last c =
    let at = place_among c.self.inside.places.rows c.in-Some.place.block c.in-Some.place.index in
    let e : KeyAndValue = c.entry-offset.result in
    rw (← c.self.view_is) (none_since c.self.inside.pieces c.self.inside.places.items c.args.n at e c.self.invariant.rises c.in-Some.ensures.last c.entry-offset.ensures)

pub returns-in-None-clause-none : goal.returns-in-None-clause-none
returns-in-None-clause-none c = rw (← c.self.view_is) (none_up_to c.self.inside.pieces c.self.inside.places.items c.args.n c.in-None.ensures.none)
