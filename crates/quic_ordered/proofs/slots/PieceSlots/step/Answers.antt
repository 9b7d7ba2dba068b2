use Rattle.std.proofs.Common.{ℕ, ◌+◌, sym, ap, ◌∙◌, List, ◌∷◌, length, arith, drop}
use Rattle.block_map.specs.Sorted.{KeyAndValue}
use Rattle.block_map.specs.Rows.{place_among}
use Rattle.quic_assembler.specs.Piece.{PieceView}
use Rattle.quic_ordered.specs.Slotted.{Slots, as_slots, from_place, in_slots}
use Rattle.quic_ordered.proofs.Slotted.{held_here, drop_place, next_fits, next_rest}
use Rattle.quic_ordered.proofs.slots.PieceSlots.step.Goals as goal

pub piece_in-requires : goal.piece_in-requires
piece_in-requires c =
    let es = c.self.inside.places.items in
    let at = place_among c.self.inside.places.rows c.in-Some.here.block c.in-Some.here.index in
    let e : KeyAndValue = c.entry-offset.result in
    held_here es c.self.inside.pieces at e c.self.invariant (next_fits c.next.result at (length es) c.next.ensures.fits c.next.ensures.none) c.entry-offset.ensures

pub returns-in-Some-clause-some : goal.returns-in-Some-clause-some
returns-in-Some-clause-some c =
    let es = c.self.inside.places.items in
    let s = c.self.inside.pieces in
    let at = place_among c.self.inside.places.rows c.in-Some.here.block c.in-Some.here.index in
    let e : KeyAndValue = c.entry-offset.result in
    let m : Slots = as_slots s es c.self.inside.places.rows in
    let fits = next_fits c.next.result at (length es) c.next.ensures.fits c.next.ensures.none in
    rw (← c.self.view_is)
    (ap (from_place m) c.in-Some.is
    ∙ (drop_place s es at (at + 1) e (omega arith) fits (c.entry-offset.ensures e)
    ∙ (ap (λ (v : PieceView). (e.0, v) ∷ drop (at + 1) (in_slots s es)) (sym c.piece_in.ensures)
    ∙ ap (λ (xs : List (ℕ × PieceView)). (e.0, c.piece_in.result.now) ∷ xs) (next_rest s es c.self.inside.places.rows at c.next.result c.next.ensures.next c.next.ensures.none))))
