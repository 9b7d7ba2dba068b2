use Rattle.std.proofs.Common.{sym, ap, ◌∙◌, Some}
use Rattle.block_map.specs.Sorted.{KeyAndValue}
use Rattle.block_map.specs.Rows.{place_among}
use Rattle.quic_assembler.specs.Piece.{PieceView}
use Rattle.quic_ordered.specs.Slotted.{in_slots}
use Rattle.quic_ordered.proofs.Slotted.{left_slots, left_in, in_slot_is, rises_in, found_some, found_none, remove_none}
use Rattle.quic_ordered.proofs.Nearby.{slot_near, out_near}
use Rattle.quic_ordered.proofs.slots.PieceSlots.remove_near.Goals as goal

pub remove-requires : goal.remove-requires
remove-requires c =
    let es = c.self.inside.places.items in
    let at = place_among c.self.inside.places.rows c.in-Some.place.block c.in-Some.place.index in
    let e : KeyAndValue = c.remove_at-entry.result in
    let a = c.self.invariant in
    a.held c.args.offset e.1 (slot_near es at c.args.offset e a.rises c.in-Some.ensures.fits c.in-Some.ensures.key c.remove_at-entry.ensures.value)

pub invariant_of-self : goal.invariant_of-self
invariant_of-self c =
    let es = c.self.inside.places.items in
    let es' = c.remove_at-entry.new.self.items in
    let at = place_among c.self.inside.places.rows c.in-Some.place.block c.in-Some.place.index in
    let e : KeyAndValue = c.remove_at-entry.result in
    let a = c.self.invariant in
    let fits = c.in-Some.ensures.fits in
    let key = c.in-Some.ensures.key in
    left_slots es es' c.self.inside.pieces c.remove.new.self c.args.offset e.1 a (slot_near es at c.args.offset e a.rises fits key c.remove_at-entry.ensures.value)
    (out_near es es' at c.args.offset a.rises fits key c.remove_at-entry.ensures.items) c.len-left.ensures.rises c.remove.ensures.updates

pub returns-in-Some-clause-value : goal.returns-in-Some-clause-value
returns-in-Some-clause-value c =
    let es = c.self.inside.places.items in
    let s = c.self.inside.pieces in
    let at = place_among c.self.inside.places.rows c.in-Some.place.block c.in-Some.place.index in
    let e : KeyAndValue = c.remove_at-entry.result in
    let found = slot_near es at c.args.offset e c.self.invariant.rises c.in-Some.ensures.fits c.in-Some.ensures.key c.remove_at-entry.ensures.value in
    rw (← c.self.view_is) (sym (found_some s es c.args.offset e.1 found ∙ ap (λ (v : PieceView). Some v) (in_slot_is s e.1 c.remove.result c.remove.ensures.value)))

pub returns-in-Some-clause-entries : goal.returns-in-Some-clause-entries
returns-in-Some-clause-entries c =
    let es = c.self.inside.places.items in
    let es' = c.remove_at-entry.new.self.items in
    let at = place_among c.self.inside.places.rows c.in-Some.place.block c.in-Some.place.index in
    let e : KeyAndValue = c.remove_at-entry.result in
    let a = c.self.invariant in
    let fits = c.in-Some.ensures.fits in
    let key = c.in-Some.ensures.key in
    rw (← c.self.view_is)
    (left_in es es' c.self.inside.pieces c.remove.new.self c.args.offset e.1 a (slot_near es at c.args.offset e a.rises fits key c.remove_at-entry.ensures.value)
    (out_near es es' at c.args.offset a.rises fits key c.remove_at-entry.ensures.items) c.len-left.ensures.rises c.remove.ensures.updates)

pub returns-in-Some-clause-rises : goal.returns-in-Some-clause-rises
returns-in-Some-clause-rises c = rises_in c.remove.new.self c.remove_at-entry.new.self.items c.len-left.ensures.rises

pub returns-in-None-clause-value : goal.returns-in-None-clause-value
returns-in-None-clause-value c = rw (← c.self.view_is) (sym (found_none c.self.inside.pieces c.self.inside.places.items c.args.offset c.in-None.ensures.none))

pub returns-in-None-clause-entries : goal.returns-in-None-clause-entries
returns-in-None-clause-entries c =
    let es = c.self.inside.places.items in
    let s = c.self.inside.pieces in
    rw (← c.self.view_is) (sym (remove_none (in_slots s es) c.args.offset (found_none s es c.args.offset c.in-None.ensures.none)))

pub returns-in-None-clause-rises : goal.returns-in-None-clause-rises
returns-in-None-clause-rises c = rw (← c.self.view_is) (rises_in c.self.inside.pieces c.self.inside.places.items c.self.invariant.rises)
