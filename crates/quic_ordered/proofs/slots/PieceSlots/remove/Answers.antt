use Rattle.std.proofs.Common.{sym, ap, refl, ◌∙◌, List, Some}
use Rattle.block_map.specs.Sorted.{KeyAndValue}
use Rattle.quic_assembler.specs.Piece.{PieceView}
use Rattle.quic_ordered.specs.Slotted.{in_slots}
use Rattle.quic_ordered.proofs.Slotted.{left_slots, left_in, in_slot_is, rises_in, found_some, found_none, moved_slots, remove_none}
use Rattle.quic_ordered.proofs.slots.PieceSlots.remove.Goals as goal

pub invariant_of-self : goal.invariant_of-self
invariant_of-self c =
    left_slots c.self.inside.places.items c.remove-found.new.self.items c.self.inside.pieces c.remove.new.self c.args.offset c.in-Some.slot c.self.invariant (sym c.remove-found.ensures.value ∙ c.in-Some.is) c.remove-found.ensures.items c.len-count.ensures.rises c.remove.ensures.updates

pub invariant_of-self-in-None : goal.invariant_of-self-in-None
invariant_of-self-in-None c =
    let es = c.self.inside.places.items in
    let none = sym c.remove-found.ensures.value ∙ c.in-None.is in
    moved_slots es c.remove-found.new.self.items c.self.inside.pieces c.self.inside.pieces (c.remove-found.ensures.items ∙ remove_none es c.args.offset none) refl c.self.invariant

pub returns-in-Some-clause-value : goal.returns-in-Some-clause-value
returns-in-Some-clause-value c =
    let es = c.self.inside.places.items in
    let s = c.self.inside.pieces in
    rw (← c.self.view_is) (sym (found_some s es c.args.offset c.in-Some.slot (sym c.remove-found.ensures.value ∙ c.in-Some.is) ∙ ap (λ (v : PieceView). Some v) (in_slot_is s c.in-Some.slot c.remove.result c.remove.ensures.value)))

pub returns-in-Some-clause-entries : goal.returns-in-Some-clause-entries
returns-in-Some-clause-entries c =
    rw (← c.self.view_is) (left_in c.self.inside.places.items c.remove-found.new.self.items c.self.inside.pieces c.remove.new.self c.args.offset c.in-Some.slot c.self.invariant (sym c.remove-found.ensures.value ∙ c.in-Some.is) c.remove-found.ensures.items c.len-count.ensures.rises c.remove.ensures.updates)

pub returns-in-Some-clause-rises : goal.returns-in-Some-clause-rises
returns-in-Some-clause-rises c = rises_in c.remove.new.self c.remove-found.new.self.items c.len-count.ensures.rises

pub returns-in-None-clause-value : goal.returns-in-None-clause-value
returns-in-None-clause-value c = rw (← c.self.view_is) (sym (found_none c.self.inside.pieces c.self.inside.places.items c.args.offset (sym c.remove-found.ensures.value ∙ c.in-None.is)))

pub returns-in-None-clause-entries : goal.returns-in-None-clause-entries
returns-in-None-clause-entries c =
    let es = c.self.inside.places.items in
    let s = c.self.inside.pieces in
    let none = sym c.remove-found.ensures.value ∙ c.in-None.is in
    rw (← c.self.view_is) (ap (λ (xs : List KeyAndValue). in_slots s xs) (c.remove-found.ensures.items ∙ remove_none es c.args.offset none) ∙ sym (remove_none (in_slots s es) c.args.offset (found_none s es c.args.offset none)))

pub returns-in-None-clause-rises : goal.returns-in-None-clause-rises
returns-in-None-clause-rises c = rises_in c.self.inside.pieces c.remove-found.new.self.items c.len-count.ensures.rises
