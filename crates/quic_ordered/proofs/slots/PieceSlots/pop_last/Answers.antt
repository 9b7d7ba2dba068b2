use Rattle.std.proofs.Common.{ℕ, sym, ap, ◌∙◌, List, [], ◌∷◌, ◌++◌}
use Rattle.block_map.specs.Sorted.{KeyAndValue}
use Rattle.block_map.specs.Rows.{place_among}
use Rattle.quic_assembler.specs.Piece.{PieceView}
use Rattle.quic_ordered.specs.Slotted.{in_slots}
use Rattle.quic_ordered.proofs.Slotted.{last_out, left_slots, left_same, in_slot_is, rises_in, in_push}
use Rattle.quic_ordered.proofs.slots.PieceSlots.pop_last.Goals as goal

pub remove-requires : goal.remove-requires
remove-requires c =
    let es = c.self.inside.places.items in
    let at = place_among c.self.inside.places.rows c.in-Some.place.block c.in-Some.place.index in
    let e : KeyAndValue = c.remove_at-entry.result in
    c.self.invariant.held e.0 e.1 (last_out es c.remove_at-entry.new.self.items at e c.self.invariant.rises c.in-Some.ensures.last c.remove_at-entry.ensures.value c.remove_at-entry.ensures.items).0

pub invariant_of-self : goal.invariant_of-self
invariant_of-self c =
    let es = c.self.inside.places.items in
    let at = place_among c.self.inside.places.rows c.in-Some.place.block c.in-Some.place.index in
    let e : KeyAndValue = c.remove_at-entry.result in
    let es' = c.remove_at-entry.new.self.items in
    let out = last_out es es' at e c.self.invariant.rises c.in-Some.ensures.last c.remove_at-entry.ensures.value c.remove_at-entry.ensures.items in
    left_slots es es' c.self.inside.pieces c.remove.new.self e.0 e.1 c.self.invariant out.0 out.1.0 c.len-left.ensures.rises c.remove.ensures.updates

pub returns-in-Some-clause-some : goal.returns-in-Some-clause-some
returns-in-Some-clause-some c =
    let es = c.self.inside.places.items in
    let s = c.self.inside.pieces in
    let at = place_among c.self.inside.places.rows c.in-Some.place.block c.in-Some.place.index in
    let e : KeyAndValue = c.remove_at-entry.result in
    let es' = c.remove_at-entry.new.self.items in
    let out = last_out es es' at e c.self.invariant.rises c.in-Some.ensures.last c.remove_at-entry.ensures.value c.remove_at-entry.ensures.items in
    rw (← c.self.view_is) (
      e.0,
      ap (λ (xs : List KeyAndValue). in_slots s xs) out.1.1
          ∙ (in_push s es' e
          ∙ (ap (λ (v : PieceView). in_slots s es' ++ (e.0, v) ∷ []) (in_slot_is s e.1 c.remove.result c.remove.ensures.value)
          ∙ ap (λ (xs : List (ℕ × PieceView)). xs ++ (e.0, c.remove.result) ∷ []) (sym (left_same es es' s c.remove.new.self e.0 e.1 c.self.invariant out.0 out.1.0 c.len-left.ensures.rises c.remove.ensures.updates)))),
    )

pub returns-in-Some-clause-rises : goal.returns-in-Some-clause-rises
returns-in-Some-clause-rises c = rises_in c.remove.new.self c.remove_at-entry.new.self.items c.len-left.ensures.rises

pub returns-in-None-clause-rises : goal.returns-in-None-clause-rises
returns-in-None-clause-rises c = rw (← c.self.view_is) (rises_in c.self.inside.pieces c.self.inside.places.items c.self.invariant.rises)
