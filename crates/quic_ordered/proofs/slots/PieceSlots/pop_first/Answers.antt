use Rattle.std.proofs.Common.{◌≡◌, ℕ, sym, ap, subst, ◌∙◌, List, ◌∷◌, ◌++◌, Option}
use Rattle.block_map.specs.Sorted.{KeyAndValue}
use Rattle.quic_assembler.specs.Piece.{PieceView}
use Rattle.std.specs.Prelude.{option_to_list}
use Rattle.quic_ordered.proofs.Slotted.{first_out, left_slots, left_same, in_slot_is, rises_in}
use Rattle.quic_ordered.specs.Slotted.{in_slots}
use Rattle.quic_ordered.proofs.slots.PieceSlots.pop_first.Goals as goal

pub remove-requires : goal.remove-requires
remove-requires c =
    let e : KeyAndValue = c.in-Some.entry in
    let es = c.self.inside.places.items in
    let es' = c.pop_first-first.new.self.items in
    let is = subst (λ (o : Option KeyAndValue). es ≡ option_to_list o ++ es') c.in-Some.is c.pop_first-first.ensures.popped in
    c.self.invariant.held e.0 e.1 (first_out es es' e is).0

pub invariant_of-self : goal.invariant_of-self
invariant_of-self c =
    let e : KeyAndValue = c.in-Some.entry in
    let es = c.self.inside.places.items in
    let es' = c.pop_first-first.new.self.items in
    let is = subst (λ (o : Option KeyAndValue). es ≡ option_to_list o ++ es') c.in-Some.is c.pop_first-first.ensures.popped in
    let out = first_out es es' e is in
    left_slots es es' c.self.inside.pieces c.remove.new.self e.0 e.1 c.self.invariant out.0 out.1 c.len-count.ensures.rises c.remove.ensures.updates

pub returns-in-Some-clause-some : goal.returns-in-Some-clause-some
returns-in-Some-clause-some c =
    let e : KeyAndValue = c.in-Some.entry in
    let es = c.self.inside.places.items in
    let es' = c.pop_first-first.new.self.items in
    let s = c.self.inside.pieces in
    let is = subst (λ (o : Option KeyAndValue). es ≡ option_to_list o ++ es') c.in-Some.is c.pop_first-first.ensures.popped in
    let out = first_out es es' e is in
    rw (← c.self.view_is) (
      e.0,
      ap (λ (xs : List KeyAndValue). in_slots s xs) is
          ∙ (ap (λ (v : PieceView). (e.0, v) ∷ in_slots s es') (in_slot_is s e.1 c.remove.result c.remove.ensures.value)
          ∙ ap (λ (xs : List (ℕ × PieceView)). (e.0, c.remove.result) ∷ xs) (sym (left_same es es' s c.remove.new.self e.0 e.1 c.self.invariant out.0 out.1 c.len-count.ensures.rises c.remove.ensures.updates))),
    )

pub returns-in-Some-clause-rises : goal.returns-in-Some-clause-rises
returns-in-Some-clause-rises c = rises_in c.remove.new.self c.pop_first-first.new.self.items c.len-count.ensures.rises

pub returns-in-None-clause-rises : goal.returns-in-None-clause-rises
returns-in-None-clause-rises c = rises_in c.self.inside.pieces c.pop_first-first.new.self.items c.len-count.ensures.rises
