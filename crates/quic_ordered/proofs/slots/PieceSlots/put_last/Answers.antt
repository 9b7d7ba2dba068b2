use Rattle.std.proofs.Common.{ℕ, ◌≡◌, ◌<◌, sym, subst, ap, ◌∙◌, List}
use Rattle.std.specs.List.{All}
use Rattle.std.specs.Map.{keys_of}
use Rattle.slab.specs.Slab.{Slab}
use Rattle.block_map.specs.Sorted.{KeyAndValue}
use Rattle.quic_assembler.specs.Piece.{PieceView}
use Rattle.std.specs.BTreeMap.{insert_entry}
use Rattle.std.specs.Ordering.{nat_cmp}
use Rattle.quic_ordered.specs.Slotted.{in_slots, slot_at}
use Rattle.quic_ordered.proofs.Firsts.{insert_last, absent_last}
use Rattle.quic_ordered.proofs.Slotted.{keys_in, keys_below, moved_slots, moved_in, put_slots, put_in, none_found, rises_in}
use Rattle.quic_ordered.proofs.slots.PieceSlots.put_last.Goals as goal

-- all keys are below an offset, once there is room
below : (s : Slab PieceView) (es es' : List KeyAndValue) (p q : ℕ) → es' ≡ es → q ≡ p → All (λ (key : ℕ). key < p) (keys_of (in_slots s es)) → All (λ (key : ℕ). key < q) (keys_of es')
below s es es' p q same at h =
    let keys : keys_of (in_slots s es) ≡ keys_of es' = keys_in s es ∙ ap (λ (xs : List KeyAndValue). keys_of xs) (sym same) in
    subst (λ (n : ℕ). All (λ (key : ℕ). key < n) (keys_of es')) (sym at) (subst (λ (ks : List ℕ). All (λ (key : ℕ). key < p) ks) keys h)

pub put_last-requires-clause-above : goal.put_last-requires-clause-above
put_last-requires-clause-above c =
    keys_below c.make_room.new.places.items c.offset-offset.result
    (below c.self.inside.pieces c.self.inside.places.items c.make_room.new.places.items c.args.piece.offset c.offset-offset.result c.make_room.ensures.items c.offset-offset.ensures.value (rw (← c.self.view_is) at c.requires))

pub invariant_of-self : goal.invariant_of-self
invariant_of-self c =
    let es = c.self.inside.places.items in
    let room = c.make_room.ensures in
    let h = rw (← c.self.view_is) at c.requires in
    let all = below c.self.inside.pieces es c.make_room.new.places.items c.args.piece.offset c.offset-offset.result room.items c.offset-offset.ensures.value h in
    let none = none_found c.self.inside.pieces es c.args.piece.offset (absent_last (in_slots c.self.inside.pieces es) c.args.piece.offset h) in
    let absent = ap (λ (n : ℕ). slot_at es n) c.offset-offset.ensures.value ∙ none in
    put_slots c.make_room.new.places.items c.put_last.new.self.items c.make_room.new.pieces c.insert_reserved-slot.new.self c.offset-offset.result c.insert_reserved-slot.result c.args.piece
    (moved_slots es c.make_room.new.places.items c.self.inside.pieces c.make_room.new.pieces room.items room.slots c.self.invariant)
    (ap (λ (xs : List KeyAndValue). slot_at xs c.offset-offset.result) room.items ∙ absent)
    (c.put_last.ensures ∙ sym (insert_last c.make_room.new.places.items c.offset-offset.result c.insert_reserved-slot.result all))
    c.len-count.ensures.rises c.insert_reserved-slot.ensures.was_vacant c.insert_reserved-slot.ensures.updates c.in-Ok.ensures.few

pub returns-in-Ok-clause-entries : goal.returns-in-Ok-clause-entries
returns-in-Ok-clause-entries c =
    let es = c.self.inside.places.items in
    let s = c.self.inside.pieces in
    let room = c.make_room.ensures in
    let all = below s es c.make_room.new.places.items c.args.piece.offset c.offset-offset.result room.items c.offset-offset.ensures.value (rw (← c.self.view_is) at c.requires) in
    rw (← c.self.view_is)
    (put_in c.make_room.new.places.items c.put_last.new.self.items c.make_room.new.pieces c.insert_reserved-slot.new.self c.offset-offset.result c.insert_reserved-slot.result c.args.piece
    (moved_slots es c.make_room.new.places.items s c.make_room.new.pieces room.items room.slots c.self.invariant)
    (c.put_last.ensures ∙ sym (insert_last c.make_room.new.places.items c.offset-offset.result c.insert_reserved-slot.result all))
    c.insert_reserved-slot.ensures.was_vacant c.insert_reserved-slot.ensures.updates
    ∙ (ap (λ (xs : List (ℕ × PieceView)). insert_entry nat_cmp xs c.offset-offset.result c.args.piece) (moved_in es c.make_room.new.places.items s c.make_room.new.pieces room.items room.slots)
    ∙ ap (λ (n : ℕ). insert_entry nat_cmp (in_slots s es) n c.args.piece) c.offset-offset.ensures.value))

pub returns-in-Ok-clause-rises : goal.returns-in-Ok-clause-rises
returns-in-Ok-clause-rises c = rises_in c.insert_reserved-slot.new.self c.put_last.new.self.items c.len-count.ensures.rises

pub returns-in-Err-clause-rises : goal.returns-in-Err-clause-rises
returns-in-Err-clause-rises c = rises_in c.make_room.new.pieces c.make_room.new.places.items c.len-left.ensures.rises
