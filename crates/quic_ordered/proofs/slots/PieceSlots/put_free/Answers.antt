use Rattle.std.proofs.Common.{inl, inr, arith, ◌≡◌, ◌-◌, ℕ, sym, ap, ◌∙◌, None, List}
use Rattle.block_map.specs.Sorted.{KeyAndValue}
use Rattle.block_map.specs.Rows.{place_among}
use Rattle.std.specs.BTreeMap.{insert_entry}
use Rattle.std.specs.Ordering.{nat_cmp}
use Rattle.quic_assembler.specs.Piece.{PieceView, run_end}
use Rattle.quic_ordered.specs.Entries.{piece_at, IsFreeFor}
use Rattle.quic_ordered.specs.Slotted.{in_slots, slot_at}
use Rattle.quic_ordered.proofs.Slotted.{moved_slots, moved_in, put_slots, put_in, rises_in, held_here, last_piece, none_up_to, none_since, none_found}
use Rattle.quic_ordered.proofs.slots.PieceSlots.put_free.Goals.{in-Some+else-offset-start+else-offset-end, in_default}
use Rattle.quic_ordered.proofs.slots.PieceSlots.put_free.Goals as goal

pub piece_in-requires : goal.piece_in-requires
piece_in-requires c =
    let at = place_among c.self.inside.places.rows c.in-Some.place.block c.in-Some.place.index in
    let e : KeyAndValue = c.entry-start.result in
    held_here c.self.inside.places.items c.self.inside.pieces at e c.self.invariant c.in-Some.ensures.last.fits c.entry-start.ensures

pub returns-then-offset-start-clause-last : goal.returns-then-offset-start-clause-last
returns-then-offset-start-clause-last c =
    let at = place_among c.self.inside.places.rows c.in-Some.place.block c.in-Some.place.index in
    let e : KeyAndValue = c.entry-start.result in
    let n : c.end.result - 1 ≡ run_end c.args.piece - 1 = omega (arith, c.end.ensures.value) in
    let l = last_piece c.self.inside.pieces c.self.inside.places.items (c.end.result - 1) at e c.piece_in.result.now c.end-end.result c.self.invariant.rises c.in-Some.ensures.last c.entry-start.ensures c.piece_in.ensures c.end-end.ensures.value in
    rw (← c.self.view_is, ← n) l

pub returns-then-offset-start-clause-rises : goal.returns-then-offset-start-clause-rises
returns-then-offset-start-clause-rises c = rw (← c.self.view_is) (rises_in c.self.inside.pieces c.self.inside.places.items c.self.invariant.rises)

pub returns-in-Ok-clause-free : goal.returns-in-Ok-clause-free
returns-in-Ok-clause-free c =
    let s = c.self.inside.pieces in
    let es = c.self.inside.places.items in
    let n : c.end.result - 1 ≡ run_end c.args.piece - 1 = omega (arith, c.end.ensures.value) in
    let free : IsFreeFor (in_slots s es) c.args.piece =
    elim c.match-last.branch [
      | in-Some+else-offset-start+else-offset-end w ↦
          let at = place_among c.self.inside.places.rows w.in-Some.place.block w.in-Some.place.index in
          let e : KeyAndValue = w.entry-start.result in
          let l = last_piece s es (c.end.result - 1) at e w.piece_in.result.now w.end-end.result c.self.invariant.rises w.in-Some.ensures.last w.entry-start.ensures w.piece_in.ensures w.end-end.ensures.value in
          inr (e.0, w.end-end.result, (rw n at l, omega (arith, w.if-offset-end.false, c.offset-offset.ensures.value)))
      | in_default w ↦ inl (rw n at (none_up_to s es (c.end.result - 1) w.in_default.ensures.none))
    ] in
    rw (← c.self.view_is) free

pub returns-in-Err-clause-free_err : goal.returns-in-Err-clause-free_err
returns-in-Err-clause-free_err c =
    let s = c.self.inside.pieces in
    let es = c.self.inside.places.items in
    let n : c.end.result - 1 ≡ run_end c.args.piece - 1 = omega (arith, c.end.ensures.value) in
    let free : IsFreeFor (in_slots s es) c.args.piece =
    elim c.match-last.branch [
      | in-Some+else-offset-start+else-offset-end w ↦
          let at = place_among c.self.inside.places.rows w.in-Some.place.block w.in-Some.place.index in
          let e : KeyAndValue = w.entry-start.result in
          let l = last_piece s es (c.end.result - 1) at e w.piece_in.result.now w.end-end.result c.self.invariant.rises w.in-Some.ensures.last w.entry-start.ensures w.piece_in.ensures w.end-end.ensures.value in
          inr (e.0, w.end-end.result, (rw n at l, omega (arith, w.if-offset-end.false, c.offset-offset.ensures.value)))
      | in_default w ↦ inl (rw n at (none_up_to s es (c.end.result - 1) w.in_default.ensures.none))
    ] in
    rw (← c.self.view_is) free

pub invariant_of-self : goal.invariant_of-self
invariant_of-self c =
    let s = c.self.inside.pieces in
    let es = c.self.inside.places.items in
    let some = c.requires in
    let o = c.offset-offset.ensures.value in
    let end = c.end.ensures.value in
    let none : slot_at es c.offset-offset.result ≡ None =
    elim c.match-last.branch [
      | in-Some+else-offset-start+else-offset-end w ↦
          let at = place_among c.self.inside.places.rows w.in-Some.place.block w.in-Some.place.index in
          let e : KeyAndValue = w.entry-start.result in
          let l = none_since s es (c.end.result - 1) at e c.self.invariant.rises w.in-Some.ensures.last w.entry-start.ensures in
          none_found s es c.offset-offset.result (l c.offset-offset.result (omega (arith, w.if-offset-start.false)) (omega (arith, o, end, some)))
      | in_default w ↦ none_found s es c.offset-offset.result (none_up_to s es (c.end.result - 1) w.in_default.ensures.none c.offset-offset.result (omega arith) (omega (arith, o, end, some)))
    ] in
    let room = c.make_room.ensures in
    put_slots c.make_room.new.places.items c.put_next.new.self.items c.make_room.new.pieces c.insert_reserved-slot.new.self c.offset-offset.result c.insert_reserved-slot.result c.args.piece
    (moved_slots es c.make_room.new.places.items s c.make_room.new.pieces room.items room.slots c.self.invariant)
    (ap (λ (xs : List KeyAndValue). slot_at xs c.offset-offset.result) room.items ∙ none)
    c.put_next.ensures c.len-count.ensures.rises c.insert_reserved-slot.ensures.was_vacant c.insert_reserved-slot.ensures.updates c.in-Ok.ensures.few

pub returns-in-Ok-clause-entries : goal.returns-in-Ok-clause-entries
returns-in-Ok-clause-entries c =
    let es = c.self.inside.places.items in
    let s = c.self.inside.pieces in
    let room = c.make_room.ensures in
    rw (← c.self.view_is)
    (put_in c.make_room.new.places.items c.put_next.new.self.items c.make_room.new.pieces c.insert_reserved-slot.new.self c.offset-offset.result c.insert_reserved-slot.result c.args.piece
    (moved_slots es c.make_room.new.places.items s c.make_room.new.pieces room.items room.slots c.self.invariant)
    c.put_next.ensures c.insert_reserved-slot.ensures.was_vacant c.insert_reserved-slot.ensures.updates
    ∙ (ap (λ (xs : List (ℕ × PieceView)). insert_entry nat_cmp xs c.offset-offset.result c.args.piece) (moved_in es c.make_room.new.places.items s c.make_room.new.pieces room.items room.slots)
    ∙ ap (λ (n : ℕ). insert_entry nat_cmp (in_slots s es) n c.args.piece) c.offset-offset.ensures.value))

pub returns-in-Ok-clause-rises : goal.returns-in-Ok-clause-rises
returns-in-Ok-clause-rises c = rises_in c.insert_reserved-slot.new.self c.put_next.new.self.items c.len-count.ensures.rises

pub returns-in-Err-clause-rises : goal.returns-in-Err-clause-rises
returns-in-Err-clause-rises c = rises_in c.make_room.new.pieces c.make_room.new.places.items c.len-left.ensures.rises

pub returns-in-Ok-clause-absent : goal.returns-in-Ok-clause-absent
returns-in-Ok-clause-absent c =
    let s = c.self.inside.pieces in
    let es = c.self.inside.places.items in
    let some = c.requires in
    let o = c.offset-offset.ensures.value in
    let end = c.end.ensures.value in
    let none : piece_at (in_slots s es) c.offset-offset.result ≡ None =
    elim c.match-last.branch [
      | in-Some+else-offset-start+else-offset-end w ↦
          let at = place_among c.self.inside.places.rows w.in-Some.place.block w.in-Some.place.index in
          let e : KeyAndValue = w.entry-start.result in
          let l = none_since s es (c.end.result - 1) at e c.self.invariant.rises w.in-Some.ensures.last w.entry-start.ensures in
          (l c.offset-offset.result (omega (arith, w.if-offset-start.false)) (omega (arith, o, end, some)))
      | in_default w ↦ (none_up_to s es (c.end.result - 1) w.in_default.ensures.none c.offset-offset.result (omega arith) (omega (arith, o, end, some)))
    ] in
    rw (← c.self.view_is) (ap (λ (n : ℕ). piece_at (in_slots s es) n) (sym o) ∙ none)
