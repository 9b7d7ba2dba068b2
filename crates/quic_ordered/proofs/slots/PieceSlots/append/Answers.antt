use Rattle.std.proofs.Common.{ap, ◌∙◌, arith}
use Rattle.block_map.specs.Sorted.{KeyAndValue}
use Rattle.block_map.specs.Rows.{place_among}
use Rattle.quic_assembler.specs.Piece.{PieceView, run_end}
use Rattle.std.specs.BTreeMap.{is_at}
use Rattle.std.specs.Ordering.{nat_cmp}
use Rattle.std.specs.Map.{set_value}
use Rattle.quic_ordered.specs.Entries.{piece_of}
use Rattle.quic_ordered.specs.Rows.{joined_with}
use Rattle.quic_ordered.specs.Slotted.{in_slot, in_slots}
use Rattle.quic_ordered.proofs.Held.{some_is, none_some}
use Rattle.quic_ordered.proofs.Firsts.{on_ok}
use Rattle.quic_ordered.proofs.Nearby.{slot_near}
use Rattle.quic_ordered.proofs.Slotted.{set_in, rises_in, found_some, found_none, if_ok}
use Rattle.quic_ordered.proofs.slots.PieceSlots.append.Goals as goal

pub append_in-requires-clause-held : goal.append_in-requires-clause-held
append_in-requires-clause-held c =
    let es = c.self.inside.places.items in
    let at = place_among c.self.inside.places.rows c.in-Some.place.block c.in-Some.place.index in
    let e : KeyAndValue = c.entry.result in
    c.self.invariant.held c.args.offset e.1 (slot_near es at c.args.offset e c.self.invariant.rises c.in-Some.ensures.fits c.in-Some.ensures.key c.entry.ensures)

pub append_in-requires-clause-bound : goal.append_in-requires-clause-bound
append_in-requires-clause-bound c =
    let es = c.self.inside.places.items in
    let s = c.self.inside.pieces in
    let at = place_among c.self.inside.places.rows c.in-Some.place.block c.in-Some.place.index in
    let e : KeyAndValue = c.entry.result in
    let q = rw (← c.self.view_is) at c.requires in
    let here = found_some s es c.args.offset e.1 (slot_near es at c.args.offset e c.self.invariant.rises c.in-Some.ensures.fits c.in-Some.ensures.key c.entry.ensures) in
    let e = ap run_end (some_is _ (in_slot s e.1) q.0 here q.1) in
    omega (arith, e, q.2)

pub unreachable-requires : goal.unreachable-requires
unreachable-requires c =
    let q = rw (← c.self.view_is) at c.requires in
    none_some _ q.0 (found_none c.self.inside.pieces c.self.inside.places.items c.args.offset c.in-None.ensures.none) q.1

pub returns-clause-ok : goal.returns-clause-ok
returns-clause-ok c =
    let es = c.self.inside.places.items in
    let s = c.self.inside.pieces in
    let at = place_among c.self.inside.places.rows c.in-Some.place.block c.in-Some.place.index in
    let e : KeyAndValue = c.entry.result in
    let found = slot_near es at c.args.offset e c.self.invariant.rises c.in-Some.ensures.fits c.in-Some.ensures.key c.entry.ensures in
    let here = found_some s es c.args.offset e.1 found in
    rw (← c.self.view_is) (on_ok c.append_in.result c.append_in.ensures.ok (λ u v other.
    set_in es s c.append_in.new.pieces c.args.offset e.1 (joined_with (in_slot s e.1) (piece_of 0 c.args.bytes.now 0)) c.self.invariant found u
    ∙ ap (λ (w : PieceView). set_value (is_at (nat_cmp c.args.offset)) (in_slots s es) (joined_with w (piece_of 0 c.args.bytes.now 0))) (some_is _ (in_slot s e.1) v here other)))

pub returns-clause-before : goal.returns-clause-before
returns-clause-before c =
    let es = c.self.inside.places.items in
    let s = c.self.inside.pieces in
    let at = place_among c.self.inside.places.rows c.in-Some.place.block c.in-Some.place.index in
    let e : KeyAndValue = c.entry.result in
    let here = found_some s es c.args.offset e.1 (slot_near es at c.args.offset e c.self.invariant.rises c.in-Some.ensures.fits c.in-Some.ensures.key c.entry.ensures) in
    rw (← c.self.view_is) (if_ok c.append_in.result c.append_in.ensures.before (λ r same v other. same ∙ ap (λ (w : PieceView). w.allocation_size) (some_is _ (in_slot s e.1) v here other)))

pub returns-clause-after : goal.returns-clause-after
returns-clause-after c =
    let es = c.self.inside.places.items in
    let s = c.self.inside.pieces in
    let at = place_among c.self.inside.places.rows c.in-Some.place.block c.in-Some.place.index in
    let e : KeyAndValue = c.entry.result in
    let here = found_some s es c.args.offset e.1 (slot_near es at c.args.offset e c.self.invariant.rises c.in-Some.ensures.fits c.in-Some.ensures.key c.entry.ensures) in
    rw (← c.self.view_is) (if_ok c.append_in.result c.append_in.ensures.after (λ r same v other. same ∙ ap (λ (w : PieceView). (joined_with w (piece_of 0 c.args.bytes.now 0)).allocation_size) (some_is _ (in_slot s e.1) v here other)))

pub returns-clause-rises : goal.returns-clause-rises
returns-clause-rises c = rises_in c.append_in.new.pieces c.self.inside.places.items c.self.invariant.rises
