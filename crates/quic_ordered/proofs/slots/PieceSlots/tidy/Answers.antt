use Rattle.std.proofs.Common.{sym, ap, ◌∙◌}
use Rattle.quic_assembler.specs.Piece.{PieceView}
use Rattle.std.specs.BTreeMap.{is_at}
use Rattle.std.specs.Ordering.{nat_cmp}
use Rattle.std.specs.Map.{set_value}
use Rattle.quic_ordered.specs.Rows.{tidied}
use Rattle.quic_ordered.specs.Slotted.{in_slot, in_slots}
use Rattle.quic_ordered.proofs.Held.{some_is}
use Rattle.quic_ordered.proofs.Firsts.{on_ok}
use Rattle.quic_ordered.proofs.Slotted.{set_in, rises_in, found_some, found_none, if_ok}
use Rattle.quic_ordered.proofs.slots.PieceSlots.tidy.Goals as goal

pub unreachable-requires : goal.unreachable-requires
unreachable-requires c = (rw (← c.self.view_is) at c.requires) (found_none c.self.inside.pieces c.self.inside.places.items c.args.offset (sym c.get.ensures ∙ c.in-None.is))

pub returns-clause-ok : goal.returns-clause-ok
returns-clause-ok c =
    let es = c.self.inside.places.items in
    let s = c.self.inside.pieces in
    let found = sym c.get.ensures ∙ c.in-Some.is in
    let here = found_some s es c.args.offset c.in-Some.slot found in
    rw (← c.self.view_is) (on_ok c.tidy_in.result c.tidy_in.ensures.ok (λ u v other.
    set_in es s c.tidy_in.new.pieces c.args.offset c.in-Some.slot (tidied (in_slot s c.in-Some.slot)) c.self.invariant found u
    ∙ ap (λ (w : PieceView). set_value (is_at (nat_cmp c.args.offset)) (in_slots s es) (tidied w)) (some_is _ (in_slot s c.in-Some.slot) v here other)))

pub returns-clause-before : goal.returns-clause-before
returns-clause-before c =
    let es = c.self.inside.places.items in
    let s = c.self.inside.pieces in
    let here = found_some s es c.args.offset c.in-Some.slot (sym c.get.ensures ∙ c.in-Some.is) in
    rw (← c.self.view_is) (if_ok c.tidy_in.result c.tidy_in.ensures.before (λ r e v other. e ∙ ap (λ (w : PieceView). w.allocation_size) (some_is _ (in_slot s c.in-Some.slot) v here other)))

pub returns-clause-after : goal.returns-clause-after
returns-clause-after c =
    let es = c.self.inside.places.items in
    let s = c.self.inside.pieces in
    let here = found_some s es c.args.offset c.in-Some.slot (sym c.get.ensures ∙ c.in-Some.is) in
    rw (← c.self.view_is) (if_ok c.tidy_in.result c.tidy_in.ensures.after (λ r e v other. e ∙ ap (λ (w : PieceView). (tidied w).allocation_size) (some_is _ (in_slot s c.in-Some.slot) v here other)))

pub returns-clause-rises : goal.returns-clause-rises
returns-clause-rises c = rises_in c.tidy_in.new.pieces c.self.inside.places.items c.self.invariant.rises
