use Rattle.std.proofs.Common.{ℕ, sym, ap, ◌∙◌, Some}
use Rattle.quic_assembler.specs.Piece.{PieceView}
use Rattle.std.specs.Map.{set_value}
use Rattle.std.specs.BTreeMap.{is_at}
use Rattle.std.specs.Ordering.{nat_cmp}
use Rattle.quic_ordered.specs.Entries.{piece_at}
use Rattle.quic_ordered.specs.Slotted.{in_slots}
use Rattle.quic_ordered.proofs.Slotted.{set_in, rises_in, found_some, found_none}
use Rattle.quic_ordered.proofs.slots.PieceSlots.replace.Goals as goal

pub unreachable-requires : goal.unreachable-requires
unreachable-requires c =
    let none = found_none c.self.inside.pieces c.self.inside.places.items c.offset.result (sym c.get.ensures ∙ c.in-None.is) in
    (rw (← c.self.view_is) at c.requires) (ap (λ (n : ℕ). piece_at (in_slots c.self.inside.pieces c.self.inside.places.items) n) (sym c.offset.ensures.value) ∙ none)

pub returns-clause-old : goal.returns-clause-old
returns-clause-old c =
    let es = c.self.inside.places.items in
    let s = c.self.inside.pieces in
    let here = found_some s es c.offset.result c.in-Some.slot (sym c.get.ensures ∙ c.in-Some.is) in
    rw (← c.self.view_is) (ap (λ (n : ℕ). piece_at (in_slots s es) n) (sym c.offset.ensures.value) ∙ (here ∙ ap (λ (v : PieceView). Some v) (sym c.replace_in.ensures.value)))

pub returns-clause-entries : goal.returns-clause-entries
returns-clause-entries c =
    let es = c.self.inside.places.items in
    let s = c.self.inside.pieces in
    let found = sym c.get.ensures ∙ c.in-Some.is in
    rw (← c.self.view_is)
    (set_in es s c.replace_in.new.pieces c.offset.result c.in-Some.slot c.args.piece c.self.invariant found c.replace_in.ensures.updates
    ∙ ap (λ (n : ℕ). set_value (is_at (nat_cmp n)) (in_slots s es) c.args.piece) c.offset.ensures.value)

pub returns-clause-rises : goal.returns-clause-rises
returns-clause-rises c = rises_in c.replace_in.new.pieces c.self.inside.places.items c.self.invariant.rises
