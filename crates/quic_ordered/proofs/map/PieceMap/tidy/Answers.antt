use Rattle.std.proofs.Common.{arith, sym, ap, subst, ◌∙◌, length, List, ℕ}
use Rattle.quic_assembler.specs.Piece.{PieceView}
use Rattle.quic_ordered.specs.Entries.{piece_at}
use Rattle.quic_ordered.specs.Rows.{FitsWords, IsSummedMap, tidied}
use Rattle.quic_ordered.specs.Slotted.{Slots}
use Rattle.quic_ordered.proofs.Compacting.{tidied_is}
use Rattle.quic_ordered.proofs.Placed.{value_at}
use Rattle.quic_ordered.proofs.Slotted.{some_of, tidied_fits, set_at, set_apart}
use Rattle.quic_ordered.proofs.Totals.{map_total_bound, replaced, inserted_le}
use Rattle.quic_ordered.proofs.map.PieceMap.tidy.Goals as goal

pub overflow_add-self : goal.overflow_add-self
overflow_add-self c = omega (arith, map_total_bound _ _ _ c.self.invariant)

pub overflow_sub-self : goal.overflow_sub-self
overflow_sub-self c =
    let es = c.self.inside.pieces.entries in
    let v = some_of (piece_at es c.args.offset) (rw (← c.self.view_is) at c.requires) in
    let l = inserted_le _ _ es c.args.offset v.0 v.0 c.self.invariant (sym v.1) in
    let b = c.in_ok-before.ensures.before v.0 v.1 in
    omega (arith, l.1, b)

pub invariant_of-self : goal.invariant_of-self
invariant_of-self c = subst (λ (m : Slots). IsSummedMap c.self.inside.total c.self.inside.allocated m.entries) (sym c.in_err-before.ensures.err) c.self.invariant

pub invariant_of-self-2 : goal.invariant_of-self-2
invariant_of-self-2 c =
    let es = c.self.inside.pieces.entries in
    let v = some_of (piece_at es c.args.offset) (rw (← c.self.view_is) at c.requires) in
    let l = ap (λ (bs : List ℕ). length bs) (tidied_is v.0).1 in
    replaced _ _ _ _ _ _ c.args.offset v.0 (tidied v.0) c.self.invariant (c.in_ok-before.ensures.ok v.0 v.1) v.1
    (tidied_fits v.0 (value_at FitsWords es c.args.offset v.0 c.self.invariant.sums.sound v.1)) c.tidy.ensures.rises
    (omega (arith, l)) (let b = c.in_ok-before.ensures.before v.0 v.1 in let a = c.in_ok-before.ensures.after v.0 v.1 in omega (arith, a, b))

pub returns-clause-tidied : goal.returns-clause-tidied
returns-clause-tidied c =
    rw (← c.self.view_is) (λ v found. ap (λ (xs : List (ℕ × PieceView)). piece_at xs c.args.offset) (c.in_ok-before.ensures.ok v found) ∙ set_at c.self.inside.pieces.entries c.args.offset v (tidied v) found)

pub returns-clause-others : goal.returns-clause-others
returns-clause-others c =
    let es = c.self.inside.pieces.entries in
    let v = some_of (piece_at es c.args.offset) (rw (← c.self.view_is) at c.requires) in
    rw (← c.self.view_is) (λ r ne. ap (λ (xs : List (ℕ × PieceView)). piece_at xs r) (c.in_ok-before.ensures.ok v.0 v.1) ∙ set_apart es c.args.offset r (tidied v.0) ne)
