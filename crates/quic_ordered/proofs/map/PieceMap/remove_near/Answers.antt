use Rattle.std.proofs.Common.{arith, sym, ap, subst, ◌∙◌, ◌+◌, length, List, ℕ}
use Rattle.std.specs.Prelude.{is_some, if◌then◌else◌}
use Rattle.quic_assembler.specs.Piece.{PieceView}
use Rattle.quic_ordered.specs.Entries.{piece_at}
use Rattle.quic_ordered.specs.Rows.{IsSummedMap}
use Rattle.quic_ordered.proofs.Slotted.{remove_apart, remove_none, piece_gone, piece_left}
use Rattle.quic_ordered.proofs.Totals.{inserted_le, removed}
use Rattle.quic_ordered.proofs.map.PieceMap.remove_near.Goals as goal

pub overflow_sub-self : goal.overflow_sub-self
overflow_sub-self c =
    let l = inserted_le _ _ _ c.args.offset c.in-Some.piece c.in-Some.piece c.self.invariant (sym c.in-Some.is ∙ c.remove_near-old.ensures.value) in omega (arith, l)

pub overflow_sub-self-in-Some : goal.overflow_sub-self-in-Some
overflow_sub-self-in-Some c =
    let l = inserted_le _ _ _ c.args.offset c.in-Some.piece c.in-Some.piece c.self.invariant (sym c.in-Some.is ∙ c.remove_near-old.ensures.value) in omega (arith, l)

pub invariant_of-self : goal.invariant_of-self
invariant_of-self c =
    removed _ _ _ _ _ _ c.args.offset c.in-Some.piece c.self.invariant c.remove_near-old.ensures.entries (sym c.in-Some.is ∙ c.remove_near-old.ensures.value) c.remove_near-old.ensures.rises
    (omega (arith, c.len.ensures.value)) (omega (arith, c.allocation_size.ensures.value))

pub invariant_of-self-in_default : goal.invariant_of-self-in_default
invariant_of-self-in_default c =
    let es = c.self.inside.pieces.entries in
    subst (λ (xs : List (ℕ × PieceView)). IsSummedMap c.self.inside.total c.self.inside.allocated xs) (sym (c.remove_near-old.ensures.entries ∙ remove_none es c.args.offset (sym c.remove_near-old.ensures.value ∙ c.in_default.is))) c.self.invariant

pub returns-in-Some-clause-gone : goal.returns-in-Some-clause-gone
returns-in-Some-clause-gone c = ap (λ (xs : List (ℕ × PieceView)). piece_at xs c.args.offset) c.remove_near-old.ensures.entries ∙ piece_gone c.self.inside.pieces.entries c.args.offset c.self.invariant.rises

pub returns-in-Some-clause-others : goal.returns-in-Some-clause-others
returns-in-Some-clause-others c = rw (← c.self.view_is) (λ r ne. ap (λ (xs : List (ℕ × PieceView)). piece_at xs r) c.remove_near-old.ensures.entries ∙ remove_apart c.self.inside.pieces.entries c.args.offset r ne)

pub returns-in-Some-clause-len : goal.returns-in-Some-clause-len
returns-in-Some-clause-len c =
    rw (← c.self.view_is) (ap (λ (xs : List (ℕ × PieceView)). length xs + (if is_some c.remove_near-old.result then 1 else 0)) c.remove_near-old.ensures.entries ∙ piece_left c.self.inside.pieces.entries c.args.offset c.remove_near-old.result c.remove_near-old.ensures.value)

pub returns-in_default-clause-gone : goal.returns-in_default-clause-gone
returns-in_default-clause-gone c = ap (λ (xs : List (ℕ × PieceView)). piece_at xs c.args.offset) c.remove_near-old.ensures.entries ∙ piece_gone c.self.inside.pieces.entries c.args.offset c.self.invariant.rises

pub returns-in_default-clause-others : goal.returns-in_default-clause-others
returns-in_default-clause-others c = rw (← c.self.view_is) (λ r ne. ap (λ (xs : List (ℕ × PieceView)). piece_at xs r) c.remove_near-old.ensures.entries ∙ remove_apart c.self.inside.pieces.entries c.args.offset r ne)

pub returns-in_default-clause-len : goal.returns-in_default-clause-len
returns-in_default-clause-len c =
    rw (← c.self.view_is) (ap (λ (xs : List (ℕ × PieceView)). length xs + (if is_some c.remove_near-old.result then 1 else 0)) c.remove_near-old.ensures.entries ∙ piece_left c.self.inside.pieces.entries c.args.offset c.remove_near-old.result c.remove_near-old.ensures.value)
