use Rattle.std.proofs.Common.{arith, sym, ap, ◌∙◌, length, List, ℕ}
use Rattle.std.specs.BTreeMap.{is_at}
use Rattle.std.specs.Ordering.{nat_cmp}
use Rattle.quic_assembler.specs.Piece.{PieceView}
use Rattle.quic_ordered.specs.Entries.{piece_at}
use Rattle.std.proofs.lemmas.Map.{length-set_value}
use Rattle.quic_ordered.proofs.Slotted.{set_at, set_apart}
use Rattle.quic_ordered.proofs.Totals.{map_total_bound, replaced, inserted_le}
use Rattle.quic_ordered.proofs.map.PieceMap.replace.Goals as goal

pub overflow_add-self : goal.overflow_add-self
overflow_add-self c = omega (arith, map_total_bound _ _ _ c.self.invariant)

pub overflow_add-self-2 : goal.overflow_add-self-2
overflow_add-self-2 c = omega (arith, map_total_bound _ _ _ c.self.invariant)

pub overflow_sub-self : goal.overflow_sub-self
overflow_sub-self c =
    let l = inserted_le _ _ c.self.inside.pieces.entries c.args.piece.offset c.replace-old.result c.replace-old.result c.self.invariant (sym c.replace-old.ensures.old) in
    omega (arith, l, c.len.ensures.value)

pub overflow_sub-self-2 : goal.overflow_sub-self-2
overflow_sub-self-2 c =
    let l = inserted_le _ _ c.self.inside.pieces.entries c.args.piece.offset c.replace-old.result c.replace-old.result c.self.invariant (sym c.replace-old.ensures.old) in
    omega (arith, l, c.allocation_size.ensures.value)

pub invariant_of-self : goal.invariant_of-self
invariant_of-self c =
    replaced _ _ _ _ _ _ c.args.piece.offset c.replace-old.result c.args.piece c.self.invariant c.replace-old.ensures.entries c.replace-old.ensures.old
    (record { below = c.len-length.ensures.bound; allocation = c.allocation_size-allocated.ensures.bound }) c.replace-old.ensures.rises
    (omega (arith, c.len-length.ensures.value, c.len.ensures.value)) (omega (arith, c.allocation_size-allocated.ensures.value, c.allocation_size.ensures.value))

pub returns-clause-here : goal.returns-clause-here
returns-clause-here c = ap (λ (xs : List (ℕ × PieceView)). piece_at xs c.args.piece.offset) c.replace-old.ensures.entries ∙ set_at c.self.inside.pieces.entries c.args.piece.offset c.replace-old.result c.args.piece c.replace-old.ensures.old

pub returns-clause-others : goal.returns-clause-others
returns-clause-others c = rw (← c.self.view_is) (λ r ne. ap (λ (xs : List (ℕ × PieceView)). piece_at xs r) c.replace-old.ensures.entries ∙ set_apart c.self.inside.pieces.entries c.args.piece.offset r c.args.piece ne)

pub returns-clause-len : goal.returns-clause-len
returns-clause-len c = rw (← c.self.view_is) (ap (λ (xs : List (ℕ × PieceView)). length xs) c.replace-old.ensures.entries ∙ length-set_value (is_at (nat_cmp c.args.piece.offset)) c.self.inside.pieces.entries c.args.piece)
