use Rattle.std.proofs.Common.{sym, ap, subst, ◌∙◌, length, List, ℕ}
use Rattle.std.specs.Prelude.{is_some}
use Rattle.quic_assembler.specs.Piece.{PieceView}
use Rattle.quic_ordered.specs.Entries.{piece_at}
use Rattle.quic_ordered.specs.Rows.{RiseByKey}
use Rattle.quic_ordered.proofs.Slotted.{insert_is_set, insert_at, insert_apart, insert_len, none_is_none}
use Rattle.quic_ordered.proofs.map.PieceMap.insert.Goals as goal

pub returns-then-contains-clause-entries : goal.returns-then-contains-clause-entries
returns-then-contains-clause-entries c =
    c.replace.ensures.entries ∙ sym (insert_is_set c.args.self.now c.args.piece.offset c.replace.result c.args.piece (subst RiseByKey c.self.view_is c.self.invariant.rises) c.replace.ensures.old)

pub returns-clause-here : goal.returns-clause-here
returns-clause-here c = ap (λ (xs : List (ℕ × PieceView)). piece_at xs c.args.piece.offset) c.in-Ok.ensures.entries ∙ insert_at c.args.self.now c.args.piece.offset c.args.piece

pub returns-clause-others : goal.returns-clause-others
returns-clause-others c = λ r ne. ap (λ (xs : List (ℕ × PieceView)). piece_at xs r) c.in-Ok.ensures.entries ∙ insert_apart c.args.self.now c.args.piece.offset r c.args.piece ne

pub returns-clause-len : goal.returns-clause-len
returns-clause-len c =
    let es = c.self.inside.pieces.entries in
    let none = none_is_none (piece_at es c.args.piece.offset) (sym c.if-contains.false ∙ (c.contains.ensures ∙ ap (λ (n : ℕ). is_some (piece_at es n)) c.offset.ensures.value)) in
    ap (λ (xs : List (ℕ × PieceView)). length xs) c.in-Ok.ensures.entries ∙ insert_len c.args.self.now c.args.piece.offset c.args.piece (ap (λ (xs : List (ℕ × PieceView)). piece_at xs c.args.piece.offset) (sym c.self.view_is) ∙ none)
