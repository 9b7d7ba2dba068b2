use Rattle.std.proofs.Common.{arith, ap, ◌∙◌, refl}
use Rattle.quic_assembler.specs.Piece.{PieceView}
use Rattle.quic_ordered.proofs.Ends.{first_of}
use Rattle.quic_ordered.proofs.row.PieceRow.first_offset.Goals as goal

pub returns-in-Some-clause-some : goal.returns-in-Some-clause-some
returns-in-Some-clause-some c =
    let s = c.in-Some.ensures.lookup in
    let v = c.in-Some.ensures.variant.0 refl in
    let h = first_of c.self.inside.pieces.items c.in-Some.first.now (omega arith) s in
    rw (← c.self.view_is) (h.0, h.1, h.2, c.offset.ensures.value ∙ ap (λ (r : PieceView). r.offset) h.3)
