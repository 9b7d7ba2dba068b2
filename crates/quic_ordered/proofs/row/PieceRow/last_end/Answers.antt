use Rattle.std.proofs.Common.{arith, ap, ◌∙◌, ◌-◌, refl, deque_len}
use Rattle.quic_assembler.specs.Piece.{run_end}
use Rattle.quic_ordered.proofs.Ends.{last_at}
use Rattle.quic_ordered.proofs.row.PieceRow.last_end.Goals as goal

pub returns-in-Some-clause-some : goal.returns-in-Some-clause-some
returns-in-Some-clause-some c =
    let s = c.in-Some.ensures.lookup in
    let v = c.in-Some.ensures.variant.0 refl in
    let h = last_at c.self.inside.pieces.items (deque_len c.self.inside.pieces - 1) c.in-Some.last.now (omega arith) s in
    rw (← c.self.view_is) (h.0, h.1, h.2, c.end.ensures.value ∙ ap run_end h.3)
