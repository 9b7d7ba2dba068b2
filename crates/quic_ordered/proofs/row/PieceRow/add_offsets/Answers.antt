use Rattle.std.proofs.Common.{arith, drop, length-drop}
use Rattle.quic_ranges.specs.Runs.{contains}
use Rattle.quic_assembler.specs.Piece.{lies, run_end}
use Rattle.quic_assembler.proofs.Counts.{bit-or, bit-le-one, no_count}
use Rattle.quic_assembler.proofs.Parts.{rest_next}
use Rattle.quic_ordered.proofs.row.PieceRow.add_offsets.Goals as goal

pub loop-index-preserved : goal.loop-index-preserved
loop-index-preserved c = λ at.
    let r = c.index-piece.result.now in
    let rest = rest_next c.self.inside.pieces.items c.loop-index.index r (omega arith) c.index-piece.ensures in
    let before = rw rest at (c.loop-index.invariant at) in
    rw (c.in_ok-insert.ensures.set at, c.offset.ensures.value, c.end.ensures.value) (omega (arith, bit-or (contains c.loop-index.set at) (lies r.offset (run_end r) at), before))

pub returns : goal.returns
returns c = λ at.
    let none = no_count at (drop c.loop-index.index c.self.inside.pieces.items) (simp length-drop (omega arith)) in
    rw (← c.self.view_is) (omega (arith, c.loop-index.invariant at, none, bit-le-one (contains c.loop-index.set at)))
