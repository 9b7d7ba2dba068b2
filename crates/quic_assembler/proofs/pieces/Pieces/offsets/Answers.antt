use Rattle.std.proofs.Common.{arith, drop, length-drop}
use Rattle.quic_assembler.specs.Piece.{cover_count, lies, run_end}
use Rattle.std.specs.BinaryHeap.{heap_items}
use Rattle.quic_ranges.specs.Runs.{contains}
use Rattle.quic_assembler.proofs.Counts.{bit-or, bit-from_zero, bit-le-one, no_count}
use Rattle.quic_assembler.proofs.Parts.{rest_next}
use Rattle.quic_assembler.proofs.pieces.Pieces.offsets.Goals as goal

pub loop-piece-init : goal.loop-piece-init
loop-piece-init c = λ at.
    let e = c.in_ok-insert.ensures.set at in
    rw (e, c.new-set.ensures) (bit-from_zero at c.args.floor (cover_count at c.as_slice-piece-items.result.now))

pub loop-piece-preserved : goal.loop-piece-preserved
loop-piece-preserved c = λ at.
    let rest = rest_next c.as_slice-piece-items.result.now c.loop-piece.piece-index c.piece-item.result c.loop-piece-test.true c.piece-item.is in
    let before = rw rest at (c.loop-piece.invariant at) in
    let r = c.piece-item.result in
    rw (c.in_ok-insert-2.ensures.set at, c.offset.ensures, c.end.ensures.value) (omega (arith, bit-or (contains c.loop-piece.set at) (lies r.offset (run_end r) at), before))

pub returns : goal.returns
returns c = λ at.
    let all = rw c.as_slice-piece-items.ensures.value at (c.loop-piece.invariant at) in
    let none = no_count at (drop c.loop-piece.piece-index (heap_items c.self.inside.heap)) (rw (← c.as_slice-piece-items.ensures.value) (simp length-drop (omega arith))) in
    rw (← c.self.view_is) (omega (arith, all, none, bit-le-one (contains c.loop-piece.set at)))
