use Rattle.std.proofs.Common.{◌≤◌, length}
use Rattle.quic_assembler.specs.Piece.{KeepsFrom, Sheds}
use Rattle.quic_assembler.proofs.pieces.Pieces.drop_stale.Given as goal

abbrev pub invariant-loop-self : goal.invariant-loop-self
invariant-loop-self l = record {
  kept : KeepsFrom l.floor l.fn.self.runs l.self.runs;
  sheds : Sheds l.floor l.fn.self.runs l.self.runs;
  len : length l.self.runs ≤ length l.fn.self.runs;
}

abbrev pub decreases-loop-self : goal.decreases-loop-self
decreases-loop-self l = length l.self.runs
