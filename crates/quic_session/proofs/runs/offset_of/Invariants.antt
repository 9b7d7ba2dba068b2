use Rattle.std.proofs.Common.{ℕ, List, ◌≡◌, ◌++◌, length}
use Rattle.quic_wire.specs.declared.frame.Frame.{Frame}
use Rattle.quic_wire.specs.Frames.{BeginsFrames}
use Rattle.quic_wire.specs.Reading.{AreLast}
use Rattle.quic_wire.proofs.Steps.{IsBytes}
use Rattle.quic_session.proofs.Behind.{Divided}
use Rattle.quic_session.proofs.runs.offset_of.Given as goal

abbrev pub invariant-loop-left : goal.invariant-loop-left
invariant-loop-left l = record {
  fits : IsBytes l.rest;
  last : AreLast l.rest l.bytes;
  divided : (fs gs : List Frame) (rest : List ℕ) → length fs ≡ l.fn.index → BeginsFrames l.bytes (fs ++ gs) rest → Divided l.bytes fs gs rest l.left l.rest;
}

abbrev pub decreases-loop-left : goal.decreases-loop-left
decreases-loop-left l = l.left
