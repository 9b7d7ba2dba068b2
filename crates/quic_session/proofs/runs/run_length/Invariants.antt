use Rattle.std.proofs.Common.{ℕ, List, length}
use Rattle.quic_wire.specs.declared.frame.Frame.{Frame}
use Rattle.quic_wire.specs.Frames.{BeginsFrames}
use Rattle.quic_wire.specs.Reading.{AreLast}
use Rattle.quic_wire.proofs.Steps.{IsBytes}
use Rattle.quic_session.specs.Runs.{BeginsRun}
use Rattle.quic_session.proofs.runs.run_length.Given as goal

abbrev pub invariant-loop-rest : goal.invariant-loop-rest
invariant-loop-rest l = record {
  fits : IsBytes l.rest;
  last : AreLast l.rest l.bytes;
  found : (fs : List Frame) × BeginsFrames l.bytes fs l.rest;
  only : (fs : List Frame) (rest : List ℕ) → BeginsRun l.bytes fs rest → (gs : List Frame) × BeginsRun l.rest gs rest;
}

abbrev pub decreases-loop-rest : goal.decreases-loop-rest
decreases-loop-rest l = length l.rest
