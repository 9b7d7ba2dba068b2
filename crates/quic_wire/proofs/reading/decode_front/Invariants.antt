use Rattle.std.proofs.Common.{◌≡◌, ◌++◌, List, length}
use Rattle.quic_wire.specs.declared.frame.Frame.{Frame}
use Rattle.quic_wire.specs.Frames.{AreFrames}
use Rattle.quic_wire.specs.Reading.{AreLast}
use Rattle.quic_wire.proofs.Steps.{IsBytes}
use Rattle.quic_wire.proofs.reading.decode_front.Given as goal

abbrev pub invariant-loop-rest : goal.invariant-loop-rest
invariant-loop-rest g l = record {
  fits : IsBytes l.rest;
  last : AreLast l.rest l.payload;
  found : (fs : List Frame) → AreFrames l.rest fs → AreFrames l.payload (l.frames.items ++ fs);
  only : (fs : List Frame) → AreFrames l.payload fs → (gs : List Frame) × (fs ≡ l.frames.items ++ gs) × AreFrames l.rest gs;
}

abbrev pub decreases-loop-rest : goal.decreases-loop-rest
decreases-loop-rest g l = length l.rest
