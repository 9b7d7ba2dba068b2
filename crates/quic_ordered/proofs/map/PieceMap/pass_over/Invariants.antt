use Rattle.std.proofs.Common.{◌≤◌, length}
use Rattle.quic_ordered.specs.Slotted.{IsPlaceOrEnd, from_place}
use Rattle.quic_ordered.proofs.Passing.{IsAt}
use Rattle.quic_ordered.proofs.map.PieceMap.pass_over.Given as goal

abbrev pub invariant-loop-start : goal.invariant-loop-start
invariant-loop-start l = (l.fn.end ≤ l.floor) × IsPlaceOrEnd l.self-inside.pieces l.place × IsAt l.fn.self l.fn.last l.fn.end l.last l.floor l.found l.bytes.items (from_place l.self-inside.pieces l.place)

abbrev pub decreases-loop-start : goal.decreases-loop-start
decreases-loop-start l = length (from_place l.self-inside.pieces l.place)
