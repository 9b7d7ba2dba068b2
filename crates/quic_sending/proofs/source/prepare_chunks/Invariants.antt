use Rattle.std.proofs.Common.{◌≡◌, ◌+◌, ◌-◌, ◌≤◌, length, drop}
use Rattle.quic_sending.specs.Source.{cut_piece}
use Rattle.quic_sending.proofs.Fronts.{pieces_of}
use Rattle.quic_sending.proofs.source.prepare_chunks.Given as goal

abbrev pub invariant-loop-at : goal.invariant-loop-at
invariant-loop-at l =
    record {
      within : l.at ≤ length l.chunks;
      few : l.count ≤ l.at;
      pieces : l.count + length (pieces_of l.left (drop l.at l.chunks)) ≡ length (pieces_of l.limit (drop l.from l.chunks));
      same : cut_piece l.left (drop l.at l.chunks) ≡ cut_piece l.limit (drop l.from l.chunks);
    }

abbrev pub decreases-loop-at : goal.decreases-loop-at
decreases-loop-at l = length l.chunks - l.at
