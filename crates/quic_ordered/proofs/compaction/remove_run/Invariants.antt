use Rattle.std.proofs.Common.{◌≡◌, ◌-◌, ◌^◌, ◌<◌, ◌≤◌, ◌⊎◌, ℕ, List, None}
use Rattle.quic_assembler.specs.Piece.{PieceView}
use Rattle.quic_ordered.specs.Entries.{piece_at}
use Rattle.quic_ordered.specs.Rows.{RiseByKey}
use Rattle.quic_ordered.specs.Sweeping.{IsChain, chain_end}
use Rattle.quic_ordered.proofs.compaction.remove_run.Given as goal

abbrev pub invariant-loop-at : goal.invariant-loop-at
invariant-loop-at l = record {
  chain : (rs : List PieceView) × IsChain l.pieces l.at rs × (l.end ≡ chain_end l.at rs);
  gone : (q : ℕ) → l.from ≤ q → q < l.at → piece_at l.pieces q ≡ None;
  others : (q : ℕ) → (q < l.from) ⊎ (l.at ≤ q) → piece_at l.pieces q ≡ piece_at l.initial.pieces q;
  rises : RiseByKey l.pieces;
  up : l.from ≤ l.at;
}

abbrev pub decreases-loop-at : goal.decreases-loop-at
decreases-loop-at l = 2 ^ 62 - l.at
