use Rattle.std.proofs.Common.{◌≡◌, ℕ, ◌∷◌, length}
use Rattle.quic_ranges.specs.Runs.{contains}
use Rattle.quic_sending.specs.Outcomes.{minus}
use Rattle.quic_sending.proofs.outcomes.first_lost.Given as goal

abbrev pub invariant-loop-run : goal.invariant-loop-run
invariant-loop-run l = (n : ℕ) → contains (minus l.called_lost ((0, l.prefix) ∷ l.later)) n ≡ contains (minus l.initial.called_lost ((0, l.prefix) ∷ l.later)) n

abbrev pub decreases-loop-run : goal.decreases-loop-run
decreases-loop-run l = length l.called_lost
