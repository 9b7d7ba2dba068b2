use Rattle.std.proofs.Common.{◌≡◌, ℕ, ◌-◌, ◌^◌, ◌<◌, ◌||◌, max, nat_lt, false}
use Rattle.quic_ranges.specs.Runs.{contains}
use Rattle.quic_sending.proofs.runs.RangeSetRuns.join.Given as goal

abbrev pub invariant-loop-start : goal.invariant-loop-start
invariant-loop-start l =
    record {
      below : (n : ℕ) → n < l.reached → contains l.self n ≡ false;
      same : (n : ℕ) → (nat_lt n (max l.low l.reached) || contains l.self n) ≡ (nat_lt n l.low || contains l.initial.self n);
    }

abbrev pub decreases-loop-start : goal.decreases-loop-start
decreases-loop-start l = 2 ^ 64 - l.reached
