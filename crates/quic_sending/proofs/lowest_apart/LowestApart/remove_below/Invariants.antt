use Rattle.std.proofs.Common.{◌≡◌, ◌<◌, ℕ, ◌++◌, ◌&&◌, not, true, nat_lt, length}
use Rattle.quic_ranges.specs.Runs.{contains}
use Rattle.quic_sending.specs.Outcomes.{run_of}
use Rattle.quic_sending.proofs.lowest_apart.LowestApart.remove_below.Given as goal

abbrev pub invariant-loop-self : goal.invariant-loop-self
invariant-loop-self g l =
    let others = g.S.Runs.runs l.self-inside.others in
    record {
      behind : (n : ℕ) → contains others n ≡ true → (l.self-inside.lowest.start < l.self-inside.lowest.end) × (l.self-inside.lowest.end < n);
      same : (n : ℕ) → (contains (run_of l.self-inside.lowest.start l.self-inside.lowest.end ++ others) n && not (nat_lt n l.end)) ≡ (contains l.fn.self n && not (nat_lt n l.end));
    }

abbrev pub decreases-loop-self : goal.decreases-loop-self
decreases-loop-self g l = length (run_of l.self-inside.lowest.start l.self-inside.lowest.end ++ g.S.Runs.runs l.self-inside.others)
