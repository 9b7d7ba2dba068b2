use Rattle.std.proofs.Common.{◌∷◌}
use Rattle.quic_ranges.specs.Runs.{AreRuns}
use Rattle.quic_ranges.proofs.Order.{IsRunOf-first, below_first}
use Rattle.quic_ranges.proofs.range_set.RangeSet.peek_min.Goals as goal

pub returns-in-Some-clause-run : goal.returns-in-Some-clause-run
returns-in-Some-clause-run c =
    let f = c.in-Some.ensures.some in
    let h : AreRuns 0 ((c.in-Some.start, c.in-Some.end) ∷ f.0) = rw f.1 at c.self.invariant in
    rw (← c.self.view_is, f.1) (IsRunOf-first 0 (c.in-Some.start, c.in-Some.end) f.0 h)

pub returns-in-Some-clause-lowest : goal.returns-in-Some-clause-lowest
returns-in-Some-clause-lowest c = λ n lt.
    let f = c.in-Some.ensures.some in
    let h : AreRuns 0 ((c.in-Some.start, c.in-Some.end) ∷ f.0) = rw f.1 at c.self.invariant in
    rw (← c.self.view_is, f.1) (below_first 0 n (c.in-Some.start, c.in-Some.end) f.0 h lt)
