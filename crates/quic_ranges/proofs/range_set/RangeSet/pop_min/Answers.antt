use Rattle.std.proofs.Common.{◌+◌, ◌∷◌, arith}
use Rattle.quic_ranges.specs.Runs.{AreRuns}
use Rattle.quic_ranges.proofs.Entries.{AreRuns_raise}
use Rattle.quic_ranges.proofs.Order.{IsRunOf-first, below_first}
use Rattle.quic_ranges.proofs.Cut.{taken_out}
use Rattle.quic_ranges.proofs.range_set.RangeSet.pop_min.Goals as goal

pub invariant_of-self-2 : goal.invariant_of-self-2
invariant_of-self-2 c =
    let rest = c.pop_first.new.self.items in
    let was : AreRuns 0 ((c.in_ok-start.start, c.in_ok-start.end) ∷ rest) = rw c.in_ok-start.ensures.popped at c.self.invariant in
    AreRuns_raise (c.in_ok-start.end + 1) 0 rest was.2 (omega arith)

pub returns-clause-run : goal.returns-clause-run
returns-clause-run c =
    let rest = c.pop_first.new.self.items in
    let was : AreRuns 0 ((c.in_ok-start.start, c.in_ok-start.end) ∷ rest) = rw c.in_ok-start.ensures.popped at c.self.invariant in
    rw (← c.self.view_is, c.in_ok-start.ensures.popped) (IsRunOf-first 0 (c.in_ok-start.start, c.in_ok-start.end) rest was)

pub returns-clause-lowest : goal.returns-clause-lowest
returns-clause-lowest c = λ n lt.
    let rest = c.pop_first.new.self.items in
    let was : AreRuns 0 ((c.in_ok-start.start, c.in_ok-start.end) ∷ rest) = rw c.in_ok-start.ensures.popped at c.self.invariant in
    rw (← c.self.view_is, c.in_ok-start.ensures.popped) (below_first 0 n (c.in_ok-start.start, c.in_ok-start.end) rest was lt)

pub returns-clause-others : goal.returns-clause-others
returns-clause-others c = λ n.
    let rest = c.pop_first.new.self.items in
    let was : AreRuns 0 ((c.in_ok-start.start, c.in_ok-start.end) ∷ rest) = rw c.in_ok-start.ensures.popped at c.self.invariant in
    rw (← c.self.view_is, c.in_ok-start.ensures.popped) (taken_out 0 (c.in_ok-start.start, c.in_ok-start.end) rest n was)
