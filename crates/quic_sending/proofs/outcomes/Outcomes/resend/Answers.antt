use Rattle.std.proofs.Common.{◌≡◌, ℕ, rules, ◌∙◌}
use Rattle.quic_sending.specs.Ranges.{IsLowestRun}
use Rattle.quic_sending.specs.Outcomes.{Answered}
use Rattle.quic_sending.proofs.Answered.{minus-resend, IsLowest-cut}
use Rattle.quic_sending.proofs.outcomes.Outcomes.resend.Goals as goal

-- equal values have one lowest lost run
lowest_of-same : (v w : Answered) (a b : ℕ) → v ≡ w → IsLowestRun w.lost a b → IsLowestRun v.lost a b
lowest_of-same v w a b same lowest = rw same lowest

pub invariant_of-self : goal.invariant_of-self
invariant_of-self c =
    let (limit, front, within) = c.requires.front in
    let lowest = lowest_of-same _ _ c.args.range.start limit c.self.view_is front in
    (c.self.invariant.0, IsLowest-cut _ _ c.self.inside.next_lost c.args.range limit c.self.invariant.1 lowest c.if-self-range.true c.if-range-self.true (minus-resend c.self.inside.called_lost c.remove_below.new.self c.self.inside.later c.self.inside.prefix limit c.args.range lowest (λ k. search rules)))

pub returns-then-range-self-clause-lost : goal.returns-then-range-self-clause-lost
returns-then-range-self-clause-lost c = λ n.
    let (limit, front, within) = c.requires.front in
    let lowest = lowest_of-same _ _ c.args.range.start limit c.self.view_is front in
    rw (← c.self.view_is) (minus-resend c.self.inside.called_lost c.remove_below.new.self c.self.inside.later c.self.inside.prefix limit c.args.range lowest (λ k. search rules) n)

pub returns-clause-lost : goal.returns-clause-lost
returns-clause-lost c = λ n.
    let (limit, front, within) = c.requires.front in
    let lowest = lowest_of-same _ _ c.args.range.start limit c.self.view_is front in
    c.first_lost-self-inside.ensures.same n ∙ rw (← c.self.view_is) (minus-resend c.self.inside.called_lost c.remove_below.new.self c.self.inside.later c.self.inside.prefix limit c.args.range lowest (λ k. search rules) n)
