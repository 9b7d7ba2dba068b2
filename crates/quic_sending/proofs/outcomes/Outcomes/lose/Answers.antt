use Rattle.std.proofs.Common.{rules, ◌∙◌}
use Rattle.quic_sending.proofs.Answered.{minus-lose, minus-same, IsLowest-grown}
use Rattle.quic_sending.proofs.outcomes.Outcomes.lose.Goals as goal

pub invariant_of-self-then-self-start : goal.invariant_of-self-then-self-start
invariant_of-self-then-self-start c = (c.self.invariant.0, IsLowest-grown _ _ c.self.inside.next_lost c.max-start.result c.self.invariant.1 c.if-self.true c.if-self-start.true (minus-same c.self.inside.called_lost c.add.new.self c.self.inside.later c.self.inside.prefix c.max-start.result c.args.range.end (λ k. search rules)))

pub returns-then-self-start-clause-lost : goal.returns-then-self-start-clause-lost
returns-then-self-start-clause-lost c = λ n. rw (← c.self.view_is) (minus-lose c.self.inside.called_lost c.add.new.self c.self.inside.later c.self.inside.prefix c.max-start.result c.args.range c.max-start.ensures (λ k. search rules) n)

pub returns-clause-lost : goal.returns-clause-lost
returns-clause-lost c = λ n. c.first_lost-self-inside.ensures.same n ∙ rw (← c.self.view_is) (minus-lose c.self.inside.called_lost c.add.new.self c.self.inside.later c.self.inside.prefix c.max-start.result c.args.range c.max-start.ensures (λ k. search rules) n)
