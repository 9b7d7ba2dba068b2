use Rattle.std.proofs.Common.{◌∙◌, ◌≡◌, ◌≤◌, ◌⊎◌, inl, inr, max, arith}
use Rattle.quic_sending.proofs.Answered.{minus-below, minus-ack, IsLowest-kept}
use Rattle.quic_sending.proofs.outcomes.Outcomes.ack.Goals as goal
use Rattle.quic_sending.proofs.outcomes.Outcomes.ack.Goals.{then-self-start-via-then-self-start, then-self-start-via-else-self-start+then-range-self}

pub returns-then-start-range-clause-lost : goal.returns-then-start-range-clause-lost
returns-then-start-range-clause-lost c = λ n. rw (← c.self.view_is) (minus-below c.self.inside.called_lost c.self.inside.later c.self.inside.prefix c.args.range (omega arith) n)

pub invariant_of-self-then-self-start : goal.invariant_of-self-then-self-start
invariant_of-self-then-self-start c =
    let behind : c.max-start.result ≡ max c.max-start.result c.self.inside.prefix = omega arith in
    let apart : (c.self.inside.next_lost.end ≤ c.max-start.result) ⊎ (c.args.range.end ≤ c.self.inside.next_lost.start) =
    elim c.then-self-start.branch [
      | then-self-start-via-then-self-start w ↦ inl w.if-self-start.true
      | then-self-start-via-else-self-start+then-range-self w ↦ inr w.if-range-self.true
    ] in
    (c.in_ok-self-inside.ensures.above, IsLowest-kept _ _ c.self.inside.next_lost (record { start = c.max-start.result; end = c.args.range.end }) c.self.invariant.1 (minus-ack c.self.inside.called_lost c.self.inside.later c.acknowledge.new.later c.self.inside.prefix c.in_ok-self-inside.field-0 c.max-start.result (record { start = c.max-start.result; end = c.args.range.end }) behind c.in_ok-self-inside.ensures.acked) apart)

pub returns-then-self-start-clause-lost : goal.returns-then-self-start-clause-lost
returns-then-self-start-clause-lost c = λ n. rw (← c.self.view_is) (minus-ack c.self.inside.called_lost c.self.inside.later c.acknowledge.new.later c.self.inside.prefix c.in_ok-self-inside.field-0 c.max-start.result c.args.range c.max-start.ensures c.in_ok-self-inside.ensures.acked n)

pub returns-clause-lost : goal.returns-clause-lost
returns-clause-lost c = λ n. c.first_lost-self-inside.ensures.same n ∙ rw (← c.self.view_is) (minus-ack c.self.inside.called_lost c.self.inside.later c.acknowledge.new.later c.self.inside.prefix c.in_ok-self-inside.field-0 c.max-start.result c.args.range c.max-start.ensures c.in_ok-self-inside.ensures.acked n)
