use Rattle.std.proofs.Common.{refl, []}
use Rattle.quic_sending.proofs.Answered.{minus-nothing, IsLowest-none}
use Rattle.quic_sending.proofs.outcomes.Outcomes.lose_nothing.Goals as goal

pub invariant_of-self : goal.invariant_of-self
invariant_of-self c = (c.self.invariant.0, rw c.empty.ensures (IsLowest-none [] c.self.inside.later c.self.inside.prefix 0 (λ n l. refl) (λ n l. refl)))

pub returns : goal.returns
returns c = rw (← c.self.view_is, c.empty.ensures, minus-nothing c.self.inside.later) refl
