use Rattle.std.proofs.Common.{arith}
use Rattle.std.proofs.lemmas.Bool.Decides.{nat_tests}
use Rattle.quic_sending.proofs.outcomes.Outcomes.none_acked.Goals as goal

pub returns-then-self-eq0-clause-some : goal.returns-then-self-eq0-clause-some
returns-then-self-eq0-clause-some c = λ t. rw (← c.self.view_is) (let k = c.is_empty.ensures.some t in (k.0, grind (arith, nat_tests)))

pub returns-else-self-eq0-clause-some : goal.returns-else-self-eq0-clause-some
returns-else-self-eq0-clause-some c = λ t. rw (← c.self.view_is) (0, grind (arith, nat_tests))
