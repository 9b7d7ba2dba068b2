use Rattle.std.proofs.Common.{arith}
use Rattle.std.proofs.lemmas.Bool.Decides.{nat_tests}
use Rattle.quic_sending.proofs.recent_set.RecentSet.is_empty.Goals as goal

pub returns-clause-some : goal.returns-clause-some
returns-clause-some c = λ t. rw (← c.self.view_is) (c.self.inside.recent.start, grind (arith, nat_tests))
