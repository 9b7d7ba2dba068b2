use Rattle.std.specs.Prelude.{IfSome}
use Rattle.streampair.proofs.Serving.{Progress}
use Rattle.streampair.proofs.session.run.Given as goal

abbrev pub invariant-loop-number : goal.invariant-loop-number
invariant-loop-number g l = IfSome (g.E.Environment.unread l.fn.environment) (λ all. Progress all l.number l.session (g.E.Environment.unread l.environment) (g.E.Environment.written l.fn.environment) (g.E.Environment.written l.environment))
