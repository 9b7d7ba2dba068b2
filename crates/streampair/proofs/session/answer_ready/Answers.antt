use Rattle.std.proofs.Common.{inr}
use Rattle.streampair.proofs.session.answer_ready.Goals as goal

pub returns-in_default-clause-answers : goal.returns-in_default-clause-answers
returns-in_default-clause-answers g c = inr c.in_ok-lines.ensures.answers
