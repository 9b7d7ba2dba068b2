use Rattle.std.proofs.Common.{refl}
use Rattle.streampair.proofs.session.Session.answer.Goals as goal

-- both configs were read
pub returns-in-Ok-clause-answers : goal.returns-in-Ok-clause-answers
returns-in-Ok-clause-answers g c = rw c.in-Configured.is (record { b = c.in_ok-b-in-Configured.b; means = c.in_ok-b-in-Configured.ensures.means; made = c.in-Ok.ensures.made; text_is = refl })

-- there was no memory for the pair
pub returns-in_default-clause-stops : goal.returns-in_default-clause-stops
returns-in_default-clause-stops g c = rw c.in-Configured.is (c.in_ok-b-in-Configured.b, c.in_ok-b-in-Configured.ensures.means)
