use Rattle.std.proofs.lemmas.Int.{to_z-of_z}
use Rattle.quic_session.proofs.session.Session.set_priority.Goals as goal

pub returns-clause-from : goal.returns-clause-from
returns-clause-from c = λ _ m h f. simp (to_z-of_z, c.ranges.priority) at (c.set_priority.ensures.from m h f)
