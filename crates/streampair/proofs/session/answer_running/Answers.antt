use Rattle.streampair.specs.Session.{MeansNoLine}
use Rattle.streampair.proofs.Serving.{not_spelled}
use Rattle.streampair.proofs.session.answer_running.Goals as goal

pub returns-in-Err-clause-stops : goal.returns-in-Err-clause-stops
returns-in-Err-clause-stops c = rw c.from_line.ensures (not_spelled c.args.number (MeansNoLine c.args.line.now) ⊥ c.in-Err.error (λ e. (c.in-Err.ensures.none e, (λ means. let told = c.is_settle.ensures.means.1 means in cc), c.in_default.ensures.none)))
