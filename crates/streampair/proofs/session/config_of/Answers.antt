use Rattle.quic_lines.specs.Grammar.{MeansNoConfig}
use Rattle.streampair.proofs.Serving.{not_spelled}
use Rattle.streampair.proofs.session.config_of.Goals as goal

pub returns-in-Err-clause-stops : goal.returns-in-Err-clause-stops
returns-in-Err-clause-stops c = rw c.from_line.ensures (not_spelled c.args.number (MeansNoConfig c.args.line.now c.args.who) ⊥ c.in-Err.error c.in-Err.ensures.none)
