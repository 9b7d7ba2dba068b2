use Rattle.std.proofs.lemmas.Str.{IsUtf8-from_ascii}
use Rattle.quic_lines.proofs.lines.fields_of.Goals as goal

pub returns-in_default-clause-none : goal.returns-in_default-clause-none
returns-in_default-clause-none c = λ e ascii. absurd (c.in_default.ensures.cases.0 (IsUtf8-from_ascii c.args.line.now ascii))
