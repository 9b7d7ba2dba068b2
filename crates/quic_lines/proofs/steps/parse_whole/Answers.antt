use Rattle.std.proofs.Common.{rules}
use Rattle.std.specs.Fmt.{decimal}
use Rattle.std.proofs.lemmas.Fmt.{IsAscii-decimal}
use Rattle.std.proofs.lemmas.Str.{IsUtf8-from_ascii}
use Rattle.quic_lines.proofs.Texts.{whole_ascii}
use Rattle.quic_lines.proofs.steps.parse_whole.Goals as goal

pub returns-in_default-from_utf8-clause-none : goal.returns-in_default-from_utf8-clause-none
returns-in_default-from_utf8-clause-none c = λ payload small means.
    c.in_default-from_utf8.ensures.cases.0 (rw (c.in-Some.ensures.cases.1, c.as_slice.ensures, means) (IsUtf8-from_ascii (decimal payload) (IsAscii-decimal payload small)))

pub returns-clause-ascii : goal.returns-clause-ascii
returns-clause-ascii c =
    whole_ascii c.args.line.now c.ok.result (search rules) (search rules)
