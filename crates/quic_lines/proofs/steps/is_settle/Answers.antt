use Rattle.std.proofs.Common.{◌≡◌, codes, rules}
use Rattle.quic_lines.proofs.Texts.{settle_ascii}
use Rattle.quic_lines.proofs.steps.is_settle.Goals as goal

pub returns-clause-ascii : goal.returns-clause-ascii
returns-clause-ascii c = λ yes.
    let means : c.args.line.now ≡ codes "settle" = search rules in
    settle_ascii c.args.line.now means
