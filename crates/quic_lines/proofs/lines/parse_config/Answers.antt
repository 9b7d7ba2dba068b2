use Rattle.std.proofs.Common.{◌∙◌, ap, arith, length, sym}
use Rattle.std.proofs.lemmas.Result.{err_from_is_err_and}
use Rattle.quic_lines.proofs.Texts.{config_ascii}
use Rattle.quic_lines.proofs.lines.parse_config.Goals as goal

pub returns-in_err-fields-clause-none : goal.returns-in_err-fields-clause-none
returns-in_err-fields-clause-none c =
    let p = err_from_is_err_and c.from_residual.result c.from_residual.ensures.1 in
    rw p.1 (λ e config range means.
    let many = c.in_err-fields.ensures.none (sym p.2 ∙ e) (config_ascii c.args.line.now c.args.who config range means) in
    omega (arith, many, ap length means))
