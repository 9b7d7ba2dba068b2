use Rattle.std.proofs.Common.{◌∙◌, ap, arith, length, sym}
use Rattle.std.proofs.lemmas.Result.{err_from_is_err_and}
use Rattle.quic_lines.proofs.Texts.{early_ascii}
use Rattle.quic_lines.proofs.lines.early_line.Goals as goal

pub returns-in_err-fields-clause-none : goal.returns-in_err-fields-clause-none
returns-in_err-fields-clause-none c =
    let p = err_from_is_err_and c.from_residual.result c.from_residual.ensures.1 in
    rw p.1 (λ e limits range means.
    let many = c.in_err-fields.ensures.none (sym p.2 ∙ e) (early_ascii c.args.line.now limits range means) in
    omega (arith, many, ap length means))
