use Rattle.std.proofs.Common.{◌∙◌, ap, arith, length, sym}
use Rattle.std.proofs.lemmas.Result.{err_from_is_err_and}
use Rattle.quic_lines.proofs.Texts.{step_ascii}
use Rattle.quic_lines.proofs.Verbs.{few_fields}
use Rattle.quic_lines.proofs.steps.parse_step.Goals as goal

pub returns-in_err-fields-clause-none : goal.returns-in_err-fields-clause-none
returns-in_err-fields-clause-none c =
    let p = err_from_is_err_and c.from_residual.result c.from_residual.ensures.1 in
    rw p.1 (λ e step range means.
    let many = c.in_err-fields.ensures.none (sym p.2 ∙ e) (step_ascii c.args.line.now step range means) in
    omega (arith, many, ap length means, few_fields step))
