use Rattle.std.proofs.lemmas.Result.{err_from_is_err_and}
use Rattle.quic_lines.proofs.Verbs.{fifth}
use Rattle.quic_lines.proofs.steps.read.Goals as goal

pub returns-in_err-times-in-len5-clause-none : goal.returns-in_err-times-in-len5-clause-none
returns-in_err-times-in-len5-clause-none c =
    let p = err_from_is_err_and c.from_residual-in_err-times-in-len5.result c.from_residual-in_err-times-in-len5.ensures.1 in
    rw p.1 (λ who id ordered max times low fits some small e. c.in_err-times-in-len5.ensures.none times some small (fifth (λ field. field.now) c.args.arguments.now _ _ _ _ _ _ e))
