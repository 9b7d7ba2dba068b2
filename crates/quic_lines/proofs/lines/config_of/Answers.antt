use Rattle.std.proofs.lemmas.Result.{err_from_is_err_and}
use Rattle.quic_lines.proofs.Verbs.{fifth}
use Rattle.quic_lines.proofs.lines.config_of.Goals as goal

pub returns-in_err-var_int-in-len5-2-clause-none : goal.returns-in_err-var_int-in-len5-2-clause-none
returns-in_err-var_int-in-len5-2-clause-none c =
    let p = err_from_is_err_and c.from_residual-in_err-var_int-in-len5-2.result c.from_residual-in_err-var_int-in-len5-2.ensures.1 in
    rw p.1 (λ config range e. c.in_err-var_int-in-len5-2.ensures.none config.stream_receive_window range.4 (fifth (λ field. field.now) c.args.limits.now _ _ _ _ _ _ e))
