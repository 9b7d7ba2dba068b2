use Rattle.std.proofs.lemmas.Result.{err_from_is_err_and}
use Rattle.quic_lines.proofs.Verbs.{sixth, all_six}
use Rattle.quic_lines.proofs.lines.remembered_of.Goals as goal

pub returns-in_err-var_int-in-len6-4-clause-none : goal.returns-in_err-var_int-in-len6-4-clause-none
returns-in_err-var_int-in-len6-4-clause-none c =
    let p = err_from_is_err_and c.from_residual-in_err-var_int-in-len6-4.result c.from_residual-in_err-var_int-in-len6-4.ensures.1 in
    rw p.1 (λ l range e. c.in_err-var_int-in-len6-4.ensures.none l.initial_max_stream_data_bidi_remote range.5 (sixth (λ field. field.now) c.args.limits.now _ _ _ _ _ _ _ e))

pub returns-in_ok-var_int-in-len6-4-clause-text : goal.returns-in_ok-var_int-in-len6-4-clause-text
returns-in_ok-var_int-in-len6-4-clause-text c =
    all_six (λ field. field.now) c.args.limits.now _ _ _ _ _ _ _ c.in-len6.len_at_least c.in-len6.len_below c.in_ok-var_int-in-len6.ensures.text c.in_ok-count-in-len6.ensures.text c.in_ok-count-in-len6-2.ensures.text
    c.in_ok-var_int-in-len6-2.ensures.text c.in_ok-var_int-in-len6-3.ensures.text c.in_ok-var_int-in-len6-4.ensures.text
