use Rattle.std.proofs.lemmas.Result.{IfErr-weaker, err_from_is_err_and}
use Rattle.quic_lines.proofs.Verbs.{no_verb, no_arguments}
use Rattle.quic_lines.proofs.steps.step_of_fields.Goals as goal

pub returns-in_err-read_verb-in-len1-up-clause-none : goal.returns-in_err-read_verb-in-len1-up-clause-none
returns-in_err-read_verb-in-len1-up-clause-none c =
    let p = err_from_is_err_and c.from_residual.result c.from_residual.ensures.1 in
    rw p.1 (λ e. no_verb (λ field. field.now) c.args.fields.now _ c.in-len1-up.len_at_least c.in_err-read_verb-in-len1-up.ensures.none)

pub returns-in_ok-read_verb-in-len1-up-clause-none : goal.returns-in_ok-read_verb-in-len1-up-clause-none
returns-in_ok-read_verb-in-len1-up-clause-none c =
    IfErr-weaker c.step_of.result _ _ (λ error none e. no_arguments (λ field. field.now) c.args.fields.now _ c.in_ok-read_verb-in-len1-up.field-0 c.in-len1-up.len_at_least c.in_ok-read_verb-in-len1-up.ensures.text (none e)) c.step_of.ensures.none
