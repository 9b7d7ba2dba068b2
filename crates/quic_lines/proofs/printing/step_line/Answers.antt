use Rattle.std.specs.Prelude.{string_bytes}
use Rattle.std.proofs.lemmas.Result.{IfOk-weaker}
use Rattle.quic_lines.proofs.Again.{line_means, same_step}
use Rattle.quic_lines.proofs.printing.step_line.Goals as goal

pub returns-clause-means : goal.returns-clause-means
returns-clause-means c = IfOk-weaker c.text_of.result _ _ (λ line e range. line_means (string_bytes line) c.args.step.now e range) c.text_of.ensures

pub returns-clause-again : goal.returns-clause-again
returns-clause-again c = IfOk-weaker c.text_of.result _ _ (λ line e step range within means. same_step (string_bytes line) c.args.step.now step e range within means) c.text_of.ensures
