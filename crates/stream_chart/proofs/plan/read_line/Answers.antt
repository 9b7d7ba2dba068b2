use Rattle.stream_chart.proofs.Lines.{no_other}
use Rattle.stream_chart.proofs.plan.read_line.Goals as goal

pub returns-in_err-number-clause-none : goal.returns-in_err-number-clause-none
returns-in_err-number-clause-none c =
    rw c.from_residual-in_err-number.ensures
    (λ quantity number says. no_other c.args.line.now c.in_ok-quantity.text.now c.in_ok-quantity.quantity quantity c.in_ok-quantity.ensures.named c.in_err-number.ensures.none number says)
