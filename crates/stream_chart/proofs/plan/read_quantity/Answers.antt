use Rattle.stream_chart.proofs.Lines.{no_quantity}
use Rattle.stream_chart.proofs.plan.read_quantity.Goals as goal

pub returns-in_default-strip_prefix-7-clause-none : goal.returns-in_default-strip_prefix-7-clause-none
returns-in_default-strip_prefix-7-clause-none c =
    no_quantity c.args.line.now c.in_default.ensures.cases c.in_default-strip_prefix.ensures.cases c.in_default-strip_prefix-2.ensures.cases
    c.in_default-strip_prefix-3.ensures.cases c.in_default-strip_prefix-4.ensures.cases c.in_default-strip_prefix-5.ensures.cases
    c.in_default-strip_prefix-6.ensures.cases c.in_default-strip_prefix-7.ensures.cases
