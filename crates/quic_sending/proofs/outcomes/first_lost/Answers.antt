use Rattle.std.proofs.Common.{arith, ◌∙◌, rules}
use Rattle.quic_sending.proofs.Answered.{IsLowest-gap, IsLowest-none, minus-pop_min}
use Rattle.quic_sending.proofs.outcomes.first_lost.Goals as goal

pub returns-then-gap-clause-lowest : goal.returns-then-gap-clause-lowest
returns-then-gap-clause-lowest c = IsLowest-gap c.loop-run.called_lost c.args.later.now c.args.prefix c.in-Some.run' _ c.first_gap-gap.result c.in-Some.ensures.run c.in-Some.ensures.lowest (search rules) (search rules) c.first_gap-gap.ensures (omega arith)

pub loop-run-preserved : goal.loop-run-preserved
loop-run-preserved c =
    let step = minus-pop_min c.pop_lowest.result c.loop-run.called_lost c.pop_lowest.new.self c.args.later.now c.args.prefix c.in-Some.run' _ c.first_gap-gap.result c.in-Some.ensures.run c.in-Some.ensures.lowest c.pop_lowest.ensures.run c.pop_lowest.ensures.lowest c.pop_lowest.ensures.others c.pop_lowest.ensures.none (search rules) (search rules) c.first_gap-gap.ensures (omega arith) in
    λ n. step.1 n ∙ c.loop-run.invariant n

pub returns-clause-lowest : goal.returns-clause-lowest
returns-clause-lowest c = IsLowest-none c.loop-run.called_lost c.args.later.now c.args.prefix 0 (λ n lt. absurd (omega arith)) (λ n ge. c.in_default.ensures.none n)
