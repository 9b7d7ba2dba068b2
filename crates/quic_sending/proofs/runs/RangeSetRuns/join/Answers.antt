use Rattle.std.proofs.Common.{arith}
use Rattle.quic_sending.proofs.Sets.{Joins-step}
use Rattle.quic_sending.proofs.runs.RangeSetRuns.join.Goals as goal

pub loop-start-preserved : goal.loop-start-preserved
loop-start-preserved c =
    let step =
    Joins-step
    c.args.self.now c.loop-start.self c.pop_min.new.self c.args.low c.loop-start.reached c.in-Some.start c.in-Some-pop_min.run'
    c.in-Some-pop_min.ensures.run c.in-Some-pop_min.ensures.lowest c.in-Some-pop_min.ensures.others
    c.in-Some.ensures.found (omega arith) c.loop-start.invariant.below c.loop-start.invariant.same in
    record { below = step.1; same = step.2 }
