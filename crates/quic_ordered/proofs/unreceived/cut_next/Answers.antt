use Rattle.std.proofs.Common.{arith}
use Rattle.quic_assembler.proofs.Fresh.{cut_step}
use Rattle.quic_ordered.proofs.unreceived.cut_next.Goals as goal

pub returns-clause-cut : goal.returns-clause-cut
returns-clause-cut c = λ whole cut.
    let run = c.in-Some.ensures.run in
    let from = rw c.offset.ensures.value at c.in-Some.ensures.from in
    let lowest = rw c.offset.ensures.value at c.in-Some.ensures.lowest in
    cut_step _ whole _ _ _ _ _ c.in-Some.range.start c.min.result cut c.in_ok-split_fresh.ensures c.cut_below.ensures
    from
    (omega (arith, c.min.ensures, run.some, c.end-end.ensures.value))
    (omega (arith, c.min.ensures, c.end-end.ensures.value))
    (λ k l m. lowest k l m)
    (λ k l m. run.inside k l (omega (arith, c.min.ensures)))
