use Rattle.std.proofs.Common.{arith}
use Rattle.quic_lines.proofs.Numerals.{one_number}
use Rattle.quic_lines.proofs.lines.count.Goals as goal

pub returns-then-into_inner-gt-MAX_STREAM_COUNT-clause-none : goal.returns-then-into_inner-gt-MAX_STREAM_COUNT-clause-none
returns-then-into_inner-gt-MAX_STREAM_COUNT-clause-none c = λ n small form.
    let same = one_number c.args.field.now c.in_ok-count.count n (omega arith) (omega (arith, small)) c.in_ok-count.ensures.text form in
    omega (arith, same, small, c.if-into_inner-gt-MAX_STREAM_COUNT.true, c.into_inner.ensures.same)
