use Rattle.std.proofs.Common.{arith}
use Rattle.quic_lines.proofs.Numerals.{one_number}
use Rattle.quic_lines.proofs.lines.times.Goals as goal

pub returns-then-times-eq0-clause-none : goal.returns-then-times-eq0-clause-none
returns-then-times-eq0-clause-none c = λ n some small form.
    let same = one_number c.args.field.now c.in_ok-times.times n (omega arith) (omega (arith, small)) c.in_ok-times.ensures.text form in
    omega (arith, c.then-times-eq0.either, same, some, small)
