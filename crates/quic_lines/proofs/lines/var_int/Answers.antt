use Rattle.std.proofs.Common.{arith}
use Rattle.quic_lines.proofs.Numerals.{too_large}
use Rattle.quic_lines.proofs.lines.var_int.Goals as goal

pub returns-clause-none : goal.returns-clause-none
returns-clause-none c = rw c.ok_or.ensures.value (too_large c.args.field.now c.from_u64.result c.in_ok-number.field-0 _ c.from_u64.ensures (omega arith) c.in_ok-number.ensures.text)
