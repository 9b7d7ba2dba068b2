use Rattle.std.proofs.Common.{arith}
use Rattle.quic_assembler.proofs.Counts.{with_run_pushed}
use Rattle.quic_assembler.proofs.pieces.compact.push_some.Goals as goal

pub returns-in_ok-push : goal.returns-in_ok-push
returns-in_ok-push c = with_run_pushed _ _ _ (omega arith) c.in_ok-push.ensures.items
