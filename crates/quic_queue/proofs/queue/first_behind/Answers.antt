use Rattle.std.proofs.Common.{refl, arith}
use Rattle.std.proofs.lemmas.Bool.Decides.{nat_tests}
use Rattle.quic_queue.proofs.Lines.{only_empty}
use Rattle.quic_queue.proofs.queue.first_behind.Goals as goal

pub returns-then-len-eq1-clause-first : goal.returns-then-len-eq1-clause-first
returns-then-len-eq1-clause-first c =
    let m = c.args.levels.now in
    rw (only_empty m.entries (grind (arith, nat_tests, c.len.ensures.len, c.if-len-eq1.true)) c.requires) refl
