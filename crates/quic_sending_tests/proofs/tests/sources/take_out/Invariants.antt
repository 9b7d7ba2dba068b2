use Rattle.std.proofs.Common.{◌≡◌}
use Rattle.quic_sending_tests.proofs.tests.sources.take_out.Given as goal

abbrev pub invariant-loop : goal.invariant-loop
invariant-loop g l = l.left ≡ g.S.BytesSource.ready l.source
