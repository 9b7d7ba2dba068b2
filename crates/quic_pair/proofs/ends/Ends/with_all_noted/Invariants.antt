use Rattle.std.proofs.Common.{◌≡◌}
use Rattle.std.specs.Prelude.{take}
use Rattle.quic_retransmits.specs.Pending.{pending_view}
use Rattle.quic_exchange.specs.Gone.{with_all_noted}
use Rattle.quic_pair.specs.Ends.{ends_view}
use Rattle.quic_pair.proofs.ends.Ends.with_all_noted.Given as goal

abbrev pub invariant-loop-number : goal.invariant-loop-number
invariant-loop-number l = pending_view l.all ≡ with_all_noted (ends_view l.fn.self).a.pending (take l.number (ends_view l.fn.self).sent)
