use Rattle.std.proofs.Common.{◌≡◌}
use Rattle.std.specs.Vec.Iter.{into_iter_items}
use Rattle.quic_retransmits.specs.Pending.{pending_view, nothing, collected}
use Rattle.quic_retransmits.proofs.retransmits.Retransmits.collect.Given as goal

abbrev pub invariant-loop-part : goal.invariant-loop-part
invariant-loop-part l = collected (pending_view l.all) (into_iter_items l.part-iterator) ≡ collected nothing l.fn.list.items
