use Rattle.std.proofs.Common.{◌≡◌, ◌++◌}
use Rattle.quic_outgoing.specs.Outgoing.{first_ids, first_of}
use Rattle.quic_outgoing.specs.Params.{woken_among}
use Rattle.quic_outgoing.specs.Shown.{outgoing_view}
use Rattle.quic_outgoing.proofs.outgoing.OutgoingStreams.add_woken.Given as goal

abbrev pub invariant-loop-index : goal.invariant-loop-index
invariant-loop-index l = l.woken.items ≡ l.fn.woken.items ++ woken_among (outgoing_view l.self) (first_of l.params) (first_ids (outgoing_view l.self).side l.dir l.index)
