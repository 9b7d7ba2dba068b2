use Rattle.std.proofs.Common.{rules, true, false}
use Rattle.quic_outgoing.specs.Outgoing.{first_of}
use Rattle.quic_outgoing.specs.Shown.{outgoing_view}
use Rattle.quic_outgoing.proofs.Woken.{woken-more}
use Rattle.quic_outgoing.proofs.outgoing.OutgoingStreams.add_woken.Goals as goal
use Rattle.quic_outgoing.proofs.outgoing.OutgoingStreams.add_woken.Goals.{then-is_woken+in_ok-push, else-is_woken}

pub loop-index-preserved : goal.loop-index-preserved
unfolding outgoing_view
loop-index-preserved c =
    let more = woken-more (outgoing_view c.args.self.now) (first_of c.args.params.now) (outgoing_view c.args.self.now).side c.args.dir c.loop-index.index c.args.woken.now.items c.loop-index.woken.items c.if-is_woken.woken.items in
    elim c.if-is_woken.branch [
      | then-is_woken+in_ok-push w ↦ more true (search rules) c.loop-index.invariant (search rules)
      | else-is_woken w ↦ more false (search rules) c.loop-index.invariant (search rules)
    ]
