use Rattle.std.proofs.Common.{None, ap, ◌∙◌, ◌++◌}
use Rattle.quic_values.specs.declared.ids.Dir.TheVariants.{Bi, Uni}
use Rattle.quic_queue.specs.SendOrder.{SendOrder}
use Rattle.quic_outgoing.specs.Outgoing.{Outgoing, first_ids}
use Rattle.quic_outgoing.specs.Early.{with_all_unsent}
use Rattle.quic_outgoing.specs.Shown.{outgoing_view}
use Rattle.quic_history.specs.World.{World}
use Rattle.quic_streams.specs.Shown.{streams_view}
use Rattle.quic_streams.proofs.Unsent.{unsent-both, all-queued}
use Rattle.quic_streams.proofs.state.StreamsState.send_again.Goals as goal

pub returns-clause-sends : goal.returns-clause-sends
unfolding streams_view
returns-clause-sends c = λ none.
    let o = outgoing_view c.args.self.now.outgoing in
    let one = c.in_ok-queue_unsent.ensures in
    let two = c.in_ok-queue_unsent-2.ensures in
    let u = streams_view c.args.self.now in
    let with_both : Outgoing → SendOrder → World = λ a q. record u { out = a; queue = q } in (
      one.0 ++ two.0,
      unsent-both o (first_ids o.side Bi o.own_bi.opened) (first_ids o.side Uni o.own_uni.opened) one.0 two.0 one.1 two.1,
      ap (λ (a : Outgoing). with_both a (record c.queue_unsent-2.new.queue { reserved = None })) (c.unsend_all.ensures.unsends none)
          ∙ ap (with_both (with_all_unsent o)) (all-queued c.args.self.now.queue c.in_ok-queue.queue c.queue_unsent.new.queue c.queue_unsent-2.new.queue one.0 two.0 c.in_ok-queue.ensures one.2 two.2),
    )
