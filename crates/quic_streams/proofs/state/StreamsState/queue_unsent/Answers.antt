use Rattle.std.proofs.Common.{◌≡◌, ℕ, ap, ◌∙◌, subst}
use Rattle.quic_values.specs.declared.ids.Side.{Side}
use Rattle.quic_values.specs.Ids.{stream_id}
use Rattle.quic_outgoing.specs.Early.{QueuesUnsent}
use Rattle.quic_outgoing.specs.Shown.{outgoing_view}
use Rattle.quic_history.specs.Early.{entry_at, with_entries_put}
use Rattle.quic_streams.proofs.Unsent.{one-more}
use Rattle.quic_streams.proofs.state.StreamsState.queue_unsent.Goals as goal

pub loop-index-preserved : goal.loop-index-preserved
loop-index-preserved c =
    let o = outgoing_view c.args.self.now.outgoing in
    let n = c.loop-index.index in
    let at = c.in_ok-queue_if_unsent.ensures in
    let id : c.new.result ≡ stream_id o.side c.args.dir n = c.new.ensures.number ∙ ap (λ (s : Side). stream_id s c.args.dir n) c.side-side.ensures in
    one-more o o.side c.args.dir n c.args.queue.now c.loop-index.queue c.queue_if_unsent.new.queue at.0
    (subst (λ (i : ℕ). QueuesUnsent (o.halves i) at.0) id at.1) c.loop-index.invariant
    (at.2 ∙ ap (λ i. with_entries_put c.loop-index.queue (entry_at i at.0)) id)
