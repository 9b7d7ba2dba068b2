use Rattle.std.proofs.Common.{◌≡◌, ap, ◌∙◌, refl, subst, sym}
use Rattle.quic_history.specs.World.{World}
use Rattle.quic_history.specs.History.{From}
use Rattle.quic_streams.specs.Shown.{streams_view}
use Rattle.quic_streams.specs.Sent.{sent_view, report_view}
use Rattle.quic_streams.specs.Settling.{acks_told}
use Rattle.quic_retransmits.specs.Pending.{pending_view}
use Rattle.quic_endpoint.specs.Shown.{endpoint_view}
use Rattle.quic_endpoint.specs.Ends.{EndState, with_counts_told_if}
use Rattle.quic_endpoint.proofs.Told.{told-streams, report-ok}
use Rattle.quic_endpoint.proofs.endpoint.Endpoint.acknowledge.Goals as goal

pub returns-clause-acks : goal.returns-clause-acks
unfolding endpoint_view
returns-clause-acks c =
    let after : EndState = record { streams = streams_view c.acked-answer.new.self; pending = pending_view c.args.self.now.pending } in
    record {
      acked = after;
      acks = c.acked-answer.ensures.acks;
      pending = refl;
      is = c.tell_counts_if.ensures ∙ ap (λ b. with_counts_told_if b after) (c.is_ok.ensures.value ∙ sym (report-ok c.acked-answer.result));
    }

pub returns-clause-from : goal.returns-clause-from
unfolding endpoint_view
returns-clause-from c = λ m h f.
    let after : EndState = record { streams = streams_view c.acked-answer.new.self; pending = pending_view c.args.self.now.pending } in
    let e : (endpoint_view c.tell_counts_if.new.self).streams ≡ after.streams = ap (λ x. x.streams) c.tell_counts_if.ensures ∙ told-streams _ after in
    let P : World → Type 0 = λ w. From m (acks_told (sent_view c.args.sent) (report_view c.acked-answer.result) h) w in
    subst P (sym e) (c.acked-answer.ensures.from m h f)
