use Rattle.std.proofs.Common.{◌≡◌, ap, ◌∙◌, subst, sym, ◌∷◌}
use Rattle.quic_history.specs.World.{World}
use Rattle.quic_history.specs.History.{Stopped, From}
use Rattle.quic_history.proofs.Histories.{next}
use Rattle.quic_endpoint.specs.Shown.{endpoint_view}
use Rattle.quic_endpoint.specs.Ends.{EndState, with_counts_told_if}
use Rattle.quic_endpoint.proofs.Told.{told-streams}
use Rattle.quic_endpoint.proofs.endpoint.Endpoint.stop.Goals as goal

pub returns-clause-stops : goal.returns-clause-stops
returns-clause-stops c =
    let after : EndState = endpoint_view c.stop_stream-answer.new.self in
    record { stopped = after; stops = c.stop_stream-answer.ensures; is = c.tell_counts_if.ensures ∙ ap (λ b. with_counts_told_if b after) c.is_handled.ensures }

pub returns-clause-from : goal.returns-clause-from
returns-clause-from c = λ m h f.
    let old : EndState = endpoint_view c.args.self.now in
    let after : EndState = endpoint_view c.stop_stream-answer.new.self in
    let e : (endpoint_view c.tell_counts_if.new.self).streams ≡ after.streams = ap (λ x. x.streams) c.tell_counts_if.ensures ∙ told-streams _ after in
    let P : World → Type 0 = λ w. From m (Stopped c.args.id c.args.error_code c.stop_stream-answer.result ∷ h) w in
    subst P (sym e) (next m h old.streams (Stopped c.args.id c.args.error_code c.stop_stream-answer.result) after.streams tt f (old.pending, after.pending, c.stop_stream-answer.ensures))
