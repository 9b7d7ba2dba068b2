use Rattle.std.proofs.Common.{◌≡◌, ap, ◌∙◌, subst, sym, ◌∷◌}
use Rattle.quic_history.specs.World.{World}
use Rattle.quic_history.specs.History.{ToldReset, From}
use Rattle.quic_history.proofs.Histories.{next}
use Rattle.quic_endpoint.specs.Shown.{endpoint_view}
use Rattle.quic_endpoint.specs.Ends.{EndState, with_counts_told_if}
use Rattle.quic_endpoint.proofs.Told.{told-streams}
use Rattle.quic_endpoint.proofs.endpoint.Endpoint.received_reset.Goals as goal

pub returns-clause-tells : goal.returns-clause-tells
returns-clause-tells c =
    let after : EndState = endpoint_view c.take_reset-answer.new.self in
    record { asked = after; tells = c.take_reset-answer.ensures; is = c.tell_counts_if.ensures ∙ ap (λ b. with_counts_told_if b after) c.is_handled.ensures }

pub returns-clause-from : goal.returns-clause-from
returns-clause-from c = λ m h f.
    let old : EndState = endpoint_view c.args.self.now in
    let after : EndState = endpoint_view c.take_reset-answer.new.self in
    let e : (endpoint_view c.tell_counts_if.new.self).streams ≡ after.streams = ap (λ x. x.streams) c.tell_counts_if.ensures ∙ told-streams _ after in
    let P : World → Type 0 = λ w. From m (ToldReset c.args.id c.take_reset-answer.result ∷ h) w in
    subst P (sym e) (next m h old.streams (ToldReset c.args.id c.take_reset-answer.result) after.streams tt f (old.pending, after.pending, c.take_reset-answer.ensures))
