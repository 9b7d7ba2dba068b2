use Rattle.std.proofs.Common.{◌≡◌, ap, ◌∙◌, subst, sym}
use Rattle.quic_history.specs.World.{World}
use Rattle.quic_history.specs.History.{From}
use Rattle.quic_endpoint.specs.Shown.{endpoint_view}
use Rattle.quic_endpoint.specs.Ends.{EndState}
use Rattle.quic_endpoint.specs.Receiving.{AccountsFrame, event_of, with_call_made}
use Rattle.quic_endpoint.proofs.Told.{answer-streams, goes-on, event-fits}
use Rattle.quic_endpoint.proofs.endpoint.Endpoint.receive.Goals as goal

pub returns-clause-from : goal.returns-clause-from
returns-clause-from c = λ m h f.
    let after : EndState = endpoint_view c.take_frame-answer.new.self in
    let e : (endpoint_view c.tell_answer.new.self).streams ≡ after.streams = ap (λ x. x.streams) c.tell_answer.ensures ∙ answer-streams _ after in
    let P : World → Type 0 = λ w. From m (with_call_made (event_of c.args.frame c.take_frame-answer.result) h) w in
    subst P (sym e) (goes-on m h (endpoint_view c.args.self.now).streams after.streams (event_of c.args.frame c.take_frame-answer.result) (event-fits c.args.frame c.take_frame-answer.result h) f c.take_frame-answer.ensures.call)

pub returns-clause-accounts : goal.returns-clause-accounts
returns-clause-accounts c =
    let after : EndState = endpoint_view c.take_frame-answer.new.self in
    let e : (endpoint_view c.tell_answer.new.self).streams ≡ after.streams = ap (λ x. x.streams) c.tell_answer.ensures ∙ answer-streams _ after in
    let P : World → Type 0 = λ w. AccountsFrame (endpoint_view c.args.self.now).streams c.args.frame c.args.payload_len c.take_frame-answer.result w in
    subst P (sym e) c.take_frame-answer.ensures.accounts
