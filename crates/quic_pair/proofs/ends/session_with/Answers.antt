use Rattle.std.proofs.Common.{◌≡◌, ◌∙◌, refl, ap}
use Rattle.quic_streams.specs.Connection.{is_shut}
use Rattle.quic_streams.specs.declared.streams.ConnState.{ConnState}
use Rattle.quic_endpoint.specs.Ends.{EndState, with_world}
use Rattle.quic_retransmits.specs.Pending.{nothing}
use Rattle.quic_history.specs.World.{World, start}
use Rattle.quic_history.specs.Sends.{with_params_given}
use Rattle.quic_history.proofs.Unopened.{given-unopened}
use Rattle.quic_exchange.specs.From.{made_of}
use Rattle.quic_session.specs.Sessions.{Beside, beside_of}
use Rattle.quic_pair.proofs.ends.session_with.Goals as goal

pub returns-in-Ok : goal.returns-in-Ok
returns-in-Ok c =
    let limits = c.args.limits.now in
    let begun = start (made_of c.args.side c.args.own.now) in
    let made = c.in_ok-session.ensures in
    let given = c.in-Ok.ensures in
    record {
      end =
          given.params
          ∙ ap (λ (e : EndState). with_world e (with_params_given e.streams limits)) made.start
          ∙ ap (λ (w : World). record { streams = w; pending = nothing }) (given-unopened begun limits refl refl);
      open_end = ap (λ (b : Beside). is_shut b.conn) given.beside ∙ ap (λ (conn : ConnState). is_shut conn) made.begun;
      token = ap (λ (b : Beside). b.unsettled.next) given.beside ∙ made.token;
    }
