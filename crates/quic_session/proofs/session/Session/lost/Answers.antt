use Rattle.std.proofs.Common.{refl, sym, ap, ◌∙◌, subst, rules, Some, Err}
use Rattle.quic_history.specs.World.{World}
use Rattle.quic_history.specs.History.{From}
use Rattle.quic_streams.specs.Sent.{sent_view}
use Rattle.quic_streams.specs.Settling.{LosesWhole, losses_told}
use Rattle.quic_endpoint.specs.Ends.{EndState}
use Rattle.quic_session.specs.Sessions.{end_of}
use Rattle.quic_session.specs.Tokens.{with_payload}
use Rattle.quic_session.proofs.Payloads.{Kept, none-there, put-none, put-twice}
use Rattle.quic_session.proofs.session.Session.lost.Goals as goal

pub returns-in_default-clause-loses : goal.returns-in_default-clause-loses
returns-in_default-clause-loses c =
    let nothing = none-there c.take.result c.in_default.not-Some in
    let stands = sym c.take.ensures.sent ∙ nothing in
    let token = c.args.token in
    (stands, (refl, c.take.ensures.rest ∙ put-none _ token stands, refl))

pub returns-in-Err-clause-loses : goal.returns-in-Err-clause-loses
returns-in-Err-clause-loses c =
    let token = c.args.token in
    let now = c.put_rest_back.ensures.end in
    let P : EndState → Type 0 = λ e. LosesWhole (end_of c.args.self.now).streams (end_of c.args.self.now).pending (sent_view c.in-Some.payload) (Err (sent_view c.in-Err.rest)) e.streams e.pending in
    rw c.put_rest_back.ensures.error (record {
      sent = c.in-Some.payload;
      rest = c.in-Err.rest;
      stood = sym c.in-Some.ensures.sent;
      loses = subst P (sym now) c.in-Err.ensures.loses;
      kept = c.put_rest_back.ensures.kept ∙ ap (λ (f : Kept). with_payload f token (Some c.in-Err.rest)) c.take.ensures.rest ∙ put-twice _ token (Some c.in-Err.rest);
      from = λ m h f. let Q : World → Type 0 = λ w. From m (losses_told (sent_view c.in-Some.payload) (Err (sent_view c.in-Err.rest)) h) w in
          subst Q (sym (ap (λ x. x.streams) now)) (c.in-Err.ensures.from m h f);
      counts = search rules;
    })
