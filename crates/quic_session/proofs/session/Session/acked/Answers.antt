use Rattle.std.proofs.Common.{refl, sym, ap, ◌∙◌, Some, Err, subst}
use Rattle.quic_streams.specs.Sent.{sent_view}
use Rattle.quic_streams.specs.Settling.{AcksWhole, acks_told}
use Rattle.quic_history.specs.World.{World}
use Rattle.quic_history.specs.History.{From}
use Rattle.quic_session.specs.Sessions.{end_of}
use Rattle.quic_session.specs.Tokens.{with_payload}
use Rattle.quic_session.proofs.Payloads.{Kept, none-there, put-none, put-twice}
use Rattle.quic_session.proofs.session.Session.acked.Goals as goal

pub returns-in_default-clause-acks : goal.returns-in_default-clause-acks
returns-in_default-clause-acks c =
    let nothing = none-there c.take.result c.in_default.not-Some in
    let stands = sym c.take.ensures.sent ∙ nothing in
    let token = c.args.token in
    (stands, (refl, c.take.ensures.rest ∙ put-none _ token stands, refl))

pub returns-in-Ok-clause-acks : goal.returns-in-Ok-clause-acks
returns-in-Ok-clause-acks c =
    let a = c.in-Ok.ensures.acks in
    record {
      sent = c.in-Some.payload;
      stood = sym c.in-Some.ensures.sent;
      acked = a.acked;
      acks = a.acks;
      pending = a.pending;
      is = a.is;
      settled = c.take.ensures.rest;
      from = c.in-Ok.ensures.from;
      counts = refl;
    }

pub returns-in-Err-clause-acks : goal.returns-in-Err-clause-acks
returns-in-Err-clause-acks c =
    let token = c.args.token in
    let now = c.put_rest_back.ensures.end in
    let a = c.in-Err.ensures.acks in
    let whole = ap (λ x. x.streams) now ∙ ap (λ x. x.streams) a.is in
    let P : World → Type 0 = λ w. AcksWhole (end_of c.args.self.now).streams (sent_view c.in-Some.payload) (Err (sent_view c.in-Err.rest)) w in
    rw c.put_rest_back.ensures.error (record {
      sent = c.in-Some.payload;
      rest = c.in-Err.rest;
      stood = sym c.in-Some.ensures.sent;
      acks = subst P (sym whole) a.acks;
      pending = ap (λ x. x.pending) now ∙ ap (λ x. x.pending) a.is ∙ a.pending;
      kept = c.put_rest_back.ensures.kept ∙ ap (λ (f : Kept). with_payload f token (Some c.in-Err.rest)) c.take.ensures.rest ∙ put-twice _ token (Some c.in-Err.rest);
      from = λ m h f. let Q : World → Type 0 = λ w. From m (acks_told (sent_view c.in-Some.payload) (Err (sent_view c.in-Err.rest)) h) w in
          subst Q (sym (ap (λ x. x.streams) now)) (c.in-Err.ensures.from m h f);
      counts = c.put_rest_back.ensures.counts;
    })
