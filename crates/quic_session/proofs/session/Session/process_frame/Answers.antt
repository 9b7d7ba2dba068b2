use Rattle.std.proofs.Common.{inl, inr, refl, sym, subst, Option}
use Rattle.quic_history.specs.History.{Event, From}
use Rattle.quic_endpoint.specs.Receiving.{with_call_made}
use Rattle.quic_endpoint.specs.Shown.{endpoint_view}
use Rattle.quic_session.specs.Sessions.{end_of}
use Rattle.quic_session.proofs.Directed.{directed-call, misdirected-stays}
use Rattle.quic_session.proofs.session.Session.process_frame.Goals as goal

pub returns-in-Err : goal.returns-in-Err
returns-in-Err c =
    let refused = c.in-Err.ensures.err in
    record {
      receives = inr (inl (record { code = c.in-Err.error.code; misdirected = refused; error = refl; same = refl }));
      from = λ m h f. misdirected-stays (end_of c.args.self.now).streams c.args.frame c.in-Err.error.code c.in-Err.error refused m h (end_of c.args.self.now).streams f;
      others = (refl, refl);
    }

pub returns-in-Ok-clause-from : goal.returns-in-Ok-clause-from
returns-in-Ok-clause-from c = λ m h f.
    let Q : Option Event → Type 0 = λ o. From m (with_call_made o h) (endpoint_view c.receive.new.self).streams in
    subst Q (sym (directed-call c.args.frame c.receive.result c.receive.ensures.receives.may)) (c.receive.ensures.from m h f)
