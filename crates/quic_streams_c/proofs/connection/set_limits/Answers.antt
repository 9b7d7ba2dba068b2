use Rattle.std.proofs.Common.{refl, inl, inr, ap, ◌∙◌, Option, ℕ, Ok, Err}
use Rattle.quic_session.specs.Sessions.{Beside, beside_of, datagrams_view, with_datagrams, with_max}
use Rattle.quic_streams_c.proofs.connection.set_limits.Goals as goal

pub returns-in-Ok : goal.returns-in-Ok
returns-in-Ok c =
    let p = rw c.in-Ok.is at c.set_params.ensures in
    let d = c.set_max_datagram.ensures in
    let limits = c.in-Some.ensures.1 in
    inr (inl (
      c.in-Some.ensures.0,
      rw limits at p.checks,
      Ok tt,
      record {
        end = d.end ∙ (rw limits at p.params);
        from = λ m h f. rw d.end (rw limits at (p.from m h f));
        beside = d.datagrams ∙ ap (λ (b : Beside). with_datagrams b (with_max b.datagrams c.length_of.result)) p.beside
            ∙ ap (λ (l : Option ℕ). with_datagrams (beside_of c.args.session.now) (with_max (datagrams_view c.args.session.now) l)) c.length_of.ensures;
      },
      λ bi uni. refl,
      refl,
    ))

pub returns-in-Err-OutOfMemory : goal.returns-in-Err-OutOfMemory
returns-in-Err-OutOfMemory c =
    let p = rw (c.in-Err-OutOfMemory.is, c.in-Err-OutOfMemory.field-0-is) at c.set_params.ensures in
    let limits = c.in-Some.ensures.1 in
    inr (inl (c.in-Some.ensures.0, rw limits at p.checks, Err (record {}), ((p.err, p.beside), λ m h f. rw limits at (p.from m h f)), p.free p.checks, refl))
