use Rattle.std.proofs.Common.{◌≡◌, ◌∙◌, ℕ, List, [], ◌∷◌, sym, ap, drop}
use Rattle.std.specs.Prelude.{Option, Some, None, MatchOption}
use Rattle.quic_wire.specs.declared.frame.Datagram.{Datagram}
use Rattle.quic_datagrams.specs.declared.datagrams.DatagramState.{DatagramState}
use Rattle.quic_session.specs.Sessions.{oldest_received, beside_of, datagrams_view}
use Rattle.quic_session.proofs.session.Session.recv_datagram.Goals as goal

-- what taking the oldest datagram out of a queue says
abbrev Takes : Option (List ℕ) → DatagramState → DatagramState → Type 0
Takes r old new = MatchOption r ((old.incoming ≡ []) × (new ≡ old)) (λ bytes. old ≡ record new { incoming = record { bytes = bytes } ∷ new.incoming })

is-oldest : (r : Option (List ℕ)) (old new : DatagramState) → Takes r old new → r ≡ oldest_received old.incoming
is-oldest None old new t = sym (ap oldest_received t.0)
is-oldest (Some bytes) old new t = sym (ap (λ (d : DatagramState). oldest_received d.incoming) t)

is-out : (r : Option (List ℕ)) (old new : DatagramState) → Takes r old new → new ≡ record old { incoming = drop 1 old.incoming }
is-out None old new t = t.1 ∙ ap (λ (q : List Datagram). record old { incoming = q }) t.0 ∙ sym (ap (λ (q : List Datagram). record old { incoming = drop 1 q }) t.0)
is-out (Some bytes) old new t = sym (ap (λ (d : DatagramState). record d { incoming = drop 1 d.incoming }) t)

pub returns-clause-oldest : goal.returns-clause-oldest
returns-clause-oldest c = is-oldest c.recv.result c.args.self.now.datagrams c.recv.new.self c.recv.ensures

pub returns-clause-datagrams : goal.returns-clause-datagrams
returns-clause-datagrams c =
    let old = c.args.self.now in
    ap (λ (d : DatagramState). record (beside_of old) { datagrams = record (datagrams_view old) { state = d } }) (is-out c.recv.result old.datagrams c.recv.new.self c.recv.ensures)
