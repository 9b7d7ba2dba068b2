use Rattle.std.proofs.Common.{◌≡◌, ap, ◌∙◌, subst, sym, ◌∷◌, Err}
use Rattle.quic_history.specs.World.{World}
use Rattle.quic_history.specs.History.{Began, From}
use Rattle.quic_endpoint.specs.Shown.{endpoint_view}
use Rattle.quic_endpoint.specs.Ends.{EndState}
use Rattle.quic_endpoint.proofs.Counted.{told-already}
use Rattle.quic_endpoint.proofs.Told.{told-streams}
use Rattle.quic_endpoint.proofs.endpoint.Endpoint.read_reusing.Goals as goal

pub returns-in-Ok-clause-reads : goal.returns-in-Ok-clause-reads
returns-in-Ok-clause-reads c =
    let after : EndState = endpoint_view c.read_stream.new.self in
    record {
      read = after;
      reads = c.in-Ok.ensures.reads;
      is = sym (told-already (endpoint_view c.args.self.now) after c.args.id c.args.max_length c.args.times c.args.ordered _ _ _ c.in-Ok.ensures.reads);
    }

pub returns-in-Err-clause-from_refused : goal.returns-in-Err-clause-from_refused
returns-in-Err-clause-from_refused c = λ m h f.
    let after : EndState = endpoint_view c.read_stream.new.self in
    let streams : EndState → World = λ x. x.streams in
    let e : (endpoint_view c.tell_counts_if.new.self).streams ≡ after.streams = ap streams c.tell_counts_if.ensures ∙ told-streams _ after in
    let P : World → Type 0 = λ w. From m (Began c.args.id c.args.ordered (Err c.in-Err.error) ∷ h) w in
    subst P (sym e) (c.in-Err.ensures.from_refused m h f)
