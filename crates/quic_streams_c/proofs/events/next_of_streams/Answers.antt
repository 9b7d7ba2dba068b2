use Rattle.std.proofs.Common.{◌≡◌, ap, subst, ◌∙◌, sym, List, ◌∷◌, Option, Some, None}
use Rattle.std.specs.Prelude.{option_map}
use Rattle.quic_wire.specs.declared.event.StreamEvent.{StreamEvent}
use Rattle.quic_history.specs.World.{World}
use Rattle.quic_history.specs.History.{Sending, From}
use Rattle.quic_history.specs.SendEvents.{Polled}
use Rattle.quic_history.specs.Sends.{TellsNext}
use Rattle.quic_endpoint.specs.Ends.{EndState}
use Rattle.quic_session.specs.Sessions.{end_of}
use Rattle.quic_session.specs.Users.{UsersView, users_view}
use Rattle.quic_streams_c.specs.declared.events.RawEvent.{RawEvent}
use Rattle.quic_streams_c.specs.Events.{closed_event_at, over_in}
use Rattle.quic_streams_c.proofs.events.next_of_streams.Goals as goal

pub returns-in-Some-clause-polls : goal.returns-in-Some-clause-polls
returns-in-Some-clause-polls c =
    let p = c.in-Some.ensures in
    record {
      told = Some c.in-Some.told;
      polls = p.polls;
      pending = p.pending;
      from = p.from;
      tells = (ap (λ (e : RawEvent). Some e) c.event_of.ensures, p.users);
    }

pub returns-in-None-clause-polls : goal.returns-in-None-clause-polls
returns-in-None-clause-polls c =
    let p = c.in-None.ensures in
    let q = c.next_closed.ensures in
    let s = c.args.session.now in
    let answer = c.next_closed.result in
    let after = c.next_closed.new.session in
    let no_event : Option StreamEvent = None in
    let same = sym q.end in
    let Polls : EndState → Type 0 = λ e. TellsNext (end_of s).streams no_event e.streams in
    let Tells : EndState → UsersView → Type 0 = λ e u. (answer ≡ option_map closed_event_at (over_in e u).0) × (users_view after.users ≡ (over_in e u).1) in
    let tells_end : EndState → Type 0 = λ e. Tells e (users_view c.poll.new.self.users) in
    let tells_users : UsersView → Type 0 = λ u. Tells (end_of after) u in
    record {
      told = no_event;
      polls = subst Polls same p.polls;
      pending = ap (λ (e : EndState). e.pending) q.end ∙ p.pending;
      from = λ m h f. let Q : EndState → Type 0 = λ e. From m (Sending (Polled no_event) ∷ h) e.streams in subst Q same (p.from m h f);
      tells = subst tells_users p.users (subst tells_end same (q.answer, q.users));
    }
