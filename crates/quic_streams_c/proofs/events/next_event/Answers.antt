use Rattle.std.proofs.Common.{ap, subst, ◌∙◌, Option}
use Rattle.quic_session.specs.declared.datagrams.DatagramEvent.{DatagramEvent}
use Rattle.quic_session.specs.Users.{UsersView, users_view}
use Rattle.quic_streams_c.specs.Events.{TellsEvent, TellsStreams}
use Rattle.quic_streams_c.proofs.events.next_event.Goals as goal

pub returns-in-None : goal.returns-in-None
returns-in-None c =
    let n = c.in-None.ensures in
    let answer = c.next_of_streams.result in
    let after = c.next_of_streams.new.session in
    let p = c.next_of_streams.ensures.polls in
    let T : UsersView → Type 0 = λ u. TellsStreams u p.told answer after in
    subst (λ (e : Option DatagramEvent). TellsEvent e c.args.session.now answer after) n.event (
      record {
        told = p.told;
        polls = rw n.end at p.polls;
        pending = rw n.end at p.pending;
        from = λ m h f. p.from m h (rw n.end f);
        tells = subst T (ap users_view n.users) p.tells;
      },
      c.next_of_streams.ensures.beside ∙ n.told,
    )
