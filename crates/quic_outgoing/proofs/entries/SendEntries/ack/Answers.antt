use Rattle.std.proofs.Common.{rules, ◌≡◌, ap, ◌∙◌, Some}
use Rattle.quic_outgoing.specs.Seen.{senders, sender_in}
use Rattle.quic_outgoing.specs.Senders.{first_limit, with_sender}
use Rattle.quic_outgoing.proofs.SenderMaps.{senders-put, with_sender-back}
use Rattle.quic_outgoing.proofs.Frames.{if_ok, where_err}
use Rattle.quic_outgoing.proofs.AckSteps.{acks-in}
use Rattle.quic_outgoing.proofs.entries.SendEntries.ack.Goals as goal

pub returns-in-Some-clause-ok : goal.returns-in-Some-clause-ok
unfolding senders
returns-in-Some-clause-ok c =
    let w = first_limit c.args.self.now.side c.args.self.now.first in
    let moved = senders-put w _ _ c.args.id _ ((c.get_mut.follows.holds c.ack_of_entry.new.entry).3 (search rules)).0 in
    let held : senders c.args.self.now c.args.id ≡ Some (sender_in (w c.args.id) c.in-Some.entry.now) = search rules in
    let limit : c.first_limit-limit.result ≡ w c.args.id = c.first_limit-limit.ensures in
    if_ok _ _ c.ack_of_entry.result (λ told h. acks-in _ _ c.args.id c.args.offsets c.args.fin _ _ told held moved (rw (← limit) h)) c.ack_of_entry.ensures.ok

pub returns-in-Some-clause-err : goal.returns-in-Some-clause-err
unfolding senders
returns-in-Some-clause-err c =
    let w = first_limit c.args.self.now.side c.args.self.now.first in
    let moved = senders-put w _ _ c.args.id _ ((c.get_mut.follows.holds c.ack_of_entry.new.entry).3 (search rules)).0 in
    let held : senders c.args.self.now c.args.id ≡ Some (sender_in (w c.args.id) c.in-Some.entry.now) = search rules in
    let limit : c.first_limit-limit.result ≡ w c.args.id = c.first_limit-limit.ensures in
    where_err c.ack_of_entry.result (λ e. moved ∙ ap (λ s. with_sender (senders c.args.self.now) c.args.id (Some s)) (rw (← limit) e) ∙ with_sender-back (senders c.args.self.now) c.args.id _ held) c.ack_of_entry.ensures.err

pub returns-in-Some-clause-memory : goal.returns-in-Some-clause-memory
unfolding senders
returns-in-Some-clause-memory c =
    let w = first_limit c.args.self.now.side c.args.self.now.first in
    let held : senders c.args.self.now c.args.id ≡ Some (sender_in (w c.args.id) c.in-Some.entry.now) = search rules in
    let limit : c.first_limit-limit.result ≡ w c.args.id = c.first_limit-limit.ensures in
    rw (held, ← limit) c.ack_of_entry.ensures.memory
