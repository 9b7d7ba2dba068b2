use Rattle.std.proofs.Common.{rules, ◌≡◌, refl, ap, ◌∙◌, Some}
use Rattle.quic_outgoing.specs.Seen.{senders, sender_in}
use Rattle.quic_outgoing.specs.Senders.{first_limit, with_sender}
use Rattle.quic_outgoing.proofs.SenderMaps.{senders-put, with_sender-back}
use Rattle.quic_outgoing.proofs.Frames.{if_ok, where_err}
use Rattle.quic_outgoing.proofs.entries.SendEntries.finish.Goals as goal

pub returns-in-Some-clause-ok : goal.returns-in-Some-clause-ok
unfolding senders
returns-in-Some-clause-ok c =
    let w = first_limit c.args.self.now.side c.args.self.now.first in
    let moved = senders-put w _ _ c.args.id _ ((c.get_mut.follows.holds c.finish_entry.new.entry).3 (search rules)).0 in
    let held : senders c.args.self.now c.args.id ≡ Some (sender_in (w c.args.id) c.in-Some.entry.now) = search rules in
    let limit : c.first_limit-limit.result ≡ w c.args.id = c.first_limit-limit.ensures in
    if_ok _ _ c.finish_entry.result (λ queue h.
    let is : sender_in (w c.args.id) c.in-Some.entry.now ≡ sender_in c.first_limit-limit.result c.in-Some.entry.now = rw limit refl in
    (sender_in (w c.args.id) c.in-Some.entry.now, held, rw is h.0, rw is h.1, moved ∙ ap (λ s. with_sender (senders c.args.self.now) c.args.id (Some s)) (rw (← limit) h.2))) c.finish_entry.ensures.ok

pub returns-in-Some-clause-halves : goal.returns-in-Some-clause-halves
unfolding senders
returns-in-Some-clause-halves c =
    let w = first_limit c.args.self.now.side c.args.self.now.first in
    let moved = senders-put w _ _ c.args.id _ ((c.get_mut.follows.holds c.finish_entry.new.entry).3 (search rules)).0 in
    let held : senders c.args.self.now c.args.id ≡ Some (sender_in (w c.args.id) c.in-Some.entry.now) = search rules in
    let limit : c.first_limit-limit.result ≡ w c.args.id = c.first_limit-limit.ensures in
    where_err c.finish_entry.result (λ e. moved ∙ ap (λ s. with_sender (senders c.args.self.now) c.args.id (Some s)) (rw (← limit) e) ∙ with_sender-back (senders c.args.self.now) c.args.id _ held) c.finish_entry.ensures.half
