use Rattle.std.proofs.Common.{rules, ◌≡◌, ap, ◌∙◌, Some}
use Rattle.quic_outgoing.specs.Seen.{senders, sender_in}
use Rattle.quic_outgoing.specs.Senders.{first_limit, with_sender}
use Rattle.quic_outgoing.specs.Waits.{WaitsOn}
use Rattle.quic_outgoing.proofs.SenderMaps.{senders-put, with_sender-back}
use Rattle.quic_outgoing.proofs.Results.{on_err}
use Rattle.quic_outgoing.proofs.entries.SendEntries.wait.Goals as goal

pub returns-in_ok-joins-in-Some-clause-ok : goal.returns-in_ok-joins-in-Some-clause-ok
unfolding senders
returns-in_ok-joins-in-Some-clause-ok c =
    let w = first_limit c.args.self.now.side c.args.self.now.first in
    let moved = senders-put w _ _ c.args.id _ ((c.get_mut.follows.holds c.wait_of_entry.new.entry).3 (search rules)).0 in
    let held : senders c.args.self.now c.args.id ≡ Some (sender_in (w c.args.id) c.in-Some.entry.now) = search rules in
    let limit : c.first_limit-limit.result ≡ w c.args.id = c.first_limit-limit.ensures in
    let h : WaitsOn (sender_in (w c.args.id) c.in-Some.entry.now) c.in_ok-joins-in-Some.joins (sender_in (w c.args.id) c.wait_of_entry.new.entry) = rw (← limit) c.in_ok-joins-in-Some.ensures.ok in
    (sender_in (w c.args.id) c.in-Some.entry.now, held, h.0, moved ∙ ap (λ s. with_sender (senders c.args.self.now) c.args.id (Some s)) h.1)

pub returns-in_err-joins-in-Some-clause-err : goal.returns-in_err-joins-in-Some-clause-err
unfolding senders
returns-in_err-joins-in-Some-clause-err c =
    let w = first_limit c.args.self.now.side c.args.self.now.first in
    let moved = senders-put w _ _ c.args.id _ ((c.get_mut.follows.holds c.wait_of_entry.new.entry).3 (search rules)).0 in
    let held : senders c.args.self.now c.args.id ≡ Some (sender_in (w c.args.id) c.in-Some.entry.now) = search rules in
    let limit : c.first_limit-limit.result ≡ w c.args.id = c.first_limit-limit.ensures in
    on_err _ (moved ∙ ap (λ s. with_sender (senders c.args.self.now) c.args.id (Some s)) (rw (← limit) c.in_err-joins-in-Some.ensures.err) ∙ with_sender-back (senders c.args.self.now) c.args.id _ held)
