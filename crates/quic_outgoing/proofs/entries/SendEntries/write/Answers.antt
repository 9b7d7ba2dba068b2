use Rattle.std.proofs.Common.{rules, ◌≡◌, ap, ◌∙◌, Some}
use Rattle.quic_outgoing.specs.Seen.{senders, sender_in}
use Rattle.quic_outgoing.specs.Senders.{first_limit, with_sender}
use Rattle.quic_outgoing.proofs.SenderMaps.{senders-put, with_sender-back}
use Rattle.quic_outgoing.proofs.Frames.{if_ok, where_err}
use Rattle.quic_outgoing.proofs.entries.SendEntries.write.Goals as goal

pub returns-in-Some-clause-ok : goal.returns-in-Some-clause-ok
unfolding senders
returns-in-Some-clause-ok g c =
    let w = first_limit c.args.self.now.side c.args.self.now.first in
    let moved = senders-put w _ _ c.args.id _ ((c.get_mut.follows.holds c.write_of_entry.new.entry).3 (search rules)).0 in
    let held : senders c.args.self.now c.args.id ≡ Some (sender_in (w c.args.id) c.in-Some.entry.now) = search rules in
    let limit : c.first_limit-first_limit.result ≡ w c.args.id = c.first_limit-first_limit.ensures in
    if_ok _ _ c.write_of_entry.result (λ wrote h. record {
      half = sender_in (w c.args.id) c.in-Some.entry.now;
      after = sender_in (w c.args.id) c.write_of_entry.new.entry;
      is_held = held;
      takes = rw (← limit) h;
      is = moved;
    }) c.write_of_entry.ensures.ok

pub returns-in-Some-clause-halves : goal.returns-in-Some-clause-halves
unfolding senders
returns-in-Some-clause-halves g c =
    let w = first_limit c.args.self.now.side c.args.self.now.first in
    let moved = senders-put w _ _ c.args.id _ ((c.get_mut.follows.holds c.write_of_entry.new.entry).3 (search rules)).0 in
    let held : senders c.args.self.now c.args.id ≡ Some (sender_in (w c.args.id) c.in-Some.entry.now) = search rules in
    let limit : c.first_limit-first_limit.result ≡ w c.args.id = c.first_limit-first_limit.ensures in
    where_err c.write_of_entry.result (λ e. moved ∙ ap (λ s. with_sender (senders c.args.self.now) c.args.id (Some s)) (rw (← limit) e) ∙ with_sender-back (senders c.args.self.now) c.args.id _ held) c.write_of_entry.ensures.half
