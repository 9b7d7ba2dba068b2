use Rattle.std.proofs.Common.{rules, ◌≡◌, ap, ◌∙◌, Some}
use Rattle.std.specs.HashMap.{get}
use Rattle.std.specs.Prelude.{◌==◌}
use Rattle.quic_outgoing.specs.Seen.{senders, sender_in}
use Rattle.quic_outgoing.specs.Senders.{first_limit, with_sender}
use Rattle.quic_outgoing.proofs.SenderMaps.{senders-put, made-put}
use Rattle.quic_outgoing.proofs.entries.SendEntries.mark.Goals as goal

pub returns-clause-halves : goal.returns-clause-halves
unfolding senders
returns-clause-halves c =
    let w = first_limit c.args.self.now.side c.args.self.now.first in
    let moved = senders-put w _ _ c.args.id _ ((c.get_mut.follows.holds c.mark_entry.new.entry).3 (search rules)).0 in
    let held : senders c.args.self.now c.args.id ≡ Some (sender_in (w c.args.id) c.in-Some.entry.now) = search rules in
    let h = c.mark_entry.ensures.waits (w c.args.id) in
    (sender_in (w c.args.id) c.in-Some.entry.now, held, h.0, moved ∙ ap (λ s. with_sender (senders c.args.self.now) c.args.id (Some s)) h.1)

pub returns-clause-kept : goal.returns-clause-kept
returns-clause-kept c =
    let put = ((c.get_mut.follows.holds c.mark_entry.new.entry).3 (search rules)).0 in
    let held : get ◌==◌ c.args.self.now.entries c.args.id ≡ Some c.in-Some.entry.now = search rules in
    made-put _ _ c.args.id c.in-Some.entry.now c.mark_entry.new.entry held (λ was. c.mark_entry.ensures.kept) put
