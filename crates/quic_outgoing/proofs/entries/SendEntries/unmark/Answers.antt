use Rattle.std.proofs.Common.{rules, ◌≡◌, ◌∙◌, Some, None, inl}
use Rattle.quic_outgoing.specs.Seen.{senders, sender_in}
use Rattle.quic_outgoing.specs.Senders.{first_limit}
use Rattle.quic_outgoing.proofs.SenderMaps.{senders-put}
use Rattle.quic_outgoing.proofs.Marks.{unmarked-some, unmarked-unused}
use Rattle.quic_outgoing.proofs.entries.SendEntries.unmark.Goals as goal

pub returns-in-Some-clause-halves : goal.returns-in-Some-clause-halves
unfolding senders
returns-in-Some-clause-halves c =
    let w = first_limit c.args.self.now.side c.args.self.now.first in
    let moved = senders-put w _ _ c.args.id _ ((c.get_mut.follows.holds c.unmark_entry.new.entry).3 (search rules)).0 in
    let held : senders c.args.self.now c.args.id ≡ Some (sender_in (w c.args.id) c.in-Some.entry.now) = search rules in
    moved ∙ unmarked-some (senders c.args.self.now) c.args.id _ _ held (c.unmark_entry.ensures (w c.args.id))

pub returns-in-None-clause-halves : goal.returns-in-None-clause-halves
unfolding senders
returns-in-None-clause-halves c =
    let none : senders c.args.self.now c.args.id ≡ None = search rules in
    let same : senders (record c.args.self.now { entries = c.get_mut.follows.lender-at-none }) ≡ senders c.args.self.now = search rules in
    same ∙ unmarked-unused (senders c.args.self.now) c.args.id 0 (inl none)
