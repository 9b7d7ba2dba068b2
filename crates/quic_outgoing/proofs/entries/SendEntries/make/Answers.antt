use Rattle.std.proofs.Common.{rules, ◌≡◌, ap, ◌∙◌, Some}
use Rattle.std.specs.HashMap.{get}
use Rattle.std.specs.Prelude.{◌==◌}
use Rattle.quic_outgoing.specs.Seen.{senders, sender_in}
use Rattle.quic_outgoing.specs.Senders.{first_limit, with_sender}
use Rattle.quic_outgoing.proofs.SenderMaps.{senders-put, with_sender-back, made-put}
use Rattle.quic_outgoing.proofs.entries.SendEntries.make.Goals as goal

pub returns-in-Some-clause-kept : goal.returns-in-Some-clause-kept
returns-in-Some-clause-kept c =
    let put = ((c.get_mut.follows.holds c.make_entry.new.entry).3 (search rules)).0 in
    let held : get ◌==◌ c.args.self.now.entries c.args.id ≡ Some c.in-Some.entry.now = search rules in
    made-put _ _ c.args.id c.in-Some.entry.now c.make_entry.new.entry held c.make_entry.ensures.kept put

pub returns-in-Some-clause-halves : goal.returns-in-Some-clause-halves
unfolding senders
returns-in-Some-clause-halves c =
    let w = first_limit c.args.self.now.side c.args.self.now.first in
    let moved = senders-put w _ _ c.args.id _ ((c.get_mut.follows.holds c.make_entry.new.entry).3 (search rules)).0 in
    let held : senders c.args.self.now c.args.id ≡ Some (sender_in (w c.args.id) c.in-Some.entry.now) = search rules in
    let limit : c.first_limit-limit.result ≡ w c.args.id = c.first_limit-limit.ensures in
    moved ∙ ap (λ s. with_sender (senders c.args.self.now) c.args.id (Some s)) (rw (← limit) c.make_entry.ensures.same) ∙ with_sender-back (senders c.args.self.now) c.args.id _ held
