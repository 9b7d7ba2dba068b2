use Rattle.std.proofs.Common.{rules, sym, ap, ◌∙◌, Some, is_some}
use Rattle.quic_outgoing.specs.Seen.{senders, sender_in}
use Rattle.quic_outgoing.specs.Senders.{first_limit, with_sender, new_sender}
use Rattle.quic_outgoing.proofs.SenderMaps.{senders-put, entry_sender, with_sender-back, is-there}
use Rattle.quic_outgoing.proofs.Results.{on_err}
use Rattle.quic_outgoing.proofs.entries.SendEntries.take.Goals as goal

pub returns-in_err-half-in-None-used-clause-err : goal.returns-in_err-half-in-None-used-clause-err
unfolding senders
returns-in_err-half-in-None-used-clause-err c =
    let w = first_limit c.args.self.now.side c.args.self.now.first in
    let moved = senders-put w _ _ c.args.id _ ((c.get_mut.follows.holds c.take-used.new.self).3 (search rules)).0 in
    let none = sym c.take-used.ensures.value ∙ c.in-None-used.is in
    on_err _ (moved ∙ ap (λ o. with_sender (senders c.args.self.now) c.args.id (entry_sender (w c.args.id) (Some o))) c.take-used.ensures.after
    ∙ with_sender-back (senders c.args.self.now) c.args.id _ (ap (entry_sender (w c.args.id)) (sym c.in-Some.ensures.value) ∙ ap (λ o. Some (sender_in (w c.args.id) o)) none))

pub returns-in-Some-used-clause-halves : goal.returns-in-Some-used-clause-halves
unfolding senders
returns-in-Some-used-clause-halves c =
    let w = first_limit c.args.self.now.side c.args.self.now.first in
    let moved = senders-put w _ _ c.args.id _ ((c.get_mut.follows.holds c.take-used.new.self).3 (search rules)).0 in
    moved ∙ ap (λ o. with_sender (senders c.args.self.now) c.args.id (entry_sender (w c.args.id) (Some o))) c.take-used.ensures.after

pub returns-in_ok-half-in-None-used-clause-halves : goal.returns-in_ok-half-in-None-used-clause-halves
unfolding senders
returns-in_ok-half-in-None-used-clause-halves c =
    let w = first_limit c.args.self.now.side c.args.self.now.first in
    let moved = senders-put w _ _ c.args.id _ ((c.get_mut.follows.holds c.take-used.new.self).3 (search rules)).0 in
    moved ∙ ap (λ o. with_sender (senders c.args.self.now) c.args.id (entry_sender (w c.args.id) (Some o))) c.take-used.ensures.after

pub returns-in-Some-used-clause-there : goal.returns-in-Some-used-clause-there
unfolding senders
returns-in-Some-used-clause-there c =
    let w = first_limit c.args.self.now.side c.args.self.now.first in
    let moved = senders-put w _ _ c.args.id _ ((c.get_mut.follows.holds c.take-used.new.self).3 (search rules)).0 in
    ap (λ f. is_some (f c.args.id)) (moved ∙ ap (λ o. with_sender (senders c.args.self.now) c.args.id (entry_sender (w c.args.id) (Some o))) c.take-used.ensures.after)
    ∙ is-there (senders c.args.self.now) c.args.id (new_sender (w c.args.id))

pub returns-in_ok-half-in-None-used-clause-there : goal.returns-in_ok-half-in-None-used-clause-there
unfolding senders
returns-in_ok-half-in-None-used-clause-there c =
    let w = first_limit c.args.self.now.side c.args.self.now.first in
    let moved = senders-put w _ _ c.args.id _ ((c.get_mut.follows.holds c.take-used.new.self).3 (search rules)).0 in
    ap (λ f. is_some (f c.args.id)) (moved ∙ ap (λ o. with_sender (senders c.args.self.now) c.args.id (entry_sender (w c.args.id) (Some o))) c.take-used.ensures.after)
    ∙ is-there (senders c.args.self.now) c.args.id (new_sender (w c.args.id))
