use Rattle.std.proofs.Common.{rules, ◌≡◌, refl, sym, ap, ◌∙◌, [], ◌∷◌, ◌++◌, false}
use Rattle.std.proofs.lemmas.List.{append-nil, append_assoc}
use Rattle.std.proofs.lemmas.List.Elements.{All-cons}
use Rattle.quic_outgoing.specs.Shown.{outgoing_view}
use Rattle.quic_outgoing.specs.Seen.{senders}
use Rattle.quic_outgoing.specs.Calls.{can_take, unmarked}
use Rattle.quic_outgoing.proofs.Marks.{marks-none, marks-more, can_take-marks, all-none}
use Rattle.quic_outgoing.proofs.outgoing.OutgoingStreams.next_writable.Goals as goal

pub loop-id-init : goal.loop-id-init
loop-id-init c = ([], sym (append-nil c.args.self.now.blocked.items), all-none _, marks-none (senders c.args.self.now.halves), refl, refl, refl, refl, refl)

pub returns-then-can_take : goal.returns-then-can_take
unfolding outgoing_view
returns-then-can_take c =
    let i = c.loop-id.invariant in
    let f = senders c.args.self.now.halves in
    let id = c.in-Some.id in
    let can = sym (can_take-marks f i.0 id) ∙ sym (ap (λ g. can_take (g id)) i.3) ∙ sym c.can_take-can_take.ensures ∙ c.if-can_take.true in
    let items = i.1 ∙ ap (λ b. b ++ i.0) c.in-Some.ensures.items ∙ append_assoc c.pop.new.self.items (id ∷ []) i.0 in
    let marks = c.unmark.ensures.halves ∙ ap (λ g. unmarked g id) i.3 ∙ marks-more f id i.0 in (
      search rules,
      can,
      c.pop.new.self.items,
      i.0,
      items,
      i.2,
      rw (marks, c.unmark.ensures.side, c.unmark.ensures.first, i.4, i.5, i.6, i.7, i.8) refl,
    )

pub loop-id-preserved : goal.loop-id-preserved
loop-id-preserved c =
    let i = c.loop-id.invariant in
    let f = senders c.args.self.now.halves in
    let id = c.in-Some.id in
    let can = sym (can_take-marks f i.0 id) ∙ sym (ap (λ g. can_take (g id)) i.3) ∙ sym c.can_take-can_take.ensures ∙ c.if-can_take.false in (
      id ∷ i.0,
      i.1 ∙ ap (λ b. b ++ i.0) c.in-Some.ensures.items ∙ append_assoc c.pop.new.self.items (id ∷ []) i.0,
      All-cons (λ q. can_take (f q) ≡ false) id i.0 can i.2,
      c.unmark.ensures.halves ∙ ap (λ g. unmarked g id) i.3 ∙ marks-more f id i.0,
      c.unmark.ensures.side ∙ i.4,
      c.unmark.ensures.first ∙ i.5,
      i.6,
      i.7,
      i.8,
    )
