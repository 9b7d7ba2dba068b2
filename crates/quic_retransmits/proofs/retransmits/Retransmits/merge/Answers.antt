use Rattle.std.proofs.Common.{◌∙◌, ap}
use Rattle.quic_retransmits.specs.Pending.{Pending, pending_view, merged}
use Rattle.quic_retransmits.proofs.Merging.{merged-nothing, nothing-merged}
use Rattle.quic_retransmits.proofs.retransmits.Retransmits.merge.Goals as goal

pub returns-clause-with_nothing : goal.returns-clause-with_nothing
returns-clause-with_nothing c =
    λ empty.
    c.take_in.ensures
    ∙ ap (λ (here : Pending). merged here (pending_view c.args.other)) c.make_room.ensures.same
    ∙ ap (merged (pending_view c.args.self.now)) empty
    ∙ merged-nothing (pending_view c.args.self.now)

pub returns-clause-onto_nothing : goal.returns-clause-onto_nothing
returns-clause-onto_nothing c =
    λ empty.
    c.take_in.ensures
    ∙ ap (λ (here : Pending). merged here (pending_view c.args.other)) (c.make_room.ensures.same ∙ empty)
    ∙ nothing-merged (pending_view c.args.other)
