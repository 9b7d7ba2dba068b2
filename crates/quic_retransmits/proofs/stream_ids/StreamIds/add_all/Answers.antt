use Rattle.std.proofs.Common.{◌∙◌, ℕ, Bool, ap}
use Rattle.quic_retransmits.specs.Ids.{has_own_place, is_in_ids, is_in_table}
use Rattle.quic_retransmits.proofs.Sets.{either, with_both, without_more}
use Rattle.quic_retransmits.proofs.stream_ids.StreamIds.add_all.Goals as goal

pub returns-in-Some : goal.returns-in-Some
returns-in-Some c =
    c.add_others.ensures
    ∙ ap (λ (more : ℕ → Bool). either (is_in_ids c.add_first.new.self) more) c.in-Some.ensures.same
    ∙ ap (λ (ids : ℕ → Bool). either ids (is_in_table c.args.more.now.others)) c.add_first.ensures.set
    ∙ with_both (is_in_ids c.args.self.now) c.args.more.now.first (is_in_table c.args.more.now.others)

pub returns-in_default : goal.returns-in_default
returns-in_default c =
    c.add_first.ensures.set
    ∙ without_more (either (is_in_ids c.args.self.now) (has_own_place c.args.more.now.first)) (is_in_table c.args.more.now.others) c.in_default.ensures.none
    ∙ with_both (is_in_ids c.args.self.now) c.args.more.now.first (is_in_table c.args.more.now.others)
