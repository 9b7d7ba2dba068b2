use Rattle.std.proofs.Common.{◌∙◌, ℕ, Bool, ap}
use Rattle.std.specs.Prelude.{◌||◌}
use Rattle.quic_retransmits.specs.Ids.{is_in_ids}
use Rattle.quic_retransmits.proofs.stream_ids.StreamIds.copy.Goals as goal

pub returns : goal.returns
returns c = c.add_all.ensures ∙ ap (λ (ids : ℕ → Bool). λ (id : ℕ). ids id || is_in_ids c.args.self.now id) (c.reserve.ensures.same ∙ c.new-copy.ensures)
