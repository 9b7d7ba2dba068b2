use Rattle.std.proofs.Common.{◌≡◌, ◌∙◌, ℕ, Bool, true, subst, sym}
use Rattle.quic_streams.specs.Waiting.{TellsAny}
use Rattle.quic_streams.proofs.pending.any_elsewhere.Goals as goal

pub returns-in-Some : goal.returns-in-Some
returns-in-Some g c = λ p tells. subst (λ (ids : ℕ → Bool). TellsAny ids p c.any_other.result) c.in-Some.ensures.same (c.any_other.ensures p tells)

pub returns-in-None : goal.returns-in-None
returns-in-None g c = λ p tells id there. let absent = sym (c.in-None.ensures.none id) ∙ there in cc
