use Rattle.std.proofs.Common.{sym, ◌∙◌}
use Rattle.quic_queue.proofs.Lines.{any_here, any_later}
use Rattle.quic_queue.proofs.queue.any_at.Goals as goal

pub returns-then-any_in : goal.returns-then-any_in
returns-then-any_in g c = λ p tells.
    let passes = sym (c.any_in.ensures p tells) ∙ c.if-any_in.true in
    sym (any_here p (c.in-Some.field-0-0.now, c.in-Some.ids.now) c.loop-ids.ids-iterator c.next.new.self c.in-Some.ensures.steps passes)
    ∙ c.loop-ids.invariant.3 p tells

pub loop-ids-preserved : goal.loop-ids-preserved
loop-ids-preserved g c = (
  c.loop-ids.invariant.0,
  tt,
  tt,
  λ p tells.
      let fails = sym (c.any_in.ensures p tells) ∙ c.if-any_in.false in
      sym (any_later p (c.in-Some.field-0-0.now, c.in-Some.ids.now) c.loop-ids.ids-iterator c.next.new.self c.in-Some.ensures.steps fails)
      ∙ c.loop-ids.invariant.3 p tells,
)
