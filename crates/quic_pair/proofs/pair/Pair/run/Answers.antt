use Rattle.std.proofs.Common.{arith, rules, sym, ◌∙◌}
use Rattle.std.proofs.lemmas.List.{length_push, map-id}
use Rattle.std.proofs.lemmas.Iterator.Adapters.{YieldsList-from_vec}
use Rattle.std.proofs.lemmas.Iterator.Consumers.{YieldsList-end}
use Rattle.quic_exchange.specs.Runs.{none}
use Rattle.quic_exchange.proofs.Runs.{steps-more, from-steps, holds-led, each-promises, each-stays, each-network}
use Rattle.quic_pair.proofs.pair.Pair.run.Goals as goal

pub loop-step-init : goal.loop-step-init
loop-step-init c = record { taken = none; count = search rules; room = search rules }

pub loop-step-preserved : goal.loop-step-preserved
loop-step-preserved c = record {
  taken = steps-more _ _ _ _ _ (sym c.loop-step.replies.ok.0 ∙ c.loop-step.invariant.count) c.in-Ok.ensures.items c.loop-step.invariant.taken c.step-reply.ensures.next;
  count = omega (arith, c.in-Ok.ensures.len, length_push c.loop-step.yielded c.in-Some.step);
  room = omega (arith, c.push.ensures.capacity);
}

pub returns : goal.returns
returns c =
    let gave = c.into_iter-step-iterator.ensures.into_iter_gives in
    let all = YieldsList-end (YieldsList-from_vec c.args.steps.items gave.0 (gave.1 ∙ c.args.steps.ok.0)) c.loop-step.yielded c.loop-step.step-iterator c.loop-step.yielded_by c.next.result c.next.new.self c.in-None.is c.next.ensures.steps in
    rw (← all.0)
    (rw map-id
    (record {
      count = sym c.loop-step.replies.ok.0 ∙ c.loop-step.invariant.count;
      next = c.loop-step.invariant.taken;
      promises = λ s h f. each-promises s h _ _ _ f c.loop-step.invariant.taken;
      behind = λ s h f. holds-led (from-steps f c.loop-step.invariant.taken);
      unchanged = each-stays _ _ _ c.loop-step.invariant.taken;
      network = each-network _ _ _ c.loop-step.invariant.taken;
      err = tt;
    }))
