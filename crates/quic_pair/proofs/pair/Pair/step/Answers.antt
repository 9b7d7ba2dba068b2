use Rattle.std.proofs.Common.{◌≡◌, true, false, Err, sym, ◌∙◌, ◌++◌, ◌∷◌, []}
use Rattle.std.proofs.Math.Logic.{∥∥₁_elim, ∥∥₁_map}
use Rattle.std.specs.Prelude.{◌&&◌, is_some}
use Rattle.quic_steps.specs.declared.steps.PairError.TheVariants.{Undecided}
use Rattle.quic_pair.specs.Ends.{ends_view}
use Rattle.quic_pair.specs.Reached.{IsReached}
use Rattle.quic_pair.specs.Shown.{pair_view}
use Rattle.quic_pair.proofs.Honest.{honest-reached, honest-once, consistent-once}
use Rattle.quic_exchange.specs.Steps.{Next, needs_decision}
use Rattle.quic_exchange.specs.From.{next}
use Rattle.quic_exchange.proofs.Leads.{next-refused, next-taken, stays-led}
use Rattle.quic_exchange.proofs.Network.{changes-network}
use Rattle.quic_exchange.proofs.Runs.{promises-led}
use Rattle.quic_pair.proofs.pair.Pair.step.Goals as goal

-- a step that has to wait is refused
pub returns-then-must_wait : goal.returns-then-must_wait
unfolding pair_view
returns-then-must_wait c =
    let old = ends_view c.args.self.now.ends in
    let e : (is_some old.waits && needs_decision c.args.step) ≡ true = sym c.must_wait.ensures ∙ c.if-must_wait.true in
    let n : Next old c.args.step (Err Undecided) old = next-refused old c.args.step e in
    record {
      next = n;
      promises = λ s h f. promises-led s h old old c.args.step (Err Undecided) f n;
      unchanged = λ r. stays-led old old c.args.step (Err Undecided) n r;
      network = changes-network old old c.args.step (Err Undecided) n;
    }

pub dispatch-requires : goal.dispatch-requires
unfolding pair_view
dispatch-requires c =
    let ends = c.args.self.now.ends in
    let sound = c.args.self.now.sound in
    record {
      sound = ∥∥₁_elim sound (consistent-once ends) (λ (s : IsReached ends). s.consistent);
      decided = sym c.must_wait.ensures ∙ c.if-must_wait.false;
      honest = ∥∥₁_elim sound (honest-once (ends_view ends)) (λ (s : IsReached ends). honest-reached (ends_view ends) s.reached);
    }

pub invariant_of-self : goal.invariant_of-self
unfolding pair_view
invariant_of-self c =
    let old = ends_view c.args.self.now.ends in
    let new = ends_view c.dispatch.new.self in
    let e : (is_some old.waits && needs_decision c.args.step) ≡ false = sym c.must_wait.ensures ∙ c.if-must_wait.false in
    let n : Next old c.args.step c.dispatch.result new = next-taken old new c.args.step c.dispatch.result e c.dispatch.ensures.next in
    record {
      sound = ∥∥₁_map c.args.self.now.sound (λ (s : IsReached c.args.self.now.ends). record {
        reached = (s.reached.0, s.reached.1 ++ (c.args.step, c.dispatch.result) ∷ [], next c.args.step c.dispatch.result s.reached.2 n);
        consistent = c.dispatch.ensures.sound;
      });
    }

pub returns : goal.returns
unfolding pair_view
returns c =
    let old = ends_view c.args.self.now.ends in
    let new = ends_view c.dispatch.new.self in
    let e : (is_some old.waits && needs_decision c.args.step) ≡ false = sym c.must_wait.ensures ∙ c.if-must_wait.false in
    let n : Next old c.args.step c.dispatch.result new = next-taken old new c.args.step c.dispatch.result e c.dispatch.ensures.next in
    record {
      next = n;
      promises = λ s h f. promises-led s h old new c.args.step c.dispatch.result f n;
      unchanged = λ r. stays-led old new c.args.step c.dispatch.result n r;
      network = changes-network old new c.args.step c.dispatch.result n;
    }
