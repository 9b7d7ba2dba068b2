use Rattle.std.proofs.Common.{◌≡◌, ◌++◌, [], ◌∷◌, length, Option, None, Result, Ok, Err, ap, sym, subst, ◌∙◌, inl, inr, arith}
use Rattle.quic_values.specs.declared.memory.OutOfMemory.{OutOfMemory}
use Rattle.quic_steps.specs.declared.steps.Step.{Step}
use Rattle.quic_exchange.specs.declared.phase.Phase.{Phase}
use Rattle.quic_pair.specs.Shown.{pair_view}
use Rattle.std.specs.Prelude.{◌&&◌, is_some, MatchBool}
use Rattle.quic_steps.specs.declared.steps.PairError.TheVariants.{Undecided}
use Rattle.quic_exchange.specs.declared.early.EarlyLimits.{EarlyLimits}
use Rattle.quic_exchange.specs.Replies.{Answer}
use Rattle.quic_exchange.specs.State.{PairState}
use Rattle.quic_exchange.specs.Steps.{Next, NextTaken, needs_decision}
use Rattle.quic_exchange.specs.Settling.{phase_after, is_quiet_at}
use Rattle.quic_pair.proofs.pair.Pair.take.Goals as goal

ok_same : (x y : Phase) → ◌≡◌ {A = Result Phase OutOfMemory} (Ok x) (Ok y) → x ≡ y
ok_same x y e = cc

ok_err : (x : Phase) (y : OutOfMemory) → ◌≡◌ {A = Result Phase OutOfMemory} (Ok x) (Err y) → ⊥
ok_err x y e = cc

err_ok : (x : OutOfMemory) (y : Phase) → ◌≡◌ {A = Result Phase OutOfMemory} (Err x) (Ok y) → ⊥
err_ok x y e = cc

-- where nothing is to be decided, each step is taken
taken-of : (old new : PairState) (step : Step) (reply : Answer) → old.waits ≡ None → Next old step reply new → NextTaken old step reply new
taken-of old new step reply e n =
    let P : Option EarlyLimits → Type 0 = λ w. MatchBool (is_some w && needs_decision step) ((reply ≡ Err Undecided) × (new ≡ old)) (NextTaken old step reply new) in
    subst P e n

pub returns-in-Some : goal.returns-in-Some
unfolding pair_view
returns-in-Some c =
    let reply = c.step-reply.result in
    let P : Step → Type 0 = λ s. NextTaken (pair_view c.args.self.now) s reply (pair_view c.step-reply.new.self) in
    let size : c.count-sent.result ≡ length (pair_view c.args.self.now).sent = c.count-sent.ensures in
    record {
      takes = inl (record {
        reply = reply;
        next = subst P c.step.ensures (taken-of (pair_view c.args.self.now) (pair_view c.step-reply.new.self) c.step.result reply c.requires c.step-reply.ensures.next);
        noted = c.note.ensures ∙ ap (λ l. l ++ (c.step-2.result, reply) ∷ []) c.in_ok-reserve.ensures.items ∙ ap (λ s. c.args.taken.now.items ++ (s, reply) ∷ []) c.step-2.ensures;
        goes = λ next_one e. (
          c.in-Some.going,
          sym c.going_of-going.ensures ∙ c.in-Some.is,
          sym (ok_same c.after.result next_one e) ∙ c.after.ensures ∙ ap (phase_after c.args.phase c.in-Some.going c.count-sent.result) c.is_quiet.ensures
              ∙ ap (λ n. phase_after c.args.phase c.in-Some.going n (is_quiet_at (pair_view c.step-reply.new.self).sent n)) size,
        );
        wanting = λ error e. absurd (ok_err _ error e);
      });
      memory = tt;
    }

pub returns-in-None : goal.returns-in-None
unfolding pair_view
returns-in-None c =
    let reply = c.step-reply.result in
    let P : Step → Type 0 = λ s. NextTaken (pair_view c.args.self.now) s reply (pair_view c.step-reply.new.self) in
    record {
      takes = inl (record {
        reply = reply;
        next = subst P c.step.ensures (taken-of (pair_view c.args.self.now) (pair_view c.step-reply.new.self) c.step.result reply c.requires c.step-reply.ensures.next);
        noted = c.note.ensures ∙ ap (λ l. l ++ (c.step-2.result, reply) ∷ []) c.in_ok-reserve.ensures.items ∙ ap (λ s. c.args.taken.now.items ++ (s, reply) ∷ []) c.step-2.ensures;
        goes = λ next_one e. absurd (err_ok _ next_one e);
        wanting = λ error e. sym c.going_of-going.ensures ∙ c.in-None.is;
      });
      memory = inr (c.args.taken.now.items, c.step-2.result, reply, c.note.ensures ∙ ap (λ l. l ++ (c.step-2.result, reply) ∷ []) c.in_ok-reserve.ensures.items, sym c.going_of-going.ensures ∙ c.in-None.is);
    }
