use Rattle.std.proofs.Common.{◌≡◌, ◌++◌, [], None, true, false, refl, sym, ap, ◌∙◌, inl, inr, subst}
use Rattle.std.specs.Prelude.{is_some}
use Rattle.quic_exchange.specs.State.{PairState}
use Rattle.quic_pair.specs.Shown.{pair_view}
use Rattle.quic_exchange.specs.History.{History}
use Rattle.quic_exchange.specs.Runs.{TakesSteps, none}
use Rattle.quic_exchange.proofs.Runs.{from-steps, holds-led, each-promises, each-stays, each-network}
use Rattle.quic_exchange.proofs.Completes.{steps-decided, none-waits, completes-led}
use Rattle.quic_pair.proofs.pair.Pair.settle.Goals as goal

pub settle_into-requires-clause-decided : goal.settle_into-requires-clause-decided
unfolding pair_view
settle_into-requires-clause-decided c = none-waits (pair_view c.args.self.now).waits (sym c.is_some.ensures ∙ c.if-is_some.false)

-- it is not decided
pub returns-then-is_some : goal.returns-then-is_some
unfolding pair_view
returns-then-is_some c =
    let v : PairState = pair_view c.args.self.now in
    let taken : History = c.new-taken.result.items in
    let empty : taken ≡ [] = c.new-taken.ensures.items in
    let P : History → Type 0 = λ l. TakesSteps v l v in
    let run : TakesSteps v taken v = subst P (sym empty) none in
    record {
      next = run;
      promises = λ s h f. each-promises s h v taken v f run;
      behind = λ s h f. holds-led (from-steps f run);
      unchanged = each-stays v taken v run;
      network = each-network v taken v run;
      order = tt;
      decided = tt;
      completes = tt;
      cut_off = λ e. cc;
      memory = λ e. cc;
      waiting = λ e. refl;
      undecided = λ e. record { waits = sym c.is_some.ensures ∙ c.if-is_some.true; taken_is = empty; same = refl };
      only = inr refl;
    }

pub returns-in-Err : goal.returns-in-Err
unfolding pair_view
returns-in-Err c =
    let v : PairState = pair_view c.args.self.now in
    let w : PairState = pair_view c.settle_into.new.self in
    let taken : History = c.settle_into.new.taken.items in
    let before : v.waits ≡ None = none-waits v.waits (sym c.is_some.ensures ∙ c.if-is_some.false) in
    let run : TakesSteps v taken w = (steps-decided v taken w before c.settle_into.ensures.next).0 in
    record {
      next = run;
      promises = λ s h f. each-promises s h v taken w f run;
      behind = λ s h f. holds-led (from-steps f run);
      unchanged = each-stays v taken w run;
      network = each-network v taken w run;
      order = tt;
      decided = tt;
      completes = tt;
      cut_off = λ e. rw c.in-Err.is at c.settle_into.ensures.cut_off;
      memory = λ e. rw c.in-Err.is at c.settle_into.ensures.memory;
      waiting = λ e. let both : true ≡ false = sym e ∙ ap is_some before in cc;
      undecided = λ e. cc;
      only = inl refl;
    }

pub returns-in-Ok : goal.returns-in-Ok
unfolding pair_view
returns-in-Ok c =
    let v : PairState = pair_view c.args.self.now in
    let w : PairState = pair_view c.settle_into.new.self in
    let taken : History = c.settle_into.new.taken.items in
    let before : v.waits ≡ None = none-waits v.waits (sym c.is_some.ensures ∙ c.if-is_some.false) in
    let steps = steps-decided v taken w before c.settle_into.ensures.next in
    let run : TakesSteps v taken w = steps.0 in
    let settling = rw c.in-Ok.is at c.settle_into.ensures.order in
    let settled = rw c.in-Ok.is at c.settle_into.ensures.settled in
    record {
      next = run;
      promises = λ s h f. each-promises s h v taken w f run;
      behind = λ s h f. holds-led (from-steps f run);
      unchanged = each-stays v taken w run;
      network = each-network v taken w run;
      order = settling;
      decided = before;
      completes = λ s h f. completes-led s h v taken w f before steps.1 settling settled;
      cut_off = λ e. cc;
      memory = λ e. cc;
      waiting = λ e. let both : true ≡ false = sym e ∙ ap is_some before in cc;
      undecided = λ e. cc;
      only = tt;
    }
