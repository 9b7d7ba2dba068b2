use Rattle.std.proofs.Common.{◌∙◌, ap}
use Rattle.std.proofs.lemmas.Result.{IfOk-weaker}
use Rattle.quic_exchange.specs.History.{History}
use Rattle.streampair.specs.Session.{settlement_text}
use Rattle.streampair.proofs.session.settle_lines.Goals as goal

pub returns : goal.returns
returns c = IfOk-weaker c.settled_text.result _ _ (λ text e. record {
  taken = c.settle-taken.result.0.items;
  answer = c.settle-taken.result.1;
  next = c.settle-taken.ensures.next;
  order = c.settle-taken.ensures.order;
  cut_off = c.settle-taken.ensures.cut_off;
  undecided = c.settle-taken.ensures.undecided;
  only = c.settle-taken.ensures.only;
  completes = c.settle-taken.ensures.completes;
  text_is = e ∙ ap (λ (xs : History). settlement_text xs c.settle-taken.result.1) c.as_slice.ensures.value;
}) c.settled_text.ensures
