use Rattle.streampair.proofs.session.answer_step.Goals as goal

pub returns : goal.returns
returns c = record {
  reply = c.step-answer.result;
  next = c.step-answer.ensures.next;
  text_is = c.in_ok-line.ensures;
}
