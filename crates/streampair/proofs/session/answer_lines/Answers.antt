use Rattle.streampair.proofs.Serving.{end_ok, end_err, end_unwritten, end_unflushed}
use Rattle.streampair.proofs.session.answer_lines.Goals as goal

pub returns-in_err-write_last_line-clause-stops : goal.returns-in_err-write_last_line-clause-stops
returns-in_err-write_last_line-clause-stops g c =
    let E = g.E.Environment in
    end_unwritten (E.unread c.args.environment.now) (E.written c.args.environment.now) (E.written c.answer_all-ended.new.environment) (E.written c.write_last_line.new.environment) c.answer_all-ended.result c.from_residual.result c.from_residual.ensures.1 c.answer_all-ended.ensures.ok c.answer_all-ended.ensures.stops c.in_err-write_last_line.ensures.part

pub returns-in_err-flush-clause-stops : goal.returns-in_err-flush-clause-stops
returns-in_err-flush-clause-stops g c =
    let E = g.E.Environment in
    end_unflushed (E.unread c.args.environment.now) (E.written c.args.environment.now) (E.written c.answer_all-ended.new.environment) (E.written c.write_last_line.new.environment) (E.written c.flush.new.self) c.answer_all-ended.result c.from_residual-in_err-flush.result c.from_residual-in_err-flush.ensures.1 c.answer_all-ended.ensures.ok c.answer_all-ended.ensures.stops c.in_ok-write_last_line.ensures.whole c.flush.ensures.written

pub returns-clause-served : goal.returns-clause-served
returns-clause-served g c =
    let E = g.E.Environment in
    end_ok (E.unread c.args.environment.now) (E.written c.args.environment.now) (E.written c.answer_all-ended.new.environment) (E.written c.write_last_line.new.environment) (E.written c.flush.new.self) c.answer_all-ended.result c.answer_all-ended.ensures.ok c.in_ok-write_last_line.ensures.whole c.flush.ensures.written

pub returns-clause-stops : goal.returns-clause-stops
returns-clause-stops g c =
    let E = g.E.Environment in
    end_err (E.unread c.args.environment.now) (E.written c.args.environment.now) (E.written c.answer_all-ended.new.environment) (E.written c.write_last_line.new.environment) (E.written c.flush.new.self) c.answer_all-ended.result c.answer_all-ended.ensures.stops c.in_ok-write_last_line.ensures.whole c.flush.ensures.written
