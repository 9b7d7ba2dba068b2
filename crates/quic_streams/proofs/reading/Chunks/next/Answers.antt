use Rattle.std.proofs.Common.{rules}
use Rattle.quic_streams.specs.Shown.{streams_view}
use Rattle.quic_history.proofs.Histories.{next-answer, next-told}
use Rattle.quic_streams.proofs.reading.Chunks.next.Goals as goal

pub returns-clause-from : goal.returns-clause-from
returns-clause-from c = λ m h f.
    next-answer m h c.args.self.now.progress (streams_view c.args.self.now.streams.now) (streams_view c.read_half-answer.new.self) c.args.self.now.id c.args.max_length c.args.self.now.ordered
    c.read_half-answer.result (search rules) f c.read_half-answer.ensures.reads

pub returns-then-is_ended-clause-from : goal.returns-then-is_ended-clause-from
returns-then-is_ended-clause-from c = λ m h f.
    next-told m h c.args.self.now.progress (streams_view c.args.self.now.streams.now) c.args.self.now.id c.args.max_length c.args.self.now.ordered c.last_answer.result (search rules) f
