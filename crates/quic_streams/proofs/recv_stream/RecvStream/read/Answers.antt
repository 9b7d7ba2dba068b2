use Rattle.std.proofs.Common.{Ok, rules}
use Rattle.quic_streams.specs.Shown.{streams_view}
use Rattle.quic_history.specs.History.{Began}
use Rattle.quic_history.proofs.Histories.{next}
use Rattle.quic_streams.proofs.recv_stream.RecvStream.read.Goals as goal

pub returns-clause-from : goal.returns-clause-from
returns-clause-from c = λ m h f.
    next m h (streams_view c.args.self.now.state.now) (Began c.args.self.now.id c.args.ordered (Ok tt)) (streams_view c.new.result.streams.now) tt f (search rules)
