use Rattle.quic_streams.specs.Shown.{streams_view}
use Rattle.quic_history.specs.History.{Ended}
use Rattle.quic_history.proofs.Histories.{next}
use Rattle.quic_streams.proofs.reading.Chunks.finalize.Goals as goal

pub returns-clause-from : goal.returns-clause-from
returns-clause-from c = λ m h f fits.
    next m h (streams_view c.args.self.streams.now) (Ended c.args.self.id c.args.self.read) (streams_view c.finish.new.streams) fits f c.finish.ensures.streams
