use Rattle.quic_streams.specs.Connection.{is_shut}
use Rattle.quic_streams.specs.Shown.{streams_view}
use Rattle.quic_history.specs.History.{Sending}
use Rattle.quic_history.specs.SendEvents.{OpenedOwn}
use Rattle.quic_history.proofs.Histories.{next}
use Rattle.quic_streams.proofs.streams.Streams.open.Goals as goal

pub returns-clause-from : goal.returns-clause-from
returns-clause-from c = λ m h f.
    let e = Sending (OpenedOwn c.args.dir (is_shut c.args.self.now.conn) c.open.result) in
    next m h (streams_view c.args.self.now.state.now) e (streams_view c.open.new.self) tt f c.open.ensures
