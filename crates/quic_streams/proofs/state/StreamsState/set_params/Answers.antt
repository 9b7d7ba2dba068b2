use Rattle.quic_streams.specs.Shown.{streams_view}
use Rattle.quic_history.specs.History.{Sending}
use Rattle.quic_history.specs.SendEvents.{GaveLimits}
use Rattle.quic_history.proofs.Histories.{next}
use Rattle.quic_streams.proofs.state.StreamsState.set_params.Goals as goal

pub returns-clause-from : goal.returns-clause-from
returns-clause-from c = λ m h f.
    next m h (streams_view c.args.self.now) (Sending (GaveLimits c.args.params.now c.take_params.result)) (streams_view c.take_params.new.self) tt f c.take_params.ensures.takes
