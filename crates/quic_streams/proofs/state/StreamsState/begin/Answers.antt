use Rattle.quic_streams.specs.Shown.{streams_view}
use Rattle.quic_streams.proofs.InPlace.{begins_at}
use Rattle.quic_streams.proofs.state.StreamsState.begin.Goals as goal

pub returns-clause-begins : goal.returns-clause-begins
returns-clause-begins c =
    let a = c.ask_in_place in
    begins_at (streams_view c.args.self.now) (streams_view c.make_stream_room.new.self) (streams_view a.new.self) c.args.id c.args.ordered a.result c.make_stream_room.ensures.same a.ensures.asks a.ensures.halves
