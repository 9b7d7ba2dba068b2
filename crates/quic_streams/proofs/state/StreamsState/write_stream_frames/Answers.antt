use Rattle.std.proofs.Common.{subst, sym}
use Rattle.quic_history.specs.World.{World}
use Rattle.quic_streams.specs.Shown.{streams_view}
use Rattle.quic_streams.specs.Transmitting.{GoesOnWithTurns, told_bytes}
use Rattle.quic_streams.proofs.TurnRuns.{turns-from, written-from}
use Rattle.quic_streams.proofs.state.StreamsState.write_stream_frames.Goals as goal

pub returns-clause-from : goal.returns-clause-from
unfolding streams_view
returns-clause-from c =
    let w = streams_view c.args.self.now in
    let P : World → Type 0 = λ x. GoesOnWithTurns c.args.max_buf_size c.args.fair c.args.sent.now.items c.write_streams.new.sent.items w x in
    subst P (sym c.write_streams.ensures.writes.others) (turns-from w c.write_streams.ensures.writes.turns)

pub returns-clause-carries : goal.returns-clause-carries
returns-clause-carries c = λ m h f. c.write_streams.ensures.text (told_bytes m h) (written-from m h (streams_view c.args.self.now) f)
