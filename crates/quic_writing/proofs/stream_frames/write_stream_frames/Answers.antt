use Rattle.quic_writing.proofs.Frames.{appends-turns}
use Rattle.quic_writing.proofs.stream_frames.write_stream_frames.Goals as goal

pub returns-clause-text : goal.returns-clause-text
returns-clause-text c = λ written are. appends-turns written c.take_turns.ensures.turns are
