-- The theorem of streams of which all was read.
use Rattle.quic_progress.proofs.Rooms.{have-room}
use Rattle.quic_progress.proofs.read_streams_have_room.Goals as goal

pub returns : goal.returns
returns c = λ s h v led agreed idle settled read t told. have-room s h v led agreed idle settled read t told
