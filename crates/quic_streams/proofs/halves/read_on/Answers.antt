use Rattle.quic_streams.proofs.InPlace.{new-blocked}
use Rattle.quic_streams.proofs.halves.read_on.Goals as goal

pub returns-in-None-clause-reads : goal.returns-in-None-clause-reads
returns-in-None-clause-reads c = λ window. rw c.in-None.is (new-blocked window c.args.max_length)
