-- The theorem of two ends that settled.
use Rattle.quic_progress.proofs.Settled.{know-limits}
use Rattle.quic_progress.proofs.settled_ends_know_limits.Goals as goal

pub returns : goal.returns
returns c = λ s h v led none idle settled t told. know-limits s h v led idle settled t told none
