-- The theorem of two ends that settled, whatever came of an early start.
use Rattle.quic_progress.proofs.Settled.{know-most}
use Rattle.quic_progress.proofs.agreed_ends_know_most.Goals as goal

pub returns : goal.returns
returns c = λ s h v led agreed idle settled t told. know-most s h v led idle settled t told agreed
