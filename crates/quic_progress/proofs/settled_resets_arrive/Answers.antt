-- The theorem of resets that arrive.
use Rattle.quic_progress.proofs.ResetsArrive.{resets-arrive}
use Rattle.quic_progress.proofs.settled_resets_arrive.Goals as goal

pub returns : goal.returns
returns c = λ s h v led agreed idle settled. resets-arrive s h v led agreed idle settled
