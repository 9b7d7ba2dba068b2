-- The theorem of what counts as consumed, whatever came of an early start.
use Rattle.quic_progress.proofs.Consumed.{consumed-most}
use Rattle.quic_progress.proofs.ResetsArrive.{resets-arrive}
use Rattle.quic_progress.proofs.agreed_ends_consume_most.Goals as goal

pub returns : goal.returns
returns c = λ s h v led agreed idle settled read t told. consumed-most s h v led agreed idle settled read (resets-arrive s h v led agreed idle settled) t told
