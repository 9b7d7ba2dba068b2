-- The theorem of what counts as consumed.
use Rattle.quic_progress.proofs.Settled.{forgets-agreed}
use Rattle.quic_progress.proofs.ResetsArrive.{resets-arrive}
use Rattle.quic_progress.proofs.Consumed.{consumed-all}
use Rattle.quic_progress.proofs.settled_ends_consume_all.Goals as goal

pub returns : goal.returns
returns c = λ s h v led none idle settled read t told.
    let agreed = forgets-agreed s h v none in
    consumed-all s h v led agreed idle settled read (resets-arrive s h v led agreed idle settled) none t told
