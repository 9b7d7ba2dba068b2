-- The theorem of send windows.
use Rattle.quic_progress.proofs.Windows.{are-free}
use Rattle.quic_progress.proofs.send_windows_are_free.Goals as goal

pub returns : goal.returns
returns c = λ s h v led acked t told. are-free s h v led acked t told
