-- What is lent to be changed.
use Rattle.std.specs.Prelude.{◌≡◌, Result, Some}
use Rattle.std.specs.Borrow.{LendsSoOk, MutBor, Fml}
use Rattle.quic_values.specs.declared.memory.OutOfMemory.{OutOfMemory}
use Rattle.quic_retransmits.specs.declared.retransmits.Retransmits.{Retransmits}
use Rattle.quic_retransmits.specs.declared.retransmits.ThinRetransmits.{ThinRetransmits}
use Rattle.quic_retransmits.specs.contracts.retransmits.Retransmits.{the_row}
use Rattle.quic_retransmits.specs.contracts.retransmits.ThinRetransmits.{the_row as thin_row}
use Rattle.quic_retransmits.specs.Pending.{pending_view, thin_view}

-- what is to be sent is in the end what was left behind the result. Without one it is as it was
abbrev pub LendsPending : MutBor ThinRetransmits → Result (MutBor Retransmits) OutOfMemory → Fml
LendsPending s r = LendsSoOk thin_row the_row s r (λ n w. thin_view n ≡ Some (pending_view w)) (λ n. thin_view n ≡ thin_view s.now)
