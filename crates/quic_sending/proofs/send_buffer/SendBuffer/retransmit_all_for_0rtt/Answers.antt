use Rattle.std.proofs.Common.{rules, refl}
use Rattle.quic_sending.proofs.Sound.{IsSound-unsent}
use Rattle.quic_sending.proofs.send_buffer.SendBuffer.retransmit_all_for_0rtt.Goals as goal

pub invariant_of-self : goal.invariant_of-self
invariant_of-self c = rw c.lose_nothing.ensures (IsSound-unsent _ _ c.self.invariant (λ n. search rules) (λ n. refl))

pub returns-clause-sound : goal.returns-clause-sound
returns-clause-sound c = invariant_of-self c
