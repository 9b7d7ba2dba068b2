-- What was noted of payloads, one after another.
use Rattle.std.proofs.Common.{◌≡◌, List, [], ◌∷◌, ◌++◌, Option, Some, None, false, refl}
use Rattle.std.specs.Prelude.{is_none}
use Rattle.quic_retransmits.specs.Pending.{Pending}
use Rattle.quic_exchange.specs.Sent.{Sent}
use Rattle.quic_exchange.specs.Gone.{with_noted, with_all_noted}

pub noted-behind : (sent : List Sent) (p : Pending) (s : Sent) → with_all_noted p (sent ++ s ∷ []) ≡ with_noted (with_all_noted p sent) s.unsettled.rest
noted-behind [] p s = refl
noted-behind (x ∷ xs) p s = noted-behind xs (with_noted p x.unsettled.rest) s

-- what is not nothing is something
pub waiting-of : {X : Type 0} (o : Option X) → is_none o ≡ false → (k : X) × (o ≡ Some k)
waiting-of None e = cc
waiting-of (Some k) e = (k, refl)
