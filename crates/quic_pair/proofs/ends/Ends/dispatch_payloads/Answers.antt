use Rattle.std.proofs.Common.{◌≡◌, Option, Some, None, true, false, refl}
use Rattle.std.specs.Prelude.{◌&&◌, is_some}
use Rattle.quic_exchange.specs.declared.early.EarlyLimits.{EarlyLimits}
use Rattle.quic_pair.proofs.ends.Ends.dispatch_payloads.Goals as goal

none-of : (w : Option EarlyLimits) → (is_some w && true) ≡ false → w ≡ None
none-of None e = refl
none-of (Some k) e = cc

-- no frame is handed over before the decision
pub deliver-requires-clause-honest : goal.deliver-requires-clause-honest
deliver-requires-clause-honest c = c.requires.honest (none-of c.args.self.now.waits (rw c.in-Deliver.is at c.requires.decided))
