use Rattle.std.proofs.Common.{◌≡◌, ◌∙◌, ℕ, true, List, Option, Some, None, refl, ap}
use Rattle.std.specs.Prelude.{slice_get, option_map, unwrap_or}
use Rattle.quic_exchange.specs.Sent.{Sent}
use Rattle.quic_exchange.specs.Unsettled.{is_quiet}
use Rattle.quic_exchange.specs.Settling.{is_quiet_at}
use Rattle.quic_pair.specs.Ends.{ends_view}
use Rattle.quic_pair.specs.Reporting.{rest_in}
use Rattle.quic_pair.specs.Shown.{pair_view}
use Rattle.quic_pair.proofs.pair.Pair.is_quiet.Goals as goal

quiet_in : (o : Option Sent) → is_quiet (rest_in o) ≡ unwrap_or (option_map (λ (s : Sent). is_quiet s.unsettled.rest) o) true
quiet_in None = refl
quiet_in (Some s) = refl

pub returns : goal.returns
unfolding pair_view
returns c = c.is_quiet.ensures ∙ ap is_quiet c.rest.ensures ∙ quiet_in (slice_get (ends_view c.args.self.now.ends).sent c.args.payload)
