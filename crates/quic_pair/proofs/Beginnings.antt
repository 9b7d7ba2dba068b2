-- Pairs that are made.
use Rattle.std.proofs.Common.{◌≡◌, ℕ, ◌≤◌, ◌^◌, true, false, List, [], Option, Some, None, refl, sym, ap, ◌∙◌, arith}
use Rattle.std.specs.Prelude.{◌&&◌, nat_le}
use Rattle.std.proofs.lemmas.Option.{none-some, same_Some}
use Rattle.std.proofs.lemmas.Bool.Decides.{nat_tests}
use Rattle.quic_outgoing.specs.declared.limits.PeerLimits.{PeerLimits}
use Rattle.quic_session.specs.Params.{are_stream_limits}
use Rattle.quic_exchange.specs.declared.early.EarlyLimits.{EarlyLimits}
use Rattle.quic_pair.specs.Ends.{AreStreamLimits}

le-true : (a b : ℕ) → a ≤ b → nat_le a b ≡ true
le-true a b h = grind (arith, nat_tests)

pub few-so : (p : PeerLimits) → p.initial_max_streams_bidi ≤ 2 ^ 60 → p.initial_max_streams_uni ≤ 2 ^ 60 → are_stream_limits p ≡ true
few-so p bidi uni = ap (λ t. t && nat_le p.initial_max_streams_uni (2 ^ 60)) (le-true p.initial_max_streams_bidi (2 ^ 60) bidi) ∙ le-true p.initial_max_streams_uni (2 ^ 60) uni

pub none-waits-so : AreStreamLimits None
none-waits-so k e = absurd (none-some k e)

pub waits-so : (waits : EarlyLimits) → are_stream_limits waits.others ≡ true → AreStreamLimits (Some waits)
waits-so waits few k e = ap (λ (x : EarlyLimits). are_stream_limits x.others) (sym (same_Some waits k e)) ∙ few
