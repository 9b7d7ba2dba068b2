-- What the ends of a pair are made with.
use Rattle.std.proofs.Common.{◌≡◌, ℕ, Bool, refl}
use Rattle.quic_values.specs.declared.ids.Side.{Side}
use Rattle.quic_limits.specs.Credit.{Credit}
use Rattle.quic_limits.specs.Remote.{Remote}
use Rattle.quic_outgoing.specs.declared.limits.PeerLimits.{PeerLimits}
use Rattle.quic_history.specs.World.{Made}

-- what an end is made with, but for its side, and the limits that it is given first
pub record Origin : Type 0 where
  pub uni : Remote
  pub bi : Remote
  pub send_window : ℕ
  pub credit : Credit
  pub window : ℕ
  pub adjusted : Bool
  pub limits : PeerLimits

abbrev pub made_in : Side → Origin → Made
made_in side o = record { side = side; uni = o.uni; bi = o.bi; send_window = o.send_window; credit = o.credit; window = o.window; adjusted = o.adjusted }

abbrev pub origin_of : Made → PeerLimits → Origin
origin_of m limits = record { uni = m.uni; bi = m.bi; send_window = m.send_window; credit = m.credit; window = m.window; adjusted = m.adjusted; limits = limits }

-- an end of that side was made with it
pub made-so : (side : Side) (m : Made) (limits : PeerLimits) → m.side ≡ side → made_in side (origin_of m limits) ≡ m
made-so side m limits e = rw (← e) refl
