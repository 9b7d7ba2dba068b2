-- Pairs that steps lead to.
use Rattle.quic_exchange.specs.State.{PairState}
use Rattle.quic_exchange.specs.History.{History}
use Rattle.quic_exchange.specs.From.{Beginning, PairFrom}
use Rattle.quic_pair.specs.declared.ends.Ends.{Ends}
use Rattle.quic_pair.specs.Ends.{ends_view, AreConsistent}

-- steps lead to it from a beginning
abbrev pub WasReached : PairState → Type 0
WasReached v = (s : Beginning) × (h : History) × PairFrom s h v

-- what holds of the ends of a pair between steps
pub record IsReached (e : Ends) : Type 0 where
  pub reached : WasReached (ends_view e)
  pub consistent : AreConsistent e
