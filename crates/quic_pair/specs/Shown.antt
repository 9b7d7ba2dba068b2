-- What contracts see of a pair.
use Rattle.quic_exchange.specs.State.{PairState}
use Rattle.quic_pair.specs.Ends.{ends_view}
use Rattle.quic_pair.specs.declared.pair.Pair.{Pair}

-- what a pair is, as contracts see it
unfoldable pub pair_view : Pair → PairState
pair_view p = ends_view p.ends
