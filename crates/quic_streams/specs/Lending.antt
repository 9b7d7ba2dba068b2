-- What becomes of streams of which the state was lent.
use Rattle.std.specs.Prelude.{[]}
use Rattle.std.specs.Borrow.{Lends, MutBor, Fml}
use Rattle.quic_streams.specs.declared.state.StreamsState.{StreamsState}
use Rattle.quic_streams.specs.declared.streams.Streams.{Streams}
use Rattle.quic_streams.specs.contracts.state.StreamsState.{the_row as state_row}
use Rattle.quic_streams.specs.contracts.streams.Streams.{the_row}
use mir.Syntax.{named}

-- the streams with another state
abbrev pub with_state : Streams → StreamsState → Streams
with_state s x = record s { state = record s.state { now = x } }

-- the streams end with the state that is left behind r
abbrev pub LendsState : MutBor Streams → MutBor StreamsState → Fml
LendsState s r = Lends (the_row (record { mir = named 1; lft = [] })) state_row s r (with_state s.now)
