-- Whether a connection is closed.
use Rattle.std.specs.Prelude.{Bool, true, false}
use Rattle.quic_streams.specs.declared.streams.ConnState.{ConnState}
use Rattle.quic_streams.specs.declared.streams.ConnState.TheVariants.{Open, Closed}

-- whether nothing more is opened or written
abbrev pub is_shut : ConnState → Bool
is_shut Open = false
is_shut Closed = true
