-- An end as contracts see it.
use Rattle.quic_streams.specs.Shown.{streams_view}
use Rattle.quic_retransmits.specs.Pending.{pending_view}
use Rattle.quic_endpoint.specs.Ends.{EndState}
use Rattle.quic_endpoint.specs.declared.endpoint.Endpoint.{Endpoint}

unfoldable pub endpoint_view : Endpoint → EndState
endpoint_view e = record { streams = streams_view e.streams; pending = pending_view e.pending }
