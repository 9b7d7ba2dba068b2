use Rattle.quic_retransmits.specs.Pending.{pending_view}
use Rattle.quic_retransmits.specs.Settling.{entry_count}
use Rattle.quic_streams.specs.Shown.{streams_view}
use Rattle.quic_streams.specs.Payload.{sheet_of, SettlesSome}
use Rattle.quic_streams.proofs.state.StreamsState.write_kind.Given as goal

abbrev pub invariant-loop-self : goal.invariant-loop-self
invariant-loop-self l = SettlesSome l.kind l.max_size (record { end = streams_view l.initial.self; pending = pending_view l.initial.pending; sheet = sheet_of l.initial.payload l.initial.stats }) (record { end = streams_view l.self; pending = pending_view l.pending; sheet = sheet_of l.payload l.stats })

abbrev pub decreases-loop-self : goal.decreases-loop-self
decreases-loop-self l = entry_count l.pending
